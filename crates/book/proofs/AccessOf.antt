-- An access of a book by what clauses see of it.
use Rattle.std.proofs.Common.{◌≡◌, ℕ, true, length, refl, sym, subst}
use Rattle.std.specs.Prelude.{None}
use Rattle.corten_base.specs.declared.calls.Call.{Call}
use Rattle.page_map.specs.Step.{refusal}
use Rattle.machine_plan.specs.declared.kit.Kit.{Kit}
use Rattle.machine_plan.specs.Books.{BookData, state_of, RowSum}
use Rattle.machine_plan.specs.Kits.{IsFilled}
use Rattle.machine_plan.specs.Whole.{IsBook}
use Rattle.book.specs.Touching.{is_access, IsAccess}

pub access_of : (a now : BookData) → a ≡ now → (thread : ℕ) (c : Call) (kit : Kit) → IsBook a → RowSum now → IsFilled now thread c kit → refusal (state_of now) thread c (length now.limbo) ≡ None → is_access c ≡ true → IsAccess a thread a.frames a.slots a.files c kit
access_of a now same thread c kit is sum filled none access = record {
  same_pool = refl;
  same_area = refl;
  same_files = refl;
  book = is;
  sum = subst (λ (x : BookData). RowSum x) (sym same) sum;
  filled = subst (λ (x : BookData). IsFilled x thread c kit) (sym same) filled;
  accepted = subst (λ (x : BookData). refusal (state_of x) thread c (length x.limbo) ≡ None) (sym same) none;
  access = access;
}
