-- What operations make of one page's reference.
--     IsSameRef, kept_ref      a page that has a number after them had it before, with its bytes
--     clean_parts      a page that none of them names stays
use Rattle.std.specs.Prelude.{◌≡◌, ℕ, ◌-◌, not, Bool, true, false, cond, List, [], ◌∷◌, map, Option, Some, None}
use Rattle.std.proofs.Common.{sym, refl, ◌∙◌, ap}
use Rattle.std.proofs.lemmas.Bool.{true≢false, and_parts}
use Rattle.corten_base.specs.declared.permissions.Perm.{Perm}
use Rattle.corten_base.specs.declared.calls.Backing.{Backing}
use Rattle.corten_base.specs.declared.calls.Backing.TheVariants as backing
use Rattle.corten_base.specs.declared.calls.TxnOp.{TxnOp}
use Rattle.corten_base.specs.declared.calls.TxnOp.TheVariants as op
use Rattle.page_map.specs.declared.cell.Cell.{Cell as PageCell}
use Rattle.page_map.specs.declared.cell.Cell.TheVariants.{Anon, File, Mapped, Swapped}
use Rattle.page_map.specs.Cell.{backed, contents, frame_of, slot_of, with_perm}
use Rattle.page_map.specs.Mapping.{op_first, op_pages}
use Rattle.page_map.proofs.Alike.{has_no_number}
use Rattle.table_place.specs.Range.{within}
use Rattle.machine_plan.specs.declared.kit.Change.TheVariants.{Op}
use Rattle.cursor_apply.specs.Changed.{all_clean, clean, op_making}
use Rattle.cursor_apply.specs.Changing.{page_made}
use Rattle.cursor_apply.proofs.TxnSteps.{after_at}

pub record IsSameRef (y z : PageCell) : Type 0 where
  pub frame : frame_of y ≡ frame_of z
  pub slot : slot_of y ≡ slot_of z
  pub bytes : contents [] y ≡ contents [] z

with_same : (new : Perm) (z : PageCell) → IsSameRef (with_perm new z) z
with_same new (Anon perm) = record { frame = refl; slot = refl; bytes = refl }
with_same new (File perm file index) = record { frame = refl; slot = refl; bytes = refl }
with_same new (Mapped perm origin frame bytes) = record { frame = refl; slot = refl; bytes = refl }
with_same new (Swapped perm origin slot bytes) = record { frame = refl; slot = refl; bytes = refl }

backed_plain : (what : Backing) (perm : Perm) (i : ℕ) → has_no_number (Some (backed what perm i)) ≡ true
backed_plain backing.Zero perm i = refl
backed_plain (backing.File file index) perm i = refl

abbrev pub HadRef : Option PageCell → PageCell → Type 0
HadRef x y = (z : PageCell) × (x ≡ Some z) × IsSameRef y z

one_kept : (o : TxnOp) (behind : ℕ) (x : Option PageCell) (y : PageCell) → page_made (op_making o) behind x ≡ Some y → has_no_number (Some y) ≡ false → HadRef x y
one_kept (op.Map at fresh len perm what) behind x y e numbered = absurd (true≢false (sym (backed_plain what perm behind) ∙ (ap has_no_number e ∙ numbered)))
one_kept (op.Unmap at len) behind x y e numbered = absurd (cc)
one_kept (op.Protect at len perm) behind None y e numbered = absurd (cc)
one_kept (op.Protect at len perm) behind (Some z) y e numbered =
    let same : with_perm perm z ≡ y = (let both : Some (with_perm perm z) ≡ Some y = e in cc) in
    let kept = with_same perm z in
    (z, refl, record { frame = ap frame_of (sym same) ∙ kept.frame; slot = ap slot_of (sym same) ∙ kept.slot; bytes = ap (contents []) (sym same) ∙ kept.bytes })

numbered_too : (y z : PageCell) → IsSameRef y z → has_no_number (Some y) ≡ false → has_no_number (Some z) ≡ false
numbered_too y (Mapped perm origin frame bytes) same numbered = refl
numbered_too y (Swapped perm origin slot bytes) same numbered = refl
numbered_too (Anon p) (Anon perm) same numbered = absurd (true≢false numbered)
numbered_too (File p f i) (Anon perm) same numbered = absurd (true≢false numbered)
numbered_too (Mapped p o f bs) (Anon perm) same numbered = absurd (let e = same.frame in cc)
numbered_too (Swapped p o f bs) (Anon perm) same numbered = absurd (let e = same.slot in cc)
numbered_too (Anon p) (File perm file index) same numbered = absurd (true≢false numbered)
numbered_too (File p f i) (File perm file index) same numbered = absurd (true≢false numbered)
numbered_too (Mapped p o f bs) (File perm file index) same numbered = absurd (let e = same.frame in cc)
numbered_too (Swapped p o f bs) (File perm file index) same numbered = absurd (let e = same.slot in cc)

pub kept_ref : (os : List TxnOp) (page : ℕ) (x : Option PageCell) (y : PageCell) → after_at os page x ≡ Some y → has_no_number (Some y) ≡ false → HadRef x y
kept_ref [] page x y e numbered = (y, e, record { frame = refl; slot = refl; bytes = refl })
kept_ref (o ∷ os) page x y e numbered =
    let later = kept_ref os page (cond (within (op_first o) (op_pages o) page) (page_made (op_making o) (page - op_first o) x) x) y e numbered in
    go (within (op_first o) (op_pages o) page) later.0 later.1 later.2
  where
    go : (t : Bool) (z : PageCell) → cond t (page_made (op_making o) (page - op_first o) x) x ≡ Some z → IsSameRef y z → (w : PageCell) × (x ≡ Some w) × IsSameRef y w
    go true z e same =
        let first = one_kept o (page - op_first o) x z e (numbered_too y z same numbered) in
        (first.0, first.1, record { frame = same.frame ∙ first.2.frame; slot = same.slot ∙ first.2.slot; bytes = same.bytes ∙ first.2.bytes })
    go false z e same = (z, e, same)

pub clean_parts : (os : List TxnOp) (f : ℕ → Bool) (page : ℕ) → all_clean (map Op os) f page ≡ true → (f page ≡ true) × ((x : Option PageCell) → after_at os page x ≡ x)
clean_parts [] f page e = (e, λ x. refl)
clean_parts (o ∷ os) f page e =
    let rest = clean_parts os (clean (op_first o) (op_pages o) f) page e in
    let both = and_parts (f page) (not (within (op_first o) (op_pages o) page)) rest.0 in
    (both.0, λ x. ap (after_at os page) (off x (within (op_first o) (op_pages o) page) both.1) ∙ rest.1 x)
  where
    off : (x : Option PageCell) (t : Bool) → not t ≡ true → cond t (page_made (op_making o) (page - op_first o) x) x ≡ x
    off x true h = absurd (true≢false (sym h))
    off x false h = refl
