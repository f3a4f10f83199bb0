-- Calls on a range of pages, in the page map's words.
--     IsRangeCall      what the page map makes of the range and the space of a call
--     range_sees      the rows of its cover are those of a range
--     out_is, in_is, unmap_is, protect_is, given_is, txn_is, fixed_is      each such call
use Rattle.std.specs.Prelude.{◌≡◌, ℕ, ◌/◌, ◌&&◌, Bool, true, false, List, is_some, Some}
use Rattle.std.proofs.Common.{refl, ◌∙◌, ap, subst}
use Rattle.corten_base.specs.declared.calls.Call.{Call}
use Rattle.corten_base.specs.declared.calls.Call.TheVariants as call
use Rattle.corten_base.specs.declared.calls.TxnOp.{TxnOp}
use Rattle.corten_base.specs.declared.calls.Reply.TheVariants as reply
use Rattle.corten_base.specs.declared.permissions.Perm.{Perm}
use Rattle.corten_base.specs.declared.calls.Backing.{Backing}
use Rattle.page_map.specs.Mapping.{is_mappable}
use Rattle.page_map.specs.Effect.{space_of}
use Rattle.page_map.specs.State.{State, levels}
use Rattle.page_map.specs.Step.{arguments, refused_unless}
use Rattle.table_place.specs.Place.{is_page_range, pages_of}
use Rattle.tree_lock.specs.declared.zone.Zone.TheVariants as zone
use Rattle.machine_plan.specs.declared.kit.Kit.{Kit}
use Rattle.machine_plan.specs.Books.{BookData, state_of}
use Rattle.machine_plan.specs.Cover.{HasCover}
use Rattle.machine_plan.specs.Held.{ListHolds}
use Rattle.machine_plan.specs.HeldRows.{Row}
use Rattle.machine_plan.specs.Kits.{IsServed}
use Rattle.machine_plan.specs.Uses.{zone_of}
use Rattle.counted_pages.specs.Pages.{CountedPage}
use Rattle.range_cursor.specs.Drawing.{DrawsPages}
use Rattle.range_cursor.specs.PageRanges.{SeesRange}
use Rattle.range_cursor.specs.Mapped.{fixed}
use Rattle.range_cursor.specs.Plans.{is_fork, IsPlannable}

pub record IsRangeCall (st : State) (thread : ℕ) (c : Call) (space at len : ℕ) (strict : Bool) : Type 0 where
  pub zone_is : zone_of thread c ≡ zone.Pages space (at / 4096) (pages_of len) strict
  pub space_is : space_of c ≡ Some space
  pub arguments_are : arguments st c ≡ refused_unless (is_page_range (levels st) at len) reply.Einval
  pub no_fork : is_fork c ≡ false
  pub served : IsServed c

pub range_sees : (b : BookData) (thread : ℕ) (c : Call) (depth space at len : ℕ) (strict : Bool) (files : List (List ℕ)) (rows : List Row) (kit : Kit) → IsRangeCall (state_of b) thread c space at len strict → IsPlannable b thread c depth files rows kit
    → SeesRange (state_of b) depth space at len strict rows
range_sees b thread c depth space at len strict files rows kit is may = record {
  consistent = may.consistent;
  same_levels = may.same_levels;
  shown = may.shown;
  cover = λ right. subst (λ z. HasCover z (state_of b) (ListHolds rows)) is.zone_is
      (may.cover (ap is_some (is.arguments_are ∙ ap (λ r. refused_unless r reply.Einval) (ap (λ l. is_page_range l at len) may.same_levels ∙ right))));
  one_space = may.one_space space is.space_is;
}

pub out_is : (st : State) (thread space at len : ℕ) → IsRangeCall st thread (call.SwapOut space at len) space at len false
out_is st thread space at len = record { zone_is = refl; space_is = refl; arguments_are = refl; no_fork = refl; served = tt }

pub in_is : (st : State) (thread space at len : ℕ) → IsRangeCall st thread (call.SwapIn space at len) space at len false
in_is st thread space at len = record { zone_is = refl; space_is = refl; arguments_are = refl; no_fork = refl; served = tt }

pub unmap_is : (st : State) (thread space at len : ℕ) → IsRangeCall st thread (call.Unmap space at len) space at len true
unmap_is st thread space at len = record { zone_is = refl; space_is = refl; arguments_are = refl; no_fork = refl; served = tt }

pub protect_is : (st : State) (thread space at len : ℕ) (perm : Perm) → IsRangeCall st thread (call.Protect space at len perm) space at len false
protect_is st thread space at len perm = record { zone_is = refl; space_is = refl; arguments_are = refl; no_fork = refl; served = tt }

pub given_is : (st : State) (thread space at len : ℕ) → IsRangeCall st thread (call.DontNeed space at len) space at len false
given_is st thread space at len = record { zone_is = refl; space_is = refl; arguments_are = refl; no_fork = refl; served = tt }

pub txn_is : (st : State) (thread space at len : ℕ) (ops : List TxnOp) → IsRangeCall st thread (call.Txn space at len ops) space at len false
txn_is st thread space at len ops = record { zone_is = refl; space_is = refl; arguments_are = refl; no_fork = refl; served = tt }

-- a mapping at an address, whose length and backing are right
pub fixed_is : (st : State) (thread space at : ℕ) (fresh : Bool) (len : ℕ) (perm : Perm) (what : Backing) → is_mappable (levels st) st.files len what ≡ true → IsRangeCall st thread (call.Map space (fixed fresh at) len perm what) space at len false
fixed_is st thread space at true len perm what right =
    record { zone_is = refl; space_is = refl; arguments_are = ap (λ m. refused_unless (m && is_page_range (levels st) at len) reply.Einval) right; no_fork = refl; served = tt }
fixed_is st thread space at false len perm what right =
    record { zone_is = refl; space_is = refl; arguments_are = ap (λ m. refused_unless (m && is_page_range (levels st) at len) reply.Einval) right; no_fork = refl; served = tt }

-- the same pages by other numbers
pub draws_at : {s s' first first' n n' : ℕ} {rows rows' : List Row} {frames slots : List (ℕ × CountedPage)} → s ≡ s' → first ≡ first' → n ≡ n' → DrawsPages s first n rows rows' frames slots → DrawsPages s' first' n' rows rows' frames slots
draws_at {s' = s'} {first = first} {first' = first'} {n = n} {rows = rows} {rows' = rows'} {frames = frames} {slots = slots} a b c draws =
    subst (λ x. DrawsPages s' first' x rows rows' frames slots) c (subst (λ x. DrawsPages s' x n rows rows' frames slots) b (subst (λ x. DrawsPages x first n rows rows' frames slots) a draws))
