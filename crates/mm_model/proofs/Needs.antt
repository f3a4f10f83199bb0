-- What a mapping operation lacks, from the pages that it changes.
use Rattle.std.proofs.Common.{◌≡◌, ℕ, Bool, true, false, not, ◌&&◌, List, [], ◌∷◌, length, refl, sym, ap, ◌∙◌, arith}
use Rattle.std.specs.Prelude.{Option, Some, None, IfSome, IfNone}
use mathlib.Core.Bool.{true≢false}
use Rattle.std.specs.FinMap.{get}
use Rattle.std.specs.FinSet as set
use Rattle.std.specs.FinSet.{same_set, contains-empty, contains-difference, contains-from_list, len-empty}
use Rattle.corten_base.specs.declared.calls.TxnOp.TheVariants as op
use Rattle.table_place.specs.declared.Place.{Place}
use Rattle.corten_base.specs.declared.calls.TxnOp.{TxnOp}
use Rattle.table_place.specs.Place.{place_cmp}
use Rattle.table_place.specs.Range.{within}
use Rattle.page_map.specs.Cutting.{Changes}
use Rattle.page_map.specs.Mapping.{after_op, is_right}
use Rattle.page_map.specs.State.{State, IsConsistent, levels, space_at}
use Rattle.page_map.specs.Tables.{Tables, missing}
use Rattle.page_map.proofs.Mappings.{right_over}
use Rattle.page_map.proofs.NeedLaws.{missing_cut}
use Rattle.page_map.proofs.Places.{place_total, place_exact}
use Rattle.page_map.proofs.TablesAfter.{put_in_first, unmapped_unwanted}
use Rattle.page_map.proofs.Wanted.{is_wanted}
use Rattle.page_map.proofs.NeedOf.{op_lack, op_lacks_none}
use Rattle.plain_counts.specs.Cut.{IsShort}
use Rattle.plain_counts.specs.Levels.{Lists}
use Rattle.plain_counts.specs.declared.cut.Pages.{Pages}
use Rattle.txn_plan.specs.Needs.{range_of}
use Rattle.txn_plan.proofs.Rights.{in_span}
use Rattle.mm_model.specs.Operations.{after_operation, cut_in, given_up_by, wanted_by}

pub changed_missing : (st : State) (space : ℕ) (o : TxnOp) → IsConsistent st → (changed : Option Pages) →
    IfSome changed (λ pages. Changes (space_at st space) (after_op o (space_at st space)) pages.first pages.count) →
    IfNone changed ((q : ℕ) → within (range_of o).first (range_of o).count q ≡ true → get (after_op o (space_at st space)) q ≡ get (space_at st space) q) →
    missing (cut_in (levels st) space changed) st.tables ≡ missing (wanted_by st space o) st.tables
changed_missing st space o ok (Some pages) change none = sym (op_lack st space o pages.first pages.count ok change)
changed_missing st space o ok None change none = sym (op_lacks_none st space o ok none)

pub short_range : (st : State) (o : TxnOp) → IsConsistent st → is_right (levels st) st.files o ≡ true → IsShort (range_of o)
short_range st o ok right = let span = in_span (levels st) st.files o ok.few_levels right in record { some = span.some; fits = span.high }

-- where no table is missing that the range cuts, none is lacked
pub none_lacked : (st : State) (space : ℕ) (o : TxnOp) → IsConsistent st → is_right (levels st) st.files o ≡ true →
    (found : List Place) → length found ≡ 0 → Lists (missing (cut_in (levels st) space (Some (range_of o))) st.tables) found → Lists (missing (wanted_by st space o) st.tables) found
none_lacked st space o ok right (p ∷ found) none lists = absurd (omega (arith, none))
none_lacked st space o ok right [] none lists = record { same = sym nothing; once = sym (ap set.len nothing ∙ len-empty place_cmp) }
  where
    is_in : Place → Bool
    is_in p = set.contains (set.from_list {R = place_cmp} (wanted_by st space o)) p

    uncut : (p : Place) → set.contains (set.from_list {R = place_cmp} (cut_in (levels st) space (Some (range_of o)))) p ≡ true → set.contains st.tables p ≡ false → ⊥
    uncut p cut gone = true≢false (
        sym (contains-difference place_total (set.from_list (cut_in (levels st) space (Some (range_of o)))) st.tables p ∙ (λ i. cut i && not (gone i)))
        ∙ sym (ap (λ s. set.contains s p) lists.same) ∙ contains-empty place_cmp p)

    neither : (p : Place) (w t : Bool) → is_in p ≡ w → set.contains st.tables p ≡ t → (w && not t) ≡ false
    neither p true false wanted gone =
        let over = right_over (levels st) st.files o ok.few_levels right in
        absurd (uncut p (missing_cut st space ok o p over.user over.some wanted gone) gone)
    neither p true true wanted there = refl
    neither p false t unwanted there = refl

    nothing : missing (wanted_by st space o) st.tables ≡ set.empty
    nothing = same_set place_total place_exact _ _ (λ p.
        contains-difference place_total (set.from_list (wanted_by st space o)) st.tables p
        ∙ neither p (is_in p) (set.contains st.tables p) refl refl
        ∙ sym (contains-empty place_cmp p))

-- the tables that come are put in before those that are given up go, of which none is wanted
module _ (st : State) (space : ℕ) (o : TxnOp) where
  unwanted : (o : TxnOp) (p : Place) → given_up_by (levels st) space o p ≡ true → is_wanted (wanted_by st space o) p ≡ false
  unwanted (op.Unmap at len) p h = unmapped_unwanted (levels st) space at len (space_at st space) p h
  unwanted (op.Map at fresh len perm what) p h = absurd (true≢false (sym h))
  unwanted (op.Protect at len perm) p h = absurd (true≢false (sym h))

  pub tables_operated : (tables : Tables) → tables ≡ set.union st.tables (set.from_list (wanted_by st space o)) →
      set.retain tables (λ p. not (given_up_by (levels st) space o p)) ≡ (after_operation st space o).tables
  tables_operated tables put =
      ap (λ s. set.retain s (λ p. not (given_up_by (levels st) space o p))) put
      ∙ put_in_first (given_up_by (levels st) space o) st.tables (set.from_list (wanted_by st space o)) (λ p h. stay p (sym (contains-from_list place_total (wanted_by st space o) p) ∙ h) (given_up_by (levels st) space o p) refl)
    where
      stay : (p : Place) → is_wanted (wanted_by st space o) p ≡ true → (b : Bool) → given_up_by (levels st) space o p ≡ b → given_up_by (levels st) space o p ≡ false
      stay p h false e = e
      stay p h true e = absurd (true≢false (sym h ∙ unwanted o p e))
