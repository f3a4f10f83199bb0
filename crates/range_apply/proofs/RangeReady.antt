-- Once its tables are linked, what a call that changes pages of one range left may be changed.
--     range_ready      where all its granted rows are linked
--     all_stand, unsplit_ready      where it was granted none
use Rattle.std.specs.Prelude.{◌≡◌, ℕ, Bool, true, false, List, [], length, Some}
use Rattle.std.specs.FinSet as set
use Rattle.std.proofs.Common.{refl, ap, arith}
use Rattle.corten_base.specs.declared.calls.Call.{Call}
use Rattle.page_map.specs.Effect.{space_of}
use Rattle.row_cells.specs.declared.Cell.{Cell}
use Rattle.row_table.specs.declared.view.PassView.{PassView}
use Rattle.table_place.specs.declared.Place.{Place}
use Rattle.machine_plan.specs.declared.kit.Kit.{Kit}
use Rattle.machine_plan.specs.Books.{BookData, state_of}
use Rattle.machine_plan.specs.HeldRows.{Row, AreOf}
use Rattle.machine_plan.proofs.Whole.{book_is_consistent}
use Rattle.cursor_apply.specs.Applying.{IsApplicable}
use Rattle.cursor_apply.specs.Linking.{IsLinkable, LinkedSoFar}
use Rattle.range_apply.specs.Ranging.{IsRangeApplicable, IsRangedIn}
use Rattle.cursor_apply.specs.Staging.{Staged}
use Rattle.cursor_apply.proofs.Begun.{was_committed}
use Rattle.cursor_apply.proofs.StagedCells.{one_fewer}
use Rattle.cursor_apply.proofs.StagedStart.{started, ended}

module _ {B E : Type 0} (a b : BookData) (thread : ℕ) (c : Call) (v : PassView (List Cell) B E) (rows : List Row) (kit : Kit) (ready : IsApplicable a b thread c v rows kit) (done : kit.done ≡ true) (space : ℕ) (is : IsRangedIn thread space c) where
  pub range_ready : (w : PassView (List Cell) B E) (rows' : List Row) → Staged a b thread c kit v w rows rows' → ((s : ℕ) → space_of c ≡ Some s → AreOf s rows') → IsRangeApplicable a b thread c w rows' kit
  range_ready w rows' staged of_space = record {
    small = is.small;
    ranged = is.ranged;
    consistent = (book_is_consistent a ready.books.0, ready.consistent);
    books = ready.books;
    exact = staged.exact;
    staged = staged.staged;
    given = staged.given;
    hand = (ap (λ (u : PassView (List Cell) B E). u.hand) staged.view, ap (λ (u : PassView (List Cell) B E). u.core.granted) staged.view);
    one_space = of_space;
    answered = ready.answered;
    same_kit = ready.same_kit;
    committed = was_committed a b thread c v rows kit ready done;
    done = done;
    room = ready.room;
  }

  module _ (further : IsLinkable a b thread c v rows kit) (none : kit.rows.items ≡ []) where
    first : LinkedSoFar a b thread c kit 0 v rows v rows
    first = started a b thread c v rows kit ready done further

    all_stand : (so : LinkedSoFar a b thread c kit 0 v rows v rows) (p : Place) → set.contains (state_of b).tables p ≡ true → set.contains so.tables p ≡ true
    all_stand so p there = go (set.contains so.tables p) refl
      where
        go : (t : Bool) → set.contains so.tables p ≡ t → set.contains so.tables p ≡ true
        go true e = e
        go false e =
            let fewer = one_fewer so.tables p (state_of b).tables there e in
            let missing = so.missing in
            let few = ap length none in
            absurd (omega (arith, fewer, missing, few))

    pub unsplit_ready : IsRangeApplicable a b thread c v rows kit
    unsplit_ready = range_ready v rows (ended a b thread c kit 0 v rows v rows first (all_stand first)) ready.one_space
