-- What a pass holds at the give of what it held of a cover.
--     IsRemoved      a position that is a table before and none after
--     Removes      a step removes positions that have a page of the zone, and none that may cover it
--     Leaves      the rows that are left of those that the pass held, and their links
--     LeavesCover      then the region of the pass confines the step
--     StepRemoves      the step of each call that is not refused removes so
--     CommitFollows      what a give after a commit asks of the book
use Rattle.std.specs.Prelude.{◌≡◌, ℕ, ◌<◌, ◌≤◌, true, false, List, [], ◌∷◌, ◌++◌, map, slice_index, None}
use Rattle.std.specs.List.{Contains}
use Rattle.std.specs.FinSet as set
use Rattle.corten_base.specs.declared.calls.Call.{Call}
use Rattle.corten_base.specs.declared.calls.Entry.{Entry}
use Rattle.page_map.specs.Cell.{frame_of, slot_of}
use Rattle.page_map.specs.State.{State, IsConsistent, levels}
use Rattle.page_map.specs.Step.{refusal, step}
use Rattle.row_cells.specs.declared.Cell.{Cell}
use Rattle.row_table.specs.declared.view.PassView.{PassView}
use Rattle.row_table.specs.declared.view.HeldRow.{HeldRow as KnownRow}
use Rattle.row_table.specs.Books.{region}
use Rattle.row_table.specs.Moves.{NotInHand}
use Rattle.row_table.specs.Rule.{row_part}
use Rattle.table_place.specs.declared.Place.{Place}
use Rattle.tree_lock.specs.declared.zone.Zone.{Zone}
use Rattle.tree_lock.specs.Zone.{Meets, Spans}
use Rattle.tree_lock.specs.Linked.{ShowsCover}
use Rattle.walk_core.specs.Words.{is_link}
use Rattle.machine_plan.specs.Agrees.{below, IsTableOf}
use Rattle.machine_plan.specs.Books.{BookData, state_of}
use Rattle.machine_plan.specs.Cover.{View, HeldAgree, HasLevelsOf}
use Rattle.machine_plan.specs.Follows.{Follows, IsFixed}
use Rattle.machine_plan.specs.Kits.{IsUsed, KeepsOthers}
use Rattle.machine_plan.specs.Local.{Confines, CountsAre}
use Rattle.machine_plan.specs.Uses.{zone_of}

abbrev pub IsRemoved : State → State → Place → Type 0
IsRemoved st now p = (set.contains st.tables p ≡ true) × (set.contains now.tables p ≡ false)

pub record Removes (zone : Zone) (st now : State) : Type 0 where
  pub meets : (p : Place) → IsRemoved st now p → Meets zone p
  pub no_top : (p : Place) → IsRemoved st now p → ¬ Spans zone p

abbrev pub StepRemoves : Type 0
StepRemoves = (st : State) (thread : ℕ) (c : Call) (limbo : ℕ) → IsConsistent st → refusal st thread c limbo ≡ None → Removes (zone_of thread c) st (step st thread c limbo).1

module _ {B E : Type 0} where
  -- Each held row whose position is a table still is held, and no other; what is a link of it was one, and leads to a table. The
  -- pass is of the same table.
  pub record Leaves (now : State) (v w : PassView (List Cell) B E) : Type 0 where
    pub left : (h : KnownRow (List Cell)) → Contains v.rows h → IsTableOf now h.place → (k : KnownRow (List Cell)) × Contains w.rows k × NotInHand w k.row × (k.row ≡ h.row) × (k.place ≡ h.place)
    pub only : (k : KnownRow (List Cell)) → Contains w.rows k → IsTableOf now k.place
    pub links : (k : KnownRow (List Cell)) (index : ℕ) → Contains w.rows k → index < 512 → is_link (slice_index k.words index) ≡ true → set.contains now.tables (below (levels now) k.place index) ≡ true
    pub came : (k : KnownRow (List Cell)) (index : ℕ) → Contains w.rows k → index < 512 → is_link (slice_index k.words index) ≡ true
        → (h : KnownRow (List Cell)) × Contains v.rows h × (h.place ≡ k.place) × (slice_index h.words index ≡ slice_index k.words index)
    pub held : map row_part w.rows ≡ w.core.held
    pub layout : w.layout ≡ v.layout

abbrev pub LeavesCover : Type 0
LeavesCover = (zone : Zone) (a b : BookData) (v w : View) → IsConsistent (state_of a) → IsConsistent (state_of b) → HasLevelsOf a v → HasLevelsOf b v → HeldAgree a v → ShowsCover v.layout zone v
    → Removes zone (state_of a) (state_of b) → Leaves (state_of b) v w → Confines zone (region w) a b

-- The book after a commit that was accepted, its positions detached, may follow the one that the turn found.
abbrev pub CommitFollows : Type 0
CommitFollows = (a b : BookData) (thread : ℕ) (c : Call) (limbo : ℕ) (entry : Entry) (v w : View) → thread < 8 → IsConsistent (state_of a) → HasLevelsOf a v → HeldAgree a v → ShowsCover v.layout (zone_of thread c) v
    → refusal (state_of a) thread c limbo ≡ None → state_of b ≡ (step (state_of a) thread c limbo).1 → Leaves (state_of b) v w
    → CountsAre a → CountsAre b → KeepsOthers a.frames b.frames (IsUsed (state_of a) thread c frame_of) → KeepsOthers a.slots b.slots (IsUsed (state_of a) thread c slot_of)
    → b.journal ≡ a.journal ++ entry ∷ [] → a.next_generation ≤ b.next_generation → IsFixed a b → Follows (region w) a b
