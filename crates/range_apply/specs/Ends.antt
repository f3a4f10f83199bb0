-- The ends of a range: whether a call changes the page there, and the tables above it that are missing where it does.
--     mark_page      what a mark says of a page so far behind the first one of its span
--     IsLeft      a change leaves a page below such a mark
--     IsCellLeft, IsLeftAt      below the entry of a row that has the page;  of the lowest row of a list
--     IsEndLevel      the level down to which the tables above a page are wanted
--     IsBroken      an edge cuts the table of a level that has it
--     MayLinkEnd      the tables above a page at an edge of a range that the edge cuts: none is removed, and a missing one is wanted where the page changes
--     ReachesEnd      those that are new are in the list
--     CanLinkEnd, LinksMoreEnd      for some call, and for each such call
--     MayLinkEnds, CanLinkEnds, LinksEnds      the same, above both ends, from no row linked on
use Rattle.std.specs.Prelude.{◌≡◌, ℕ, ◌+◌, ◌-◌, ◌*◌, ◌/◌, ◌%◌, ◌^◌, ◌<◌, ◌≤◌, ◌↔◌, Bool, true, false, IsTrue, List, slice_get, slice_index_or, Option, Some, None}
use Rattle.std.specs.FinSet as set
use Rattle.corten_base.specs.declared.permissions.Perm.{Perm}
use Rattle.corten_base.specs.declared.calls.Backing.{Backing}
use Rattle.corten_base.specs.declared.calls.Backing.TheVariants as backing
use Rattle.corten_base.specs.declared.calls.Call.{Call}
use Rattle.page_map.specs.declared.cell.Cell.{Cell as PageCell}
use Rattle.page_map.specs.declared.cell.Cell.TheVariants as page
use Rattle.page_map.specs.State.{levels, cell_at}
use Rattle.row_cells.specs.declared.Cell.{Cell}
use Rattle.row_cells.specs.declared.Cell.TheVariants.{Invalid, Table, Anon, File, Mapped, Swapped}
use Rattle.row_table.specs.declared.view.PassView.{PassView}
use Rattle.table_place.specs.Place.{index_at, place_of}
use Rattle.machine_plan.specs.declared.kit.Kit.{Kit}
use Rattle.machine_plan.specs.Books.{BookData, state_of}
use Rattle.machine_plan.specs.Given.{IsRemoved}
use Rattle.machine_plan.specs.Held.{ListHolds}
use Rattle.machine_plan.specs.HeldRows.{Row}
use Rattle.cursor_apply.specs.declared.becoming.Making.{Making}
use Rattle.cursor_apply.specs.declared.becoming.Making.TheVariants.{Back, Clear, Permit, GiveBack}
use Rattle.cursor_apply.specs.declared.becoming.RangeChange.{RangeChange}
use Rattle.cursor_apply.specs.Changing.{page_made, IsNearIn}
use Rattle.cursor_apply.specs.Linking.{IsLinking, IsLow, IsLowestAt, LinkedSoFar, MayLinkPage}

abbrev pub mark_page : Cell → ℕ → Option PageCell
mark_page Invalid offset = None
mark_page (Anon perm) offset = Some (page.Anon perm)
mark_page (File perm file index) offset = Some (page.File perm file (index + offset))
mark_page Table offset = None
mark_page (Mapped perm origin frame) offset = None
mark_page (Swapped perm origin slot) offset = None

abbrev pub IsFileOn : ℕ → ℕ → ℕ → Backing → ℕ → Type 0
IsFileOn file index offset backing.Zero behind = ⊥
IsFileOn file index offset (backing.File mapped first) behind = (file ≡ mapped) × (index + offset ≡ first + behind)

abbrev pub IsZero : Backing → Type 0
IsZero backing.Zero = Unit {0}
IsZero (backing.File file index) = ⊥

abbrev pub IsMarkOn : Cell → ℕ → Perm → Backing → ℕ → Type 0
IsMarkOn (Anon now) offset perm what behind = (now ≡ perm) × IsZero what
IsMarkOn (File now file index) offset perm what behind = (now ≡ perm) × IsFileOn file index offset what behind
IsMarkOn Invalid offset perm what behind = ⊥
IsMarkOn Table offset perm what behind = ⊥
IsMarkOn (Mapped now origin frame) offset perm what behind = ⊥
IsMarkOn (Swapped now origin slot) offset perm what behind = ⊥

abbrev pub IsNothing : Cell → Type 0
IsNothing Invalid = Unit {0}
IsNothing Table = ⊥
IsNothing (Anon now) = ⊥
IsNothing (File now file index) = ⊥
IsNothing (Mapped now origin frame) = ⊥
IsNothing (Swapped now origin slot) = ⊥

abbrev pub HasPerm : Cell → Perm → Type 0
HasPerm Invalid perm = Unit {0}
HasPerm Table perm = Unit {0}
HasPerm (Anon now) perm = now ≡ perm
HasPerm (File now file index) perm = now ≡ perm
HasPerm (Mapped now origin frame) perm = now ≡ perm
HasPerm (Swapped now origin slot) perm = now ≡ perm

abbrev pub IsLeft : Making → ℕ → ℕ → Cell → Type 0
IsLeft (Back perm what) behind offset cell = IsMarkOn cell offset perm what behind
IsLeft Clear behind offset cell = IsNothing cell
IsLeft (Permit perm) behind offset cell = HasPerm cell perm
IsLeft GiveBack behind offset cell = Unit {0}

abbrev pub IsCellLeft : Row → ℕ → RangeChange → Bool → Type 0
IsCellLeft x page change result = (cell : Cell) → slice_get x.content (index_at x.place.level page) ≡ Some cell
    → IsTrue result ↔ IsLeft change.making (page - change.first) (page % 512 ^ (x.place.level - 1)) cell

pub record IsLeftAt (space page : ℕ) (change : RangeChange) (rows : List Row) (result : Bool) : Type 0 where
  pub at : ℕ
  pub is : IsLowestAt space page rows at
  pub told : (x : Row) → ((d : Row) → slice_index_or rows at d ≡ x) → 1 ≤ x.place.level → x.place.level < 6 → IsCellLeft x page change result

-- the level down to which the tables above the page are wanted: the root alone, where the change leaves the page
pub record IsEndLevel (count space page edge : ℕ) (change : RangeChange) (rows : List Row) (low : ℕ) : Type 0 where
  pub result : Bool
  pub is : IsLeftAt space page change rows result
  pub up : result ≡ true → low ≡ count
  pub down : result ≡ false → IsLow count edge low

-- it begins no table of the level
abbrev pub IsBroken : ℕ → ℕ → Type 0
IsBroken edge k = edge / 512 ^ k * 512 ^ k ≡ edge → ⊥

abbrev pub IsSame : BookData → ℕ → ℕ → RangeChange → Type 0
IsSame a space page change = page_made change.making (page - change.first) (cell_at (state_of a) space page) ≡ cell_at (state_of a) space page

pub record MayLinkEnd (a b : BookData) (rows : List Row) (space page edge : ℕ) (change : RangeChange) : Type 0 where
  pub top : MayLinkPage a b rows space page (levels (state_of a))
  pub root : set.contains (state_of a).tables (place_of space (levels (state_of a)) page) ≡ true
  pub inside : change.first ≤ page
  pub near : IsNearIn change.making (page - change.first)
  pub stays : (k : ℕ) → 1 ≤ k → k < levels (state_of a) → IsBroken edge k → ¬ IsRemoved (state_of a) (state_of b) (place_of space k page)
  pub changes : (k : ℕ) → 1 ≤ k → k < levels (state_of a) → IsBroken edge k → set.contains (state_of a).tables (place_of space k page) ≡ false → ¬ IsSame a space page change → set.contains (state_of b).tables (place_of space k page) ≡ true
  pub leaves : (k : ℕ) → 1 ≤ k → k < levels (state_of a) → IsBroken edge k → set.contains (state_of a).tables (place_of space k page) ≡ false → IsSame a space page change → set.contains (state_of b).tables (place_of space k page) ≡ false

abbrev pub ReachesEnd : BookData → BookData → ℕ → ℕ → ℕ → List Row → Type 0
ReachesEnd a b space page edge rows = (k : ℕ) → 1 ≤ k → k < levels (state_of a) → IsBroken edge k → set.contains (state_of a).tables (place_of space k page) ≡ false → set.contains (state_of b).tables (place_of space k page) ≡ true
    → ListHolds rows (place_of space k page)

-- above both ends
abbrev pub MayLinkEnds : BookData → BookData → List Row → ℕ → RangeChange → Type 0
MayLinkEnds a b rows space change = MayLinkEnd a b rows space change.first change.first change × MayLinkEnd a b rows space (change.first + change.count - 1) (change.first + change.count) change

module _ {B E : Type 0} where
  abbrev pub CanLinkEnd : ℕ → ℕ → Kit → ℕ → PassView (List Cell) B E → List Row → ℕ → ℕ → ℕ → RangeChange → Type 0
  CanLinkEnd count room kit next w rows' space page edge change = (a : BookData) × (b : BookData) × (thread : ℕ) × (c : Call) × (v : PassView (List Cell) B E) × (rows : List Row)
      × IsLinking count room a b thread c kit v rows × LinkedSoFar a b thread c kit next v rows w rows' × MayLinkEnd a b rows space page edge change

  abbrev pub LinksMoreEnd : ℕ → ℕ → Kit → ℕ → PassView (List Cell) B E → List Row → ℕ → ℕ → ℕ → RangeChange → ℕ → PassView (List Cell) B E → List Row → Type 0
  LinksMoreEnd count room kit next w rows' space page edge change done z rows'' = (a b : BookData) (thread : ℕ) (c : Call) (v : PassView (List Cell) B E) (rows : List Row)
      → IsLinking count room a b thread c kit v rows → LinkedSoFar a b thread c kit next v rows w rows' → MayLinkEnd a b rows space page edge change → LinkedSoFar a b thread c kit done v rows z rows'' × ReachesEnd a b space page edge rows''

  -- from no row linked on
  abbrev pub CanLinkEnds : ℕ → ℕ → Kit → PassView (List Cell) B E → List Row → ℕ → RangeChange → Type 0
  CanLinkEnds count room kit v rows space change = (a : BookData) × (b : BookData) × (thread : ℕ) × (c : Call) × IsLinking count room a b thread c kit v rows × LinkedSoFar a b thread c kit 0 v rows v rows × MayLinkEnds a b rows space change

  abbrev pub LinksEnds : ℕ → ℕ → Kit → PassView (List Cell) B E → List Row → ℕ → RangeChange → PassView (List Cell) B E → List Row → Type 0
  LinksEnds count room kit v rows space change z rows'' = (a b : BookData) (thread : ℕ) (c : Call) → IsLinking count room a b thread c kit v rows → LinkedSoFar a b thread c kit 0 v rows v rows → MayLinkEnds a b rows space change
      → (done : ℕ) × LinkedSoFar a b thread c kit done v rows z rows'' × ReachesEnd a b space change.first change.first rows'' × ReachesEnd a b space (change.first + change.count - 1) (change.first + change.count) rows''
