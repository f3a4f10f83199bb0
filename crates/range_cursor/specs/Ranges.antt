-- References of a range of pages.
--     AddsParts      a list with the parts of a range of pages behind it
--     DrawsOn      the references of a range of pages were taken out, and listed behind others
--     FewMore      with the parts of the range a list has at most 4,096
--     HasFewRefs      rows of which no range has more
--     RowsHaveFew      the rows of a state with few frames and slots are so
--     NoneFrom      no row of level 1 has one of these pages
--     IsBehind      the rows before a place of a list have none of these pages
--     IsRowOf      the row at this place of a list is one of level 1, of this space and with this prefix
use Rattle.std.specs.Prelude.{◌≡◌, ℕ, ◌+◌, ◌<◌, ◌≤◌, List, ◌++◌, length, slice_index_or}
use Rattle.std.specs.List.{Contains}
use Rattle.counted_pages.specs.Pages.{CountedPage}
use Rattle.page_map.specs.State.{State, IsConsistent}
use Rattle.row_cells.specs.declared.Cell.{Cell}
use Rattle.machine_plan.specs.HeldRows.{Row, RowsShown}
use Rattle.range_cursor.specs.Drawing.{leaf_place, frame_part, slot_part, ArePartsOf, AreDrawn, reaches}

pub record AddsParts (part : ℕ → Cell → List (ℕ × CountedPage)) (space : ℕ) (rows : List Row) (first count : ℕ) (old new : List (ℕ × CountedPage)) : Type 0 where
  pub refs : List (ℕ × CountedPage)
  pub are : ArePartsOf part space rows first count refs
  pub new_is : new ≡ old ++ refs

pub record DrawsOn (space first count : ℕ) (rows rows' : List Row) (frames frames' slots slots' : List (ℕ × CountedPage)) : Type 0 where
  pub drawn : AreDrawn (reaches space first count) rows rows'
  pub frames_are : AddsParts frame_part space rows first count frames frames'
  pub slots_are : AddsParts slot_part space rows first count slots slots'

abbrev pub FewMore : (ℕ → Cell → List (ℕ × CountedPage)) → ℕ → List Row → ℕ → ℕ → List (ℕ × CountedPage) → Type 0
FewMore part space rows first count old = (n : ℕ) (refs : List (ℕ × CountedPage)) → n ≤ count → ArePartsOf part space rows first n refs → length old + length refs ≤ 4096

pub record HasFewRefs (rows : List Row) : Type 0 where
  pub frames : (space first count : ℕ) (refs : List (ℕ × CountedPage)) → ArePartsOf frame_part space rows first count refs → length refs ≤ 4096
  pub slots : (space first count : ℕ) (refs : List (ℕ × CountedPage)) → ArePartsOf slot_part space rows first count refs → length refs ≤ 4096

abbrev pub NoneFrom : ℕ → List Row → ℕ → ℕ → Type 0
NoneFrom space rows from end = (page : ℕ) (x : Row) → from ≤ page → page < end → Contains rows x → ¬ (x.place ≡ leaf_place space page)

abbrev pub IsRowOf : List Row → ℕ → ℕ → ℕ → Type 0
IsRowOf rows place space prefix = (d : Row) → (slice_index_or rows place d).place ≡ record { space = space; level = 1; prefix = prefix }

-- the rows before this place have no page from the next one on
abbrev pub IsBehind : ℕ → List Row → ℕ → ℕ → ℕ → Type 0
IsBehind space rows place next end = (j : ℕ) (d : Row) (page : ℕ) → j < place → j < length rows → next ≤ page → page < end → ¬ ((slice_index_or rows j d).place ≡ leaf_place space page)

abbrev pub RowsHaveFew : Type 0
RowsHaveFew = (st : State) (rows : List Row) → IsConsistent st → st.limits.frames ≤ 4096 → st.limits.swap ≤ 4096 → RowsShown st rows → HasFewRefs rows
