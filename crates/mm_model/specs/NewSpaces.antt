-- New spaces.
--     with_space      the state with a new space that has these cells and these page tables
--     AreOwned      each number has owners where some cells carry it, and not too many with them
--     MayMake      whether the space is absent and its tables are new, and its cells are those of a space that is present, or none
use Rattle.std.specs.Prelude.{◌≡◌, ℕ, ◌+◌, ◌^◌, ◌<◌, ◌≤◌, List, Option, None}
use Rattle.std.specs.FinMap as map
use Rattle.std.specs.FinSet as set
use Rattle.table_place.specs.declared.Place.{Place}
use Rattle.page_map.specs.declared.cell.Cell.{Cell}
use Rattle.page_map.specs.Cell.{frame_of, slot_of}
use Rattle.page_map.specs.State.{State, AddressSpace, IsConsistent, frame_owners, slot_owners}
use Rattle.plain_spaces.specs.Copies.{AreLow}
use Rattle.plain_counts.specs.Counts.{carried}

abbrev pub with_space : State → ℕ → AddressSpace → List Place → State
with_space st new cells tables = record st { spaces = map.insert st.spaces new cells; tables = set.union st.tables (set.from_list tables) }

-- each number has owners where these cells carry it, and not too many with them
pub record AreOwned (number_of : Cell → Option ℕ) (owners : ℕ → ℕ) (cells : AddressSpace) : Type 0 where
  pub owned : (n : ℕ) → carried number_of n cells ≤ owners n
  pub few : (n : ℕ) → owners n + carried number_of n cells < 2 ^ 32

pub record MayMake (st : State) (new : ℕ) (cells : AddressSpace) (tables : List Place) : Type 0 where
  pub absent : map.get st.spaces new ≡ None
  pub apart : set.difference st.tables (set.from_list tables) ≡ st.tables
  pub low : AreLow cells
  pub frames : AreOwned frame_of (frame_owners st) cells
  pub slots : AreOwned slot_of (slot_owners st) cells
  pub keeps : IsConsistent (with_space st new cells tables)
