-- Copies of a space.
--     AreLow      all pages stand before 2 ^ 44
--     IsRoomy, AreRoomy      as many keys more as carry each number here are not too many, of one kind;  of both
--     JoinsAll, JoinAll      counts after as many more keys carry each number as do here, of one kind;  of both
--     is_used      whether a cell stands in the span of a table
--     copy_of, used_copies      the same place in another space;  those of tables below the root that are above cells
--     with_copies      some tables with those copies
--     ArePlaces, ListsCopies      all tables have places of so many levels;  a list of the tables of a copy of a space, each once
--     IsAt      a state that has these cells and tables
use Rattle.std.specs.Prelude.{◌≡◌, ℕ, ◌+◌, ◌^◌, ◌<◌, Bool, true, ◌&&◌, List, length, slice_index, nat_lt, is_some, map, Option, Some}
use Rattle.std.specs.List.{filter}
use Rattle.std.specs.FinMap.{get}
use Rattle.std.specs.FinSet.{contains, from_list, union}
use Rattle.table_place.specs.declared.Place.{Place}
use Rattle.table_place.specs.Place.{is_place, span_first, span_count}
use Rattle.page_map.specs.declared.cell.Cell.{Cell}
use Rattle.page_map.specs.Cell.{frame_of, slot_of}
use Rattle.page_map.specs.Change.{least}
use Rattle.page_map.specs.Spaces.{copied_tables}
use Rattle.page_map.specs.State.{State, AddressSpace, IsConsistent, levels, space_at}
use Rattle.page_map.specs.Tables.{Tables}
use Rattle.plain_counts.specs.declared.counts.Counts.{Counts}
use Rattle.plain_counts.specs.Counts.{carried}
use Rattle.plain_counts.specs.Levels.{Lists}

abbrev pub AreLow : AddressSpace → Type 0
AreLow cells = (page : ℕ) (cell : Cell) → get cells page ≡ Some cell → page < 2 ^ 44

pub record IsRoomy (number_of : Cell → Option ℕ) (counts : List ℕ) (cells : AddressSpace) : Type 0 where
  pub each : (n : ℕ) → slice_index counts n + carried number_of n cells < 2 ^ 32

pub record AreRoomy (counts : Counts) (cells : AddressSpace) : Type 0 where
  pub frames : IsRoomy frame_of counts.frames cells
  pub slots : IsRoomy slot_of counts.slots cells

pub record JoinsAll (number_of : Cell → Option ℕ) (old new : List ℕ) (cells : AddressSpace) : Type 0 where
  pub numbers : length new ≡ length old
  pub counts : (n : ℕ) → slice_index new n ≡ slice_index old n + carried number_of n cells

pub record JoinAll (old new : Counts) (cells : AddressSpace) : Type 0 where
  pub frames : JoinsAll frame_of old.frames new.frames cells
  pub slots : JoinsAll slot_of old.slots new.slots cells

abbrev pub is_used : AddressSpace → Place → Bool
is_used cells p = is_some (least (span_first p) (span_count p) (λ page. is_some (get cells page)))

-- the same place in another space
abbrev pub copy_of : ℕ → Place → Place
copy_of new p = record { space = new; level = p.level; prefix = p.prefix }

-- the copies of those of some tables below the root that have a cell in their spans
abbrev pub used_copies : ℕ → ℕ → AddressSpace → List Place → List Place
used_copies levels new cells places = map (copy_of new) (filter (λ p. nat_lt p.level levels && is_used cells p) places)

abbrev pub with_copies : ℕ → ℕ → AddressSpace → List Place → Tables → Tables
with_copies levels new cells places tables = union tables (from_list (used_copies levels new cells places))

abbrev pub ArePlaces : ℕ → Tables → Type 0
ArePlaces levels tables = (p : Place) → contains tables p ≡ true → is_place levels p ≡ true

-- a state of which a space has these cells, with these tables and so many levels
pub record IsAt (st : State) (levels_now space : ℕ) (cells : AddressSpace) (tables : Tables) : Type 0 where
  pub same_levels : levels st ≡ levels_now
  pub same_cells : space_at st space ≡ cells
  pub same_tables : st.tables ≡ tables

-- the tables that page_map has of a fork, in each state of which the space has these cells
abbrev pub ListsCopies : ℕ → ℕ → ℕ → AddressSpace → Tables → List Place → Type 0
ListsCopies levels_now space new cells tables copies =
    (st : State) → IsConsistent st → IsAt st levels_now space cells tables → Lists (from_list (copied_tables st space new)) copies
