-- The tables that a range of pages cuts.
--     is_cut      whether the span of a table doesn't lie in the range
--     cut_among, cut_in_level      those of a list that a range cuts;  those of one level
--     cut_by_all      those that several ranges cut
--     with_missing      those found, and those of a list that are missing
--     are_there      whether the tables of one level above the first and the last page of a range are there
--     HaveParents      whether the table above each one below the root is there
--     IsShort      a range that is not empty and ends within the pages of five levels
use Rattle.std.specs.Prelude.{◌≡◌, ℕ, ◌+◌, ◌-◌, ◌^◌, ◌<◌, ◌≤◌, Bool, true, not, ◌&&◌, List}
use Rattle.std.specs.List.{filter, flat_map}
use Rattle.std.specs.FinSet.{contains, union}
use Rattle.table_place.specs.declared.Place.{Place}
use Rattle.table_place.specs.Range.{lies_in}
use Rattle.table_place.specs.Place.{above_in_level, cut_by, parent, place_of, span_first, span_count}
use Rattle.page_map.specs.Tables.{Tables, missing}
use Rattle.plain_counts.specs.declared.cut.Pages.{Pages}

abbrev pub is_cut : ℕ → ℕ → Place → Bool
is_cut first count p = not (lies_in (span_first p) (span_count p) first count)

abbrev pub cut_among : Pages → List Place → List Place
cut_among pages places = filter (is_cut pages.first pages.count) places

abbrev pub cut_in_level : ℕ → ℕ → ℕ → ℕ → List Place
cut_in_level space first count level = filter (is_cut first count) (above_in_level space first count level)

abbrev pub cut_by_all : ℕ → ℕ → List Pages → List Place
cut_by_all levels space ranges = flat_map (λ r. cut_by levels space r.first r.count) ranges

abbrev pub with_missing : Tables → List Place → Tables → Tables
with_missing found wanted tables = union found (missing wanted tables)

abbrev pub are_there : ℕ → ℕ → Pages → Tables → Bool
are_there space level pages tables =
    contains tables (place_of space level pages.first) && contains tables (place_of space level (pages.first + pages.count - 1))

abbrev pub HaveParents : ℕ → Tables → Type 0
HaveParents levels tables = (p : Place) → contains tables p ≡ true → p.level < levels → contains tables (parent p) ≡ true

-- a linear address of five levels has 57 bits, 12 of them for the offset
pub record IsShort (r : Pages) : Type 0 where
  pub some : 0 < r.count
  pub fits : r.first + r.count ≤ 2 ^ 45
