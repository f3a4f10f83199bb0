-- The tables of one level of a space.
--     is_in_level      whether a table is one of a range of prefixes
--     first_of      the first place of a space
--     is_between, IsUpTo      whether a place is from one on and before another;  whether two places are in order
--     is_of, is_elsewhere      whether a table is one of a space;  of another space
--     Lists      a list of the places of a set, each once
use Rattle.std.specs.Prelude.{◌≡◌, ℕ, Bool, false, not, ◌&&◌, List, length, nat_eq}
use Rattle.std.specs.FinSet.{from_list, len}
use Rattle.std.specs.Ordering.{is_gt}
use Rattle.std.specs.declared.ops.Bound.TheVariants.{Included, Excluded}
use Rattle.std.specs.BTreeMap.Range.{range_contains}
use Rattle.table_place.specs.declared.Place.{Place}
use Rattle.table_place.specs.Range.{within}
use Rattle.table_place.specs.Place.{place_cmp}
use Rattle.page_map.specs.Tables.{Tables}

abbrev pub is_in_level : ℕ → ℕ → ℕ → ℕ → Place → Bool
is_in_level space level first count p = nat_eq p.space space && (nat_eq p.level level && within first count p.prefix)

abbrev pub is_of : ℕ → Place → Bool
is_of space p = nat_eq p.space space

abbrev pub is_elsewhere : ℕ → Place → Bool
is_elsewhere space p = not (nat_eq p.space space)

abbrev pub first_of : ℕ → Place
first_of space = record { space = space; level = 0; prefix = 0 }

-- in the order of places
abbrev pub is_between : Place → Place → Place → Bool
is_between low high p = range_contains place_cmp (Included low) (Excluded high) p

abbrev pub IsUpTo : Place → Place → Type 0
IsUpTo low high = is_gt (place_cmp low high) ≡ false

pub record Lists (tables : Tables) (places : List Place) : Type 0 where
  pub same : from_list places ≡ tables
  pub once : length places ≡ len tables
