-- The least number of a set, and a set with one number more or fewer.
--     none_below      the empty set
--     IsLeast      a number of the set, and no lesser one is in it
--     without, with_number      the set without a number, and with it
use Rattle.std.specs.Prelude.{◌≡◌, ℕ, ◌<◌, true, false}
use Rattle.std.specs.Ordering.{nat_cmp}
use Rattle.std.specs.FinSet as set
use Rattle.free_numbers.specs.Numbers.{NumbersBelow}

abbrev pub none_below : ℕ → NumbersBelow
none_below limit = record { limit = limit; numbers = set.empty }

abbrev pub IsLeast : set.FinSet nat_cmp → ℕ → Type 0
IsLeast numbers n = (set.contains numbers n ≡ true) × ((k : ℕ) → k < n → set.contains numbers k ≡ false)

abbrev pub without : NumbersBelow → ℕ → NumbersBelow
without s n = record s { numbers = set.remove s.numbers n }

abbrev pub with_number : NumbersBelow → ℕ → NumbersBelow
with_number s n = record s { numbers = set.insert s.numbers n }
