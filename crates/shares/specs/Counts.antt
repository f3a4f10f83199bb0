-- Counts of owners: the list has at each number how many owners it has. A number of count 0 is unused.
--     count_of      the count of a number, 0 past the end
--     least_unused      the least number of count 0
--     unused_count      how many numbers have count 0
--     AreCounted      the unused numbers are just those of count 0
use Rattle.std.specs.Prelude.{◌≡◌, ℕ, ◌≤◌, List, Option, length, count_by, position, nat_eq, slice_index, slice_index_or}
use Rattle.std.specs.FinSet as set
use Rattle.free_numbers.specs.Numbers.{NumbersBelow}

abbrev pub count_of : List ℕ → ℕ → ℕ
count_of counts number = slice_index counts number

abbrev pub least_unused : List ℕ → Option ℕ
least_unused counts = position (λ count. nat_eq count 0) counts

abbrev pub unused_count : List ℕ → ℕ
unused_count counts = count_by (λ count. nat_eq count 0) counts

pub record AreCounted (counts : List ℕ) (unused : NumbersBelow) : Type 0 where
  pub limit : unused.limit ≡ length counts
  pub unused_ones : (number : ℕ) → set.contains unused.numbers number ≡ nat_eq (slice_index_or counts number 1) 0
  pub unused_count : set.len unused.numbers ≡ unused_count counts
  pub most : (number : ℕ) → count_of counts number ≤ 64
