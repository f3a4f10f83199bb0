-- How many keys carry each number of one kind, frames or swap slots.
--     unused_of      the numbers that nobody carries, in ascending order
--     bit_of      the bit of a number in a list of words of 64 bits
--     IsTallied      whether the bits are those of the unused numbers, and how many these are
use Rattle.std.specs.Prelude.{◌≡◌, ℕ, ◌*◌, ◌/◌, ◌%◌, ◌^◌, ◌<◌, ◌≤◌, Bool, cond, ◌&&◌, List, length, slice_index, nat_eq, nat_lt}
use Rattle.std.specs.Int.{bit_at}
use Rattle.page_map.specs.State.{unused}

abbrev pub unused_of : List ℕ → List ℕ
unused_of counts = unused (slice_index counts) (length counts)

abbrev pub is_unused : List ℕ → ℕ → Bool
is_unused counts n = nat_lt n (length counts) && nat_eq (slice_index counts n) 0

unfoldable pub bit_of : List ℕ → ℕ → ℕ
bit_of words n = bit_at (slice_index words (n / 64)) (n % 64)

pub record IsTallied (counts words : List ℕ) (free : ℕ) : Type 0 where
  pub few : length counts < 2 ^ 32
  pub room : length counts ≤ 64 * length words
  pub short : length words ≤ 2 ^ 26
  pub bits : (n : ℕ) → bit_of words n ≡ cond (is_unused counts n) 1 0
  pub free_is : free ≡ length (unused_of counts)
