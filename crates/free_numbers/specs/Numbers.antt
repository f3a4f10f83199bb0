-- A finite set of numbers below a limit.
--     NumbersBelow      the set with its limit
--     numbers_code      how a proof tells two of them apart
--     numbers_of      the numbers that a heap has
--     IsKept      what a heap keeps: each number once, the least at its top, and room for all
use Rattle.std.specs.Prelude.{◌≡◌, ℕ, ◌^◌, ◌<◌, ◌≤◌, true, List, length, map, refl}
use Rattle.std.specs.Coded.{Coded, code_by, coded×, coded_ℕ}
use Rattle.std.specs.Ordering.{nat_cmp}
use Rattle.std.specs.FinSet as set
use Rattle.std.specs.BinaryHeap.{IsHeap}
use Rattle.std.specs.declared.cmp.Reverse.{Reverse}

pub record NumbersBelow : Type 0 where
  pub limit : ℕ
  pub numbers : set.FinSet nat_cmp

abbrev pub numbers_code : Coded NumbersBelow
numbers_code =
    code_by (ℕ × set.FinSet nat_cmp) (coded× coded_ℕ (set.code coded_ℕ)) (λ s. (s.limit, s.numbers)) (λ p. record { limit = p.0; numbers = p.1 }) (λ _. refl)

abbrev pub numbers_of : List (Reverse ℕ) → set.FinSet nat_cmp
numbers_of heap = set.from_list (map (λ r. r.0) heap)

pub record IsKept (limit : ℕ) (heap : List (Reverse ℕ)) (capacity : ℕ) : Type 0 where
  pub once : set.len (numbers_of heap) ≡ length heap
  pub below : (n : ℕ) → set.contains (numbers_of heap) n ≡ true → n < limit
  pub ordered : IsHeap (λ (x y : Reverse ℕ). nat_cmp y.0 x.0) heap
  pub room : limit ≤ capacity
  pub fits : limit < 2 ^ 32
