-- What a book has after all rows of its limbo became free.
--     AreOnce      no row stands twice in the free rows and the limbo of a book
--     AreApart      no row is twice in limbo, and none is free too
--     Frees      these rows are free as well, and no others
--     FreesLimbo      its limbo is empty, its rows of limbo are free, and all else of it stays
use Rattle.std.specs.Prelude.{◌≡◌, ℕ, ◌+◌, ◌≤◌, ◌||◌, false, List, []}
use Rattle.std.specs.FinSet as set
use Rattle.free_numbers.specs.Numbers.{NumbersBelow}
use Rattle.walk_core.specs.Lists.{times, Has, among}
use Rattle.row_layout.specs.declared.limbo.Sampled.{Sampled}
use Rattle.epoch_grace.specs.Sweeping.{rows_of}
use Rattle.machine_plan.specs.Books.{BookData, free_list}

abbrev pub AreOnce : BookData → Type 0
AreOnce b = (row : ℕ) → times row (free_list b) + times row (rows_of b.limbo) ≤ 1

pub record AreApart (limbo : List Sampled) (free : NumbersBelow) : Type 0 where
  pub once : (row : ℕ) → times row (rows_of limbo) ≤ 1
  pub apart : (row : ℕ) → Has (rows_of limbo) row → set.contains free.numbers row ≡ false

pub record Frees (limbo : List Sampled) (free free' : NumbersBelow) : Type 0 where
  pub limit : free'.limit ≡ free.limit
  pub freed : (row : ℕ) → set.contains free'.numbers row ≡ (set.contains free.numbers row || among (rows_of limbo) row)

pub record FreesLimbo (old new : BookData) : Type 0 where
  pub same : new ≡ record old { free = new.free; limbo = [] }
  pub frees : Frees old.limbo old.free new.free
