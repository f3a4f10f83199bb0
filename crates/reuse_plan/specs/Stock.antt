-- A small plan with models: a book with the free rows and those in limbo, and rows that hold cells.
--     StockData      what a book holds
--     free_list, put_of      its free rows, and a row in limbo, as the shared table sees them
--     IsStocked      each row of a book is one of so many
--     store, lawful      the plan and its laws
--     IsNew, Draws, deposited      a new book, one from which a row and a generation were taken, and one with a row more in limbo
use Rattle.std.specs.Prelude.{◌≡◌, ℕ, ◌+◌, ◌^◌, ◌<◌, ◌≤◌, ◌&&◌, ⊤, true, false, List, [], ◌∷◌, ◌++◌, map, slice_index, nat_le, nat_lt}
use Rattle.std.specs.List.{All, filter, range_with_len}
use Rattle.std.specs.FinSet as set
use Rattle.free_numbers.specs.Numbers.{NumbersBelow}
use Rattle.free_numbers.specs.FreeNumbers.{IsLeast, without}
use Rattle.walk_core.specs.declared.lists.PutRow.{PutRow}
use Rattle.row_layout.specs.declared.limbo.Sampled.{Sampled}
use Rattle.row_layout.specs.Limbo.{LimboList}
use Rattle.row_cells.specs.declared.Cell.{Cell}
use Rattle.row_cells.specs.Cells.{blank}
use Rattle.row_table.specs.Plan.{Meaning, IsLawful, HasGrown}

-- next: the generation that no row has yet
pub record StockData : Type 0 where
  pub free : NumbersBelow
  pub limbo : LimboList
  pub next : ℕ

-- in their order, each once
abbrev pub free_list : StockData → List ℕ
free_list b = filter (λ r. set.contains b.free.numbers r) (range_with_len 0 b.free.limit)

abbrev pub put_of : Sampled → PutRow
put_of s = record { row = s.row; samples = s.samples }

pub record IsStocked (rows : ℕ) (free : NumbersBelow) (limbo : LimboList) : Type 0 where
  pub few : rows ≤ 1024
  pub limit : free.limit ≡ rows
  pub room : limbo.room ≡ rows
  pub below : (r : ℕ) → set.contains free.numbers r ≡ true → r < rows
  pub there : All (λ (s : Sampled). s.row < rows) limbo.list

-- A row agrees where its entry 5 is 0 and its cells are those of a new row, and wherever that entry is not 0.
abbrev pub store : Meaning (List Cell) StockData (Unit {0})
store = record {
  journal = λ _. [];
  thread = λ _. 0;
  free = free_list;
  limbo = λ b. map put_of b.limbo.list;
  next_generation = λ b. b.next;
  agrees = λ _ _ words x. slice_index words 5 ≡ 0 → x ≡ blank;
  is_blank = λ x. x ≡ blank;
  may_follow = λ _ a b. (a.next ≤ b.next) × HasGrown {E = Unit {0}} [] [];
  same_fixed = λ _ _. ⊤;
  shows_limbo = λ _. false;
}

pub lawful : IsLawful store
lawful = record {
  keeps_agreement = λ _ _ _ _ _ _ _ _ a. a;
  grows = λ _ _ _ f. f.1;
  rises = λ _ _ _ f. f.0;
  keeps_fixed = λ _ _ _ _. tt;
  fixed_same = λ _. tt;
  fixed_back = λ _ _ _. tt;
  fixed_on = λ _ _ _ _ _. tt;
}

pub record IsNew (rows : ℕ) (b : StockData) : Type 0 where
  pub limit : b.free.limit ≡ rows
  pub free : (r : ℕ) → set.contains b.free.numbers r ≡ (nat_le 2 r && nat_lt r rows)
  pub limbo : b.limbo.list ≡ []
  pub next : b.next ≡ 2

pub record Draws (old : StockData) (row generation : ℕ) (new : StockData) : Type 0 where
  pub least : IsLeast old.free.numbers row
  pub there : row < old.free.limit
  pub small : row < 1024
  pub number : generation ≡ old.next
  pub few : generation < 2 ^ 30
  pub after : new ≡ record { free = without old.free row; limbo = old.limbo; next = old.next + 1 }

abbrev pub deposited : StockData → Sampled → StockData
deposited b s = record b { limbo = record b.limbo { list = b.limbo.list ++ s ∷ [] } }
