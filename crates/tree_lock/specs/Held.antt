-- Rows that are held, as a list in the order of their positions.
--     HeldList      the rows, and the room for rows
--     row_number, row_numbers      the number of a row, and those of a list
--     IsInOrder, IsHeldList      of two rows the earlier one's position is before the later one's;  what is always true of the list
--     IsRank      how many rows have positions before this one, where no row has it
--     IsInserted, IsRemoved      a list with one row more, and one without the row at a place
--     with_content      the list with another content in the row at a place
use Rattle.std.specs.Prelude.{◌≡◌, ℕ, zero, suc, ◌<◌, ◌≤◌, ◌^◌, List, [], ◌∷◌, ◌++◌, map, length, slice_index_or}
use Rattle.std.specs.List.{All, AllPairs}
use Rattle.table_place.specs.declared.Place.{Place}
use Rattle.walk_core.specs.Lists.{IsDistinct}
use Rattle.tree_lock.specs.declared.held.HeldRow.{HeldRow}
use Rattle.tree_lock.specs.Order.{IsSpelled, IsBefore}

pub record HeldList (R : Type 0) : Type 0 where
  pub rows : List (HeldRow R)
  pub room : ℕ

module _ {R : Type 0} where
  abbrev pub row_number : HeldRow R → ℕ
  row_number h = h.row

  abbrev pub row_numbers : List (HeldRow R) → List ℕ
  row_numbers rows = map row_number rows

  abbrev pub IsInOrder : List (HeldRow R) → Type 0
  IsInOrder rows = AllPairs (λ a b. IsBefore a.place b.place) rows

  -- each row stands once in the list, and its place there is a number of 32 bits
  pub record IsHeldList (rows : List (HeldRow R)) (room : ℕ) : Type 0 where
    pub order : IsInOrder rows
    pub spelled : All (λ h. IsSpelled h.place) rows
    pub once : IsDistinct (row_numbers rows)
    pub few : room < 2 ^ 32

  pub record IsRank (place : Place) (rows : List (HeldRow R)) (n : ℕ) : Type 0 where
    pub within : n ≤ length rows
    pub before : (k : ℕ) (d : HeldRow R) → k < n → IsBefore (slice_index_or rows k d).place place
    pub after : (k : ℕ) (d : HeldRow R) → n ≤ k → k < length rows → IsBefore place (slice_index_or rows k d).place

  pub record IsInserted (row : HeldRow R) (old new : List (HeldRow R)) : Type 0 where
    pub before : List (HeldRow R)
    pub after : List (HeldRow R)
    pub was : old ≡ before ++ after
    pub is : new ≡ before ++ row ∷ after

  pub record IsRemoved (place : ℕ) (row : HeldRow R) (old new : List (HeldRow R)) : Type 0 where
    pub before : List (HeldRow R)
    pub after : List (HeldRow R)
    pub was : old ≡ before ++ row ∷ after
    pub is : new ≡ before ++ after
    pub at : length before ≡ place

  abbrev pub with_content : List (HeldRow R) → ℕ → R → List (HeldRow R)
  with_content [] place content = []
  with_content (h ∷ hs) zero content = record h { content = content } ∷ hs
  with_content (h ∷ hs) (suc place) content = h ∷ with_content hs place content
