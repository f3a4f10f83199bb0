-- The tree that the links make of the rows which they reach from row 0.
--     IsNamedOnce      one entry of the rows that are there links the row, and it is of a row that is reached and tells the row's position and generation
--     LeadsDown      an entry leads to a row other than row 0, at the position below the entry
--     IsTree      the rows that are reached are there, have each a position of its own, and each but row 0 is named once and at the position of a table. Row 0 links roots, and no other row does
use Rattle.std.specs.Prelude.{◌≡◌, ◌≢◌, ◌↔◌, ℕ, ◌<◌, true, List, slice_index}
use Rattle.table_place.specs.Place.{directory, entry_place, is_place}
use Rattle.walk_core.specs.Words.{entry_at, is_link, link_row, link_generation}
use Rattle.row_layout.specs.declared.places.Layout.{Layout}
use Rattle.row_table.specs.Rows.{place_at, generation_of}
use Rattle.row_table.specs.Close.{IsReached}

pub record IsNamedOnce (k : Layout) (words : List ℕ) (row : ℕ) : Type 0 where
  pub linker : ℕ
  pub reached : IsReached words linker
  pub index : ℕ
  pub inside : index < 512
  pub link : is_link (slice_index words (entry_at linker index)) ≡ true
  pub to_row : link_row (slice_index words (entry_at linker index)) ≡ row
  pub place : place_at words row ≡ entry_place k.levels (place_at words linker) index
  pub generation : generation_of words row ≡ link_generation (slice_index words (entry_at linker index))
  pub only : (r i : ℕ) → r < k.rows → i < 512 → is_link (slice_index words (entry_at r i)) ≡ true → link_row (slice_index words (entry_at r i)) ≡ row → (r ≡ linker) × (i ≡ index)

pub record LeadsDown (k : Layout) (words : List ℕ) (row index : ℕ) : Type 0 where
  pub not_root : link_row (slice_index words (entry_at row index)) ≢ 0
  pub place : place_at words (link_row (slice_index words (entry_at row index))) ≡ entry_place k.levels (place_at words row) index

pub record IsTree (k : Layout) (words : List ℕ) : Type 0 where
  pub there : (r : ℕ) → IsReached words r → r < k.rows
  pub top : place_at words 0 ≡ directory
  pub apart : (a b : ℕ) → IsReached words a → IsReached words b → place_at words a ≡ place_at words b → a ≡ b
  pub named : (r : ℕ) → r ≢ 0 → IsReached words r → IsNamedOnce k words r
  pub leads : (r i : ℕ) → IsReached words r → i < 512 → is_link (slice_index words (entry_at r i)) ≡ true → LeadsDown k words r i
  pub roots : (r i : ℕ) → IsReached words r → i < 512 → is_link (slice_index words (entry_at r i)) ≡ true → (r ≡ 0) ↔ ((place_at words (link_row (slice_index words (entry_at r i)))).level ≡ k.levels)
  pub tables : (r : ℕ) → r ≢ 0 → IsReached words r → is_place k.levels (place_at words r) ≡ true
