-- What the words show at the start.
--     StartsTrue      row 0 is the directory, its only entry links row 1, and that is the root of space 0 and has no entry
use Rattle.std.specs.Prelude.{◌≡◌, ℕ, ◌<◌, ◌≤◌, slice_index}
use Rattle.table_place.specs.Place.{root, directory}
use Rattle.walk_core.specs.Words.{link_word}
use Rattle.row_layout.specs.declared.places.Layout.{Layout}
use Rattle.row_table.specs.Rows.{row_words, place_at, generation_of}
use Rattle.row_table.specs.Start.{start_words}

-- the link names row 1 with generation 1, which is that of the row
pub record StartsTrue (k : Layout) : Type 0 where
  pub directory_place : place_at (start_words k) 0 ≡ directory
  pub root_place : place_at (start_words k) 1 ≡ root k.levels 0
  pub root_generation : generation_of (start_words k) 1 ≡ 1
  pub link : slice_index (row_words (start_words k) 0) 0 ≡ link_word 1 1
  pub others : (index : ℕ) → 1 ≤ index → index < 512 → slice_index (row_words (start_words k) 0) index ≡ 0
  pub root_empty : (index : ℕ) → index < 512 → slice_index (row_words (start_words k) 1) index ≡ 0
