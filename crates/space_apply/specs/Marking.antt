-- The marks of one row come into another, and those of a space into its copy.
--     mark_of, copied      the mark that a cell is;  what stands at an entry after the other row's cell was copied
--     CopiesMark      one entry
--     IsCopyOf, CopiesRow      so many entries;  of a row of a list
--     CopiesPlace, MarksCopied      the row at a place of a list;  so many rows
use Rattle.std.specs.Prelude.{◌≡◌, ◌≢◌, ℕ, ◌<◌, ◌≤◌, ◌⊎◌, List, length, slice_get, slice_index_or, slice_set, Option, Some, None}
use Rattle.std.specs.Option.{unwrap_or}
use Rattle.row_cells.specs.declared.Cell.{Cell}
use Rattle.row_cells.specs.declared.Cell.TheVariants.{Invalid, Table, Anon, File, Mapped, Swapped}
use Rattle.tree_lock.specs.Held.{with_content}
use Rattle.machine_plan.specs.HeldRows.{Row}
use Rattle.cursor_detach.specs.Cutting.{IsRowAt}
use Rattle.space_apply.specs.Copying.{copy_at}

abbrev pub mark_of : Cell → Option Cell
mark_of (Anon perm) = Some (Anon perm)
mark_of (File perm file index) = Some (File perm file index)
mark_of Invalid = None
mark_of Table = None
mark_of (Mapped perm origin frame) = None
mark_of (Swapped perm origin slot) = None

abbrev pub copied : Cell → Cell → Cell
copied source old = unwrap_or (mark_of source) old

pub record CopiesMark (from to index : ℕ) (rows rows' : List Row) : Type 0 where
  pub source : Row
  pub is_source : (d : Row) → slice_index_or rows from d ≡ source
  pub cell : Cell
  pub there : slice_get source.content index ≡ Some cell
  pub put : ((mark_of cell ≡ None) × (rows' ≡ rows))
      ⊎ ((mark : Cell) × (mark_of cell ≡ Some mark) × (content : List Cell) × ((d : Row) → (slice_index_or rows to d).content ≡ content) × (old : Cell) × (slice_get content index ≡ Some old) × (rows' ≡ with_content rows to (slice_set content index mark)))

-- the entries before one are copied, and the others as before
pub record IsCopyOf (source old : List Cell) (count : ℕ) (new : List Cell) : Type 0 where
  pub done : (i : ℕ) (s o : Cell) → i < count → slice_get source i ≡ Some s → slice_get old i ≡ Some o → slice_get new i ≡ Some (copied s o)
  pub left : (i : ℕ) → count ≤ i → slice_get new i ≡ slice_get old i

-- no other row changes
pub record CopiesRow (from to count : ℕ) (rows rows' : List Row) : Type 0 where
  pub long : length rows' ≡ length rows
  pub others : (k : ℕ) (d : Row) → k ≢ to → slice_index_or rows' k d ≡ slice_index_or rows k d
  pub content : List Cell
  pub is : (d : Row) → slice_index_or rows' to d ≡ record (slice_index_or rows to d) { content = content }
  pub copies : (d : Row) → IsCopyOf (slice_index_or rows from d).content (slice_index_or rows to d).content count content

-- the row at a place of a list gets the marks of the source's row, where it is one of the new space
pub record CopiesPlace (space new at : ℕ) (rows rows' : List Row) : Type 0 where
  pub row : Row
  pub is_row : (d : Row) → slice_index_or rows at d ≡ row
  pub put : ((rows' ≡ rows) × (row.place.space ≡ new → row.place.level < 6 → ⊥)) ⊎ ((row.place.space ≡ new) × (row.place.level < 6) × (from : ℕ) × IsRowAt (copy_at space row.place) rows from × CopiesRow from at 512 rows rows')

-- the rows of the new space before a place of the list have the marks of the source's, and the others are as before
pub record MarksCopied (space new count : ℕ) (rows rows' : List Row) : Type 0 where
  pub long : length rows' ≡ length rows
  pub places : (k : ℕ) (d : Row) → (slice_index_or rows' k d).place ≡ (slice_index_or rows k d).place
  pub left : (k : ℕ) (d : Row) → (k < count → (slice_index_or rows k d).place.space ≡ new → (slice_index_or rows k d).place.level < 6 → ⊥) → slice_index_or rows' k d ≡ slice_index_or rows k d
  pub done : (k : ℕ) (d : Row) → k < count → k < length rows → (slice_index_or rows k d).place.space ≡ new → (slice_index_or rows k d).place.level < 6
      → (at : ℕ) × (from : IsRowAt (copy_at space (slice_index_or rows k d).place) rows at) × (content : List Cell) × (slice_index_or rows' k d ≡ record (slice_index_or rows k d) { content = content }) × IsCopyOf from.row.content (slice_index_or rows k d).content 512 content
