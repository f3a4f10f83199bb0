-- What one change of a range of pages makes of the cells and words of a row.
--     mark_from      the mark of pages that stand so many pages behind the first one of a mapping
--     permitted      the same pages with other permissions
--     page_made, cell_made      what is made of a page, and of a cell, that stands so many pages behind the first one of the range
--     word_made      the word beside a cell that is no link, where no frame is known to be of one page alone
--     IsNear, IsNearIn      the number of a file's page so far behind fits
--     IsSmall      the frame of a cell fits a leaf
--     SetsWord      an entry of a row of level 1 has a word
--     MayMakeEntry, MakesEntry      an entry of a held row that may be changed;  it is changed, if it is no link
--     IsPart      the entries of a table that have all their pages in a range
--     behind_at      how many pages an entry's first one stands behind that of the range
--     MayMake, Passing, Makes      a held row that may be changed;  some entries of it are changed;  all those with all their pages in the range
use Rattle.std.specs.Prelude.{◌≡◌, ℕ, ◌+◌, ◌-◌, ◌*◌, ◌^◌, ◌<◌, ◌≤◌, true, false, ◌&&◌, Option, Some, None, if◌then◌else◌, List, map, length, slice_get, slice_index, slice_set}
use Rattle.std.specs.Option.{option_map}
use Rattle.std.specs.List.{Contains}
use Rattle.corten_base.specs.declared.permissions.Perm.{Perm}
use Rattle.corten_base.specs.declared.calls.Backing.{Backing}
use Rattle.corten_base.specs.declared.calls.Backing.TheVariants as backing
use Rattle.page_map.specs.declared.cell.Cell.{Cell as PageCell}
use Rattle.page_map.specs.Cell.{backed, goes_on, with_perm}
use Rattle.row_cells.specs.declared.Cell.{Cell}
use Rattle.row_cells.specs.declared.Cell.TheVariants.{Invalid, Table, Anon, File, Mapped, Swapped}
use Rattle.row_table.specs.declared.view.PassView.{PassView}
use Rattle.row_table.specs.declared.view.HeldRow.{HeldRow as KnownRow}
use Rattle.row_table.specs.Links.{Sets}
use Rattle.row_table.specs.Moves.{NotInHand}
use Rattle.table_place.specs.declared.Place.{Place}
use Rattle.walk_core.specs.Words.{is_link, leaf_word}
use Rattle.machine_plan.specs.HeldRows.{is_table}
use Rattle.cursor_detach.specs.Cutting.{with_words}
use Rattle.cursor_detach.specs.Left.{drawn_cell}
use Rattle.cursor_apply.specs.declared.becoming.Making.{Making}
use Rattle.cursor_apply.specs.declared.becoming.Making.TheVariants.{Back, Clear, Permit, GiveBack}
use Rattle.cursor_apply.specs.declared.becoming.RangeChange.{RangeChange}

abbrev pub mark_from : Backing → Perm → ℕ → Cell
mark_from backing.Zero perm behind = Anon perm
mark_from (backing.File file index) perm behind = File perm file (index + behind)

abbrev pub permitted : Perm → Cell → Cell
permitted perm Invalid = Invalid
permitted perm Table = Table
permitted perm (Anon old) = Anon perm
permitted perm (File old file index) = File perm file index
permitted perm (Mapped old origin frame) = Mapped perm origin frame
permitted perm (Swapped old origin slot) = Swapped perm origin slot

abbrev pub page_made : Making → ℕ → Option PageCell → Option PageCell
page_made (Back perm backing) behind cell = Some (backed backing perm behind)
page_made Clear behind cell = None
page_made (Permit perm) behind cell = option_map (with_perm perm) cell
page_made GiveBack behind cell = option_map (λ c. goes_on c 0) cell

abbrev pub cell_made : Making → ℕ → Cell → Cell
cell_made (Back perm backing) behind cell = mark_from backing perm behind
cell_made Clear behind cell = Invalid
cell_made (Permit perm) behind cell = permitted perm cell
cell_made GiveBack behind cell = drawn_cell cell

abbrev pub word_made : Cell → ℕ
word_made (Mapped perm origin frame) = if perm.read then leaf_word frame.number (false && perm.write) perm.exec else 0
word_made Invalid = 0
word_made Table = 0
word_made (Anon perm) = 0
word_made (File perm file index) = 0
word_made (Swapped perm origin slot) = 0

abbrev pub IsNear : Backing → ℕ → Type 0
IsNear backing.Zero behind = Unit {0}
IsNear (backing.File file index) behind = index + behind < 2 ^ 64

abbrev pub IsNearIn : Making → ℕ → Type 0
IsNearIn (Back perm backing) behind = IsNear backing behind
IsNearIn Clear behind = Unit {0}
IsNearIn (Permit perm) behind = Unit {0}
IsNearIn GiveBack behind = Unit {0}

abbrev pub IsSmall : Cell → Type 0
IsSmall (Mapped perm origin frame) = frame.number < 4096
IsSmall Invalid = Unit {0}
IsSmall Table = Unit {0}
IsSmall (Anon perm) = Unit {0}
IsSmall (File perm file index) = Unit {0}
IsSmall (Swapped perm origin slot) = Unit {0}

abbrev pub IsNearAll : Making → ℕ → Type 0
IsNearAll making count = (behind : ℕ) → behind < count → IsNearIn making behind

-- so many pages stand before those below an entry, and at its end
abbrev pub pages_before : Place → ℕ → ℕ
pages_before place index = (512 * place.prefix + index) * 512 ^ (place.level - 1)

abbrev pub behind_at : ℕ → Place → ℕ → ℕ
behind_at first place index = pages_before place index - first

abbrev pub IsInside : Place → ℕ → ℕ → ℕ → Type 0
IsInside place first count index = (first ≤ pages_before place index) × (pages_before place (index + 1) ≤ first + count)

-- the directory has none
pub record IsPart (place : Place) (first count from to : ℕ) : Type 0 where
  pub order : from ≤ to
  pub most : to ≤ 512
  pub low : from < to → place.level < 6
  pub inside : (index : ℕ) → from ≤ index → index < to → IsInside place first count index
  pub outside : (index : ℕ) → index < 512 → place.level < 6 → (from ≤ index → index < to → ⊥) → IsInside place first count index → ⊥

-- what a link becomes, and any other cell with its word
pub record IsMade (making : Making) (behind level : ℕ) (was : Cell) (old_word : ℕ) (cell : Option Cell) (word : ℕ) : Type 0 where
  pub link : is_table was ≡ true → (cell ≡ Some was) × (word ≡ old_word)
  pub made : is_table was ≡ false → cell ≡ Some (cell_made making behind was)
  pub leaf : is_table was ≡ false → level ≡ 1 → word ≡ word_made (cell_made making behind was)
  pub above : is_table was ≡ false → (level ≡ 1 → ⊥) → word ≡ old_word

-- the word of a cell that is no link may be written
abbrev pub IsFree : Cell → ℕ → Type 0
IsFree cell word = is_table cell ≡ false → (is_link word ≡ false) × IsSmall cell

module _ {B E : Type 0} where
  pub record SetsWord (level row index word : ℕ) (v w : PassView (List Cell) B E) : Type 0 where
    pub leaf : level ≡ 1 → Sets row index word v w
    pub above : (level ≡ 1 → ⊥) → w ≡ v

  pub record MayMakeEntry (row level index : ℕ) (cells : List Cell) (v : PassView (List Cell) B E) : Type 0 where
    pub known : KnownRow (List Cell)
    pub held : Contains v.rows known
    pub same_row : known.row ≡ row
    pub same_level : known.place.level ≡ level
    pub linked : NotInHand v row
    pub free : (cell : Cell) → slice_get cells index ≡ Some cell → IsFree cell (slice_index known.words index)

  -- a link stays, since the row below it has the pages
  pub record MakesEntry (making : Making) (behind row level index : ℕ) (cells : List Cell) (v : PassView (List Cell) B E) (cells' : List Cell) (w : PassView (List Cell) B E) : Type 0 where
    pub was : Cell
    pub there : slice_get cells index ≡ Some was
    pub link : is_table was ≡ true → (cells' ≡ cells) × (w ≡ v)
    pub made : is_table was ≡ false → (cells' ≡ slice_set cells index (cell_made making behind was)) × SetsWord level row index (word_made (cell_made making behind was)) v w

  -- the only row of this number is in the tree, and its words are those of its cells as far as a change asks
  pub record MayMake (row : ℕ) (place : Place) (cells : List Cell) (v : PassView (List Cell) B E) : Type 0 where
    pub known : KnownRow (List Cell)
    pub held : Contains v.rows known
    pub same_row : known.row ≡ row
    pub same_place : known.place ≡ place
    pub only : (h : KnownRow (List Cell)) → Contains v.rows h → h.row ≡ row → h ≡ known
    pub linked : NotInHand v row
    pub whole : length cells ≡ 512
    pub long : length known.words ≡ 512
    pub free : (index : ℕ) (cell : Cell) → index < 512 → slice_get cells index ≡ Some cell → IsFree cell (slice_index known.words index)

  -- the entries from one up to another, and no others
  pub record Passing (making : Making) (first : ℕ) (place : Place) (row from to : ℕ) (v : PassView (List Cell) B E) (old : List Cell) (w : PassView (List Cell) B E) (cells : List Cell) : Type 0 where
    pub may : MayMake row place old v
    pub words : List ℕ
    pub long : length words ≡ 512
    pub view : w ≡ record v { rows = map (with_words row words) v.rows }
    pub whole : length cells ≡ 512
    pub done : (index : ℕ) (was : Cell) → from ≤ index → index < to → index < 512 → slice_get old index ≡ Some was
        → IsMade making (behind_at first place index) place.level was (slice_index may.known.words index) (slice_get cells index) (slice_index words index)
    pub kept : (index : ℕ) → index < 512 → (from ≤ index → index < to → ⊥) → (slice_get cells index ≡ slice_get old index) × (slice_index words index ≡ slice_index may.known.words index)

  pub record Makes (change : RangeChange) (row : ℕ) (place : Place) (v : PassView (List Cell) B E) (old : List Cell) (w : PassView (List Cell) B E) (cells : List Cell) : Type 0 where
    pub from : ℕ
    pub to : ℕ
    pub part : IsPart place change.first change.count from to
    pub passing : Passing change.making change.first place row from to v old w cells
