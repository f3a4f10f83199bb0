-- What a pass has that holds row 1.
--     View, HasRoot      what it knows, where this word stands in the row's entry 5
--     HasGrant      it was granted a row, and may set it up with this generation
--     HasGraft      it holds a row too that the entry links, and the row has no entries
use Rattle.std.specs.Prelude.{◌≡◌, ◌≢◌, ℕ, ◌^◌, ◌<◌, ◌≤◌, Bool, true, false, List, [], ◌∷◌, length, slice_index, None, Some}
use Rattle.std.specs.List.{Contains}
use Rattle.table_place.specs.Place.{directory, entry_place}
use Rattle.walk_core.specs.declared.pass.GrantedRow.{GrantedRow}
use Rattle.walk_core.specs.Words.{is_link, link_row}
use Rattle.walk_core.specs.Core.{unlinked_rows}
use Rattle.walk_core.specs.Events.{newly_granted}
use Rattle.row_cells.specs.declared.Cell.{Cell}
use Rattle.row_table.specs.declared.view.PassView.{PassView}
use Rattle.row_table.specs.declared.view.HeldRow.{HeldRow}
use Rattle.row_table.specs.declared.view.HandRow.{HandRow}
use Rattle.row_table.specs.Vacant.{blank_words}
use Rattle.reuse_plan.specs.Stock.{StockData}

abbrev pub View : Type 0
View = PassView (List Cell) StockData (Unit {0})

-- With four levels: it holds these rows, among them row 1 with this word in its entry 5, is outside without the book, has these rows in its hand, and unlinked these. Whether it has given the book since it grabbed row 1 is known.
pub record HasRoot (v : View) (word : ℕ) (rows : List ℕ) (gs : List GrantedRow) (us : List ℕ) (given : Bool) : Type 0 where
  pub four : v.layout.levels ≡ 4
  pub row_one : HeldRow (List Cell)
  pub there : Contains v.rows row_one
  pub number : row_one.row ≡ 1
  pub place : row_one.place ≡ entry_place v.layout.levels directory 0
  pub word_five : slice_index row_one.words 5 ≡ word
  pub is_given : row_one.is_given ≡ given
  pub last : given ≡ true → (b : StockData) × (v.last ≡ Some b)
  pub held : v.core.held ≡ rows
  pub outside : v.core.stand ≡ None
  pub granted : v.core.granted ≡ gs
  pub unlinked : unlinked_rows v.core ≡ us
  pub has_not : v.core.has_book ≡ false

pub record HasGrant (v : View) (row generation : ℕ) : Type 0 where
  pub root : HasRoot v 0 (1 ∷ []) (newly_granted row ∷ []) [] true
  pub long : length root.row_one.words ≡ 512
  pub known : HandRow
  pub in_hand : Contains v.hand known
  pub same_row : known.row ≡ row
  pub above : known.generation < generation
  pub low : known.low ≤ generation
  pub high : generation < known.high
  pub other : row ≢ 1
  pub small : row < 1024
  pub few : generation < 2 ^ 30

pub record HasGraft (v : View) (row : ℕ) : Type 0 where
  pub four : v.layout.levels ≡ 4
  pub linker : HeldRow (List Cell)
  pub there : Contains v.rows linker
  pub number : linker.row ≡ 1
  pub place : linker.place ≡ entry_place v.layout.levels directory 0
  pub long : length linker.words ≡ 512
  pub link : is_link (slice_index linker.words 5) ≡ true
  pub to_row : link_row (slice_index linker.words 5) ≡ row
  pub is_given : linker.is_given ≡ true
  pub child : HeldRow (List Cell)
  pub child_there : Contains v.rows child
  pub child_row : child.row ≡ row
  pub child_words : child.words ≡ blank_words
  pub granted : v.core.granted ≡ []
  pub unlinked : unlinked_rows v.core ≡ []
  pub held : v.core.held ≡ 1 ∷ row ∷ []
  pub last : (b : StockData) × (v.last ≡ Some b)
  pub outside : v.core.stand ≡ None
  pub has_not : v.core.has_book ≡ false
  pub other : row ≢ 1
