-- What is always true of the rows that passes hold.
--     HeldTrue      a held row is there and locked by its pass, the words show what the view says of it, and if the pass's hand does not have it, links reach it from row 0
--     RowsTrue      the same of each row of each pass of every seat
--     RowsShown      the rows of each view are those that its pass holds
use Rattle.std.specs.Prelude.{◌≡◌, ℕ, ◌<◌, List, map}
use Rattle.std.specs.List.{Contains}
use Rattle.walk_core.specs.Words.{held_by}
use Rattle.row_layout.specs.declared.places.Layout.{Layout}
use Rattle.row_table.specs.declared.view.PassView.{PassView}
use Rattle.row_table.specs.declared.view.HeldRow.{HeldRow}
use Rattle.row_table.specs.Rows.{row_words, place_at, lock_of, generation_of}
use Rattle.row_table.specs.Rule.{Table, row_part}
use Rattle.row_table.specs.Moves.{NotInHand}
use Rattle.row_table.specs.Close.{IsReached}

module _ {R B E : Type 0} where
  pub record HeldTrue (k : Layout) (words : List ℕ) (v : PassView R B E) (h : HeldRow R) : Type 0 where
    pub there : h.row < k.rows
    pub locked : lock_of words h.row ≡ held_by v.number
    pub place : place_at words h.row ≡ h.place
    pub generation : generation_of words h.row ≡ h.generation
    pub words_are : row_words words h.row ≡ h.words
    pub reached : NotInHand v h.row → IsReached words h.row

  abbrev pub RowsTrue : Layout → Table R B E → Type 0
  RowsTrue k s = (seat : List (PassView R B E)) → Contains s.views seat → (v : PassView R B E) → Contains seat v → (h : HeldRow R) → Contains v.rows h → HeldTrue k s.words v h

  abbrev pub RowsShown : Table R B E → Type 0
  RowsShown s = (seat : List (PassView R B E)) → Contains s.views seat → (v : PassView R B E) → Contains seat v → map row_part v.rows ≡ v.core.held
