-- One row goes out of the tree.
--     above_place, above_index      the entry that leads to a table
--     IsRowAt      where in a list the row at a position is
--     with_words      a held row with other words
--     MayEmpty, Emptying, Empties      a held row whose entries are no links;  nothing stands at so many of its entries;  at none
--     MayUnlinkAt, UnlinksAt      a row that the row above it links;  it does no more
--     cut_view      the pass after that
--     MayCut, Cuts      a row of the list that may go out of the tree;  it is out
use Rattle.std.specs.Prelude.{◌≡◌, ◌≢◌, ℕ, ◌%◌, ◌<◌, not, true, false, cond, List, [], ◌∷◌, ◌++◌, map, length, nat_eq, slice_get, slice_index, slice_index_or, slice_set, Some}
use Rattle.std.specs.List.{Contains, filter}
use Rattle.table_place.specs.declared.Place.{Place}
use Rattle.table_place.specs.Place.{directory, parent, is_place}
use Rattle.walk_core.specs.Words.{is_link, link_row}
use Rattle.walk_core.specs.Lists.{without}
use Rattle.walk_core.specs.Events.{newly_unlinked}
use Rattle.row_table.specs.declared.view.PassView.{PassView}
use Rattle.row_table.specs.declared.view.HeldRow.{HeldRow as KnownRow}
use Rattle.row_table.specs.Links.{with_word, MayUnlink, Unlinks}
use Rattle.row_table.specs.Moves.{NotInHand}
use Rattle.row_table.specs.Rule.{row_part}
use Rattle.row_cells.specs.declared.Cell.{Cell}
use Rattle.row_cells.specs.declared.Cell.TheVariants.{Invalid}
use Rattle.tree_lock.specs.Held.{IsRemoved, with_content}
use Rattle.machine_plan.specs.HeldRows.{Row}

-- the directory has the roots
abbrev pub above_place : ℕ → Place → Place
above_place levels p = cond (nat_eq p.level levels) directory (parent p)

abbrev pub above_index : ℕ → Place → ℕ
above_index levels p = cond (nat_eq p.level levels) p.space (p.prefix % 512)

pub record IsRowAt (p : Place) (rows : List Row) (at : ℕ) : Type 0 where
  pub inside : at < length rows
  pub row : Row
  pub is : (d : Row) → slice_index_or rows at d ≡ row
  pub place : row.place ≡ p

abbrev pub with_words : {R : Type 0} → ℕ → List ℕ → KnownRow R → KnownRow R
with_words row words h = cond (nat_eq h.row row) (record h { words = words }) h

module _ {B E : Type 0} where
  -- the only row of this number is in the tree, and an entry without a cell has no word
  pub record MayEmpty (row : ℕ) (cells : List Cell) (v : PassView (List Cell) B E) : Type 0 where
    pub known : KnownRow (List Cell)
    pub held : Contains v.rows known
    pub same_row : known.row ≡ row
    pub only : (h : KnownRow (List Cell)) → Contains v.rows h → h.row ≡ row → h ≡ known
    pub linked : NotInHand v row
    pub whole : length cells ≡ 512
    pub no_links : (index : ℕ) → index < 512 → is_link (slice_index known.words index) ≡ false
    pub clear : (index : ℕ) → index < 512 → slice_get cells index ≡ Some Invalid → slice_index known.words index ≡ 0

  pub record Emptying (row done : ℕ) (v : PassView (List Cell) B E) (cells : List Cell) (w : PassView (List Cell) B E) : Type 0 where
    pub known : KnownRow (List Cell)
    pub held : Contains v.rows known
    pub same_row : known.row ≡ row
    pub linked : NotInHand v row
    pub words : List ℕ
    pub view : w ≡ record v { rows = map (with_words row words) v.rows }
    pub whole : length cells ≡ 512
    pub no_links : (index : ℕ) → index < 512 → is_link (slice_index words index) ≡ false
    pub clear : (index : ℕ) → index < 512 → slice_get cells index ≡ Some Invalid → slice_index words index ≡ 0
    pub none : (index : ℕ) → index < done → slice_get cells index ≡ Some Invalid

  pub record Empties (row : ℕ) (v w : PassView (List Cell) B E) : Type 0 where
    pub words : List ℕ
    pub view : w ≡ record v { rows = map (with_words row words) v.rows }
    pub none : (index : ℕ) → index < 512 → slice_index words index ≡ 0

  pub record MayUnlinkAt (levels : ℕ) (p : Place) (rows : List Row) (v : PassView (List Cell) B E) : Type 0 where
    pub place : is_place levels p ≡ true
    pub up : Row
    pub there : Contains rows up
    pub is_up : up.place ≡ above_place levels p
    pub may : (x : Row) → Contains rows x → x.place ≡ above_place levels p → MayUnlink v x.row (above_index levels p)

  pub record UnlinksAt (levels : ℕ) (p : Place) (rows : List Row) (v : PassView (List Cell) B E) (rows' : List Row) (w : PassView (List Cell) B E) : Type 0 where
    pub at : ℕ
    pub is_at : IsRowAt (above_place levels p) rows at
    pub rows_are : rows' ≡ with_content rows at (slice_set is_at.row.content (above_index levels p) Invalid)
    pub unlinks : Unlinks is_at.row.row (above_index levels p) v w

  -- the row is held no more, and the entry above it is 0
  abbrev pub cut_view : PassView (List Cell) B E → ℕ → ℕ → ℕ → PassView (List Cell) B E
  cut_view v row up index = record v {
    core = record v.core { held = without row v.core.held; unlinked = v.core.unlinked ++ newly_unlinked row ∷ [] };
    rows = filter (λ h. not (nat_eq h.row row)) (map (with_word up index 0) v.rows);
  }

  -- The row x stands at this place of the list. Its entries are no links, and the only row above it links it.
  pub record MayCut (levels at : ℕ) (x : Row) (rows : List Row) (v : PassView (List Cell) B E) : Type 0 where
    pub inside : at < length rows
    pub is : (d : Row) → slice_index_or rows at d ≡ x
    pub place : is_place levels x.place ≡ true
    pub shown : map row_part v.rows ≡ v.core.held
    pub empty : MayEmpty x.row x.content v
    pub up : Row
    pub up_there : Contains rows up
    pub is_up : up.place ≡ above_place levels x.place
    pub up_only : (y : Row) → Contains rows y → y.place ≡ above_place levels x.place → y ≡ up
    pub up_other : up.row ≢ x.row
    pub linker : KnownRow (List Cell)
    pub linker_held : Contains v.rows linker
    pub linker_row : linker.row ≡ up.row
    pub linker_only : (h : KnownRow (List Cell)) → Contains v.rows h → h.row ≡ up.row → h ≡ linker
    pub link : is_link (slice_index linker.words (above_index levels x.place)) ≡ true
    pub to_row : link_row (slice_index linker.words (above_index levels x.place)) ≡ x.row

  pub record Cuts (levels at : ℕ) (rows : List Row) (v : PassView (List Cell) B E) (rows' : List Row) (w : PassView (List Cell) B E) (gone gone' : List ℕ) : Type 0 where
    pub row : Row
    pub is : (d : Row) → slice_index_or rows at d ≡ row
    pub left : List Row
    pub removed : IsRemoved at row rows left
    pub up : ℕ
    pub is_up : IsRowAt (above_place levels row.place) left up
    pub rows_are : rows' ≡ with_content left up (slice_set is_up.row.content (above_index levels row.place) Invalid)
    pub view : w ≡ cut_view v row.row is_up.row.row (above_index levels row.place)
    pub gone_are : gone' ≡ gone ++ row.row ∷ []
