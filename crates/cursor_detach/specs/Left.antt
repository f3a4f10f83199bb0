-- Rows that agreed with a book, after references were taken out of them and links cut.
--     came_from, drawn_cell      what a page came from;  a cell whose reference was taken out
--     is_taken      whether the reference of a cell is in the kit
--     IsCommitted      a kit after a commit
--     IsLeft, AreLeft      such a row;  each row of a list is one
--     IsBlankIn      the blank cells are those that the plan's meaning calls blank
use Rattle.std.specs.Prelude.{◌≡◌, ℕ, ◌+◌, ◌*◌, ◌<◌, ◌&&◌, ◌↔◌, Bool, cond, List, length, nat_eq, is_none, slice_get, slice_index, Some}
use Rattle.std.specs.List.{Contains}
use Rattle.corten_base.specs.declared.permissions.Perm.{Perm}
use Rattle.corten_base.specs.declared.calls.Backing.{Backing}
use Rattle.corten_base.specs.declared.calls.Backing.TheVariants as backing
use Rattle.corten_base.specs.declared.calls.Call.{Call}
use Rattle.corten_base.specs.declared.calls.Reply.{Reply}
use Rattle.page_map.specs.State.{State, levels}
use Rattle.row_cells.specs.declared.Cell.{Cell}
use Rattle.row_cells.specs.declared.Cell.TheVariants.{Invalid, Table, Anon, File, Mapped, Swapped}
use Rattle.row_cells.specs.Cells.{blank}
use Rattle.row_table.specs.declared.view.PassView.{PassView}
use Rattle.row_table.specs.declared.view.HeldRow.{HeldRow as KnownRow}
use Rattle.row_table.specs.Moves.{NotInHand}
use Rattle.table_place.specs.declared.Place.{Place}
use Rattle.machine_plan.specs.declared.kit.Kit.{Kit}
use Rattle.machine_plan.specs.Agrees.{below, Agrees}
use Rattle.machine_plan.specs.Books.{BookData, state_of}
use Rattle.machine_plan.specs.Given.{IsRemoved}
use Rattle.machine_plan.specs.HeldRows.{Row}
use Rattle.machine_plan.specs.Kits.{IsFilled, Commits}
use Rattle.machine_plan.specs.Uses.{uses_page}

-- A page without its reference shows what it came from. So its origin and its permissions are still told.
abbrev pub came_from : Backing → Perm → Cell
came_from backing.Zero perm = Anon perm
came_from (backing.File file index) perm = File perm file index

abbrev pub drawn_cell : Cell → Cell
drawn_cell (Mapped perm origin frame) = came_from origin perm
drawn_cell (Swapped perm origin slot) = came_from origin perm
drawn_cell Invalid = Invalid
drawn_cell Table = Table
drawn_cell (Anon perm) = Anon perm
drawn_cell (File perm file index) = File perm file index

abbrev pub is_taken : State → ℕ → Call → Kit → Place → ℕ → Bool
is_taken st thread c kit p index = is_none kit.early && (nat_eq p.level 1 && uses_page st thread c p.space (512 * p.prefix + index))

-- what a commit made of a kit that a plan had filled
pub record IsCommitted (a b : BookData) (thread : ℕ) (c : Call) (kit : Kit) : Type 0 where
  pub filled : Kit
  pub was_filled : IsFilled a thread c filled
  pub reply : Reply
  pub commits : Commits a thread c filled reply b kit

module _ {B E : Type 0} where
  -- A row that agreed with the book a. Links to positions that b has not were cut, references that are in the kit were taken out, and all else is as it was.
  pub record IsLeft (a b : BookData) (thread : ℕ) (c : Call) (kit : Kit) (v : PassView (List Cell) B E) (x : Row) : Type 0 where
    pub known : KnownRow (List Cell)
    pub held : Contains v.rows known
    pub same_row : known.row ≡ x.row
    pub same_place : known.place ≡ x.place
    pub linked : NotInHand v x.row
    pub old_words : List ℕ
    pub old_cells : List Cell
    pub agreed : Agrees a known.place old_words old_cells
    pub whole : length x.content ≡ 512
    pub cut : (index : ℕ) → index < 512 → IsRemoved (state_of a) (state_of b) (below (levels (state_of a)) x.place index) → (slice_get x.content index ≡ Some Invalid) × (slice_index known.words index ≡ 0)
    pub word : (index : ℕ) → index < 512 → ¬ IsRemoved (state_of a) (state_of b) (below (levels (state_of a)) x.place index) → slice_index known.words index ≡ slice_index old_words index
    pub cell : (index : ℕ) (cell : Cell) → index < 512 → ¬ IsRemoved (state_of a) (state_of b) (below (levels (state_of a)) x.place index) → slice_get old_cells index ≡ Some cell
        → slice_get x.content index ≡ Some (cond (is_taken (state_of a) thread c kit x.place index) (drawn_cell cell) cell)

  abbrev pub AreLeft : BookData → BookData → ℕ → Call → Kit → PassView (List Cell) B E → List Row → Type 0
  AreLeft a b thread c kit v rows = (x : Row) → Contains rows x → IsLeft a b thread c kit v x

abbrev pub IsBlankIn : (List Cell → Type 0) → Type 0
IsBlankIn is_blank = (cells : List Cell) → is_blank cells ↔ (cells ≡ blank)
