-- What one hold of the book may change, and the plan of the machine.
--     KeepsPage, KeepsRow      what stands at a page stays as the rows of others know it;  so does a row, with each page that stands at it
--     RowsStay      a row that stays agrees with the second book if it agreed with the first
--     IsFixed      the part of two books that no hold changes
--     Follows      one hold of the book, by a pass with this region, may leave the second book in place of the first
--     machine      the meaning of the machine's rows and book
use Rattle.std.specs.Prelude.{◌≡◌, ℕ, ◌<◌, ◌≤◌, ◌↔◌, true, false, List, map, Some}
use Rattle.std.specs.FinSet as set
use Rattle.corten_base.specs.declared.calls.Entry.{Entry}
use Rattle.counted_pages.specs.Pages.{HasSpare}
use Rattle.page_map.specs.declared.cell.Cell.{Cell as PageCell}
use Rattle.page_map.specs.Cell.{frame_of, slot_of}
use Rattle.page_map.specs.State.{levels, cell_at, frame_owners}
use Rattle.row_cells.specs.declared.Cell.{Cell}
use Rattle.row_table.specs.Plan.{Region, IsUntouched, Meaning, HasGrown}
use Rattle.table_place.specs.declared.Place.{Place}
use Rattle.table_place.specs.Place.{has_page}
use Rattle.machine_plan.specs.Books.{BookData, state_of, free_list, put_of, RowSum}
use Rattle.machine_plan.specs.Agrees.{below, IsTableOf, Agrees, is_blank}
use Rattle.machine_plan.specs.Limbo.{shows_limbo}

-- The cell is the same. A frame that no other page has is in no other page afterwards, and the spare of its number is still kept.
pub record KeepsPage (a b : BookData) (space page : ℕ) : Type 0 where
  pub cell : cell_at (state_of b) space page ≡ cell_at (state_of a) space page
  pub sole : (c : PageCell) (n : ℕ) → cell_at (state_of a) space page ≡ Some c → frame_of c ≡ Some n → frame_owners (state_of a) n ≡ 1 → frame_owners (state_of b) n ≡ 1
  pub frame_spare : (c : PageCell) (n : ℕ) → cell_at (state_of a) space page ≡ Some c → frame_of c ≡ Some n → HasSpare a.frames n → HasSpare b.frames n
  pub slot_spare : (c : PageCell) (n : ℕ) → cell_at (state_of a) space page ≡ Some c → slot_of c ≡ Some n → HasSpare a.slots n → HasSpare b.slots n

-- There are as many levels, the row stays, each of its entries is a link as before or none as before, and each page below an entry that is no link stays.
pub record KeepsRow (a b : BookData) (p : Place) : Type 0 where
  pub table : IsTableOf (state_of b) p
  pub same_levels : levels (state_of b) ≡ levels (state_of a)
  pub links : (index : ℕ) → index < 512 → set.contains (state_of b).tables (below (levels (state_of a)) p index) ≡ set.contains (state_of a).tables (below (levels (state_of a)) p index)
  pub pages : (index : ℕ) → index < 512 → set.contains (state_of a).tables (below (levels (state_of a)) p index) ≡ false → (space page : ℕ) → has_page (below (levels (state_of a)) p index) space page ≡ true → KeepsPage a b space page

pub record IsFixed (a b : BookData) : Type 0 where
  pub limits : b.limits ≡ a.limits
  pub files : b.files ≡ a.files
  pub room : b.room ≡ a.room
  pub sum : RowSum a ↔ RowSum b

abbrev pub RowsStay : Type 0
RowsStay = (a b : BookData) (p : Place) → KeepsRow a b p → (words : List ℕ) (cells : List Cell) → Agrees a p words cells → Agrees b p words cells

-- Each row of the tree stays at which the hold changes nothing.
pub record Follows (region : Region) (a b : BookData) : Type 0 where
  pub journal : HasGrown a.journal b.journal
  pub generation : a.next_generation ≤ b.next_generation
  pub fixed : IsFixed a b
  pub rows : (p : Place) → IsTableOf (state_of a) p → IsUntouched region p → KeepsRow a b p

abbrev pub machine : Meaning (List Cell) BookData Entry
machine = record {
  journal = λ b. b.journal;
  thread = λ e. e.thread;
  free = free_list;
  limbo = λ b. map put_of b.limbo;
  next_generation = λ b. b.next_generation;
  agrees = Agrees;
  is_blank = is_blank;
  may_follow = Follows;
  same_fixed = IsFixed;
  shows_limbo = shows_limbo;
}
