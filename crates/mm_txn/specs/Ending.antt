-- What a machine is closed into.
--     ClosedModel, closed_model      the book of a closed machine, the epoch word of each pass, and the machine's name
--     Ends      what holds of the book and of the epoch words, whatever the passes did
--     ClosesInto      a closing is that of this machine, whose passes knew this
use Rattle.std.specs.Prelude.{◌≡◌, ℕ, ◌<◌, ◌%◌, List, [], length, slice_index}
use Rattle.std.specs.List.{Contains}
use Rattle.corten_base.specs.declared.calls.Entry.{Entry}
use Rattle.row_cells.specs.declared.Cell.{Cell}
use Rattle.row_table.specs.declared.view.PassView.{PassView}
use Rattle.row_table.specs.Close.{KnownAtEnd}
use Rattle.row_table.specs.Passes.{TableModel}
use Rattle.machine_plan.specs.Books.{BookData, RowSum}
use Rattle.machine_plan.specs.Follows.{machine}
use Rattle.machine_plan.specs.Whole.{IsBook}
use Rattle.mm_txn.specs.declared.closed.Closed.{Closed}
use Rattle.mm_txn.specs.Machines.{MachineModel}

pub record ClosedModel : Type 0 where
  pub book : BookData
  pub epochs : List ℕ
  pub name : ℕ

unfoldable pub closed_model : Closed → ClosedModel
closed_model c = record { book = c.book; epochs = c.epochs.items; name = c.name }

abbrev pub Views : Type 0
Views = List (PassView (List Cell) BookData Entry)

-- The journal is one legal history of the passes, and each pass knew a beginning of it and its own entries in it. The rows add up, and none is in limbo.
pub record Ends (t : TableModel BookData) (views : Views) (book : BookData) (epochs : List ℕ) : Type 0 where
  pub is_book : IsBook book
  pub limbo : book.limbo ≡ []
  pub sum : RowSum book
  pub all_epochs : length epochs ≡ t.layout.passes
  pub even : (x : ℕ) → x < t.layout.passes → slice_index epochs x % 2 ≡ 0
  pub knows : (v : PassView (List Cell) BookData Entry) → Contains views v → (v.number < t.layout.passes) × KnownAtEnd machine (slice_index epochs v.number) book v

abbrev pub ClosesInto : MachineModel → Views → Closed → Type 0
ClosesInto m views c = ((closed_model c).name ≡ m.name) × Ends m.table views (closed_model c).book (closed_model c).epochs
