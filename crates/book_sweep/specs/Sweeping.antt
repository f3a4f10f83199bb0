-- What a sweep leaves of a book.
--     View      what a pass of the machine knows
--     SweepsBook      its limbo and its free rows are those after a sweep, and all else of it stays
use Rattle.std.specs.Prelude.{◌≡◌, List}
use Rattle.corten_base.specs.declared.calls.Entry.{Entry}
use Rattle.row_cells.specs.declared.Cell.{Cell}
use Rattle.row_table.specs.declared.view.PassView.{PassView}
use Rattle.epoch_grace.specs.Sweeping.{Sweeps}
use Rattle.machine_plan.specs.Books.{BookData}
use Rattle.machine_plan.specs.Follows.{machine}

abbrev pub View : Type 0
View = PassView (List Cell) BookData Entry

pub record SweepsBook (v : View) (old : BookData) (w : View) (new : BookData) : Type 0 where
  pub same : new ≡ record old { free = new.free; limbo = new.limbo }
  pub sweeps : Sweeps machine v old.limbo old.free w new.limbo new.free
