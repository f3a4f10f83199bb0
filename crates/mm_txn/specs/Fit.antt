-- What always holds of a machine.
--     IsFit      its table and its book have the levels of its greatest limits, its rows add up, and it has so many files
use Rattle.std.specs.Prelude.{◌≡◌, ℕ, length, Some}
use Rattle.corten_base.specs.declared.numbers.Limits.{Limits}
use Rattle.row_table.specs.Passes.{TableModel}
use Rattle.page_map.specs.State.{IsWithinLimits}
use Rattle.machine_plan.specs.Books.{BookData, RowSum}

pub record IsFit (t : TableModel BookData) (greatest : Limits) (files : ℕ) : Type 0 where
  pub within : IsWithinLimits greatest
  pub same_levels : t.layout.levels ≡ greatest.levels
  pub sum : (b : BookData) → t.origin ≡ Some b → RowSum b
  pub book_levels : (b : BookData) → t.origin ≡ Some b → b.limits.levels ≡ t.layout.levels
  pub shelf : (b : BookData) → t.origin ≡ Some b → length b.files ≡ files
