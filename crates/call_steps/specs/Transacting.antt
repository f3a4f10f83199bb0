-- What a call asks of the pass that holds its rows, and of its table.
--     IsOutside      the pass is outside, and has neither the book nor rows of a hand
--     FitsTable      the book at the start of a table has the table's levels, and its rows add up
--     CoversTable      the pass holds the rows of a call, where the machine has as many files as the book at its start
use Rattle.std.specs.Prelude.{◌≡◌, ℕ, false, [], List, length, Option, None, Some}
use Rattle.corten_base.specs.declared.calls.Call.{Call}
use Rattle.row_layout.specs.declared.places.Layout.{Layout}
use Rattle.row_table.specs.Known.{IsRight}
use Rattle.machine_plan.specs.Books.{BookData, RowSum}
use Rattle.machine_plan.specs.HeldRows.{Row}
use Rattle.call_steps.specs.Ready.{View, IsCovered}

pub record IsOutside (v : View) : Type 0 where
  pub outside : v.core.stand ≡ None
  pub granted : v.core.granted ≡ []
  pub unlinked : v.core.unlinked ≡ []
  pub has_not : v.core.has_book ≡ false

pub record FitsTable (k : Layout) (first : BookData) : Type 0 where
  pub levels : first.limits.levels ≡ k.levels
  pub sum : RowSum first

abbrev pub CoversTable : Option BookData → Call → View → List Row → Type 0
CoversTable origin c v rows = (first : BookData) → origin ≡ Some first → IsRight v → IsCovered (length first.files) v.number c v rows
