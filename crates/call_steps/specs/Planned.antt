-- What a plan leaves, with a sweep where rows were wanting.
--     HasPlanned      the rows of a cover, a kit and the book after it
use Rattle.std.specs.Prelude.{◌≡◌, ℕ, ◌<◌, ◌↔◌, List}
use Rattle.std.specs.List.{All}
use Rattle.corten_base.specs.declared.calls.Call.{Call}
use Rattle.row_layout.specs.declared.places.Layout.{Layout}
use Rattle.row_table.specs.Blocked.{IsBlocked}
use Rattle.machine_plan.specs.declared.kit.Kit.{Kit}
use Rattle.machine_plan.specs.Books.{BookData, RowSum, free_rows_within, put_of}
use Rattle.machine_plan.specs.Held.{HeldWith}
use Rattle.machine_plan.specs.HeldRows.{Row}
use Rattle.machine_plan.specs.Kits.{IsSwept}
use Rattle.machine_plan.specs.Whole.{IsBook}
use Rattle.range_cursor.specs.Plans.{Plans}
use Rattle.call_steps.specs.Ready.{View}
use Rattle.call_steps.specs.Turned.{OnlySamples}
use Rattle.call_steps.specs.Swept.{IsSweptTo}

-- v: the pass after its turn found the book old
pub record HasPlanned (k : Layout) (thread : ℕ) (c : Call) (v : View) (old : BookData) (rows : List Row) (kit : Kit) (w : View) (m : BookData) (rows' : List Row) (kit' : Kit) : Type 0 where
  pub books : IsBook old × IsBook m
  pub samples : OnlySamples v w
  pub swept : IsSweptTo k w old m
  pub sum : RowSum old ↔ RowSum m
  pub held : HeldWith m w rows
  pub plans : Plans m thread c rows kit rows' kit'
  pub blockers : IsSwept m kit'
  pub blocked : free_rows_within m < kit'.rows_needed → All (λ s. IsBlocked k.passes w.core (put_of s)) m.limbo
