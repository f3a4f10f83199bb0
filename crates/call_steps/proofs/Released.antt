-- After an apply each row may go back.
--     may_release_all      the rows that an apply left agree with the book that was given, also where rows came into its limbo since the commit
use Rattle.std.specs.Prelude.{◌≡◌, ℕ, List, Some}
use Rattle.std.proofs.Common.{◌∙◌, ap}
use Rattle.corten_base.specs.declared.calls.Call.{Call}
use Rattle.tree_lock.specs.Release.{HoldsExactly, MayReleaseAll}
use Rattle.machine_plan.specs.declared.kit.Kit.{Kit}
use Rattle.machine_plan.specs.Books.{BookData}
use Rattle.machine_plan.specs.Follows.{machine}
use Rattle.machine_plan.specs.HeldRows.{Row}
use Rattle.machine_plan.proofs.Holding.{may_release}
use Rattle.cursor_apply.specs.Applying.{Applied}
use Rattle.call_steps.specs.Ready.{View}
use Rattle.call_steps.proofs.Swept.{held_swept}

-- b was committed, and g given; w knows it as the last one
pub may_release_all : (b g : BookData) (thread : ℕ) (c : Call) (w x : View) (rows : List Row) (kit kit' : Kit) → g ≡ record b { free = g.free; limbo = g.limbo } → Applied b thread c w x rows kit kit' → w.last ≡ Some g
    → MayReleaseAll machine rows x × HoldsExactly rows x.core.held x.rows
may_release_all b g thread c w x rows kit kit' same applied last =
    let h = held_swept b g same x rows applied.held in
    (may_release g x rows h applied.given (ap (λ (y : View). y.last) applied.view ∙ last), h.exact)
