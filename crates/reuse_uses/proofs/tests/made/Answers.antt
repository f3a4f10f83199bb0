use Rattle.std.proofs.Common.{◌≡◌, [], ◌∷◌, length, length-append, ap, arith, Some, List}
use Rattle.row_cells.specs.declared.Cell.{Cell}
use Rattle.row_table.specs.declared.pass.Pass.{Pass}
use Rattle.row_table.specs.Passes.{view_of, number_of, IsPassOf}
use Rattle.row_table.specs.Rule.{unmoved}
use Rattle.row_uses.proofs.Visits.{new_idle}
use Rattle.reuse_plan.specs.declared.store.Store.{Store}
use Rattle.reuse_plan.specs.contracts.store.StorePlan.TheImpl.{ghosts}
use Rattle.reuse_plan.specs.Stock.{StockData}
use Rattle.reuse_uses.proofs.Starts.{last_two, blank_none, blank_more, may_start}
use Rattle.reuse_uses.proofs.tests.made.Goals as goal

abbrev IsOwn : goal.After-drop-passes-2 → Pass Store (List Cell) StockData (Unit {0}) (Unit {0}) ghosts → Type 0
IsOwn c p = IsPassOf c.in_ok-iron.iron p × (view_of p ≡ unmoved (record { rows = 3; passes = 2; levels = 4 }) (Some c.in_ok-stock.stock) (number_of p))

pub loop-init : goal.loop-init
loop-init c = (ap length c.new-rows.ensures.items, blank_none _ c.new-rows.ensures.items)

pub loop-preserved : goal.loop-preserved
loop-preserved c = (
  (let e = ap length c.in_ok-push.ensures.items in let more = length-append c.loop.rows.items (c.in_ok-cells.cells ∷ []) in let is = c.loop.invariant.0 in omega arith),
  blank_more c.loop.rows.items _ _ c.loop.invariant.1 c.in_ok-cells.ensures c.in_ok-push.ensures.items,
)

pub new-requires-3-clause-starts : goal.new-requires-3-clause-starts
new-requires-3-clause-starts c κs = may_start _ _ _
    (let is = c.loop.invariant.0 in let past = c.loop-test.false in let most = c.loop.auto.counter-end in omega arith) c.loop.invariant.1 (omega arith) c.in_ok-stock.ensures

-- what the table says of the two passes that come out of it
passes : (c : goal.After-drop-passes-2) → IsOwn c c.in-Some.second × IsOwn c c.in-Some-pop.first
passes c = last_two (IsOwn c) c.in_ok-iron.passes.items c.pop.new.self.items c.pop-2.new.self.items c.in-Some.second c.in-Some-pop.first c.in_ok-iron.ensures.views c.in-Some.ensures.items c.in-Some-pop.ensures.items

pub returns-clause-first : goal.returns-clause-first
returns-clause-first c = let own = (passes c).1 in (own.0, new_idle _ _ _ _ own.1)

pub returns-clause-second : goal.returns-clause-second
returns-clause-second c = let own = (passes c).0 in (own.0, new_idle _ _ _ _ own.1)
