use Rattle.std.proofs.Common.{rules}
use Rattle.std.specs.Prelude.{List}
use Rattle.std.proofs.lemmas.List.Elements.{All-nil, All-push, All-same}
use Rattle.row_cells.specs.declared.Cell.{Cell}
use Rattle.row_table.specs.Close.{IsIdle}
use Rattle.row_table.specs.Passes.{view_of, IsPassOf}
use Rattle.row_table.specs.declared.pass.Pass.{Pass}
use Rattle.reuse_plan.specs.declared.store.Store.{Store}
use Rattle.reuse_plan.specs.contracts.store.StorePlan.TheImpl.{ghosts}
use Rattle.reuse_plan.specs.Stock.{StockData}
use Rattle.reuse_uses.proofs.tests.closed.Goals as goal

abbrev StorePass : Type 0
StorePass = Pass Store (List Cell) StockData (Unit {0}) (Unit {0}) ghosts

pub close-requires-clause-tables : goal.close-requires-clause-tables
close-requires-clause-tables c κs =
    let F : StorePass → Type 0 = λ p. IsPassOf c.args.iron p in
    let one : F c.in_ok-first.field-0 = search rules in let two : F c.in_ok-second.field-0 = search rules in
    All-same F _ _ c.in-Ok-push.ensures.items (All-push F c.push.new.self.items c.in_ok-second.field-0
    (All-same F _ _ c.in-Ok.ensures.items (All-push F c.new-passes.result.items c.in_ok-first.field-0 (All-same F _ _ c.new-passes.ensures.items (All-nil F)) one))
    two)

pub close-requires-clause-idle : goal.close-requires-clause-idle
close-requires-clause-idle c κs =
    let F : StorePass → Type 0 = λ p. IsIdle (view_of p) in
    let one : F c.in_ok-first.field-0 = search rules in let two : F c.in_ok-second.field-0 = search rules in
    All-same F _ _ c.in-Ok-push.ensures.items (All-push F c.push.new.self.items c.in_ok-second.field-0
    (All-same F _ _ c.in-Ok.ensures.items (All-push F c.new-passes.result.items c.in_ok-first.field-0 (All-same F _ _ c.new-passes.ensures.items (All-nil F)) one))
    two)
