use Rattle.std.proofs.Common.{rules, Bool}
use Rattle.std.proofs.lemmas.List.Elements.{All-nil, All-push, All-same}
use Rattle.row_table.specs.declared.pass.Pass.{Pass}
use Rattle.row_table.specs.Close.{IsIdle}
use Rattle.row_table.specs.Passes.{view_of}
use Rattle.row_uses.specs.declared.sowing.Field.{Field}
use Rattle.row_uses.specs.declared.sowing.Seeds.{Seeds}
use Rattle.row_uses.specs.contracts.sowing.FieldPlan.TheImpl.{ghosts}
use Rattle.cover_uses.proofs.waiting_tests.both.Goals as goal

pub close-requires-clause-idle : goal.close-requires-clause-idle
close-requires-clause-idle g c κs =
    let F : Pass Field Bool Seeds (Unit {0}) (Unit {0}) ghosts → Type 0 = λ p. IsIdle (view_of p) in
    let one : IsIdle (view_of c.join-first.result.0.0) = search rules in let two : IsIdle (view_of c.join-first.result.1.0) = search rules in
    All-same F _ _ c.in_ok-push-2.ensures.items (All-push F c.push.new.self.items c.join-first.result.1.0
    (All-same F _ _ c.in_ok-push.ensures.items (All-push F c.new-passes.result.items c.join-first.result.0.0 (All-same F _ _ c.new-passes.ensures.items (All-nil F)) one))
    two)
