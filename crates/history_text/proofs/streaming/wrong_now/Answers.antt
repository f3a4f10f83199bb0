use Rattle.std.proofs.Common.{subst}
use Rattle.history_text.specs.Streaming.{IsTried}
use Rattle.history_text.proofs.Tried.{tried_right, tried_behind}
use Rattle.history_text.proofs.streaming.wrong_now.Goals as goal

pub returns-in-Some : goal.returns-in-Some
returns-in-Some c = λ first start es at tried.
    tried_behind first start c.in-Some.before es c.args.entry.now c.args.plain.now c.args.plain.now (subst (IsTried first start es c.args.plain.now) c.in-Some.is tried)

pub returns-then-branch : goal.returns-then-branch
returns-then-branch c = λ first start es at tried.
    let right = c.in_ok-is_right-in-None.ensures in
    tried_right first start es c.args.entry.now c.args.plain.now c.is_right.new.plain (subst (IsTried first start es c.args.plain.now) c.in-None.is tried) (right.right.0 c.if-branch.true) (right.after c.if-branch.true)
