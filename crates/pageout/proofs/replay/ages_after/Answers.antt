use Rattle.std.proofs.Common.{◌+◌, ◌<◌, ◌^◌, take, length, length-take, subst, arith}
use Rattle.pageout.specs.Ages.{AreAgesOf}
use Rattle.pageout.proofs.Stepping.{entry_right, one_entry_more}
use Rattle.pageout.proofs.replay.ages_after.Goals as goal

pub returns-then-not-branch-clause-wrong : goal.returns-then-not-branch-clause-wrong
returns-then-not-branch-clause-wrong c legal =
    c.in_ok-follow.ensures.wrong c.if-not-branch.true
    (entry_right c.args.limits c.args.shelf c.args.entries.now c.loop-entry.entry-index c.entry-item.result c.loop-entry.ages legal c.loop-entry-test.true c.entry-item.is c.loop-entry.invariant)

pub loop-entry-preserved : goal.loop-entry-preserved
loop-entry-preserved c =
    let short : length (take c.loop-entry.entry-index c.args.entries.now) + 1 < 2 ^ 64 = omega (arith, length-take c.loop-entry.entry-index c.args.entries.now, c.loop-entry-test.true) in
    subst (λ es. AreAgesOf c.args.limits c.args.shelf es c.follow.new.ages) (one_entry_more c.args.entries.now c.loop-entry.entry-index c.entry-item.result c.loop-entry-test.true c.entry-item.is)
    (c.in_ok-follow.ensures.right c.if-not-branch.false c.args.limits c.args.shelf (take c.loop-entry.entry-index c.args.entries.now) short c.loop-entry.invariant)
