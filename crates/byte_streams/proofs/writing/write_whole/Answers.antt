-- A write takes a front of what is left.
use Rattle.byte_streams.proofs.Known.{written_more}
use Rattle.std.proofs.Common.{◌+◌, ◌≤◌, ◌∙◌, arith}
use Rattle.byte_streams.proofs.writing.write_whole.Goals as goal

pub loop-rest-preserved : goal.loop-rest-preserved
loop-rest-preserved g c =
    let before = c.loop-rest.invariant in
    let took = c.in-Took.ensures.answer in
    let more = written_more _ _ _ _ _ before.0 c.in-Took.count before.1 before.2 before.3 took.1 took.2 in
    (before.0 + c.in-Took.count, more.0, c.split_at.ensures.back ∙ more.1, more.2, omega (arith, before.4, c.in-Took.ensures.count))
