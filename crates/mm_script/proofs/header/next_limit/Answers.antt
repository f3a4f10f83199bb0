use Rattle.std.proofs.Common.{◌+◌, ap}
use Rattle.mm_script.specs.Reading.{NoLine}
use Rattle.mm_script.proofs.header.next_limit.Goals as goal

pub returns-in_default-clause-bad : goal.returns-in_default-clause-bad
returns-in_default-clause-bad c = NoLine.none c.next_kept.new.lines c.in_default.ensures.none (ap (λ n. n + 1) c.taken.ensures.value)

pub returns-in-None-clause-bad : goal.returns-in-None-clause-bad
returns-in-None-clause-bad c = NoLine.other c.next_kept.new.lines c.in-Some.line.now c.in-Some.ensures.line c.taken-in-None.ensures.value c.in-None.ensures.none
