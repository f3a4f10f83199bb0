use Rattle.history_lines.proofs.Readers.{no_undone, no_cause}
use Rattle.history_lines.proofs.replies.next_undone.Goals as goal

pub returns-in_err-operation-clause-none : goal.returns-in_err-operation-clause-none
returns-in_err-operation-clause-none c = rw c.from_residual.ensures
    (no_undone c.args.words.now (λ operation reason rest within is_why are. c.in_err-operation.ensures.none operation _ within are))

pub returns-in_err-why-clause-none : goal.returns-in_err-why-clause-none
returns-in_err-why-clause-none c = rw c.from_residual-in_err-why.ensures
    (no_undone c.args.words.now (no_cause c.args.words.now c.next_within.new.words _ c.in_ok-operation.ensures.found.1 c.in_err-why.ensures.none))
