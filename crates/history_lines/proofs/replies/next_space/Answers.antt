use Rattle.history_lines.proofs.Readers.{no_space}
use Rattle.history_lines.proofs.replies.next_space.Goals as goal

pub returns-in_err-space-clause-none : goal.returns-in_err-space-clause-none
returns-in_err-space-clause-none c = rw c.from_residual.ensures (no_space c.args.words.now c.in_err-space.ensures.none)
