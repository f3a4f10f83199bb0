use Rattle.history_lines.proofs.Readers.{no_moved}
use Rattle.history_lines.proofs.replies.next_moved.Goals as goal

pub returns-in_err-next_count-clause-none : goal.returns-in_err-next_count-clause-none
returns-in_err-next_count-clause-none c = rw c.from_residual.ensures (no_moved c.args.words.now c.in_err-next_count.ensures.none)
