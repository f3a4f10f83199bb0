use Rattle.history_lines.proofs.Readers.{no_noswap}
use Rattle.history_lines.proofs.replies.next_no_swap.Goals as goal

pub returns-in_err-free-clause-none : goal.returns-in_err-free-clause-none
returns-in_err-free-clause-none c = rw c.from_residual.ensures (no_noswap c.args.words.now c.in_err-free.ensures.none)
