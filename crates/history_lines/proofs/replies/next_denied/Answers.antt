use Rattle.history_lines.proofs.Readers.{no_denied}
use Rattle.history_lines.proofs.replies.next_denied.Goals as goal

pub returns-in_err-next_address-clause-none : goal.returns-in_err-next_address-clause-none
returns-in_err-next_address-clause-none c = rw c.from_residual.ensures (no_denied c.args.words.now c.in_err-next_address.ensures.none)
