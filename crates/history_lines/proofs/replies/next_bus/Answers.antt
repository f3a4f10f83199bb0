use Rattle.history_lines.proofs.Readers.{no_bus}
use Rattle.history_lines.proofs.replies.next_bus.Goals as goal

pub returns-in_err-next_address-clause-none : goal.returns-in_err-next_address-clause-none
returns-in_err-next_address-clause-none c = rw c.from_residual.ensures (no_bus c.args.words.now c.in_err-next_address.ensures.none)
