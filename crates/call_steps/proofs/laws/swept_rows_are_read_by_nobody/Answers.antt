use Rattle.call_steps.proofs.Law.{gives_sweep}
use Rattle.call_steps.proofs.laws.swept_rows_are_read_by_nobody.Goals as goal

pub returns : goal.returns
returns c = gives_sweep
