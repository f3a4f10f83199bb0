use Rattle.call_steps.proofs.Law.{gives_entry}
use Rattle.call_steps.proofs.laws.a_pass_has_seen_its_own_entry.Goals as goal

pub returns : goal.returns
returns c = gives_entry
