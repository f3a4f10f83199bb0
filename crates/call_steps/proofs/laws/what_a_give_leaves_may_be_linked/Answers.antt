use Rattle.call_steps.proofs.Law.{gives_links}
use Rattle.call_steps.proofs.laws.what_a_give_leaves_may_be_linked.Goals as goal

pub returns : goal.returns
returns c = gives_links
