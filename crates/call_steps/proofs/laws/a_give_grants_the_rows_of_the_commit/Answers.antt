use Rattle.call_steps.proofs.Law.{gives_taken}
use Rattle.call_steps.proofs.laws.a_give_grants_the_rows_of_the_commit.Goals as goal

pub returns : goal.returns
returns c = gives_taken
