use Rattle.call_steps.proofs.Law.{gives_sum}
use Rattle.call_steps.proofs.laws.the_rows_of_the_book_add_up_after_a_call.Goals as goal

pub returns : goal.returns
returns c = gives_sum
