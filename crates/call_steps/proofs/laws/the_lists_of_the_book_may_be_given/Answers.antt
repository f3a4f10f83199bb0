use Rattle.call_steps.proofs.Law.{gives_give}
use Rattle.call_steps.proofs.laws.the_lists_of_the_book_may_be_given.Goals as goal

pub returns : goal.returns
returns c = gives_give
