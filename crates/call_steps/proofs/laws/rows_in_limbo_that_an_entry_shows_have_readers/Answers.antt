use Rattle.call_steps.proofs.Law.{gives_shown}
use Rattle.call_steps.proofs.laws.rows_in_limbo_that_an_entry_shows_have_readers.Goals as goal

pub returns : goal.returns
returns c = gives_shown
