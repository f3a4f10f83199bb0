use Rattle.row_table.proofs.Stepping.{keeps_lists}
use Rattle.row_table.proofs.event_laws.other_events_keep_the_lists.Goals as goal

pub returns : goal.returns
returns c e no_give = keeps_lists e no_give
