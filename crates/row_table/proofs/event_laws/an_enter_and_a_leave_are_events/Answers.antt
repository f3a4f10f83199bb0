use Rattle.row_table.proofs.Stepping.{enters_event, leaves_event}
use Rattle.row_table.proofs.event_laws.an_enter_and_a_leave_are_events.Goals as goal

pub returns-clause-enter : goal.returns-clause-enter
returns-clause-enter g c v w t = enters_event v w t

pub returns-clause-leave : goal.returns-clause-leave
returns-clause-leave g c v right = leaves_event v right
