use Rattle.row_table.proofs.Stepping.{opens_event}
use Rattle.row_table.proofs.event_laws.an_opening_is_an_event.Goals as goal

pub returns : goal.returns
returns g c v w row found content t = opens_event g.P.Plan.meaning v w row found content t
