use Rattle.row_table.proofs.Stepping.{looks_event}
use Rattle.row_table.proofs.event_laws.a_look_is_an_event.Goals as goal

pub returns : goal.returns
returns g c v w row index word t = looks_event v w row index word t
