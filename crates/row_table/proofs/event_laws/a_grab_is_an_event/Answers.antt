use Rattle.row_table.proofs.Stepping.{got_event, held_event, stale_event}
use Rattle.row_table.proofs.event_laws.a_grab_is_an_event.Goals as goal

pub returns-clause-got : goal.returns-clause-got
returns-clause-got g c v w row content t = got_event v w row content t

pub returns-clause-held : goal.returns-clause-held
returns-clause-held g c v w row holder t = held_event v w row holder t

pub returns-clause-is_stale : goal.returns-clause-is_stale
returns-clause-is_stale g c v w row t = stale_event v w row t
