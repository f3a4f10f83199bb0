use Rattle.row_table.proofs.Stepping.{sets_event, unlinks_event}
use Rattle.row_table.proofs.event_laws.a_set_entry_and_an_unlink_are_events.Goals as goal

pub returns-clause-sets : goal.returns-clause-sets
returns-clause-sets g c v w linker index word found held t = sets_event v w linker index word found held t

pub returns-clause-unlinks : goal.returns-clause-unlinks
returns-clause-unlinks g c v w linker index held t = unlinks_event v w linker index held t
