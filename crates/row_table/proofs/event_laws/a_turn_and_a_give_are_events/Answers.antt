use Rattle.row_table.proofs.Stepping.{book_event, wait_event, gives_event}
use Rattle.row_table.proofs.event_laws.a_turn_and_a_give_are_events.Goals as goal

pub returns-clause-got : goal.returns-clause-got
returns-clause-got g c v w rows book t = book_event g.P.Plan.meaning v w rows book t

pub returns-clause-held : goal.returns-clause-held
returns-clause-held g c v w rows holder t = wait_event g.P.Plan.meaning v w rows holder t

pub returns-clause-give : goal.returns-clause-give
returns-clause-give g c v w new found gives = gives_event g.P.Plan.meaning v w new found gives

pub returns-clause-lists : goal.returns-clause-lists
returns-clause-lists g c k v old new may = (may.free, may.limbo)
