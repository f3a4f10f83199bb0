use Rattle.tree_lock.proofs.Carried.{cover_stays, given_too}
use Rattle.tree_lock.proofs.cover_laws.a_cover_stays_with_its_rows.Goals as goal

pub returns-clause-stays : goal.returns-clause-stays
returns-clause-stays g c = cover_stays g.row.P-Row.Denot

pub returns-clause-given : goal.returns-clause-given
returns-clause-given g c = given_too g.row.P-Row.Denot
