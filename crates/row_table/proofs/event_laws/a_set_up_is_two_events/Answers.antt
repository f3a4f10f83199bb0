use Rattle.std.proofs.Common.{refl}
use Rattle.row_table.proofs.event_laws.a_set_up_is_two_events.Goals as goal

pub returns-clause-position : goal.returns-clause-position
returns-clause-position g c v row found place = record { own = refl; at = refl; now = refl; after = refl }

pub returns-clause-generation : goal.returns-clause-generation
returns-clause-generation g c v row found generation = record { own = refl; at = refl; now = refl; after = refl }

pub returns-clause-both : goal.returns-clause-both
returns-clause-both g c v row generation place = refl
