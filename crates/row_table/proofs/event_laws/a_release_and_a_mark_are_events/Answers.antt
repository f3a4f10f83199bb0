use Rattle.std.proofs.Common.{refl}
use Rattle.row_table.proofs.event_laws.a_release_and_a_mark_are_events.Goals as goal

pub returns-clause-release : goal.returns-clause-release
returns-clause-release g c v row found = record { own = refl; at = refl; now = refl; after = refl }

pub returns-clause-mark : goal.returns-clause-mark
returns-clause-mark g c v row found = record { own = refl; at = refl; now = refl; after = refl }
