use Rattle.pte_word.proofs.Readings.{link_reading, leaf_reading}
use Rattle.pte_word.proofs.entries_are_those_of_the_core.Goals as goal

pub returns-clause-links : goal.returns-clause-links
returns-clause-links c = link_reading

pub returns-clause-leaves : goal.returns-clause-leaves
returns-clause-leaves c = leaf_reading
