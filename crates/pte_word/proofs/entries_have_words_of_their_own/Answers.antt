use Rattle.pte_word.proofs.Readings.{one_reading}
use Rattle.pte_word.proofs.entries_have_words_of_their_own.Goals as goal

pub returns : goal.returns
returns c = one_reading
