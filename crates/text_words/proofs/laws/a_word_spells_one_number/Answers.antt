use Rattle.text_words.proofs.OneValue.{number_injective}
use Rattle.text_words.proofs.laws.a_word_spells_one_number.Goals as goal

pub returns : goal.returns
returns c = number_injective
