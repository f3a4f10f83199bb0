use Rattle.text_words.proofs.OneValue.{address_injective}
use Rattle.text_words.proofs.laws.a_word_spells_one_address.Goals as goal

pub returns : goal.returns
returns c = address_injective
