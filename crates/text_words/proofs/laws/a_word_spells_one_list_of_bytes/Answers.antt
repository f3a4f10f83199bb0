use Rattle.text_words.proofs.OneValue.{hex_injective}
use Rattle.text_words.proofs.laws.a_word_spells_one_list_of_bytes.Goals as goal

pub returns : goal.returns
returns c = hex_injective
