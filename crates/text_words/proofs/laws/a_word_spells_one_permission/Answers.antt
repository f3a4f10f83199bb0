use Rattle.text_words.proofs.OneValue.{permission_injective}
use Rattle.text_words.proofs.laws.a_word_spells_one_permission.Goals as goal

pub returns : goal.returns
returns c = permission_injective
