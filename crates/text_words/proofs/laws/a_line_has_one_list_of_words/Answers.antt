use Rattle.text_words.proofs.WordLists.{joined-words_of, words_of-joined}
use Rattle.text_words.proofs.laws.a_line_has_one_list_of_words.Goals as goal

pub returns : goal.returns
returns c = record { line = joined-words_of; words = words_of-joined }
