use Rattle.text_words.proofs.WordLists.{none_left}
use Rattle.text_words.proofs.words.Words.is_done.Goals as goal

pub returns : goal.returns
returns c = none_left c.self.inside.done c.self.inside.rest.now c.args.self.now c.self.view_is
