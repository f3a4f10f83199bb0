use Rattle.std.proofs.Common.{◌∷◌, sym, ap, ◌∙◌}
use Rattle.text_words.specs.Layout.{words_of}
use Rattle.text_words.proofs.WordLists.{left_not_done, words_of_first, words_of_one}
use Rattle.text_words.proofs.words.Words.next_word.Goals as goal

pub returns-in-Some-clause-word : goal.returns-in-Some-clause-word
returns-in-Some-clause-word c =
    let inside = c.self.inside in
    sym c.self.view_is
    ∙ left_not_done inside.done inside.rest.now c.if-self.false
    ∙ ap words_of c.in-Some.ensures.parts
    ∙ words_of_first c.in-Some.word.now c.in-Some.rest.now c.in-Some.ensures.first
    ∙ ap (λ ws. c.in-Some.word.now ∷ ws) (sym (left_not_done inside.done c.in-Some.rest.now c.if-self.false))

pub returns-in-None-clause-word : goal.returns-in-None-clause-word
returns-in-None-clause-word c =
    let inside = c.self.inside in
    sym c.self.view_is
    ∙ left_not_done inside.done inside.rest.now c.if-self.false
    ∙ words_of_one inside.rest.now c.in-None.ensures.none
