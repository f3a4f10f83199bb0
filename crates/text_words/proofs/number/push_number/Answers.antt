use Rattle.std.proofs.Common.{◌++◌, ◌∷◌, [], sym, ap, ◌∙◌}
use Rattle.text_words.proofs.Numerals.{digits-one}
use Rattle.text_words.proofs.number.push_number.Goals as goal

pub returns-then-value-lt10-clause-ok : goal.returns-then-value-lt10-clause-ok
returns-then-value-lt10-clause-ok c =
    c.in_ok-push.ensures.items
    ∙ ap (λ d. c.args.out.now.items ++ (d ∷ [])) c.digit.ensures
    ∙ ap (λ ds. c.args.out.now.items ++ ds) (sym (digits-one c.args.value c.if-value-lt10.true))
