use Rattle.std.proofs.Common.{◌≡◌, ◌++◌, ◌∷◌, [], sym, ap, subst, ◌∙◌}
use Rattle.page_map.specs.History.{limbo_of}
use Rattle.pageout.specs.Ages.{AreAgesOf, answered}
use Rattle.pageout.proofs.replay.follow.Goals as goal

pub returns-in-Ok-clause-right : goal.returns-in-Ok-clause-right
returns-in-Ok-clause-right c is limits files es short was =
    let same : c.in-Ok.reply ≡ c.args.entry.now.reply = c.is_same.ensures.0 is in
    subst (λ r. AreAgesOf limits files (es ++ answered c.args.entry.now.thread c.args.entry.now.call r ∷ []) c.step.new.self) same
    (c.in-Ok.ensures.history limits files es short (c.limbo_of.ensures ∙ ap limbo_of (sym same)) was)
