-- What is found of the machine that a legal history leaves is found of the history.
use Rattle.std.proofs.Common.{ℕ, List, subst}
use Rattle.std.proofs.lemmas.Result.{IfOk-weaker}
use Rattle.history_lines.specs.declared.history.History.{History}
use Rattle.history_lines.specs.declared.verdict.Verdict.TheVariants as verdict
use Rattle.history_lines.specs.Checking.{IsVerdict}
use Rattle.corten_run.specs.ImageAnswers.{IsSavedAs, IsSavedOf}
use Rattle.corten_run.specs.declared.ending.Ending.{Ending}
use Rattle.corten_run.proofs.ImageEndings.{saved_as}
use Rattle.corten_run.proofs.images.save_space.Goals as goal

pub returns-in-Legal : goal.returns-in-Legal
returns-in-Legal c =
    let h : History = c.args.history.now in
    let judged : IsVerdict h (verdict.Legal c.in-Legal.field-0) = subst (IsVerdict h) c.in-Legal.is c.in_ok-verdict.ensures.verdict in
    IfOk-weaker c.saved.result (λ (found : Ending × List ℕ). IsSavedOf c.in_ok-verdict.plain c.args.space found.0 found.1) (λ (found : Ending × List ℕ). IsSavedAs c.args.space h found.0 found.1)
    (λ found is. saved_as c.args.space h c.in_ok-verdict.plain found.0 found.1 c.requires judged.0 (c.in_ok-verdict.ensures.machine judged.0) is) c.saved.ensures
