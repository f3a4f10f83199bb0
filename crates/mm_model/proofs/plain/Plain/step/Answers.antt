use Rattle.std.proofs.Common.{◌≤◌, ap, sym, subst}
use Rattle.page_map.specs.State.{State, IsConsistent, linked}
use Rattle.page_map.proofs.StepKeeps.{step_keeps}
use Rattle.mm_model.proofs.plain.Plain.step.Goals as goal

pub returns-clause-fits : goal.returns-clause-fits
returns-clause-fits c =
    let before = subst IsConsistent c.self.view_is c.self.invariant.state in
    subst (λ (st : State). linked st ≤ st.limits.tables) (sym (ap (λ p. p.1) c.in_ok-answer.ensures.ok))
    (step_keeps c.args.self.now c.args.thread c.args.limbo c.args.call.now c.requires.thread before).tables
