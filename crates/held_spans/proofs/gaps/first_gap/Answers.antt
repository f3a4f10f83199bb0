use Rattle.std.specs.Prelude.{IfSome}
use Rattle.std.proofs.Common.{subst}
use Rattle.machine_plan.specs.HeldRows.{AnswersGap}
use Rattle.held_spans.specs.Gaps.{IsWithin}
use Rattle.held_spans.proofs.gaps.first_gap.Goals as goal

pub returns-clause-answers : goal.returns-clause-answers
returns-clause-answers c =
    subst (λ first. AnswersGap c.args.held.now.rows first c.args.arena.now.count c.args.count c.gap_in.result) c.first.ensures.value
    (subst (λ pages. AnswersGap c.args.held.now.rows c.first.result pages c.args.count c.gap_in.result) c.count.ensures.value c.gap_in.ensures.answers)

pub returns-clause-inside : goal.returns-clause-inside
returns-clause-inside c =
    subst (λ first. IfSome c.gap_in.result (IsWithin first c.args.arena.now.count c.args.count)) c.first.ensures.value
    (subst (λ pages. IfSome c.gap_in.result (IsWithin c.first.result pages c.args.count)) c.count.ensures.value c.gap_in.ensures.inside)
