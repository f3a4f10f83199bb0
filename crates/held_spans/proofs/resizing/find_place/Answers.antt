use Rattle.std.proofs.Common.{ℕ, ◌∙◌, ◌+◌, ◌*◌, ◌^◌, sym, subst, arith}
use Rattle.std.specs.Prelude.{Some, None}
use Rattle.machine_plan.specs.HeldRows.{AnswersGap}
use Rattle.held_spans.proofs.Placed.{placed}
use Rattle.held_spans.proofs.resizing.find_place.Goals as goal

pub returns-in-Some-clause-answers : goal.returns-in-Some-clause-answers
returns-in-Some-clause-answers c space st asked user shown =
    placed c.args.held.now.rows c.args.levels c.args.thread c.args.range c.requires.four c.requires.thread (omega arith) c.gap_in.result
    (subst (λ (n : ℕ). AnswersGap c.args.held.now.rows ((n + 1) * 2 ^ 27) (2 ^ 27) c.args.range.new c.gap_in.result) c.from.ensures c.gap_in.ensures.answers)
    space st asked shown (sym (c.is_too_far.ensures space st (asked _ user) shown) ∙ c.if-is_too_far.false) (sym (c.has_room.ensures space st asked shown) ∙ c.if-has_room.false)
    (Some c.in-Some.to) c.in-Some.is

pub returns-in-None-clause-answers : goal.returns-in-None-clause-answers
returns-in-None-clause-answers c space st asked user shown =
    placed c.args.held.now.rows c.args.levels c.args.thread c.args.range c.requires.four c.requires.thread (omega arith) c.gap_in.result
    (subst (λ (n : ℕ). AnswersGap c.args.held.now.rows ((n + 1) * 2 ^ 27) (2 ^ 27) c.args.range.new c.gap_in.result) c.from.ensures c.gap_in.ensures.answers)
    space st asked shown (sym (c.is_too_far.ensures space st (asked _ user) shown) ∙ c.if-is_too_far.false) (sym (c.has_room.ensures space st asked shown) ∙ c.if-has_room.false)
    None c.in-None.is
