use Rattle.std.proofs.Common.{◌∙◌, sym, subst, refl}
use Rattle.std.specs.Prelude.{Some}
use Rattle.held_spans.specs.declared.resizing.Placing.{Placing}
use Rattle.held_spans.specs.Resizing.{AnswersPlacing}
use Rattle.held_spans.proofs.Moved.{range_is, holed, unplaced, staying, moving}
use Rattle.held_spans.proofs.listing.moved_range.Goals as goal

pub returns-then-is_some-clause-answers : goal.returns-then-is_some-clause-answers
returns-then-is_some-clause-answers c =
    holed c.args.held.now.rows c.args.levels c.args.thread c.args.at c.args.old_len c.args.new_len (record { first = c.first.result; old = c.count.result; new = c.pages.result })
    (range_is c.args.at c.args.old_len c.args.new_len c.in_ok-old.old c.first.result c.count.result c.pages.result c.in_ok-old.ensures.value c.first.ensures.value c.count.ensures.value c.pages.ensures)
    (c.in_ok-old.ensures.some.0 refl) c.first_hole.result c.first_hole.ensures (sym c.is_some.ensures ∙ c.if-is_some.true)

pub returns-in-None-clause-answers : goal.returns-in-None-clause-answers
returns-in-None-clause-answers c =
    unplaced c.args.held.now.rows c.args.levels c.args.thread c.args.at c.args.old_len c.args.new_len (record { first = c.first.result; old = c.count.result; new = c.pages.result })
    (range_is c.args.at c.args.old_len c.args.new_len c.in_ok-old.old c.first.result c.count.result c.pages.result c.in_ok-old.ensures.value c.first.ensures.value c.count.ensures.value c.pages.ensures)
    (c.in_ok-old.ensures.some.0 refl) c.in-None.ensures.answers

pub returns-in-Some-Stays-clause-answers : goal.returns-in-Some-Stays-clause-answers
returns-in-Some-Stays-clause-answers c =
    staying c.args.held.now.rows c.args.levels c.args.thread c.args.at c.args.old_len c.args.new_len (record { first = c.first.result; old = c.count.result; new = c.pages.result })
    (range_is c.args.at c.args.old_len c.args.new_len c.in_ok-old.old c.first.result c.count.result c.pages.result c.in_ok-old.ensures.value c.first.ensures.value c.count.ensures.value c.pages.ensures)
    (c.in_ok-old.ensures.some.0 refl)
    (subst (λ (p : Placing). AnswersPlacing c.args.held.now.rows c.args.levels c.args.thread (record { first = c.first.result; old = c.count.result; new = c.pages.result }) (Some p)) c.in-Some-Stays.field-0-is c.in-Some-Stays.ensures.answers)

pub returns-in-Some-Moves-clause-answers : goal.returns-in-Some-Moves-clause-answers
returns-in-Some-Moves-clause-answers c =
    moving c.args.held.now.rows c.args.levels c.args.thread c.args.at c.args.old_len c.args.new_len (record { first = c.first.result; old = c.count.result; new = c.pages.result })
    (range_is c.args.at c.args.old_len c.args.new_len c.in_ok-old.old c.first.result c.count.result c.pages.result c.in_ok-old.ensures.value c.first.ensures.value c.count.ensures.value c.pages.ensures)
    (c.in_ok-old.ensures.some.0 refl) c.in-Some-Moves.field-0-0
    (subst (λ (p : Placing). AnswersPlacing c.args.held.now.rows c.args.levels c.args.thread (record { first = c.first.result; old = c.count.result; new = c.pages.result }) (Some p)) c.in-Some-Moves.field-0-is c.in-Some-Moves.ensures.answers)
    (sym c.is_absent.ensures ∙ c.if-is_absent.false) c.first_hole.result c.first_hole.ensures (sym c.is_some.ensures ∙ c.if-is_some.false) (sym c.is_length.ensures.value ∙ c.if-not-is_length.false)
