use Rattle.std.proofs.Common.{subst}
use Rattle.held_spans.specs.Resizing.{range_of}
use Rattle.range_cursor.specs.Resized.{RefusesResize, GivesPlacing}
use Rattle.range_cursor.proofs.Joined.{resized_is, resize_none}
use Rattle.range_cursor.proofs.calls.resized_at.Goals as goal

pub returns-in_default : goal.returns-in_default
returns-in_default c =
    resize_none c.args.levels c.args.thread c.args.held.now.rows c.args.space c.args.at c.args.old_len c.args.new_len c.in_default.field-0 0
    (subst (λ s. RefusesResize c.args.levels c.args.thread s c.args.at c.args.old_len c.args.new_len c.args.held.now.rows c.in_default.field-0) c.number.ensures.value c.in_default.ensures.refused)

pub returns : goal.returns
returns c =
    resized_is c.args.levels c.args.thread c.args.held.now.rows c.args.space c.args.at c.args.old_len c.args.new_len (range_of c.in-Ok.resized.range) c.in-Ok.resized.placing c.first_after.result c.in-Ok.ensures.range c.first_after.ensures
    (subst (λ s. GivesPlacing c.args.levels c.args.thread s c.args.at c.args.old_len c.args.new_len c.args.held.now.rows c.in-Ok.resized.placing) c.number.ensures.value c.in-Ok.ensures.granted)
