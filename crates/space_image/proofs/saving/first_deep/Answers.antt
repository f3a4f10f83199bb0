use Rattle.std.proofs.Common.{sym, ap, ◌∙◌}
use Rattle.page_map.specs.State.{space_at}
use Rattle.space_image.specs.Saving.{is_deep}
use Rattle.space_image.proofs.SavedItems.{first_deep, none_deep, none_deep_yet}
use Rattle.space_image.proofs.saving.first_deep.Goals as goal

pub returns-then-is_deep-clause-some : goal.returns-then-is_deep-clause-some
returns-then-is_deep-clause-some c =
    let run = c.in-Some.run' in
    let from = c.in-Some.ensures.some in
    first_deep (space_at c.args.plain.now c.args.space) c.loop-run.next run.first run.count from.longest c.loop-run.invariant.none
    (ap is_deep (sym from.status) ∙ sym c.is_deep.ensures ∙ c.if-is_deep.true)

pub loop-run-preserved : goal.loop-run-preserved
loop-run-preserved c =
    let run = c.in-Some.run' in
    let from = c.in-Some.ensures.some in
    record {
      few = c.in-Some.ensures.small;
      none = none_deep_yet (space_at c.args.plain.now c.args.space) c.loop-run.next run.first run.count from.longest c.loop-run.invariant.none
          (ap is_deep (sym from.status) ∙ sym c.is_deep.ensures ∙ c.if-is_deep.false);
    }

pub returns-clause-none : goal.returns-clause-none
returns-clause-none c = none_deep (space_at c.args.plain.now c.args.space) c.loop-run.next c.loop-run.invariant.none c.in_default.ensures.none
