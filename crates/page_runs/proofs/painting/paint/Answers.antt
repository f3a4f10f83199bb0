use Rattle.std.proofs.Common.{Some, refl, arith, subst}
use Rattle.page_runs.specs.Spans.{Sets}
use Rattle.page_runs.specs.Changes.{painted}
use Rattle.page_runs.proofs.Walks.{no_change, one_more, all_done}
use Rattle.page_runs.proofs.painting.paint.Goals as goal

pub loop-at-init : goal.loop-at-init
loop-at-init c = record { low = omega arith; high = omega arith; changes = no_change (painted c.args.change) c.args.change.first c.args.spans.now c.requires.runs.ordered }

pub loop-at-preserved : goal.loop-at-preserved
loop-at-preserved c =
    let at = c.in-Some.ensures.some in
    record {
      low = omega (arith, at.from, c.loop-at.invariant.low);
      high = omega (arith, at.before);
      changes = one_more (painted c.args.change) (λ q. refl) c.args.change.first c.loop-at.next _ c.loop-at.invariant.low c.args.spans.now c.loop-at.spans c.loop-at.invariant.changes c.in-Some.at c.in-Some.span c.put.new.spans at
          (subst (λ mark. Sets c.loop-at.spans c.put.new.spans c.in-Some.at (Some (record { count = c.in-Some.span.count; mark = mark }))) c.made.ensures c.put.ensures);
    }

pub returns : goal.returns
returns c = all_done (painted c.args.change) (λ q. refl) c.args.change.first c.loop-at.next _ c.loop-at.invariant.low c.args.spans.now c.loop-at.spans c.loop-at.invariant.changes c.in_default.ensures.none c.loop-at.invariant.high
