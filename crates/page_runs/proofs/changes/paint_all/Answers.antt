use Rattle.page_runs.specs.Spans.{marks}
use Rattle.page_runs.proofs.Made.{all_filled, all_cut, made_are_runs, one_made}
use Rattle.page_runs.proofs.changes.paint_all.Goals as goal

pub loop-change-preserved : goal.loop-change-preserved
loop-change-preserved c =
    let so_far = c.loop-change.invariant in
    record {
      filled = all_filled c.loop-change.spans c.paint.new.spans c.args.changes.now c.loop-change.change-index _ c.loop-change-test.true c.requires.fits so_far.filled so_far.cut so_far.runs c.paint.ensures;
      cut = all_cut c.loop-change.spans c.paint.new.spans c.args.changes.now c.loop-change.change-index _ c.loop-change-test.true c.requires.fits so_far.filled so_far.cut so_far.runs c.paint.ensures;
      runs = made_are_runs c.loop-change.spans c.paint.new.spans c.args.changes.now c.loop-change.change-index _ c.loop-change-test.true c.requires.fits so_far.filled so_far.cut so_far.runs c.paint.ensures;
      made = one_made c.loop-change.spans c.paint.new.spans c.args.changes.now c.loop-change.change-index _ c.loop-change-test.true c.requires.fits so_far.filled so_far.cut so_far.runs c.paint.ensures (marks c.args.spans.now) so_far.made;
    }
