use Rattle.std.proofs.Common.{arith}
use Rattle.page_map.specs.State.{space_at}
use Rattle.space_image.proofs.SavedItems.{all_saved, line_added, none_saved}
use Rattle.space_image.proofs.saving.save_runs.Goals as goal

pub loop-run-init : goal.loop-run-init
loop-run-init c = record { few = omega arith; saved = none_saved (space_at c.args.plain.now c.args.space) c.args.out.now.items }

pub loop-run-preserved : goal.loop-run-preserved
loop-run-preserved c = record {
  few = c.in-Some.ensures.small;
  saved = line_added (space_at c.args.plain.now c.args.space) c.loop-run.next c.in-Some.run' c.args.out.now.items c.loop-run.out.items c.save_run.new.out.items
      c.loop-run.invariant.saved c.in-Some.ensures.some.longest c.in_ok-save_run.ensures;
}

pub returns : goal.returns
returns c = all_saved (space_at c.args.plain.now c.args.space) c.loop-run.next c.args.out.now.items c.loop-run.out.items c.loop-run.invariant.saved c.in_default.ensures.none
