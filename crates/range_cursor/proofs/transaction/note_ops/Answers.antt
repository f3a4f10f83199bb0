use Rattle.std.proofs.Common.{◌∙◌, ap}
use Rattle.machine_plan.specs.declared.kit.Kit.{Kit}
use Rattle.range_cursor.proofs.Undone.{ops_more}
use Rattle.range_cursor.proofs.transaction.note_ops.Goals as goal

pub loop-op-preserved : goal.loop-op-preserved
loop-op-preserved c = record {
  kit = c.note_change.ensures.kit ∙ ap (λ (k : Kit). record k { changes = c.note_change.new.kit.changes }) c.loop-op.invariant.kit;
  changes = c.note_change.ensures.changes ∙ ops_more c.loop-op.kit.changes.items c.args.kit.now.changes.items c.args.ops.now c.loop-op.op-index _ c.loop-op-test.true c.loop-op.invariant.changes;
  room = c.note_change.ensures.room;
}
