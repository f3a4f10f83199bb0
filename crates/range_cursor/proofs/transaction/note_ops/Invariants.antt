use Rattle.std.specs.Prelude.{◌≡◌, ◌++◌, map, take}
use Rattle.machine_plan.specs.declared.kit.Change.TheVariants as change
use Rattle.machine_plan.specs.Kits.{HasRoom}
use Rattle.range_cursor.proofs.transaction.note_ops.Given as goal

-- the operations before this one are listed
abbrev pub invariant-loop-op : goal.invariant-loop-op
invariant-loop-op l = record {
  kit : l.kit ≡ record l.fn.kit { changes = l.kit.changes };
  changes : l.kit.changes.items ≡ l.fn.kit.changes.items ++ map change.Op (take l.op-index l.fn.ops);
  room : HasRoom l.kit;
}
