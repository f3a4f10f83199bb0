use Rattle.std.proofs.Common.{◌≡◌}
use Rattle.row_table.specs.Passes.{view_of, kit_of, table_of}
use Rattle.tree_lock.specs.Tries.{IsSameBut}
use Rattle.tree_lock.specs.Descents.{IsOver, Stands}
use Rattle.tree_lock.proofs.descent.lock_top.Given as goal

abbrev pub invariant-loop-index : goal.invariant-loop-index
invariant-loop-index g l = record {
  table : table_of l.pass ≡ table_of l.fn.pass;
  kit : kit_of l.pass ≡ kit_of l.fn.pass;
  kept : IsSameBut (view_of l.fn.pass) (view_of l.pass);
  epoch : (view_of l.pass).epoch ≡ (view_of l.fn.pass).epoch;
  stands : Stands (view_of l.pass) l.at;
  over : IsOver l.levels l.zone l.at.row l.at.place;
}

abbrev pub decreases-loop-index : goal.decreases-loop-index
decreases-loop-index g l = l.at.place.level
