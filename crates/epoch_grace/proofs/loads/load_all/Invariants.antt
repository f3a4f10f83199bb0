use Rattle.std.proofs.Common.{◌≡◌}
use Rattle.row_table.specs.Passes.{view_of, kit_of, table_of, layout_of}
use Rattle.epoch_grace.proofs.Loaded.{LoadedTo}
use Rattle.epoch_grace.proofs.loads.load_all.Given as goal

abbrev pub invariant-loop-other : goal.invariant-loop-other
invariant-loop-other g l = (table_of l.pass ≡ table_of l.fn.pass) × (kit_of l.pass ≡ kit_of l.fn.pass) × LoadedTo g.P.Plan.meaning (layout_of l.iron) (view_of l.fn.pass) (view_of l.pass) l.other l.numbers
