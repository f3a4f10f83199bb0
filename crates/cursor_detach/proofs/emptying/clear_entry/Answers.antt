use Rattle.row_table.specs.Passes.{view_of}
use Rattle.cursor_detach.proofs.Empty.{may_set, one_more}
use Rattle.cursor_detach.proofs.emptying.clear_entry.Goals as goal

pub set_entry-requires-clause-guard : goal.set_entry-requires-clause-guard
set_entry-requires-clause-guard g c κs within = let so = c.requires.so_far in may_set c.args.row c.args.index so.0 c.args.cells.now (view_of c.args.pass.now) so.1 c.requires.inside

pub returns-then-is_used-clause-further : goal.returns-then-is_used-clause-further
returns-then-is_used-clause-further g c = λ v so.
    one_more c.args.row c.args.index v c.args.cells.now (view_of c.args.pass.now) so (view_of c.set_entry.new.self) c.clear_cell.new.cells c.requires.inside c.set_entry.ensures.sets c.clear_cell.ensures
