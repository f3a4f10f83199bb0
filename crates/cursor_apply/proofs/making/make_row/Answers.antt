use Rattle.row_table.specs.Passes.{view_of}
use Rattle.cursor_apply.proofs.Passing.{starts}
use Rattle.cursor_apply.proofs.making.make_row.Goals as goal

pub returns-else-part-clause-makes : goal.returns-else-part-clause-makes
returns-else-part-clause-makes g c = record {
  from = c.part_of-part.result.from;
  to = c.part_of-part.result.to;
  part = c.part_of-part.ensures;
  passing = starts c.args.change.making c.args.change.first c.args.place c.args.row c.part_of-part.result.from c.part_of-part.result.to c.args.cells.now (view_of c.args.pass.now) c.if-part.false c.requires.may;
}
