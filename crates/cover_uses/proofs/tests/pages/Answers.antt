use Rattle.std.proofs.Common.{arith}
use Rattle.row_table.specs.Passes.{layout_of}
use Rattle.cover_uses.proofs.Deepening.{user_range}
use Rattle.cover_uses.proofs.tests.pages.Goals as goal

pub returns : goal.returns
returns c = (omega arith, c.requires.count.0, user_range (layout_of c.args.iron.now).levels c.args.first c.args.count c.layout.ensures.sizes.4 c.requires.first.0 (let a = c.requires.first.1 in let b = c.requires.count.1 in omega arith))
