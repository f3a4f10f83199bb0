use Rattle.std.proofs.Common.{refl}
use Rattle.row_uses.specs.Tally.{tally}
use Rattle.row_uses.proofs.Closings.{remembered}
use Rattle.row_table.specs.Passes.{view_of, layout_of}
use Rattle.row_uses.proofs.uses.journal_at_end.Goals as goal

pub returns-in-Closed-clause-journal : goal.returns-in-Closed-clause-journal
returns-in-Closed-clause-journal c = remembered tally (layout_of c.args.iron) (λ p. view_of p) c.args.passes.items _ _ _ c.in-Closed.parts.book (c.in-Closed.ensures.closed c.in-Closed.parts refl).1
