use Rattle.std.proofs.Common.{Some, refl, sym, ap, ◌∙◌}
use Rattle.row_table.specs.Passes.{view_of, layout_of}
use Rattle.row_table.proofs.OfTable.{knows_origin}
use Rattle.call_steps.proofs.Waited.{turned_since}
use Rattle.call_steps.proofs.turning.take_book.Goals as goal

pub loop-init : goal.loop-init
loop-init g c = record { table = refl; kit = refl; since = ((view_of c.args.pass.now).turn, refl) }

pub returns-in-Got-clause-turned : goal.returns-in-Got-clause-turned
returns-in-Got-clause-turned g c = let i = c.loop.invariant in let t = c.in-Got.ensures in
    turned_since (layout_of c.args.iron.now) (view_of c.args.pass.now) (view_of c.loop.pass) (view_of c.turn.new.self) i.since.0 c.in-Got.book i.since.1 t.layout t.turns.0 t.turns.1
