use Rattle.std.proofs.Common.{ap, sym, subst}
use Rattle.row_layout.specs.Limbo.{LimboList}
use Rattle.machine_plan.specs.Books.{BookData}
use Rattle.book.specs.Kept.{IsTableRow}
use Rattle.book.proofs.Blockers.{pushed_tells, rows_pushed}
use Rattle.book.proofs.Counted.{with_limbo}
use Rattle.book.proofs.book.Book.deposit.Goals as goal

pub invariant_of-self : goal.invariant_of-self
invariant_of-self c = with_limbo (record {
  limits = c.self.inside.limits;
  files = c.self.inside.shelf;
  journal = c.self.inside.journal.items;
  room = c.self.inside.places;
  frames = c.self.inside.pool;
  slots = c.self.inside.area;
  free = c.self.inside.free_rows;
  limbo = c.self.inside.limbo.list;
  next_generation = c.self.inside.next_generation;
}) c.push.new.self.list c.self.inside.aside _ _ _ (ap (λ (l : LimboList). l.room) c.push.ensures) (pushed_tells c.self.inside.limbo c.push.new.self c.args.sampled _ c.push.ensures c.unblocked.ensures c.self.invariant.tells)
    (rows_pushed _ c.self.inside.limbo c.push.new.self c.args.sampled _ c.push.ensures c.unblocked.ensures (subst (λ (x : BookData). IsTableRow x.limits.tables c.args.sampled) (sym c.self.view_is) c.requires.row) c.self.invariant.rows) c.self.invariant
