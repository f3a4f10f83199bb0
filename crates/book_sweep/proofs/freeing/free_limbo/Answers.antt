use Rattle.std.proofs.Common.{sym, ap, ◌∙◌, subst, arith}
use Rattle.machine_plan.specs.Books.{BookData}
use Rattle.book_sweep.specs.Freeing.{AreOnce}
use Rattle.book_sweep.proofs.Kept.{rows_below, kept, sum_stays}
use Rattle.book_sweep.proofs.Drained.{few, moves, apart_of}
use Rattle.book_sweep.proofs.freeing.free_limbo.Goals as goal

pub drain-requires-clause-few : goal.drain-requires-clause-few
drain-requires-clause-few c =
    let apart = apart_of _ _ _ _ c.book.invariant (subst AreOnce (sym c.book.view_is) c.requires.once) in
    let fit = few _ _ _ _ c.book.invariant apart in let tables = c.book.invariant.book.within.tables in omega (arith, fit, tables)

pub drain-requires-clause-below : goal.drain-requires-clause-below
drain-requires-clause-below c = rows_below _ _ _ c.book.invariant.enough c.book.invariant.rows

pub drain-requires-clause-apart : goal.drain-requires-clause-apart
drain-requires-clause-apart c = apart_of _ _ _ _ c.book.invariant (subst AreOnce (sym c.book.view_is) c.requires.once)

pub invariant_of-book : goal.invariant_of-book
invariant_of-book c =
    let apart = apart_of _ _ _ _ c.book.invariant (subst AreOnce (sym c.book.view_is) c.requires.once) in
    kept _ _ _ c.drain.new.free c.drain.new.limbo.list _ _ _ c.book.invariant (moves _ _ _ _ c.book.invariant apart c.drain.new.free c.drain.new.limbo.list c.drain.ensures.empty c.drain.ensures.frees) c.drain.new.limbo.room c.drain.ensures.room

pub returns-clause-sum : goal.returns-clause-sum
returns-clause-sum c =
    let apart = apart_of _ _ _ _ c.book.invariant (subst AreOnce (sym c.book.view_is) c.requires.once) in
    sum_stays _ _ _ c.drain.new.free c.drain.new.limbo.list _ _ _ c.book.invariant (moves _ _ _ _ c.book.invariant apart c.drain.new.free c.drain.new.limbo.list c.drain.ensures.empty c.drain.ensures.frees) _ c.book.view_is

pub returns-clause-legal : goal.returns-clause-legal
returns-clause-legal c = c.book.invariant.book.legal
