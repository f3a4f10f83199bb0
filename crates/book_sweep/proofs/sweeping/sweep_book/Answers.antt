use Rattle.std.proofs.Common.{sym, ap, ◌∙◌, arith}
use Rattle.std.specs.Prelude.{Some}
use Rattle.row_layout.specs.declared.places.Layout.{Layout}
use Rattle.row_table.specs.Passes.{view_of}
use Rattle.machine_plan.specs.Books.{BookData}
use Rattle.book_sweep.proofs.Kept.{stock, rows_below, moves_by_sweep, kept, sum_stays}
use Rattle.book_sweep.proofs.sweeping.sweep_book.Goals as goal

pub sweep-requires-clause-lists : goal.sweep-requires-clause-lists
sweep-requires-clause-lists c κs = stock (view_of c.args.pass.now) _ c.book.invariant.below (c.requires.found ∙ ap (λ (b : BookData). Some b) (sym c.book.view_is))

pub sweep-requires-clause-below : goal.sweep-requires-clause-below
sweep-requires-clause-below c κs = rows_below _ _ _ c.book.invariant.enough c.book.invariant.rows

pub invariant_of-book : goal.invariant_of-book
invariant_of-book c =
    let sizes = c.layout.ensures.sizes in let passes = ap (λ (k : Layout). k.passes) c.sweep.ensures.layout in
    let moves = moves_by_sweep (view_of c.args.pass.now) (view_of c.sweep.new.pass) _ c.sweep.new.free c.sweep.new.limbo.list _ _ _ c.book.invariant (c.requires.found ∙ ap (λ (b : BookData). Some b) (sym c.book.view_is)) c.requires.has
    (omega (arith, sizes, passes)) (omega (arith, sizes, passes)) c.sweep.ensures.sweeps in
    kept _ _ _ c.sweep.new.free c.sweep.new.limbo.list _ _ _ c.book.invariant moves c.sweep.new.limbo.room c.sweep.ensures.room

pub returns-clause-sum : goal.returns-clause-sum
returns-clause-sum c =
    let sizes = c.layout.ensures.sizes in let passes = ap (λ (k : Layout). k.passes) c.sweep.ensures.layout in
    let moves = moves_by_sweep (view_of c.args.pass.now) (view_of c.sweep.new.pass) _ c.sweep.new.free c.sweep.new.limbo.list _ _ _ c.book.invariant (c.requires.found ∙ ap (λ (b : BookData). Some b) (sym c.book.view_is)) c.requires.has
    (omega (arith, sizes, passes)) (omega (arith, sizes, passes)) c.sweep.ensures.sweeps in
    sum_stays _ _ _ c.sweep.new.free c.sweep.new.limbo.list _ _ _ c.book.invariant moves _ c.book.view_is
