use Rattle.std.proofs.Common.{◌+◌, ◌-◌, refl, sym, subst, arith}
use Rattle.std.specs.List.{All}
use Rattle.std.proofs.lemmas.List.Elements.{All-push}
use Rattle.page_runs.specs.Changes.{IsChange, after_changes}
use Rattle.space_cells.specs.Moving.{HaveMoved}
use Rattle.space_cells.proofs.Moved.{all_moved, part_fits, part_moved}
use Rattle.space_cells.proofs.moving.add_moved.Goals as goal

pub loop-run-preserved : goal.loop-run-preserved
loop-run-preserved c =
    let r = c.args.relocation in
    let marks = c.args.marks.now in
    let part = c.in-Some.ensures.some in
    let was = c.loop-run.invariant in
    record {
      low = omega (arith, was.low, part.from);
      high = omega (arith, part.within);
      fits = subst (All IsChange) (sym c.in_ok-push.ensures.items) (All-push IsChange _ _ was.fits (part_fits marks r c.requires.movable c.loop-run.next was.low c.in-Some.run' part));
      moved = subst (λ cs. HaveMoved r (c.in-Some.run'.first + c.in-Some.run'.count - r.first) marks (after_changes marks cs)) (sym c.in_ok-push.ensures.items)
          (part_moved marks r c.requires.movable c.loop-run.changes.items c.loop-run.next was.low was.moved c.in-Some.run' _ part refl);
    }

pub returns-clause-moved : goal.returns-clause-moved
returns-clause-moved c =
    let was = c.loop-run.invariant in
    all_moved c.args.marks.now c.args.relocation c.requires.movable c.loop-run.changes.items c.loop-run.next was.low was.moved was.high c.in_default.ensures.none
