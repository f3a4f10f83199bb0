use Rattle.std.specs.Prelude.{◌<◌, List, length, slice_index_or}
use Rattle.std.proofs.Common.{sym, subst, ap, arith, ◌∙◌}
use Rattle.std.proofs.lemmas.List.Elements.{Contains-get_or}
use Rattle.machine_plan.specs.Held.{ListHolds}
use Rattle.machine_plan.specs.HeldRows.{Row}
use Rattle.space_apply.specs.Copying.{copy_at}
use Rattle.space_apply.proofs.MarkedRows.{next_is, source_there, one_more}
use Rattle.space_apply.proofs.marking.copy_marks.Goals as goal

pub copy_place-requires-clause-source : goal.copy_place-requires-clause-source
copy_place-requires-clause-source c = λ d of_new low.
    let rows = c.args.held.now.rows in
    let so = c.loop-at.invariant.marks in
    let inside : c.loop-at.at < length rows = subst (λ (l : List Row). c.loop-at.at < length l) c.rows.ensures.list (let h = c.loop-at-test.true in omega arith) in
    let x = slice_index_or rows c.loop-at.at d in
    let same = next_is c.args.space c.args.new c.loop-at.at rows c.loop-at.held.rows c.requires.two so d in
    source_there c.args.space c.args.new c.loop-at.at rows c.loop-at.held.rows c.requires.two so (copy_at c.args.space (slice_index_or c.loop-at.held.rows c.loop-at.at d).place)
    (subst (λ (y : Row). ListHolds rows (copy_at c.args.space y.place)) (sym same) (c.requires.sources x (Contains-get_or rows c.loop-at.at d inside) (ap (λ (y : Row). y.place.space) (sym same) ∙ of_new) (subst (λ (y : Row). y.place.level < 6) same low)))

pub loop-at-preserved : goal.loop-at-preserved
loop-at-preserved c =
    let rows = c.args.held.now.rows in
    let inside : c.loop-at.at < length rows = subst (λ (l : List Row). c.loop-at.at < length l) c.rows.ensures.list (let h = c.loop-at-test.true in omega arith) in
    record {
      marks = one_more c.args.space c.args.new c.loop-at.at rows c.loop-at.held.rows c.requires.two c.loop-at.invariant.marks inside c.copy_place.new.held.rows c.copy_place.ensures.marks;
      room = c.copy_place.ensures.room ∙ c.loop-at.invariant.room;
    }
