use Rattle.std.specs.Prelude.{◌≡◌, ◌*◌, ◌<◌, List, slice_index_or}
use Rattle.std.proofs.Common.{sym, ◌∙◌, ap, subst}
use Rattle.machine_plan.specs.HeldRows.{Row}
use Rattle.range_cursor.specs.Ranges.{NoneFrom}
use Rattle.range_cursor.proofs.Ranges.{none_before}
use Rattle.range_cursor.proofs.range_drawing.draw_at.Goals as goal

pub draw_row-requires-clause-none : goal.draw_row-requires-clause-none
draw_row-requires-clause-none c less page x low high held =
    let rows = c.args.held.now.rows in
    let d : Row = c.index-rows-place.result in
    let same : slice_index_or c.rows.result.now c.args.place d ≡ slice_index_or rows c.args.place d = ap (λ (xs : List Row). slice_index_or xs c.args.place d) c.rows.ensures.list in
    let level = ap (λ (y : Row). y.place.level) (sym same) ∙ c.if-at-ne1.false in
    let of_space = ap (λ (y : Row). y.place.space) (sym same) ∙ c.if-at-space.false in
    let none = none_before c.args.space rows c.args.place c.args.next c.args.end d c.rows.ensures.order c.requires.inside c.requires.behind level of_space in
    subst (λ (y : Row). y.place.prefix * 512 < c.args.end → NoneFrom y.place.space rows c.args.next (y.place.prefix * 512)) (sym same)
    (λ h. subst (λ s. NoneFrom s rows c.args.next ((slice_index_or rows c.args.place d).place.prefix * 512)) (sym of_space) (none h)) less page x low high held
