use Rattle.std.specs.Prelude.{List, slice_index_or}
use Rattle.std.proofs.Common.{sym, ap}
use Rattle.machine_plan.specs.HeldRows.{Row}
use Rattle.cursor_apply.proofs.changing.change_row.Goals as goal

pub make_row-requires-clause-level : goal.make_row-requires-clause-level
make_row-requires-clause-level g c κs within =
    let d = c.index-rows-at-2.result in
    (c.requires.may (slice_index_or c.rows-rows.result.now c.args.at d) d (ap (λ (l : List Row). slice_index_or l c.args.at d) (sym c.rows-rows.ensures.list))).0
