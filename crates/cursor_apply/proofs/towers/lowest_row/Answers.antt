use Rattle.std.specs.Prelude.{◌-◌, slice_index_or}
use Rattle.std.proofs.Common.{arith}
use Rattle.std.proofs.lemmas.List.Elements.{Contains-get_or}
use Rattle.cursor_apply.proofs.towers.lowest_row.Goals as goal

pub spans-requires : goal.spans-requires
spans-requires c =
    let within = c.loop-at.invariant.within in
    let some = c.loop-at-test.true in
    record { level = c.requires.levels (slice_index_or c.args.rows.now (c.loop-at.at - 1) c.index-rows-at.result) (Contains-get_or c.args.rows.now (c.loop-at.at - 1) c.index-rows-at.result (omega arith)) }
