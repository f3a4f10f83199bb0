use Rattle.std.proofs.Common.{◌∙◌}
use Rattle.space_cells.specs.Held.{number_held}
use Rattle.space_cells.proofs.Released.{released_at}
use Rattle.space_cells.proofs.changes.released.Goals as goal

pub loop-place-preserved : goal.loop-place-preserved
loop-place-preserved c =
    released_at (number_held c.args.pages.now) c.args.changes.now c.loop-place.place _ c.loop-place-test.true _ c.split_at.ensures.front c.loop-place.numbers.items c.add_released.new.numbers.items c.in_ok-add_released.ensures
    ∙ c.loop-place.invariant
