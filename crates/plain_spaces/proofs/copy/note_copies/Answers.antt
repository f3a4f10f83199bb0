use Rattle.std.proofs.Common.{take_all, ap, ◌∙◌, arith}
use Rattle.std.specs.FinSet as set
use Rattle.plain_spaces.specs.Copies.{used_copies}
use Rattle.plain_spaces.proofs.Copied.{noted_none, noted_more}
use Rattle.plain_spaces.proofs.copy.note_copies.Goals as goal

pub loop-place-init : goal.loop-place-init
loop-place-init c = noted_none c.args.copies.now

pub loop-place-preserved : goal.loop-place-preserved
loop-place-preserved c =
    noted_more c.args.levels c.args.new c.args.cells.now c.args.copies.now c.loop-place.copies c.note_copy.new.copies c.args.places.now c.loop-place.place-index _ c.loop-place-test.true
    c.loop-place.invariant c.in_ok-note_copy.ensures

pub returns : goal.returns
returns c =
    c.loop-place.invariant
    ∙ ap (λ ps. set.union c.args.copies.now (set.from_list (used_copies c.args.levels c.args.new c.args.cells.now ps))) (take_all c.loop-place.place-index c.args.places.now (omega (arith, c.loop-place-test.false)))
