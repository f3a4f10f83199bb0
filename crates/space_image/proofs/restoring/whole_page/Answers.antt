use Rattle.std.proofs.Common.{length, ap, ◌∙◌}
use Rattle.space_image.proofs.PageCells.{length_whole}
use Rattle.space_image.proofs.TrimmedBytes.{filled_up}
use Rattle.space_image.proofs.restoring.whole_page.Goals as goal

pub returns-clause-bytes : goal.returns-clause-bytes
returns-clause-bytes c = c.from_vec.ensures ∙ c.in_ok-resize.ensures.items ∙ filled_up c.args.bytes.now _ _ c.in_ok-page.ensures.items c.in_ok-page.ensures.len c.requires

pub returns-clause-size : goal.returns-clause-size
returns-clause-size c =
    ap length (c.from_vec.ensures ∙ c.in_ok-resize.ensures.items ∙ filled_up c.args.bytes.now _ _ c.in_ok-page.ensures.items c.in_ok-page.ensures.len c.requires)
    ∙ length_whole c.args.bytes.now c.requires
