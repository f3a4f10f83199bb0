use Rattle.std.proofs.Common.{refl, ap}
use Rattle.page_map.specs.State.{space_at}
use Rattle.image_text.specs.ImageText.{image_text}
use Rattle.space_image.specs.Restoring.{left_at_start}
use Rattle.space_image.proofs.InTurn.{restores}
use Rattle.space_image.proofs.OneList.{one_image}
use Rattle.space_image.proofs.laws.an_image_is_saved_again.Goals as goal

pub returns : goal.returns
returns c image again right of = ap image_text (one_image image.limits image.files (space_at (left_at_start image) 0) again image of
    (record { same_limits = refl; same_files = refl; in_order = λ before after x e. (right.items before after x e).next; same_map = restores image right }))
