use Rattle.space_image.proofs.InTurn.{none_refused, restores}
use Rattle.space_image.proofs.laws.an_image_is_restored.Goals as goal

pub returns : goal.returns
returns c = record { accepted = λ image right. none_refused image right; map = λ image right. restores image right }
