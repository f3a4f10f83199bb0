use Rattle.space_image.proofs.SavedImage.{saved_text}
use Rattle.space_image.proofs.laws.what_is_saved_can_be_restored.Goals as goal

pub returns : goal.returns
returns c = saved_text
