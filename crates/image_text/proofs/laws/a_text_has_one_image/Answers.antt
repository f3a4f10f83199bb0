use Rattle.image_text.proofs.OneImage.{one_text}
use Rattle.image_text.proofs.laws.a_text_has_one_image.Goals as goal

pub returns : goal.returns
returns c = one_text
