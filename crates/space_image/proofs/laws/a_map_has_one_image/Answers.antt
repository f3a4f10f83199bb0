use Rattle.space_image.proofs.OneList.{one_image}
use Rattle.space_image.proofs.laws.a_map_has_one_image.Goals as goal

pub returns : goal.returns
returns c limits files cells a b of too = one_image limits files cells a b of too
