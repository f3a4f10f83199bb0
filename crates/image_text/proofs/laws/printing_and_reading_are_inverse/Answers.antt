use Rattle.std.proofs.Common.{sym}
use Rattle.image_text.proofs.OneImage.{printed_text, read_again}
use Rattle.image_text.proofs.laws.printing_and_reading_are_inverse.Goals as goal

pub returns : goal.returns
returns c = record { printed = printed_text; read = read_again; again = λ bytes image text. sym text.whole }
