use Rattle.std.proofs.Common.{refl}
use Rattle.corten_run.specs.Solo.{solo_text}
use Rattle.corten_run.proofs.SoloLegal.{solo_has_text, solo_is_legal}
use Rattle.corten_run.proofs.laws.the_text_of_solo_is_a_history_text.Goals as goal

pub returns : goal.returns
unfolding solo_text
returns c = record {
  text = λ levels script h. record { has_text = solo_has_text levels script h; whole = refl };
  judged = λ levels script h. (solo_is_legal levels script h, refl);
}
