use Rattle.corten_run.proofs.SoloLegal.{solo_is_legal}
use Rattle.corten_run.proofs.laws.the_history_of_solo_is_legal.Goals as goal

pub returns : goal.returns
returns c = solo_is_legal
