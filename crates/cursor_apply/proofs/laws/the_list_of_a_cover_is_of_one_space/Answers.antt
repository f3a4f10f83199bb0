use Rattle.cursor_apply.proofs.CoverRows.{cover_is_fit}
use Rattle.cursor_apply.proofs.laws.the_list_of_a_cover_is_of_one_space.Goals as goal

pub returns : goal.returns
returns c = cover_is_fit
