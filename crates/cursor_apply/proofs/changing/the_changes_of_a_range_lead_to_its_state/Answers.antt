use Rattle.cursor_apply.proofs.CallSteps.{ranged_steps}
use Rattle.cursor_apply.proofs.changing.the_changes_of_a_range_lead_to_its_state.Goals as goal

pub returns : goal.returns
returns c = ranged_steps
