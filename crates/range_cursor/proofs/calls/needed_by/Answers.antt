use Rattle.std.proofs.Common.{subst}
use Rattle.held_needs.specs.Calls.{AnswersNeed}
use Rattle.machine_plan.specs.declared.kit.Piece.{Piece}
use Rattle.std.specs.Prelude.{List}
use Rattle.range_cursor.proofs.Joined.{needs_by}
use Rattle.range_cursor.proofs.calls.needed_by.Goals as goal

pub returns : goal.returns
returns c =
    needs_by c.args.levels c.args.thread c.args.held.now.rows c.args.call.now c.args.kit.now c.place_of-to.result c.rows_needed.result c.requires.thread c.place_of-to.ensures
    (subst (λ (pieces : List Piece). AnswersNeed c.args.levels c.args.held.now.rows c.args.call.now c.place_of-to.result pieces c.rows_needed.result) c.as_slice.ensures.value c.rows_needed.ensures.needs)
