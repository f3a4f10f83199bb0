use Rattle.std.proofs.Common.{sym, ◌∙◌, ap}
use Rattle.std.specs.Prelude.{is_some}
use Rattle.range_cursor.proofs.Asking.{knows_root, range_right}
use Rattle.range_cursor.proofs.range_refusing.range_in.Goals as goal

pub returns-clause-granted : goal.returns-clause-granted
returns-clause-granted c st strict sees =
    let right = c.of_bytes.ensures.some.0 (ap is_some c.in-Some.is) in
    range_right st c.args.levels c.args.space c.args.at c.args.len right (sym (c.is_present.ensures st (knows_root st c.args.levels c.args.space c.args.at c.args.len strict c.args.held.now.rows sees right c.requires.space)) ∙ c.if-not-is_present.false)
