use Rattle.std.proofs.Common.{sym, subst}
use Rattle.corten_base.specs.declared.calls.Call.TheVariants as call
use Rattle.corten_base.specs.declared.calls.MapPlace.{MapPlace}
use Rattle.range_cursor.specs.Joined.{AnswersPlace}
use Rattle.range_cursor.proofs.calls.mapped_at.Goals as goal

pub returns-in-Any : goal.returns-in-Any
returns-in-Any c perm what =
    subst (λ (p : MapPlace). AnswersPlace c.args.levels c.args.thread c.args.held.now.rows (call.Map c.args.space p c.args.len perm what) c.gap_for.result) (sym c.in-Any.is) (c.gap_for.ensures perm what)

pub returns-in-At : goal.returns-in-At
returns-in-At c perm what =
    subst (λ (p : MapPlace). AnswersPlace c.args.levels c.args.thread c.args.held.now.rows (call.Map c.args.space p c.args.len perm what) 0) (sym c.in-At.is) (λ st held. tt)

pub returns-in-New : goal.returns-in-New
returns-in-New c perm what =
    subst (λ (p : MapPlace). AnswersPlace c.args.levels c.args.thread c.args.held.now.rows (call.Map c.args.space p c.args.len perm what) 0) (sym c.in-New.is) (λ st held. tt)
