use Rattle.std.proofs.Common.{sym, subst}
use Rattle.corten_base.specs.declared.calls.Call.{Call}
use Rattle.range_cursor.specs.Joined.{AnswersPlace}
use Rattle.range_cursor.proofs.calls.place_of.Goals as goal

pub returns-in-Map : goal.returns-in-Map
returns-in-Map c = subst (λ (x : Call). AnswersPlace c.args.levels c.args.thread c.args.held.now.rows x c.mapped_at.result) (sym c.in-Map.is) (c.mapped_at.ensures c.in-Map.perm c.in-Map.backing)

pub returns-in-Remap : goal.returns-in-Remap
returns-in-Remap c = subst (λ (x : Call). AnswersPlace c.args.levels c.args.thread c.args.held.now.rows x c.resized_at.result) (sym c.in-Remap.is) c.resized_at.ensures
