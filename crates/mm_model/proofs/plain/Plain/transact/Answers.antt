use Rattle.std.proofs.Common.{sym, ap, subst, ◌∙◌}
use Rattle.std.specs.List.{flat_map}
use Rattle.corten_base.specs.declared.calls.Call.TheVariants as call
use Rattle.corten_base.specs.declared.calls.Reply.TheVariants as reply
use Rattle.page_map.specs.Effect.{cut_by_op}
use Rattle.page_map.specs.Tables.{missing}
use Rattle.plain_counts.specs.Levels.{Lists}
use Rattle.mm_model.specs.Transactions.{MayCommit}
use Rattle.mm_model.proofs.OpCalls.{stopped_beside}
use Rattle.mm_model.proofs.TxnSteps.{committed}
use Rattle.mm_model.proofs.plain.Plain.transact.Goals as goal
use Rattle.mm_model.proofs.plain.Plain.transact.Goals.{In-Ok}

abbrev may : (c : In-Ok) → MayCommit c.args.self.now c.args.space c.args.ops.now
may c = record { at = c.args.at; len = c.args.len; limbo = c.args.limbo; passes = c.in-Ok.ensures.passes }

pub commit-requires-clause-may : goal.commit-requires-clause-may
commit-requires-clause-may c = may (goal.at.commit-requires-clause-may c).In-Ok

pub commit-requires-clause-missing : goal.commit-requires-clause-missing
commit-requires-clause-missing c =
    subst (λ items. Lists (missing (flat_map (cut_by_op c.args.self.now c.args.space) c.args.ops.now) c.args.self.now.tables) items) (sym c.deref.ensures.value) c.in-Ok.ensures.missing

pub returns-in_ok-commit-in-Ok-clause-ok : goal.returns-in_ok-commit-in-Ok-clause-ok
returns-in_ok-commit-in-Ok-clause-ok c thread =
    ap (λ st. (reply.Done, st)) c.in_ok-commit-in-Ok.ensures.ok
    ∙ committed c.args.self.now c.args.space c.args.ops.now (may (goal.at.returns-in_ok-commit-in-Ok-clause-ok c).In-Ok) thread

pub returns-in-Err-clause-ok : goal.returns-in-Err-clause-ok
returns-in-Err-clause-ok c =
    stopped_beside c.args.self.now c.args.limbo (call.Txn c.args.space c.args.at c.args.len c.args.ops.now) c.in-Err.stop c.in-Err.ensures.refused c.refusal.result c.refusal.ensures
