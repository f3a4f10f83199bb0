use Rattle.std.specs.Prelude.{is_some}
use Rattle.std.proofs.Common.{ap}
use Rattle.corten_base.specs.declared.calls.Call.{Call}
use Rattle.page_map.specs.Effect.{access_of}
use Rattle.range_cursor.specs.Mapped.{is_mapping}
use Rattle.range_cursor.specs.Moves.{is_move}
use Rattle.range_cursor.specs.PageRanges.{is_back, is_operation}
use Rattle.range_cursor.specs.Resized.{is_remap}
use Rattle.range_cursor.specs.Spaces.{makes_space}
use Rattle.range_cursor.specs.Transactions.{is_txn}
use Rattle.range_cursor.proofs.calls.plan.Goals as goal

pub returns-in-Map-clause-plans : goal.returns-in-Map-clause-plans
returns-in-Map-clause-plans c b may = c.plan_map.ensures.plans (ap is_mapping c.in-Map.is) b may (c.needed_by-needed.ensures b c.args.shelf.now may)

pub returns-in-Unmap-clause-plans : goal.returns-in-Unmap-clause-plans
returns-in-Unmap-clause-plans c b may = c.plan_ops.ensures.plans (ap is_operation c.in-Unmap.is) b c.args.thread c.args.shelf.now may (c.needed_by-needed.ensures b c.args.shelf.now may)

pub returns-in-Protect-clause-plans : goal.returns-in-Protect-clause-plans
returns-in-Protect-clause-plans c b may = c.plan_ops-in-Protect.ensures.plans (ap is_operation c.in-Protect.is) b c.args.thread c.args.shelf.now may (c.needed_by-needed.ensures b c.args.shelf.now may)

pub returns-in-Load-clause-plans : goal.returns-in-Load-clause-plans
returns-in-Load-clause-plans c b may = c.plan_access.ensures.plans (ap (λ (x : Call). is_some (access_of x)) c.in-Load.is) b may (c.needed_by-needed.ensures b c.args.shelf.now may)

pub returns-in-Store-clause-plans : goal.returns-in-Store-clause-plans
returns-in-Store-clause-plans c b may = c.plan_access-in-Store.ensures.plans (ap (λ (x : Call). is_some (access_of x)) c.in-Store.is) b may (c.needed_by-needed.ensures b c.args.shelf.now may)

pub returns-in-Fault-clause-plans : goal.returns-in-Fault-clause-plans
returns-in-Fault-clause-plans c b may = c.plan_access-in-Fault.ensures.plans (ap (λ (x : Call). is_some (access_of x)) c.in-Fault.is) b may (c.needed_by-needed.ensures b c.args.shelf.now may)

pub returns-in-Spawn-clause-plans : goal.returns-in-Spawn-clause-plans
returns-in-Spawn-clause-plans c b may = c.plan_space.ensures.plans (ap makes_space c.in-Spawn.is) b c.args.thread c.args.shelf.now may (c.needed_by-needed.ensures b c.args.shelf.now may)

pub returns-in-Fork-clause-plans : goal.returns-in-Fork-clause-plans
returns-in-Fork-clause-plans c b may = c.plan_space-in-Fork.ensures.plans (ap makes_space c.in-Fork.is) b c.args.thread c.args.shelf.now may (c.needed_by-needed.ensures b c.args.shelf.now may)

pub returns-in-Exit-clause-plans : goal.returns-in-Exit-clause-plans
returns-in-Exit-clause-plans c b may = c.plan_space-in-Exit.ensures.plans (ap makes_space c.in-Exit.is) b c.args.thread c.args.shelf.now may (c.needed_by-needed.ensures b c.args.shelf.now may)

pub returns-in-SwapOut-clause-plans : goal.returns-in-SwapOut-clause-plans
returns-in-SwapOut-clause-plans c b may = c.plan_move.ensures.plans (ap is_move c.in-SwapOut.is) b c.args.thread c.args.shelf.now may (c.needed_by-needed.ensures b c.args.shelf.now may)

pub returns-in-SwapIn-clause-plans : goal.returns-in-SwapIn-clause-plans
returns-in-SwapIn-clause-plans c b may = c.plan_move-in-SwapIn.ensures.plans (ap is_move c.in-SwapIn.is) b c.args.thread c.args.shelf.now may (c.needed_by-needed.ensures b c.args.shelf.now may)

pub returns-in-Txn-clause-plans : goal.returns-in-Txn-clause-plans
returns-in-Txn-clause-plans c b may = c.plan_txn.ensures.plans (ap is_txn c.in-Txn.is) b c.args.thread c.requires.thread may (c.needed_by-needed.ensures b c.args.shelf.now may)

pub returns-in-DontNeed-clause-plans : goal.returns-in-DontNeed-clause-plans
returns-in-DontNeed-clause-plans c b may = c.plan_back.ensures.plans (ap is_back c.in-DontNeed.is) b c.args.thread c.args.shelf.now may (c.needed_by-needed.ensures b c.args.shelf.now may)

pub returns-in-Remap-clause-plans : goal.returns-in-Remap-clause-plans
returns-in-Remap-clause-plans c b may = c.plan_remap.ensures.plans (ap is_remap c.in-Remap.is) c.args.shelf.now b may (c.needed_by-needed.ensures b c.args.shelf.now may)
