use Rattle.std.proofs.Common.{◌≡◌, ℕ, ◌*◌, false, sym, ap, subst, ◌∙◌, arith}
use Rattle.std.specs.Prelude.{IfOk, Some}
use Rattle.corten_base.specs.declared.calls.Reply.TheVariants as reply
use Rattle.corten_base.specs.declared.calls.TxnOp.{TxnOp}
use Rattle.page_map.proofs.Steps.{refused}
use Rattle.page_map.specs.Step.{step}
use Rattle.txn_plan.specs.Needs.{range_of}
use Rattle.mm_model.specs.Lacking.{tables_lack}
use Rattle.mm_model.specs.Operations.{IsFit, after_operation, wanted_by}
use Rattle.mm_model.specs.Placing.{call_of, mapping_op}
use Rattle.mm_model.proofs.OpCalls.{stopped_at}
use Rattle.mm_model.proofs.Placed.{placed_range}
use Rattle.mm_model.proofs.Placing.{placed_lacks, placed_step}
use Rattle.mm_model.proofs.plain.Plain.map_at_gap.Goals as goal
use Rattle.mm_model.proofs.plain.Plain.map_at_gap.Goals.{After-operate}

pub overflow_mul-at : goal.overflow_mul-at
overflow_mul-at c = omega (arith, c.in-Ok.ensures.placed.low)

pub operate-requires-clause-fits : goal.operate-requires-clause-fits
operate-requires-clause-fits c =
    let P : ℕ × TxnOp → Type 0 = λ x. IsFit c.args.self.now x.0 x.1 in
    subst P (λ i. (sym c.number.ensures.value i, sym c.operation-op.ensures i)) c.in-Ok.ensures.placed.fits

pub operate-requires-clause-range : goal.operate-requires-clause-range
operate-requires-clause-range c = placed_range c.args.mapping.now c.in-Ok.first c.pages-count.result c.pages-count.ensures.count ∙ ap range_of (sym c.operation-op.ensures)

pub returns-in-Err-clause-ok : goal.returns-in-Err-clause-ok
returns-in-Err-clause-ok c = sym (refused c.args.self.now c.args.thread (call_of c.args.mapping.now) c.args.limbo c.in-Err.refused (c.in-Err.ensures.refused c.args.limbo))

-- what is lacked, of the space and the operation under their other names
lacked : (c : After-operate) → tables_lack c.args.self.now (wanted_by c.args.self.now c.number.result c.operation-op.result) c.args.limbo
    ≡ tables_lack c.args.self.now (wanted_by c.args.self.now c.args.mapping.now.space (mapping_op c.args.mapping.now (4096 * c.in-Ok.first) false)) c.args.limbo
lacked c = λ i. tables_lack c.args.self.now (wanted_by c.args.self.now (c.number.ensures.value i) (c.operation-op.ensures i)) c.args.limbo

pub returns-in-Ok-operate-clause-ok : goal.returns-in-Ok-operate-clause-ok
returns-in-Ok-operate-clause-ok c =
    let at = (goal.at.returns-in-Ok-operate-clause-ok c).After-operate in
    (λ i. (reply.At (4096 * c.in-Ok.first), (c.in-Ok-operate.ensures.ok ∙ (λ j. after_operation c.args.self.now (c.number.ensures.value j) (c.operation-op.ensures j))) i))
    ∙ placed_step c.args.self.now c.args.thread c.args.mapping.now c.args.limbo c.in-Ok.first c.in-Ok.ensures.placed (sym (lacked at) ∙ c.in-Ok-operate.ensures.enough)

pub returns-in-Err-operate-clause-ok : goal.returns-in-Err-operate-clause-ok
returns-in-Err-operate-clause-ok c =
    let at = (goal.at.returns-in-Err-operate-clause-ok c).After-operate in
    let st = c.args.self.now in
    subst (λ next. IfOk c.refusal.result (λ reply. (reply, next) ≡ step st c.args.thread (call_of c.args.mapping.now) c.args.limbo)) (sym c.in-Err-operate.ensures.kept)
    (stopped_at c.in-Err-operate.stop c.refusal.result c.refusal.ensures {P = λ r. tables_lack st (wanted_by st c.number.result c.operation-op.result) c.args.limbo ≡ Some r} c.in-Err-operate.ensures.refused
    (λ r lacks. placed_lacks st c.args.thread c.args.mapping.now c.args.limbo c.in-Ok.first c.in-Ok.ensures.placed r (sym (lacked at) ∙ lacks)))
