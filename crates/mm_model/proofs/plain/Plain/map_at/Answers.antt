use Rattle.std.proofs.Common.{◌≡◌, ℕ, ap, sym, subst, ◌∙◌}
use Rattle.std.specs.Prelude.{IfOk, Some}
use Rattle.corten_base.specs.declared.calls.Reply.TheVariants as reply
use Rattle.corten_base.specs.declared.calls.TxnOp.{TxnOp}
use Rattle.page_map.proofs.Steps.{refused}
use Rattle.page_map.specs.Step.{step}
use Rattle.txn_plan.specs.Needs.{range_of}
use Rattle.mm_model.specs.Lacking.{tables_lack}
use Rattle.mm_model.specs.Operations.{IsFit, after_operation, wanted_by}
use Rattle.mm_model.specs.Placing.{call_at, mapping_op}
use Rattle.mm_model.proofs.Fixed.{op_at}
use Rattle.mm_model.proofs.OpCalls.{lacking, operated, stopped_at}
use Rattle.mm_model.proofs.plain.Plain.map_at.Goals as goal
use Rattle.mm_model.proofs.plain.Plain.map_at.Goals.{After-operate}

pub operate-requires-clause-fits : goal.operate-requires-clause-fits
operate-requires-clause-fits c =
    let P : ℕ × TxnOp → Type 0 = λ x. IsFit c.args.self.now x.0 x.1 in
    subst P (λ i. (sym c.number.ensures.value i, sym c.operation-op.ensures i)) c.in-Ok.ensures.fixed.fits

pub operate-requires-clause-range : goal.operate-requires-clause-range
operate-requires-clause-range c = c.in-Ok.ensures.fixed.pages ∙ ap range_of (sym c.operation-op.ensures)

pub returns-in-Err-clause-ok : goal.returns-in-Err-clause-ok
returns-in-Err-clause-ok c thread =
    sym (refused c.args.self.now thread (call_at c.args.mapping.now c.args.at c.args.fresh) c.args.limbo c.in-Err.refused (c.in-Err.ensures.refused thread c.args.limbo))

-- what is lacked, of the space and the operation under their other names
lacked : (c : After-operate) → tables_lack c.args.self.now (wanted_by c.args.self.now c.number.result c.operation-op.result) c.args.limbo
    ≡ tables_lack c.args.self.now (wanted_by c.args.self.now c.args.mapping.now.space (mapping_op c.args.mapping.now c.args.at c.args.fresh)) c.args.limbo
lacked c = λ i. tables_lack c.args.self.now (wanted_by c.args.self.now (c.number.ensures.value i) (c.operation-op.ensures i)) c.args.limbo

pub returns-in-Ok-operate-clause-ok : goal.returns-in-Ok-operate-clause-ok
returns-in-Ok-operate-clause-ok c thread =
    let at = (goal.at.returns-in-Ok-operate-clause-ok c).After-operate in
    let m = c.args.mapping.now in
    (λ i. (reply.At c.args.at, (c.in-Ok-operate.ensures.ok ∙ (λ j. after_operation c.args.self.now (c.number.ensures.value j) (c.operation-op.ensures j))) i))
    ∙ operated c.args.self.now (call_at m c.args.at c.args.fresh) m.space (mapping_op m c.args.at c.args.fresh) (reply.At c.args.at) (op_at c.args.self.now m c.args.at c.args.fresh) thread c.args.limbo
    c.in-Ok.ensures.fixed.fits (sym (lacked at) ∙ c.in-Ok-operate.ensures.enough)

pub returns-in-Err-operate-clause-ok : goal.returns-in-Err-operate-clause-ok
returns-in-Err-operate-clause-ok c =
    let at = (goal.at.returns-in-Err-operate-clause-ok c).After-operate in
    let st = c.args.self.now in
    let m = c.args.mapping.now in
    subst (λ next. IfOk c.refusal.result (λ reply. (thread : ℕ) → (reply, next) ≡ step st thread (call_at m c.args.at c.args.fresh) c.args.limbo)) (sym c.in-Err-operate.ensures.kept)
    (stopped_at c.in-Err-operate.stop c.refusal.result c.refusal.ensures {P = λ r. tables_lack st (wanted_by st c.number.result c.operation-op.result) c.args.limbo ≡ Some r} c.in-Err-operate.ensures.refused
    (λ r lacks thread. lacking st (call_at m c.args.at c.args.fresh) m.space (mapping_op m c.args.at c.args.fresh) (reply.At c.args.at) (op_at st m c.args.at c.args.fresh) thread c.args.limbo c.in-Ok.ensures.fixed.fits r (sym (lacked at) ∙ lacks)))
