use Rattle.std.proofs.Common.{◌≡◌, true, Some, refl, sym, ap, subst, ◌∙◌}
use Rattle.std.specs.Prelude.{IfOk, is_some}
use Rattle.std.specs.Option.{option_copied}
use Rattle.std.specs.FinMap as map
use Rattle.corten_base.specs.declared.calls.Call.TheVariants as call
use Rattle.corten_base.specs.declared.calls.Reply.TheVariants as reply
use Rattle.corten_base.specs.declared.calls.TxnOp.{TxnOp}
use Rattle.corten_base.specs.declared.calls.TxnOp.TheVariants as op
use Rattle.table_place.specs.Place.{is_page_range}
use Rattle.page_map.specs.State.{State, levels}
use Rattle.mm_model.specs.Lacking.{tables_lack}
use Rattle.mm_model.specs.Operations.{IsFit, wanted_by}
use Rattle.mm_model.specs.Steps.{IsStepBeside}
use Rattle.mm_model.proofs.OpCalls.{copied_there, no_range, not_there, wrong, absent, lacking, operated, named_beside, stopped_step}
use Rattle.mm_model.proofs.OpSteps.{is_op}
use Rattle.mm_model.proofs.plain.Plain.unmap.Goals as goal
use Rattle.mm_model.proofs.plain.Plain.unmap.Goals.{After-get}

pub returns-in_default-clause-ok : goal.returns-in_default-clause-ok
returns-in_default-clause-ok c = λ thread.
    let c_op : TxnOp = op.Unmap c.args.at c.args.len in
    wrong c.args.self.now (call.Unmap c.args.space c.args.at c.args.len) c.args.space c_op reply.Ok (is_op c.args.self.now c.args.space c_op) thread c.args.limbo
    (ap (λ st. is_page_range (levels st) c.args.at c.args.len) (sym c.self.view_is) ∙ no_range (is_page_range c.self.inside.limits.levels c.args.at c.args.len) c.in_default.ensures.some.1)

-- the range is right, and the cells of the space
right : (c : After-get) → is_page_range (levels c.args.self.now) c.args.at c.args.len ≡ true
right c = ap (λ st. is_page_range (levels st) c.args.at c.args.len) (sym c.self.view_is) ∙ c.in-Some.ensures.some.0 refl

there : (c : After-get) → map.get c.args.self.now.spaces c.number-number.result ≡ option_copied c.get.result
there c = ap (λ (st : State). map.get st.spaces c.number-number.result) (sym c.self.view_is) ∙ sym c.get.ensures

pub returns-then-is_none-clause-ok : goal.returns-then-is_none-clause-ok
returns-then-is_none-clause-ok c = λ thread.
    let at = (goal.at.returns-then-is_none-clause-ok c).After-get in
    let this = op.Unmap c.args.at c.args.len in
    absent c.args.self.now (call.Unmap c.args.space c.args.at c.args.len) c.args.space this reply.Ok (is_op c.args.self.now c.args.space this) thread c.args.limbo (right at)
    (ap (map.get c.args.self.now.spaces) (sym c.number-number.ensures.value) ∙ there at ∙ not_there (option_copied c.get.result) (copied_there c.get.result ∙ c.if-is_none.ensures))

pub operate-requires-clause-range : goal.operate-requires-clause-range
operate-requires-clause-range c = c.pages_in.ensures.pages ∙ (λ i. record { first = (c.in-Some.ensures.value i).first; count = (c.in-Some.ensures.value i).count })

-- nothing refuses it but page tables
fits : (c : After-get) → is_some c.get.result ≡ true → IsFit c.args.self.now c.number-number.result (op.Unmap c.args.at c.args.len)
fits c some = record {
  right = right c;
  present = ap is_some (there c) ∙ copied_there c.get.result ∙ some;
  allowed = refl;
}

pub returns-in-Ok-clause-ok : goal.returns-in-Ok-clause-ok
returns-in-Ok-clause-ok c =
    let n = c.number-number.result in
    let this = op.Unmap c.args.at c.args.len in
    named_beside c.args.limbo n c.args.space c.number-number.ensures.value (λ n. call.Unmap n c.args.at c.args.len) c.args.self.now c.operate.new.self reply.Ok (λ thread.
    ap (λ st. (reply.Ok, st)) c.in-Ok.ensures.ok
    ∙ operated c.args.self.now (call.Unmap n c.args.at c.args.len) n this reply.Ok (is_op c.args.self.now n this) thread c.args.limbo (fits (goal.at.returns-in-Ok-clause-ok c).After-get c.if-is_none.ensures) c.in-Ok.ensures.enough)

pub returns-in-Err-clause-ok : goal.returns-in-Err-clause-ok
returns-in-Err-clause-ok c =
    let st = c.args.self.now in
    let n = c.number-number.result in
    let this = op.Unmap c.args.at c.args.len in
    subst (λ next. IfOk c.refusal.result (IsStepBeside c.args.limbo st next (call.Unmap c.args.space c.args.at c.args.len))) (sym c.in-Err.ensures.kept)
    (subst (λ n. IfOk c.refusal.result (IsStepBeside c.args.limbo st st (call.Unmap n c.args.at c.args.len))) c.number-number.ensures.value
    (stopped_step st c.args.limbo (call.Unmap n c.args.at c.args.len) c.in-Err.stop c.refusal.result c.refusal.ensures {P = λ r. tables_lack st (wanted_by st n this) c.args.limbo ≡ Some r} c.in-Err.ensures.refused
    (λ r lacks thread. lacking st (call.Unmap n c.args.at c.args.len) n this reply.Ok (is_op st n this) thread c.args.limbo (fits (goal.at.returns-in-Err-clause-ok c).After-get c.if-is_none.ensures) r lacks)))
