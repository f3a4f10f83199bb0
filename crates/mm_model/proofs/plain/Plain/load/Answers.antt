use Rattle.std.proofs.Common.{false, refl, ap, ◌∙◌}
use Rattle.corten_base.specs.declared.calls.Call.TheVariants as call
use Rattle.corten_base.specs.declared.calls.Reply.TheVariants as reply
use Rattle.page_map.specs.Access.{loaded}
use Rattle.page_map.specs.State.{is_present, space_at}
use Rattle.plain_spaces.specs.Reach.{reaching}
use Rattle.mm_model.proofs.AccessCalls.{made_named, stopped_named, loaded_stays, reach_present}
use Rattle.mm_model.proofs.AccessSteps.{load_access, load_answer}
use Rattle.mm_model.proofs.plain.Plain.load.Goals as goal

pub touch-requires-clause-call : goal.touch-requires-clause-call
touch-requires-clause-call c = (call.Load c.number-number.result c.args.at c.args.len, load_access c.args.self.now c.number-number.result c.args.at c.args.len)

pub read-requires-clause-present : goal.read-requires-clause-present
read-requires-clause-present c =
    ap (λ st. is_present st c.number-number.result) c.in-Ok.ensures.ok ∙ reach_present c.args.self.now c.number-number.result (reaching c.args.at c.args.len false)

pub returns-in-Ok-clause-ok : goal.returns-in-Ok-clause-ok
returns-in-Ok-clause-ok c =
    let st = c.args.self.now in
    let n = c.number-number.result in
    made_named st c.touch.new.self c.args.limbo (call.Load n c.args.at c.args.len) (call.Load c.args.space c.args.at c.args.len) (λ i. call.Load (c.number-number.ensures.value i) c.args.at c.args.len)
    n (reaching c.args.at c.args.len false) (load_access st n c.args.at c.args.len) c.in-Ok.ensures.allowed c.in-Ok.ensures.ok (reply.Bytes c.read.new.bytes)
    (λ thread. ap reply.Bytes (c.read.ensures st.files ∙ (λ i. loaded st.files (space_at (c.in-Ok.ensures.ok i) n) (c.in-Ok.ensures.access i)) ∙ loaded_stays st n (reaching c.args.at c.args.len false) refl)
    ∙ load_answer st thread n c.args.at c.args.len)

pub returns-in-Err-clause-ok : goal.returns-in-Err-clause-ok
returns-in-Err-clause-ok c =
    stopped_named c.args.self.now c.touch.new.self c.args.limbo (call.Load c.number-number.result c.args.at c.args.len) (call.Load c.args.space c.args.at c.args.len) (λ i. call.Load (c.number-number.ensures.value i) c.args.at c.args.len)
    c.number-number.result (reaching c.args.at c.args.len false) (load_access c.args.self.now c.number-number.result c.args.at c.args.len)
    c.in-Err.stop c.in-Err.ensures.refused c.in-Err.ensures.kept c.refusal.result c.refusal.ensures
