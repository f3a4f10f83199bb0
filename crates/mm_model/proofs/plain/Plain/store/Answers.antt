use Rattle.corten_base.specs.declared.calls.Call.TheVariants as call
use Rattle.corten_base.specs.declared.calls.Reply.TheVariants as reply
use Rattle.plain_spaces.specs.Reach.{storing}
use Rattle.mm_model.proofs.AccessCalls.{made_named, stopped_named}
use Rattle.mm_model.proofs.AccessSteps.{store_access, store_answer}
use Rattle.mm_model.proofs.plain.Plain.store.Goals as goal

pub touch-requires-clause-call : goal.touch-requires-clause-call
touch-requires-clause-call c = (call.Store c.number.result c.args.at c.bytes-stored.result.now, store_access c.args.self.now c.number.result c.args.at c.bytes-stored.result.now)

pub returns-in-Ok-clause-ok : goal.returns-in-Ok-clause-ok
returns-in-Ok-clause-ok c =
    made_named c.args.self.now c.touch.new.self c.args.limbo (call.Store c.number.result c.args.at c.bytes-stored.result.now) (call.Store c.args.space c.args.at c.args.bytes.now)
    (λ i. call.Store (c.number.ensures.value i) c.args.at (c.bytes-stored.ensures.value i))
    c.number.result (storing c.args.at c.bytes-stored.result.now) (store_access c.args.self.now c.number.result c.args.at c.bytes-stored.result.now)
    (record { facts = c.in-Ok.ensures.allowed.facts; user = c.in-Ok.ensures.allowed.user; present = c.in-Ok.ensures.allowed.present; pages = c.in-Ok.ensures.allowed.pages; tables = c.in-Ok.ensures.allowed.tables; frames = c.in-Ok.ensures.allowed.frames }) c.in-Ok.ensures.ok reply.Ok
    (λ thread. store_answer c.args.self.now thread c.number.result c.args.at c.bytes-stored.result.now)

pub returns-in-Err-clause-ok : goal.returns-in-Err-clause-ok
returns-in-Err-clause-ok c =
    stopped_named c.args.self.now c.touch.new.self c.args.limbo (call.Store c.number.result c.args.at c.bytes-stored.result.now) (call.Store c.args.space c.args.at c.args.bytes.now)
    (λ i. call.Store (c.number.ensures.value i) c.args.at (c.bytes-stored.ensures.value i))
    c.number.result (storing c.args.at c.bytes-stored.result.now) (store_access c.args.self.now c.number.result c.args.at c.bytes-stored.result.now)
    c.in-Err.stop c.in-Err.ensures.refused c.in-Err.ensures.kept c.refusal.result c.refusal.ensures
