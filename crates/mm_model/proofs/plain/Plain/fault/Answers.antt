use Rattle.corten_base.specs.declared.calls.Call.TheVariants as call
use Rattle.corten_base.specs.declared.calls.Reply.TheVariants as reply
use Rattle.plain_spaces.specs.Reach.{reaching}
use Rattle.mm_model.proofs.AccessCalls.{made_named, stopped_named}
use Rattle.mm_model.proofs.AccessSteps.{fault_access, fault_answer}
use Rattle.mm_model.proofs.plain.Plain.fault.Goals as goal

pub touch-requires-clause-call : goal.touch-requires-clause-call
touch-requires-clause-call c = (call.Fault c.number.result c.args.at c.args.write, fault_access c.args.self.now c.number.result c.args.at c.args.write)

pub returns-in-Ok-clause-ok : goal.returns-in-Ok-clause-ok
returns-in-Ok-clause-ok c =
    made_named c.args.self.now c.touch.new.self c.args.limbo (call.Fault c.number.result c.args.at c.args.write) (call.Fault c.args.space c.args.at c.args.write) (λ i. call.Fault (c.number.ensures.value i) c.args.at c.args.write)
    c.number.result (reaching c.args.at 1 c.args.write) (fault_access c.args.self.now c.number.result c.args.at c.args.write) c.in-Ok.ensures.allowed c.in-Ok.ensures.ok reply.Ok
    (λ thread. fault_answer c.args.self.now thread c.number.result c.args.at c.args.write)

pub returns-in-Err-clause-ok : goal.returns-in-Err-clause-ok
returns-in-Err-clause-ok c =
    stopped_named c.args.self.now c.touch.new.self c.args.limbo (call.Fault c.number.result c.args.at c.args.write) (call.Fault c.args.space c.args.at c.args.write) (λ i. call.Fault (c.number.ensures.value i) c.args.at c.args.write)
    c.number.result (reaching c.args.at 1 c.args.write) (fault_access c.args.self.now c.number.result c.args.at c.args.write) c.in-Err.stop c.in-Err.ensures.refused c.in-Err.ensures.kept c.refusal.result c.refusal.ensures
