use Rattle.std.proofs.Common.{arith}
use Rattle.tlb_core.proofs.Shown.{new_shown, new_sized}
use Rattle.tlb_core.proofs.machine.Tlb.new.Goals as goal

pub invariant_of-result : goal.invariant_of-result
invariant_of-result c = new_sized (record { cpus = c.args.cpus; frames = c.args.frames }) c.no_entries.result c.no_caches.result c.no_uses.result
    c.no_entries.ensures c.no_caches.ensures c.no_uses.ensures (omega arith) (omega arith)

pub returns-clause-nothing : goal.returns-clause-nothing
returns-clause-nothing c = new_shown (record { cpus = c.args.cpus; frames = c.args.frames }) c.no_entries.result c.no_caches.result c.no_uses.result
    c.no_entries.ensures c.no_caches.ensures c.no_uses.ensures
