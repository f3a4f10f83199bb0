use Rattle.std.proofs.Common.{◌-◌, ap, subst, sym, arith}
use Rattle.std.proofs.lemmas.Nat.{one_shl}
use Rattle.tlb_core.specs.Steps.{IsAll}
use Rattle.tlb_core.proofs.Bits.{all_bits}
use Rattle.tlb_core.proofs.masks.all_cpus.Goals as goal

pub returns : goal.returns
returns c = subst (IsAll c.args.cpus) (ap (λ n. n - 1) (sym (one_shl c.args.cpus 16 (omega arith)))) (all_bits c.args.cpus)
