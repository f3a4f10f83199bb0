use Rattle.std.proofs.Common.{rules, ap, arith, sym, ◌∙◌, ◌≡◌, drop, Some, ◌≤◌, length}
use Rattle.corten_base.specs.Memory.{SourceState}
use Rattle.corten_base.proofs.Reading.{left_is_handed_out}
use Rattle.corten_base.proofs.memory.MemSourceSource.read.Goals as goal

pub returns-clause-answer : goal.returns-clause-answer
returns-clause-answer c =
    let bytes = c.self.inside.bytes.items in
    let rest = c.rest_of-rest.result.now in
    let is_rest : rest ≡ drop c.self.inside.place bytes = cc in
    let fits : c.min-count.result ≤ length rest = omega arith in
    let handed = left_is_handed_out bytes rest c.args.buf.now c.copy_front.new.to c.self.inside.place c.min-count.result is_rest fits c.copy_front.ensures in
    let left_is = ap (λ (s : SourceState). s.left) c.self.view_is in
    (search rules, search rules, ap Some (sym left_is ∙ sym is_rest ∙ handed))
