use Rattle.std.proofs.Common.{sym, ◌∙◌}
use Rattle.mm_script.proofs.OneOp.{no_op_name}
use Rattle.mm_script.proofs.ops.next_op.Goals as goal

pub returns-in_err-name-clause-none : goal.returns-in_err-name-clause-none
returns-in_err-name-clause-none c = rw c.from_residual-in_err-name.ensures (λ op rest is_op are.
    no_op_name c.in_ok-next_word.field-0.now c.next_word.new.self c.in_err-name.ensures.none op rest (sym c.in_ok-next_word.ensures.word ∙ are))
