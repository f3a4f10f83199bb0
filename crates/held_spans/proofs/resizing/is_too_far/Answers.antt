use Rattle.std.proofs.Common.{◌∙◌, ◌-◌, sym, ap, arith}
use Rattle.held_spans.proofs.Placed.{beyond, far_is, test_moved}
use Rattle.held_spans.proofs.resizing.is_too_far.Goals as goal

pub returns-in-Zero : goal.returns-in-Zero
unfolding beyond
returns-in-Zero c space st asked shown =
    sym (ap (λ b. beyond b (c.args.range.new - c.args.range.old)) c.in-Zero.is)
    ∙ far_is c.args.held.now.rows c.args.range c.run_at.result c.requires.some c.requires.grows c.run_at.ensures.some c.run_at.ensures.answers space st asked shown

pub returns-in-File : goal.returns-in-File
unfolding beyond
returns-in-File c space st asked shown =
    test_moved c.in-File.index (c.args.range.new - c.args.range.old) (omega arith) ∙ sym (ap (λ b. beyond b (c.args.range.new - c.args.range.old)) c.in-File.is)
    ∙ far_is c.args.held.now.rows c.args.range c.run_at.result c.requires.some c.requires.grows c.run_at.ensures.some c.run_at.ensures.answers space st asked shown
