use mathlib.Core.Bool.{beq}
use Rattle.std.proofs.Common.{◌≡◌, ◌≤◌, ◌+◌, ℕ, ◌∙◌, sym, ap, subst, arith}
use Rattle.held_spans.proofs.Passed.{Passed, more, found, nothing}
use Rattle.held_spans.proofs.walks.first_such.Goals as goal

pub returns-then-is_there-mapped : goal.returns-then-is_there-mapped
returns-then-is_there-mapped c =
    found c.args.held.now.rows c.args.first c.args.count c.args.mapped c.loop-page.page c.loop-page.invariant.passed c.loop-page.invariant.from c.loop-page-test.true
    c.span_near-span.result c.span_near-span.ensures.around c.span_near-span.ensures.answers
    (ap (λ b. beq b c.args.mapped) (sym c.is_there.ensures) ∙ c.if-is_there-mapped.true)

pub loop-page-preserved : goal.loop-page-preserved
loop-page-preserved c = record {
  from = omega arith;
  to = omega arith;
  passed = more c.args.held.now.rows c.args.first c.args.count c.args.mapped c.loop-page.page c.loop-page.invariant.passed c.loop-page.invariant.from c.loop-page-test.true
      c.span_near-span.result c.span_near-span.ensures.around c.span_near-span.ensures.answers
      (c.loop-page.page + c.min-page.result) (omega arith) (ap (λ b. beq b c.args.mapped) (sym c.is_there.ensures) ∙ c.if-is_there-mapped.false);
}

pub returns : goal.returns
returns c =
    nothing c.args.held.now.rows c.args.first c.args.count c.args.mapped
    (subst (Passed c.args.held.now.rows c.args.first c.args.count c.args.mapped) (ends c.loop-page.invariant.to c.loop-page-test.false) c.loop-page.invariant.passed)
  where
    ends : {a b : ℕ} → a ≤ b → b ≤ a → a ≡ b
    ends h g = omega (arith, h, g)
