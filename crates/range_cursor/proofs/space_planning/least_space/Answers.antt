use Rattle.std.specs.Prelude.{◌≡◌, ℕ, ◌+◌, ◌<◌, cond, not, Some, None}
use Rattle.std.proofs.Common.{sym, ◌∙◌, ap, arith, inl, inr}
use Rattle.std.proofs.lemmas.Bool.{cases_eq}
use Rattle.page_map.specs.State.{is_present}
use Rattle.range_cursor.proofs.Earliest.{found, nothing}
use Rattle.range_cursor.proofs.SpacePlans.{knows_by}
use Rattle.range_cursor.proofs.space_planning.least_space.Goals as goal

pub loop-space-preserved : goal.loop-space-preserved
loop-space-preserved c st knows q less = elim (cases_eq q c.loop-space.space) [
  | inl same ↦ ap (is_present st) same ∙ (sym (c.is_present.ensures st (knows_by st c.loop-space.space c.args.held.now.rows knows)) ∙ c.if-not-is_present.false)
  | inr other ↦ c.loop-space.invariant st knows q (before q c.loop-space.space less other)
]
  where
    before : (q space : ℕ) → q < space + 1 → (q ≡ space → ⊥) → q < space
    before q space less other = omega arith

pub returns-then-not-is_present : goal.returns-then-not-is_present
returns-then-not-is_present c st knows =
    let absent = sym (c.is_present.ensures st (knows_by st c.loop-space.space c.args.held.now.rows knows)) ∙ c.if-not-is_present.true in
    sym (found (λ n. cond (not (is_present st n)) (Some n) None) 0 64 c.loop-space.space c.loop-space.space (omega arith) (omega (arith, c.loop-space-test.true))
    (λ q low h. ap (λ b. cond (not b) (Some q) None) (c.loop-space.invariant st knows q h)) (ap (λ b. cond (not b) (Some c.loop-space.space) None) absent))

pub returns : goal.returns
returns c st knows =
    sym (nothing (λ n. cond (not (is_present st n)) (Some n) None) 0 64 (λ q low h. ap (λ b. cond (not b) (Some q) None) (c.loop-space.invariant st knows q (omega (arith, h, c.loop-space-test.false)))))
