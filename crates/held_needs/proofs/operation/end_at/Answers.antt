use Rattle.std.proofs.Common.{◌∙◌, refl, sym, ap, subst, inl, inr}
use mathlib.Core.Bool.{true≢false}
use Rattle.page_map.specs.State.{cell_at}
use Rattle.held_needs.specs.Operation.{made_of, IsKept}
use Rattle.held_needs.proofs.Edges.{kept_is, is_kept}
use Rattle.held_needs.proofs.operation.end_at.Goals as goal

pub returns-else-leaves : goal.returns-else-leaves
returns-else-leaves c = λ levels space st is asked. inr (
  (λ leaves. true≢false (sym (c.leaves.ensures.1 (subst (λ s. IsKept c.args.op.now c.args.place s) (sym (c.query.ensures space st asked is.shown))
      (is_kept c.args.op.now c.args.place (cell_at st space c.args.page) (ap (λ n. made_of c.args.op.now n (cell_at st space c.args.page)) c.requires ∙ leaves)))) ∙ c.if-leaves.false)),
  c.lowest.ensures levels space st is asked,
)

pub returns-then-leaves : goal.returns-then-leaves
returns-then-leaves c = λ levels space st is asked. inl (
  ap (λ n. made_of c.args.op.now n (cell_at st space c.args.page)) (sym c.requires)
      ∙ kept_is c.args.op.now c.args.place (cell_at st space c.args.page) (subst (λ s. IsKept c.args.op.now c.args.place s) (c.query.ensures space st asked is.shown) (c.leaves.ensures.0 c.if-leaves.true)),
  refl,
)
