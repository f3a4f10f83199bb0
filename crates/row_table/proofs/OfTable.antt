-- What a pass of a table knows of it. The layers above may cite this file.
use Rattle.std.proofs.Common.{◌≡◌, ap}
use Rattle.row_table.specs.declared.plan.Plan.{Ghosts}
use Rattle.row_table.specs.declared.pass.Pass.{Pass}
use Rattle.row_table.specs.declared.table.Iron.{Iron}
use Rattle.row_table.specs.Passes.{model_of, iron_model, view_of, layout_of, origin_of, IsPassOf}

module _ {P R B K E : Type 0} {plan : Ghosts P R B K E} where
  -- its layout
  pub knows_layout : (t : Iron P R B K E) (p : Pass P R B K E plan) → IsPassOf t p → (view_of p).layout ≡ layout_of t
  unfolding model_of iron_model
  knows_layout t p is = ap (λ y. y.layout) is

  -- and the book at its start, whose fixed part each of its books has
  pub knows_origin : (t : Iron P R B K E) (p : Pass P R B K E plan) → IsPassOf t p → (view_of p).origin ≡ origin_of t
  unfolding model_of iron_model
  knows_origin t p is = ap (λ y. y.origin) is
