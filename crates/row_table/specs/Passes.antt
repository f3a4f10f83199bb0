-- What contracts say of a pass and of a table. No other crate sees the fields behind these words.
--     TableModel, table_known      which table it is: its number among tables, its layout and the book at its start, as a pass knows them
--     PassModel, model_of      what a pass knows, its kit while that is in place, and which table it is of
--     view_of, number_of, kit_of, table_of      its parts, and the pass's number
--     IronModel, iron_model      which table it is
--     layout_of, origin_of      its layout, and the book at its start
--     IsPassOf      a pass of this table: it knows the table's layout and the book at the table's start, whose fixed part each book of the table has
use Rattle.std.specs.Prelude.{◌≡◌, ℕ, Option, Some}
use Rattle.atomic_table.specs.Seated.{TableId}
use Rattle.row_layout.specs.declared.places.Layout.{Layout}
use Rattle.row_table.specs.declared.plan.Plan.{Ghosts}
use Rattle.row_table.specs.declared.pass.Pass.{Pass}
use Rattle.row_table.specs.declared.table.Iron.{Iron}
use Rattle.row_table.specs.declared.view.PassView.{PassView}
use Rattle.row_table.specs.Rule.{view}

-- the book at the start is known of each table
pub record TableModel (B : Type 0) : Type 0 where
  pub id : TableId
  pub layout : Layout
  pub origin : Option B

abbrev pub table_known : {R B E : Type 0} → TableId → PassView R B E → TableModel B
table_known id v = record { id = id; layout = v.layout; origin = v.origin }

pub record PassModel (R B K E : Type 0) : Type 0 where
  pub view : PassView R B E
  pub kit : Option K
  pub table : TableModel B

pub record IronModel (B : Type 0) : Type 0 where
  pub table : TableModel B

module _ {P R B K E : Type 0} where
  unfoldable pub iron_model : Iron P R B K E → IronModel B
  iron_model t = record { table = record { id = t.table.shared.table_id; layout = t.layout; origin = Some t.table.shared.key.origin.value } }

  abbrev pub layout_of : Iron P R B K E → Layout
  layout_of t = (iron_model t).table.layout

  abbrev pub origin_of : Iron P R B K E → Option B
  origin_of t = (iron_model t).table.origin

  module _ {plan : Ghosts P R B K E} where
    unfoldable pub model_of : Pass P R B K E plan → PassModel R B K E
    model_of p = record { view = view p.seat.me; kit = p.kit; table = table_known p.seat.table_id (view p.seat.me) }

    abbrev pub view_of : Pass P R B K E plan → PassView R B E
    view_of p = (model_of p).view

    abbrev pub number_of : Pass P R B K E plan → ℕ
    number_of p = (view_of p).number

    abbrev pub kit_of : Pass P R B K E plan → Option K
    kit_of p = (model_of p).kit

    abbrev pub table_of : Pass P R B K E plan → TableModel B
    table_of p = (model_of p).table

    abbrev pub IsPassOf : Iron P R B K E → Pass P R B K E plan → Type 0
    IsPassOf t p = table_of p ≡ (iron_model t).table
