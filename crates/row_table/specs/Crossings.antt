-- What enter and leave make of what a pass knows, and what they tell.
--     entered, left      the pass after it entered, and after it left
--     CrossTells      what a step on the own epoch word tells
--     Enters      what an enter answers
use Rattle.std.specs.Prelude.{◌≡◌, ℕ, ◌+◌, ◌<◌, ◌^◌, [], ◌∷◌, None, Some, Result, Ok, Err}
use Rattle.walk_core.specs.Events.{top}
use Rattle.row_table.specs.declared.answers.Worn.{Worn}
use Rattle.row_table.specs.declared.view.PassView.{PassView}
use Rattle.row_table.specs.Rule.{Seat, view}

module _ {R B E : Type 0} where
  abbrev pub entered : PassView R B E → PassView R B E
  entered v = record v { core = record v.core { stand = Some top }; epoch = v.epoch + 1; findings = [] }

  abbrev pub left : PassView R B E → PassView R B E
  left v = record v { core = record v.core { stand = None }; epoch = v.epoch + 1 }

  abbrev pub CrossTells : (PassView R B E → PassView R B E) → Seat R B E → ℕ → Seat R B E → Type 0
  CrossTells f m n m' = (n ≡ (view m).epoch) × (m' ≡ (f (view m) ∷ [], m.1))

  -- an epoch word at its end is worn
  abbrev pub Enters : PassView R B E → Result (Unit {0}) Worn → PassView R B E → Type 0
  Enters v (Ok done) w = (v.epoch < 2 ^ 62) × (w ≡ entered v)
  Enters v (Err worn) w = (v.epoch ≡ 2 ^ 62) × (w ≡ v)
