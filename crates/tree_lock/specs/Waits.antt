-- What attempts to cover a zone that wait answer, where page tables have so many levels.
--     has_found      a view with these findings more
--     IsStill      nothing but the epoch and the findings is another
--     IsWorn      nothing but these is another, and the epoch word counts no more
--     TopHeld, WaitsTop      the covering row is held alone;  what waiting for it comes to
--     answer_of, WaitsChild      what a step at one entry answers that finds no holder;  findings alone, and then such a step
--     CoverHeld, Waits      the cover is held, and a list of it;  each answer, what the pass knows and the list afterwards
use Rattle.std.specs.Prelude.{◌≡◌, ℕ, ◌^◌, ◌<◌, List, [], ◌++◌, Option, None, Some, Result, Ok, Err}
use Rattle.row_table.specs.declared.answers.Worn.{Worn}
use Rattle.row_table.specs.declared.view.PassView.{PassView}
use Rattle.row_table.specs.declared.view.Finding.{Finding}
use Rattle.tree_lock.specs.declared.zone.Zone.{Zone}
use Rattle.tree_lock.specs.declared.held.HeldRow.{HeldRow}
use Rattle.tree_lock.specs.declared.below.Spot.{Spot}
use Rattle.tree_lock.specs.declared.below.Child.{Child}
use Rattle.tree_lock.specs.declared.below.Child.TheVariants.{Nothing, Got}
use Rattle.tree_lock.specs.Covers.{CoversZone, AreInTree, IsListOf}
use Rattle.tree_lock.specs.Tries.{IsSameBut}
use Rattle.tree_lock.specs.Descents.{IsGot}
use Rattle.tree_lock.specs.Stages.{TakesChild}

abbrev pub answer_of : Option Spot → Child
answer_of None = Nothing
answer_of (Some child) = Got child

module _ {R B E : Type 0} where
  abbrev pub has_found : PassView R B E → List Finding → PassView R B E
  has_found v more = record v { findings = v.findings ++ more }

  abbrev pub IsStill : PassView R B E → PassView R B E → Type 0
  IsStill v w = w ≡ record v { epoch = w.epoch; findings = w.findings }

  abbrev pub IsWorn : PassView R B E → PassView R B E → Type 0
  IsWorn v w = (w.epoch ≡ 2 ^ 62) × IsStill v w

module _ {R B E : Type 0} (levels : ℕ) where
  pub record TopHeld (zone : Zone) (v w : PassView R B E) (x : HeldRow R) : Type 0 where
    pub same : IsSameBut v w
    pub outside : w.core.stand ≡ None
    pub rises : v.epoch < w.epoch
    pub got : IsGot levels zone w x

  abbrev pub WaitsTop : Zone → PassView R B E → Result (HeldRow R) Worn → PassView R B E → Type 0
  WaitsTop zone v (Ok x) w = (v.epoch < 2 ^ 62) × TopHeld zone v w x
  WaitsTop zone v (Err worn) w = IsWorn v w

  abbrev pub WaitsChild : PassView R B E → List (HeldRow R) → Spot → ℕ → Option Spot → PassView R B E → List (HeldRow R) → Type 0
  WaitsChild v xs at index child w ys = (more : List Finding) × TakesChild levels (has_found v more) xs at index (answer_of child) w ys

  pub record CoverHeld (zone : Zone) (v w : PassView R B E) (list : List (HeldRow R)) : Type 0 where
    pub same : IsSameBut v w
    pub outside : w.core.stand ≡ None
    pub rises : v.epoch < w.epoch
    pub listed : IsListOf w.core.held w.rows list
    pub covers : CoversZone levels w.layout.rows zone w.rows
    pub in_tree : AreInTree w

  abbrev pub Waits : Zone → PassView R B E → Result (Unit {0}) Worn → PassView R B E → List (HeldRow R) → Type 0
  Waits zone v (Ok done) w list = (v.epoch < 2 ^ 62) × CoverHeld zone v w list
  Waits zone v (Err worn) w list = IsWorn v w × (list ≡ [])
