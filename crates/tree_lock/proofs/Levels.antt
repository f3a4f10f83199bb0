-- How many levels page tables have, and views that say the same of it.
use Rattle.std.proofs.Common.{◌≡◌, ℕ, ◌<◌, ap, ◌∙◌}
use Rattle.row_layout.specs.declared.places.Layout.{Layout}
use Rattle.row_table.specs.declared.view.PassView.{PassView}
use Rattle.row_table.specs.Crossings.{entered}
use Rattle.tree_lock.specs.Tries.{IsSameBut}
use Rattle.tree_lock.specs.Descents.{HasLevels}

pub levels_kept : {R B E : Type 0} (levels : ℕ) (v w : PassView R B E) → IsSameBut v w → HasLevels levels v → HasLevels levels w
levels_kept {R} {B} {E} levels v w same has = (has.0, ap (λ (y : PassView R B E). y.layout.levels) same ∙ has.1)

-- a pass that entered
pub levels_inside : {R B E : Type 0} (k : Layout) (v u : PassView R B E) → v.layout ≡ k → u ≡ entered v → (levels : ℕ) → levels < 6 → k.levels ≡ levels → HasLevels levels u
levels_inside {R} {B} {E} k v u same enters levels few are = (few, ap (λ (y : PassView R B E). y.layout.levels) enters ∙ ap (λ (l : Layout). l.levels) same ∙ are)

-- a pass that is the same in this
pub levels_after : {R B E : Type 0} (k : Layout) (v w : PassView R B E) → v.layout ≡ k → IsSameBut v w → (levels : ℕ) → levels < 6 → k.levels ≡ levels → HasLevels levels w
levels_after {R} {B} {E} k v w layout same levels few are = (few, ap (λ (y : PassView R B E). y.layout.levels) same ∙ ap (λ (l : Layout). l.levels) layout ∙ are)
