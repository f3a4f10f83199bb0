-- Rows that readers keep in limbo.
--     IsBlocked      the pass with the book found a reader of a row in limbo
use Rattle.std.specs.Prelude.{◌≡◌, ℕ, ◌<◌, ◌%◌, ◌⊎◌, slice_index, Some}
use Rattle.walk_core.specs.declared.lists.PutRow.{PutRow}
use Rattle.walk_core.specs.declared.pass.PassCore.{PassCore}
use Rattle.walk_core.specs.declared.pass.SampleBounds.{SampleBounds}
use Rattle.walk_core.specs.Core.{sample_of}

-- Of so many passes there is one that was inside when the row was sampled, and v sampled the same number of it since the turn.
pub record IsBlocked (passes : ℕ) (v : PassCore) (k : PutRow) : Type 0 where
  pub blocker : ℕ
  pub there : blocker < passes
  pub odd : slice_index k.samples blocker % 2 ≡ 1
  pub bounds : SampleBounds
  pub sampled : sample_of v.samples blocker ≡ Some bounds
  pub same : (bounds.first ≡ slice_index k.samples blocker) ⊎ (bounds.last ≡ slice_index k.samples blocker)
