-- One load of the epoch word of each pass.
--     loaded      what a pass knows after it sampled the passes from x on, each once, and found these numbers
--     Loads      what a pass knows that sampled each pass of its table once
--     put_of      a row in limbo as the shared table sees it
--     StaysSampled      rows that may go into limbo still may
use Rattle.std.specs.Prelude.{◌≡◌, ℕ, ◌+◌, ◌<◌, List, [], ◌∷◌, length, slice_index}
use Rattle.walk_core.specs.declared.lists.PutRow.{PutRow}
use Rattle.walk_core.specs.Guards.{IsSampled}
use Rattle.row_layout.specs.declared.limbo.Sampled.{Sampled}
use Rattle.row_table.specs.declared.view.PassView.{PassView}
use Rattle.row_table.specs.Plan.{Meaning}
use Rattle.row_table.specs.Sampling.{sampled, IsSample}

abbrev pub put_of : Sampled → PutRow
put_of s = record { row = s.row; samples = s.samples }

module _ {R B E : Type 0} where
  abbrev pub loaded : ℕ → List ℕ → PassView R B E → PassView R B E
  loaded x [] v = v
  loaded x (n ∷ ns) v = loaded (x + 1) ns (sampled v x n)

  -- the numbers are those of all passes in their order, and each was found in the epoch word of its pass
  pub record Loads (M : Meaning R B E) (v : PassView R B E) (numbers : List ℕ) (w : PassView R B E) : Type 0 where
    pub all : length numbers ≡ v.layout.passes
    pub each : (x : ℕ) → x < length numbers → IsSample M v x (slice_index numbers x)
    pub after : w ≡ loaded 0 numbers v

  abbrev pub StaysSampled : PassView R B E → PassView R B E → Type 0
  StaysSampled v w = (k : PutRow) → IsSampled v.layout.passes v.core k → IsSampled v.layout.passes w.core k
