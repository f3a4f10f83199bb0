-- The rows in limbo.
--     LimboList      the rows in their order, and for how many there is room
--     blocked      a row with the pass that keeps it in limbo, and the epoch number of that pass
use Rattle.std.specs.Prelude.{ℕ, List}
use Rattle.row_layout.specs.declared.limbo.Sampled.{Sampled}

pub record LimboList : Type 0 where
  pub room : ℕ
  pub list : List Sampled

abbrev pub blocked : Sampled → ℕ → ℕ → Sampled
blocked sampled blocker blocked_at = record sampled { blocker = blocker; blocked_at = blocked_at }
