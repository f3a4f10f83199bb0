use Rattle.std.specs.Prelude.{◌≡◌, ℕ, ◌*◌, ◌/◌, ◌^◌, ◌<◌, ◌≤◌}
use Rattle.cursor_apply.proofs.towers.low_of.Given as goal

-- the page begins the tables of each lower level
abbrev pub invariant-loop-level : goal.invariant-loop-level
invariant-loop-level l = record {
  whole : (k : ℕ) → 1 ≤ k → k < l.level → l.page / 512 ^ k * 512 ^ k ≡ l.page;
}
