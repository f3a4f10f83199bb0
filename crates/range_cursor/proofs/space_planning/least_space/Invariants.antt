use Rattle.std.specs.Prelude.{◌≡◌, ℕ, ◌<◌, true}
use Rattle.page_map.specs.State.{State, is_present}
use Rattle.range_cursor.specs.Spaces.{KnowsSpaces}
use Rattle.range_cursor.proofs.space_planning.least_space.Given as goal

-- the spaces before this one are there
abbrev pub invariant-loop-space : goal.invariant-loop-space
invariant-loop-space l = (st : State) → KnowsSpaces st l.held.rows → (q : ℕ) → q < l.space → is_present st q ≡ true
