use Rattle.std.proofs.Common.{ℕ, length, ◌≤◌, ◌^◌}
use Rattle.space_cells.specs.Walking.{IsWalk}
use Rattle.plain_spaces.specs.Numbers.{frame_in, slot_in}
use Rattle.plain_spaces.proofs.Released.{Lost}
use Rattle.plain_spaces.proofs.copy.leave.Given as goal

-- the numbers of the pages before the next one have one key fewer
abbrev pub invariant-loop-page : goal.invariant-loop-page
invariant-loop-page l = record {
  next : ℕ;
  high : next ≤ 2 ^ 44;
  walk : IsWalk l.cells next l.walk;
  frames : Lost frame_in l.initial.counts.frames l.counts.frames l.cells next;
  slots : Lost slot_in l.initial.counts.slots l.counts.slots l.cells next;
}

abbrev pub decreases-loop-page : goal.decreases-loop-page
decreases-loop-page l = length l.walk
