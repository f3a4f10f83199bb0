use Rattle.std.proofs.Common.{◌≡◌, ◌+◌, ◌-◌, ◌*◌, ◌≤◌}
use Rattle.std.specs.List.{sum_by, range_with_len}
use Rattle.image_text.specs.Reading as definitions
use Rattle.image_text.proofs.tables.new_tables.Given as goal

-- those of the levels so far
abbrev pub invariant-loop-level : goal.invariant-loop-level
invariant-loop-level l = record {
  counted : l.tables ≡ sum_by (definitions.new_in_level l.fn.behind l.fn.first l.fn.end) (range_with_len 1 (l.level - 1));
  few : l.tables ≤ 2 * (l.level - 1);
  low : 1 ≤ l.level;
  high : l.level ≤ l.fn.levels;
}
