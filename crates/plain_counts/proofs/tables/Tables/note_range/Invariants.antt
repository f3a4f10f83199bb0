use Rattle.std.proofs.Common.{◌≡◌, ◌≤◌}
use Rattle.std.specs.FinSet as set
use Rattle.page_map.specs.Tables.{missing}
use Rattle.plain_counts.proofs.Noted.{cut_below}
use Rattle.plain_counts.proofs.tables.Tables.note_range.Given as goal

-- those of the levels below this one are found
abbrev pub invariant-loop-level : goal.invariant-loop-level
invariant-loop-level l = record {
  started : 1 ≤ l.level;
  noted : l.found ≡ set.union l.initial.found (missing (cut_below l.space l.pages.first l.pages.count l.level) l.self);
}
