use Rattle.std.proofs.Common.{◌≡◌, ℕ, ◌+◌, ◌-◌, ◌*◌, ◌≤◌, ◌++◌}
use Rattle.page_map.specs.Tables.{Tables, need}
use Rattle.plain_counts.specs.Cut.{cut_by_all}
use Rattle.plain_counts.proofs.Noted.{cut_below}
use Rattle.held_needs.specs.Cutting.{IsEnd, last_of}
use Rattle.held_needs.proofs.cut.count_range.Given as goal

-- what the levels so far add
abbrev pub invariant-loop-level : goal.invariant-loop-level
invariant-loop-level l = record {
  few : l.count ≤ 2 * (l.level - 1);
  so_far : (space : ℕ) (t : Tables) → IsEnd l.levels space l.pages l.pages.first t l.near → IsEnd l.levels space l.pages (last_of l.pages) t l.far
      → need (cut_by_all l.levels space l.done ++ cut_below space l.pages.first l.pages.count l.level) t ≡ need (cut_by_all l.levels space l.done) t + l.count;
}
