use Rattle.std.proofs.Common.{◌≡◌, ℕ, ◌≤◌, ◌<◌}
use Rattle.page_map.specs.Mapping.{arena_first}
use Rattle.plain_counts.specs.Fronts.{full_pages, full_before}
use Rattle.plain_counts.proofs.fronts.Fronts.forget.Given as goal

-- the threads below this one are done
abbrev pub invariant-loop-thread : goal.invariant-loop-thread
invariant-loop-thread l = record {
  done : (t : ℕ) → t < l.thread → full_pages l.self l.space t ≡ full_before (arena_first t) (full_pages l.initial.self l.space t) l.first l.count;
  left : (t : ℕ) → l.thread ≤ t → t < 8 → full_pages l.self l.space t ≡ full_pages l.initial.self l.space t;
  others : (s t : ℕ) → (s ≡ l.space → ⊥) → t < 8 → full_pages l.self s t ≡ full_pages l.initial.self s t;
}
