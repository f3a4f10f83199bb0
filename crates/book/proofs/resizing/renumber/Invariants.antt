use Rattle.std.proofs.Common.{◌≡◌, ℕ, ◌≤◌, ◌++◌, take, drop, map, get_or}
use Rattle.book.specs.Rearranging.{moved_ref}
use Rattle.book.proofs.resizing.renumber.Given as goal

abbrev pub invariant-loop-entry : goal.invariant-loop-entry
invariant-loop-entry g l = record {
  over : l.entry-items ≡ map (moved_ref l.first l.to) (take l.entry-index l.initial.entry-items) ++ drop l.entry-index l.initial.entry-items;
  rest : (k : ℕ) (d : _) → l.entry-index ≤ k → get_or l.entry-items k d ≡ get_or l.initial.entry-items k d;
}
