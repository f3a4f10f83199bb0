use Rattle.std.proofs.Common.{◌≡◌, ◌∷◌, [], ◌++◌, map, take, drop}
use Rattle.book.specs.Filling.{with_source}
use Rattle.book.proofs.filling.write_page.Given as goal

abbrev pub invariant-loop-at : goal.invariant-loop-at
invariant-loop-at l = record {
  pool : l.pool ≡ l.initial.pool;
  done : l.frames ≡ map (with_source ((l.page, l.bytes) ∷ [])) (take l.at-index l.initial.frames) ++ drop l.at-index l.initial.frames;
}
