use Rattle.std.proofs.Common.{◌≡◌, not}
use Rattle.std.specs.List.Sorted.{IsPermutation}
use Rattle.std.specs.Vec.{vec_capacity}
use Rattle.std.proofs.lemmas.List.Filters.{FiltersInPlace}
use Rattle.book.specs.Rearranging.{is_remade}
use Rattle.book.proofs.transacting.keep_first.Given as goal

abbrev pub invariant-loop-place : goal.invariant-loop-place
invariant-loop-place g l = record {
  filters : FiltersInPlace (λ r. not (is_remade l.changes r.0)) l.initial.refs.items l.refs.items l.kept l.place;
  same : IsPermutation l.initial.refs.items l.refs.items;
  room : vec_capacity l.refs ≡ vec_capacity l.initial.refs;
}
