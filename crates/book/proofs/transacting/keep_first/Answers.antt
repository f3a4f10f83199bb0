use Rattle.std.proofs.Common.{not, sym, ap, ◌∙◌, arith}
use Rattle.std.proofs.lemmas.List.Filters.{FiltersInPlace-more_swap, FiltersInPlace-more_no}
use Rattle.std.proofs.lemmas.List.Sorted.{IsPermutation-trans, IsPermutation-swap}
use Rattle.book.proofs.transacting.keep_first.Goals as goal
use Rattle.book.proofs.transacting.keep_first.Goals.{then-not-is_remade, else-not-is_remade}

pub loop-place-preserved : goal.loop-place-preserved
loop-place-preserved g c =
    let was = c.loop-place.invariant in
    elim c.if-not-is_remade.branch [
      | then-not-is_remade w ↦ rw (w.refs-is, w.kept-is) (record {
        filters = FiltersInPlace-more_swap was.filters (omega arith) (ap not (sym c.is_remade.ensures ∙ w.if-not-is_remade.true)) c.index.ensures w.swap.ensures.by_index;
        same = IsPermutation-trans _ _ _ was.same (IsPermutation-swap _ _ c.loop-place.kept c.loop-place.place (omega (arith, was.filters.behind)) (omega arith) w.swap.ensures.items);
        room = w.swap.ensures.capacity ∙ was.room;
      })
      | else-not-is_remade w ↦ rw (w.refs-is, w.kept-is) (record {
        filters = FiltersInPlace-more_no was.filters (omega arith) (ap not (sym c.is_remade.ensures ∙ w.if-not-is_remade.false)) c.index.ensures;
        same = was.same;
        room = was.room;
      })
    ]
