use Rattle.std.proofs.Common.{◌≢◌, get_or, set, sym, ap, ◌∙◌, arith, get_or-set_other}
use Rattle.std.proofs.lemmas.List.Edits.{map_over_more}
use Rattle.book.specs.Rearranging.{moved_ref}
use Rattle.book.proofs.resizing.renumber.Goals as goal

pub overflow_sub-entry : goal.overflow_sub-entry
overflow_sub-entry g c =
    let there = c.loop-entry.invariant.rest c.loop-entry.entry-index c.entry-item.result (omega arith) ∙ ap (λ l. get_or l c.loop-entry.entry-index c.entry-item.result) c.deref_mut-entry-items.ensures.value in
    let near = c.requires.near c.loop-entry.entry-index c.entry-item.result (omega (arith, c.loop-entry-test.true)) in
    omega (arith, near.0, ap (λ r. r.0) there)

pub overflow_add-entry : goal.overflow_add-entry
overflow_add-entry g c =
    let there = c.loop-entry.invariant.rest c.loop-entry.entry-index c.entry-item.result (omega arith) ∙ ap (λ l. get_or l c.loop-entry.entry-index c.entry-item.result) c.deref_mut-entry-items.ensures.value in
    let near = c.requires.near c.loop-entry.entry-index c.entry-item.result (omega (arith, c.loop-entry-test.true)) in
    omega (arith, near.1, ap (λ r. r.0) there, c.requires.fits)

pub loop-entry-preserved : goal.loop-entry-preserved
loop-entry-preserved g c = record {
  over = ap (λ x. set c.loop-entry.entry-items c.loop-entry.entry-index (moved_ref c.args.first c.args.to x)) (sym c.entry-item.is) ∙ map_over_more (moved_ref c.args.first c.args.to) _ _ _ c.entry-item.result (omega (arith, c.loop-entry-test.true)) c.loop-entry.invariant.over c.entry-item.is;
  rest = λ k d low. (let other : k ≢ c.loop-entry.entry-index = omega (arith, low) in rw get_or-set_other (c.loop-entry.invariant.rest k d (omega (arith, low))));
}
