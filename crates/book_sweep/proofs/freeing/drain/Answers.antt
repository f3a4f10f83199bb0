use Rattle.std.proofs.Common.{◌≡◌, ◌<◌, ◌+◌, ◌-◌, ℕ, List, [], length, get_or, Option, sym, ap, ◌∙◌, subst, arith, refl}
use Rattle.std.specs.FinSet as finset
use Rattle.std.proofs.lemmas.List.Elements.{All-get_or}
use Rattle.free_numbers.specs.Numbers.{NumbersBelow}
use Rattle.free_numbers.specs.FreeNumbers.{with_number}
use Rattle.row_layout.specs.declared.limbo.Sampled.{Sampled}
use Rattle.row_layout.specs.Limbo.{LimboList}
use Rattle.epoch_grace.proofs.Swept.{SweptTo, swept_none, met_length, met_is, sweep_frees, not_there}
use Rattle.book_sweep.proofs.Drained.{met, ended, drained, all_freed}
use Rattle.book_sweep.proofs.freeing.drain.Goals as goal

abbrev no_row : Sampled
no_row = record { row = 0; samples = []; blocker = 0; blocked_at = 0 }

pub loop-done-init : goal.loop-done-init
loop-done-init c =
    let same : length c.list.result.now ≡ length c.args.limbo.now.list = ap length c.list.ensures.value in (
      subst (λ (p : ℕ). SweptTo [] c.args.limbo.now.list c.args.free.now p c.args.limbo.now.list c.args.free.now) (let e : length c.args.limbo.now.list ≡ length c.list.result.now - 0 = omega (arith, same) in e)
          (swept_none [] c.args.limbo.now.list c.args.free.now),
      (λ i. c.args.limbo.now.room),
      same,
    )

pub bounds-list-place : goal.bounds-list-place
bounds-list-place c =
    let p : ℕ = length c.list.result.now - 1 - c.loop-done.done in let more = c.loop-done-test.true in let same = c.loop-done.invariant.2 in let less : p < length c.args.limbo.now.list = omega (arith, more, same) in
    let old = met c.args.limbo.now.list c.args.free.now (length c.list.result.now) c.loop-done.done c.loop-done.limbo.list c.loop-done.free more c.loop-done.invariant.0 in
    let long = met_length [] c.args.limbo.now.list c.args.free.now p less c.loop-done.limbo.list c.loop-done.free old no_row in omega (arith, long, ap length c.list-in-loop-done.ensures.value)

pub remove-requires : goal.remove-requires
remove-requires c =
    let p : ℕ = length c.list.result.now - 1 - c.loop-done.done in let more = c.loop-done-test.true in let same = c.loop-done.invariant.2 in let less : p < length c.args.limbo.now.list = omega (arith, more, same) in
    let old = met c.args.limbo.now.list c.args.free.now (length c.list.result.now) c.loop-done.done c.loop-done.limbo.list c.loop-done.free more c.loop-done.invariant.0 in
    met_length [] c.args.limbo.now.list c.args.free.now p less c.loop-done.limbo.list c.loop-done.free old no_row

pub put-requires-clause-below : goal.put-requires-clause-below
put-requires-clause-below c =
    let p : ℕ = length c.list.result.now - 1 - c.loop-done.done in let more = c.loop-done-test.true in let same = c.loop-done.invariant.2 in let less : p < length c.args.limbo.now.list = omega (arith, more, same) in
    let old = met c.args.limbo.now.list c.args.free.now (length c.list.result.now) c.loop-done.done c.loop-done.limbo.list c.loop-done.free more c.loop-done.invariant.0 in
    let is = ap (λ (l : List Sampled). get_or l p no_row) c.list-in-loop-done.ensures.value ∙ met_is [] c.args.limbo.now.list c.args.free.now p less c.loop-done.limbo.list c.loop-done.free old no_row no_row in
    omega (arith, ap (λ (s : Sampled). s.row) is, All-get_or (λ (s : Sampled). s.row < c.args.free.now.limit) c.args.limbo.now.list p no_row less c.requires.below, old.limit)

pub put-requires-clause-absent : goal.put-requires-clause-absent
put-requires-clause-absent c =
    let p : ℕ = length c.list.result.now - 1 - c.loop-done.done in let more = c.loop-done-test.true in let same = c.loop-done.invariant.2 in let less : p < length c.args.limbo.now.list = omega (arith, more, same) in
    let old = met c.args.limbo.now.list c.args.free.now (length c.list.result.now) c.loop-done.done c.loop-done.limbo.list c.loop-done.free more c.loop-done.invariant.0 in
    let is = ap (λ (l : List Sampled). get_or l p no_row) c.list-in-loop-done.ensures.value ∙ met_is [] c.args.limbo.now.list c.args.free.now p less c.loop-done.limbo.list c.loop-done.free old no_row no_row in
    ap (λ (s : Sampled). finset.contains c.loop-done.free.numbers s.row) is ∙ not_there [] c.args.limbo.now.list c.args.free.now p less c.loop-done.limbo.list c.loop-done.free old no_row c.requires.apart.once c.requires.apart.apart

pub loop-done-preserved : goal.loop-done-preserved
loop-done-preserved c =
    let first : List Sampled = c.args.limbo.now.list in
    let p : ℕ = length c.list.result.now - 1 - c.loop-done.done in let more = c.loop-done-test.true in let same = c.loop-done.invariant.2 in let less : p < length first = omega (arith, more, same) in
    let old = met first c.args.free.now (length c.list.result.now) c.loop-done.done c.loop-done.limbo.list c.loop-done.free more c.loop-done.invariant.0 in
    let is = ap (λ (l : List Sampled). get_or l p no_row) c.list-in-loop-done.ensures.value ∙ met_is [] first c.args.free.now p less c.loop-done.limbo.list c.loop-done.free old no_row no_row in
    let freed = sweep_frees [] first c.args.free.now p less c.loop-done.limbo.list c.loop-done.free old no_row (λ y low. absurd (omega (arith, low)))
    c.remove.new.self.list (ap (λ (l : LimboList). l.list) c.remove.ensures.after) c.put.new.self (c.put.ensures ∙ ap (λ s. with_number c.loop-done.free s.row) is) in
    let next : p ≡ length c.list.result.now - (c.loop-done.done + 1) = omega (arith, more) in (
      subst (λ (q : ℕ). SweptTo [] first c.args.free.now q c.remove.new.self.list c.put.new.self) next freed,
      ap (λ (l : LimboList). l.room) c.remove.ensures.after ∙ c.loop-done.invariant.1,
      same,
    )

pub returns-clause-room : goal.returns-clause-room
returns-clause-room c = c.loop-done.invariant.1

pub returns-clause-empty : goal.returns-clause-empty
returns-clause-empty c = drained c.args.limbo.now.list c.args.free.now _ c.loop-done.free (ended c.args.limbo.now.list c.args.free.now _ _ c.loop-done.limbo.list c.loop-done.free c.loop-done-test.false c.loop-done.invariant.0)

pub returns-clause-frees : goal.returns-clause-frees
returns-clause-frees c = all_freed c.args.limbo.now.list c.args.free.now c.loop-done.limbo.list _ (ended c.args.limbo.now.list c.args.free.now _ _ c.loop-done.limbo.list c.loop-done.free c.loop-done-test.false c.loop-done.invariant.0)
