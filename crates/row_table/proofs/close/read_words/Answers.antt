use Rattle.std.proofs.Common.{◌≡◌, rules, arith, ℕ, suc, ◌+◌, List, [], ◌∷◌, ◌++◌, take, sym, ap, ◌∙◌}
use Rattle.std.specs.Mem.Slots.{slots_items}
use Rattle.row_table.proofs.End.{take_next}
use Rattle.row_table.proofs.close.read_words.Goals as goal

pub loop-place-preserved : goal.loop-place-preserved
loop-place-preserved g c = record {
  items = c.push_reserved.ensures.items ∙ (ap (λ (l : List ℕ). l ++ c.word.result ∷ []) c.loop-place.invariant.items
      ∙ (sym (take_next (slots_items c.args.closed.now.words) c.loop-place.place c.word.result c.word.ensures) ∙ ap (λ (n : ℕ). take n (slots_items c.args.closed.now.words)) (let e : suc c.loop-place.place ≡ c.loop-place.place + 1 = omega arith in e)));
  len = search rules;
  room = search rules;
}
