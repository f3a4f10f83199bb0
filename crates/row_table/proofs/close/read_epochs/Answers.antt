use Rattle.std.proofs.Common.{◌≡◌, rules, arith, ℕ, ◌+◌, ◌<◌, List, [], ◌∷◌, get_or, length, length-append, sym, ap, ◌∙◌}
use mathlib.Core.Option.{some}
use lib.ListN.{get_elem?}
use Rattle.atomic_table.proofs.Lists.{at_index}
use Rattle.walk_core.proofs.RowLists.{get_or_any}
use Rattle.row_table.proofs.End.{at_more}
use Rattle.row_table.proofs.close.read_epochs.Goals as goal

pub loop-index-preserved : goal.loop-index-preserved
loop-index-preserved c =
    let inv = c.loop-index.invariant in let at : ℕ = c.args.first + c.loop-index.index in let x : ℕ = get_or c.args.words.now at 0 in let room = c.requires.inside in let less = c.loop-index-test.true in
    let inside : at < length c.args.words.now = omega arith in
    let here : get_elem? c.args.words.now at ≡ some x = at_index c.args.words.now at x inside (get_or_any c.args.words.now at 0 x inside) in
    record {
      items = λ i y e. at_more (λ j z. get_elem? c.args.words.now (c.args.first + j) ≡ some z) c.loop-index.epochs.items x c.loop-index.index inv.count here inv.items i y (ap (λ (l : List ℕ). get_elem? l i) (sym c.push_reserved.ensures.items) ∙ e);
      count = ap length c.push_reserved.ensures.items ∙ (length-append c.loop-index.epochs.items (x ∷ []) ∙ ap (λ (n : ℕ). n + 1) inv.count);
      len = search rules;
      room = search rules;
    }
