use Rattle.std.proofs.Common.{◌≡◌, rules, arith, ℕ, ◌+◌, false, Bool, List, [], ◌∷◌, get_or, length, length-append, sym, ap, ◌∙◌, subst, Option, Some, IsSome}
use Rattle.std.specs.Mem.Slots.{slots_filled, slots_items, slots_len}
use mathlib.Core.Option.{some, some-injective}
use lib.ListN.{get_elem?}
use Rattle.row_table.specs.declared.plan.Content.{Content}
use Rattle.row_table.specs.declared.plan.Content.TheVariants.{Row}
use Rattle.row_table.proofs.End.{at_more, still_filled, now_taken}
use Rattle.row_table.proofs.close.take_rows.Goals as goal

pub unwrap-requires : goal.unwrap-requires
unwrap-requires g c = let t = c.requires.there c.loop-row.row c.loop-row-test.true in
    let same : c.take.result ≡ Some (Row t.0) = some-injective _ _ (sym c.take.ensures.value ∙ (ap (λ l. get_elem? l c.loop-row.row) c.loop-row.invariant.slots ∙ t.1)) in
    subst (λ (o : Option (Content g.row.P-Row.Denot g.row.P-Book.Denot)). IsSome o) (sym same) (search rules)

pub into_row-requires : goal.into_row-requires
into_row-requires g c = let t = c.requires.there c.loop-row.row c.loop-row-test.true in
    let same : c.take.result ≡ Some (Row t.0) = some-injective _ _ (sym c.take.ensures.value ∙ (ap (λ l. get_elem? l c.loop-row.row) c.loop-row.invariant.slots ∙ t.1)) in
    let out = c.unwrap.ensures in (t.0, cc)

pub loop-row-preserved : goal.loop-row-preserved
loop-row-preserved g c = let inv = c.loop-row.invariant in let others = c.take.ensures.others in
    let here : get_elem? (slots_items c.args.closed.now.slots) c.loop-row.row ≡ some (Some (Row c.into_row.result)) = (let out = c.unwrap.ensures in let is = c.into_row.ensures in
    let same : c.take.result ≡ Some (Row c.into_row.result) = cc in ap (λ l. get_elem? l c.loop-row.row) (sym inv.slots) ∙ (c.take.ensures.value ∙ ap some same)) in
    record {
      filled = λ k low high. ap (λ (l : List Bool). get_or l k false) others.1 ∙ still_filled (slots_filled c.loop-row.closed.slots) c.loop-row.row k (slots_len c.loop-row.closed.slots) inv.filled low (let w = others.2 in omega arith);
      taken = λ k less. ap (λ (l : List Bool). get_or l k false) others.1 ∙ now_taken (slots_filled c.loop-row.closed.slots) c.loop-row.row k inv.taken less;
      slots = others.0 ∙ inv.slots;
      wide = others.2 ∙ inv.wide;
      rows = λ i y e. at_more (λ j z. get_elem? (slots_items c.args.closed.now.slots) j ≡ some (Some (Row z))) c.loop-row.rows.items c.into_row.result c.loop-row.row inv.count here inv.rows i y (ap (λ l. get_elem? l i) (sym c.push_reserved.ensures.items) ∙ e);
      count = ap length c.push_reserved.ensures.items ∙ (length-append c.loop-row.rows.items (c.into_row.result ∷ []) ∙ ap (λ (n : ℕ). n + 1) inv.count);
      len = search rules;
      room = search rules;
    }
