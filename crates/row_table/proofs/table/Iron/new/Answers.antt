use Rattle.std.proofs.Common.{◌≡◌, arith, ℕ, ◌+◌, get_or, length, sym, ap, ◌∙◌, subst, Some}
use Rattle.row_table.specs.Rule.{unmoved, boot_views, Holds}
use Rattle.atomic_table.specs.Table.{opening}
use Rattle.row_table.specs.Passes.{number_of, model_of, iron_model}
use Rattle.row_table.proofs.Start.{starts, long_is, slots_long}
use Rattle.row_table.proofs.table.Iron.new.Goals as goal

pub new-requires : goal.new-requires
unfolding model_of iron_model
new-requires g c = subst (λ (b : g.row.P-Book.Denot). Holds g.P.Plan.meaning c.args.layout b (opening c.as_slice.result.now c.in_ok-slots.slots.items (boot_views c.args.layout b))) (sym c.of.ensures)
    (starts g.P.Plan.meaning c.args.layout c.as_slice.result.now c.in_ok-slots.slots.items c.args.rows.items c.args.book c.requires.layout g.P.Plan.lawful c.requires.starts (c.as_slice.ensures.value ∙ c.in_ok-words.ensures) c.in_ok-slots.ensures)

pub invariant_of-iron : goal.invariant_of-iron
unfolding model_of iron_model
invariant_of-iron g c = let ok = c.in-Ok.ensures.ok in record {
  stored = c.in_ok-rooms.ensures;
  sizes = c.requires.layout;
  sized = (
    ok.0 ∙ (ap length (c.as_slice.ensures.value ∙ c.in_ok-words.ensures) ∙ long_is c.args.layout c.requires.layout),
    ok.1 ∙ (ap length c.in_ok-slots.ensures ∙ (slots_long c.args.rows.items c.args.book ∙ ap (λ (n : ℕ). n + 1) c.requires.starts.each_row)),
    ap (λ a. a.layout) ok.5,
  );
}

pub returns-clause-views : goal.returns-clause-views
unfolding model_of iron_model
returns-clause-views g c k d less = let ok = c.in-Ok.ensures.ok in let o = c.in_ok-passes.ensures.views k d less in
    let at : c.in-Ok.table.shared.key.origin.value ≡ c.args.book = ap (λ a. a.origin.value) ok.5 ∙ c.of.ensures in
    (o.0, o.1 ∙ ap (λ (b : g.row.P-Book.Denot). unmoved c.args.layout (Some b) (number_of (get_or c.in_ok-passes.passes.items k d))) at)

pub store-requires : goal.store-requires
unfolding model_of iron_model
store-requires g c = let long = ap length c.in_ok-words.ensures ∙ long_is c.args.layout c.requires.layout in let is = c.len.ensures in let count = c.in_ok-words.words.ok in omega arith

pub returns-clause-origin : goal.returns-clause-origin
unfolding model_of iron_model
returns-clause-origin g c = let ok = c.in-Ok.ensures.ok in ap (λ (b : g.row.P-Book.Denot). Some b) (ap (λ a. a.origin.value) ok.5 ∙ c.of.ensures)
