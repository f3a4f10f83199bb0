use Rattle.std.proofs.Common.{◌≡◌, ℕ, sym, ap, ◌∙◌, subst}
use Rattle.row_layout.specs.declared.places.Layout.{Layout}
use Rattle.row_uses.specs.Uses.{HasAdded}
use Rattle.row_uses.proofs.Tally.{View, may_add, added, has_added, none_added}
use Rattle.row_table.specs.Passes.{view_of, layout_of}
use Rattle.row_uses.proofs.uses.add_entry.Goals as goal

pub give-requires-clause-may : goal.give-requires-clause-may
give-requires-clause-may c κs =
    let e = c.in-Got.ensures.turns.1 in let w : View = view_of c.turn.new.self in
    let did = added _ c.in-Got.entries.items c.push-pushed.new.self.items (c.number.result, c.args.count) c.push-pushed.ensures.items in
    let number : w.number ≡ c.number.result = sym c.number.ensures in
    record {
      old = c.in-Got.entries;
      found = ap (λ (v : View). v.found) e;
      may = may_add (layout_of c.args.iron.now) w c.in-Got.entries c.push-pushed.new.self (ap (λ (v : View). v.core.has_book) e) did.0 (λ x is. did.1 x is ∙ sym number);
    }

pub returns-in-Ok-clause-adds : goal.returns-in-Ok-clause-adds
returns-in-Ok-clause-adds c = let t = c.in-Got.ensures.turns in let names = c.number.ensures ∙ ap (λ (v : View). v.number) t.1 in
    subst (λ (n : ℕ). HasAdded (view_of c.args.pass.now) (n, c.args.count) (view_of c.give.new.self)) names
    (has_added _ _ _ _ c.in-Got.entries c.push-pushed.new.self (c.number.result, c.args.count) t.0 t.1 c.give.ensures.gives c.in-Ok.ensures.items names)

pub returns-in-Err-clause-adds : goal.returns-in-Err-clause-adds
returns-in-Err-clause-adds c = let t = c.in-Got.ensures.turns in
    none_added _ _ _ _ c.in-Got.entries c.push-pushed.new.self (ap (λ (k : Layout). k.rows) c.in-Got.ensures.layout) t.0 t.1 c.give.ensures.gives c.in-Err.ensures.items
