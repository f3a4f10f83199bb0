use Rattle.std.proofs.Common.{◌+◌, arith, [], ◌∷◌, refl, sym, ap, ◌∙◌, subst, ◌≤◌}
use Rattle.walk_core.specs.Words.{epoch_at}
use Rattle.row_layout.specs.declared.places.Layout.{Layout}
use Rattle.row_table.specs.declared.view.PassView.{PassView}
use Rattle.row_table.specs.Rule.{view}
use Rattle.row_table.specs.Crossings.{entered}
use Rattle.row_table.proofs.Crossings.{enters_at}
use Rattle.row_table.proofs.Sizes.{right_of, same_sizes, sized_enter}
use Rattle.row_table.proofs.Told.{Kept, kept_by, view_of, same_id, same_table}
use Rattle.row_table.specs.Passes.{model_of, iron_model}
use Rattle.row_table.proofs.pass.Pass.enter.Goals as goal

pub fetch_add-requires : goal.fetch_add-requires
unfolding model_of iron_model
fetch_add-requires g c = let p = c.args.self.now in (
  same_id c.requires.table,
  let wide = c.args.iron.now.sized.0 in let at = c.epoch-word.ensures in let less = (same_sizes p.sized _ c.args.iron.now.layout (same_id c.requires.table) c.args.iron.now.sized.0 c.args.iron.now.sized.1).1 in omega arith,
  enters_at g.P.Plan.meaning _ _ _ _ _ p.number _ (c.epoch-word.ensures ∙ ap (λ (y : Layout). epoch_at y.rows p.number) (sym c.args.iron.now.sized.2)) p.one c.requires.outside
      (let same = p.sized.same_epoch in let most = p.sized.counted.bounded in let other = c.if-self-eq-LAST.false in omega arith),
)

pub invariant_of-self : goal.invariant_of-self
unfolding model_of iron_model
invariant_of-self g c =
    let p = c.args.self.now in let some_rows = (same_sizes p.sized _ c.args.iron.now.layout (same_id c.requires.table) c.args.iron.now.sized.0 c.args.iron.now.sized.1).0 in let two = c.args.iron.now.sizes in
    let same = p.sized.same_epoch in let most = p.sized.counted.bounded in let other = c.if-self-eq-LAST.false in
    let w : PassView g.row.P-Row.Denot g.row.P-Book.Denot g.row.P-Entry.Denot = entered (view p.seat.me) in
    let k : Kept p.number p.rows (p.epoch + 1) c.fetch_add.new.seat.table_id c.fetch_add.new.seat.me p.stack.items
    = kept_by p.number p.rows (p.epoch + 1) p.seat.table_id c.fetch_add.new.seat.table_id c.fetch_add.new.seat.me p.stack.items w c.fetch_add.ensures.0
    (c.fetch_add.ensures.2.1 ∙ ap (λ (cs : _). (w ∷ [], cs)) p.stacked) p.one.1 (sized_enter p.sized (let low = two.0 in omega arith) c.requires.outside (omega arith)) p.carries p.held in
    record {
      one = k.one;
      sized = k.sized;
      stacked = k.stacked;
      carries = k.carries;
      held = k.held;
      few = p.few;
      room = p.room;
    }

pub returns-clause-enters : goal.returns-clause-enters
unfolding model_of iron_model
returns-clause-enters g c = let p = c.args.self.now in let same = p.sized.same_epoch in let most = p.sized.counted.bounded in let other = c.if-self-eq-LAST.false in
    (omega arith, view_of _ _ _ c.fetch_add.ensures.2.1)

pub returns-clause-table : goal.returns-clause-table
unfolding model_of iron_model
returns-clause-table g c = same_table _ _ (view c.args.self.now.seat.me) _ _ c.fetch_add.ensures.0 (returns-clause-enters g c).1 refl refl

pub returns-clause-layout : goal.returns-clause-layout
unfolding model_of iron_model
returns-clause-layout g c = ap (λ y. y.layout) c.requires.table

pub returns-clause-right : goal.returns-clause-right
unfolding model_of iron_model
returns-clause-right g c = let p = c.args.self.now in right_of p.sized (subst (λ (y : Layout). (4 ≤ y.levels) × (y.levels ≤ 5)) (sym (ap (λ y. y.layout) c.requires.table)) (c.args.iron.now.sizes.4, c.args.iron.now.sizes.5)) p.held (sym p.one.1)

pub returns-then-self-eq-LAST-clause-layout : goal.returns-then-self-eq-LAST-clause-layout
unfolding model_of iron_model
returns-then-self-eq-LAST-clause-layout g c = ap (λ y. y.layout) c.requires.table

pub returns-then-self-eq-LAST-clause-right : goal.returns-then-self-eq-LAST-clause-right
unfolding model_of iron_model
returns-then-self-eq-LAST-clause-right g c = let p = c.args.self.now in right_of p.sized (subst (λ (y : Layout). (4 ≤ y.levels) × (y.levels ≤ 5)) (sym (ap (λ y. y.layout) c.requires.table)) (c.args.iron.now.sizes.4, c.args.iron.now.sizes.5)) p.held (sym p.one.1)
