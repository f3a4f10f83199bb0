use Rattle.std.proofs.Common.{◌+◌, arith, [], ◌∷◌, sym, ap, ◌∙◌, refl}
use Rattle.walk_core.specs.Words.{epoch_at}
use Rattle.row_layout.specs.declared.places.Layout.{Layout}
use Rattle.row_table.specs.declared.view.PassView.{PassView}
use Rattle.row_table.specs.Rule.{view}
use Rattle.row_table.specs.Crossings.{left}
use Rattle.row_table.proofs.Crossings.{leaves_at}
use Rattle.row_table.proofs.Told.{Kept, kept_by, view_of, same_id, same_table}
use Rattle.row_table.proofs.Sizes.{same_sizes, sized_leave}
use Rattle.row_table.specs.Passes.{model_of, iron_model}
use Rattle.row_table.proofs.pass.Pass.leave.Goals as goal

pub fetch_add-requires : goal.fetch_add-requires
unfolding model_of iron_model
fetch_add-requires g c = (
  same_id c.requires.table,
  let wide = c.args.iron.now.sized.0 in let at = c.epoch-word.ensures in let less = (same_sizes c.args.self.now.sized _ c.args.iron.now.layout (same_id c.requires.table) c.args.iron.now.sized.0 c.args.iron.now.sized.1).1 in omega arith,
  leaves_at g.P.Plan.meaning _ _ _ _ _ c.args.self.now.number _ (c.epoch-word.ensures ∙ ap (λ (y : Layout). epoch_at y.rows c.args.self.now.number) (sym c.args.iron.now.sized.2)) c.args.self.now.one c.requires.inside,
)

pub invariant_of-self : goal.invariant_of-self
unfolding model_of iron_model
invariant_of-self g c =
    let p = c.args.self.now in let w : PassView g.row.P-Row.Denot g.row.P-Book.Denot g.row.P-Entry.Denot = left (view p.seat.me) in
    let k : Kept p.number p.rows (p.epoch + 1) c.fetch_add.new.seat.table_id c.fetch_add.new.seat.me p.stack.items = kept_by p.number p.rows (p.epoch + 1) p.seat.table_id c.fetch_add.new.seat.table_id c.fetch_add.new.seat.me p.stack.items w c.fetch_add.ensures.0
    (c.fetch_add.ensures.2.1 ∙ ap (λ (cs : _). (w ∷ [], cs)) p.stacked) p.one.1 (sized_leave p.sized c.requires.inside) p.carries p.held in
    record {
      one = k.one;
      sized = k.sized;
      stacked = k.stacked;
      carries = k.carries;
      held = k.held;
      few = p.few;
      room = p.room;
    }

pub returns-clause-leaves : goal.returns-clause-leaves
unfolding model_of iron_model
returns-clause-leaves g c = view_of _ _ _ c.fetch_add.ensures.2.1

pub returns-clause-table : goal.returns-clause-table
unfolding model_of iron_model
returns-clause-table g c = same_table _ _ (view c.args.self.now.seat.me) _ _ (c.fetch_add.ensures.0) (returns-clause-leaves g c) refl refl
