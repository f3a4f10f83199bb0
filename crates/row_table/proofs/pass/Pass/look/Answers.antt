use Rattle.std.proofs.Common.{arith, [], ◌∷◌, ap, ◌∙◌, refl}
use Rattle.row_table.specs.declared.view.PassView.{PassView}
use Rattle.row_table.specs.Rule.{view}
use Rattle.row_table.specs.Looks.{looked_at}
use Rattle.row_table.proofs.Looks.{looks_at}
use Rattle.row_table.proofs.Told.{Kept, kept_by, view_of, same_id, same_table}
use Rattle.row_table.proofs.Sizes.{row_there, sized_look}
use Rattle.row_table.specs.Passes.{model_of, iron_model}
use Rattle.row_table.proofs.pass.Pass.look.Goals as goal

pub load-requires : goal.load-requires
unfolding model_of iron_model
load-requires g c = (
  same_id c.requires.table,
  let wide = c.args.iron.now.sized.0 in let at = c.entry-word.ensures in let less = row_there c.args.self.now.sized c.args.self.now.held _ c.args.iron.now.layout (same_id c.requires.table) c.args.iron.now.sized.0 c.args.iron.now.sized.1 c.args.row c.requires.guard in let inside = c.requires.inside in omega arith,
  looks_at g.P.Plan.meaning _ _ _ _ _ c.args.self.now.number c.args.row c.args.index _ c.entry-word.ensures c.args.self.now.one c.requires.inside c.requires.guard,
)

pub invariant_of-self : goal.invariant_of-self
unfolding model_of iron_model
invariant_of-self g c =
    let p = c.args.self.now in let t = c.load.ensures.2 c.args.row c.args.index c.requires.inside c.entry-word.ensures in
    let w : PassView g.row.P-Row.Denot g.row.P-Book.Denot g.row.P-Entry.Denot = looked_at (view p.seat.me) c.args.row t.0.place c.args.index c.load.result in
    let k : Kept p.number p.rows p.epoch c.load.new.seat.table_id c.load.new.seat.me p.stack.items = kept_by p.number p.rows p.epoch p.seat.table_id c.load.new.seat.table_id c.load.new.seat.me p.stack.items w c.load.ensures.0
    (t.1 ∙ ap (λ (cs : _). (w ∷ [], cs)) p.stacked) p.one.1 (sized_look p.sized c.args.row c.args.index c.load.result t.0.place t.0.below) p.carries p.held in
    record {
      one = k.one;
      sized = k.sized;
      stacked = k.stacked;
      carries = k.carries;
      held = k.held;
      few = p.few;
      room = p.room;
    }

pub returns-clause-looks : goal.returns-clause-looks
unfolding model_of iron_model
returns-clause-looks g c = let t = c.load.ensures.2 c.args.row c.args.index c.requires.inside c.entry-word.ensures in (t.0, view_of _ _ _ t.1)

pub returns-clause-table : goal.returns-clause-table
unfolding model_of iron_model
returns-clause-table g c = same_table _ _ (view c.args.self.now.seat.me) _ _ (c.load.ensures.0) ((returns-clause-looks g c).1) refl refl
