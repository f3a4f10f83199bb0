use Rattle.std.proofs.Common.{◌<◌, arith, [], ◌∷◌, refl, sym, ap, ◌∙◌, subst}
use Rattle.walk_core.specs.Words.{epoch_at}
use Rattle.row_layout.specs.declared.places.Layout.{Layout}
use Rattle.row_table.specs.declared.view.PassView.{PassView}
use Rattle.row_table.specs.Rule.{view}
use Rattle.row_table.specs.Sampling.{sampled}
use Rattle.row_table.proofs.Sampling.{samples_at, sized_sample}
use Rattle.row_table.proofs.Told.{Kept, kept_by, view_of, same_id, same_table}
use Rattle.row_table.specs.Passes.{model_of, iron_model}
use Rattle.row_table.proofs.pass.Pass.sample.Goals as goal

pub load-requires : goal.load-requires
unfolding model_of iron_model
load-requires g c = (
  same_id c.requires.table,
  let wide = c.args.iron.now.sized.0 in let at = c.epoch-word.ensures in let less = c.requires.there in omega arith,
  samples_at g.P.Plan.meaning _ _ _ _ _ c.args.self.now.number c.args.other _ (c.epoch-word.ensures ∙ ap (λ (y : Layout). epoch_at y.rows c.args.other) (sym c.args.iron.now.sized.2)) c.args.self.now.one
      (subst (λ (y : Layout). c.args.other < y.passes) (sym c.args.iron.now.sized.2) c.requires.there) c.requires.outside,
)

pub invariant_of-self : goal.invariant_of-self
unfolding model_of iron_model
invariant_of-self g c =
    let p = c.args.self.now in let same = ap (λ y. y.layout) c.requires.table in
    let t = c.load.ensures.2 c.args.other (c.epoch-word.ensures ∙ ap (λ (y : Layout). epoch_at y.rows c.args.other) (sym same)) in
    let w : PassView g.row.P-Row.Denot g.row.P-Book.Denot g.row.P-Entry.Denot = sampled (view p.seat.me) c.args.other c.load.result in
    let k : Kept p.number p.rows p.epoch c.load.new.seat.table_id c.load.new.seat.me p.stack.items = kept_by p.number p.rows p.epoch p.seat.table_id c.load.new.seat.table_id c.load.new.seat.me p.stack.items w c.load.ensures.0
    (t.1 ∙ ap (λ (cs : _). (w ∷ [], cs)) p.stacked) p.one.1 (sized_sample p.sized c.args.other c.load.result) p.carries p.held in
    record {
      one = k.one;
      sized = k.sized;
      stacked = k.stacked;
      carries = k.carries;
      held = k.held;
      few = p.few;
      room = p.room;
    }

pub returns-clause-samples : goal.returns-clause-samples
unfolding model_of iron_model
returns-clause-samples g c =
    let p = c.args.self.now in let same = ap (λ y. y.layout) c.requires.table in
    let t = c.load.ensures.2 c.args.other (c.epoch-word.ensures ∙ ap (λ (y : Layout). epoch_at y.rows c.args.other) (sym same)) in (t.0, view_of _ _ _ t.1)

pub returns-clause-layout : goal.returns-clause-layout
unfolding model_of iron_model
returns-clause-layout g c = ap (λ y. y.layout) c.requires.table

pub returns-clause-places : goal.returns-clause-places
unfolding model_of iron_model
returns-clause-places g c = c.args.self.now.sized.places

pub returns-clause-table : goal.returns-clause-table
unfolding model_of iron_model
returns-clause-table g c = same_table _ _ (view c.args.self.now.seat.me) _ _ c.load.ensures.0 (returns-clause-samples g c).1 refl refl
