use Rattle.std.proofs.Common.{take, sym, ap, subst, arith}
use Rattle.walk_core.specs.Guards.{IsSampled}
use Rattle.row_layout.specs.declared.places.Layout.{Layout}
use Rattle.row_table.specs.declared.view.PassView.{PassView}
use Rattle.row_table.specs.Passes.{view_of, layout_of}
use Rattle.epoch_grace.proofs.Loaded.{sampled_all, stays}
use Rattle.epoch_grace.proofs.retiring.retire.Goals as goal

pub returns-clause-sampled : goal.returns-clause-sampled
returns-clause-sampled g c =
    let l = c.load_all.ensures.loads in let few = c.load_all.ensures.sizes in let count = ap (λ (k : Layout). k.passes) c.load_all.ensures.layout in let all = l.all in
    subst (λ (w : PassView g.row.P-Row.Denot g.row.P-Book.Denot g.row.P-Entry.Denot). IsSampled (layout_of c.args.iron.now).passes w.core (record { row = c.args.row; samples = c.load_all.result })) (sym l.after)
    (sampled_all g.P.Plan.meaning (view_of c.args.pass.now) (take (layout_of c.args.iron.now).passes c.load_all.result) l.each (omega arith) c.load_all.ensures.places
    (layout_of c.args.iron.now).passes c.args.row c.load_all.result (omega arith) (λ i. take (layout_of c.args.iron.now).passes c.load_all.result) c.load_all.ensures.none_else c.requires.marked)

pub returns-clause-others : goal.returns-clause-others
returns-clause-others g c k old =
    let l = c.load_all.ensures.loads in let few = c.load_all.ensures.sizes in let count = ap (λ (k : Layout). k.passes) c.load_all.ensures.layout in let all = l.all in
    subst (λ (w : PassView g.row.P-Row.Denot g.row.P-Book.Denot g.row.P-Entry.Denot). IsSampled (view_of c.args.pass.now).layout.passes w.core k) (sym l.after)
    (stays g.P.Plan.meaning (view_of c.args.pass.now) (take (layout_of c.args.iron.now).passes c.load_all.result) l.each (omega arith) c.load_all.ensures.places k old)
