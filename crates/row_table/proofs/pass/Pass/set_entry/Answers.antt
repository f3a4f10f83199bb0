use Rattle.std.proofs.Common.{arith, [], ◌∷◌, sym, ap, ◌∙◌, subst}
use Rattle.row_table.specs.declared.view.PassView.{PassView}
use Rattle.row_table.specs.Rule.{view}
use Rattle.walk_core.specs.Lists.{times}
use Rattle.row_table.specs.Stack.{carried, AreRows}
use Rattle.row_table.specs.Links.{entry_set, KeepsUnlinked}
use Rattle.row_table.proofs.Links.{sets_at}
use Rattle.row_table.proofs.Ready.{kept_entry}
use Rattle.row_table.proofs.Told.{Kept, kept_by, view_of, same_id, same_table}
use Rattle.row_table.proofs.Sizes.{view_there}
use Rattle.row_table.proofs.Sized.{entry_knows, entry_same, sized_entry}
use Rattle.row_table.specs.Passes.{model_of, iron_model}
use Rattle.row_table.proofs.pass.Pass.set_entry.Goals as goal

pub entry-place-requires-clause-there : goal.entry-place-requires-clause-there
unfolding model_of iron_model
entry-place-requires-clause-there g c = let may = c.requires.guard in (
  view_there c.args.self.now.sized c.args.self.now.held _ c.args.iron.now.layout (same_id c.requires.table) c.args.iron.now.sized.0 c.args.iron.now.sized.1 may.linker may.held c.args.row may.same_row,
  may.inside,
)

pub store-requires : goal.store-requires
unfolding model_of iron_model
store-requires g c = (
  same_id c.requires.table,
  let wide = c.args.iron.now.sized.0 in let at = c.entry-place.ensures in let may = c.requires.guard in
      let less = view_there c.args.self.now.sized c.args.self.now.held _ c.args.iron.now.layout (same_id c.requires.table) c.args.iron.now.sized.0 c.args.iron.now.sized.1 may.linker may.held c.args.row may.same_row in let inside = may.inside in omega arith,
  sets_at g.P.Plan.meaning _ _ _ _ _ c.args.self.now.number c.args.row c.args.index c.args.word _ c.entry-place.ensures c.args.self.now.one c.requires.guard,
)

pub invariant_of-self : goal.invariant_of-self
unfolding model_of iron_model
invariant_of-self g c =
    let p = c.args.self.now in let may = c.requires.guard in let t = c.store.ensures.2 c.args.row c.args.index may.linker may.inside c.entry-place.ensures may.held may.same_row in
    let w : PassView g.row.P-Row.Denot g.row.P-Book.Denot g.row.P-Entry.Denot = entry_set (view p.seat.me) may.linker c.args.index c.args.word in
    let same = entry_same (view p.seat.me) may.linker c.args.index c.args.word in
    let k : Kept p.number p.rows p.epoch c.store.new.seat.table_id c.store.new.seat.me p.stack.items = kept_by p.number p.rows p.epoch p.seat.table_id c.store.new.seat.table_id c.store.new.seat.me p.stack.items w c.store.ensures.0
    (t.1 ∙ ap (λ (cs : _). (w ∷ [], cs)) p.stacked) (same.0 ∙ p.one.1) (sized_entry p.sized may.linker c.args.index c.args.word t.0)
    (λ r. p.carries r ∙ (λ j. times r (carried p.rows (sym same.1 j) (sym same.2 j)))) (subst (AreRows p.rows) (sym same.1) p.held) in
    record {
      one = k.one;
      sized = k.sized;
      stacked = k.stacked;
      carries = k.carries;
      held = k.held;
      few = p.few;
      room = p.room;
    }

pub returns-clause-sets : goal.returns-clause-sets
unfolding model_of iron_model
returns-clause-sets g c linker held same = let t = c.store.ensures.2 c.args.row c.args.index linker c.requires.guard.inside c.entry-place.ensures held same in view_of _ _ _ t.1

pub returns-clause-others : goal.returns-clause-others
unfolding model_of iron_model
returns-clause-others g c = let v : PassView g.row.P-Row.Denot g.row.P-Book.Denot g.row.P-Entry.Denot = view c.args.self.now.seat.me in let may = c.requires.guard in
    subst (λ (u : PassView g.row.P-Row.Denot g.row.P-Book.Denot g.row.P-Entry.Denot). KeepsUnlinked c.args.word v u) (sym (returns-clause-sets g c may.linker may.held may.same_row)) (kept_entry v may.linker c.args.index c.args.word)

pub returns-clause-table : goal.returns-clause-table
unfolding model_of iron_model
returns-clause-table g c = let may = c.requires.guard in let v = view c.args.self.now.seat.me in same_table _ _ (view c.args.self.now.seat.me) _ _ (c.store.ensures.0) (returns-clause-sets g c may.linker may.held may.same_row) (entry_knows v may.linker c.args.index c.args.word).0 (entry_knows v may.linker c.args.index c.args.word).1
