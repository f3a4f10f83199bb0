use Rattle.std.proofs.Common.{arith, [], ◌∷◌, sym, ap, ◌∙◌, subst, refl}
use Rattle.walk_core.specs.Words.{place_shown}
use Rattle.row_table.specs.declared.view.PassView.{PassView}
use Rattle.row_table.specs.Rule.{Seat, view}
use Rattle.row_table.specs.Openings.{numbered, prepared, MayOpen, KeepsOpen}
use Rattle.row_table.proofs.Openings.{few_levels, is_spelled, spelled_is, places_at, numbers_next, may_open}
use Rattle.row_table.proofs.Ready.{kept_prepared}
use Rattle.row_table.proofs.Told.{Kept, kept_by, view_of, same_id, same_table}
use Rattle.row_table.proofs.Sized.{hand_there, sized_prepared}
use Rattle.row_table.specs.Passes.{model_of, iron_model}
use Rattle.row_table.proofs.pass.Pass.set_up.Goals as goal

pub position_word-spelled-requires : goal.position_word-spelled-requires
unfolding model_of iron_model
position_word-spelled-requires g c = is_spelled (view c.args.self.now.seat.me).layout c.args.place (few_levels c.args.iron.now.sizes (ap (λ y. y.layout) c.requires.table)) c.requires.guard.is_place

pub position-place_word-requires-clause-there : goal.position-place_word-requires-clause-there
unfolding model_of iron_model
position-place_word-requires-clause-there g c = hand_there c.args.self.now.sized _ c.args.iron.now.layout (same_id c.requires.table) c.args.iron.now.sized.0 c.args.iron.now.sized.1 c.args.row c.requires.guard.known c.requires.guard.in_hand c.requires.guard.same_row

pub generation-number_word-requires-clause-there : goal.generation-number_word-requires-clause-there
unfolding model_of iron_model
generation-number_word-requires-clause-there g c = hand_there c.args.self.now.sized _ c.args.iron.now.layout (same_id c.requires.table) c.args.iron.now.sized.0 c.args.iron.now.sized.1 c.args.row c.requires.guard.known c.requires.guard.in_hand c.requires.guard.same_row

pub store-requires : goal.store-requires
unfolding model_of iron_model
store-requires g c = let may = c.requires.guard in (
  same_id c.requires.table,
  let wide = c.args.iron.now.sized.0 in let at = c.position-place_word.ensures in let less = hand_there c.args.self.now.sized _ c.args.iron.now.layout (same_id c.requires.table) c.args.iron.now.sized.0 c.args.iron.now.sized.1 c.args.row c.requires.guard.known c.requires.guard.in_hand c.requires.guard.same_row in omega arith,
  places_at g.P.Plan.meaning _ _ _ _ _ c.args.self.now.number c.args.row _ _ c.args.place may.known c.position-place_word.ensures c.position_word-spelled.ensures c.args.self.now.one may.in_hand may.same_row may.closed may.is_place,
)

pub store-requires-2 : goal.store-requires-2
unfolding model_of iron_model
store-requires-2 g c = (
  c.store.ensures.0 ∙ same_id c.requires.table,
  let wide = c.args.iron.now.sized.0 in let at = c.generation-number_word.ensures in let less = hand_there c.args.self.now.sized _ c.args.iron.now.layout (same_id c.requires.table) c.args.iron.now.sized.0 c.args.iron.now.sized.1 c.args.row c.requires.guard.known c.requires.guard.in_hand c.requires.guard.same_row in omega arith,
  numbers_next g.P.Plan.meaning _ _ _ _ c.args.self.now.seat.me c.store.new.seat.me c.args.self.now.number c.args.row _ c.args.generation (place_shown c.position_word-spelled.result) c.args.place c.generation-number_word.ensures
      c.args.self.now.one c.requires.guard (c.store.ensures.2 c.args.row c.position-place_word.ensures),
)

pub invariant_of-self : goal.invariant_of-self
unfolding model_of iron_model
invariant_of-self g c =
    let p = c.args.self.now in let first = c.store.ensures.2 c.args.row c.position-place_word.ensures in
    let w : PassView g.row.P-Row.Denot g.row.P-Book.Denot g.row.P-Entry.Denot = prepared (view p.seat.me) c.args.row (place_shown c.position_word-spelled.result) c.args.generation in
    let k : Kept p.number p.rows p.epoch c.store-2.new.seat.table_id c.store-2.new.seat.me p.stack.items = kept_by p.number p.rows p.epoch p.seat.table_id c.store-2.new.seat.table_id c.store-2.new.seat.me p.stack.items w (c.store-2.ensures.0 ∙ c.store.ensures.0)
    (c.store-2.ensures.2 c.args.row c.generation-number_word.ensures ∙ (ap (λ (m : Seat g.row.P-Row.Denot g.row.P-Book.Denot g.row.P-Entry.Denot). (numbered (view m) c.args.row c.args.generation ∷ [], m.1)) first ∙ ap (λ (cs : _). (w ∷ [], cs)) p.stacked))
    p.one.1 (sized_prepared p.sized c.args.row _ c.args.generation) p.carries p.held in
    record {
      one = k.one;
      sized = k.sized;
      stacked = k.stacked;
      carries = k.carries;
      held = k.held;
      few = p.few;
      room = p.room;
    }

pub returns-clause-sets_up : goal.returns-clause-sets_up
unfolding model_of iron_model
returns-clause-sets_up g c =
    let v : PassView g.row.P-Row.Denot g.row.P-Book.Denot g.row.P-Entry.Denot = view c.args.self.now.seat.me in
    view_of _ _ _ (c.store-2.ensures.2 c.args.row c.generation-number_word.ensures)
    ∙ (ap (λ (u : PassView g.row.P-Row.Denot g.row.P-Book.Denot g.row.P-Entry.Denot). numbered u c.args.row c.args.generation) (view_of _ _ _ (c.store.ensures.2 c.args.row c.position-place_word.ensures))
    ∙ ap (λ (q : _). prepared v c.args.row q c.args.generation) (spelled_is v.layout c.args.place _ (few_levels c.args.iron.now.sizes (ap (λ y. y.layout) c.requires.table)) c.requires.guard.is_place c.position_word-spelled.ensures))

pub returns-clause-may_open : goal.returns-clause-may_open
unfolding model_of iron_model
returns-clause-may_open g c =
    let v : PassView g.row.P-Row.Denot g.row.P-Book.Denot g.row.P-Entry.Denot = view c.args.self.now.seat.me in let guard = c.requires.guard in
    subst (λ (u : PassView g.row.P-Row.Denot g.row.P-Book.Denot g.row.P-Entry.Denot). MayOpen u c.args.row) (sym (returns-clause-sets_up g c))
    (may_open g.P.Plan.meaning v c.args.row c.args.generation c.args.place guard.known c.args.self.now.sized.granted.0 guard.in_hand guard.same_row guard.closed)

pub returns-clause-others : goal.returns-clause-others
unfolding model_of iron_model
returns-clause-others g c = let v : PassView g.row.P-Row.Denot g.row.P-Book.Denot g.row.P-Entry.Denot = view c.args.self.now.seat.me in
    subst (λ (u : PassView g.row.P-Row.Denot g.row.P-Book.Denot g.row.P-Entry.Denot). KeepsOpen c.args.row v u) (sym (returns-clause-sets_up g c)) (kept_prepared v c.args.row c.args.generation c.args.place)

pub returns-clause-table : goal.returns-clause-table
unfolding model_of iron_model
returns-clause-table g c = same_table _ _ (view c.args.self.now.seat.me) _ _ (c.store-2.ensures.0 ∙ c.store.ensures.0) (returns-clause-sets_up g c) refl refl
