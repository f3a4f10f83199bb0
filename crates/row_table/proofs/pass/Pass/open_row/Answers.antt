use Rattle.std.proofs.Common.{◌≡◌, rules, arith, ℕ, List, [], ◌∷◌, sym, ap, ◌∙◌, subst, None, refl}
use Rattle.walk_core.specs.Lists.{times}
use Rattle.row_table.specs.declared.view.PassView.{PassView}
use Rattle.row_table.specs.Rule.{view}
use Rattle.row_table.specs.Openings.{opened, KeepsOpen}
use Rattle.row_table.proofs.Openings.{opens_at}
use Rattle.row_table.proofs.Ready.{kept_opened}
use Rattle.row_table.proofs.Told.{Kept, kept_by, view_of, front_of, swapped, came_out, not_carried, room_left, carries_row, rows_with, same_id, same_table}
use Rattle.row_table.proofs.Sized.{open_there, sized_opened}
use Rattle.row_table.specs.Passes.{model_of, iron_model}
use Rattle.row_table.proofs.pass.Pass.open_row.Goals as goal

pub lock-word-requires-clause-there : goal.lock-word-requires-clause-there
unfolding model_of iron_model
lock-word-requires-clause-there g c = open_there c.args.self.now.sized _ c.args.iron.now.layout (same_id c.requires.table) c.args.iron.now.sized.0 c.args.iron.now.sized.1 c.args.row c.requires.guard

pub store-requires : goal.store-requires
unfolding model_of iron_model
store-requires g c = (
  same_id c.requires.table,
  let wide = c.args.iron.now.sized.0 in let at = c.lock-word.ensures in let less = open_there c.args.self.now.sized _ c.args.iron.now.layout (same_id c.requires.table) c.args.iron.now.sized.0 c.args.iron.now.sized.1 c.args.row c.requires.guard in omega arith,
  opens_at g.P.Plan.meaning _ _ _ _ _ _ c.args.row _ _ c.lock-word.ensures c.from-mine.ensures c.args.self.now.one c.requires.guard,
)

pub push_front_reserved-requires : goal.push_front_reserved-requires
unfolding model_of iron_model
push_front_reserved-requires g c =
    let p = c.args.self.now in let rows = c.args.iron.now.sized.1 in let slots = p.sized.slots in
    let same = ap (λ (x : _). x.slots) (same_id c.requires.table) in let less = open_there p.sized _ c.args.iron.now.layout (same_id c.requires.table) c.args.iron.now.sized.0 c.args.iron.now.sized.1 c.args.row c.requires.guard in let room = p.room in
    let none : times c.args.row p.stack.items ≡ 0 = not_carried p.rows c.args.row (view p.seat.me).core.held p.stack.items (view p.seat.me).core.has_book p.carries c.requires.guard.closed (λ _ e. omega arith) in
    let few = room_left p.rows c.args.row (view p.seat.me).core.held p.stack.items (view p.seat.me).core.has_book p.carries p.held (omega arith) none in omega arith

pub take_row-requires-clause-front : goal.take_row-requires-clause-front
unfolding model_of iron_model
take_row-requires-clause-front g c κs within = let t = c.store.ensures.2 c.args.row c.lock-word.ensures in (t.1, front_of _ _ _ _ t.3)

pub invariant_of-self : goal.invariant_of-self
unfolding model_of iron_model
invariant_of-self g c =
    let p = c.args.self.now in let t = c.store.ensures.2 c.args.row c.lock-word.ensures in let rows = c.args.iron.now.sized.1 in let slots = p.sized.slots in
    let same = ap (λ (x : _). x.slots) (same_id c.requires.table) in let less = open_there p.sized _ c.args.iron.now.layout (same_id c.requires.table) c.args.iron.now.sized.0 c.args.iron.now.sized.1 c.args.row c.requires.guard in
    let items : List ℕ = c.args.row ∷ p.stack.items in
    let pushed : c.push_front_reserved.new.self.items ≡ items = c.push_front_reserved.ensures.items in
    let k : Kept p.number p.rows p.epoch c.take_row.new.seat.table_id c.take_row.new.seat.me c.push_front_reserved.new.self.items = subst (Kept p.number p.rows p.epoch c.take_row.new.seat.table_id c.take_row.new.seat.me) (sym pushed)
    (kept_by p.number p.rows p.epoch p.seat.table_id c.take_row.new.seat.table_id c.take_row.new.seat.me items (opened (view p.seat.me) c.args.row t.0.place t.0.known.generation) (c.take_row.ensures.table ∙ c.store.ensures.0)
    (swapped _ _ _ _ _ _ t.3 c.take_row.ensures.seat ∙ ap (λ (cs : _). (opened (view p.seat.me) c.args.row t.0.place t.0.known.generation ∷ [], (c.args.row, None) ∷ cs)) p.stacked)
    p.one.1 (sized_opened p.sized c.args.row t.0.place t.0.known.generation) (carries_row p.rows c.args.row (view p.seat.me).core.held p.stack.items (view p.seat.me).core.has_book p.carries) (rows_with p.rows c.args.row (view p.seat.me).core.held p.held (omega arith) c.requires.guard.closed)) in
    record {
      one = k.one;
      sized = k.sized;
      stacked = k.stacked;
      carries = k.carries;
      held = k.held;
      few = p.few;
      room = search rules;
    }

pub returns-clause-opens : goal.returns-clause-opens
unfolding model_of iron_model
returns-clause-opens g c =
    let t = c.store.ensures.2 c.args.row c.lock-word.ensures in let same = came_out _ _ _ _ _ _ t.3 c.take_row.ensures.front in
    (t.0, subst g.P.Plan.meaning.is_blank same t.2, view_of _ _ _ (swapped _ _ _ _ _ _ t.3 c.take_row.ensures.seat))

pub returns-clause-others : goal.returns-clause-others
unfolding model_of iron_model
returns-clause-others g c = let v : PassView g.row.P-Row.Denot g.row.P-Book.Denot g.row.P-Entry.Denot = view c.args.self.now.seat.me in let o = returns-clause-opens g c in
    subst (λ (u : PassView g.row.P-Row.Denot g.row.P-Book.Denot g.row.P-Entry.Denot). KeepsOpen c.args.row v u) (sym o.2) (kept_opened v c.args.row o.0.known.generation o.0.place)

pub take_row-requires-clause-table : goal.take_row-requires-clause-table
unfolding model_of iron_model
take_row-requires-clause-table g c κs within = c.store.ensures.0 ∙ same_id c.requires.table

pub returns-clause-table : goal.returns-clause-table
unfolding model_of iron_model
returns-clause-table g c = same_table _ _ (view c.args.self.now.seat.me) _ _ (c.take_row.ensures.table ∙ c.store.ensures.0) ((returns-clause-opens g c).2) refl refl
