use Rattle.std.proofs.Common.{◌≡◌, arith, ℕ, List, [], ◌∷◌, drop, sym, ap, ◌∙◌, subst, None, refl}
use Rattle.atomic_table.specs.Table.{rest}
use Rattle.walk_core.specs.Lists.{times, Has}
use Rattle.row_table.specs.declared.view.PassView.{PassView}
use Rattle.row_table.specs.Rule.{Seat, view, SameRows}
use Rattle.row_table.specs.Stack.{outs, carried}
use Rattle.row_table.specs.Openings.{KeepsOpen}
use Rattle.row_table.specs.Moves.{released, NotInHand, Fits}
use Rattle.row_table.proofs.Locks.{releases_at}
use Rattle.row_table.proofs.Ready.{kept_released}
use Rattle.row_table.proofs.Told.{Kept, kept_by, one_of, view_of, front_of, put_in, carried_row, carries_less, rows_less, same_id, same_table}
use Rattle.row_table.proofs.Sizes.{view_held, view_there, held_there, sized_released}
use Rattle.row_table.specs.Passes.{model_of, iron_model}
use Rattle.row_table.proofs.pass.Pass.release.Goals as goal

pub bring-requires-clause-there : goal.bring-requires-clause-there
unfolding model_of iron_model
bring-requires-clause-there g c = let fits = c.requires.fits in carried_row c.args.self.now.rows c.args.row (view c.args.self.now.seat.me).core.held c.args.self.now.stack.items (view c.args.self.now.seat.me).core.has_book c.args.self.now.carries (view_held c.args.self.now.sized fits.known fits.held c.args.row fits.same_row)

pub lock-word-requires-clause-there : goal.lock-word-requires-clause-there
unfolding model_of iron_model
lock-word-requires-clause-there g c = let p = c.args.self.now in let fits = c.requires.fits in
    view_there p.sized p.held _ c.args.iron.now.layout (same_id c.requires.table) c.args.iron.now.sized.0 c.args.iron.now.sized.1 fits.known fits.held c.args.row fits.same_row

pub store-requires : goal.store-requires
unfolding model_of iron_model
store-requires g c = let p = c.args.self.now in let fits = c.requires.fits in let has = view_held p.sized fits.known fits.held c.args.row fits.same_row in
    let front : c.bring.new.seat.me.1 ≡ (c.args.row, None) ∷ outs c.bring.ensures.front.0 = c.bring.ensures.stacked ∙ ap outs c.bring.ensures.front.1 in
    let is = put_in p.number p.seat.me c.bring.new.seat.me c.put_row.new.seat.me _ _ _ p.one c.bring.ensures.same.0 front c.put_row.ensures.seat in
    let sees : view c.put_row.new.seat.me ≡ view p.seat.me = view_of _ _ _ is in (
      c.put_row.ensures.table ∙ (c.bring.ensures.same.1 ∙ same_id c.requires.table),
      let wide = c.args.iron.now.sized.0 in let at = c.lock-word.ensures in let less = held_there p.sized p.held _ c.args.iron.now.layout (same_id c.requires.table) c.args.iron.now.sized.0 c.args.iron.now.sized.1 c.args.row has in omega arith,
      releases_at g.P.Plan.meaning _ _ _ _ _ _ c.args.row _ c.args.content c.lock-word.ensures (one_of _ _ _ _ is p.one.1)
          (subst (λ (v : PassView g.row.P-Row.Denot g.row.P-Book.Denot g.row.P-Entry.Denot). Has v.core.held c.args.row) (sym sees) has)
          (subst (λ (v : PassView g.row.P-Row.Denot g.row.P-Book.Denot g.row.P-Entry.Denot). NotInHand v c.args.row) (sym sees) c.requires.linked)
          (subst (λ (v : PassView g.row.P-Row.Denot g.row.P-Book.Denot g.row.P-Entry.Denot). Fits g.P.Plan.meaning v c.args.row c.args.content) (sym sees) c.requires.fits)
          (front_of _ _ _ _ is),
    )

pub invariant_of-self : goal.invariant_of-self
unfolding model_of iron_model
invariant_of-self g c = let p = c.args.self.now in let fits = c.requires.fits in let has = view_held p.sized fits.known fits.held c.args.row fits.same_row in let more : List ℕ = c.bring.ensures.front.0 in
    let front : c.bring.new.seat.me.1 ≡ (c.args.row, None) ∷ outs more = c.bring.ensures.stacked ∙ ap outs c.bring.ensures.front.1 in
    let is = put_in p.number p.seat.me c.bring.new.seat.me c.put_row.new.seat.me _ _ _ p.one c.bring.ensures.same.0 front c.put_row.ensures.seat in
    let now = c.store.ensures.2 c.args.row c.lock-word.ensures ∙ ap (λ (y : Seat g.row.P-Row.Denot g.row.P-Book.Denot g.row.P-Entry.Denot). (released (view y) c.args.row ∷ [], rest y.1)) is in
    let left : c.pop_front.new.self.items ≡ more = c.pop_front.ensures.rest ∙ ap (drop 1) c.bring.ensures.front.1 in
    let same : SameRows (c.args.row ∷ more) (carried p.rows (view p.seat.me).core.held (view p.seat.me).core.has_book) = λ r. ap (times r) (sym c.bring.ensures.front.1) ∙ (c.bring.ensures.rows r ∙ p.carries r) in
    let k : Kept p.number p.rows p.epoch c.store.new.seat.table_id c.store.new.seat.me c.pop_front.new.self.items = subst (Kept p.number p.rows p.epoch c.store.new.seat.table_id c.store.new.seat.me) (sym left)
    (kept_by p.number p.rows p.epoch p.seat.table_id c.store.new.seat.table_id c.store.new.seat.me more (released (view p.seat.me) c.args.row) (c.store.ensures.0 ∙ (c.put_row.ensures.table ∙ c.bring.ensures.same.1)) now p.one.1 (sized_released p.sized c.args.row)
    (carries_less p.rows c.args.row (view p.seat.me).core.held more (view p.seat.me).core.has_book p.held has same) (rows_less p.rows c.args.row (view p.seat.me).core.held p.held)) in
    record {
      one = k.one;
      sized = k.sized;
      stacked = k.stacked;
      carries = k.carries;
      held = k.held;
      few = p.few;
      room = (let a = c.pop_front.ensures.capacity in let b = c.bring.ensures.room.1 in let r = p.room in omega arith);
    }

pub returns-clause-releases : goal.returns-clause-releases
unfolding model_of iron_model
returns-clause-releases g c = let p = c.args.self.now in
    let front : c.bring.new.seat.me.1 ≡ (c.args.row, None) ∷ outs c.bring.ensures.front.0 = c.bring.ensures.stacked ∙ ap outs c.bring.ensures.front.1 in
    let is = put_in p.number p.seat.me c.bring.new.seat.me c.put_row.new.seat.me _ _ _ p.one c.bring.ensures.same.0 front c.put_row.ensures.seat in
    view_of _ _ _ (c.store.ensures.2 c.args.row c.lock-word.ensures) ∙ ap (λ (v : PassView g.row.P-Row.Denot g.row.P-Book.Denot g.row.P-Entry.Denot). released v c.args.row) (view_of _ _ _ is)

pub returns-clause-others : goal.returns-clause-others
unfolding model_of iron_model
returns-clause-others g c = let v : PassView g.row.P-Row.Denot g.row.P-Book.Denot g.row.P-Entry.Denot = view c.args.self.now.seat.me in
    subst (λ (u : PassView g.row.P-Row.Denot g.row.P-Book.Denot g.row.P-Entry.Denot). KeepsOpen c.args.row v u) (sym (returns-clause-releases g c)) (kept_released v c.args.row)

pub put_row-requires-clause-table : goal.put_row-requires-clause-table
unfolding model_of iron_model
put_row-requires-clause-table g c κs within = c.bring.ensures.same.1 ∙ same_id c.requires.table

pub returns-clause-table : goal.returns-clause-table
unfolding model_of iron_model
returns-clause-table g c = same_table _ _ (view c.args.self.now.seat.me) _ _ (c.store.ensures.0 ∙ (c.put_row.ensures.table ∙ c.bring.ensures.same.1)) (returns-clause-releases g c) refl refl
