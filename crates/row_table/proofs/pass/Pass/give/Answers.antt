use Rattle.std.proofs.Common.{◌≡◌, ◌<◌, arith, ℕ, List, [], ◌∷◌, drop, sym, ap, ◌∙◌, subst, None, refl}
use Rattle.atomic_table.specs.Table.{rest}
use Rattle.walk_core.specs.Lists.{times}
use Rattle.walk_core.specs.Words.{book_at}
use Rattle.row_layout.specs.declared.places.Layout.{Layout}
use Rattle.row_table.specs.declared.view.PassView.{PassView}
use Rattle.row_table.specs.Rule.{Slot, Seat, view, SameRows}
use Rattle.row_table.specs.Stack.{outs, carried}
use Rattle.row_table.specs.Books.{gave, MayGive}
use Rattle.row_table.proofs.Turns.{gives_at}
use Rattle.row_table.proofs.Told.{Kept, kept_by, one_of, view_of, front_of, put_in, carried_book, carries_no_book, same_id, same_table}
use Rattle.row_table.proofs.Sizes.{sized_gave}
use Rattle.row_table.specs.Passes.{model_of, iron_model}
use Rattle.row_table.proofs.pass.Pass.give.Goals as goal

pub bring-requires-clause-there : goal.bring-requires-clause-there
unfolding model_of iron_model
bring-requires-clause-there g c = let p = c.args.self.now in carried_book p.rows (view p.seat.me).core.held p.stack.items (view p.seat.me).core.has_book c.requires.has p.carries

pub put_book-requires-clause-front : goal.put_book-requires-clause-front
unfolding model_of iron_model
put_book-requires-clause-front g c κs within =
    let p = c.args.self.now in let rows : ℕ = c.args.iron.now.layout.rows in let more : List ℕ = c.bring.ensures.front.0 in
    let slots = sym p.sized.slots ∙ (ap (λ (x : _). x.slots) (same_id c.requires.table) ∙ c.args.iron.now.sized.1) in let same_rows : p.rows ≡ rows = omega arith in
    let front : c.bring.new.seat.me.1 ≡ (rows, None) ∷ outs more = c.bring.ensures.stacked ∙ (ap outs c.bring.ensures.front.1 ∙ ap (λ (r : ℕ). (r, None) ∷ outs more) same_rows) in
    front ∙ ap (λ (l : List (ℕ × Slot g.row.P-Row.Denot g.row.P-Book.Denot)). (rows, None) ∷ rest l) (sym front)

pub store-requires : goal.store-requires
unfolding model_of iron_model
store-requires g c =
    let p = c.args.self.now in let rows : ℕ = c.args.iron.now.layout.rows in let more : List ℕ = c.bring.ensures.front.0 in
    let slots = sym p.sized.slots ∙ (ap (λ (x : _). x.slots) (same_id c.requires.table) ∙ c.args.iron.now.sized.1) in let same_rows : p.rows ≡ rows = omega arith in
    let front : c.bring.new.seat.me.1 ≡ (rows, None) ∷ outs more = c.bring.ensures.stacked ∙ (ap outs c.bring.ensures.front.1 ∙ ap (λ (r : ℕ). (r, None) ∷ outs more) same_rows) in
    let is = put_in p.number p.seat.me c.bring.new.seat.me c.put_book.new.seat.me _ _ _ p.one c.bring.ensures.same.0 front c.put_book.ensures.seat in
    let sees : view c.put_book.new.seat.me ≡ view p.seat.me = view_of _ _ _ is in let may = c.requires.may in (
      c.put_book.ensures.table ∙ (c.bring.ensures.same.1 ∙ same_id c.requires.table),
      let wide = c.args.iron.now.sized.0 in let at = c.book-word.ensures in omega arith,
      gives_at g.P.Plan.meaning _ _ _ _ _ _ _ rows may.old c.args.book (c.book-word.ensures ∙ ap (λ (y : Layout). book_at y.rows y.passes) (sym c.args.iron.now.sized.2)) (ap (λ (y : Layout). y.rows) (sym c.args.iron.now.sized.2)) g.P.Plan.lawful (one_of _ _ _ _ is p.one.1)
          (ap (λ (v : PassView g.row.P-Row.Denot g.row.P-Book.Denot g.row.P-Entry.Denot). v.core.has_book) sees ∙ c.requires.has)
          (ap (λ (v : PassView g.row.P-Row.Denot g.row.P-Book.Denot g.row.P-Entry.Denot). v.found) sees ∙ may.found)
          (subst (λ (y : Layout). MayGive g.P.Plan.meaning y (view c.put_book.new.seat.me) may.old c.args.book) (sym c.args.iron.now.sized.2)
          (subst (λ (v : PassView g.row.P-Row.Denot g.row.P-Book.Denot g.row.P-Entry.Denot). MayGive g.P.Plan.meaning c.args.iron.now.layout v may.old c.args.book) (sym sees) may.may))
          (front_of _ _ _ _ is),
    )

pub invariant_of-self : goal.invariant_of-self
unfolding model_of iron_model
invariant_of-self g c =
    let p = c.args.self.now in let rows : ℕ = c.args.iron.now.layout.rows in let more : List ℕ = c.bring.ensures.front.0 in
    let slots = sym p.sized.slots ∙ (ap (λ (x : _). x.slots) (same_id c.requires.table) ∙ c.args.iron.now.sized.1) in let same_rows : p.rows ≡ rows = omega arith in
    let front : c.bring.new.seat.me.1 ≡ (rows, None) ∷ outs more = c.bring.ensures.stacked ∙ (ap outs c.bring.ensures.front.1 ∙ ap (λ (r : ℕ). (r, None) ∷ outs more) same_rows) in
    let is = put_in p.number p.seat.me c.bring.new.seat.me c.put_book.new.seat.me _ _ _ p.one c.bring.ensures.same.0 front c.put_book.ensures.seat in
    let sees : view c.put_book.new.seat.me ≡ view p.seat.me = view_of _ _ _ is in let may = c.requires.may in
    let t = c.store.ensures.2 rows may.old c.args.book (ap (λ (v : PassView g.row.P-Row.Denot g.row.P-Book.Denot g.row.P-Entry.Denot). v.found) sees ∙ may.found) (front_of _ _ _ _ is) in
    let w : PassView g.row.P-Row.Denot g.row.P-Book.Denot g.row.P-Entry.Denot = gave g.P.Plan.meaning (view p.seat.me) may.old c.args.book t.0.generation in
    let now = t.1 ∙ ap (λ (y : Seat g.row.P-Row.Denot g.row.P-Book.Denot g.row.P-Entry.Denot). (gave g.P.Plan.meaning (view y) may.old c.args.book t.0.generation ∷ [], rest y.1)) is in
    let left : c.pop_front.new.self.items ≡ more = c.pop_front.ensures.rest ∙ ap (drop 1) c.bring.ensures.front.1 in
    let same : SameRows (p.rows ∷ more) (carried p.rows (view p.seat.me).core.held (view p.seat.me).core.has_book) = λ r. ap (times r) (sym c.bring.ensures.front.1) ∙ (c.bring.ensures.rows r ∙ p.carries r) in
    let k : Kept p.number p.rows p.epoch c.store.new.seat.table_id c.store.new.seat.me c.pop_front.new.self.items = subst (Kept p.number p.rows p.epoch c.store.new.seat.table_id c.store.new.seat.me) (sym left)
    (kept_by p.number p.rows p.epoch p.seat.table_id c.store.new.seat.table_id c.store.new.seat.me more w (c.store.ensures.0 ∙ (c.put_book.ensures.table ∙ c.bring.ensures.same.1)) now p.one.1 (sized_gave p.sized g.P.Plan.meaning may.old c.args.book t.0.generation
    (λ r i. subst (λ (v : PassView g.row.P-Row.Denot g.row.P-Book.Denot g.row.P-Entry.Denot). r < v.layout.rows) sees (t.0.there r i)))
    (carries_no_book p.rows (view p.seat.me).core.held more (view p.seat.me).core.has_book c.requires.has same) p.held) in
    record {
      one = k.one;
      sized = k.sized;
      stacked = k.stacked;
      carries = k.carries;
      held = k.held;
      few = p.few;
      room = (let a = c.pop_front.ensures.capacity in let b = c.bring.ensures.room.1 in let r = p.room in omega arith);
    }

pub returns-clause-gives : goal.returns-clause-gives
unfolding model_of iron_model
returns-clause-gives g c =
    let p = c.args.self.now in let rows : ℕ = c.args.iron.now.layout.rows in let more : List ℕ = c.bring.ensures.front.0 in
    let slots = sym p.sized.slots ∙ (ap (λ (x : _). x.slots) (same_id c.requires.table) ∙ c.args.iron.now.sized.1) in let same_rows : p.rows ≡ rows = omega arith in
    let front : c.bring.new.seat.me.1 ≡ (rows, None) ∷ outs more = c.bring.ensures.stacked ∙ (ap outs c.bring.ensures.front.1 ∙ ap (λ (r : ℕ). (r, None) ∷ outs more) same_rows) in
    let is = put_in p.number p.seat.me c.bring.new.seat.me c.put_book.new.seat.me _ _ _ p.one c.bring.ensures.same.0 front c.put_book.ensures.seat in
    let sees : view c.put_book.new.seat.me ≡ view p.seat.me = view_of _ _ _ is in let may = c.requires.may in
    let t = c.store.ensures.2 rows may.old c.args.book (ap (λ (v : PassView g.row.P-Row.Denot g.row.P-Book.Denot g.row.P-Entry.Denot). v.found) sees ∙ may.found) (front_of _ _ _ _ is) in
    record {
      old = may.old;
      found = may.found;
      grants = record { generation = t.0.generation; low = t.0.low; there = λ r i. subst (λ (v : PassView g.row.P-Row.Denot g.row.P-Book.Denot g.row.P-Entry.Denot). r < v.layout.rows) sees (t.0.there r i) };
      after = view_of _ _ _ t.1 ∙ ap (λ (v : PassView g.row.P-Row.Denot g.row.P-Book.Denot g.row.P-Entry.Denot). gave g.P.Plan.meaning v may.old c.args.book t.0.generation) sees;
    }

pub put_book-requires-clause-table : goal.put_book-requires-clause-table
unfolding model_of iron_model
put_book-requires-clause-table g c κs within = c.bring.ensures.same.1 ∙ same_id c.requires.table

pub returns-clause-table : goal.returns-clause-table
unfolding model_of iron_model
returns-clause-table g c = same_table _ _ (view c.args.self.now.seat.me) _ _ (c.store.ensures.0 ∙ (c.put_book.ensures.table ∙ c.bring.ensures.same.1)) ((returns-clause-gives g c).after) refl refl
