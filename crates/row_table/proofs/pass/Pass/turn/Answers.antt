use Rattle.std.proofs.Common.{◌≡◌, rules, arith, ℕ, ◌+◌, ◌-◌, List, [], ◌∷◌, sym, ap, ◌∙◌, subst, None, refl}
use Rattle.walk_core.specs.Lists.{times}
use Rattle.walk_core.specs.Words.{book_at}
use Rattle.row_layout.specs.declared.places.Layout.{Layout}
use Rattle.row_table.specs.declared.view.PassView.{PassView}
use Rattle.row_table.specs.Rule.{view}
use Rattle.row_table.specs.Known.{IsAnother}
use Rattle.row_table.specs.Books.{turned, waited, Learns}
use Rattle.row_table.proofs.Turns.{turns_at}
use Rattle.row_table.proofs.Told.{Kept, kept_by, view_of, front_of, swapped, book_came_out, room_left, no_book, carries_book, same_id, same_table}
use Rattle.row_table.proofs.Sizes.{sized_turned, sized_waited}
use Rattle.row_table.specs.Passes.{model_of, iron_model}
use Rattle.row_table.proofs.pass.Pass.turn.Goals as goal

pub compare_exchange-found-requires : goal.compare_exchange-found-requires
unfolding model_of iron_model
compare_exchange-found-requires g c = (
  same_id c.requires.table,
  let wide = c.args.iron.now.sized.0 in let at = c.book-word.ensures in omega arith,
  turns_at g.P.Plan.meaning _ _ _ _ _ _ _ _ (c.book-word.ensures ∙ ap (λ (y : Layout). book_at y.rows y.passes) (sym c.args.iron.now.sized.2)) c.from-mine.ensures c.args.self.now.one c.requires.free,
)

pub push_front_reserved-requires : goal.push_front_reserved-requires
unfolding model_of iron_model
push_front_reserved-requires g c =
    let p = c.args.self.now in let room = p.room in
    let none : times p.rows p.stack.items ≡ 0 = no_book p.rows (view p.seat.me).core.held p.stack.items (view p.seat.me).core.has_book c.requires.free p.held p.carries in
    let few = room_left p.rows p.rows (view p.seat.me).core.held p.stack.items (view p.seat.me).core.has_book p.carries p.held (omega arith) none in omega arith

pub take_book-requires-clause-front : goal.take_book-requires-clause-front
unfolding model_of iron_model
take_book-requires-clause-front g c κs within = let slots = ap (λ (x : _). x.slots) (same_id c.requires.table) ∙ c.args.iron.now.sized.1 in
    let t = (c.compare_exchange-found.ensures.2 c.args.iron.now.layout.rows c.args.iron.now.sized.1).0 c.if-found-eq0.true in (t.0, front_of _ _ _ _ t.2)

pub overflow_cast-result : goal.overflow_cast-result
unfolding model_of iron_model
overflow_cast-result g c = let t = (c.compare_exchange-found.ensures.2 c.args.iron.now.layout.rows c.args.iron.now.sized.1).1 c.if-found-eq0.false in omega (arith, t.3)

pub invariant_of-self : goal.invariant_of-self
unfolding model_of iron_model
invariant_of-self g c =
    let p = c.args.self.now in let rows : ℕ = c.args.iron.now.layout.rows in
    let t = (c.compare_exchange-found.ensures.2 rows c.args.iron.now.sized.1).0 c.if-found-eq0.true in
    let slots = sym p.sized.slots ∙ (ap (λ (x : _). x.slots) (same_id c.requires.table) ∙ c.args.iron.now.sized.1) in let same_rows : rows ≡ p.rows = omega arith in
    let w : PassView g.row.P-Row.Denot g.row.P-Book.Denot g.row.P-Entry.Denot = turned g.P.Plan.meaning (view p.seat.me) t.0 in
    let items : List ℕ = p.rows ∷ p.stack.items in
    let pushed : c.push_front_reserved.new.self.items ≡ items = c.push_front_reserved.ensures.items in
    let k : Kept p.number p.rows p.epoch c.take_book.new.seat.table_id c.take_book.new.seat.me c.push_front_reserved.new.self.items = subst (Kept p.number p.rows p.epoch c.take_book.new.seat.table_id c.take_book.new.seat.me) (sym pushed)
    (kept_by p.number p.rows p.epoch p.seat.table_id c.take_book.new.seat.table_id c.take_book.new.seat.me items w (c.take_book.ensures.table ∙ c.compare_exchange-found.ensures.0)
    (swapped _ _ _ _ _ _ t.2 c.take_book.ensures.seat ∙ (λ i. (w ∷ [], (same_rows i, None) ∷ p.stacked i)))
    p.one.1 (sized_turned p.sized g.P.Plan.meaning t.0) (carries_book p.rows (view p.seat.me).core.held p.stack.items (view p.seat.me).core.has_book c.requires.free p.carries) p.held) in
    record {
      one = k.one;
      sized = k.sized;
      stacked = k.stacked;
      carries = k.carries;
      held = k.held;
      few = p.few;
      room = search rules;
    }

pub returns-then-found-eq0-clause-turns : goal.returns-then-found-eq0-clause-turns
unfolding model_of iron_model
returns-then-found-eq0-clause-turns g c =
    let t = (c.compare_exchange-found.ensures.2 c.args.iron.now.layout.rows c.args.iron.now.sized.1).0 c.if-found-eq0.true in
    let same : t.0 ≡ c.take_book.result = book_came_out _ _ _ _ _ _ _ t.2 c.take_book.ensures.front in
    subst (λ (b : g.row.P-Book.Denot). Learns g.P.Plan.meaning c.args.iron.now.layout.rows (view c.args.self.now.seat.me) b × (view c.take_book.new.seat.me ≡ turned g.P.Plan.meaning (view c.args.self.now.seat.me) b)) same
    (t.1, view_of _ _ _ (swapped _ _ _ _ _ _ t.2 c.take_book.ensures.seat))

pub invariant_of-self-else-found-eq0 : goal.invariant_of-self-else-found-eq0
unfolding model_of iron_model
invariant_of-self-else-found-eq0 g c =
    let p = c.args.self.now in let t = (c.compare_exchange-found.ensures.2 c.args.iron.now.layout.rows c.args.iron.now.sized.1).1 c.if-found-eq0.false in
    let w : PassView g.row.P-Row.Denot g.row.P-Book.Denot g.row.P-Entry.Denot = waited (view p.seat.me) c.compare_exchange-found.result in
    let k : Kept p.number p.rows p.epoch c.compare_exchange-found.new.seat.table_id c.compare_exchange-found.new.seat.me p.stack.items = kept_by p.number p.rows p.epoch p.seat.table_id c.compare_exchange-found.new.seat.table_id c.compare_exchange-found.new.seat.me p.stack.items w c.compare_exchange-found.ensures.0
    (t.5 ∙ ap (λ (cs : _). (w ∷ [], cs)) p.stacked) p.one.1 (sized_waited p.sized c.compare_exchange-found.result) p.carries p.held in
    record {
      one = k.one;
      sized = k.sized;
      stacked = k.stacked;
      carries = k.carries;
      held = k.held;
      few = p.few;
      room = p.room;
    }

pub returns-clause-turns : goal.returns-clause-turns
unfolding model_of iron_model
returns-clause-turns g c = let t = (c.compare_exchange-found.ensures.2 c.args.iron.now.layout.rows c.args.iron.now.sized.1).1 c.if-found-eq0.false in let other = c.if-found-eq0.false in
    let is = t.2 in (
      t.0,
      subst (IsAnother (view c.args.self.now.seat.me)) (let e : t.1 ≡ c.compare_exchange-found.result - 1 = omega arith in e) t.4,
      view_of _ _ _ t.5 ∙ ap (waited (view c.args.self.now.seat.me)) (let e : c.compare_exchange-found.result ≡ c.compare_exchange-found.result - 1 + 1 = omega arith in e),
    )

pub returns-then-found-eq0-clause-layout : goal.returns-then-found-eq0-clause-layout
unfolding model_of iron_model
returns-then-found-eq0-clause-layout g c = ap (λ y. y.layout) c.requires.table

pub returns-clause-layout : goal.returns-clause-layout
unfolding model_of iron_model
returns-clause-layout g c = ap (λ y. y.layout) c.requires.table

pub take_book-requires-clause-table : goal.take_book-requires-clause-table
unfolding model_of iron_model
take_book-requires-clause-table g c κs within = c.compare_exchange-found.ensures.0 ∙ same_id c.requires.table

pub returns-then-found-eq0-clause-table : goal.returns-then-found-eq0-clause-table
unfolding model_of iron_model
returns-then-found-eq0-clause-table g c = same_table _ _ (view c.args.self.now.seat.me) _ _ (c.take_book.ensures.table ∙ c.compare_exchange-found.ensures.0) ((returns-then-found-eq0-clause-turns g c).1) refl refl

pub returns-clause-table : goal.returns-clause-table
unfolding model_of iron_model
returns-clause-table g c = same_table _ _ (view c.args.self.now.seat.me) _ _ (c.compare_exchange-found.ensures.0) ((returns-clause-turns g c).2) refl refl

pub returns-then-found-eq0-clause-origin : goal.returns-then-found-eq0-clause-origin
unfolding model_of iron_model
returns-then-found-eq0-clause-origin g c = ap (λ y. y.origin) c.requires.table

pub returns-clause-origin : goal.returns-clause-origin
unfolding model_of iron_model
returns-clause-origin g c = ap (λ y. y.origin) c.requires.table
