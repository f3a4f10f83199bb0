use Rattle.std.proofs.Common.{◌≡◌, rules, arith, ℕ, ◌+◌, ◌-◌, List, [], ◌∷◌, sym, ap, ◌∙◌, subst, None, refl}
use Rattle.walk_core.specs.Lists.{times}
use Rattle.row_table.specs.Rule.{view}
use Rattle.row_table.specs.Known.{IsHolder}
use Rattle.row_table.specs.Moves.{got, looked}
use Rattle.row_table.proofs.Locks.{grabs_at}
use Rattle.row_table.proofs.Told.{Kept, kept_by, view_of, front_of, swapped, came_out, not_carried, room_left, carries_row, rows_with, same_id, same_table}
use Rattle.row_table.proofs.Sizes.{grab_below, same_sizes, sized_got, sized_miss}
use Rattle.row_table.specs.Passes.{model_of, iron_model}
use Rattle.row_table.proofs.pass.Pass.grab.Goals as goal

pub overflow_add-mine : goal.overflow_add-mine
unfolding model_of iron_model
overflow_add-mine g c = let few = c.args.self.now.few in let is = c.from-mine.ensures in omega arith

pub compare_exchange-before-requires : goal.compare_exchange-before-requires
unfolding model_of iron_model
compare_exchange-before-requires g c = (
  same_id c.requires.table,
  let wide = c.args.iron.now.sized.0 in let at = c.lock-word.ensures in let less = grab_below c.args.self.now.sized c.args.row c.requires.guard in let same = (same_sizes c.args.self.now.sized _ c.args.iron.now.layout (same_id c.requires.table) c.args.iron.now.sized.0 c.args.iron.now.sized.1).0 in omega arith,
  grabs_at g.P.Plan.meaning _ _ _ _ _ _ c.args.row _ _ c.lock-word.ensures c.from-mine.ensures c.args.self.now.one c.requires.guard,
)

pub push_front_reserved-requires : goal.push_front_reserved-requires
unfolding model_of iron_model
push_front_reserved-requires g c =
    let p = c.args.self.now in let t = (c.compare_exchange-before.ensures.2 c.args.row c.lock-word.ensures).0 c.if-before-eq0.true in let rows = c.args.iron.now.sized.1 in let slots = p.sized.slots in
    let same = ap (λ (x : _). x.slots) (same_id c.requires.table) in let less = grab_below p.sized c.args.row c.requires.guard in let room = p.room in
    let none : times c.args.row p.stack.items ≡ 0 = not_carried p.rows c.args.row (view p.seat.me).core.held p.stack.items (view p.seat.me).core.has_book p.carries (let once = t.0.once in omega arith) (λ _ e. omega arith) in
    let few = room_left p.rows c.args.row (view p.seat.me).core.held p.stack.items (view p.seat.me).core.has_book p.carries p.held (omega arith) none in omega arith

pub take_row-requires-clause-front : goal.take_row-requires-clause-front
unfolding model_of iron_model
take_row-requires-clause-front g c κs within = let t = (c.compare_exchange-before.ensures.2 c.args.row c.lock-word.ensures).0 c.if-before-eq0.true in (t.0.content, front_of _ _ _ _ t.1)

pub overflow_cast-result : goal.overflow_cast-result
unfolding model_of iron_model
overflow_cast-result g c = let t = (c.compare_exchange-before.ensures.2 c.args.row c.lock-word.ensures).1 c.if-before-eq0.false in let other = c.if-before-eq256.false in omega (arith, t.0.small)

pub invariant_of-self : goal.invariant_of-self
unfolding model_of iron_model
invariant_of-self g c =
    let p = c.args.self.now in let t = (c.compare_exchange-before.ensures.2 c.args.row c.lock-word.ensures).0 c.if-before-eq0.true in let rows = c.args.iron.now.sized.1 in let slots = p.sized.slots in
    let same = ap (λ (x : _). x.slots) (same_id c.requires.table) in let less = grab_below p.sized c.args.row c.requires.guard in let once = t.0.once in let none : times c.args.row (view p.seat.me).core.held ≡ 0 = omega arith in
    let items : List ℕ = c.args.row ∷ p.stack.items in
    let pushed : c.push_front_reserved.new.self.items ≡ items = c.push_front_reserved.ensures.items in
    let k : Kept p.number p.rows p.epoch c.take_row.new.seat.table_id c.take_row.new.seat.me c.push_front_reserved.new.self.items = subst (Kept p.number p.rows p.epoch c.take_row.new.seat.table_id c.take_row.new.seat.me) (sym pushed)
    (kept_by p.number p.rows p.epoch p.seat.table_id c.take_row.new.seat.table_id c.take_row.new.seat.me items (got (view p.seat.me) c.args.row t.0.place t.0.generation t.0.words t.0.content) (c.take_row.ensures.table ∙ c.compare_exchange-before.ensures.0)
    (swapped _ _ _ _ _ _ t.1 c.take_row.ensures.seat ∙ ap (λ (cs : _). (got (view p.seat.me) c.args.row t.0.place t.0.generation t.0.words t.0.content ∷ [], (c.args.row, None) ∷ cs)) p.stacked)
    p.one.1 (sized_got p.sized c.args.row t.0.place t.0.generation t.0.words t.0.content t.0.all t.0.below) (carries_row p.rows c.args.row (view p.seat.me).core.held p.stack.items (view p.seat.me).core.has_book p.carries) (rows_with p.rows c.args.row (view p.seat.me).core.held p.held (omega arith) none)) in
    record {
      one = k.one;
      sized = k.sized;
      stacked = k.stacked;
      carries = k.carries;
      held = k.held;
      few = p.few;
      room = search rules;
    }

pub returns-then-before-eq0-clause-grabs : goal.returns-then-before-eq0-clause-grabs
unfolding model_of iron_model
returns-then-before-eq0-clause-grabs g c =
    let t = (c.compare_exchange-before.ensures.2 c.args.row c.lock-word.ensures).0 c.if-before-eq0.true in let same = came_out _ _ _ _ _ _ t.1 c.take_row.ensures.front in
    (t.0, same, view_of _ _ _ (swapped _ _ _ _ _ _ t.1 c.take_row.ensures.seat) ∙ ap (got (view c.args.self.now.seat.me) c.args.row t.0.place t.0.generation t.0.words) same)

pub invariant_of-self-else-before-eq0 : goal.invariant_of-self-else-before-eq0
unfolding model_of iron_model
invariant_of-self-else-before-eq0 g c =
    let p = c.args.self.now in let t = (c.compare_exchange-before.ensures.2 c.args.row c.lock-word.ensures).1 c.if-before-eq0.false in
    let w = looked (view p.seat.me) c.args.row t.0.place None c.compare_exchange-before.result in
    let k : Kept p.number p.rows p.epoch c.compare_exchange-before.new.seat.table_id c.compare_exchange-before.new.seat.me p.stack.items = kept_by p.number p.rows p.epoch p.seat.table_id c.compare_exchange-before.new.seat.table_id c.compare_exchange-before.new.seat.me p.stack.items w c.compare_exchange-before.ensures.0
    (t.1 ∙ ap (λ (cs : _). (w ∷ [], cs)) p.stacked) p.one.1 (sized_miss p.sized c.args.row t.0.place c.compare_exchange-before.result) p.carries p.held in
    record {
      one = k.one;
      sized = k.sized;
      stacked = k.stacked;
      carries = k.carries;
      held = k.held;
      few = p.few;
      room = p.room;
    }

pub returns-then-before-eq256-clause-grabs : goal.returns-then-before-eq256-clause-grabs
unfolding model_of iron_model
returns-then-before-eq256-clause-grabs g c = let t = (c.compare_exchange-before.ensures.2 c.args.row c.lock-word.ensures).1 c.if-before-eq0.false in
    (t.0.right, t.0.place, t.0.known, t.0.loose c.if-before-eq256.true, view_of _ _ _ t.1 ∙ ap (looked (view c.args.self.now.seat.me) c.args.row t.0.place None) c.if-before-eq256.true)

pub returns-else-before-eq256-clause-grabs : goal.returns-else-before-eq256-clause-grabs
unfolding model_of iron_model
returns-else-before-eq256-clause-grabs g c = let t = (c.compare_exchange-before.ensures.2 c.args.row c.lock-word.ensures).1 c.if-before-eq0.false in let some_one = c.if-before-eq0.false in
    let by = t.0.taken c.if-before-eq256.false in let is = by.1 in (
      t.0.right,
      t.0.place,
      t.0.known,
      subst (IsHolder (view c.args.self.now.seat.me) c.args.row) (let e : by.0 ≡ c.compare_exchange-before.result - 1 = omega arith in e) by.2,
      view_of _ _ _ t.1 ∙ ap (looked (view c.args.self.now.seat.me) c.args.row t.0.place None) (let e : c.compare_exchange-before.result ≡ c.compare_exchange-before.result - 1 + 1 = omega arith in e),
    )

pub take_row-requires-clause-table : goal.take_row-requires-clause-table
unfolding model_of iron_model
take_row-requires-clause-table g c κs within = c.compare_exchange-before.ensures.0 ∙ same_id c.requires.table

pub returns-then-before-eq0-clause-table : goal.returns-then-before-eq0-clause-table
unfolding model_of iron_model
returns-then-before-eq0-clause-table g c = same_table _ _ (view c.args.self.now.seat.me) _ _ (c.take_row.ensures.table ∙ c.compare_exchange-before.ensures.0) ((returns-then-before-eq0-clause-grabs g c).2) refl refl

pub returns-then-before-eq256-clause-table : goal.returns-then-before-eq256-clause-table
unfolding model_of iron_model
returns-then-before-eq256-clause-table g c = same_table _ _ (view c.args.self.now.seat.me) _ _ (c.compare_exchange-before.ensures.0) ((returns-then-before-eq256-clause-grabs g c).4) refl refl

pub returns-else-before-eq256-clause-table : goal.returns-else-before-eq256-clause-table
unfolding model_of iron_model
returns-else-before-eq256-clause-table g c = same_table _ _ (view c.args.self.now.seat.me) _ _ (c.compare_exchange-before.ensures.0) ((returns-else-before-eq256-clause-grabs g c).4) refl refl
