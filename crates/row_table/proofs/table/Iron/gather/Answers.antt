use Rattle.std.proofs.Common.{◌≡◌, arith, List, [], ◌∷◌, ◌++◌, map, sym, ap, ◌∙◌, append-nil}
use Rattle.row_table.specs.declared.pass.Pass.{Pass}
use Rattle.row_table.specs.Rule.{view}
use Rattle.row_table.specs.Stack.{outs}
use Rattle.row_table.specs.Close.{IsIdle}
use Rattle.row_table.proofs.End.{enters, joins, all_of, nothing_left}
use Rattle.row_table.proofs.Told.{nothing_out, same_id}
use Rattle.row_table.specs.Passes.{table_known, model_of, iron_model}
use Rattle.row_table.proofs.table.Iron.gather.Goals as goal

pub load_new_seat-seat-requires : goal.load_new_seat-seat-requires
unfolding model_of iron_model
load_new_seat-seat-requires g c = (let wide = c.args.self.now.sized.0 in omega arith, enters g.P.Plan.meaning _ _ _ _)

pub join_seat-requires : goal.join_seat-requires
unfolding model_of iron_model
join_seat-requires g c =
    let inv = c.loop-pass.invariant in let x = c.in-Some.pass in
    let whole : c.loop-pass.yielded ++ x ∷ c.next.new.self.rest.items ≡ c.args.passes.items = ap (λ (l : _). c.loop-pass.yielded ++ l) (sym c.in-Some.ensures.steps.0) ∙ inv.all in
    let F : Pass g.row.P.Denot g.row.P-Row.Denot g.row.P-Book.Denot g.row.P-Kit.Denot g.row.P-Entry.Denot g.P.Plan → Type 0 = λ p. table_known p.seat.table_id (view p.seat.me) ≡ (iron_model c.args.self.now).table in
    let G : Pass g.row.P.Denot g.row.P-Row.Denot g.row.P-Book.Denot g.row.P-Kit.Denot g.row.P-Entry.Denot g.P.Plan → Type 0 = λ p. IsIdle (view p.seat.me) in
    let idle : IsIdle (view x.seat.me) = all_of G c.loop-pass.yielded c.next.new.self.rest.items c.args.passes.items x whole c.requires.idle in (
      inv.table,
      same_id (all_of F c.loop-pass.yielded c.next.new.self.rest.items c.args.passes.items x whole c.requires.tables),
      x.stacked ∙ ap outs (nothing_out x.rows (view x.seat.me).core.held x.stack.items (view x.seat.me).core.has_book x.carries idle.held idle.has_not),
      let wide = c.args.self.now.sized.0 in omega arith,
      joins g.P.Plan.meaning _ _ _ _ _ _,
    )

pub returns-clause-seat : goal.returns-clause-seat
unfolding model_of iron_model
returns-clause-seat g c =
    let inv = c.loop-pass.invariant in let rest = c.loop-pass.pass-iterator.rest in let done = c.in-None.ensures.steps.0 in let long = rest.ok in
    let none_left : rest.items ≡ [] = nothing_left rest.items (omega arith) in
    inv.seat ∙ ap (λ (l : List (Pass g.row.P.Denot g.row.P-Row.Denot g.row.P-Book.Denot g.row.P-Kit.Denot g.row.P-Entry.Denot g.P.Plan)). (map (λ p. view p.seat.me) l, []))
    (sym (append-nil c.loop-pass.yielded) ∙ (ap (λ (l : _). c.loop-pass.yielded ++ l) (sym none_left) ∙ inv.all))
