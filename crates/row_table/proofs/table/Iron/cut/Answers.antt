use Rattle.std.proofs.Common.{◌≡◌, rules, arith, [], ◌∷◌, refl, sym, ap, ◌∙◌, subst, false, Some}
use Rattle.walk_core.proofs.RowLists.{times-nil}
use Rattle.row_table.specs.declared.view.PassView.{PassView}
use Rattle.row_table.specs.Rule.{Seat, SameRows, unmoved}
use Rattle.row_table.specs.Stack.{carried}
use Rattle.row_table.specs.Start.{first_pass}
use Rattle.row_table.proofs.Start.{cuts}
use Rattle.row_table.specs.Passes.{model_of, iron_model}
use Rattle.row_table.proofs.Told.{Kept, kept_by, view_of, same_table}
use Rattle.row_table.proofs.Sizes.{sized_new}
use Rattle.row_table.proofs.table.Iron.cut.Goals as goal

pub split_seat-requires : goal.split_seat-requires
split_seat-requires g c = (search rules, let wide = c.args.self.now.sized.0 in omega arith, cuts g.P.Plan.meaning _ _ _ _)

pub invariant_of-result : goal.invariant_of-result
invariant_of-result g c =
    let w : PassView g.row.P-Row.Denot g.row.P-Book.Denot g.row.P-Entry.Denot = unmoved c.args.self.now.layout (Some c.args.self.now.table.shared.key.origin.value) c.args.number in
    let is : c.split_seat.result.me ≡ (w ∷ [], []) = c.split_seat.ensures.4 ∙ ap (λ (y : Seat g.row.P-Row.Denot g.row.P-Book.Denot g.row.P-Entry.Denot). (first_pass y.0, [])) c.requires.first.1 in
    let at = c.split_seat.ensures.3 ∙ c.requires.table in
    let none : SameRows [] (carried c.args.self.now.layout.rows [] false) = λ r. refl in
    let k : Kept c.args.number c.args.self.now.layout.rows 0 c.split_seat.result.table_id c.split_seat.result.me c.args.stack.items = subst (Kept c.args.number c.args.self.now.layout.rows 0 c.split_seat.result.table_id c.split_seat.result.me) (sym c.requires.stack.0)
    (kept_by c.args.number c.args.self.now.layout.rows 0 c.split_seat.result.table_id c.split_seat.result.table_id c.split_seat.result.me [] w refl is refl
    (sized_new c.args.number c.args.self.now.layout.rows c.split_seat.result.table_id c.args.self.now.layout (Some c.args.self.now.table.shared.key.origin.value) (ap (λ (x : _). x.slots) at ∙ c.args.self.now.sized.1) (ap (λ (x : _). x.words) at ∙ c.args.self.now.sized.0) refl c.requires.number) none (λ r. let n = times-nil r in (omega arith, λ _. n))) in
    record {
      one = k.one;
      sized = k.sized;
      stacked = k.stacked;
      carries = k.carries;
      held = k.held;
      few = (let sizes = c.args.self.now.sizes.3 in let less = c.requires.number in omega arith);
      room = c.requires.stack.1;
    }

pub returns-clause-table : goal.returns-clause-table
unfolding model_of iron_model
returns-clause-table g c =
    let w : PassView g.row.P-Row.Denot g.row.P-Book.Denot g.row.P-Entry.Denot = unmoved c.args.self.now.layout (Some c.args.self.now.table.shared.key.origin.value) c.args.number in
    let is : c.split_seat.result.me ≡ (w ∷ [], []) = c.split_seat.ensures.4 ∙ ap (λ (y : Seat g.row.P-Row.Denot g.row.P-Book.Denot g.row.P-Entry.Denot). (first_pass y.0, [])) c.requires.first.1 in (
      c.split_seat.ensures.0 ∙ c.requires.table,
      same_table _ _ w _ w (c.split_seat.ensures.3 ∙ c.requires.table) (view_of _ _ _ is) refl refl,
    )
