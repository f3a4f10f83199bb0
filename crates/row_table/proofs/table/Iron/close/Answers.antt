use Rattle.std.proofs.Common.{◌≡◌, rules, List, map, sym, refl, ap, subst}
use Rattle.std.specs.List.{Contains}
use Rattle.std.proofs.lemmas.List.Elements.{All-contains, All-map}
use Rattle.row_table.specs.declared.pass.Pass.{Pass}
use Rattle.row_table.specs.declared.view.PassView.{PassView}
use Rattle.row_table.specs.declared.close.Parts.{Parts}
use Rattle.row_table.specs.Rule.{view}
use Rattle.row_table.specs.Passes.{number_of, model_of, iron_model}
use Rattle.row_table.specs.Close.{IsIdle, HasAll, IsClosed}
use Rattle.row_table.proofs.Turns.{same_parts}
use Rattle.row_table.proofs.table.Iron.close.Goals as goal

pub finish-requires-clause-all : goal.finish-requires-clause-all
unfolding model_of iron_model
finish-requires-clause-all g c κs within =
    let has : HasAll c.args.self.layout.passes (map (λ p. number_of p) c.args.passes.items)
    = subst (λ (l : List (Pass g.row.P.Denot g.row.P-Row.Denot g.row.P-Book.Denot g.row.P-Kit.Denot g.row.P-Entry.Denot g.P.Plan)). HasAll c.args.self.layout.passes (map (λ p. number_of p) l)) c.as_slice.ensures.value (c.if-not-has_all.ensures.0 (search rules)) in
    let views = ap (λ m. m.0) c.gather-seat.ensures.seat in
    let numbers = same_parts (λ (p : Pass g.row.P.Denot g.row.P-Row.Denot g.row.P-Book.Denot g.row.P-Kit.Denot g.row.P-Entry.Denot g.P.Plan). view p.seat.me) (λ v. v.number) (λ p. number_of p) (λ p. refl) c.args.passes.items in
    subst (λ (l : List (PassView g.row.P-Row.Denot g.row.P-Book.Denot g.row.P-Entry.Denot)). HasAll c.args.self.layout.passes (map (λ v. v.number) l)) (sym views) (subst (HasAll c.args.self.layout.passes) (sym numbers) has)

pub finish-requires-clause-idle : goal.finish-requires-clause-idle
unfolding model_of iron_model
finish-requires-clause-idle g c κs within =
    let views = ap (λ m. m.0) c.gather-seat.ensures.seat in
    λ v i. All-contains (λ v. IsIdle v) (map (λ p. view p.seat.me) c.args.passes.items) v (All-map (λ v. IsIdle v) (λ p. view p.seat.me) c.args.passes.items c.requires.idle) (subst (λ (l : List (PassView g.row.P-Row.Denot g.row.P-Book.Denot g.row.P-Entry.Denot)). Contains l v) views i)

pub returns-clause-closed : goal.returns-clause-closed
unfolding model_of iron_model
returns-clause-closed g c =
    let has : HasAll c.args.self.layout.passes (map (λ p. number_of p) c.args.passes.items)
    = subst (λ (l : List (Pass g.row.P.Denot g.row.P-Row.Denot g.row.P-Book.Denot g.row.P-Kit.Denot g.row.P-Entry.Denot g.P.Plan)). HasAll c.args.self.layout.passes (map (λ p. number_of p) l)) c.as_slice.ensures.value (c.if-not-has_all.ensures.0 (search rules)) in
    let views = ap (λ m. m.0) c.gather-seat.ensures.seat in
    λ parts e. let same : c.finish.result ≡ parts = cc in (
      has,
      subst (λ (x : Parts g.row.P.Denot g.row.P-Row.Denot g.row.P-Book.Denot g.row.P-Kit.Denot g.row.P-Entry.Denot). IsClosed g.P.Plan.meaning c.args.self.layout (map (λ p. view p.seat.me) c.args.passes.items) x.words.items x.epochs.items x.rows.items x.book) same
          (subst (λ (l : List (PassView g.row.P-Row.Denot g.row.P-Book.Denot g.row.P-Entry.Denot)). IsClosed g.P.Plan.meaning c.args.self.layout l c.finish.result.words.items c.finish.result.epochs.items c.finish.result.rows.items c.finish.result.book) views c.finish.ensures),
    )

pub returns-then-not-has_all-clause-not_all : goal.returns-then-not-has_all-clause-not_all
unfolding model_of iron_model
returns-then-not-has_all-clause-not_all g c = λ iron back e. (
  λ has. (let t = c.if-not-has_all.ensures.1 (subst (λ (l : List (Pass g.row.P.Denot g.row.P-Row.Denot g.row.P-Book.Denot g.row.P-Kit.Denot g.row.P-Entry.Denot g.P.Plan)). HasAll c.args.self.layout.passes (map (λ p. number_of p) l)) (sym c.as_slice.ensures.value) has) in absurd (cc)),
  (let o = e in cc),
  (let o = e in cc),
)
