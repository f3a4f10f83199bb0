use Rattle.std.proofs.Common.{sym, ap, ◌∙◌}
use Rattle.std.specs.FinSet as set
use Rattle.std.specs.Ordering.{is_lt}
use Rattle.std.specs.FinSet.{contains-from_list}
use Rattle.page_map.proofs.Places.{place_total}
use Rattle.plain_counts.proofs.Removed.{first_is, none_is, none_before}
use Rattle.plain_counts.proofs.tables.Tables.first_between.Goals as goal

pub returns-then-is_lt-clause-some : goal.returns-then-is_lt-clause-some
returns-then-is_lt-clause-some c =
    let at = first_is c.self.inside.places c.args.low c.args.high c.in-Some.place.now _ _ (c.range.ensures.in_range tt) c.in-Some.ensures.steps (ap is_lt (sym c.cmp.ensures) ∙ sym c.if-is_lt.ensures) in
    (ap (λ s. set.contains s c.in-Some.place.now) (sym c.self.view_is) ∙ contains-from_list place_total c.self.inside.places.keys c.in-Some.place.now ∙ at.0, at.1)

pub returns-else-is_lt-clause-none : goal.returns-else-is_lt-clause-none
returns-else-is_lt-clause-none c p between =
    ap (λ s. set.contains s p) (sym c.self.view_is) ∙ contains-from_list place_total c.self.inside.places.keys p
    ∙ none_before c.self.inside.places c.args.low c.args.high c.in-Some.place.now _ _ (c.range.ensures.in_range tt) c.in-Some.ensures.steps (ap is_lt (sym c.cmp.ensures) ∙ sym c.if-is_lt.ensures) p between

pub returns-in_default-clause-none : goal.returns-in_default-clause-none
returns-in_default-clause-none c p between =
    ap (λ s. set.contains s p) (sym c.self.view_is) ∙ contains-from_list place_total c.self.inside.places.keys p
    ∙ none_is c.self.inside.places c.args.low c.args.high _ (c.range.ensures.in_range tt) c.in_default.ensures.steps.0 p between
