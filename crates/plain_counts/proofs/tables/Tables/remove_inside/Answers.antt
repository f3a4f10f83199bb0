use Rattle.std.proofs.Common.{◌≡◌, ◌-◌, rules, not, ap, ◌∙◌, arith}
use Rattle.std.specs.FinSet as set
use Rattle.std.proofs.lemmas.Fn.{filter_same}
use Rattle.table_place.specs.Place.{is_inside, place_cmp}
use Rattle.page_map.proofs.Places.{place_total, place_exact}
use Rattle.page_map.proofs.Evaluate.{retain_list}
use Rattle.plain_counts.proofs.tables.Tables.remove_inside.Goals as goal

pub returns-in-Some : goal.returns-in-Some
returns-in-Some c =
    let many : c.in-Some.end - c.args.first ≡ c.args.count = omega (arith, c.in-Some.ensures) in
    c.remove_up_to.ensures ∙ ap (λ n. set.retain c.args.self.now (λ p. not (is_inside c.args.levels c.args.space c.args.first n p))) many

pub returns-in-None : goal.returns-in-None
returns-in-None c =
    ap (set.from_list {R = place_cmp}) (filter_same _ (λ p. not (is_inside c.args.levels c.args.space c.args.first c.args.count p)) _ (λ x b f' t. search rules) _ _ c.retain.ensures.filtered)
    ∙ retain_list place_total place_exact c.self.inside.places.keys _
    ∙ ap (λ s. set.retain s (λ p. not (is_inside c.args.levels c.args.space c.args.first c.args.count p))) c.self.view_is
