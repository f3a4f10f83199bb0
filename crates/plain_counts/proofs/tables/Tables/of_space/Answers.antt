use Rattle.std.proofs.Common.{◌≡◌, rules, sym, ap, subst, ◌∙◌}
use Rattle.std.specs.Prelude.{IfOk}
use Rattle.std.specs.List.{filter}
use Rattle.std.specs.FinSet as set
use Rattle.plain_counts.specs.Levels.{Lists, is_of, is_between}
use Rattle.plain_counts.proofs.Noted.{if_ok, kept_listed, of_one_space}
use Rattle.plain_counts.proofs.tables.Tables.of_space.Goals as goal

pub returns : goal.returns
returns c =
    let keys = c.self.inside.places.keys in
    let all : IfOk c.collect.result (λ v. v.items ≡ c.range-places.result) = search rules in
    let here : c.range-places.result ≡ filter (is_of c.args.space) keys =
    c.range-places.ensures.between tt ∙ (λ i. filter (is_between (c.first_of.ensures i) (c.first_of-2.ensures i)) keys) ∙ ap (λ f. filter f keys) (λ i p. of_one_space c.args.space p i) in
    if_ok (λ v. v.items ≡ c.range-places.result) (λ v. Lists (set.retain c.args.self.now (is_of c.args.space)) v.items)
    (λ v e. subst (Lists (set.retain c.args.self.now (is_of c.args.space))) (sym (e ∙ here)) (kept_listed keys (is_of c.args.space) c.args.self.now c.self.view_is c.range-places.ensures.ordered))
    c.collect.result all
