use Rattle.std.proofs.Common.{◌≡◌, rules, sym, subst, ◌∙◌}
use Rattle.std.specs.Prelude.{IfOk}
use Rattle.plain_counts.specs.Levels.{Lists}
use Rattle.plain_counts.proofs.Noted.{if_ok, listed_by}
use Rattle.plain_counts.proofs.tables.Tables.list.Goals as goal

pub returns : goal.returns
returns c =
    let all : IfOk c.collect.result (λ v. v.items ≡ c.iter.result) = search rules in
    if_ok (λ v. v.items ≡ c.iter.result) (λ v. Lists c.args.self.now v.items)
    (λ v e. subst (Lists c.args.self.now) (sym (e ∙ c.iter.ensures.rest)) (listed_by c.self.inside.places.keys c.args.self.now c.self.view_is c.iter.ensures.ordered))
    c.collect.result all
