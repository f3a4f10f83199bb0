use Rattle.std.proofs.Common.{◌≡◌, length, sym, ◌∙◌, arith}
use Rattle.page_map.specs.State.{linked}
use Rattle.mm_model.specs.Lacking.{lack}
use Rattle.mm_model.proofs.plain.Plain.affordable.Goals as goal
use Rattle.mm_model.proofs.plain.Plain.affordable.Goals.{After-lack}

-- judged by the numbers that were counted
judged : (c : After-lack) → lack c.args.self.now.limits.tables (linked c.args.self.now) c.args.limbo (length c.args.missing.items) ≡ c.lack.result
judged c =
    let n : length c.args.missing.items ≡ c.len-need.result = omega (arith, c.len-need.ensures, c.args.missing.ok) in
    (λ i. lack (sym c.self.view_is i).limits.tables (linked (sym c.self.view_is i)) c.args.limbo (n i))
    ∙ (λ i. lack c.self.inside.limits.tables (sym c.len-linked.ensures i) c.args.limbo c.len-need.result) ∙ sym c.lack.ensures

pub returns-in-Some-clause-refused : goal.returns-in-Some-clause-refused
returns-in-Some-clause-refused c = judged (goal.at.returns-in-Some-clause-refused c).After-lack ∙ c.in-Some.is

pub returns-in-None-clause-enough : goal.returns-in-None-clause-enough
returns-in-None-clause-enough c = judged (goal.at.returns-in-None-clause-enough c).After-lack ∙ c.in-None.is
