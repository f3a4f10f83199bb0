use Rattle.std.proofs.Common.{sym, subst, ◌∙◌}
use Rattle.page_map.specs.Tables.{missing}
use Rattle.plain_counts.specs.Levels.{Lists}
use Rattle.mm_model.specs.Operations.{wanted_by}
use Rattle.mm_model.proofs.Lacks.{if_ok, if_refused, lack_listed}
use Rattle.mm_model.proofs.plain.Plain.missing_for.Goals as goal

pub returns-clause-missing : goal.returns-clause-missing
returns-clause-missing c =
    if_ok c.affordable.result (λ found e. subst (λ v. Lists (missing (wanted_by c.args.self.now c.args.space c.args.op.now) c.args.self.now.tables) v.items) (sym e) c.in_ok-missing.ensures) c.affordable.ensures.missing

pub returns-clause-enough : goal.returns-clause-enough
returns-clause-enough c =
    if_ok c.affordable.result (λ _ e. sym (lack_listed c.args.self.now (wanted_by c.args.self.now c.args.space c.args.op.now) c.in_ok-missing.missing.items c.args.limbo c.in_ok-missing.ensures) ∙ e) c.affordable.ensures.enough

pub returns-clause-refused : goal.returns-clause-refused
returns-clause-refused c =
    if_refused c.affordable.result (λ _ e. sym (lack_listed c.args.self.now (wanted_by c.args.self.now c.args.space c.args.op.now) c.in_ok-missing.missing.items c.args.limbo c.in_ok-missing.ensures) ∙ e) c.affordable.ensures.refused
