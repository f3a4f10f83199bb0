use Rattle.std.proofs.Common.{◌∙◌, ap, sym, ◌-◌, Some}
use Rattle.page_map.proofs.Range.{change_none}
use Rattle.page_runs.specs.Mark.{goes_on}
use Rattle.page_runs.specs.Spans.{marks, mapped}
use Rattle.page_runs.proofs.laying.lay.Goals as goal

pub returns-then-count-eq0-clause-ok : goal.returns-then-count-eq0-clause-ok
returns-then-count-eq0-clause-ok c =
    sym (change_none (marks c.args.spans.now) c.args.first (λ page _. Some (goes_on c.args.mark (page - c.args.first))))
    ∙ ap (λ n. mapped (marks c.args.spans.now) c.args.first n c.args.mark) (sym c.if-count-eq0.true)
