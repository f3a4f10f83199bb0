use Rattle.std.proofs.Common.{◌∙◌, subst}
use Rattle.std.specs.List.{All}
use Rattle.std.proofs.lemmas.List.{take_all}
use Rattle.std.proofs.lemmas.List.Elements.{All-more, All-weaker}
use Rattle.page_runs.specs.Changes.{IsFilled}
use Rattle.page_runs.proofs.changes.fill_all.Goals as goal

pub loop-change-preserved : goal.loop-change-preserved
loop-change-preserved c = record {
  runs = c.fill_for.ensures.runs;
  same = c.fill_for.ensures.same ∙ c.loop-change.invariant.same;
  filled = All-more (IsFilled c.fill_for.new.spans) c.args.changes.now c.loop-change.change-index _ c.loop-change-test.true
      (All-weaker (IsFilled c.loop-change.spans) (IsFilled c.fill_for.new.spans) (λ change filled mark is page low high. c.fill_for.ensures.taken page (filled mark is page low high)) _ c.loop-change.invariant.filled)
      c.in_ok-fill_for.ensures.filled;
}

pub returns-clause-filled : goal.returns-clause-filled
returns-clause-filled c = subst (All (IsFilled c.loop-change.spans)) (take_all c.loop-change.change-index c.args.changes.now c.loop-change-test.false) c.loop-change.invariant.filled
