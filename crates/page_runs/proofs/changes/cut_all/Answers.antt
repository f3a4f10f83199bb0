use Rattle.std.proofs.Common.{◌+◌, ◌∙◌, subst}
use Rattle.std.specs.List.{All}
use Rattle.std.proofs.lemmas.List.{take_all}
use Rattle.std.proofs.lemmas.List.Elements.{All-more, All-weaker}
use Rattle.page_runs.specs.Changes.{IsCut}
use Rattle.page_runs.proofs.changes.cut_all.Goals as goal

pub loop-change-preserved : goal.loop-change-preserved
loop-change-preserved c = record {
  runs = c.cut.ensures.runs;
  same = c.cut.ensures.same ∙ c.loop-change.invariant.same;
  taken = λ q taken. c.cut.ensures.taken q (c.loop-change.invariant.taken q taken);
  cut = All-more (IsCut c.cut.new.spans) c.args.changes.now c.loop-change.change-index _ c.loop-change-test.true
      (All-weaker (IsCut c.loop-change.spans) (IsCut c.cut.new.spans)
      (λ change cut. record { start = c.cut.ensures.edges change.first cut.start; stop = c.cut.ensures.edges (change.first + change.count) cut.stop }) _ c.loop-change.invariant.cut)
      c.in_ok-cut.ensures.cut;
}

pub returns-clause-cut : goal.returns-clause-cut
returns-clause-cut c = subst (All (IsCut c.loop-change.spans)) (take_all c.loop-change.change-index c.args.changes.now c.loop-change-test.false) c.loop-change.invariant.cut
