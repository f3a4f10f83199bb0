use Rattle.std.proofs.Common.{◌+◌, ◌∙◌, sym, arith}
use Rattle.held_spans.proofs.Gaping.{behind_used, behind_free, gap_found, no_gap}
use Rattle.held_spans.proofs.gaps.gap_in.Goals as goal

pub returns-then-next-run-clause-answers : goal.returns-then-next-run-clause-answers
returns-then-next-run-clause-answers c =
    let next = c.loop-run.page + c.min.result in
    gap_found c.args.held.now.rows c.args.first c.args.pages c.args.count c.loop-run.run next
    (behind_free c.args.held.now.rows c.args.first c.args.pages c.args.count c.loop-run.run c.loop-run.page next c.loop-run.invariant.walked c.loop-run.invariant.from
    c.loop-run.invariant.near c.loop-run.invariant.short (omega arith) c.span_near-span.result c.span_near-span.ensures.around c.span_near-span.ensures.answers (omega arith)
    (sym c.is_there.ensures ∙ c.if-is_there.false))
    c.loop-run.invariant.from (omega arith) (omega arith)

pub loop-run-preserved-then-is_there : goal.loop-run-preserved-then-is_there
loop-run-preserved-then-is_there c = record {
  from = omega arith;
  near = omega arith;
  short = omega arith;
  to = omega arith;
  walked = behind_used c.args.held.now.rows c.args.first c.args.pages c.args.count c.loop-run.run c.loop-run.page (c.loop-run.page + c.min.result) c.loop-run.invariant.walked
      c.loop-run.invariant.from c.loop-run.invariant.near c.loop-run.invariant.short (omega arith) c.span_near-span.result c.span_near-span.ensures.around c.span_near-span.ensures.answers (omega arith)
      (omega arith) (sym c.is_there.ensures ∙ c.if-is_there.true);
}

pub loop-run-preserved : goal.loop-run-preserved
loop-run-preserved c = record {
  from = c.loop-run.invariant.from;
  near = omega arith;
  short = omega arith;
  to = omega arith;
  walked = behind_free c.args.held.now.rows c.args.first c.args.pages c.args.count c.loop-run.run c.loop-run.page (c.loop-run.page + c.min.result) c.loop-run.invariant.walked
      c.loop-run.invariant.from c.loop-run.invariant.near c.loop-run.invariant.short (omega arith) c.span_near-span.result c.span_near-span.ensures.around c.span_near-span.ensures.answers (omega arith)
      (sym c.is_there.ensures ∙ c.if-is_there.false);
}

pub returns-clause-answers : goal.returns-clause-answers
returns-clause-answers c =
    no_gap c.args.held.now.rows c.args.first c.args.pages c.args.count c.loop-run.run c.loop-run.page c.loop-run.invariant.walked (omega arith)
