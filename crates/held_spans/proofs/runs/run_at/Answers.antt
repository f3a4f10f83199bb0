use Rattle.std.proofs.Common.{◌∙◌, sym, subst, arith}
use Rattle.std.proofs.lemmas.Bool.{true≢false}
use Rattle.held_spans.specs.Runs.{IsNext}
use Rattle.held_spans.proofs.Ongoing.{starts_as, grows, stopped, ended}
use Rattle.held_spans.proofs.runs.run_at.Goals as goal

pub loop-run-init : goal.loop-run-init
loop-run-init c = record {
  some = omega arith;
  fits = omega arith;
  grown = starts_as c.args.held.now.rows c.args.page c.args.end c.span_near-span.result c.min.result c.status_at.result c.origin_at.result c.status_at.ensures c.origin_at.ensures
      c.requires c.span_near-span.ensures.around c.span_near-span.ensures.answers (omega arith) (omega arith);
}

pub returns-then-not-is_next-clause-answers : goal.returns-then-not-is_next-clause-answers
returns-then-not-is_next-clause-answers c =
    stopped c.args.held.now.rows c.args.page c.args.end c.loop-run.run c.loop-run.invariant.grown c.loop-run.invariant.some (omega arith)
    c.span_near-more.result c.span_near-more.ensures.around c.span_near-more.ensures.answers
    (λ next. true≢false (sym (c.is_next.ensures.1 (subst (IsNext c.loop-run.run.status c.loop-run.run.count) (sym c.status_at-in-loop-run.ensures) next)) ∙ c.if-not-is_next.true))

pub loop-run-preserved : goal.loop-run-preserved
loop-run-preserved c = record {
  some = omega arith;
  fits = omega arith;
  grown = grows c.args.held.now.rows c.args.page c.args.end c.loop-run.run c.loop-run.invariant.grown c.loop-run.invariant.some (omega arith)
      c.span_near-more.result c.span_near-more.ensures.around c.span_near-more.ensures.answers c.min-in-loop-run.result
      (subst (IsNext c.loop-run.run.status c.loop-run.run.count) c.status_at-in-loop-run.ensures (c.is_next.ensures.0 c.if-not-is_next.false)) (omega arith);
}

pub returns-clause-answers : goal.returns-clause-answers
returns-clause-answers c = ended c.args.held.now.rows c.args.page c.args.end c.loop-run.run c.loop-run.invariant.grown (omega arith)
