use Rattle.std.proofs.Common.{arith}
use Rattle.std.specs.Prelude.{OnErr}
use Rattle.std.specs.declared.result.Result.{Result}
use Rattle.std.specs.declared.result.Result.TheVariants.{Ok, Err}
use Rattle.pageout.proofs.Refreshing.{start_kept, next_kept, end_kept, part_kept}
use Rattle.pageout.proofs.refresh.drop_old.Goals as goal

on_err : {A B P : Type 0} (r : Result A B) → P → OnErr r P
on_err (Ok x) p = tt
on_err (Err x) p = p

pub loop-page-init : goal.loop-page-init
loop-page-init c = record { low = omega arith; high = λ less. omega arith; done = start_kept c.args.plain.now c.args.space c.args.span.first c.args.index.now.marks }

pub loop-page-preserved : goal.loop-page-preserved
loop-page-preserved c = record {
  low = omega (arith, c.loop-page.invariant.low, c.in-Some.ensures.some.from_there);
  high = λ less. omega (arith, c.in-Some.ensures.some.before);
  done = next_kept c.args.plain.now c.args.space c.args.span.first c.loop-page.next c.in-Some.page c.loop-page.invariant.low _ _ _ c.args.span.end c.in-Some.frame c.loop-page.invariant.done c.in-Some.ensures.some c.in_ok-drop_if_old.ensures.ok;
}

pub returns-in_err-drop_if_old-clause-err : goal.returns-in_err-drop_if_old-clause-err
returns-in_err-drop_if_old-clause-err c =
    on_err c.from_residual.result
    (part_kept c.args.plain.now c.args.space c.loop-page.next c.args.span c.loop-page.invariant.low c.loop-page.invariant.high c.args.index.now.marks c.loop-page.index.marks c.loop-page.invariant.done
    c.drop_if_old.new.index.marks c.in_err-drop_if_old.ensures.err)

pub returns-clause-ok : goal.returns-clause-ok
returns-clause-ok c = end_kept c.args.plain.now c.args.space c.loop-page.next c.args.span c.loop-page.invariant.low c.loop-page.invariant.high c.args.index.now.marks c.loop-page.index.marks c.loop-page.invariant.done c.in_default.ensures.none
