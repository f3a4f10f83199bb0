use Rattle.std.proofs.Common.{ℕ, ◌≡◌, ◌≤◌, arith}
use Rattle.held_spans.proofs.Piling.{start_listed, more_listed, end_listed}
use Rattle.held_spans.proofs.pieces.list_moved.Goals as goal

pub loop-page-init : goal.loop-page-init
loop-page-init c = record { from = omega arith; to = omega arith; listed = start_listed c.args.held.now.rows c.args.range c.args.pieces.now.items c.requires.none }

pub loop-page-preserved : goal.loop-page-preserved
loop-page-preserved c = record {
  from = omega arith;
  to = omega arith;
  listed = more_listed c.args.held.now.rows c.args.range c.loop-page.page c.loop-page.pieces.items c.loop-page.invariant.listed c.loop-page.invariant.from c.loop-page-test.true c.run_at-run.result
      c.run_at-run.ensures.some c.run_at-run.ensures.fits c.run_at-run.ensures.answers c.added_to.result c.added_to.ensures c.push_run.new.pieces.items c.in_ok-push_run.ensures;
}

pub returns : goal.returns
returns c =
    end_listed c.args.held.now.rows c.args.range c.loop-page.page c.loop-page.pieces.items c.requires.some c.requires.grows (same c.loop-page.invariant.to c.loop-page-test.false) c.loop-page.invariant.listed
  where
    same : {a b : ℕ} → a ≤ b → b ≤ a → a ≡ b
    same h g = omega (arith, h, g)
