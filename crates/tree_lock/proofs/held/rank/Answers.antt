use Rattle.std.proofs.Common.{arith, sym, ◌∙◌}
use Rattle.std.proofs.lemmas.Bool.{false≢true}
use Rattle.tree_lock.proofs.Rows.{rank_found, rank_further}
use Rattle.tree_lock.proofs.held.rank.Goals as goal

pub returns-then-is_before : goal.returns-then-is_before
returns-then-is_before g c = rank_found c.args.place c.args.rows.now c.loop-at.at c.index-rows-at.result c.requires.order c.loop-at-test.true c.loop-at.invariant.within
    (c.is_before.ensures.0 c.if-is_before.true) c.loop-at.invariant.after

pub loop-at-preserved : goal.loop-at-preserved
loop-at-preserved g c = record {
  within = omega arith;
  after = rank_further c.args.place c.args.rows.now c.loop-at.at c.index-rows-at.result c.requires.new_place c.loop-at-test.true c.loop-at.invariant.within
      (λ b. false≢true (sym c.if-is_before.false ∙ c.is_before.ensures.1 b)) c.loop-at.invariant.after;
}
