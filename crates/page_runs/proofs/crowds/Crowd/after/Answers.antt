use Rattle.std.proofs.Common.{subst, sym, take_all}
use Rattle.std.proofs.lemmas.List.Sums.{fold_more}
use Rattle.page_runs.specs.Changes.{after_change, after_changes}
use Rattle.page_runs.specs.Runs.{AreCrowded}
use Rattle.page_runs.proofs.crowds.Crowd.after.Goals as goal

pub loop-change-init : goal.loop-change-init
loop-change-init c = record { before = λ m h. h; after = λ m h. h }

pub loop-change-preserved : goal.loop-change-preserved
loop-change-preserved c = record {
  before = λ m h. c.without-left.ensures.before m (c.loop-change.invariant.before m h);
  after = λ m h. subst (λ n. AreCrowded n c.without-left.result) (sym (fold_more after_change m c.args.changes.now c.loop-change.change-index _ c.loop-change-test.true)) (c.without-left.ensures.after _ (c.loop-change.invariant.after m h));
}

pub returns-clause-before : goal.returns-clause-before
returns-clause-before c = c.loop-change.invariant.before

pub returns-clause-after : goal.returns-clause-after
returns-clause-after c m h = subst (λ list. AreCrowded (after_changes m list) c.loop-change.left) (take_all c.loop-change.change-index c.args.changes.now c.loop-change-test.false) (c.loop-change.invariant.after m h)
