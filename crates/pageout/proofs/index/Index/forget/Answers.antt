use Rattle.std.proofs.Common.{false, sym, subst, ◌∙◌}
use Rattle.pageout.specs.Index.{mark_at}
use Rattle.pageout.proofs.Sole.{IsPut, forgotten}
use Rattle.pageout.proofs.index.Index.forget.Goals as goal

pub invariant_of-self-2 : goal.invariant_of-self-2
invariant_of-self-2 c = record {
  sole = record {
    each = forgotten (mark_at c.take.new.self) (mark_at c.args.self.now.marks) c.args.key c.in-Some.old c.left_by-left.result c.args.self.now.order c.admit.new.order c.remove.new.self (sym c.get.ensures ∙ c.in-Some.is)
        c.take.ensures.each c.args.self.now.sole.each c.left_by-left.ensures.some c.left_by-left.ensures.none c.in_ok-admit.ensures.ok
        (subst (λ v. IsPut c.admit.new.order c.remove.new.self v false) c.victim_at.ensures c.remove.ensures.updates.0);
  };
}
