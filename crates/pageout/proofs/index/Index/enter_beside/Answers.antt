use Rattle.std.proofs.Common.{false, sym, ap, subst, ◌∙◌}
use Rattle.pageout.specs.Index.{is_victim, last_touch, mark_at}
use Rattle.pageout.proofs.Sole.{IsPut, beside_entered}
use Rattle.pageout.proofs.index.Index.enter_beside.Goals as goal

pub invariant_of-self-in-Some : goal.invariant_of-self-in-Some
invariant_of-self-in-Some c = record {
  sole = record {
    each = beside_entered (mark_at c.args.self.now.marks) (mark_at c.put.new.self) c.args.key c.args.mark c.requires.absent c.in_ok-put.ensures.ok.each (is_victim c.args.self.now.order) (is_victim c.remove.new.self)
        c.args.other c.in-Some.first.touched c.args.self.now.sole.each c.requires.shared (ap last_touch (sym c.get.ensures ∙ c.in-Some.is))
        (subst (λ v. IsPut c.args.self.now.order c.remove.new.self v false) c.victim_at.ensures c.remove.ensures.updates.0);
  };
}
