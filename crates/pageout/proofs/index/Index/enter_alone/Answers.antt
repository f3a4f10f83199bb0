use Rattle.std.proofs.Common.{true, false, subst}
use Rattle.pageout.specs.Index.{is_victim, mark_at}
use Rattle.pageout.proofs.Sole.{IsPut, alone_entered, put_back}
use Rattle.pageout.proofs.index.Index.enter_alone.Goals as goal

pub invariant_of-self-in-Ok : goal.invariant_of-self-in-Ok
invariant_of-self-in-Ok c = record {
  sole = record {
    each = alone_entered (mark_at c.args.self.now.marks) (mark_at c.put.new.self) c.args.key c.args.mark c.requires.absent c.in-Ok.ensures.ok.each (is_victim c.args.self.now.order) (is_victim c.insert.new.self)
        c.args.self.now.sole.each c.requires.alone (subst (λ v. IsPut c.args.self.now.order c.insert.new.self v true) c.victim_at-victim.ensures c.in_ok-insert.ensures.updates.0);
  };
}

pub invariant_of-self-in-Err : goal.invariant_of-self-in-Err
invariant_of-self-in-Err c = record {
  sole = put_back c.args.self.now.marks c.put.new.self c.args.self.now.order c.insert.new.self c.remove.new.self c.args.key c.args.mark.touched c.args.self.now.sole c.requires.absent c.in-Err.ensures.err
      (subst (λ v. IsPut c.args.self.now.order c.insert.new.self v true) c.victim_at-victim.ensures c.in_ok-insert.ensures.updates.0)
      (subst (λ v. IsPut c.insert.new.self c.remove.new.self v false) c.victim_at-victim.ensures c.remove.ensures.updates.0);
}
