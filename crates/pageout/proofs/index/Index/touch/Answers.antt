use Rattle.std.proofs.Common.{◌≡◌, false, sym, subst}
use Rattle.pageout.specs.Index.{IsMovedOn, is_victim, mark_at, victim_of}
use Rattle.pageout.proofs.Sole.{not_yet, sole_touched}
use Rattle.pageout.proofs.index.Index.touch.Goals as goal

pub move_on-requires : goal.move_on-requires
move_on-requires c =
    subst (λ v. is_victim c.args.self.now.order v ≡ false) (sym c.victim_at-2.ensures)
    (not_yet (mark_at c.args.self.now.marks) c.args.key c.args.old c.args.mark (is_victim c.args.self.now.order) c.requires.old c.requires.later c.args.self.now.sole.each)

pub invariant_of-self-2 : goal.invariant_of-self-2
invariant_of-self-2 c =
    let moved : IsMovedOn c.args.self.now.order c.move_on.new.order (victim_of c.args.key c.args.old.touched) (victim_of c.args.key c.args.mark.touched) =
    subst (λ v. IsMovedOn c.args.self.now.order c.move_on.new.order v (victim_of c.args.key c.args.mark.touched)) c.victim_at.ensures
    (subst (λ v. IsMovedOn c.args.self.now.order c.move_on.new.order c.victim_at.result v) c.victim_at-2.ensures c.in_ok-move_on.ensures.ok) in
    record {
      sole = record {
        each = sole_touched (mark_at c.args.self.now.marks) (mark_at c.replace.new.self) c.args.key c.args.old c.args.mark c.requires.old c.replace.ensures.each c.requires.frame c.requires.later
            (is_victim c.args.self.now.order) (is_victim c.move_on.new.order) c.args.self.now.sole.each moved.each;
      };
    }
