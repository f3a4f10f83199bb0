use Rattle.std.proofs.Common.{refl, subst, arith, ◌∙◌}
use Rattle.space_apply.specs.Marking.{CopiesRow}
use Rattle.space_apply.proofs.MarkedRows.{starts, next}
use Rattle.space_apply.proofs.marking.copy_row.Goals as goal

pub loop-index-init : goal.loop-index-init
loop-index-init c = record { copies = starts c.args.from c.args.to c.args.held.now.rows c.requires.to; room = refl }

pub copy_mark-requires : goal.copy_mark-requires
copy_mark-requires c =
    let long = c.loop-index.invariant.copies.long in
    record {
      from = (let h = c.requires.from in omega (arith, long, h));
      to = (let h = c.requires.to in omega (arith, long, h));
      inside = (let h = c.loop-index-test.true in omega (arith, h));
    }

pub loop-index-preserved : goal.loop-index-preserved
loop-index-preserved c = record {
  copies = next c.args.from c.args.to c.loop-index.index c.args.held.now.rows c.loop-index.held.rows c.copy_mark.new.held.rows c.requires.two c.requires.to c.loop-index.invariant.copies c.copy_mark.ensures.marks;
  room = c.copy_mark.ensures.room ∙ c.loop-index.invariant.room;
}

pub returns-clause-copies : goal.returns-clause-copies
returns-clause-copies c = subst (λ n. CopiesRow c.args.from c.args.to n c.args.held.now.rows c.loop-index.held.rows) (let h = c.loop-index-test.false in let e = c.loop-index.auto.index-end in omega arith) c.loop-index.invariant.copies
