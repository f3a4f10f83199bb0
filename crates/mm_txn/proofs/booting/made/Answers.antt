use Rattle.std.proofs.Common.{◌+◌, refl, arith}
use Rattle.row_table.specs.Passes.{kit_of}
use Rattle.mm_txn.specs.Starting.{IsReadyKit}
use Rattle.mm_txn.specs.Machines.{MachinePass, layout_for}
use Rattle.mm_txn.proofs.Starting.{may_start, kits_carried, is_idle}
use Rattle.mm_txn.proofs.booting.made.Goals as goal

pub new-requires-2-clause-starts : goal.new-requires-2-clause-starts
new-requires-2-clause-starts c κs = may_start (layout_for c.args.limits c.args.passes) (omega (arith, c.requires.within.some_levels, c.requires.within.few_levels, c.requires.within.some_table, c.requires.within.tables, c.requires.passes.0, c.requires.passes.1))
    c.args.limits _ _ _ c.requires.within refl c.in_ok-book.ensures c.args.rows.items c.requires.rows

pub returns : goal.returns
returns c = record {
  origin = c.in_ok-book.book;
  starts = c.in_ok-book.ensures;
  at_start = c.in_ok-iron.ensures.origin;
  layout = c.in_ok-iron.ensures.layout;
  numbers = c.in_ok-iron.ensures.numbers;
  members = λ k d less. (c.in_ok-iron.ensures.views k d less).0;
  unmoved_yet = λ k d less. (c.in_ok-iron.ensures.views k d less).1;
  ready = λ k d less. (
    is_idle (layout_for c.args.limits c.args.passes) c.in_ok-book.book _ _ (c.in_ok-iron.ensures.views k d less).1,
    kits_carried (λ (p : MachinePass). kit_of p) (IsReadyKit (c.args.limits.tables + 1)) c.in_ok-iron.all.items c.in_ok-kits.kits.items c.in_ok-iron.ensures.kits c.in_ok-kits.ensures.ready k d less,
  );
}
