use Rattle.std.proofs.Common.{◌≡◌, [], ◌++◌, map}
use Rattle.row_table.specs.Rule.{view}
use Rattle.row_table.proofs.table.Iron.gather.Given as goal

abbrev pub invariant-loop-pass : goal.invariant-loop-pass
invariant-loop-pass g l = record {
  can : (goal.iterator-loop-pass g).can_next l.pass-iterator;
  finite : (goal.iterator-loop-pass g).is_finite l.pass-iterator;
  all : l.yielded ++ l.pass-iterator.rest.items ≡ l.fn.passes.items;
  table : l.seat.table_id ≡ l.self.table.shared.table_id;
  seat : l.seat.me ≡ (map (λ p. view p.seat.me) l.yielded, []);
}
