use Rattle.std.proofs.Common.{◌≡◌, length}
use Rattle.std.specs.List.{All}
use Rattle.mm_txn.specs.Starting.{IsReadyKit}
use Rattle.mm_txn.proofs.kits.empty_kits.Given as goal

abbrev pub invariant-loop : goal.invariant-loop
invariant-loop l = record {
  count : length l.kits.items ≡ l.counter;
  ready : All (IsReadyKit l.rows) l.kits.items;
}
