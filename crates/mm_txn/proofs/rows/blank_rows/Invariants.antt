use Rattle.mm_txn.specs.Starting.{AreBlank}
use Rattle.mm_txn.proofs.rows.blank_rows.Given as goal

abbrev pub invariant-loop : goal.invariant-loop
invariant-loop l = AreBlank l.counter l.rows.items
