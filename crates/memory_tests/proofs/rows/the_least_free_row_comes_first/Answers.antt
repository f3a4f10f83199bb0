use Rattle.std.proofs.Common.{arith}
use Rattle.std.specs.FinSet as set
use Rattle.std.specs.Ordering.{nat_cmp}
use Rattle.std.proofs.lemmas.Bool.Decides.{nat_tests}
use Rattle.memory_tests.proofs.rows.the_least_free_row_comes_first.Goals as goal

pub put-requires-clause-absent : goal.put-requires-clause-absent
put-requires-clause-absent g c = rw c.in_ok-free.ensures (set.contains-empty nat_cmp 3)

pub put-requires-2-clause-absent : goal.put-requires-2-clause-absent
put-requires-2-clause-absent g c = rw (c.put.ensures, c.in_ok-free.ensures) (grind (arith, nat_tests, set.members))
