use Rattle.std.proofs.Common.{arith}
use Rattle.std.specs.FinSet as finite
use Rattle.std.specs.Ordering.{nat_cmp}
use Rattle.std.specs.Cmp.{nat_cmp_total, unsigned_tied}
use Rattle.std.proofs.lemmas.Bool.Decides.{nat_tests}
use Rattle.shares.proofs.Shares.new.Goals as goal

pub loop-number-init : goal.loop-number-init
loop-number-init c =
    let made = c.in_ok-unused.ensures in
    record {
      limit = grind (arith, made);
      count = rw made (finite.len-empty nat_cmp);
      below = λ k. rw made (grind (arith, nat_tests, finite.contains-empty nat_cmp k));
    }

pub loop-number-preserved : goal.loop-number-preserved
loop-number-preserved c =
    let so_far = c.loop-number.invariant in
    let put = c.put.ensures in
    record {
      limit = grind (arith, put, so_far.limit);
      count = rw put (grind (arith, nat_tests, so_far.count, so_far.below c.loop-number.number, finite.len-insert nat_cmp_total c.loop-number.unused.numbers c.loop-number.number));
      below = λ k. rw put (grind (arith, nat_tests, so_far.below k, finite.contains-insert nat_cmp_total c.loop-number.unused.numbers c.loop-number.number k, unsigned_tied k c.loop-number.number));
    }
