use Rattle.free_numbers.proofs.Heap.{IsKept-empty}
use Rattle.free_numbers.proofs.FreeNumbers.new.Goals as goal

pub invariant_of-result : goal.invariant_of-result
invariant_of-result c =
    let made = c.in_ok-least_first.ensures in
    rw made.items (IsKept-empty c.args.limit _ (rw made.items at made.heap_order) made.capacity c.ranges.limit.fits)
