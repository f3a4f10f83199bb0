use Rattle.std.proofs.Common.{arith}
use Rattle.free_numbers.proofs.Heap.{len-le-limit}
use Rattle.free_numbers.proofs.FreeNumbers.count.Goals as goal

pub overflow_cast-result : goal.overflow_cast-result
overflow_cast-result c =
    let kept = c.self.invariant in
    let few = len-le-limit c.self.inside.limit _ kept.below in
    omega (arith, c.self.inside.least_first.data.ok.0)
