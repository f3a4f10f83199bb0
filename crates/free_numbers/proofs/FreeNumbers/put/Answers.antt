use Rattle.std.proofs.Common.{arith}
use Rattle.free_numbers.proofs.Heap.{len-lt-limit, IsKept-push, numbers_of-permutation}
use Rattle.free_numbers.proofs.FreeNumbers.put.Goals as goal

pub unwrap-requires : goal.unwrap-requires
unwrap-requires c =
    let kept = c.self.invariant in
    let few = len-lt-limit c.self.inside.limit _ kept.below c.args.number (rw (← c.self.view_is) at c.requires.below) (rw (← c.self.view_is) at c.requires.absent) in
    c.push.ensures.succeeds (omega (arith, kept.once, kept.room, c.self.inside.least_first.data.ok.0, few))

pub invariant_of-self : goal.invariant_of-self
invariant_of-self c =
    let moved = rw c.unwrap.ensures at c.push.ensures.permutation in
    let ordered = rw c.unwrap.ensures at c.push.ensures.heap_order in
    IsKept-push _ _ _ _ _ c.args.number c.self.invariant (rw (← c.self.view_is) at c.requires.below) (rw (← c.self.view_is) at c.requires.absent) moved (ordered c.self.invariant.ordered) c.push.ensures.capacity

pub returns : goal.returns
returns c =
    let moved = rw c.unwrap.ensures at c.push.ensures.permutation in
    let same = numbers_of-permutation _ _ moved in
    rw (← c.self.view_is, same)
