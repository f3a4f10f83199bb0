use Rattle.free_numbers.proofs.Heap.{IsKept-pop, IsLeast-pop, numbers_of-pop}
use Rattle.free_numbers.proofs.FreeNumbers.take.Goals as goal

pub invariant_of-self-2 : goal.invariant_of-self-2
invariant_of-self-2 c =
    let popped = c.in_ok-least.ensures in
    rw popped.capacity (IsKept-pop _ _ _ _ c.in_ok-least.field-0 c.self.invariant popped.permutation (popped.heap_order c.self.invariant.ordered).0)

pub returns-clause-taken : goal.returns-clause-taken
returns-clause-taken c =
    let popped = c.in_ok-least.ensures in
    rw (← c.self.view_is) (IsLeast-pop _ _ _ _ c.in_ok-least.field-0 c.self.invariant popped.permutation (popped.heap_order c.self.invariant.ordered).1)

pub returns-clause-after : goal.returns-clause-after
returns-clause-after c =
    let popped = c.in_ok-least.ensures in
    let less = numbers_of-pop _ _ _ _ c.in_ok-least.field-0 c.self.invariant popped.permutation in
    rw (← c.self.view_is, less)
