use Rattle.std.proofs.Common.{◌≡◌, ◌-◌, ◌≤◌, ℕ, length}
use Rattle.std.specs.VecDeque.{deque_capacity}
use Rattle.walk_core.specs.Lists.{times}
use Rattle.row_table.specs.Stack.{outs, Ahead}
use Rattle.row_table.proofs.stack.bring.Given as goal

abbrev pub invariant-loop : goal.invariant-loop
invariant-loop g l = Ahead l.row (l.end - l.counter) l.stack.items × (l.seat.me.1 ≡ outs l.stack.items)
    × (l.seat.me.0 ≡ l.fn.seat.me.0) × (l.seat.table_id ≡ l.fn.seat.table_id) × (l.seat.id ≡ l.fn.seat.id)
    × (length l.stack.items ≡ length l.fn.stack.items) × (deque_capacity l.stack ≡ deque_capacity l.fn.stack)
    × ((r : ℕ) → times r l.stack.items ≡ times r l.fn.stack.items)
    × (l.counter ≤ l.end)
