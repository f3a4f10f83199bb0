use Rattle.std.proofs.Common.{◌≡◌, ◌-◌, [], length}
use Rattle.epoch_grace.proofs.Swept.{SweptTo}
use Rattle.book_sweep.proofs.freeing.drain.Given as goal

abbrev pub invariant-loop-done : goal.invariant-loop-done
invariant-loop-done l = SweptTo [] l.fn.limbo.list l.fn.free (l.count - l.done) l.limbo.list l.free × (l.limbo.room ≡ l.fn.limbo.room) × (l.count ≡ length l.fn.limbo.list)
