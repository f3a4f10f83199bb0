use Rattle.std.proofs.Common.{◌≡◌, ◌-◌, length, take}
use Rattle.epoch_grace.proofs.Swept.{SweptTo}
use Rattle.epoch_grace.proofs.sweeping.sweep.Given as goal

abbrev pub invariant-loop-done : goal.invariant-loop-done
invariant-loop-done g l =
    SweptTo (take l.passes l.numbers) l.fn.limbo.list l.fn.free (l.count - l.done) l.limbo.list l.free × (l.limbo.room ≡ l.fn.limbo.room) × (l.count ≡ length l.fn.limbo.list)
