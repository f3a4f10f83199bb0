use Rattle.std.proofs.Common.{◌<◌, length, ap, ◌∙◌, arith}
use Rattle.book.proofs.Blockers.{ClearsMore, cleared_long, cleared_more, cleared_all}
use Rattle.book.proofs.entries.clear_blockers.Goals as goal

pub overflow_cast-place-end : goal.overflow_cast-place-end
overflow_cast-place-end c = omega (arith, ap length c.list.ensures.value)

pub set_blocker-requires : goal.set_blocker-requires
set_blocker-requires c = omega (arith, ap length c.list.ensures.value, ap length c.loop-place.invariant.list, cleared_long c.loop-place.place c.args.limbo.now.list)

pub loop-place-preserved : goal.loop-place-preserved
loop-place-preserved c =
    let less : c.loop-place.place < length c.loop-place.limbo.list = omega (arith, ap length c.list.ensures.value, ap length c.loop-place.invariant.list, cleared_long c.loop-place.place c.args.limbo.now.list) in
    let more : ClearsMore c.args.limbo.now c.loop-place.limbo c.set_blocker.new.self c.loop-place.place = cleared_more c.args.limbo.now c.loop-place.limbo c.set_blocker.new.self c.loop-place.place c.loop-place.invariant.list less c.set_blocker.ensures in
    record { list = more.list; room = more.room ∙ c.loop-place.invariant.room }

pub returns : goal.returns
returns c = λ i. record { room = c.loop-place.invariant.room i; list = (c.loop-place.invariant.list ∙ cleared_all c.loop-place.place c.args.limbo.now.list (omega (arith, ap length c.list.ensures.value))) i }
