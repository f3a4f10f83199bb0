use Rattle.std.proofs.Common.{◌≡◌, ℕ, true, List, length, ap, ◌∙◌, arith}
use Rattle.std.specs.Prelude.{Some}
use Rattle.std.proofs.lemmas.List.{length_push}
use Rattle.shares.specs.Counts.{least_unused}
use Rattle.book.proofs.Arriving.{TakenPage, next_turned, may_take, is_owned, has_spare, one_given, arrived_more, taken_page}
use Rattle.book.proofs.moving.take_in.Goals as goal

pub unwrap-frame-requires : goal.unwrap-frame-requires
unwrap-frame-requires c =
    let popped = rw c.unwrap-page.ensures at c.pop.ensures.items in
    may_take _ _ _ _ _ _ c.unwrap-page.result c.take.result (next_turned _ _ c.unwrap-page.result popped) c.loop-done.invariant.arrived c.take.ensures.least

pub take_out-requires-clause-used : goal.take_out-requires-clause-used
take_out-requires-clause-used c =
    let popped = rw c.unwrap-page.ensures at c.pop.ensures.items in
    is_owned _ _ _ _ _ _ c.unwrap-page.result (next_turned _ _ c.unwrap-page.result popped) c.loop-done.invariant.given

pub take_out-requires-clause-spare : goal.take_out-requires-clause-spare
take_out-requires-clause-spare c =
    let popped = rw c.unwrap-page.ensures at c.pop.ensures.items in
    has_spare _ _ _ _ _ _ c.unwrap-page.result (next_turned _ _ c.unwrap-page.result popped) c.loop-done.invariant.given

pub loop-done-preserved : goal.loop-done-preserved
loop-done-preserved c =
    let was = c.loop-done.invariant in
    let popped = rw c.unwrap-page.ensures at c.pop.ensures.items in
    let more = next_turned _ _ c.unwrap-page.result popped in
    let long = ap length popped in
    let one_more = length_push c.pop.new.self.items c.unwrap-page.result in
    let pushed = rw c.unwrap.ensures at c.push.ensures.items in
    let whole : length c.take_out.new.into ≡ 4096 = c.take_out.auto.into ∙ was.whole in
    let least : Some c.unwrap-frame.result.number ≡ least_unused c.loop-done.pool.counts = rw c.unwrap-frame.ensures at c.take.ensures.least in
    let taken = rw c.unwrap-frame.ensures at c.take.ensures.taken in
    let page : TakenPage c.loop-done.pool c.write_at.new.self c.write_at.new.frame c.take_out.new.into = taken_page c.loop-done.pool c.take.new.self c.write_at.new.self c.unwrap-frame.result c.write_at.new.frame c.take_out.new.into least taken.0 whole taken.1 c.write_at.ensures.written c.write_at.ensures.spares in
    let body : c.write_at.new.frame.body ≡ record { bytes = c.unwrap-page.result.1.body.bytes; own = true } = page.body ∙ ap (λ (l : List ℕ). record { bytes = l; own = true }) c.take_out.ensures.bytes in
    record {
      arrived = arrived_more _ _ _ _ _ _ _ _ c.unwrap-page.result c.write_at.new.frame more was.arrived page.least body page.counts pushed;
      given = one_given _ _ _ _ _ _ c.unwrap-page.result more was.given _ c.take_out.ensures.counted;
      whole = whole;
      long = omega (arith, was.long, long, one_more);
      few = omega (arith, was.few, ap length pushed, length_push c.loop-done.frames.items (c.unwrap-page.result.0, c.write_at.new.frame));
      own_room = c.pop.ensures.capacity ∙ was.own_room;
      room = omega (arith, was.room, c.push.ensures.capacity);
    }
