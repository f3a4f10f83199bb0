use Rattle.std.proofs.Common.{length, ap, ◌∙◌, arith}
use Rattle.std.proofs.lemmas.List.{length_push}
use Rattle.book.proofs.Sharing.{next_share, seconds_left, shared_more, all_shared, all_behind, next_item}
use Rattle.book.proofs.forking.share_frames.Goals as goal

pub share-second-requires-clause-same : goal.share-second-requires-clause-same
share-second-requires-clause-same c = (next_share c.args.pool.now c.loop-page.pool c.args.own.now _ _ c.loop-page.frames.items _ (next_item c.args.own.now c.loop-page.page-index c.loop-page-item.result c.loop-page-test.true c.loop-page-item.is) c.loop-page.seconds.items c.pop.new.self.items c.unwrap-body.result (rw c.unwrap-body.ensures at c.pop.ensures.items) c.requires.shareable c.loop-page.invariant.shared c.loop-page.invariant.seconds).same

pub share-second-requires-clause-shared : goal.share-second-requires-clause-shared
share-second-requires-clause-shared c = (next_share c.args.pool.now c.loop-page.pool c.args.own.now _ _ c.loop-page.frames.items _ (next_item c.args.own.now c.loop-page.page-index c.loop-page-item.result c.loop-page-test.true c.loop-page-item.is) c.loop-page.seconds.items c.pop.new.self.items c.unwrap-body.result (rw c.unwrap-body.ensures at c.pop.ensures.items) c.requires.shareable c.loop-page.invariant.shared c.loop-page.invariant.seconds).shared

pub share-second-requires-clause-used : goal.share-second-requires-clause-used
share-second-requires-clause-used c = (next_share c.args.pool.now c.loop-page.pool c.args.own.now _ _ c.loop-page.frames.items _ (next_item c.args.own.now c.loop-page.page-index c.loop-page-item.result c.loop-page-test.true c.loop-page-item.is) c.loop-page.seconds.items c.pop.new.self.items c.unwrap-body.result (rw c.unwrap-body.ensures at c.pop.ensures.items) c.requires.shareable c.loop-page.invariant.shared c.loop-page.invariant.seconds).used

pub share-second-requires-clause-room : goal.share-second-requires-clause-room
share-second-requires-clause-room c = (next_share c.args.pool.now c.loop-page.pool c.args.own.now _ _ c.loop-page.frames.items _ (next_item c.args.own.now c.loop-page.page-index c.loop-page-item.result c.loop-page-test.true c.loop-page-item.is) c.loop-page.seconds.items c.pop.new.self.items c.unwrap-body.result (rw c.unwrap-body.ensures at c.pop.ensures.items) c.requires.shareable c.loop-page.invariant.shared c.loop-page.invariant.seconds).room

pub share-second-requires-clause-spare : goal.share-second-requires-clause-spare
share-second-requires-clause-spare c = (next_share c.args.pool.now c.loop-page.pool c.args.own.now _ _ c.loop-page.frames.items _ (next_item c.args.own.now c.loop-page.page-index c.loop-page-item.result c.loop-page-test.true c.loop-page-item.is) c.loop-page.seconds.items c.pop.new.self.items c.unwrap-body.result (rw c.unwrap-body.ensures at c.pop.ensures.items) c.requires.shareable c.loop-page.invariant.shared c.loop-page.invariant.seconds).spare

pub loop-page-preserved : goal.loop-page-preserved
loop-page-preserved c =
    let was = c.loop-page.invariant in
    let more = next_item c.args.own.now c.loop-page.page-index c.loop-page-item.result c.loop-page-test.true c.loop-page-item.is in
    let popped = rw c.unwrap-body.ensures at c.pop.ensures.items in
    let pushed = rw c.unwrap.ensures at c.push.ensures.items in
    record {
      shared = shared_more c.args.pool.now c.loop-page.pool c.args.own.now _ _ c.loop-page.frames.items _ more c.loop-page.seconds.items c.pop.new.self.items c.unwrap-body.result popped c.requires.shareable was.shared was.seconds _ _ c.share-second.result c.share-second.ensures.counted c.share-second.ensures.second pushed c.share-second.ensures.kept;
      seconds = seconds_left c.args.pool.now c.loop-page.pool c.args.own.now _ _ c.loop-page.frames.items _ more c.loop-page.seconds.items c.pop.new.self.items c.unwrap-body.result popped c.requires.shareable was.shared was.seconds;
      few = omega (arith, was.few, ap length pushed, length_push c.loop-page.frames.items (c.loop-page-item.result.0, c.share-second.result));
      room = omega (arith, was.room, c.push.ensures.capacity);
      places = c.pop.ensures.capacity ∙ was.places;
    }

pub returns-clause-shares : goal.returns-clause-shares
returns-clause-shares c = all_shared _ _ _ _ _ c.loop-page.invariant.shared (all_behind c.args.own.now c.loop-page.page-index c.loop-page-test.false)
