use Rattle.std.proofs.Common.{◌≡◌, ℕ, Some, Vec, Global, length, set, refl, sym, ap, ◌∙◌, arith}
use Rattle.std.specs.Vec.{vec_capacity}
use Rattle.shares.specs.Counts.{least_unused}
use Rattle.std.proofs.lemmas.List.{drop_more, length_push}
use Rattle.counted_pages.specs.Pages.{PageCounts, CountedPage, with_count, without_spare}
use Rattle.book.specs.Granting.{unused_in}
use Rattle.book.specs.Taking.{takes_frame, wanting}
use Rattle.book.proofs.Taken.{one_taken, it_takes, it_takes_none, same_takes, takes_one, fewer_left, same_so}
use Rattle.book.proofs.FreshFrames.{fresh_one, fresh_same}
use Rattle.book.proofs.taking.take_frames.Goals as goal
use Rattle.book.proofs.taking.take_frames.Goals.{then-takes_frame, else-takes_frame}

pub unwrap-frame-requires : goal.unwrap-frame-requires
unwrap-frame-requires c =
    let was = c.loop-page.invariant in
    let takes = same_takes c.args.pool.now.counts c.loop-page.pool.counts was.takes.owned _ (c.requires.used c.loop-page.page-index _ c.loop-page-test.true) ∙ sym c.takes_frame.ensures ∙ c.if-takes_frame.true in
    let next = it_takes (takes_frame c.args.pool.now.counts) c.args.wants.now c.loop-page.page-index _ (drop_more c.args.wants.now c.loop-page.page-index _ c.loop-page-test.true) takes in
    one_taken c.loop-page.pool.counts c.take.result c.take.ensures.least (omega (arith, was.enough, ap length next))

pub loop-page-preserved : goal.loop-page-preserved
loop-page-preserved c =
    let was = c.loop-page.invariant in
    let more = drop_more c.args.wants.now c.loop-page.page-index _ c.loop-page-test.true in
    let alike = same_takes c.args.pool.now.counts c.loop-page.pool.counts was.takes.owned _ (c.requires.used c.loop-page.page-index _ c.loop-page-test.true) ∙ sym c.takes_frame.ensures in
    elim c.if-takes_frame.branch [
      | then-takes_frame w ↦ (
          let next = it_takes (takes_frame c.args.pool.now.counts) c.args.wants.now c.loop-page.page-index _ more (alike ∙ w.if-takes_frame.true) in
          let least : Some w.unwrap-frame.result.number ≡ least_unused c.loop-page.pool.counts = rw w.unwrap-frame.ensures at w.take.ensures.least in
          let taken = rw w.unwrap-frame.ensures at w.take.ensures.taken in
          let pushed = rw w.unwrap.ensures at w.push.ensures.items in
          let pool : c.if-takes_frame.pool ≡ without_spare (with_count c.loop-page.pool w.unwrap-frame.result.number 1) w.unwrap-frame.result.number = w.pool-is ∙ taken.1 in
          let items = ap (λ (v : Vec (ℕ × CountedPage) Global). v.items) w.frames-is ∙ pushed in
          let one = takes_one c.args.pool.now c.loop-page.pool (wanting (takes_frame c.args.pool.now.counts) c.args.wants.now) _ _ c.loop-page.frames.items w.unwrap-frame.result (same_so c.args.pool.now c.loop-page.pool c.loop-page.pool _ _ _ _ c.loop-page.frames.items was.takes refl next refl) least in
          let counts : length (unused_in c.if-takes_frame.pool.counts) ≡ length (unused_in (set c.loop-page.pool.counts w.unwrap-frame.result.number 1)) = ap (λ (p : PageCounts). length (unused_in p.counts)) pool in
          let long = ap length items ∙ length_push _ _ in
          let capacity = ap (λ (v : Vec (ℕ × CountedPage) Global). vec_capacity v) w.frames-is in
          record {
            takes = same_so c.args.pool.now _ c.if-takes_frame.pool _ _ _ _ c.if-takes_frame.frames.items one pool refl items;
            enough = omega (arith, was.enough, ap length next, fewer_left c.loop-page.pool.counts w.unwrap-frame.result least, counts);
            fresh = fresh_one c.loop-page.pool c.if-takes_frame.pool c.loop-page.frames.items c.if-takes_frame.frames.items _ w.unwrap-frame.result least was.fresh taken.0 pool items;
            few = omega (arith, was.few, long);
            room = omega (arith, was.room, capacity, w.push.ensures.capacity);
          }
          )
      | else-takes_frame w ↦ (
          let next = it_takes_none (takes_frame c.args.pool.now.counts) c.args.wants.now c.loop-page.page-index _ more (alike ∙ w.if-takes_frame.false) in
          let items = ap (λ (v : Vec (ℕ × CountedPage) Global). v.items) w.frames-is in
          let capacity = ap (λ (v : Vec (ℕ × CountedPage) Global). vec_capacity v) w.frames-is in
          let counts : length (unused_in c.if-takes_frame.pool.counts) ≡ length (unused_in c.loop-page.pool.counts) = ap (λ (p : PageCounts). length (unused_in p.counts)) w.pool-is in
          record {
            takes = same_so c.args.pool.now c.loop-page.pool c.if-takes_frame.pool _ _ _ c.loop-page.frames.items c.if-takes_frame.frames.items was.takes w.pool-is next items;
            enough = omega (arith, was.enough, ap length next, counts);
            fresh = fresh_same c.loop-page.pool c.if-takes_frame.pool c.loop-page.frames.items c.if-takes_frame.frames.items was.fresh w.pool-is items;
            few = omega (arith, was.few, ap length items);
            room = omega (arith, was.room, capacity);
          }
          )
    ]
