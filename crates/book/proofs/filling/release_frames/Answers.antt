use Rattle.std.proofs.Common.{◌≡◌, ◌++◌, ◌-◌, ◌<◌, not, true, false, Bool, Vec, Global, ℕ, take, drop, suc, get_or, sym, ap, ◌∙◌, length, arith}
use Rattle.std.specs.Vec.{vec_capacity}
use Rattle.std.proofs.lemmas.List.{get_or_default}
use Rattle.counted_pages.specs.Pages.{CountedPage, with_count, with_spare}
use Rattle.shares.specs.Counts.{count_of}
use Rattle.book.specs.Filling.{has_page}
use Rattle.book.proofs.Released.{gives_one, gives_same, in_parts, inside_step, stays_step, goes_step, removed_is}
use Rattle.book.proofs.filling.release_frames.Goals as goal
use Rattle.book.proofs.filling.release_frames.Goals.{then-has_page, else-has_page}

pub loop-done-preserved : goal.loop-done-preserved
loop-done-preserved c =
    let was = c.loop-done.invariant in
    let old = c.args.own.now.items in
    let cur = c.loop-done.own.items in
    let done = c.loop-done.done in
    let stays : ℕ × CountedPage → Bool = λ r. not (has_page c.args.frames.now r.0) in
    let r = c.index.result.now in
    let many : c.len-count.result ≡ length old = c.len-count.ensures ∙ c.args.own.now.ok.0 in
    let place_is : c.len-count.result - 1 - done ≡ length old - 1 - done = ap (λ n. n - 1 - done) many in
    let few : done < length old = omega (arith, c.loop-done-test.true, many) in
    let read : r ≡ get_or cur (length old - 1 - done) r = c.index.ensures ∙ ap (λ n. get_or cur n r) place_is in
    let parts = in_parts stays old cur done r r few was.left read in
    elim c.if-has_page.branch [
      | then-has_page w ↦
          let goes : stays r ≡ false = ap not (sym c.has_page.ensures ∙ w.if-has_page.true) in
          let taken = w.remove-page.result in
          let this : taken ≡ r = w.remove-page.ensures.value ∙ ap (λ n. get_or cur n taken) place_is ∙ get_or_default cur (length old - 1 - done) taken r (inside_step stays old cur done r r few was.left read) ∙ sym read in
          let items = ap (λ (v : Vec (ℕ × CountedPage) Global). v.items) w.own-is ∙ w.remove-page.ensures.items ∙ ap (λ n. take n cur ++ drop (suc n) cur) place_is in
          let removed = items ∙ removed_is stays old cur done r r few was.left read in
          record {
            gives = gives_one c.args.pool.now c.loop-done.pool c.if-has_page.pool old cur c.if-has_page.own.items _ _ r was.gives parts removed
                (w.pool-is ∙ w.give_back.ensures ∙ ap (λ (x : ℕ × CountedPage). with_spare (with_count c.loop-done.pool x.1.number (count_of c.loop-done.pool.counts x.1.number - 1)) x.1.number) this);
            left = removed ∙ goes_step stays old cur done r r few was.left read goes;
            room = ap (λ (v : Vec (ℕ × CountedPage) Global). vec_capacity v) w.own-is ∙ w.remove-page.ensures.capacity ∙ was.room;
          }
      | else-has_page w ↦
          let keeps : stays r ≡ true = ap not (sym c.has_page.ensures ∙ w.if-has_page.false) in
          let same = ap (λ (v : Vec (ℕ × CountedPage) Global). v.items) w.own-is in
          record {
            gives = gives_same c.args.pool.now c.loop-done.pool c.if-has_page.pool old cur c.if-has_page.own.items was.gives w.pool-is same;
            left = same ∙ stays_step stays old cur done r r few was.left read keeps;
            room = ap (λ (v : Vec (ℕ × CountedPage) Global). vec_capacity v) w.own-is ∙ was.room;
          }
    ]
