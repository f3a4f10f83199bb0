use Rattle.std.proofs.Common.{◌-◌, ◌<◌, ℕ, length, sym, ap, subst, ◌∙◌, arith}
use Rattle.book.specs.declared.storing.Overlap.{Overlap}
use Rattle.book.specs.Storing.{IsTouched}
use Rattle.book.proofs.Stored.{loaded_long, loaded_step}
use Rattle.book.proofs.storing.load.Goals as goal

pub loop-done-preserved : goal.loop-done-preserved
loop-done-preserved c =
    let was = c.loop-done.invariant in
    let frames = c.args.frames.now in
    let r = c.index-frames-count.result in
    let b = c.bytes-in-loop-done.result.now in
    let inside : length frames - 1 - c.loop-done.done < length frames = omega (arith, c.loop-done-test.true) in
    let touched : IsTouched c.args.at (length c.loop-done.bytes) r.0 = subst (λ (x : ℕ × ℕ). IsTouched c.args.at x.0 x.1) (λ i. (sym was.long i, (sym c.index-frames-count.is i).0)) (c.requires.touched (length frames - 1 - c.loop-done.done) r inside) in
    let whole = c.bytes-in-loop-done.ensures.whole in
    let same = c.bytes-in-loop-done.ensures.value in
    let part = c.shared_part-part.ensures in
    let el = ap length c.bytes.ensures.value in
    record {
      long = loaded_long c.args.at r c.loop-done.bytes c.args.bytes.now c.write_at.new.self b c.shared_part-part.result.start c.shared_part-part.result.place c.shared_part-part.result.len (length c.bytes.result.now) touched same whole el
          (ap (λ (x : Overlap). x.start) part) (ap (λ (x : Overlap). x.place) part) (ap (λ (x : Overlap). x.len) part) c.write_at.ensures ∙ was.long;
      loaded = loaded_step c.args.at r c.loop-done.bytes c.args.bytes.now c.write_at.new.self b c.shared_part-part.result.start c.shared_part-part.result.place c.shared_part-part.result.len (length c.bytes.result.now) touched same whole el
          (ap (λ (x : Overlap). x.start) part) (ap (λ (x : Overlap). x.place) part) (ap (λ (x : Overlap). x.len) part) c.write_at.ensures
          frames c.loop-done.done c.loop-done-test.true c.index-frames-count.is was.long was.loaded;
    }
