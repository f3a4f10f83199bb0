use Rattle.std.proofs.Common.{◌≡◌, ◌∷◌, ◌+◌, ℕ, get_or, drop, length, refl, sym, ap, subst, ◌∙◌}
use Rattle.std.proofs.lemmas.List.{drop_more}
use Rattle.counted_pages.specs.Pages.{CountedPage}
use Rattle.book.specs.declared.storing.Overlap.{Overlap}
use Rattle.book.specs.Storing.{IsTouched, stored_in}
use Rattle.book.proofs.Filled.{mapped_step, still_there}
use Rattle.book.proofs.Overwritten.{next_counts, next_spares, next_backed}
use Rattle.book.proofs.Stored.{stored_frame}
use Rattle.book.proofs.storing.store.Goals as goal

pub loop-page-preserved : goal.loop-page-preserved
loop-page-preserved c =
    let was = c.loop-page.invariant in
    let init = c.args.frames.now in
    let i = c.loop-page.page-index in
    let stored = c.args.bytes.now in
    let r = get_or c.loop-page.frames i c.page-item.result in
    let r_is : r ≡ get_or init i c.page-item.result = still_there (stored_in c.args.at stored) i init c.loop-page.frames c.page-item.result was.done in
    let more : drop i init ≡ r ∷ drop (i + 1) init = drop_more init i c.page-item.result c.loop-page-test.true ∙ ap (λ (x : ℕ × CountedPage). x ∷ drop (i + 1) init) (sym r_is) in
    let touched = subst (λ (x : ℕ × CountedPage). IsTouched c.args.at (length stored) x.0) (sym r_is) (c.requires.touched i c.page-item.result c.loop-page-test.true) in
    let whole = subst (λ (x : ℕ × CountedPage). length x.1.body.bytes ≡ 4096) (sym r_is) (c.requires.whole i c.page-item.result c.loop-page-test.true) in
    let part = c.shared_part-part.ensures in
    record {
      counts = next_counts c.args.pool.now c.loop-page.pool c.write_at.new.self init i r (drop (i + 1) init) more c.write_at.ensures.spares ∙ was.counts;
      spares = λ n none had. next_spares c.args.pool.now c.loop-page.pool c.write_at.new.self init i r (drop (i + 1) init) more c.write_at.ensures.spares n none (was.spares n none had);
      backed = next_backed c.args.pool.now c.loop-page.pool c.write_at.new.self init i r (drop (i + 1) init) more c.write_at.ensures.spares c.requires.alone c.requires.held was.backed;
      done = mapped_step (stored_in c.args.at stored) init c.loop-page.frames _ i r c.page-item.result (r.0, c.write_at.new.frame) c.loop-page-test.true was.done refl
          (stored_frame c.args.at stored r c.write_at.new.frame c.shared_part-part.result.start c.shared_part-part.result.place c.shared_part-part.result.len touched whole
          (ap (λ (x : Overlap). x.start) part) (ap (λ (x : Overlap). x.place) part) (ap (λ (x : Overlap). x.len) part) c.write_at.ensures.written)
          refl;
    }
