use Rattle.std.proofs.Common.{◌∷◌, [], get_or, Bool, refl, sym, ap, ◌∙◌}
use Rattle.std.specs.Prelude.{if◌then◌else◌}
use Rattle.counted_pages.specs.Pages.{without_spare}
use Rattle.book.specs.Filling.{with_source}
use Rattle.book.proofs.Filled.{mapped_step, written_page, own_body, without_this}
use Rattle.book.proofs.filling.write_page.Goals as goal
use Rattle.book.proofs.filling.write_page.Goals.{then-at-page, else-at-page}

pub loop-at-preserved : goal.loop-at-preserved
loop-at-preserved c =
    let r = get_or c.loop-at.frames c.loop-at.at-index c.at-item.result in
    let own = own_body c.args.pool.now c.args.frames.now c.loop-at.frames c.loop-at.at-index r c.at-item.result c.args.page c.args.bytes.now c.requires.sole c.loop-at-test.true c.loop-at.invariant.done refl in
    elim c.if-at-page.branch [
      | then-at-page w ↦ record {
        pool = w.pool-is ∙ w.write_at.ensures.spares ∙ ap (λ (b : Bool). if b then c.loop-at.pool else (without_spare c.loop-at.pool r.1.number)) own ∙ c.loop-at.invariant.pool;
        done = written_page c.args.pool.now c.args.frames.now c.loop-at.frames c.if-at-page.frames c.loop-at.at-index r c.at-item.result w.write_at.new.frame c.args.page c.args.bytes.now c.requires.whole c.requires.sole c.loop-at-test.true
            c.loop-at.invariant.done refl w.if-at-page.true w.write_at.ensures.written w.frames-is;
      }
      | else-at-page w ↦ record {
        pool = w.pool-is ∙ c.loop-at.invariant.pool;
        done = mapped_step (with_source ((c.args.page, c.args.bytes.now) ∷ [])) c.args.frames.now c.loop-at.frames c.if-at-page.frames c.loop-at.at-index r c.at-item.result r c.loop-at-test.true c.loop-at.invariant.done refl
            (sym (without_this c.args.page c.args.bytes.now r w.if-at-page.false)) w.frames-is;
      }
    ]
