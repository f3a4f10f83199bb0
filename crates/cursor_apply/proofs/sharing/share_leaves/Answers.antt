use Rattle.std.specs.Prelude.{◌+◌, ◌++◌, drop}
use Rattle.std.proofs.Common.{◌∙◌}
use Rattle.row_table.specs.Passes.{view_of}
use Rattle.machine_plan.specs.Books.{state_of}
use Rattle.cursor_apply.specs.Putting.{pages_of}
use Rattle.cursor_apply.proofs.Kept.{words_more}
use Rattle.cursor_apply.proofs.SharedRows.{next_shared, frame_here, all_shared}
use Rattle.cursor_apply.proofs.sharing.share_leaves.Goals as goal

pub share_leaf-requires-clause-ready : goal.share_leaf-requires-clause-ready
share_leaf-requires-clause-ready g c κs within =
    let m = c.requires.ready in
    let refs = c.args.frames.now in
    let i = c.loop-page.page-index in
    let r = c.loop-page-item.result in (
      m.0,
      pages_of (drop (i + 1) refs) ++ m.1,
      m.2,
      next_shared refs i r c.loop-page-item.is c.loop-page-test.true m.0 c.args.space m.1 m.2 (view_of c.loop-page.pass) c.args.held.now.rows (c.loop-page.invariant.so_far m.0 m.1 m.2 m.3 m.4),
      frame_here refs i r c.loop-page-item.is c.loop-page-test.true (state_of m.0) c.args.space c.number.result c.number.ensures m.4,
    )

pub loop-page-preserved : goal.loop-page-preserved
loop-page-preserved g c =
    let refs = c.args.frames.now in
    let i = c.loop-page.page-index in
    let r = c.loop-page-item.result in
    record {
      table = c.share_leaf.ensures.table ∙ c.loop-page.invariant.table;
      same = c.share_leaf.ensures.same ∙ c.loop-page.invariant.same;
      words = words_more (view_of c.args.pass.now) (view_of c.loop-page.pass) (view_of c.share_leaf.new.pass) c.loop-page.invariant.words c.share_leaf.ensures.words;
      so_far = λ b to_share beside ready each.
          c.share_leaf.ensures.shared b (pages_of (drop (i + 1) refs) ++ to_share) beside
          (next_shared refs i r c.loop-page-item.is c.loop-page-test.true b c.args.space to_share beside (view_of c.loop-page.pass) c.args.held.now.rows (c.loop-page.invariant.so_far b to_share beside ready each))
          (frame_here refs i r c.loop-page-item.is c.loop-page-test.true (state_of b) c.args.space c.number.result c.number.ensures each);
    }

pub returns-clause-shared : goal.returns-clause-shared
returns-clause-shared g c = λ b to_share beside ready each.
    all_shared c.args.frames.now c.loop-page.page-index c.loop-page-test.false b c.args.space to_share beside (view_of c.loop-page.pass) c.args.held.now.rows (c.loop-page.invariant.so_far b to_share beside ready each)
