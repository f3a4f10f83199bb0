use Rattle.std.specs.Prelude.{◌+◌, ◌++◌, drop}
use Rattle.std.proofs.Common.{◌∙◌}
use Rattle.row_table.specs.Passes.{view_of}
use Rattle.machine_plan.specs.Books.{state_of}
use Rattle.cursor_apply.specs.Putting.{pages_of}
use Rattle.cursor_apply.proofs.Kept.{words_more}
use Rattle.cursor_apply.proofs.ShownPages.{next_hidden, slot_here, all_hidden}
use Rattle.cursor_apply.proofs.showing.hide_pages.Goals as goal

pub hide_page-requires-clause-ready : goal.hide_page-requires-clause-ready
hide_page-requires-clause-ready g c κs within =
    let m = c.requires.ready in
    let refs = c.args.slots.now in
    let i = c.loop-page.page-index in
    let r = c.loop-page-item.result in (
      m.0,
      m.1,
      m.2,
      m.3,
      m.4,
      m.5,
      m.6,
      pages_of (drop (i + 1) refs) ++ m.7,
      next_hidden refs i r c.loop-page-item.is c.loop-page-test.true m.0 m.1 m.2 m.3 m.4 m.5 m.7 m.6 (view_of c.loop-page.pass) c.args.held.now.rows (c.loop-page.invariant.so_far m.0 m.1 m.2 m.3 m.4 m.5 m.6 m.7 m.8 m.9),
      slot_here refs i r c.loop-page-item.is c.loop-page-test.true (state_of m.0) m.3 m.9,
    )

pub loop-page-preserved : goal.loop-page-preserved
loop-page-preserved g c =
    let refs = c.args.slots.now in
    let i = c.loop-page.page-index in
    let r = c.loop-page-item.result in
    record {
      table = c.hide_page.ensures.table ∙ c.loop-page.invariant.table;
      same = c.hide_page.ensures.same ∙ c.loop-page.invariant.same;
      words = words_more (view_of c.args.pass.now) (view_of c.loop-page.pass) (view_of c.hide_page.new.pass) c.loop-page.invariant.words c.hide_page.ensures.words;
      so_far = λ b thread k space frames slots to_show to_hide ready in_swap.
          c.hide_page.ensures.hidden b thread k space frames slots to_show (pages_of (drop (i + 1) refs) ++ to_hide)
          (next_hidden refs i r c.loop-page-item.is c.loop-page-test.true b thread k space frames slots to_hide to_show (view_of c.loop-page.pass) c.args.held.now.rows
          (c.loop-page.invariant.so_far b thread k space frames slots to_show to_hide ready in_swap))
          (slot_here refs i r c.loop-page-item.is c.loop-page-test.true (state_of b) space in_swap);
    }

pub returns-clause-hidden : goal.returns-clause-hidden
returns-clause-hidden g c = λ b thread k space frames slots to_show to_hide ready in_swap.
    all_hidden c.args.slots.now c.loop-page.page-index c.loop-page-test.false b thread k space frames slots to_hide to_show (view_of c.loop-page.pass) c.args.held.now.rows
    (c.loop-page.invariant.so_far b thread k space frames slots to_show to_hide ready in_swap)
