use Rattle.std.specs.Prelude.{◌+◌, ◌++◌, drop}
use Rattle.std.proofs.Common.{◌∙◌}
use Rattle.row_table.specs.Passes.{view_of}
use Rattle.machine_plan.specs.Books.{state_of}
use Rattle.cursor_apply.specs.Putting.{pages_of}
use Rattle.cursor_apply.proofs.Kept.{words_more}
use Rattle.cursor_apply.proofs.ShownPages.{next_shown, sole_here, all_shown}
use Rattle.cursor_apply.proofs.showing.show_frames.Goals as goal

pub show_frame-requires-clause-ready : goal.show_frame-requires-clause-ready
show_frame-requires-clause-ready g c κs within =
    let m = c.requires.ready in
    let refs = c.args.frames.now in
    let i = c.loop-page.page-index in
    let r = c.loop-page-item.result in (
      m.0,
      m.1,
      m.2,
      m.3,
      m.4,
      m.5,
      pages_of (drop (i + 1) refs) ++ m.6,
      m.7,
      next_shown refs i r c.loop-page-item.is c.loop-page-test.true m.0 m.1 m.2 m.3 m.4 m.5 m.6 m.7 (view_of c.loop-page.pass) c.args.held.now.rows (c.loop-page.invariant.so_far m.0 m.1 m.2 m.3 m.4 m.5 m.6 m.7 m.8 m.9),
      sole_here refs i r c.loop-page-item.is c.loop-page-test.true (state_of m.0) m.3 c.number.result c.number.ensures m.9,
    )

pub loop-page-preserved : goal.loop-page-preserved
loop-page-preserved g c =
    let refs = c.args.frames.now in
    let i = c.loop-page.page-index in
    let r = c.loop-page-item.result in
    record {
      table = c.show_frame.ensures.table ∙ c.loop-page.invariant.table;
      same = c.show_frame.ensures.same ∙ c.loop-page.invariant.same;
      words = words_more (view_of c.args.pass.now) (view_of c.loop-page.pass) (view_of c.show_frame.new.pass) c.loop-page.invariant.words c.show_frame.ensures.words;
      so_far = λ b thread k space frames slots to_show to_hide ready sole.
          c.show_frame.ensures.shown b thread k space frames slots (pages_of (drop (i + 1) refs) ++ to_show) to_hide
          (next_shown refs i r c.loop-page-item.is c.loop-page-test.true b thread k space frames slots to_show to_hide (view_of c.loop-page.pass) c.args.held.now.rows
          (c.loop-page.invariant.so_far b thread k space frames slots to_show to_hide ready sole))
          (sole_here refs i r c.loop-page-item.is c.loop-page-test.true (state_of b) space c.number.result c.number.ensures sole);
    }

pub returns-clause-shown : goal.returns-clause-shown
returns-clause-shown g c = λ b thread k space frames slots to_show to_hide ready sole.
    all_shown c.args.frames.now c.loop-page.page-index c.loop-page-test.false b thread k space frames slots to_show to_hide (view_of c.loop-page.pass) c.args.held.now.rows
    (c.loop-page.invariant.so_far b thread k space frames slots to_show to_hide ready sole)
