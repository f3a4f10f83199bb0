use Rattle.std.specs.Prelude.{Bool, ◌++◌}
use Rattle.std.proofs.Common.{subst}
use Rattle.row_table.specs.Passes.{view_of}
use Rattle.cursor_apply.specs.Showing.{AreWritable, own_pages}
use Rattle.cursor_apply.proofs.showing.show_written.Goals as goal

pub show_frames-requires-clause-ready : goal.show_frames-requires-clause-ready
show_frames-requires-clause-ready g c κs within =
    let m = c.requires.ready in (
      m.0,
      m.1,
      m.2,
      m.3,
      m.4,
      m.5,
      m.6,
      m.7,
      subst (λ (t : Bool). AreWritable m.0 m.1 m.2 m.3 m.4 m.5 (own_pages t c.args.frames.now ++ m.6) m.7 (view_of c.args.pass.now) c.args.held.now.rows) c.if-writes.true m.8,
      m.9 c.if-writes.true,
    )

pub returns-then-writes-clause-shown : goal.returns-then-writes-clause-shown
returns-then-writes-clause-shown g c = λ b thread k space frames slots to_show to_hide ready sole.
    c.show_frames.ensures.shown b thread k space frames slots to_show to_hide
    (subst (λ (t : Bool). AreWritable b thread k space frames slots (own_pages t c.args.frames.now ++ to_show) to_hide (view_of c.args.pass.now) c.args.held.now.rows) c.if-writes.true ready) (sole c.if-writes.true)
