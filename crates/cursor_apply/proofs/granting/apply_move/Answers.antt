use Rattle.std.specs.Prelude.{true}
use Rattle.std.proofs.Common.{◌≡◌, ℕ, sym, subst}
use Rattle.row_table.specs.Passes.{view_of}
use Rattle.machine_plan.specs.Books.{BookData, state_of}
use Rattle.machine_plan.specs.Kits.{Refs}
use Rattle.cursor_apply.specs.Putting.{pages_of}
use Rattle.cursor_apply.specs.Showing.{AreSole, AreSlots, own_pages, MayShow, Shows, MayHide, Hides}
use Rattle.cursor_apply.proofs.Begun.{linked_here}
use Rattle.cursor_apply.proofs.Moved.{may_show_new, may_show_own, may_hide, is_applied}
use Rattle.cursor_apply.proofs.granting.apply_move.Goals as goal

pub show_frames-requires-clause-ready : goal.show_frames-requires-clause-ready
show_frames-requires-clause-ready g c κs within =
    let m = c.requires.ready in
    let v = view_of c.args.pass.now in
    let rows = c.args.held.now.rows in
    subst (λ (l : Refs). MayShow (pages_of l) (λ (b : BookData) (space : ℕ). AreSole (state_of b) space l) v rows) (sym c.as_slice-frames.ensures.value)
    (may_show_new m.0 m.1 m.2 m.3 v rows c.args.kit.now m.4 m.5 c.args.writes m.6)

pub show_written-requires-clause-ready : goal.show_written-requires-clause-ready
show_written-requires-clause-ready g c κs within =
    let m = c.requires.ready in
    let v = view_of c.args.pass.now in
    let v1 = view_of c.show_frames.new.pass in
    let rows = c.args.held.now.rows in
    let shown = subst (λ (l : Refs). Shows (pages_of l) (λ (b : BookData) (space : ℕ). AreSole (state_of b) space l) v v1 rows) c.as_slice-frames.ensures.value c.show_frames.ensures.shown in
    subst (λ (l : Refs). MayShow (own_pages c.args.writes l) (λ (b : BookData) (space : ℕ). c.args.writes ≡ true → AreSole (state_of b) space l) v1 rows) (sym c.as_slice-own_frames.ensures.value)
    (may_show_own m.0 m.1 m.2 m.3 v rows c.args.kit.now m.4 m.5 c.args.writes m.6 v1 shown)

pub hide_pages-requires-clause-ready : goal.hide_pages-requires-clause-ready
hide_pages-requires-clause-ready g c κs within =
    let m = c.requires.ready in
    let v = view_of c.args.pass.now in
    let v1 = view_of c.show_frames.new.pass in
    let v2 = view_of c.show_written.new.pass in
    let rows = c.args.held.now.rows in
    let shown = subst (λ (l : Refs). Shows (pages_of l) (λ (b : BookData) (space : ℕ). AreSole (state_of b) space l) v v1 rows) c.as_slice-frames.ensures.value c.show_frames.ensures.shown in
    let own = subst (λ (l : Refs). Shows (own_pages c.args.writes l) (λ (b : BookData) (space : ℕ). c.args.writes ≡ true → AreSole (state_of b) space l) v1 v2 rows) c.as_slice-own_frames.ensures.value c.show_written.ensures.shown in
    subst (λ (l : Refs). MayHide (pages_of l) (λ (b : BookData) (space : ℕ). AreSlots (state_of b) space l) v2 rows) (sym c.as_slice-slots.ensures.value)
    (may_hide m.0 m.1 m.2 m.3 v rows c.args.kit.now m.4 m.5 c.args.writes m.6 v1 shown v2 own)

pub returns-clause-applies : goal.returns-clause-applies
returns-clause-applies g c = λ a b thread call linked move same.
    let v = view_of c.args.pass.now in
    let v1 = view_of c.show_frames.new.pass in
    let v2 = view_of c.show_written.new.pass in
    let w = view_of c.hide_pages.new.pass in
    let rows = c.args.held.now.rows in
    let shown = subst (λ (l : Refs). Shows (pages_of l) (λ (b : BookData) (space : ℕ). AreSole (state_of b) space l) v v1 rows) c.as_slice-frames.ensures.value c.show_frames.ensures.shown in
    let own = subst (λ (l : Refs). Shows (own_pages c.args.writes l) (λ (b : BookData) (space : ℕ). c.args.writes ≡ true → AreSole (state_of b) space l) v1 v2 rows) c.as_slice-own_frames.ensures.value c.show_written.ensures.shown in
    let hidden = subst (λ (l : Refs). Hides (pages_of l) (λ (b : BookData) (space : ℕ). AreSlots (state_of b) space l) v2 w rows) c.as_slice-slots.ensures.value c.hide_pages.ensures.hidden in
    is_applied a b thread call v rows c.args.kit.now linked move c.args.writes same v1 shown v2 own w hidden c.show_frames.ensures.words c.show_written.ensures.words c.hide_pages.ensures.words c.has_rows_once.ensures c.put_granted.new.held.rows c.settle.new.kit
    (c.put_granted.ensures.back b _ w.rows) c.put_granted.ensures.rows (c.settle.ensures.places (c.put_granted.ensures.places linked.room)) c.settle.ensures.idle c.settle.ensures.ungranted c.settle.ensures.seconds

pub returns-clause-alone : goal.returns-clause-alone
returns-clause-alone g c = λ a b thread call ready none move same.
    returns-clause-applies g c a b thread call (linked_here a b thread call (view_of c.args.pass.now) c.args.held.now.rows c.args.kit.now ready none) move same
