use Rattle.std.specs.Prelude.{◌≤◌}
use Rattle.std.proofs.Common.{sym, subst}
use Rattle.row_table.specs.Passes.{view_of}
use Rattle.machine_plan.specs.Books.{BookData, state_of}
use Rattle.machine_plan.specs.Kits.{Refs}
use Rattle.cursor_apply.specs.Putting.{pages_of}
use Rattle.cursor_apply.specs.Sharing.{AreFramesAt, MayShare, Shares}
use Rattle.space_apply.proofs.ForkEnd.{two, sources, may_share_own, may_share_new, applied}
use Rattle.space_apply.proofs.forking.apply_fork.Goals as goal

pub copy_marks-requires-clause-two : goal.copy_marks-requires-clause-two
copy_marks-requires-clause-two g c =
    let m = c.requires.ready in
    two m.0 m.1 m.2 m.3 (view_of c.args.pass.now) c.args.held.now.rows c.args.kit.now m.4 c.requires.done m.5 c.args.space c.args.new m.6

pub copy_marks-requires-clause-sources : goal.copy_marks-requires-clause-sources
copy_marks-requires-clause-sources g c =
    let m = c.requires.ready in
    sources m.0 m.1 m.2 m.3 (view_of c.args.pass.now) c.args.held.now.rows c.args.kit.now m.4 c.requires.done m.5 c.args.space c.args.new m.6 (view_of c.link_copy.new.pass) c.link_copy.new.held.rows
    (c.link_copy.ensures.links m.0 m.1 m.2 m.3 m.4 m.5 m.6)

pub share_leaves-requires-clause-ready : goal.share_leaves-requires-clause-ready
share_leaves-requires-clause-ready g c κs within =
    let m = c.requires.ready in
    let w1 = view_of c.link_copy.new.pass in
    let rows2 = c.copy_marks.new.held.rows in
    subst (λ (l : Refs). MayShare c.args.space (pages_of l) (λ (b : BookData). AreFramesAt (state_of b) c.args.space l) w1 rows2) (sym c.as_slice-own_frames.ensures.value)
    (may_share_own m.0 m.1 m.2 m.3 (view_of c.args.pass.now) c.args.held.now.rows c.args.kit.now m.4 c.requires.done m.5 c.args.space c.args.new m.6 w1 c.link_copy.new.held.rows
    (c.link_copy.ensures.links m.0 m.1 m.2 m.3 m.4 m.5 m.6) rows2 c.copy_marks.ensures.marks)

pub share_leaves-requires-2-clause-ready : goal.share_leaves-requires-2-clause-ready
share_leaves-requires-2-clause-ready g c κs within =
    let m = c.requires.ready in
    let w1 = view_of c.link_copy.new.pass in
    let w2 = view_of c.share_leaves.new.pass in
    let rows2 = c.copy_marks.new.held.rows in
    let own = subst (λ (l : Refs). Shares c.args.space (pages_of l) (λ (b : BookData). AreFramesAt (state_of b) c.args.space l) w1 w2 rows2) c.as_slice-own_frames.ensures.value c.share_leaves.ensures.shared in
    subst (λ (l : Refs). MayShare c.args.new (pages_of l) (λ (b : BookData). AreFramesAt (state_of b) c.args.new l) w2 rows2) (sym c.as_slice-frames.ensures.value)
    (may_share_new m.0 m.1 m.2 m.3 (view_of c.args.pass.now) c.args.held.now.rows c.args.kit.now m.4 c.requires.done m.5 c.args.space c.args.new m.6 w1 c.link_copy.new.held.rows
    (c.link_copy.ensures.links m.0 m.1 m.2 m.3 m.4 m.5 m.6) rows2 c.copy_marks.ensures.marks w2 own)

pub returns-clause-applies : goal.returns-clause-applies
returns-clause-applies g c = λ a b thread call ready further copies.
    let w1 = view_of c.link_copy.new.pass in
    let w2 = view_of c.share_leaves.new.pass in
    let w3 = view_of c.share_leaves-2.new.pass in
    let rows2 = c.copy_marks.new.held.rows in
    let own = subst (λ (l : Refs). Shares c.args.space (pages_of l) (λ (k : BookData). AreFramesAt (state_of k) c.args.space l) w1 w2 rows2) c.as_slice-own_frames.ensures.value c.share_leaves.ensures.shared in
    let theirs = subst (λ (l : Refs). Shares c.args.new (pages_of l) (λ (k : BookData). AreFramesAt (state_of k) c.args.new l) w2 w3 rows2) c.as_slice-frames.ensures.value c.share_leaves-2.ensures.shared in
    let r = ready.room in
    applied a b thread call (view_of c.args.pass.now) c.args.held.now.rows c.args.kit.now ready c.requires.done further c.args.space c.args.new copies w1 c.link_copy.new.held.rows
    (c.link_copy.ensures.links a b thread call ready further copies) rows2 c.copy_marks.ensures.marks w2 own w3 theirs c.share_leaves.ensures.words c.share_leaves-2.ensures.words
    c.place_frames.new.held.rows c.place_slots.new.held.rows c.place_frames-2.new.held.rows c.place_slots-2.new.held.rows
    c.place_frames.ensures.back c.place_slots.ensures.back c.place_frames-2.ensures.back c.place_slots-2.ensures.back
    c.place_frames.ensures.places c.place_slots.ensures.places c.place_frames-2.ensures.places c.place_slots-2.ensures.places
    c.settle.new.kit
    (c.settle.ensures.places (record {
      wants = r.wants;
      own_frames = subst (λ n. 4096 ≤ n) (sym c.place_frames.ensures.capacity) r.own_frames;
      own_slots = subst (λ n. 4096 ≤ n) (sym c.place_slots.ensures.capacity) r.own_slots;
      second_frames = r.second_frames;
      second_slots = r.second_slots;
      frames = subst (λ n. 4096 ≤ n) (sym c.place_frames-2.ensures.capacity) r.frames;
      slots = subst (λ n. 4096 ≤ n) (sym c.place_slots-2.ensures.capacity) r.slots;
      rows = r.rows;
      gone = r.gone;
      changes = r.changes;
    })) c.settle.ensures.idle c.settle.ensures.ungranted c.settle.ensures.seconds
