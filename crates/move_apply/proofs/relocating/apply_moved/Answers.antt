use Rattle.std.specs.Prelude.{◌≤◌, List}
use Rattle.std.proofs.Common.{sym, subst, arith}
use Rattle.row_table.specs.Passes.{view_of}
use Rattle.machine_plan.specs.declared.kit.Change.{Change}
use Rattle.machine_plan.specs.Books.{BookData, state_of}
use Rattle.machine_plan.specs.Kits.{Refs}
use Rattle.cursor_apply.specs.Changed.{ChangesBy, MakesAll, MayChangeBy, MayMakeAll}
use Rattle.cursor_apply.specs.Putting.{pages_of}
use Rattle.move_apply.specs.Resizing.{clearing}
use Rattle.cursor_apply.specs.Sharing.{AreFramesAt, MayShare, Shares}
use Rattle.move_apply.proofs.MoveBase.{may_map, may_clear}
use Rattle.move_apply.proofs.MoveEnd.{applied, clears_is, makes_is, may_share, two}
use Rattle.move_apply.proofs.relocating.apply_moved.Goals as goal

pub index-change-requires : goal.index-change-requires
index-change-requires g c =
    let r = c.requires.ready in
    let e = two r.0 r.1 r.2 c.args.space r.3 r.4 r.5 (view_of c.args.pass.now) c.args.held.now.rows c.args.kit.now r.6 in
    let l = c.args.kit.now.changes.ok.0 in
    omega (arith, e, l)

pub index-given_up-requires : goal.index-given_up-requires
index-given_up-requires g c =
    let r = c.requires.ready in
    let e = two r.0 r.1 r.2 c.args.space r.3 r.4 r.5 (view_of c.args.pass.now) c.args.held.now.rows c.args.kit.now r.6 in
    let l = c.args.kit.now.changes.ok.0 in
    omega (arith, e, l)

pub map_pieces-requires-clause-ready : goal.map_pieces-requires-clause-ready
map_pieces-requires-clause-ready g c κs within =
    let r = c.requires.ready in
    let v = view_of c.args.pass.now in
    let rows = c.args.held.now.rows in
    subst (λ (l : List Change). MayMakeAll l v rows)
    (sym (makes_is r.0 r.1 r.2 c.args.space r.3 r.4 r.5 v rows c.args.kit.now r.6 c.index-change.result.now c.index-change.ensures c.new_place-to.result c.new_place-to.ensures c.as_slice-pieces.result.now c.as_slice-pieces.ensures.value))
    (may_map r.0 r.1 r.2 c.args.space r.3 r.4 r.5 v rows c.args.kit.now r.6)

pub clear_left-requires-clause-ready : goal.clear_left-requires-clause-ready
clear_left-requires-clause-ready g c κs within =
    let r = c.requires.ready in
    let v = view_of c.args.pass.now in
    let rows = c.args.held.now.rows in
    let w1 = view_of c.map_pieces.new.pass in
    let rows1 = c.map_pieces.new.held.rows in
    let makes = subst (λ (l : List Change). MakesAll l v rows w1 rows1)
    (makes_is r.0 r.1 r.2 c.args.space r.3 r.4 r.5 v rows c.args.kit.now r.6 c.index-change.result.now c.index-change.ensures c.new_place-to.result c.new_place-to.ensures c.as_slice-pieces.result.now c.as_slice-pieces.ensures.value) c.map_pieces.ensures.changes in
    subst (λ (x : Change). MayChangeBy (clearing x) w1 rows1) (sym (clears_is r.0 r.1 r.2 c.args.space r.3 r.4 r.5 v rows c.args.kit.now r.6 c.index-given_up.result.now c.index-given_up.ensures))
    (may_clear r.0 r.1 r.2 c.args.space r.3 r.4 r.5 v rows c.args.kit.now r.6 w1 rows1 makes)

pub share_leaves-requires-clause-ready : goal.share_leaves-requires-clause-ready
share_leaves-requires-clause-ready g c κs within =
    let r = c.requires.ready in
    let v = view_of c.args.pass.now in
    let rows = c.args.held.now.rows in
    let w1 = view_of c.map_pieces.new.pass in
    let rows1 = c.map_pieces.new.held.rows in
    let w2 = view_of c.clear_left.new.pass in
    let rows2 = c.clear_left.new.held.rows in
    let makes = subst (λ (l : List Change). MakesAll l v rows w1 rows1)
    (makes_is r.0 r.1 r.2 c.args.space r.3 r.4 r.5 v rows c.args.kit.now r.6 c.index-change.result.now c.index-change.ensures c.new_place-to.result c.new_place-to.ensures c.as_slice-pieces.result.now c.as_slice-pieces.ensures.value) c.map_pieces.ensures.changes in
    let changes = subst (λ (x : Change). ChangesBy (clearing x) w1 rows1 w2 rows2) (clears_is r.0 r.1 r.2 c.args.space r.3 r.4 r.5 v rows c.args.kit.now r.6 c.index-given_up.result.now c.index-given_up.ensures) c.clear_left.ensures.changes in
    subst (λ (l : Refs). MayShare c.args.space (pages_of l) (λ (b : BookData). AreFramesAt (state_of b) c.args.space l) w2 rows2) (sym c.as_slice-own_frames.ensures.value)
    (may_share r.0 r.1 r.2 c.args.space r.3 r.4 r.5 v rows c.args.kit.now r.6 w1 rows1 makes w2 rows2 changes)

pub returns-clause-applies : goal.returns-clause-applies
returns-clause-applies g c = λ a b thread at old_len new_len m.
    let v = view_of c.args.pass.now in
    let rows = c.args.held.now.rows in
    let w1 = view_of c.map_pieces.new.pass in
    let rows1 = c.map_pieces.new.held.rows in
    let w2 = view_of c.clear_left.new.pass in
    let rows2 = c.clear_left.new.held.rows in
    let w3 = view_of c.share_leaves.new.pass in
    let makes = subst (λ (l : List Change). MakesAll l v rows w1 rows1)
    (makes_is a b thread c.args.space at old_len new_len v rows c.args.kit.now m c.index-change.result.now c.index-change.ensures c.new_place-to.result c.new_place-to.ensures c.as_slice-pieces.result.now c.as_slice-pieces.ensures.value) c.map_pieces.ensures.changes in
    let changes = subst (λ (x : Change). ChangesBy (clearing x) w1 rows1 w2 rows2) (clears_is a b thread c.args.space at old_len new_len v rows c.args.kit.now m c.index-given_up.result.now c.index-given_up.ensures) c.clear_left.ensures.changes in
    let shares = subst (λ (l : Refs). Shares c.args.space (pages_of l) (λ (k : BookData). AreFramesAt (state_of k) c.args.space l) w2 w3 rows2) c.as_slice-own_frames.ensures.value c.share_leaves.ensures.shared in
    let room = m.resizable.room in
    applied a b thread c.args.space at old_len new_len v rows c.args.kit.now m w1 rows1 makes w2 rows2 changes w3 shares c.share_leaves.ensures.words
    c.place_frames.new.held.rows c.place_slots.new.held.rows c.place_frames.ensures.back c.place_slots.ensures.back c.place_frames.ensures.places c.place_slots.ensures.places
    c.settle.new.kit
    (c.settle.ensures.places (record {
      wants = room.wants;
      own_frames = subst (λ n. 4096 ≤ n) (sym c.place_frames.ensures.capacity) room.own_frames;
      own_slots = subst (λ n. 4096 ≤ n) (sym c.place_slots.ensures.capacity) room.own_slots;
      second_frames = room.second_frames;
      second_slots = room.second_slots;
      frames = room.frames;
      slots = room.slots;
      rows = room.rows;
      gone = room.gone;
      changes = room.changes;
    })) c.settle.ensures.idle c.settle.ensures.ungranted c.settle.ensures.seconds
