use Rattle.std.specs.Prelude.{◌≤◌, List}
use Rattle.std.proofs.Common.{sym, subst}
use Rattle.row_table.specs.Passes.{view_of}
use Rattle.machine_plan.specs.declared.kit.Change.{Change}
use Rattle.cursor_apply.specs.Changed.{MayMakeAll, MakesAll}
use Rattle.cursor_apply.proofs.TxnApplied.{may_make, txn_applied}
use Rattle.cursor_apply.proofs.transacting.apply_transaction.Goals as goal

pub make_changes-requires-clause-ready : goal.make_changes-requires-clause-ready
make_changes-requires-clause-ready g c κs within =
    let m = c.requires.ready in
    let w = view_of c.link_transaction.new.pass in
    let staged = c.link_transaction.ensures.links m.0 m.1 m.2 m.3 m.4 m.5 m.6 in
    subst (λ (l : List Change). MayMakeAll l w c.return_slots.new.held.rows) (sym c.as_slice.ensures.value)
    (may_make m.0 m.1 m.2 m.3 (view_of c.args.pass.now) c.args.held.now.rows c.args.kit.now c.args.space m.4 c.requires.done m.5 m.6 w c.link_transaction.new.held.rows staged c.rows.ensures.once
    c.return_frames.new.held.rows c.return_slots.new.held.rows c.return_frames.ensures.back c.return_slots.ensures.back c.return_frames.ensures.places c.return_slots.ensures.places)

pub returns-clause-applies : goal.returns-clause-applies
returns-clause-applies g c = λ a b thread call ready further txn.
    let w = view_of c.link_transaction.new.pass in
    let u = view_of c.make_changes.new.pass in
    let room = ready.room in
    txn_applied a b thread call (view_of c.args.pass.now) c.args.held.now.rows c.args.kit.now c.args.space ready c.requires.done further txn w c.link_transaction.new.held.rows (c.link_transaction.ensures.links a b thread call ready further txn) c.rows.ensures.once
    c.return_frames.new.held.rows c.return_slots.new.held.rows c.return_frames.ensures.back c.return_slots.ensures.back c.return_frames.ensures.places c.return_slots.ensures.places
    u c.make_changes.new.held.rows c.settle.new.kit (subst (λ (l : List Change). MakesAll l w c.return_slots.new.held.rows u c.make_changes.new.held.rows) c.as_slice.ensures.value c.make_changes.ensures.changes)
    (c.settle.ensures.places (record {
      wants = room.wants;
      own_frames = subst (λ n. 4096 ≤ n) (sym c.return_frames.ensures.capacity) room.own_frames;
      own_slots = subst (λ n. 4096 ≤ n) (sym c.return_slots.ensures.capacity) room.own_slots;
      second_frames = room.second_frames;
      second_slots = room.second_slots;
      frames = room.frames;
      slots = room.slots;
      rows = room.rows;
      gone = room.gone;
      changes = room.changes;
    })) c.settle.ensures.idle c.settle.ensures.ungranted c.settle.ensures.seconds
