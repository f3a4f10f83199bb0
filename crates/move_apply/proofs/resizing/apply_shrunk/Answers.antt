use Rattle.std.specs.Prelude.{false, List, length, slice_index_or}
use Rattle.std.proofs.Common.{sym, ◌∙◌, ap, subst, arith}
use Rattle.corten_base.specs.declared.calls.Backing.TheVariants.{Zero}
use Rattle.corten_base.specs.declared.calls.TxnOp.TheVariants.{Map}
use Rattle.row_table.specs.Passes.{view_of}
use Rattle.machine_plan.specs.declared.kit.Change.{Change}
use Rattle.machine_plan.specs.declared.kit.Change.TheVariants.{Op}
use Rattle.cursor_apply.specs.Changed.{MayChangeBy, ChangesBy}
use Rattle.move_apply.specs.Resizing.{clearing}
use Rattle.move_apply.proofs.Shrunk.{two_changes, second_change, may_clear, shrink_applied}
use Rattle.move_apply.proofs.resizing.apply_shrunk.Goals as goal

-- what stands behind the end of a list
abbrev no_change : Change
no_change = Op (Map 0 false 0 (record { read = false; write = false; exec = false }) Zero)

pub bounds-changes-1 : goal.bounds-changes-1
bounds-changes-1 g c =
    let r = c.requires.ready in
    let two = two_changes r.0 r.1 r.2 r.3 r.4 r.5 r.6 (view_of c.args.pass.now) c.args.held.now.rows c.args.kit.now r.8 in
    let long = ap length c.as_slice-changes.ensures.value in
    omega (arith, two, long)

pub clear_left-requires-clause-ready : goal.clear_left-requires-clause-ready
clear_left-requires-clause-ready g c κs within =
    let r = c.requires.ready in
    let v = view_of c.args.pass.now in
    let second = ap (λ (l : List Change). slice_index_or l 1 no_change) c.as_slice-changes.ensures.value ∙ second_change r.0 r.1 r.2 r.3 r.4 r.5 r.6 v c.args.held.now.rows c.args.kit.now r.8 no_change in
    subst (λ (x : Change). MayChangeBy (clearing x) v c.args.held.now.rows) (sym second) (may_clear r.0 r.1 r.2 r.3 r.4 r.5 r.6 v c.args.held.now.rows c.args.kit.now r.8 r.7)

pub returns-clause-applies : goal.returns-clause-applies
returns-clause-applies g c = λ a b thread space at old_len new_len less is.
    let v = view_of c.args.pass.now in
    let w = view_of c.clear_left.new.pass in
    let second = ap (λ (l : List Change). slice_index_or l 1 no_change) c.as_slice-changes.ensures.value ∙ second_change a b thread space at old_len new_len v c.args.held.now.rows c.args.kit.now is no_change in
    shrink_applied a b thread space at old_len new_len v c.args.held.now.rows c.args.kit.now is less w c.clear_left.new.held.rows c.settle.new.kit
    (subst (λ (x : Change). ChangesBy (clearing x) v c.args.held.now.rows w c.clear_left.new.held.rows) second c.clear_left.ensures.changes)
    (c.settle.ensures.places is.room) c.settle.ensures.idle c.settle.ensures.ungranted c.settle.ensures.seconds
