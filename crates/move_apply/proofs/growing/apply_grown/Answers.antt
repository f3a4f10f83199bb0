use Rattle.std.specs.Prelude.{false, List, length, slice_index_or}
use Rattle.std.proofs.Common.{sym, ◌∙◌, ap, subst, arith}
use Rattle.corten_base.specs.declared.calls.Backing.TheVariants.{Zero}
use Rattle.corten_base.specs.declared.calls.TxnOp.TheVariants.{Map}
use Rattle.row_table.specs.Passes.{view_of}
use Rattle.machine_plan.specs.declared.kit.Change.{Change}
use Rattle.machine_plan.specs.declared.kit.Change.TheVariants.{Op}
use Rattle.move_apply.specs.Growing.{MayGrowBy, GrowsBy}
use Rattle.move_apply.proofs.Grown.{may_grow, grow_applied}
use Rattle.move_apply.proofs.Shrunk.{two_changes, first_change}
use Rattle.move_apply.proofs.growing.apply_grown.Goals as goal

-- what stands behind the end of a list
abbrev no_change : Change
no_change = Op (Map 0 false 0 (record { read = false; write = false; exec = false }) Zero)

pub bounds-changes-0 : goal.bounds-changes-0
bounds-changes-0 g c =
    let r = c.requires.ready in
    let two = two_changes r.0 r.1 r.2 r.3 r.4 r.5 r.6 (view_of c.args.pass.now) c.args.held.now.rows c.args.kit.now r.7.resizable in
    let long = ap length c.as_slice-changes.ensures.value in
    omega (arith, two, long)

pub grow_by-requires-clause-ready : goal.grow_by-requires-clause-ready
grow_by-requires-clause-ready g c κs within =
    let r = c.requires.ready in
    let v = view_of c.args.pass.now in
    let first = ap (λ (l : List Change). slice_index_or l 0 no_change) c.as_slice-changes.ensures.value ∙ first_change r.0 r.1 r.2 r.3 r.4 r.5 r.6 v c.args.held.now.rows c.args.kit.now r.7.resizable no_change in
    subst (λ (x : Change). MayGrowBy x v c.args.held.now.rows) (sym first) (may_grow r.0 r.1 r.2 r.3 r.4 r.5 r.6 v c.args.held.now.rows c.args.kit.now r.7)

pub returns-clause-applies : goal.returns-clause-applies
returns-clause-applies g c = λ a b thread space at old_len new_len is.
    let v = view_of c.args.pass.now in
    let w = view_of c.grow_by.new.pass in
    let first = ap (λ (l : List Change). slice_index_or l 0 no_change) c.as_slice-changes.ensures.value ∙ first_change a b thread space at old_len new_len v c.args.held.now.rows c.args.kit.now is.resizable no_change in
    grow_applied a b thread space at old_len new_len v c.args.held.now.rows c.args.kit.now is w c.grow_by.new.held.rows c.settle.new.kit
    (subst (λ (x : Change). GrowsBy x v c.args.held.now.rows w c.grow_by.new.held.rows) first c.grow_by.ensures.changes)
    (c.settle.ensures.places is.resizable.room) c.settle.ensures.idle c.settle.ensures.ungranted c.settle.ensures.seconds
