use Rattle.std.specs.Prelude.{false, length}
use Rattle.std.proofs.Common.{sym, ◌∙◌, ap, arith}
use Rattle.corten_base.specs.declared.calls.Backing.TheVariants.{Zero}
use Rattle.corten_base.specs.declared.calls.TxnOp.TheVariants.{Map}
use Rattle.row_table.specs.Passes.{view_of}
use Rattle.machine_plan.specs.declared.kit.Change.{Change}
use Rattle.machine_plan.specs.declared.kit.Change.TheVariants.{Op}
use Rattle.move_apply.proofs.Shrunk.{two_changes}
use Rattle.move_apply.proofs.Stayed.{longer_is, is_growable, is_shorter}
use Rattle.move_apply.proofs.staying.apply_stayed.Goals as goal

-- what stands behind the end of a list
abbrev no_change : Change
no_change = Op (Map 0 false 0 (record { read = false; write = false; exec = false }) Zero)

pub bounds-changes-0 : goal.bounds-changes-0
bounds-changes-0 g c =
    let r = c.requires.ready in
    let two = two_changes r.0 r.1 r.2 r.3 r.4 r.5 r.6 (view_of c.args.pass.now) c.args.held.now.rows c.args.kit.now r.7.resizable in
    let long = ap length c.as_slice-changes.ensures.value in
    omega (arith, two, long)

pub apply_grown-requires-clause-ready : goal.apply_grown-requires-clause-ready
apply_grown-requires-clause-ready g c κs within =
    let r = c.requires.ready in
    let v = view_of c.args.pass.now in
    let longer = longer_is r.0 r.1 r.2 r.3 r.4 r.5 r.6 v c.args.held.now.rows c.args.kit.now r.7 c.as_slice-changes.result.now no_change c.as_slice-changes.ensures.value in
    (r.0, r.1, r.2, r.3, r.4, r.5, r.6, is_growable r.0 r.1 r.2 r.3 r.4 r.5 r.6 v c.args.held.now.rows c.args.kit.now r.7 (sym longer ∙ (sym c.is_longer.ensures ∙ c.if-is_longer.true)))

pub apply_shrunk-requires-clause-ready : goal.apply_shrunk-requires-clause-ready
apply_shrunk-requires-clause-ready g c κs within =
    let r = c.requires.ready in
    let v = view_of c.args.pass.now in
    let longer = longer_is r.0 r.1 r.2 r.3 r.4 r.5 r.6 v c.args.held.now.rows c.args.kit.now r.7 c.as_slice-changes.result.now no_change c.as_slice-changes.ensures.value in
    (r.0, r.1, r.2, r.3, r.4, r.5, r.6, is_shorter r.0 r.1 r.2 r.3 r.4 r.5 r.6 v c.args.held.now.rows c.args.kit.now r.7 (sym longer ∙ (sym c.is_longer.ensures ∙ c.if-is_longer.false)), r.7.resizable)

pub returns-then-is_longer-clause-applies : goal.returns-then-is_longer-clause-applies
returns-then-is_longer-clause-applies g c = λ a b thread space at old_len new_len is.
    let v = view_of c.args.pass.now in
    let longer = longer_is a b thread space at old_len new_len v c.args.held.now.rows c.args.kit.now is c.as_slice-changes.result.now no_change c.as_slice-changes.ensures.value in
    c.apply_grown.ensures.applies a b thread space at old_len new_len (is_growable a b thread space at old_len new_len v c.args.held.now.rows c.args.kit.now is (sym longer ∙ (sym c.is_longer.ensures ∙ c.if-is_longer.true)))

pub returns-else-is_longer-clause-applies : goal.returns-else-is_longer-clause-applies
returns-else-is_longer-clause-applies g c = λ a b thread space at old_len new_len is.
    let v = view_of c.args.pass.now in
    let longer = longer_is a b thread space at old_len new_len v c.args.held.now.rows c.args.kit.now is c.as_slice-changes.result.now no_change c.as_slice-changes.ensures.value in
    c.apply_shrunk.ensures.applies a b thread space at old_len new_len (is_shorter a b thread space at old_len new_len v c.args.held.now.rows c.args.kit.now is (sym longer ∙ (sym c.is_longer.ensures ∙ c.if-is_longer.false))) is.resizable
