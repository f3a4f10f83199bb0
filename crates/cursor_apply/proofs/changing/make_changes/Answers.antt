use Rattle.std.specs.Prelude.{ℕ, ◌+◌, ◌<◌, ◌≤◌, false, List, [], ◌∷◌, drop, length, slice_index_or}
use Rattle.std.proofs.Common.{refl, ◌∙◌, subst, arith}
use Rattle.corten_base.specs.declared.calls.Backing.TheVariants.{Zero}
use Rattle.corten_base.specs.declared.calls.TxnOp.TheVariants.{Map}
use Rattle.row_table.specs.Passes.{view_of}
use Rattle.machine_plan.specs.declared.kit.Change.{Change}
use Rattle.machine_plan.specs.declared.kit.Change.TheVariants.{Op}
use Rattle.machine_plan.specs.Books.{state_of}
use Rattle.cursor_apply.specs.Changed.{all_clean}
use Rattle.cursor_apply.proofs.Agreed.{agreed}
use Rattle.cursor_apply.proofs.StepsMade.{StepsLeft, next_left, none_left, steps_begun, steps_base, steps_next, steps_ended}
use Rattle.cursor_apply.proofs.changing.make_changes.Goals as goal

-- what stands behind the end of a list
abbrev no_change : Change
no_change = Op (Map 0 false 0 (record { read = false; write = false; exec = false }) Zero)

pub loop-change-init : goal.loop-change-init
loop-change-init g c = record {
  table = refl;
  same = refl;
  room = refl;
  left = λ b st now space is_old base steps. steps_begun b st now space is_old c.args.changes.now (view_of c.args.pass.now) c.args.held.now.rows base steps;
}

pub make_change-requires-clause-ready : goal.make_change-requires-clause-ready
make_change-requires-clause-ready g c κs within =
    let r = c.requires.ready in
    let changes = c.args.changes.now in
    let at = c.loop-change.change-index in
    let inside : at < length changes = omega arith in
    let v = view_of c.args.pass.now in
    let w = view_of c.loop-change.pass in
    let left = subst (λ (l : List Change). StepsLeft r.0 r.1 r.2 r.3 r.4 changes v c.args.held.now.rows l w c.loop-change.held.rows) (next_left changes at no_change inside)
    (c.loop-change.invariant.left r.0 r.1 r.2 r.3 r.4 r.5 r.6) in
    (r.0, left.mid, left.steps.0, r.3, left.old, steps_base r.0 r.1 r.2 r.3 r.4 changes v c.args.held.now.rows r.5 w c.loop-change.held.rows (slice_index_or changes at no_change ∷ drop (at + 1) changes) left, left.steps.1)

pub loop-change-preserved : goal.loop-change-preserved
loop-change-preserved g c =
    let changes = c.args.changes.now in
    let at = c.loop-change.change-index in
    let inside : at < length changes = omega arith in
    let v = view_of c.args.pass.now in
    let w = view_of c.loop-change.pass in
    record {
      table = c.make_change.ensures.table ∙ c.loop-change.invariant.table;
      same = c.make_change.ensures.same ∙ c.loop-change.invariant.same;
      room = c.make_change.ensures.room ∙ c.loop-change.invariant.room;
      left = λ b st now space is_old base steps.
          let left = subst (λ (l : List Change). StepsLeft b st now space is_old changes v c.args.held.now.rows l w c.loop-change.held.rows) (next_left changes at no_change inside)
          (c.loop-change.invariant.left b st now space is_old base steps) in
          let still = steps_base b st now space is_old changes v c.args.held.now.rows base w c.loop-change.held.rows (slice_index_or changes at no_change ∷ drop (at + 1) changes) left in
          steps_next b st now space is_old changes v c.args.held.now.rows base w c.loop-change.held.rows (slice_index_or changes at no_change) (drop (at + 1) changes) left
          (view_of c.make_change.new.pass) c.make_change.new.held.rows (c.make_change.ensures.changes b left.mid left.steps.0 space left.old still left.steps.1);
    }

pub returns-clause-changes : goal.returns-clause-changes
returns-clause-changes g c = λ b st now space is_old base steps.
    let changes = c.args.changes.now in
    let all : length changes ≤ c.loop-change.change-index = omega arith in
    let v = view_of c.args.pass.now in
    let w = view_of c.loop-change.pass in
    steps_ended b st now space is_old changes v c.args.held.now.rows base w c.loop-change.held.rows
    (subst (λ (l : List Change). StepsLeft b st now space is_old changes v c.args.held.now.rows l w c.loop-change.held.rows) (none_left changes c.loop-change.change-index all)
    (c.loop-change.invariant.left b st now space is_old base steps))

pub returns-clause-agree : goal.returns-clause-agree
returns-clause-agree g c = λ b st space is_old base steps none.
    agreed b (all_clean c.args.changes.now is_old) none st space is_old (view_of c.args.pass.now) c.args.held.now.rows (view_of c.loop-change.pass) c.loop-change.held.rows base
    (returns-clause-changes g c b st (state_of b) space is_old base steps)
