use Rattle.std.proofs.Common.{List, ℕ, sym, subst}
use Rattle.row_layout.specs.declared.places.Layout.{Layout}
use Rattle.row_table.specs.Passes.{view_of, layout_of}
use Rattle.range_cursor.specs.Plans.{IsPlannable}
use Rattle.call_steps.proofs.Prepared.{few_refs, has_planned}
use Rattle.call_steps.proofs.preparing.prepare.Goals as goal

pub plan-requires-clause-few : goal.plan-requires-clause-few
plan-requires-clause-few c =
    let h = c.requires.covered in
    few_refs (layout_of c.args.iron.now) c.args.thread c.args.call.now h.0 (view_of c.args.pass.now) c.args.book.now c.args.held.now.rows h.1 h.2 c.the_counts_of_a_book_are_those_of_its_state.ensures c.requires.levels

pub returns-clause-plans : goal.returns-clause-plans
returns-clause-plans c =
    let h = c.requires.covered in
    let s = c.sweep_for.ensures in
    has_planned (layout_of c.args.iron.now) c.args.thread c.args.call.now h.0 (view_of c.args.pass.now) c.args.book.now c.args.held.now.rows h.1 h.2 c.the_counts_of_a_book_are_those_of_its_state.ensures c.requires.levels
    (view_of c.sweep_for.new.pass) c.sweep_for.new.book c.args.kit.now c.plan.new.held.rows c.plan.new.kit c.the_counts_of_a_book_are_those_of_its_state-2.ensures c.requires.prepared
    (λ b ok. c.plan.ensures.plans b (subst (λ (fs : List (List ℕ)). IsPlannable b c.args.thread c.args.call.now c.layout.result.now.levels fs c.args.held.now.rows c.args.kit.now) (sym c.shelf.ensures)
    (subst (λ (k : Layout). IsPlannable b c.args.thread c.args.call.now k.levels c.args.book.now.files c.args.held.now.rows c.args.kit.now) (sym c.layout.ensures.layout) ok)))
    s.samples s.swept s.sum s.blockers s.blocked
