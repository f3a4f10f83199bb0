use Rattle.std.proofs.Common.{[], ◌∷◌, sym, ap, subst, ◌∙◌}
use Rattle.std.specs.List.{All}
use Rattle.page_runs.specs.Changes.{IsChange}
use Rattle.space_cells.specs.Changes.{cells_after_all}
use Rattle.plain_spaces.proofs.Variants.{ok_from}
use Rattle.txn_plan.proofs.Changed.{after_all, after_only, all_changes}
use Rattle.txn_plan.proofs.committing.make_all.Goals as goal

pub returns-in-len1-clause-cells : goal.returns-in-len1-clause-cells
returns-in-len1-clause-cells c =
    ok_from c.apply.result (λ e. e ∙ ap (λ change. cells_after_all c.args.cells.now (change ∷ [])) c.change_of.ensures ∙ after_only c.args.ops.now c.args.cells.now _ c.in-len1.len_at_least c.in-len1.len_below) c.apply.ensures.cells

pub apply-requires-2-clause-changes : goal.apply-requires-2-clause-changes
apply-requires-2-clause-changes c = subst (λ l. All IsChange l) (sym (c.deref.ensures.value ∙ c.in_ok-changes.ensures)) (all_changes c.args.ops.now c.requires.span c.requires.index)

pub returns-clause-cells : goal.returns-clause-cells
returns-clause-cells c =
    ok_from c.apply-2.result (λ e. e ∙ ap (cells_after_all c.args.cells.now) (c.deref.ensures.value ∙ c.in_ok-changes.ensures) ∙ after_all c.args.ops.now c.args.cells.now) c.apply-2.ensures.cells
