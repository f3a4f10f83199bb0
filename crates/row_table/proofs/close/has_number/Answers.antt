use Rattle.std.proofs.Common.{rules, tests, ◌==◌, ◌∙◌}
use Rattle.std.proofs.lemmas.Iterator.{YieldsList-from_slice}
use Rattle.std.proofs.lemmas.Iterator.Search.{any_from_yields_List}
use Rattle.walk_core.proofs.RowLists.{list_any-row}
use Rattle.row_table.specs.declared.pass.Pass.{Pass}
use Rattle.row_table.specs.Passes.{number_of, model_of, iron_model}
use Rattle.row_table.proofs.close.has_number.Goals as goal

pub returns : goal.returns
unfolding model_of iron_model
returns g c =
    any_from_yields_List (λ (p : Pass g.row.P.Denot g.row.P-Row.Denot g.row.P-Book.Denot g.row.P-Kit.Denot g.row.P-Entry.Denot g.P.Plan). number_of p == c.args.number) _ _ _ c.any.ensures.ran (YieldsList-from_slice c.args.passes.now cc) (λ x b q k. search (rules, tests))
    ∙ list_any-row (λ (p : Pass g.row.P.Denot g.row.P-Row.Denot g.row.P-Book.Denot g.row.P-Kit.Denot g.row.P-Entry.Denot g.P.Plan). number_of p) c.args.number c.args.passes.now
