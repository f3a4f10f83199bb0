use Rattle.std.proofs.Common.{sym, ap, subst, ◌∙◌}
use Rattle.std.specs.List.{All, flat_map}
use Rattle.std.proofs.lemmas.Result.{IfOk-weaker}
use Rattle.table_place.specs.Place.{cut_by}
use Rattle.page_map.specs.Tables.{missing}
use Rattle.plain_counts.specs.declared.cut.Pages.{Pages}
use Rattle.plain_counts.specs.Cut.{IsShort}
use Rattle.plain_counts.specs.Levels.{Lists}
use Rattle.txn_plan.proofs.Needing.{cut_ranges, short_ranges}
use Rattle.txn_plan.proofs.need.missing_tables.Goals as goal

pub missing_cut-requires-clause-short : goal.missing_cut-requires-clause-short
missing_cut-requires-clause-short c = subst (λ l. All IsShort l) (sym (c.deref.ensures.value ∙ c.in_ok-ranges.ensures)) (short_ranges c.args.ops.now c.requires.span)

pub returns : goal.returns
returns c = IfOk-weaker c.missing_cut.result _ _
    (λ found lists.
    subst (λ l. Lists (missing l c.args.tables.now) found.items)
    (ap (flat_map (λ (r : Pages). cut_by c.args.levels c.args.space r.first r.count)) (c.deref.ensures.value ∙ c.in_ok-ranges.ensures) ∙ cut_ranges c.args.levels c.args.space c.args.ops.now) lists)
    c.missing_cut.ensures
