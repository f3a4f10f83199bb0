use Rattle.std.proofs.Common.{◌*◌, sym, ap, ◌∙◌, arith}
use Rattle.std.specs.Option.{option_map}
use Rattle.corten_base.specs.declared.calls.Why.TheVariants as why
use Rattle.page_map.specs.Mapping.{after_ops}
use Rattle.txn_plan.proofs.Judging.{refused_map, refused_protect, found_below, fresh_below}
use Rattle.txn_plan.proofs.judge.refused_after.Goals as goal

pub overflow_mul-result : goal.overflow_mul-result
overflow_mul-result c = omega (arith, fresh_below c.in-Map.fresh _ c.first_page-first.result c.page_count.result c.in-Some.page c.in-Some.ensures, c.first_page-first.ensures.page, c.page_count.ensures.count, c.requires)

pub overflow_mul-result-in-Some-least_after : goal.overflow_mul-result-in-Some-least_after
overflow_mul-result-in-Some-least_after c =
    omega (arith, found_below _ c.first_page-first.result c.page_count.result c.in-Some-least_after.page c.in-Some-least_after.ensures, c.first_page-first.ensures.page, c.page_count.ensures.count, c.requires)

pub returns-in-Some : goal.returns-in-Some
returns-in-Some c =
    ap (option_map (λ page. why.Exists (4096 * page))) c.in-Some.ensures
    ∙ sym (refused_map (after_ops c.args.done.now c.args.cells.now) c.args.op.now _ _ c.first_page-first.ensures.page c.page_count.ensures.count _ _ _ _ _ c.in-Map.is)

pub returns-in-Some-least_after : goal.returns-in-Some-least_after
returns-in-Some-least_after c =
    ap (option_map (λ page. why.Hole (4096 * page))) c.in-Some-least_after.ensures
    ∙ sym (refused_protect (after_ops c.args.done.now c.args.cells.now) c.args.op.now _ _ c.first_page-first.ensures.page c.page_count.ensures.count _ _ _ c.in-Protect.is)
