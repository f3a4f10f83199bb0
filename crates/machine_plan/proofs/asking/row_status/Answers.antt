use Rattle.std.proofs.Common.{◌∙◌, ◌/◌, sym, ap, arith}
use Rattle.machine_plan.proofs.Asked.{tells}
use Rattle.machine_plan.proofs.asking.row_status.Goals as goal

pub returns : goal.returns
returns c =
    tells c.args.row.now c.args.page c.span_pages-below.result (omega arith) (omega arith)
    (ap (λ d. c.args.page / d) (sym c.span_pages.ensures.value) ∙ c.if-page-span_pages.false) c.span_pages-below.ensures.value c.get.result.now c.get.ensures c.cell_status.result c.cell_status.ensures
