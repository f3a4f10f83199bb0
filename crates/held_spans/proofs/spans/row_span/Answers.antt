use Rattle.std.proofs.Common.{◌∙◌, ◌/◌, sym, ap, arith}
use Rattle.held_spans.proofs.Told.{entry}
use Rattle.held_spans.proofs.spans.row_span.Goals as goal

pub returns : goal.returns
returns c =
    entry c.args.row.now c.args.page c.span_pages-count.result (omega arith) (omega arith)
    (ap (λ d. c.args.page / d) (sym c.span_pages.ensures.value) ∙ c.if-page-span_pages.false) c.span_pages-count.ensures.value c.get.result.now
    (c.in_ok-status.status, c.in_ok-status.origin) c.get.ensures c.in_ok-status.ensures c.ranges.page.fits
