use Rattle.std.proofs.Common.{ap, ◌∙◌, arith, min}
use Rattle.cursor_apply.proofs.Parts.{is_part}
use Rattle.cursor_apply.proofs.making.part_of.Goals as goal

pub returns : goal.returns
returns c = is_part c.args.place c.args.first c.args.count c.entry_pages-pages.result c.min-from.result c.min-to.result c.min.result c.entry_pages-pages.ensures.value (omega arith)
    (c.min-from.ensures ∙ ap (λ n. min n 512) c.saturating_sub.ensures) (c.min-to.ensures ∙ ap (λ n. min n 512) c.saturating_sub-2.ensures) c.min.ensures
