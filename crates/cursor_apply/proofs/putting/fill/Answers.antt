use Rattle.std.proofs.Common.{◌∙◌, ap}
use Rattle.std.specs.Prelude.{slice_set}
use Rattle.std.proofs.lemmas.List.{set-set}
use Rattle.row_cells.specs.declared.Cell.TheVariants.{Invalid}
use Rattle.cursor_apply.proofs.putting.fill.Goals as goal

pub returns : goal.returns
returns c = (
  c.replace.result,
  c.replace.ensures.before,
  c.replace-2.ensures.after ∙ ap (λ xs. slice_set xs c.args.index c.filled-cell.result) c.replace.ensures.after ∙ set-set c.args.cells.now c.args.index Invalid c.filled-cell.result ∙ ap (slice_set c.args.cells.now c.args.index) c.filled-cell.ensures,
)
