use Rattle.std.proofs.Common.{ap, ◌∙◌}
use Rattle.space_cells.specs.Cells.{cells_of}
use Rattle.space_cells.proofs.Seen.{same_cells}
use Rattle.space_cells.proofs.space.AddressSpace.copy.Goals as goal

pub returns : goal.returns
returns c =
    ap (λ m. cells_of m c.in_ok-copy_all.field-0) c.in_ok-copy.ensures
    ∙ same_cells c.self.inside.marks c.self.inside.pages c.in_ok-copy_all.field-0 c.in_ok-copy_all.ensures ∙ c.self.view_is
