use Rattle.std.proofs.Common.{ap, ◌∙◌}
use Rattle.std.specs.Option.{option_map}
use Rattle.page_map.specs.Change.{change}
use Rattle.space_cells.specs.Cells.{renumbered}
use Rattle.space_cells.proofs.Changing.{renumbered_cells}
use Rattle.space_cells.proofs.space.AddressSpace.set_number.Goals as goal

pub returns : goal.returns
returns c =
    renumbered_cells c.self.inside.marks c.self.inside.pages c.renumber.new.pages c.args.page c.args.number c.renumber.ensures
    ∙ ap (λ m. change m c.args.page 1 (λ _. option_map (renumbered c.args.number))) c.self.view_is
