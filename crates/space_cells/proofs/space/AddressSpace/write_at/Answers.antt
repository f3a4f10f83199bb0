use Rattle.std.proofs.Common.{ap, ◌∙◌}
use Rattle.std.specs.Option.{option_map}
use Rattle.page_map.specs.Change.{change}
use Rattle.space_cells.specs.Cells.{overwritten}
use Rattle.space_cells.proofs.Changing.{overwritten_cells}
use Rattle.space_cells.proofs.space.AddressSpace.write_at.Goals as goal

pub returns : goal.returns
returns c =
    overwritten_cells c.self.inside.marks c.self.inside.pages c.write.new.pages c.args.page c.args.place c.args.bytes.now c.write.ensures
    ∙ ap (λ m. change m c.args.page 1 (λ _. option_map (overwritten c.args.place c.args.bytes.now))) c.self.view_is
