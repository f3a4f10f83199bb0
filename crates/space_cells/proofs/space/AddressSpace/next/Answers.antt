use Rattle.std.proofs.Common.{◌-◌, ap, ◌∙◌}
use Rattle.std.specs.Prelude.{is_some}
use Rattle.std.specs.FinMap.{get}
use Rattle.page_map.specs.Change.{least}
use Rattle.space_cells.proofs.Leasts.{least_some}
use Rattle.space_cells.proofs.space.AddressSpace.next.Goals as goal

pub returns : goal.returns
returns c =
    c.next.ensures ∙ least_some c.self.inside.marks c.self.inside.pages c.args.first (c.args.end - c.args.first)
    ∙ ap (λ m. least c.args.first (c.args.end - c.args.first) (λ page. is_some (get m page))) c.self.view_is
