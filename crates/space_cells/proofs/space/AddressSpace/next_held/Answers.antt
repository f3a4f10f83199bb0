use Rattle.std.proofs.Common.{◌-◌, ap, ◌∙◌}
use Rattle.page_map.specs.Change.{earliest}
use Rattle.space_cells.specs.Cells.{numbered_page}
use Rattle.space_cells.proofs.Leasts.{is_next_held}
use Rattle.space_cells.proofs.space.AddressSpace.next_held.Goals as goal

pub returns : goal.returns
returns c =
    is_next_held c.self.inside.marks c.self.inside.pages c.self.invariant c.args.first c.args.end c.requires c.first_in.result c.first_in.ensures.some c.first_in.ensures.none
    ∙ ap (λ m. earliest c.args.first (c.args.end - c.args.first) (numbered_page m)) c.self.view_is
