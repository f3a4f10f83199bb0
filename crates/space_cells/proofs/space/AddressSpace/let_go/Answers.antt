use Rattle.std.proofs.Common.{sym, ap, ◌∙◌}
use Rattle.std.specs.Option.{option_and_then}
use Rattle.std.specs.FinMap as map
use Rattle.page_map.specs.DontNeed.{given_back}
use Rattle.space_cells.specs.Cells.{held_of}
use Rattle.space_cells.proofs.Seen.{held_seen}
use Rattle.space_cells.proofs.Changing.{let_go_cells}
use Rattle.space_cells.proofs.space.AddressSpace.let_go.Goals as goal

pub returns-clause-held : goal.returns-clause-held
returns-clause-held c =
    c.take.ensures.old ∙ sym (held_seen c.self.inside.marks c.self.inside.pages c.self.invariant c.args.page)
    ∙ ap (λ m. option_and_then held_of (map.get m c.args.page)) c.self.view_is

pub returns-clause-cells : goal.returns-clause-cells
returns-clause-cells c =
    let_go_cells c.self.inside.marks c.self.inside.pages c.take.new.pages c.args.page c.take.ensures.pages ∙ ap (given_back c.args.page 1) c.self.view_is
