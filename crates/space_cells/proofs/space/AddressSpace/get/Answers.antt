use Rattle.std.proofs.Common.{Some, sym, ap, ◌∙◌}
use Rattle.std.specs.Option.{option_map}
use Rattle.std.specs.FinMap as map
use Rattle.space_cells.specs.Held.{held_at}
use Rattle.space_cells.specs.Cells.{cell_of}
use Rattle.space_cells.specs.Views.{seen}
use Rattle.space_cells.proofs.Seen.{get_cells, over}
use Rattle.space_cells.proofs.space.AddressSpace.get.Goals as goal

pub returns-in_err-mark : goal.returns-in_err-mark
returns-in_err-mark c =
    ap (option_map seen) c.from_residual.ensures
    ∙ ap (over (held_at c.self.inside.pages c.args.page)) c.in_err-mark.ensures
    ∙ sym (get_cells c.self.inside.marks c.self.inside.pages c.args.page)
    ∙ ap (λ m. map.get m c.args.page) c.self.view_is

pub returns : goal.returns
returns c =
    ap (λ held. Some (cell_of c.in_ok-mark.mark held)) c.get-2.ensures.value
    ∙ ap (over (held_at c.self.inside.pages c.args.page)) c.in_ok-mark.ensures
    ∙ sym (get_cells c.self.inside.marks c.self.inside.pages c.args.page)
    ∙ ap (λ m. map.get m c.args.page) c.self.view_is
