use Rattle.std.proofs.Common.{List, ℕ, [], Option, ap, ◌∙◌}
use Rattle.std.specs.Option.{option_map_or}
use Rattle.std.specs.FinMap as map
use Rattle.space_cells.specs.declared.held.HeldPage.{HeldPage}
use Rattle.space_cells.specs.Cells.{bytes_of, framed}
use Rattle.space_cells.proofs.Seen.{bytes_seen}
use Rattle.space_cells.proofs.space.AddressSpace.bytes.Goals as goal

abbrev bytes_under : Option HeldPage → List ℕ
bytes_under held = option_map_or (λ held. framed held.number held.bytes) held []

pub returns-in-Some : goal.returns-in-Some
returns-in-Some c =
    c.frame_bytes.ensures ∙ ap bytes_under c.in-Some.ensures.value
    ∙ bytes_seen c.self.inside.marks c.self.inside.pages c.self.invariant c.args.page ∙ ap (λ m. bytes_of (map.get m c.args.page)) c.self.view_is

pub returns-in-None : goal.returns-in-None
returns-in-None c =
    ap bytes_under c.in-None.ensures.value
    ∙ bytes_seen c.self.inside.marks c.self.inside.pages c.self.invariant c.args.page ∙ ap (λ m. bytes_of (map.get m c.args.page)) c.self.view_is
