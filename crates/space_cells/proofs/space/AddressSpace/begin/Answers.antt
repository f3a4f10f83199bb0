use Rattle.std.proofs.Common.{sym, ap, subst, ◌∙◌}
use Rattle.std.specs.Prelude.{is_some}
use Rattle.std.specs.FinMap as map
use Rattle.space_cells.specs.Longest.{IsBegun}
use Rattle.space_cells.proofs.Seen.{same_some}
use Rattle.space_cells.proofs.LongestRuns.{begun}
use Rattle.space_cells.proofs.space.AddressSpace.begin.Goals as goal

pub start-requires-clause-some : goal.start-requires-clause-some
start-requires-clause-some c =
    sym (same_some c.self.inside.marks c.self.inside.pages c.args.page) ∙ ap (λ m. is_some (map.get m c.args.page)) c.self.view_is ∙ c.requires

pub returns : goal.returns
returns c = subst (λ m. IsBegun m c.args.page c.start.result) c.self.view_is
    (begun c.self.inside.marks c.self.inside.pages c.self.invariant c.args.page c.lowest.result c.start.result c.lowest.ensures c.start.ensures)
