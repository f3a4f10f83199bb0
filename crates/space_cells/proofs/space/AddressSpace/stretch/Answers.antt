use Rattle.std.proofs.Common.{min, ap, subst, ◌∙◌}
use Rattle.page_map.specs.Cutting.{IsPiece}
use Rattle.space_cells.proofs.Stretching.{no_held, some_held}
use Rattle.space_cells.proofs.space.AddressSpace.stretch.Goals as goal

pub returns-in-Some : goal.returns-in-Some
returns-in-Some c = subst (λ m. IsPiece (λ count. c.args.first) (λ count. count) m c.args.first c.args.end c.min.result) c.self.view_is
    (some_held c.self.inside.marks c.self.inside.pages c.self.invariant c.args.first c.args.end c.stretch-alike.result c.stretch-alike.ensures c.in-Some.page _ c.in-Some.ensures.some c.min.result (c.min.ensures ∙ ap (min c.stretch-alike.result) c.max.ensures))

pub returns-in-None : goal.returns-in-None
returns-in-None c = subst (λ m. IsPiece (λ count. c.args.first) (λ count. count) m c.args.first c.args.end c.stretch-alike.result) c.self.view_is
    (no_held c.self.inside.marks c.self.inside.pages c.self.invariant c.args.first c.args.end c.stretch-alike.result c.stretch-alike.ensures c.in-None.ensures.none)
