use Rattle.std.proofs.Common.{sym, subst}
use Rattle.space_cells.specs.Cells.{cells_of}
use Rattle.space_cells.specs.Walking.{numbers_of, IsWalk}
use Rattle.space_cells.proofs.Walking.{walk_begun}
use Rattle.space_cells.proofs.space.AddressSpace.held_pages.Goals as goal

pub returns : goal.returns
returns c =
    subst (λ m. IsWalk m 0 (numbers_of c.iter.result)) c.self.view_is
    (subst (λ es. IsWalk (cells_of c.self.inside.marks c.self.inside.pages) 0 (numbers_of es)) (sym c.iter.ensures.rest)
    (walk_begun c.self.inside.marks c.self.inside.pages c.self.invariant c.iter.ensures.ordered))
