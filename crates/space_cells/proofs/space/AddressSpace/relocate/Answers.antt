use Rattle.std.proofs.Common.{sym, ap, subst, ◌∙◌}
use Rattle.page_runs.specs.Changes.{after_changes}
use Rattle.space_cells.specs.Cells.{cells_of}
use Rattle.space_cells.specs.Moving.{CanMove, HaveMoved, IsMovable, moved}
use Rattle.space_cells.proofs.Seen.{same_cells}
use Rattle.space_cells.proofs.Moved.{free_old, kept_held, movable, moved_cells, moved_have_marks}
use Rattle.space_cells.proofs.space.AddressSpace.relocate.Goals as goal
use Rattle.space_cells.proofs.space.AddressSpace.relocate.Goals.{After-drop-changes}

pub changes_of_move-requires : goal.changes_of_move-requires
changes_of_move-requires c = movable c.self.inside.marks c.self.inside.pages c.args.relocation (subst (λ m. CanMove m c.args.relocation) (sym c.self.view_is) c.requires)

pub place-requires-clause-movable : goal.place-requires-clause-movable
place-requires-clause-movable c = movable c.self.inside.marks c.self.inside.pages c.args.relocation (subst (λ m. CanMove m c.args.relocation) (sym c.self.view_is) c.requires)

pub place-requires-clause-free : goal.place-requires-clause-free
place-requires-clause-free c =
    free_old c.self.inside.marks c.self.inside.marks c.self.inside.pages c.self.inside.pages c.self.inside.pages c.args.relocation c.self.invariant
    (movable c.self.inside.marks c.self.inside.pages c.args.relocation (subst (λ m. CanMove m c.args.relocation) (sym c.self.view_is) c.requires))

abbrev can : (c : After-drop-changes) → IsMovable c.self.inside.marks c.args.relocation
can c = movable c.self.inside.marks c.self.inside.pages c.args.relocation (subst (λ m. CanMove m c.args.relocation) (sym c.self.view_is) c.requires)

-- the marks after the move
abbrev moves : (c : After-drop-changes) → HaveMoved c.args.relocation c.args.relocation.new c.self.inside.marks c.place.new.marks
moves c =
    subst (HaveMoved c.args.relocation c.args.relocation.new c.self.inside.marks)
    (ap (after_changes c.self.inside.marks) (sym c.deref.ensures.value) ∙ sym c.in-Ok.ensures.ok) c.in_ok-changes.ensures.moved

pub invariant_of-self : goal.invariant_of-self
invariant_of-self c =
    moved_have_marks c.self.inside.marks c.place.new.marks c.self.inside.pages c.place.new.pages c.clear.new.pages c.args.relocation c.self.invariant (can c)
    c.place.ensures.others c.in-Ok.ensures.placed c.clear.ensures (moves c)

pub returns-in-Ok-clause-ok : goal.returns-in-Ok-clause-ok
returns-in-Ok-clause-ok c =
    moved_cells c.self.inside.marks c.place.new.marks c.self.inside.pages c.place.new.pages c.clear.new.pages c.args.relocation c.self.invariant (can c)
    c.place.ensures.others c.in-Ok.ensures.placed c.clear.ensures (moves c)
    ∙ ap (moved c.args.relocation) c.self.view_is

pub returns-clause-err : goal.returns-clause-err
returns-clause-err c =
    ap (λ m. cells_of m c.clear-in-Err.new.pages) c.in-Err.ensures.err
    ∙ same_cells c.self.inside.marks c.self.inside.pages c.clear-in-Err.new.pages
    (kept_held c.self.inside.marks c.self.inside.marks c.self.inside.pages c.place.new.pages c.clear-in-Err.new.pages c.args.relocation c.self.invariant
    (movable c.self.inside.marks c.self.inside.pages c.args.relocation (subst (λ m. CanMove m c.args.relocation) (sym c.self.view_is) c.requires))
    c.place.ensures.others c.clear-in-Err.ensures)
    ∙ c.self.view_is
