use Rattle.std.proofs.Common.{sym, ap, subst, ◌∙◌}
use Rattle.space_cells.specs.Cells.{HaveMarks, cells_of}
use Rattle.space_cells.specs.Changes.{all_released, cells_after_all, released_of}
use Rattle.space_cells.proofs.Seen.{number_seen}
use Rattle.space_cells.proofs.Released.{changed_cells, changed_have_marks, released_seen}
use Rattle.space_cells.proofs.space.AddressSpace.apply.Goals as goal

pub invariant_of-self-2 : goal.invariant_of-self-2
invariant_of-self-2 c =
    subst (λ m. HaveMarks m c.clear_all.new.pages) (sym c.in_ok-apply.ensures.ok)
    (changed_have_marks c.self.inside.marks c.self.inside.pages c.clear_all.new.pages c.args.changes.now c.clear_all.ensures c.self.invariant)

pub returns-clause-released : goal.returns-clause-released
returns-clause-released c =
    c.in_ok-numbers.ensures
    ∙ (λ i. released_of (λ q. sym (number_seen c.self.inside.marks c.self.inside.pages c.self.invariant q) i) c.args.changes.now)
    ∙ sym (released_seen c.args.changes.now (cells_of c.self.inside.marks c.self.inside.pages))
    ∙ ap (λ m. all_released m c.args.changes.now) c.self.view_is

pub returns-clause-ok : goal.returns-clause-ok
returns-clause-ok c =
    ap (λ m. cells_of m c.clear_all.new.pages) c.in_ok-apply.ensures.ok
    ∙ changed_cells c.self.inside.marks c.self.inside.pages c.clear_all.new.pages c.args.changes.now c.clear_all.ensures
    ∙ ap (λ m. cells_after_all m c.args.changes.now) c.self.view_is
