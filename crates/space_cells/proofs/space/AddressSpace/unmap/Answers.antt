use Rattle.std.proofs.Common.{◌≡◌, ◌+◌, ◌-◌, None, sym, ap, subst, ◌∙◌, arith}
use Rattle.page_map.specs.Change.{change}
use Rattle.space_cells.specs.Held.{numbers_held}
use Rattle.space_cells.specs.Cells.{HaveMarks, cells_of, numbers_in}
use Rattle.space_cells.proofs.Seen.{numbers_seen}
use Rattle.space_cells.proofs.Changing.{cleared_have_marks, unmapped_cells}
use Rattle.space_cells.proofs.space.AddressSpace.unmap.Goals as goal

pub invariant_of-self-2 : goal.invariant_of-self-2
invariant_of-self-2 c =
    subst (λ m. HaveMarks m c.clear.new.pages) (sym c.in_ok-remove.ensures.ok)
    (cleared_have_marks c.self.inside.marks c.self.inside.pages c.clear.new.pages c.args.first c.args.count c.clear.ensures (λ _ _. None) c.self.invariant)

pub returns-clause-released : goal.returns-clause-released
returns-clause-released c =
    let count : c.args.first + c.args.count - c.args.first ≡ c.args.count = omega arith in
    c.in_ok-released.ensures ∙ ap (λ k. numbers_held c.self.inside.pages c.args.first k) count
    ∙ numbers_seen c.self.inside.marks c.self.inside.pages c.self.invariant c.args.first c.args.count
    ∙ ap (λ m. numbers_in m c.args.first c.args.count) c.self.view_is

pub returns-clause-ok : goal.returns-clause-ok
returns-clause-ok c =
    ap (λ m. cells_of m c.clear.new.pages) c.in_ok-remove.ensures.ok
    ∙ unmapped_cells c.self.inside.marks c.self.inside.pages c.clear.new.pages c.args.first c.args.count c.clear.ensures
    ∙ ap (λ m. change m c.args.first c.args.count (λ _ _. None)) c.self.view_is
