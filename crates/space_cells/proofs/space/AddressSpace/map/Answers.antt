use Rattle.std.proofs.Common.{◌≡◌, ◌+◌, ◌-◌, Some, sym, ap, subst, ◌∙◌, arith}
use Rattle.page_map.specs.Change.{change}
use Rattle.page_map.specs.Mapping.{backed}
use Rattle.page_runs.specs.Mark.{goes_on}
use Rattle.space_cells.specs.Held.{numbers_held}
use Rattle.space_cells.specs.Cells.{HaveMarks, cells_of, numbers_in}
use Rattle.space_cells.proofs.Seen.{numbers_seen}
use Rattle.space_cells.proofs.Changing.{cleared_have_marks, mapped_cells}
use Rattle.space_cells.proofs.space.AddressSpace.map.Goals as goal

pub invariant_of-self-2 : goal.invariant_of-self-2
invariant_of-self-2 c =
    let run = c.args.run in
    subst (λ m. HaveMarks m c.clear.new.pages) (sym c.in_ok-replace.ensures.ok)
    (cleared_have_marks c.self.inside.marks c.self.inside.pages c.clear.new.pages run.first run.count c.clear.ensures (λ page _. Some (goes_on run.mark (page - run.first))) c.self.invariant)

pub returns-clause-released : goal.returns-clause-released
returns-clause-released c =
    let run = c.args.run in
    let count : run.first + run.count - run.first ≡ run.count = omega arith in
    c.in_ok-released.ensures ∙ ap (λ k. numbers_held c.self.inside.pages run.first k) count
    ∙ numbers_seen c.self.inside.marks c.self.inside.pages c.self.invariant run.first run.count
    ∙ ap (λ m. numbers_in m run.first run.count) c.self.view_is

pub returns-clause-ok : goal.returns-clause-ok
returns-clause-ok c =
    let run = c.args.run in
    ap (λ m. cells_of m c.clear.new.pages) c.in_ok-replace.ensures.ok
    ∙ mapped_cells c.self.inside.marks c.self.inside.pages c.clear.new.pages run.first run.count c.clear.ensures run.mark
    ∙ ap (λ m. change m run.first run.count (λ page _. Some (backed run.mark.backing run.mark.perm (page - run.first)))) c.self.view_is
