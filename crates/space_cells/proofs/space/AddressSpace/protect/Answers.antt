use Rattle.std.proofs.Common.{sym, ap, subst, ◌∙◌}
use Rattle.std.specs.Option.{option_map}
use Rattle.std.proofs.lemmas.Result.{on_ok_weaker}
use Rattle.page_map.specs.Cell.{with_perm}
use Rattle.page_map.specs.Change.{change}
use Rattle.space_cells.specs.Cells.{HaveMarks, cells_of}
use Rattle.space_cells.proofs.Changing.{either, protected_cells, protected_have_marks}
use Rattle.space_cells.proofs.space.AddressSpace.protect.Goals as goal

pub invariant_of-self : goal.invariant_of-self
invariant_of-self c = either c.protect.result c.protect.ensures.ok c.protect.ensures.err
    (λ e. subst (λ m. HaveMarks m c.self.inside.pages) (sym e) (protected_have_marks c.self.inside.marks c.self.inside.pages c.args.first c.args.count c.args.perm c.self.invariant))
    (λ e. subst (λ m. HaveMarks m c.self.inside.pages) (sym e) c.self.invariant)

pub returns-clause-ok : goal.returns-clause-ok
returns-clause-ok c = on_ok_weaker c.protect.result
    (λ e.
    ap (λ m. cells_of m c.self.inside.pages) e ∙ protected_cells c.self.inside.marks c.self.inside.pages c.args.first c.args.count c.args.perm
    ∙ ap (λ m. change m c.args.first c.args.count (λ _. option_map (with_perm c.args.perm))) c.self.view_is) c.protect.ensures.ok
