use Rattle.std.proofs.Common.{Some, sym, ap, ◌∙◌}
use Rattle.std.specs.Prelude.{is_some}
use Rattle.std.specs.Option.{option_map, option_and_then}
use Rattle.std.specs.FinMap as map
use Rattle.std.proofs.lemmas.Result.{IfOk-weaker, on_err_weaker, on_ok_weaker}
use Rattle.page_map.specs.Change.{change}
use Rattle.space_cells.specs.Cells.{held_of, with_held}
use Rattle.space_cells.proofs.Seen.{held_seen, same_cells, same_have_marks, same_some}
use Rattle.space_cells.proofs.Changing.{either, held_cells, set_have_marks}
use Rattle.space_cells.proofs.space.AddressSpace.hold.Goals as goal

pub invariant_of-self : goal.invariant_of-self
invariant_of-self c = either c.put.result c.put.ensures.ok c.put.ensures.err
    (λ sets. set_have_marks c.self.inside.marks c.self.inside.pages c.put.new.pages c.args.page (Some c.args.held) sets c.self.invariant
    (λ _. sym (same_some c.self.inside.marks c.self.inside.pages c.args.page) ∙ ap (λ m. is_some (map.get m c.args.page)) c.self.view_is ∙ c.requires))
    (λ same. same_have_marks c.self.inside.marks c.self.inside.pages c.put.new.pages same c.self.invariant)

pub returns-clause-old : goal.returns-clause-old
returns-clause-old c = IfOk-weaker c.put.result _ _
    (λ old is. is ∙ sym (held_seen c.self.inside.marks c.self.inside.pages c.self.invariant c.args.page) ∙ ap (λ m. option_and_then held_of (map.get m c.args.page)) c.self.view_is) c.put.ensures.old

pub returns-clause-ok : goal.returns-clause-ok
returns-clause-ok c = on_ok_weaker c.put.result
    (λ sets.
    held_cells c.self.inside.marks c.self.inside.pages c.put.new.pages c.args.page c.args.held sets
    ∙ ap (λ m. change m c.args.page 1 (λ _. option_map (with_held c.args.held))) c.self.view_is) c.put.ensures.ok

pub returns-clause-unheld : goal.returns-clause-unheld
returns-clause-unheld c = on_err_weaker c.put.result
    (λ none. ap (λ m. option_and_then held_of (map.get m c.args.page)) (sym c.self.view_is) ∙ held_seen c.self.inside.marks c.self.inside.pages c.self.invariant c.args.page ∙ none) c.put.ensures.absent

pub returns-clause-err : goal.returns-clause-err
returns-clause-err c = on_err_weaker c.put.result (λ same. same_cells c.self.inside.marks c.self.inside.pages c.put.new.pages same ∙ c.self.view_is) c.put.ensures.err
