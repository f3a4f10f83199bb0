use Rattle.std.proofs.Common.{◌≡◌, ℕ, true, Some, sym, ap, ◌∙◌}
use Rattle.std.specs.Prelude.{is_some}
use Rattle.std.specs.Option.{option_map}
use Rattle.std.specs.FinMap as map
use Rattle.std.proofs.lemmas.Result.{on_err_weaker, on_ok_weaker}
use Rattle.page_map.specs.Change.{change}
use Rattle.space_cells.specs.Cells.{with_held}
use Rattle.space_cells.proofs.Seen.{same_cells, same_have_marks, same_some}
use Rattle.space_cells.proofs.Changing.{either, held_cells, set_have_marks}
use Rattle.space_cells.proofs.space.AddressSpace.hold_both.Goals as goal
use Rattle.space_cells.proofs.space.AddressSpace.hold_both.Goals.{After-put_both}

-- a page with a cell has a mark
abbrev mark_at : (c : After-put_both) (page : ℕ) → is_some (map.get c.args.self.now page) ≡ true → is_some (map.get c.self.inside.marks page) ≡ true
mark_at c page some = sym (same_some c.self.inside.marks c.self.inside.pages page) ∙ ap (λ m. is_some (map.get m page)) c.self.view_is ∙ some

pub invariant_of-self : goal.invariant_of-self
invariant_of-self c = either c.put_both.result c.put_both.ensures.ok c.put_both.ensures.err
    (λ both.
    set_have_marks c.self.inside.marks both.between c.put_both.new.pages c.args.far.0 (Some c.args.far.1) both.far_set
    (set_have_marks c.self.inside.marks c.self.inside.pages both.between c.args.near.0 (Some c.args.near.1) both.near_set c.self.invariant (λ _. mark_at c c.args.near.0 c.requires.near))
    (λ _. mark_at c c.args.far.0 c.requires.far))
    (λ same. same_have_marks c.self.inside.marks c.self.inside.pages c.put_both.new.pages same c.self.invariant)

pub returns-clause-ok : goal.returns-clause-ok
returns-clause-ok c = on_ok_weaker c.put_both.result
    (λ both.
    held_cells c.self.inside.marks both.between c.put_both.new.pages c.args.far.0 c.args.far.1 both.far_set
    ∙ ap (λ m. change m c.args.far.0 1 (λ _. option_map (with_held c.args.far.1)))
    (held_cells c.self.inside.marks c.self.inside.pages both.between c.args.near.0 c.args.near.1 both.near_set
    ∙ ap (λ m. change m c.args.near.0 1 (λ _. option_map (with_held c.args.near.1))) c.self.view_is)) c.put_both.ensures.ok

pub returns-clause-err : goal.returns-clause-err
returns-clause-err c = on_err_weaker c.put_both.result (λ same. same_cells c.self.inside.marks c.self.inside.pages c.put_both.new.pages same ∙ c.self.view_is) c.put_both.ensures.err
