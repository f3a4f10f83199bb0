use Rattle.std.proofs.Common.{◌≡◌, ◌+◌, ◌-◌, ◌++◌, ◌∷◌, [], Some, sym, subst, ◌∙◌}
use Rattle.std.specs.FinMap.{get}
use Rattle.page_runs.specs.declared.change.Effect.TheVariants.{Map}
use Rattle.page_runs.specs.Changes.{IsChange, after_changes}
use Rattle.space_cells.specs.Moving.{HaveMoved}
use Rattle.space_cells.proofs.Moved.{added_fits, added_moved}
use Rattle.space_cells.proofs.moving.added.Goals as goal
use Rattle.space_cells.proofs.moving.added.Goals.{After-after}

-- the last old page has a mark
abbrev last_at : (c : After-after) → get c.args.marks.now (c.args.relocation.first + c.args.relocation.old - 1) ≡ Some c.unwrap-last.result
last_at c = sym c.get.ensures ∙ c.unwrap-last.ensures

pub returns-clause-fits : goal.returns-clause-fits
returns-clause-fits c =
    let r = c.args.relocation in
    subst (λ m. IsChange (record { first = r.to + r.old; count = r.new - r.old; effect = Map m })) (sym c.after.ensures)
    (added_fits c.args.marks.now r c.requires.movable c.unwrap-last.result (last_at c))

pub returns-clause-added : goal.returns-clause-added
returns-clause-added c changes moved =
    let r = c.args.relocation in
    subst (λ m. HaveMoved r r.new c.args.marks.now (after_changes c.args.marks.now (changes ++ record { first = r.to + r.old; count = r.new - r.old; effect = Map m } ∷ []))) (sym c.after.ensures)
    (added_moved c.args.marks.now r c.requires.movable c.unwrap-last.result (last_at c) changes moved)
