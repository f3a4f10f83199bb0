use Rattle.std.proofs.Common.{◌≤◌, List, ℕ, sym, subst, ◌∙◌}
use Rattle.page_map.specs.State.{State, start, linked}
use Rattle.page_map.proofs.Start.{start_is_consistent}
use Rattle.mm_model.specs.Plain.{IsSound}
use Rattle.mm_model.proofs.Sound.{start_is_sound}
use Rattle.mm_model.proofs.plain.Plain.new.Goals as goal

pub invariant_of-result-2 : goal.invariant_of-result-2
unfolding start
invariant_of-result-2 c =
    let spaces = c.spaces.view_is ∙ c.in_ok-spaces.ensures in
    let tables = c.in_ok-tables.ensures in
    let P : State × List ℕ → Type 0 = λ x. IsSound x.0 c.in_ok-new.field-0 x.1 in
    subst P (λ i. (record { spaces = sym spaces i; tables = sym tables i; limits = c.args.limits; files = sym c.shelf.view_is i }, sym c.in_ok-new-2.ensures i))
    (start_is_sound c.args.limits c.args.shelf c.requires c.in_ok-new.field-0 c.in_ok-new.ensures.frames c.in_ok-new.ensures.slots)

pub returns-clause-ok : goal.returns-clause-ok
unfolding start
returns-clause-ok c =
    let spaces = c.spaces.view_is ∙ c.in_ok-spaces.ensures in
    let tables = c.in_ok-tables.ensures in
    λ i. record { spaces = spaces i; tables = tables i; limits = c.args.limits; files = c.shelf.view_is i }

pub returns-clause-fits : goal.returns-clause-fits
returns-clause-fits c = subst (λ (st : State). linked st ≤ st.limits.tables) (sym (returns-clause-ok c)) (start_is_consistent c.args.limits c.args.shelf c.requires.some_levels c.requires.few_levels c.requires.some_table).tables
