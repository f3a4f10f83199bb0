use Rattle.std.proofs.Common.{◌≡◌, ℕ, List, Some, None, refl, sym, ap, subst, MutBor, ◌∙◌}
use Rattle.std.specs.Prelude.{Option, IsSome}
use Rattle.std.specs.Option.{option_copied_mut, unwrap_or}
use Rattle.std.specs.FinMap as map
use Rattle.std.specs.FinSet as set
use Rattle.corten_base.specs.declared.calls.Call.{Call}
use Rattle.table_place.specs.declared.Place.{Place}
use Rattle.page_map.specs.State.{State, AddressSpace}
use Rattle.page_map.specs.Tables.{Tables}
use Rattle.plain_counts.specs.declared.counts.Counts.{Counts}
use Rattle.plain_spaces.specs.Reach.{above_pages, making, IsResident, Makes}
use Rattle.plain_spaces.proofs.Moves.{put_back}
use Rattle.plain_spaces.proofs.Variants.{on_err, some_borrow}
use Rattle.mm_model.specs.Accesses.{IsAccess, IsReady, after_reach}
use Rattle.mm_model.specs.Plain.{IsSound}
use Rattle.mm_model.proofs.AccessCalls.{planned_here, enough_here, reached, reach_sound, reach_resident}
use Rattle.mm_model.proofs.Lacks.{apart}
use Rattle.mm_model.proofs.Kept.{counted_here, whole_here}
use Rattle.mm_model.proofs.NewSpaces.{get_inserted, taken_back}
use Rattle.mm_model.proofs.plain.Plain.reach.Goals as goal
use Rattle.mm_model.proofs.plain.Plain.reach.Goals.{After-get_mut, After-unwrap-cells, After-make, In-Ok}

-- the state that the machine had, and the cells of the space
abbrev before : After-get_mut → State
before c = record { spaces = c.self.inside.spaces; tables = c.self.inside.tables; limits = c.self.inside.limits; files = c.self.inside.shelf }

abbrev ready : (c : After-get_mut) → (limbo : ℕ) × IsReady (before c) c.args.space limbo c.args.claim.plan c.args.claim.missing.items
ready c = subst (λ st. (limbo : ℕ) × IsReady st c.args.space limbo c.args.claim.plan c.args.claim.missing.items) (sym c.self.view_is) c.requires.ready

there : {A : Type 0} (r : Option (MutBor A)) → IsSome (option_copied_mut r) → IsSome r
there None h = h
there (Some x) h = refl

pub unwrap-cells-requires : goal.unwrap-cells-requires
unwrap-cells-requires c =
    let at = (goal.at.unwrap-cells-requires c).After-get_mut in
    there c.get_mut.result (subst (λ o. IsSome o) (sym c.get_mut.ensures.value) (ready at).1.allowed.present)

abbrev here : (c : After-unwrap-cells) → map.get c.self.inside.spaces c.args.space ≡ Some c.unwrap-cells.result.now
here c = sym c.get_mut.ensures.value ∙ ap option_copied_mut c.unwrap-cells.ensures

pub make-requires-clause-planned : goal.make-requires-clause-planned
make-requires-clause-planned c =
    let at = goal.at.make-requires-clause-planned c in
    (c.self.inside.shelf, planned_here (before at.After-get_mut) _ _ c.self.invariant c.args.space c.unwrap-cells.result.now (here at.After-unwrap-cells) (ready at.After-get_mut).0 c.args.claim.plan c.args.claim.missing.items (ready at.After-get_mut).1)

pub make-requires-clause-enough : goal.make-requires-clause-enough
make-requires-clause-enough c =
    let at = goal.at.make-requires-clause-enough c in
    enough_here (before at.After-get_mut) _ _ c.self.invariant c.args.space c.unwrap-cells.result.now (here at.After-unwrap-cells) (ready at.After-get_mut).0 c.args.claim.plan c.args.claim.missing.items (ready at.After-get_mut).1

pub make-requires-clause-counted : goal.make-requires-clause-counted
make-requires-clause-counted c =
    let at = goal.at.make-requires-clause-counted c in
    counted_here (before at.After-get_mut) _ _ c.self.invariant c.args.space c.unwrap-cells.result.now (here at.After-unwrap-cells)

-- the spaces afterwards
abbrev lent : (c : After-make) → c.get_mut.follows.lender c.make.new.cells ≡ map.insert c.self.inside.spaces c.args.space c.make.new.cells
lent c = some_borrow c.get_mut.result c.unwrap-cells.result c.unwrap-cells.ensures (c.get_mut.follows.holds c.make.new.cells)

-- the page tables that it lacks are not there
pub insert_all-requires : goal.insert_all-requires
insert_all-requires c =
    let at = (goal.at.insert_all-requires c).After-get_mut in
    record {
      absent = subst (λ places. set.difference c.self.inside.tables (set.from_list places) ≡ c.self.inside.tables) (sym c.deref.ensures.value)
          (apart c.self.inside.tables (above_pages c.self.inside.limits.levels c.args.space c.args.claim.plan.access) c.args.claim.missing.items (ready at).1.lists);
    }

-- what was made, by the files of the shelf
abbrev makes : (c : In-Ok) → Makes c.self.inside.shelf (making c.args.claim.plan.access c.args.stored.now) c.unwrap-cells.result.now c.make.new.cells c.self.inside.counts c.make.new.counts
makes c =
    let st : State = record { spaces = c.self.inside.spaces; tables = c.self.inside.tables; limits = c.self.inside.limits; files = c.self.inside.shelf } in
    let here = sym c.get_mut.ensures.value ∙ ap option_copied_mut c.unwrap-cells.ensures in
    let ready : (limbo : ℕ) × IsReady st c.args.space limbo c.args.claim.plan c.args.claim.missing.items =
    subst (λ st. (limbo : ℕ) × IsReady st c.args.space limbo c.args.claim.plan c.args.claim.missing.items) (sym c.self.view_is) c.requires.ready in
    c.in-Ok.ensures.made c.self.inside.shelf
    (planned_here st _ _ c.self.invariant c.args.space c.unwrap-cells.result.now here ready.0 c.args.claim.plan c.args.claim.missing.items ready.1)
    (whole_here st _ _ c.self.invariant c.args.space c.unwrap-cells.result.now here)

pub invariant_of-self-in-Ok : goal.invariant_of-self-in-Ok
invariant_of-self-in-Ok c =
    let at = goal.at.invariant_of-self-in-Ok c in
    let st = before at.After-get_mut in
    let some = subst (λ st. (call : Call) × IsAccess st call c.args.space (making c.args.claim.plan.access c.args.stored.now)) (sym c.self.view_is) c.requires.call in
    subst (λ spaces. IsSound (record st { spaces = spaces; tables = c.insert_all.new.self }) c.make.new.counts c.self.inside.fronts) (sym (lent at.After-make))
    (reach_sound st _ _ c.self.invariant c.args.space c.unwrap-cells.result.now (here at.After-unwrap-cells) (ready at.After-get_mut).0 c.args.claim.plan c.args.claim.missing.items (ready at.After-get_mut).1
    c.args.stored.now c.make.new.cells c.make.new.counts (makes at.In-Ok) c.insert_all.new.self (c.in_ok-insert_all.ensures.ok ∙ ap (λ places. set.union c.self.inside.tables (set.from_list places)) c.deref.ensures.value) some.0 some.1)

pub returns-in-Ok-clause-ok : goal.returns-in-Ok-clause-ok
returns-in-Ok-clause-ok c =
    let at = goal.at.returns-in-Ok-clause-ok c in
    let st = before at.After-get_mut in
    (λ i. record st { spaces = lent at.After-make i; tables = c.insert_all.new.self })
    ∙ reached st _ _ c.self.invariant c.args.space c.unwrap-cells.result.now (here at.After-unwrap-cells) (ready at.After-get_mut).0 c.args.claim.plan c.args.claim.missing.items (ready at.After-get_mut).1
    c.args.stored.now c.make.new.cells c.make.new.counts (makes at.In-Ok) c.insert_all.new.self (c.in_ok-insert_all.ensures.ok ∙ ap (λ places. set.union c.self.inside.tables (set.from_list places)) c.deref.ensures.value)
    ∙ ap (λ st. after_reach st c.args.space (making c.args.claim.plan.access c.args.stored.now)) c.self.view_is

pub returns-in-Ok-clause-resident : goal.returns-in-Ok-clause-resident
returns-in-Ok-clause-resident c none =
    let at = goal.at.returns-in-Ok-clause-resident c in
    let st = before at.After-get_mut in
    subst (λ cells. IsResident cells c.args.claim.plan.access)
    (sym (ap (λ spaces. unwrap_or (map.get spaces c.args.space) map.empty) (lent at.After-make) ∙ ap (λ o. unwrap_or o map.empty) (get_inserted c.self.inside.spaces c.args.space c.make.new.cells)))
    (reach_resident st _ _ c.self.invariant c.args.space c.unwrap-cells.result.now (here at.After-unwrap-cells) (ready at.After-get_mut).0 c.args.claim.plan c.args.claim.missing.items (ready at.After-get_mut).1
    c.args.stored.now c.make.new.cells c.make.new.counts (makes at.In-Ok) none)

-- nothing has changed
abbrev same : (c : After-unwrap-cells) (cells : AddressSpace) → cells ≡ c.unwrap-cells.result.now → c.get_mut.follows.lender cells ≡ c.self.inside.spaces
same c cells is =
    some_borrow c.get_mut.result c.unwrap-cells.result c.unwrap-cells.ensures (c.get_mut.follows.holds cells) ∙ ap (map.insert c.self.inside.spaces c.args.space) is
    ∙ put_back c.self.inside.spaces c.args.space c.unwrap-cells.result.now (sym c.get_mut.ensures.value ∙ ap option_copied_mut c.unwrap-cells.ensures)

pub invariant_of-self-in_err-insert_all : goal.invariant_of-self-in_err-insert_all
invariant_of-self-in_err-insert_all c =
    let at = goal.at.invariant_of-self-in_err-insert_all c in
    let st = before at.After-get_mut in
    subst (λ (st : State). IsSound st c.self.inside.counts c.self.inside.fronts)
    (λ i. record st { spaces = sym (same at.After-unwrap-cells c.unwrap-cells.result.now refl) i; tables = sym c.in_err-insert_all.ensures.err i }) c.self.invariant

pub returns-in_err-insert_all-clause-err : goal.returns-in_err-insert_all-clause-err
returns-in_err-insert_all-clause-err c =
    let at = goal.at.returns-in_err-insert_all-clause-err c in
    let st = before at.After-get_mut in
    on_err c.from_residual-in_err-insert_all.result ((λ i. record st { spaces = same at.After-unwrap-cells c.unwrap-cells.result.now refl i; tables = c.in_err-insert_all.ensures.err i }) ∙ c.self.view_is)

-- the page tables go again
undone : (c : After-get_mut) (put left : Tables) (places places' : List Place) → places ≡ c.args.claim.missing.items → places' ≡ c.args.claim.missing.items →
    put ≡ set.union c.self.inside.tables (set.from_list places) → left ≡ set.difference put (set.from_list places') → left ≡ c.self.inside.tables
undone c put left places places' a b come go =
    taken_back c.self.inside.tables put left c.args.claim.missing.items
    (apart c.self.inside.tables (above_pages c.self.inside.limits.levels c.args.space c.args.claim.plan.access) c.args.claim.missing.items (ready c).1.lists)
    (come ∙ ap (λ ps. set.union c.self.inside.tables (set.from_list ps)) a) (go ∙ ap (λ ps. set.difference put (set.from_list ps)) b)

pub invariant_of-self-in-Err : goal.invariant_of-self-in-Err
invariant_of-self-in-Err c =
    let at = goal.at.invariant_of-self-in-Err c in
    let st = before at.After-get_mut in
    let tables = undone at.After-get_mut c.insert_all.new.self c.remove_all.new.self c.deref.result.now c.deref-in-Err.result.now c.deref.ensures.value c.deref-in-Err.ensures.value c.in_ok-insert_all.ensures.ok c.remove_all.ensures in
    let P : State × Counts → Type 0 = λ x. IsSound x.0 x.1 c.self.inside.fronts in
    subst P (λ i. (record st { spaces = sym (same at.After-unwrap-cells c.make.new.cells c.in-Err.ensures.kept.same_cells) i; tables = sym tables i }, sym c.in-Err.ensures.kept.same_counts i)) c.self.invariant

pub returns-clause-err : goal.returns-clause-err
returns-clause-err c =
    let at = goal.at.returns-clause-err c in
    let st = before at.After-get_mut in
    let tables = undone at.After-get_mut c.insert_all.new.self c.remove_all.new.self c.deref.result.now c.deref-in-Err.result.now c.deref.ensures.value c.deref-in-Err.ensures.value c.in_ok-insert_all.ensures.ok c.remove_all.ensures in
    (λ i. record st { spaces = same at.After-unwrap-cells c.make.new.cells c.in-Err.ensures.kept.same_cells i; tables = tables i }) ∙ c.self.view_is
