use Rattle.std.proofs.Common.{◌≡◌, ℕ, Some, None, sym, ap, subst, ◌∙◌}
use Rattle.std.specs.Prelude.{not}
use Rattle.std.specs.Option.{option_copied_mut}
use Rattle.std.specs.FinMap as map
use Rattle.std.specs.FinSet as set
use Rattle.table_place.specs.Place.{is_inside}
use Rattle.page_map.specs.Mapping.{arena_first}
use Rattle.page_map.specs.State.{State, levels, space_at}
use Rattle.page_map.specs.Tables.{missing}
use Rattle.page_map.proofs.Cells.{changed}
use Rattle.plain_counts.specs.Fronts.{AreFull, full_before, full_pages}
use Rattle.plain_counts.specs.Levels.{Lists}
use Rattle.plain_spaces.specs.Resizing.{IsFull, IsPlacing}
use Rattle.plain_spaces.proofs.Moves.{put_back}
use Rattle.plain_spaces.proofs.Variants.{on_err, some_borrow}
use Rattle.mm_model.specs.Lacking.{tables_lack}
use Rattle.mm_model.specs.Plain.{IsSound}
use Rattle.mm_model.specs.Remapping.{MayRemap, after_remap, resized, wanted_at}
use Rattle.mm_model.proofs.Kept.{cells_here, counted_here}
use Rattle.mm_model.proofs.Lacks.{apart}
use Rattle.mm_model.proofs.Remapped.{full_here, remap_sound, tables_after}
use Rattle.mm_model.proofs.RemapFull.{remap_full}
use Rattle.mm_model.proofs.plain.Plain.resize.Goals as goal
use Rattle.mm_model.proofs.plain.Plain.resize.Goals.{After-unwrap-cells, After-make, After-from_residual, After-forget}

-- the state that the machine had, and the cells of the space
abbrev before : After-unwrap-cells → State
before c = record { spaces = c.self.inside.spaces; tables = c.self.inside.tables; limits = c.self.inside.limits; files = c.self.inside.shelf }

abbrev may : (c : After-unwrap-cells) → MayRemap (before c) c.args.space c.args.remapping
may c = subst (λ st. MayRemap st c.args.space c.args.remapping) (sym c.self.view_is) c.requires.may

abbrev here : (c : After-unwrap-cells) → map.get c.self.inside.spaces c.args.space ≡ Some c.unwrap-cells.result.now
here c = sym c.get_mut.ensures.value ∙ ap option_copied_mut c.unwrap-cells.ensures

cells_are : (c : After-unwrap-cells) → space_at (before c) c.args.space ≡ c.unwrap-cells.result.now
cells_are c = cells_here (before c) c.self.inside.counts c.self.inside.fronts c.self.invariant c.args.space c.unwrap-cells.result.now (here c)

abbrev placed : (c : After-unwrap-cells) → IsPlacing (levels (before c)) (may c).thread c.unwrap-cells.result.now c.args.remapping.resize c.args.remapping.placing
placed c = subst (λ m. IsPlacing (levels (before c)) (may c).thread m c.args.remapping.resize c.args.remapping.placing) (cells_are c) (may c).is.placed

abbrev full : (c : After-unwrap-cells) → IsFull c.unwrap-cells.result.now c.args.remapping.resize
full c =
    let m = may c in
    subst (λ m. IsFull m c.args.remapping.resize) (cells_are c) (full_here (before c) m.thread c.args.space m.at m.old_len m.new_len c.args.remapping c.self.invariant.state m.is)

abbrev lists : (c : After-unwrap-cells) → Lists (missing (wanted_at (before c) c.args.space c.args.remapping) c.self.inside.tables) c.args.missing.now
lists c = subst (λ st. Lists (missing (wanted_at st c.args.space c.args.remapping) st.tables) c.args.missing.now) (sym c.self.view_is) c.requires.missing

pub make-requires-clause-placed : goal.make-requires-clause-placed
make-requires-clause-placed c =
    let at = (goal.at.make-requires-clause-placed c).After-unwrap-cells in
    (levels (before at), (may at).thread, c.self.invariant.state.few_levels, (may at).few, placed at)

pub make-requires-clause-full : goal.make-requires-clause-full
make-requires-clause-full c = full (goal.at.make-requires-clause-full c).After-unwrap-cells

pub make-requires-clause-missing : goal.make-requires-clause-missing
make-requires-clause-missing c =
    let at = (goal.at.make-requires-clause-missing c).After-unwrap-cells in
    apart c.self.inside.tables (wanted_at (before at) c.args.space c.args.remapping) c.args.missing.now (lists at)

pub make-requires-clause-counted : goal.make-requires-clause-counted
make-requires-clause-counted c =
    let at = (goal.at.make-requires-clause-counted c).After-unwrap-cells in
    counted_here (before at) c.self.inside.counts c.self.inside.fronts c.self.invariant c.args.space c.unwrap-cells.result.now (here at)

-- the spaces afterwards
abbrev lent : (c : After-make) → c.get_mut.follows.lender c.make.new.cells ≡ map.insert c.self.inside.spaces c.args.space c.make.new.cells
lent c = some_borrow c.get_mut.result c.unwrap-cells.result c.unwrap-cells.ensures (c.get_mut.follows.holds c.make.new.cells)

-- nothing changed where memory was wanted
spaces_stay : (c : After-from_residual) → map.insert c.self.inside.spaces c.args.space c.make.new.cells ≡ c.self.inside.spaces
spaces_stay c =
    let at = (goal.at.invariant_of-self c).After-unwrap-cells in
    ap (map.insert c.self.inside.spaces c.args.space) c.in_err-make.ensures.kept.same_cells ∙ put_back c.self.inside.spaces c.args.space c.unwrap-cells.result.now (here at)

pub invariant_of-self : goal.invariant_of-self
invariant_of-self c =
    let at = goal.at.invariant_of-self c in
    let st = before at.After-unwrap-cells in
    let state : ◌≡◌ {A = State} (record st { spaces = c.get_mut.follows.lender c.make.new.cells; tables = c.make.new.tables }) st =
    λ i. record st { spaces = (lent at.After-make ∙ spaces_stay c) i; tables = c.in_err-make.ensures.tables_stay i } in
    subst (λ s. IsSound s c.make.new.counts c.self.inside.fronts) (sym state) (subst (λ n. IsSound st n c.self.inside.fronts) (sym c.in_err-make.ensures.kept.same_counts) c.self.invariant)

pub returns-in_err-make-clause-err : goal.returns-in_err-make-clause-err
returns-in_err-make-clause-err c =
    let at = goal.at.returns-in_err-make-clause-err c in
    let st = before at.After-unwrap-cells in
    on_err c.from_residual.result ((λ i. record st { spaces = (lent at.After-make ∙ spaces_stay c) i; tables = c.in_err-make.ensures.tables_stay i }) ∙ c.self.view_is)

pub left-left-requires-clause-pages : goal.left-left-requires-clause-pages
left-left-requires-clause-pages c = (full (goal.at.left-left-requires-clause-pages c).After-unwrap-cells).pages

pub left-left-requires-clause-few : goal.left-left-requires-clause-few
left-left-requires-clause-few c = (full (goal.at.left-left-requires-clause-few c).After-unwrap-cells).few

-- the tables and the fronts afterwards
tables_now : (c : After-forget) → c.remove_inside.new.self ≡ (after_remap (before (goal.at.returns-clause-ok c).After-unwrap-cells) c.args.space c.args.remapping).tables
tables_now c =
    let at = (goal.at.returns-clause-ok c).After-unwrap-cells in
    let st = before at in
    let m = may at in
    c.remove_inside.ensures
    ∙ ap (λ n. set.retain c.make.new.tables (λ p. not (is_inside (levels st) c.args.space n.first n.count p))) c.left-left.ensures
    ∙ tables_after st m.thread c.args.space m.at m.old_len m.new_len c.args.remapping c.self.invariant.state m.is c.args.missing.now (lists at) c.make.new.tables c.in_ok-make.ensures.tables

full_now : (c : After-forget) →
    AreFull (changed (before (goal.at.returns-clause-ok c).After-unwrap-cells) c.args.space c.make.new.cells c.remove_inside.new.self) c.forget.new.self
full_now c =
    let at = (goal.at.returns-clause-ok c).After-unwrap-cells in
    let st = before at in
    let cells = c.unwrap-cells.result.now in
    let fronts = c.self.inside.fronts in
    let r = c.args.remapping in
    subst (λ m. AreFull (changed st c.args.space m c.remove_inside.new.self) c.forget.new.self) (sym c.in_ok-make.ensures.cells)
    (remap_full st (levels st) (may at).thread c.args.space cells (here at) r.resize c.remove_inside.new.self fronts c.forget.new.self c.self.invariant.full c.forget.ensures.others r.placing (placed at)
    (λ t few. c.forget.ensures.here t few ∙ ap (λ n. full_before (arena_first t) (full_pages fronts c.args.space t) n.first n.count) c.left-left.ensures))

pub invariant_of-self-2 : goal.invariant_of-self-2
invariant_of-self-2 c =
    let at = goal.at.invariant_of-self-2 c in
    let st = before at.After-unwrap-cells in
    let m = may at.After-unwrap-cells in
    let enough = subst (λ st. (limbo : ℕ) × (tables_lack st (wanted_at st c.args.space c.args.remapping) limbo ≡ None)) (sym c.self.view_is) c.requires.enough in
    subst (λ spaces. IsSound (record st { spaces = spaces; tables = c.remove_inside.new.self }) c.make.new.counts c.forget.new.self) (sym (lent at.After-make))
    (remap_sound st m.thread c.args.space m.at m.old_len m.new_len c.args.remapping c.self.invariant.state m.is enough.0 m.few enough.1 c.unwrap-cells.result.now c.make.new.cells c.remove_inside.new.self
    c.self.inside.counts c.make.new.counts c.self.inside.fronts c.forget.new.self c.self.invariant (here at.After-unwrap-cells) c.in_ok-make.ensures.cells (tables_now c) c.in_ok-make.ensures.counts (full_now c))

pub returns-clause-ok : goal.returns-clause-ok
returns-clause-ok c =
    let at = goal.at.returns-clause-ok c in
    let st = before at.After-unwrap-cells in
    let cells = c.in_ok-make.ensures.cells ∙ ap (resized c.args.remapping) (sym (cells_are at.After-unwrap-cells)) in
    (λ i. record st { spaces = (lent at.After-make ∙ ap (map.insert st.spaces c.args.space) cells) i; tables = tables_now c i })
    ∙ ap (λ st. after_remap st c.args.space c.args.remapping) c.self.view_is
