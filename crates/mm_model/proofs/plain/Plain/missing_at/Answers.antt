use Rattle.std.proofs.Common.{◌≡◌, List, sym, ap, subst, ◌∙◌}
use Rattle.std.specs.Prelude.{Result, Ok, Err, IfOk, IfErr, IfSome}
use Rattle.std.specs.List.{flat_map}
use Rattle.std.specs.Option.{option_copied}
use Rattle.corten_base.specs.declared.calls.Reply.{Reply}
use Rattle.table_place.specs.declared.Place.{Place}
use Rattle.table_place.specs.Place.{cut_by}
use Rattle.page_map.specs.State.{State, levels, space_at}
use Rattle.page_map.specs.Tables.{missing}
use Rattle.plain_counts.specs.declared.cut.Pages.{Pages}
use Rattle.plain_counts.specs.Levels.{Lists}
use Rattle.plain_spaces.specs.Pieces.{AreCut}
use Rattle.plain_spaces.specs.Resizing.{IsFull, IsPlacing}
use Rattle.plain_spaces.specs.Wants.{refusal_of}
use Rattle.plain_spaces.specs.declared.access.Stop.{Stop}
use Rattle.plain_spaces.specs.declared.access.Stop.TheVariants.{Refused, NoMemory}
use Rattle.mm_model.specs.Remapping.{MayRemap, wanted_at}
use Rattle.mm_model.proofs.Kept.{cells_here}
use Rattle.mm_model.proofs.Lacks.{lack_listed, lists_same}
use Rattle.mm_model.proofs.Remapped.{cut_lack, full_here}
use Rattle.mm_model.proofs.plain.Plain.missing_at.Goals as goal
use Rattle.mm_model.proofs.plain.Plain.missing_at.Goals.{After-unwrap-cells, After-drop-ranges-2}

-- a fact from another, in the case that a result is
if_ok : {A E : Type 0} {P Q : A → Type 0} (r : Result A E) → ((x : A) → P x → Q x) → IfOk r P → IfOk r Q
if_ok (Ok x) f h = f x h
if_ok (Err e) f h = tt

if_refused : {A : Type 0} {P Q : Reply → Type 0} (r : Result A Stop) → ((x : Reply) → P x → Q x) → IfErr r (λ stop. IfSome (refusal_of stop) P) → IfErr r (λ stop. IfSome (refusal_of stop) Q)
if_refused (Ok x) f h = tt
if_refused (Err (Refused x)) f h = f x h
if_refused (Err NoMemory) f h = tt

-- the state of the machine, and the cells of the space
abbrev now : After-unwrap-cells → State
now c = record { spaces = c.self.inside.spaces; tables = c.self.inside.tables; limits = c.self.inside.limits; files = c.self.inside.shelf }

abbrev may : (c : After-unwrap-cells) → MayRemap (now c) c.args.space c.args.remapping
may c = subst (λ st. MayRemap st c.args.space c.args.remapping) (sym c.self.view_is) c.requires.may

cells_are : (c : After-unwrap-cells) → space_at (now c) c.args.space ≡ c.unwrap-cells.result.now
cells_are c =
    cells_here (now c) c.self.inside.counts c.self.inside.fronts c.self.invariant c.args.space c.unwrap-cells.result.now (sym c.get.ensures ∙ ap option_copied c.unwrap-cells.ensures)

pub cut_ranges-requires-clause-placed : goal.cut_ranges-requires-clause-placed
cut_ranges-requires-clause-placed c =
    let at = (goal.at.cut_ranges-requires-clause-placed c).After-unwrap-cells in
    let m = may at in
    let r = c.args.remapping in
    (levels (now at), m.thread, c.self.invariant.state.few_levels, m.few, subst (λ cells. IsPlacing (levels (now at)) m.thread cells r.resize r.placing) (cells_are at) m.is.placed)

pub cut_ranges-requires-clause-full : goal.cut_ranges-requires-clause-full
cut_ranges-requires-clause-full c =
    let at = (goal.at.cut_ranges-requires-clause-full c).After-unwrap-cells in
    let m = may at in
    subst (λ cells. IsFull cells c.args.remapping.resize) (cells_are at) (full_here (now at) m.thread c.args.space m.at m.old_len m.new_len c.args.remapping c.self.invariant.state m.is)

-- those that the ranges cut are those that it lacks
listed : (c : After-drop-ranges-2) → Lists (missing (wanted_at c.args.self.now c.args.space c.args.remapping) c.args.self.now.tables) c.in_ok-missing.missing.items
listed c =
    let at = (goal.at.returns-clause-missing c).After-unwrap-cells in
    let st = now at in
    let m = may at in
    let r = c.args.remapping in
    let ranges = c.in_ok-ranges.ranges.items in
    let items = c.in_ok-missing.missing.items in
    let cut_each : List Pages → List Place = λ ranges. flat_map (λ (p : Pages). cut_by (levels st) c.args.space p.first p.count) ranges in
    subst (λ st. Lists (missing (wanted_at st c.args.space r) st.tables) items) c.self.view_is
    (lists_same st.tables (cut_each ranges) (wanted_at st c.args.space r) items
    (sym (cut_lack st m.thread c.args.space m.at m.old_len m.new_len r c.self.invariant.state m.is r.placing m.is.placed ranges (subst (λ cells. AreCut cells r.resize r.placing ranges) (sym (cells_are at)) c.in_ok-ranges.ensures.cut)))
    (subst (λ rs. Lists (missing (cut_each rs) st.tables) items) c.deref.ensures.value c.in_ok-missing.ensures))

pub returns-clause-missing : goal.returns-clause-missing
returns-clause-missing c =
    let st = c.args.self.now in
    if_ok c.affordable.result (λ found same. subst (λ v. Lists (missing (wanted_at st c.args.space c.args.remapping) st.tables) v.items) (sym same) (listed c)) c.affordable.ensures.missing

pub returns-clause-enough : goal.returns-clause-enough
returns-clause-enough c =
    let st = c.args.self.now in
    if_ok c.affordable.result (λ _ none. sym (lack_listed st (wanted_at st c.args.space c.args.remapping) c.in_ok-missing.missing.items c.args.limbo (listed c)) ∙ none) c.affordable.ensures.enough

pub returns-clause-refused : goal.returns-clause-refused
returns-clause-refused c =
    let st = c.args.self.now in
    if_refused c.affordable.result (λ _ says. sym (lack_listed st (wanted_at st c.args.space c.args.remapping) c.in_ok-missing.missing.items c.args.limbo (listed c)) ∙ says) c.affordable.ensures.refused
