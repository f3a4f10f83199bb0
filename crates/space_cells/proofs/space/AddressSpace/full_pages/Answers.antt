use Rattle.std.proofs.Common.{◌≡◌, ◌+◌, ◌-◌, ◌*◌, ◌^◌, ◌<◌, ◌≤◌, None, sym, ap, subst, ◌∙◌, arith}
use Rattle.std.specs.Prelude.{is_none}
use Rattle.std.specs.FinMap.{get}
use Rattle.page_map.specs.Change.{least}
use Rattle.page_map.specs.Mapping.{arena_first}
use Rattle.plain_counts.specs.Fronts.{IsFull}
use Rattle.space_cells.proofs.Leasts.{all_full, full_up_to, least_hole}
use Rattle.space_cells.proofs.space.AddressSpace.full_pages.Goals as goal
use Rattle.space_cells.proofs.space.AddressSpace.full_pages.Goals.{In-Some}

-- the first page without a cell
abbrev at : (c : In-Some) → let first = (c.from.result + 1) * 2 ^ 27 in
    (first ≤ c.in-Some.page) × (c.in-Some.page < first + 2 ^ 27) × IsFull c.args.self.now c.args.thread (c.in-Some.page - first) × (get c.args.self.now c.in-Some.page ≡ None)
at c =
    let first = (c.from.result + 1) * 2 ^ 27 in
    let next = first + c.from-2.result in
    full_up_to c.args.self.now c.args.thread c.from-2.result first (ap (λ t. (t + 1) * 2 ^ 27) c.from.ensures) (subst (λ n. IsFull c.args.self.now c.args.thread n) (sym c.from-2.ensures) c.requires.known)
    c.in-Some.page (sym (
    c.in-Some.ensures ∙ least_hole c.self.inside.marks c.self.inside.pages next (first + 2 ^ 27 - next)
    ∙ ap (λ m. least next (first + 2 ^ 27 - next) (λ page. is_none (get m page))) c.self.view_is))

pub overflow_sub-result : goal.overflow_sub-result
overflow_sub-result c = (at c).0

pub overflow_cast-result : goal.overflow_cast-result
overflow_cast-result c = omega (arith, (at c).0, (at c).1)

pub returns-in-Some-clause-full : goal.returns-in-Some-clause-full
returns-in-Some-clause-full c = (at c).2

pub returns-in-Some-clause-stops : goal.returns-in-Some-clause-stops
returns-in-Some-clause-stops c _ =
    let here : arena_first c.args.thread + (c.in-Some.page - (c.from.result + 1) * 2 ^ 27) ≡ c.in-Some.page = omega (arith, (at c).0, c.from.ensures) in
    ap (get c.args.self.now) here ∙ (at c).3

pub returns-in-None-clause-full : goal.returns-in-None-clause-full
returns-in-None-clause-full c =
    let first = (c.from.result + 1) * 2 ^ 27 in
    let next = first + c.from-2.result in
    all_full c.args.self.now c.args.thread c.from-2.result first (ap (λ t. (t + 1) * 2 ^ 27) c.from.ensures) (subst (λ n. IsFull c.args.self.now c.args.thread n) (sym c.from-2.ensures) c.requires.known)
    (sym (
    c.in-None.ensures ∙ least_hole c.self.inside.marks c.self.inside.pages next (first + 2 ^ 27 - next)
    ∙ ap (λ m. least next (first + 2 ^ 27 - next) (λ page. is_none (get m page))) c.self.view_is))
