use Rattle.std.proofs.Common.{◌≡◌, ◌+◌, ◌*◌, ◌/◌, ◌^◌, true, refl, sym, ap, subst, ◌∙◌, arith}
use Rattle.std.specs.Prelude.{is_none, nat_le, nat_lt}
use Rattle.std.specs.Option.{OnSome}
use Rattle.std.specs.FinMap as map
use Rattle.std.proofs.lemmas.Bool.{ltb-true, and_parts}
use Rattle.corten_base.specs.declared.calls.Call.TheVariants as call
use Rattle.corten_base.specs.declared.calls.Reply.TheVariants as reply
use Rattle.table_place.specs.Place.{is_page_range, pages_of}
use Rattle.page_map.specs.Change.{least}
use Rattle.page_map.specs.DontNeed.{given_back}
use Rattle.page_map.specs.Mapping.{hole}
use Rattle.page_map.specs.State.{State, IsConsistent, levels}
use Rattle.page_map.specs.Step.{hole_reply}
use Rattle.page_map.proofs.Least.{least_passes}
use Rattle.plain_spaces.proofs.Moves.{put_back}
use Rattle.plain_spaces.proofs.Variants.{on_err}
use Rattle.plain_counts.specs.declared.counts.Counts.{Counts}
use Rattle.mm_model.specs.Plain.{IsSound}
use Rattle.mm_model.proofs.Given.{wrong, absent, stopped, step_is, given_sound}
use Rattle.mm_model.proofs.Kept.{counted_here}
use Rattle.mm_model.proofs.OpCalls.{no_range, named}
use Rattle.mm_model.proofs.plain.Plain.give_back.Goals as goal
use Rattle.mm_model.proofs.plain.Plain.give_back.Goals.{After-get_mut, After-hole, After-give_back_pages}

pub returns-in_default-clause-ok : goal.returns-in_default-clause-ok
returns-in_default-clause-ok c = λ thread limbo legal.
    wrong c.args.self.now (subst IsConsistent c.self.view_is c.self.invariant.state) c.args.space c.args.at c.args.len thread limbo legal
    (ap (λ st. is_page_range (levels st) c.args.at c.args.len) (sym c.self.view_is) ∙ no_range (is_page_range c.self.inside.limits.levels c.args.at c.args.len) c.in_default.ensures.some.1)

-- the state that the machine had
abbrev before : After-get_mut → State
before c = record { spaces = c.self.inside.spaces; tables = c.self.inside.tables; limits = c.self.inside.limits; files = c.self.inside.shelf }

-- the range is right
abbrev right : (c : After-get_mut) → is_page_range c.self.inside.limits.levels c.args.at c.args.len ≡ true
right c = c.in-Some.ensures.some.0 refl

pub returns-in_default-get_mut-clause-ok : goal.returns-in_default-get_mut-clause-ok
returns-in_default-get_mut-clause-ok c =
    let at = (goal.at.returns-in_default-get_mut-clause-ok c).After-get_mut in
    named (before at) c.args.self.now c.self.view_is c.number.result c.args.space c.number.ensures.value (λ n. call.DontNeed n c.args.at c.args.len) reply.NoSpace _
    (λ thread limbo legal. (λ i. (reply.NoSpace, record (before at) { spaces = c.get_mut.follows.holds-at-none i }))
    ∙ absent (before at) c.self.invariant.state c.number.result c.args.at c.args.len thread limbo legal (right at) (sym c.in_default-get_mut.ensures.value))

abbrev first_is : (c : After-hole) → c.first-first.result ≡ c.args.at / 4096
first_is c = c.first-first.ensures.value ∙ ap (λ r. r.first) c.in-Some.ensures.value

abbrev count_is : (c : After-hole) → c.count-count.result ≡ pages_of c.args.len
count_is c = c.count-count.ensures.value ∙ ap (λ r. r.count) c.in-Some.ensures.value

-- the first page without a cell, in the words of the definitions
abbrev holes_are : (c : After-hole) → c.hole.result ≡ hole c.in-Some-get_mut.cells.now c.args.at c.args.len
holes_are c = c.hole.ensures ∙ (λ i. least (first_is c i) (count_is c i) (λ page. is_none (map.get c.in-Some-get_mut.cells.now page)))

pub overflow_mul-result : goal.overflow_mul-result
overflow_mul-result c =
    let user = c.first-first.ensures.user.user in
    let below = ltb-true (c.in-Some.range.first + c.in-Some.range.count) (2 ^ 44) (and_parts (nat_le 16 c.in-Some.range.first) (nat_lt (c.in-Some.range.first + c.in-Some.range.count) (2 ^ 44)) user).1 in
    let at = least_passes c.first-first.result c.count-count.result (λ page. is_none (map.get c.in-Some-get_mut.cells.now page)) c.in-Some-hole.hole (sym c.in-Some-hole.ensures) in
    omega (arith, at.1, below, c.first-first.ensures.value, c.count-count.ensures.value)

-- the cells as they were
abbrev same : (c : After-hole) → c.get_mut.follows.lender c.in-Some-get_mut.cells.now ≡ c.self.inside.spaces
same c =
    subst (λ o. OnSome o (c.get_mut.follows.lender c.in-Some-get_mut.cells.now ≡ map.insert c.self.inside.spaces c.number.result c.in-Some-get_mut.cells.now)) c.in-Some-get_mut.is (c.get_mut.follows.holds c.in-Some-get_mut.cells.now)
    ∙ put_back c.self.inside.spaces c.number.result c.in-Some-get_mut.cells.now (sym c.in-Some-get_mut.ensures.value)

pub invariant_of-self-in-Some-hole : goal.invariant_of-self-in-Some-hole
invariant_of-self-in-Some-hole c =
    let at = goal.at.invariant_of-self-in-Some-hole c in
    subst (λ spaces. IsSound (record (before at.After-get_mut) { spaces = spaces }) c.self.inside.counts c.self.inside.fronts) (sym (same at.After-hole)) c.self.invariant

pub returns-in-Some-hole-clause-ok : goal.returns-in-Some-hole-clause-ok
returns-in-Some-hole-clause-ok c =
    let at = goal.at.returns-in-Some-hole-clause-ok c in
    let st = before at.After-get_mut in
    let n = c.number.result in
    named st c.args.self.now c.self.view_is n c.args.space c.number.ensures.value (λ n. call.DontNeed n c.args.at c.args.len) (reply.Hole (4096 * c.in-Some-hole.hole)) _
    (λ thread limbo legal. (λ i. (reply.Hole (4096 * c.in-Some-hole.hole), record st { spaces = same at.After-hole i }))
    ∙ stopped st c.self.invariant.state n c.args.at c.args.len thread limbo legal (right at.After-get_mut) c.in-Some-get_mut.cells.now (sym c.in-Some-get_mut.ensures.value) (reply.Hole (4096 * c.in-Some-hole.hole))
    (ap hole_reply (sym (holes_are at.After-hole) ∙ c.in-Some-hole.is)))

pub give_back_pages-requires-clause-counted : goal.give_back_pages-requires-clause-counted
give_back_pages-requires-clause-counted c =
    counted_here (before (goal.at.give_back_pages-requires-clause-counted c).After-get_mut) _ _ c.self.invariant c.number.result c.in-Some-get_mut.cells.now (sym c.in-Some-get_mut.ensures.value)

-- the spaces and the cells afterwards
abbrev lent : (c : After-give_back_pages) → c.get_mut.follows.lender c.give_back_pages.new.cells ≡ map.insert c.self.inside.spaces c.number.result c.give_back_pages.new.cells
lent c = subst (λ o. OnSome o (c.get_mut.follows.lender c.give_back_pages.new.cells ≡ map.insert c.self.inside.spaces c.number.result c.give_back_pages.new.cells)) c.in-Some-get_mut.is (c.get_mut.follows.holds c.give_back_pages.new.cells)

pub invariant_of-self-2 : goal.invariant_of-self-2
invariant_of-self-2 c =
    let at = goal.at.invariant_of-self-2 c in
    let st = before at.After-get_mut in
    subst (λ spaces. IsSound (record st { spaces = spaces }) c.give_back_pages.new.counts c.self.inside.fronts) (sym (lent at.After-give_back_pages))
    (given_sound st c.number.result c.args.at c.args.len c.in-Some-get_mut.cells.now c.give_back_pages.new.cells c.self.inside.counts c.give_back_pages.new.counts c.self.inside.fronts c.self.invariant (right at.After-get_mut)
    (sym c.in-Some-get_mut.ensures.value) (sym (holes_are at.After-hole) ∙ c.in_default-hole.is)
    (c.in_ok-give_back_pages.ensures.cells ∙ (λ i. given_back (first_is at.After-hole i) (count_is at.After-hole i) c.in-Some-get_mut.cells.now)) c.in_ok-give_back_pages.ensures.counts)

pub returns-clause-ok : goal.returns-clause-ok
returns-clause-ok c =
    let at = goal.at.returns-clause-ok c in
    let st = before at.After-get_mut in
    let n = c.number.result in
    named st c.args.self.now c.self.view_is n c.args.space c.number.ensures.value (λ n. call.DontNeed n c.args.at c.args.len) reply.Ok _
    (λ thread limbo legal. (λ i. (reply.Ok, record st { spaces = lent at.After-give_back_pages i }))
    ∙ step_is st c.self.invariant.state n c.args.at c.args.len thread limbo legal (right at.After-get_mut) c.in-Some-get_mut.cells.now (sym c.in-Some-get_mut.ensures.value) (sym (holes_are at.After-hole) ∙ c.in_default-hole.is)
    c.give_back_pages.new.cells (c.in_ok-give_back_pages.ensures.cells ∙ (λ i. given_back (first_is at.After-hole i) (count_is at.After-hole i) c.in-Some-get_mut.cells.now)))

-- without memory nothing has changed
abbrev kept : (c : After-give_back_pages) → c.give_back_pages.new.cells ≡ c.in-Some-get_mut.cells.now → c.get_mut.follows.lender c.give_back_pages.new.cells ≡ c.self.inside.spaces
kept c e = lent c ∙ ap (map.insert c.self.inside.spaces c.number.result) e ∙ put_back c.self.inside.spaces c.number.result c.in-Some-get_mut.cells.now (sym c.in-Some-get_mut.ensures.value)

pub invariant_of-self-in_err-give_back_pages : goal.invariant_of-self-in_err-give_back_pages
invariant_of-self-in_err-give_back_pages c =
    let at = goal.at.invariant_of-self-in_err-give_back_pages c in
    let k = c.in_err-give_back_pages.ensures.kept in
    let P : State × Counts → Type 0 = λ x. IsSound x.0 x.1 c.self.inside.fronts in
    subst P (λ i. (record (before at.After-get_mut) { spaces = sym (kept at.After-give_back_pages k.same_cells) i }, sym k.same_counts i)) c.self.invariant

pub returns-in_err-give_back_pages-clause-err : goal.returns-in_err-give_back_pages-clause-err
returns-in_err-give_back_pages-clause-err c =
    let at = goal.at.returns-in_err-give_back_pages-clause-err c in
    on_err c.from_residual.result ((λ i. record (before at.After-get_mut) { spaces = kept at.After-give_back_pages c.in_err-give_back_pages.ensures.kept.same_cells i }) ∙ c.self.view_is)
