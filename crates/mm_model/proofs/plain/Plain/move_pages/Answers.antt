use Rattle.std.proofs.Common.{◌≡◌, ◌-◌, ◌/◌, length, true, refl, sym, ap, subst, ◌∙◌, arith}
use Rattle.std.specs.Option.{OnSome}
use Rattle.std.specs.FinMap as map
use Rattle.corten_base.specs.declared.calls.Reply.TheVariants as reply
use Rattle.table_place.specs.Place.{is_page_range, pages_of}
use Rattle.page_map.specs.State.{State, IsConsistent, levels}
use Rattle.plain_spaces.specs.Swapping.{moving_in}
use Rattle.plain_spaces.proofs.Moves.{put_back}
use Rattle.mm_model.specs.Moves.{move_call}
use Rattle.mm_model.specs.Plain.{IsSound}
use Rattle.mm_model.proofs.Kept.{counted_here}
use Rattle.mm_model.proofs.OpCalls.{no_range, named}
use Rattle.mm_model.proofs.SwapSteps.{is_move, wrong, absent, few_move, move_stopped, move_made, move_stays_sound}
use Rattle.mm_model.proofs.plain.Plain.move_pages.Goals as goal
use Rattle.mm_model.proofs.plain.Plain.move_pages.Goals.{After-free, After-get_mut, After-lacking, After-make}

pub returns-in_default : goal.returns-in_default
returns-in_default c = λ thread limbo legal.
    wrong c.args.self.now (move_call c.args.way c.args.space c.args.at c.args.len) c.args.space c.args.at c.args.len _ _ _ (is_move c.args.self.now c.args.way c.args.space c.args.at c.args.len (subst IsConsistent c.self.view_is c.self.invariant.state)) thread limbo legal
    (ap (λ st. is_page_range (levels st) c.args.at c.args.len) (sym c.self.view_is) ∙ no_range (is_page_range c.self.inside.limits.levels c.args.at c.args.len) c.in_default.ensures.some.1)

-- the state that the machine had
abbrev before : After-get_mut → State
before c = record { spaces = c.self.inside.spaces; tables = c.self.inside.tables; limits = c.self.inside.limits; files = c.self.inside.shelf }

-- the range is right
abbrev right : (c : After-get_mut) → is_page_range c.self.inside.limits.levels c.args.at c.args.len ≡ true
right c = c.in-Some.ensures.some.0 refl

pub returns-in_default-get_mut : goal.returns-in_default-get_mut
returns-in_default-get_mut c =
    let at = (goal.at.returns-in_default-get_mut c).After-get_mut in
    named (before at) c.args.self.now c.self.view_is c.number.result c.args.space c.number.ensures.value (λ n. move_call c.args.way n c.args.at c.args.len) reply.NoSpace _
    (λ thread limbo legal. (λ i. (reply.NoSpace, record (before at) { spaces = c.get_mut.follows.holds-at-none i }))
    ∙ absent (before at) (move_call c.args.way c.number.result c.args.at c.args.len) c.number.result c.args.at c.args.len _ _ _ (is_move (before at) c.args.way c.number.result c.args.at c.args.len c.self.invariant.state) thread limbo legal
    (right at) (sym c.in_default-get_mut.ensures.value))

pub lacking-requires-clause-counted : goal.lacking-requires-clause-counted
lacking-requires-clause-counted c =
    counted_here (before (goal.at.lacking-requires-clause-counted c).After-get_mut) _ _ c.self.invariant c.number.result c.in-Some-get_mut.cells.now (sym c.in-Some-get_mut.ensures.value)

pub overflow_cast-need : goal.overflow_cast-need
overflow_cast-need c =
    omega (
      arith,
      few_move (before (goal.at.overflow_cast-need c).After-get_mut) c.self.inside.counts c.self.inside.fronts c.self.invariant c.number.result c.in-Some-get_mut.cells.now (sym c.in-Some-get_mut.ensures.value) c.args.way
          c.first-first.result c.count-count.result,
      c.in-Some-lacking.ensures.some.0,
    )

-- the range, in the words of the definitions
abbrev first_is : (c : After-lacking) → c.first-first.result ≡ c.args.at / 4096
first_is c = c.first-first.ensures.value ∙ ap (λ r. r.first) c.in-Some.ensures.value

abbrev count_is : (c : After-lacking) → c.count-count.result ≡ pages_of c.args.len
count_is c = c.count-count.ensures.value ∙ ap (λ r. r.count) c.in-Some.ensures.value

-- the cells as they were
abbrev same : (c : After-lacking) → c.get_mut.follows.lender c.in-Some-get_mut.cells.now ≡ c.self.inside.spaces
same c =
    subst (λ o. OnSome o (c.get_mut.follows.lender c.in-Some-get_mut.cells.now ≡ map.insert c.self.inside.spaces c.number.result c.in-Some-get_mut.cells.now)) c.in-Some-get_mut.is (c.get_mut.follows.holds c.in-Some-get_mut.cells.now)
    ∙ put_back c.self.inside.spaces c.number.result c.in-Some-get_mut.cells.now (sym c.in-Some-get_mut.ensures.value)

pub invariant_of-self-in-Some-lacking : goal.invariant_of-self-in-Some-lacking
invariant_of-self-in-Some-lacking c =
    let at = goal.at.invariant_of-self-in-Some-lacking c in
    subst (λ spaces. IsSound (record (before at.After-get_mut) { spaces = spaces }) c.self.inside.counts c.self.inside.fronts) (sym (same at.After-lacking)) c.self.invariant

pub returns-in-Some-lacking : goal.returns-in-Some-lacking
returns-in-Some-lacking c =
    let at = goal.at.returns-in-Some-lacking c in
    let st = before at.After-get_mut in
    let n = c.number.result in
    named st c.args.self.now c.self.view_is n c.args.space c.number.ensures.value (λ n. move_call c.args.way n c.args.at c.args.len) c.too_few.result _
    (λ thread limbo legal. (λ i. (c.too_few.ensures i, record st { spaces = same at.After-lacking i }))
    ∙ move_stopped st c.self.inside.counts c.self.inside.fronts c.self.invariant n c.in-Some-get_mut.cells.now (sym c.in-Some-get_mut.ensures.value) c.args.way c.args.at c.args.len c.first-first.result c.count-count.result
    c.free-free.result c.in-Some-lacking.need (right at.After-get_mut) (first_is at.After-lacking) (count_is at.After-lacking) c.free-free.ensures c.in-Some-lacking.ensures.some.0 (omega (arith, c.in-Some-lacking.ensures.some.1, c.free-free.ensures)) thread limbo legal)

pub make-requires-clause-counted : goal.make-requires-clause-counted
make-requires-clause-counted c =
    counted_here (before (goal.at.make-requires-clause-counted c).After-get_mut) _ _ c.self.invariant c.number.result c.in-Some-get_mut.cells.now (sym c.in-Some-get_mut.ensures.value)

-- how many moved
moved : (c : After-free) → c.free-free.result - c.free.result ≡ length (moving_in c.args.way c.self.inside.counts c.in-Some-get_mut.cells.now c.first-first.result c.count-count.result)
moved c = omega (arith, c.make.ensures.taken, c.free-free.ensures, c.free.ensures)

pub overflow_sub-result : goal.overflow_sub-result
overflow_sub-result c = omega (arith, c.make.ensures.taken, c.free-free.ensures, c.free.ensures)

-- the spaces afterwards
abbrev lent : (c : After-make) → c.get_mut.follows.lender c.make.new.cells ≡ map.insert c.self.inside.spaces c.number.result c.make.new.cells
lent c = subst (λ o. OnSome o (c.get_mut.follows.lender c.make.new.cells ≡ map.insert c.self.inside.spaces c.number.result c.make.new.cells)) c.in-Some-get_mut.is (c.get_mut.follows.holds c.make.new.cells)

pub invariant_of-self-2 : goal.invariant_of-self-2
invariant_of-self-2 c =
    let at = goal.at.invariant_of-self-2 c in
    let st = before at.After-get_mut in
    subst (λ spaces. IsSound (record st { spaces = spaces }) c.make.new.counts c.self.inside.fronts) (sym (lent at.After-make))
    (move_stays_sound st c.self.inside.counts c.self.inside.fronts c.self.invariant c.number.result c.in-Some-get_mut.cells.now (sym c.in-Some-get_mut.ensures.value) c.args.way c.args.at c.args.len c.first-first.result c.count-count.result
    c.free-free.result (c.free-free.result - c.free.result) (right at.After-get_mut) (c.first-first.ensures.value ∙ ap (λ r. r.first) c.in-Some.ensures.value) (c.count-count.ensures.value ∙ ap (λ r. r.count) c.in-Some.ensures.value)
    c.free-free.ensures (moved at.After-free) (omega (arith, moved at.After-free, c.in_default-lacking.ensures.none, c.free-free.ensures)) c.make.new.cells c.make.ensures.cells c.make.new.counts c.make.ensures.counts)

pub returns : goal.returns
returns c =
    let at = goal.at.returns c in
    let st = before at.After-get_mut in
    let n = c.number.result in
    let r = reply.Moved (c.free-free.result - c.free.result) in
    named st c.args.self.now c.self.view_is n c.args.space c.number.ensures.value (λ n. move_call c.args.way n c.args.at c.args.len) r _
    (λ thread limbo legal. (λ i. (r, record st { spaces = lent at.After-make i }))
    ∙ move_made st c.self.inside.counts c.self.inside.fronts c.self.invariant n c.in-Some-get_mut.cells.now (sym c.in-Some-get_mut.ensures.value) c.args.way c.args.at c.args.len c.first-first.result c.count-count.result
    c.free-free.result (c.free-free.result - c.free.result) (right at.After-get_mut) (c.first-first.ensures.value ∙ ap (λ r. r.first) c.in-Some.ensures.value) (c.count-count.ensures.value ∙ ap (λ r. r.count) c.in-Some.ensures.value)
    c.free-free.ensures (moved at.After-free) (omega (arith, moved at.After-free, c.in_default-lacking.ensures.none, c.free-free.ensures)) c.make.new.cells c.make.ensures.cells thread limbo legal)
