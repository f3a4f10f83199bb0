use Rattle.std.proofs.Common.{◌≡◌, ◌+◌, ◌-◌, length, ap, ◌∙◌, arith}
use Rattle.page_map.specs.Change.{keys_in}
use Rattle.plain_spaces.specs.Swapping.{passes}
use Rattle.plain_spaces.proofs.Held.{IsNextHeld, is_next_held, no_next_held, quiet_at, cell_at}
use Rattle.plain_spaces.proofs.Keys.{keys_gone}
use Rattle.plain_spaces.proofs.Swapped.{number_is_carried, counted_next, one_at_most}
use Rattle.plain_spaces.proofs.swap.Move.pages.Goals as goal
use Rattle.plain_spaces.proofs.swap.Move.pages.Goals.{In-Some}

-- the next page with a frame or a slot
abbrev at : (c : In-Some) → IsNextHeld c.args.cells.now c.loop-page.next (c.args.first + c.args.count) c.in-Some.page c.in-Some.number
at c = is_next_held c.args.cells.now c.loop-page.next (c.args.first + c.args.count) c.in-Some.page c.in-Some.number c.loop-page.invariant.high c.in-Some.ensures

pub one-pages-requires : goal.one-pages-requires
one-pages-requires c =
    let here = cell_at c.args.cells.now c.in-Some.page c.in-Some.number (at (goal.at.one-pages-requires c).In-Some).there in
    number_is_carried c.args.counts.now c.args.cells.now c.in-Some.page here.0 c.in-Some.number c.requires.counted here.1.0 here.1.1

pub overflow_add-pages : goal.overflow_add-pages
overflow_add-pages c =
    let next = at (goal.at.overflow_add-pages c).In-Some in
    omega (arith, next.low, next.high, c.requires.fits, c.loop-page.invariant.few, c.one-pages.ensures, one_at_most c.args.self c.args.counts.now c.in-Some.number)

pub overflow_add-next : goal.overflow_add-next
overflow_add-next c = omega (arith, (at (goal.at.overflow_add-next c).In-Some).high, c.requires.fits)

pub loop-page-smaller : goal.loop-page-smaller
loop-page-smaller c = let next = at (goal.at.loop-page-smaller c).In-Some in omega (arith, next.low, next.high)

pub loop-page-init : goal.loop-page-init
loop-page-init c = record { low = omega arith; high = omega arith; few = omega arith; counted = omega arith }

pub loop-page-preserved : goal.loop-page-preserved
loop-page-preserved c =
    let was = c.loop-page.invariant in
    let next = at (goal.at.loop-page-preserved c).In-Some in
    let most = one_at_most c.args.self c.args.counts.now c.in-Some.number in
    record {
      low = omega (arith, was.low, next.low);
      high = omega (arith, next.high);
      few = omega (arith, was.low, next.low, was.few, c.one-pages.ensures, most);
      counted = omega (arith, was.counted, c.one-pages.ensures, counted_next c.args.self c.args.counts.now c.args.cells.now _ _ _ _ next);
    }

pub returns : goal.returns
returns c =
    let was = c.loop-page.invariant in
    let end = c.args.first + c.args.count in
    let all : end - c.args.first ≡ c.args.count = omega arith in
    let test = passes c.args.self c.args.counts.now in
    let none = ap length (keys_gone test c.args.cells.now c.loop-page.next end was.high (λ q a b. quiet_at c.args.self c.args.counts.now c.args.cells.now q (no_next_held c.args.cells.now c.loop-page.next end c.in_default.ensures q a b))) in
    omega (arith, was.counted, none) ∙ ap (λ n. length (keys_in c.args.cells.now c.args.first n test)) all
