use Rattle.std.proofs.Common.{◌≡◌, ◌+◌, ◌-◌, ◌≤◌, length, refl, sym, ap, subst, ◌∙◌, arith}
use Rattle.page_map.specs.Change.{keys_in}
use Rattle.plain_counts.specs.Counts.{AreCounted}
use Rattle.plain_counts.specs.Owners.{unused_of}
use Rattle.plain_spaces.specs.Swapping.{loses_of, passes, taken, to}
use Rattle.plain_spaces.proofs.Followed.{all_followed, all_follow_on, all_still_counted}
use Rattle.plain_spaces.proofs.Held.{IsNextHeld, is_next_held, no_next_held, quiet_at}
use Rattle.plain_spaces.proofs.Keys.{keys_gone, keys_past}
use Rattle.plain_spaces.proofs.Swaps.{all_to_do, to_do_next, to_do_none}
use Rattle.plain_spaces.proofs.Swapped.{still_to_do, still_balanced, still_enough, number_left, alike, moves_follow}
use Rattle.plain_spaces.proofs.swap.Move.make.Goals as goal
use Rattle.plain_spaces.proofs.swap.Move.make.Goals.{In-Some}

-- the next page with a frame or a slot
abbrev at : (c : In-Some) → IsNextHeld c.loop-page.cells c.loop-page.next (c.args.first + c.args.count) c.in-Some.page c.in-Some.number
at c = is_next_held c.loop-page.cells c.loop-page.next (c.args.first + c.args.count) c.in-Some.page c.in-Some.number c.loop-page.invariant.high c.in-Some.ensures

-- the counts are no fewer than the cells
abbrev counted : (c : In-Some) → AreCounted c.loop-page.counts c.loop-page.cells
counted c = all_still_counted _ _ _ _ c.requires.counted c.loop-page.invariant.follow

-- there are enough numbers from the next page on
enough : (c : In-Some) → length (keys_in c.loop-page.cells c.in-Some.page (c.args.first + c.args.count - c.in-Some.page) (passes c.args.self c.loop-page.counts)) ≤ length (unused_of (taken c.args.self c.loop-page.counts))
enough c = omega (
  arith,
  c.loop-page.invariant.enough,
  ap length (keys_past (passes c.args.self c.loop-page.counts) c.loop-page.cells c.loop-page.next c.in-Some.page (c.args.first + c.args.count) (at c).low (omega (arith, (at c).high))
      (λ q a b. quiet_at c.args.self c.loop-page.counts c.loop-page.cells q ((at c).before q a b))),
)

pub loop-page-init : goal.loop-page-init
loop-page-init c =
    let all : c.args.first + c.args.count - c.args.first ≡ c.args.count = omega arith in
    record {
      low = omega arith;
      high = omega arith;
      cells = refl;
      enough = subst (λ n. length (keys_in c.args.cells.now c.args.first n (passes c.args.self c.args.counts.now)) ≤ length (unused_of (taken c.args.self c.args.counts.now))) (sym all) c.requires.enough;
      balance = refl;
      follow = all_followed c.args.counts.now c.args.cells.now;
    }

pub move_page-requires-clause-here : goal.move_page-requires-clause-here
move_page-requires-clause-here c = (at (goal.at.move_page-requires-clause-here c).In-Some).there

pub move_page-requires-clause-counted : goal.move_page-requires-clause-counted
move_page-requires-clause-counted c = counted (goal.at.move_page-requires-clause-counted c).In-Some

pub move_page-requires-clause-enough : goal.move_page-requires-clause-enough
move_page-requires-clause-enough c =
    let here = (goal.at.move_page-requires-clause-enough c).In-Some in
    number_left c.args.self c.loop-page.counts c.loop-page.cells c.in-Some.page (c.args.first + c.args.count) c.in-Some.number (unused_of (taken c.args.self c.loop-page.counts)) (at here).high (at here).there (enough here)

pub overflow_add-next : goal.overflow_add-next
overflow_add-next c = omega (arith, (at (goal.at.overflow_add-next c).In-Some).high, c.requires.fits)

pub loop-page-smaller : goal.loop-page-smaller
loop-page-smaller c = let next = at (goal.at.loop-page-smaller c).In-Some in omega (arith, next.low, next.high)

pub loop-page-preserved : goal.loop-page-preserved
loop-page-preserved c =
    let was = c.loop-page.invariant in
    let here = (goal.at.loop-page-preserved c).In-Some in
    let next = at here in
    let end = c.args.first + c.args.count in
    let way = c.args.self in
    let s = c.move_page.ensures in
    let tests = alike way c.in-Some.page c.loop-page.cells c.move_page.new.cells c.loop-page.counts c.move_page.new.counts (counted here) s in
    record {
      low = omega (arith, was.low, next.low);
      high = omega (arith, next.high);
      cells = sym (still_to_do (to way) (loses_of way) (passes way c.loop-page.counts) (passes way c.move_page.new.counts) c.in-Some.page end _ _ _ _ _ _ s next.high tests)
          ∙ sym (to_do_next (to way) (passes way c.loop-page.counts) c.loop-page.cells c.loop-page.next c.in-Some.page end (unused_of (taken way c.loop-page.counts)) next.low (omega (arith, next.high))
          (λ q a b. quiet_at way c.loop-page.counts c.loop-page.cells q (next.before q a b)))
          ∙ was.cells;
      enough = still_enough (to way) (loses_of way) (passes way c.loop-page.counts) (passes way c.move_page.new.counts) c.in-Some.page end _ _ _ _ _ _ s next.high tests (enough here);
      balance = omega (
        arith,
        was.balance,
        still_balanced (to way) (loses_of way) (passes way c.loop-page.counts) (passes way c.move_page.new.counts) c.in-Some.page end _ _ _ _ _ _ s next.high tests,
        ap length (keys_past (passes way c.loop-page.counts) c.loop-page.cells c.loop-page.next c.in-Some.page end next.low (omega (arith, next.high))
            (λ q a b. quiet_at way c.loop-page.counts c.loop-page.cells q (next.before q a b))),
      );
      follow = all_follow_on _ _ _ _ _ _ was.follow (moves_follow way c.in-Some.page c.loop-page.cells c.move_page.new.cells c.loop-page.counts c.move_page.new.counts s);
    }

pub returns-clause-cells : goal.returns-clause-cells
returns-clause-cells c =
    let was = c.loop-page.invariant in
    let end = c.args.first + c.args.count in
    let way = c.args.self in
    sym (to_do_none (to way) (passes way c.loop-page.counts) c.loop-page.cells c.loop-page.next end (unused_of (taken way c.loop-page.counts)) was.high
    (λ q a b. quiet_at way c.loop-page.counts c.loop-page.cells q (no_next_held c.loop-page.cells c.loop-page.next end c.in_default.ensures q a b)))
    ∙ was.cells
    ∙ all_to_do (to way) (passes way c.args.counts.now) c.args.cells.now c.args.first c.args.count (unused_of (taken way c.args.counts.now))

pub returns-clause-taken : goal.returns-clause-taken
returns-clause-taken c =
    let was = c.loop-page.invariant in
    let end = c.args.first + c.args.count in
    let way = c.args.self in
    let all : end - c.args.first ≡ c.args.count = omega arith in
    let none = ap length (keys_gone (passes way c.loop-page.counts) c.loop-page.cells c.loop-page.next end was.high
    (λ q a b. quiet_at way c.loop-page.counts c.loop-page.cells q (no_next_held c.loop-page.cells c.loop-page.next end c.in_default.ensures q a b))) in
    omega (arith, was.balance, none, ap (λ n. length (keys_in c.args.cells.now c.args.first n (passes way c.args.counts.now))) all)
