-- Where a range of pages goes that is to have another number of pages.
--     all_asked      a range of user pages is asked for
--     arena_asked      the arena of a thread is
--     room_is      whether there is room behind it
--     far_is      whether its last page would be too far in its file
--     goes_to, goes_nowhere      it moves to the least gap;  there is none
use Rattle.std.specs.Prelude.{◌≡◌, ℕ, ◌+◌, ◌-◌, ◌*◌, ◌^◌, ◌<◌, ◌≤◌, ◌&&◌, ◌||◌, Bool, true, false, cond, not, List, nat_lt, nat_le, Option, Some, None, is_some, is_none}
use Rattle.std.specs.Option.{option_map, option_map_or}
use Rattle.std.specs.FinMap as fin
use Rattle.std.proofs.Common.{sym, refl, ◌∙◌, ap, subst, arith, inl, inr}
use Rattle.std.proofs.Math.Pow.{pow_mono}
use Rattle.std.proofs.lemmas.Bool.{and_from, le-leb, lt-ltb, le-ltb, cases_lt, true≢false, false≢true}
use Rattle.corten_base.specs.declared.calls.Backing.{Backing}
use Rattle.corten_base.specs.declared.calls.Backing.TheVariants as backing
use Rattle.corten_base.specs.declared.numbers.Status.{Status}
use Rattle.corten_base.specs.declared.numbers.Status.TheVariants as status
use Rattle.table_place.specs.Place.{is_user_range}
use Rattle.table_place.proofs.Tables.{user_page, in_range}
use Rattle.page_map.specs.declared.cell.Cell.{Cell as PageCell}
use Rattle.page_map.specs.declared.cell.Cell.TheVariants.{Anon, File, Mapped, Swapped}
use Rattle.page_map.specs.Cell.{AddressSpace, backed, backing_of, index_of, goes_on, perm_of, status_of}
use Rattle.page_map.specs.Change.{least}
use Rattle.page_map.specs.Mapping.{gap, arena_first, is_free}
use Rattle.page_map.specs.Remap.{has_room, is_too_far, moves, lacks_room}
use Rattle.page_map.specs.State.{State, space_at}
use Rattle.page_map.proofs.Least.{least_passes, unanswered}
use Rattle.page_map.proofs.Owners.{same_some}
use Rattle.page_map.proofs.Steps.{not_none}
use Rattle.machine_plan.specs.HeldRows.{Row, RowsShown, IsAsked, AreAsked, AnswersGap}
use Rattle.held_spans.specs.declared.resizing.Resize.{Resize as Range}
use Rattle.held_spans.specs.declared.resizing.Placing.TheVariants.{Moves}
use Rattle.held_spans.specs.declared.runs.Run.{Run}
use Rattle.held_spans.specs.Spans.{StandsAs, further, pages_on, is_there, base_of}
use Rattle.held_spans.specs.Runs.{AnswersRun}
use Rattle.held_spans.specs.Walks.{AnswersMapped}
use Rattle.held_spans.specs.Resizing.{AllAsked, range_of, IsPlaced}
use Rattle.held_spans.proofs.Leasts.{free_range, taken_range}

module _ (levels space : ℕ) (rows : List Row) (asked : AllAsked levels space rows) where
  pub all_asked : (first count : ℕ) → is_user_range levels first count ≡ true → AreAsked space rows first count
  all_asked first count user page inside = asked page (user_page levels first count page user inside)

  pub arena_asked : (thread : ℕ) → 4 ≤ levels → thread < 8 → AreAsked space rows (arena_first thread) (2 ^ 27)
  arena_asked thread deep few = all_asked (arena_first thread) (2 ^ 27) (and_from _ _ (le-leb 16 (arena_first thread) (omega (arith, few))) (lt-ltb (arena_first thread + 2 ^ 27) (2 ^ (9 * levels - 1)) (omega (arith, few, pow_mono (wide levels deep)))))
    where
      wide : (n : ℕ) → 4 ≤ n → 35 ≤ 9 * n - 1
      wide n deep = omega (arith, deep)

-- ---- room

free_is : (cells : AddressSpace) (first count : ℕ) (o : Option ℕ) → least first count (λ page. is_some (fin.get cells page)) ≡ o → is_none o ≡ is_free cells first count
free_is cells first count None e = sym (free_range cells first count (λ q a b. no_cell q (fin.get cells q) (unanswered (λ n. cond (is_some (fin.get cells n)) (Some n) None) first count e q a b)))
  where
    no_cell : (q : ℕ) (o : Option PageCell) → ◌≡◌ {A = Option ℕ} (cond (is_some o) (Some q) None) None → o ≡ None
    no_cell q None h = refl
    no_cell q (Some c) h = absurd (not_none h)
free_is cells first count (Some page) e =
    let at = least_passes first count (λ page. is_some (fin.get cells page)) page e in
    sym (taken_range cells first count page at.0 at.1 at.2)

pub none_by : (o : Option ℕ) (b : Bool) → is_some o ≡ not b → b ≡ is_none o
none_by None true e = refl
none_by None false e = absurd (false≢true e)
none_by (Some n) true e = absurd (true≢false e)
none_by (Some n) false e = refl

pub room_is : (rows : List Row) (levels : ℕ) (r : Range) (answer : Option ℕ) → 16 ≤ r.first → r.old < r.new → r.first + r.old + (r.new - r.old) < 2 ^ (9 * levels - 1)
    → AnswersMapped rows (r.first + r.old) (r.new - r.old) answer → (space : ℕ) (st : State) → AllAsked levels space rows → RowsShown st rows → is_none answer ≡ has_room levels (space_at st space) (range_of r)
room_is rows levels r answer low more high answers space st asked shown =
    let user = and_from (nat_le 16 (r.first + r.old)) _ (le-leb 16 (r.first + r.old) (omega (arith, low))) (lt-ltb (r.first + r.old + (r.new - r.old)) (2 ^ (9 * levels - 1)) high) in
    free_is (space_at st space) (r.first + r.old) (r.new - r.old) answer (sym (answers space st (all_asked levels space rows asked (r.first + r.old) (r.new - r.old) user) shown))
    ∙ ap (λ b. b && is_free (space_at st space) (r.first + r.old) (r.new - r.old)) (sym user)

-- ---- too far

unfoldable pub beyond : Backing → ℕ → Bool
beyond backing.Zero more = false
beyond (backing.File file index) more = nat_lt (2 ^ 62) (index + more)

on_none : (what : Backing) → pages_on what 0 ≡ what
on_none backing.Zero = refl
on_none (backing.File file index) = ap (backing.File file) (plain index)
  where
    plain : (n : ℕ) → n + 0 ≡ n
    plain n = omega arith

invalid_is : (s : Status) → status.Invalid ≡ further s 0 → s ≡ status.Invalid
invalid_is status.Invalid e = refl
invalid_is (status.Anon perm) e = absurd (cc)
invalid_is (status.File perm file index) e = absurd (cc)
invalid_is (status.Mapped perm frame) e = absurd (cc)
invalid_is (status.Swapped perm slot) e = absurd (cc)

there_is : (c : PageCell) (s : Status) → status_of (Some c) ≡ further s 0 → is_there s ≡ true
there_is c status.Invalid e = absurd (something c e)
  where
    something : (c : PageCell) → status_of (Some c) ≡ status.Invalid → ⊥
    something (Anon perm) e = cc
    something (File perm file index) e = cc
    something (Mapped perm origin frame bytes) e = cc
    something (Swapped perm origin slot bytes) e = cc
there_is c (status.Anon perm) e = refl
there_is c (status.File perm file index) e = refl
there_is c (status.Mapped perm frame) e = refl
there_is c (status.Swapped perm slot) e = refl

unfoldable pub last_test : ℕ → PageCell → Bool
last_test more c = nat_lt (2 ^ 62) (index_of (backing_of (goes_on c more)))

test_is : (c : PageCell) (more : ℕ) → last_test more c ≡ beyond (backing_of c) more
unfolding last_test beyond
test_is c more = go (backing_of c)
  where
    go : (b : Backing) → nat_lt (2 ^ 62) (index_of (backing_of (backed b (perm_of c) more))) ≡ beyond b more
    go backing.Zero = refl
    go (backing.File file index) = refl

-- the cell of the first page of a run
far_by : (cell : Option PageCell) (r : Run) (more : ℕ) → base_of r.status r.origin ≡ r.origin → StandsAs r.status r.origin 0 cell → option_map_or (last_test more) cell false ≡ beyond r.origin more
unfolding beyond
far_by None r more base stands =
    ap (λ b. beyond b more) (sym (ap (λ s. base_of s r.origin) (invalid_is r.status stands.status)) ∙ base)
far_by (Some c) r more base stands =
    test_is c more ∙ ap (λ b. beyond b more) (same_some (stands.origin (there_is c r.status stands.status)) ∙ on_none r.origin)

pub far_is : (rows : List Row) (r : Range) (run : Run) → 1 ≤ r.old → r.old < r.new → 1 ≤ run.count → AnswersRun rows (r.first + r.old - 1) (r.first + r.old) run
    → (space : ℕ) (st : State) → IsAsked space rows (r.first + r.old - 1) → RowsShown st rows → beyond run.origin (r.new - r.old) ≡ is_too_far (space_at st space) (range_of r)
unfolding last_test
far_is rows r run old more some answers space st asked shown =
    let last = r.first + r.old - 1 in
    let is = answers space st one_asked shown in
    let at : last + 0 ≡ last = omega arith in
    sym (far_by (fin.get (space_at st space) last) run (r.new - r.old) is.base (subst (λ q. StandsAs run.status run.origin 0 (fin.get (space_at st space) q)) at (is.each 0 (omega (arith, some)))))
    ∙ ap (λ b. b && option_map_or (last_test (r.new - r.old)) (fin.get (space_at st space) last) false) (sym (lt-ltb r.old r.new more))
  where
    one_asked : AreAsked space rows (r.first + r.old - 1) (r.first + r.old - (r.first + r.old - 1))
    one_asked page inside =
        let at = in_range (r.first + r.old - 1) (r.first + r.old - (r.first + r.old - 1)) page inside in
        let same : r.first + r.old - 1 ≡ page = omega (arith, at.0, at.1, old) in
        subst (IsAsked space rows) same asked

pub test_moved : (index more : ℕ) → more ≤ 2 ^ 62 → nat_lt (2 ^ 62 - more) index ≡ nat_lt (2 ^ 62) (index + more)
test_moved index more few = elim (cases_lt (2 ^ 62 - more) index) [
  | inl l ↦ lt-ltb (2 ^ 62 - more) index l ∙ sym (lt-ltb (2 ^ 62) (index + more) (omega (arith, l, few)))
  | inr m ↦ le-ltb (2 ^ 62 - more) index m ∙ sym (le-ltb (2 ^ 62) (index + more) (omega (arith, m, few)))
]

-- ---- the gap

module _ (rows : List Row) (levels thread : ℕ) (r : Range) (deep : 4 ≤ levels) (few : thread < 8) (more : r.old < r.new) (answer : Option ℕ) (answers : AnswersGap rows (arena_first thread) (2 ^ 27) r.new answer)
    (space : ℕ) (st : State) (asked : AllAsked levels space rows) (shown : RowsShown st rows)
    (near : is_too_far (space_at st space) (range_of r) ≡ false) (full : has_room levels (space_at st space) (range_of r) ≡ false) where
  gap_is : gap thread (space_at st space) r.new ≡ answer
  unfolding gap
  gap_is = sym (answers space st (arena_asked levels space rows asked thread deep few) shown)

  pub moving : moves levels (space_at st space) (range_of r) ≡ true
  moving = and_from _ _ (lt-ltb r.old r.new more) (ap not full)

  lacking : lacks_room levels thread (space_at st space) (range_of r) ≡ is_none answer
  lacking = (λ i. (moving i && is_none (gap_is i)) || near i) ∙ or_false (is_none answer)
    where
      or_false : (b : Bool) → (b || false) ≡ b
      or_false true = refl
      or_false false = refl

  pub placed : (o : Option ℕ) → answer ≡ o → IsPlaced levels thread (space_at st space) (range_of r) (option_map Moves o)
  placed None e = lacking ∙ ap is_none e
  placed (Some to) e = (lacking ∙ ap is_none e, moving, gap_is ∙ e)
