-- What a book keeps over a sweep.
use Rattle.std.proofs.Common.{◌≡◌, ℕ, ◌+◌, ◌<◌, ◌≤◌, not, Bool, true, false, cond, List, [], ◌∷◌, length, map, refl, sym, ap, subst, ◌∙◌, inl, inr, ⊎_elim, ◌⊎◌, arith}
use Rattle.std.specs.Prelude.{◌||◌, ◌↔◌, Some}
use Rattle.std.specs.List.{All, filter, range_with_len}
use Rattle.std.specs.FinSet as set
use Rattle.std.proofs.lemmas.Bool.{cases_eq}
use Rattle.std.proofs.lemmas.List.{length-map}
use Rattle.std.proofs.lemmas.List.Elements.{All-head, All-tail, All-nil, All-cons, All-same, All-map, All-filter}
use Rattle.std.proofs.lemmas.List.Filters.{length-filter_both}
use Rattle.free_numbers.specs.Numbers.{NumbersBelow}
use Rattle.walk_core.specs.declared.lists.PutRow.{PutRow}
use Rattle.walk_core.specs.Lists.{times, Has, among}
use Rattle.walk_core.proofs.RowLists.{times-nil, times-cons_same, times-cons_other, among_true, among_false, among_has, times-filter}
use Rattle.walk_core.proofs.Boot.{times-range_in}
use Rattle.row_layout.specs.declared.limbo.Sampled.{Sampled}
use Rattle.epoch_grace.specs.Sweeping.{IsStock, Sweeps, is_read, rows_of, IsKept as IsLeft}
use Rattle.epoch_grace.proofs.Stocked.{IsTidy, tidy_by_loads}
use Rattle.machine_plan.specs.Books.{BookData, state_of, free_list, free_rows_within, RowSum, HasBlocker, put_of}
use Rattle.machine_plan.specs.Follows.{machine}
use Rattle.book.specs.Pieces.{AreBelow}
use Rattle.book.specs.Entries.{FirstTells}
use Rattle.book.specs.Kept.{IsKept, IsTableRow}
use Rattle.book_sweep.specs.Sweeping.{View}
use Rattle.book_sweep.proofs.Rows.{AreNew, Grows, grows}

-- Before

-- the free rows of a book as the shared table sees them
pub stock : (v : View) (b : BookData) → AreBelow b.free → v.found ≡ Some b → IsStock machine v b.limbo b.free
stock v b below found = record { book = b; found = found; in_limbo = refl; is_free = λ row. listed row (set.contains b.free.numbers row) refl }
  where
    listed : (row : ℕ) (is : Bool) → set.contains b.free.numbers row ≡ is → set.contains b.free.numbers row ≡ among (free_list b) row
    listed row true is =
        let count = times-filter (set.contains b.free.numbers) row (range_with_len 0 b.free.limit) ∙ ap (λ c. cond c (times row (range_with_len 0 b.free.limit)) 0) is in
        is ∙ sym (among_true (free_list b) row (omega (arith, count, times-range_in row 0 b.free.limit (omega arith) (omega (arith, below.below row is)))))
    listed row false is = is ∙ sym (among_false (free_list b) row (times-filter (set.contains b.free.numbers) row (range_with_len 0 b.free.limit) ∙ ap (λ c. cond c (times row (range_with_len 0 b.free.limit)) 0) is))

pub rows_below : (tables limit : ℕ) (limbo : List Sampled) → tables < limit → All (IsTableRow tables) limbo → All (λ (s : Sampled). s.row < limit) limbo
rows_below tables limit [] less all = All-nil (λ (s : Sampled). s.row < limit)
rows_below tables limit (x ∷ xs) less all =
    All-cons (λ (s : Sampled). s.row < limit) x xs (omega (arith, less, (All-head (IsTableRow tables) x xs all).1)) (rows_below tables limit xs less (All-tail (IsTableRow tables) x xs all))

-- Afterwards

pub row_small : (tables : ℕ) (xs : List Sampled) (q : ℕ) → All (IsTableRow tables) xs → Has (rows_of xs) q → q ≤ tables
row_small tables [] q all has = absurd (omega (arith, has, times-nil q))
row_small tables (y ∷ ys) q all has = elim (cases_eq y.row q) [
  | inl e ↦ omega (arith, e, (All-head (IsTableRow tables) y ys all).1)
  | inr ne ↦ row_small tables ys q (All-tail (IsTableRow tables) y ys all) (omega (arith, has, times-cons_other q y.row (rows_of ys) ne))
]

-- a filter leaves no row more often
fewer : (t : Sampled → Bool) (xs : List Sampled) (r : ℕ) → times r (rows_of (filter t xs)) ≤ times r (rows_of xs)
fewer t [] r = omega arith
fewer t (y ∷ ys) r = go (t y) (filter t ys) (fewer t ys r)
  where
    go : (b : Bool) (fs : List Sampled) → times r (rows_of fs) ≤ times r (rows_of ys) → times r (rows_of (cond b (y ∷ fs) fs)) ≤ times r (rows_of (y ∷ ys))
    go true fs rest = elim (cases_eq y.row r) [
      | inl e ↦ omega (arith, rest, times-cons_same r y.row (rows_of fs) e, times-cons_same r y.row (rows_of ys) e)
      | inr ne ↦ omega (arith, rest, times-cons_other r y.row (rows_of fs) ne, times-cons_other r y.row (rows_of ys) ne)
    ]
    go false fs rest = elim (cases_eq y.row r) [
      | inl e ↦ omega (arith, rest, times-cons_same r y.row (rows_of ys) e)
      | inr ne ↦ omega (arith, rest, times-cons_other r y.row (rows_of ys) ne)
    ]

rows_back : (tables : ℕ) (xs : List Sampled) → All (λ (k : PutRow). (1 ≤ k.row) × (k.row ≤ tables)) (map put_of xs) → All (IsTableRow tables) xs
rows_back tables [] all = All-nil (IsTableRow tables)
rows_back tables (x ∷ xs) all =
    let P : PutRow → Type 0 = λ k. (1 ≤ k.row) × (k.row ≤ tables) in
    All-cons (IsTableRow tables) x xs (All-head P (put_of x) (map put_of xs) all) (rows_back tables xs (All-tail P (put_of x) (map put_of xs) all))

either : (a b : Bool) → (a || b) ≡ true → (a ≡ true) ⊎ (b ≡ true)
either true b is = inl refl
either false b is = inr is

has_blockers : (numbers : List ℕ) (left : List Sampled) → length numbers ≤ 8 → All (IsLeft numbers) left → All HasBlocker left
has_blockers numbers [] few all = All-nil HasBlocker
has_blockers numbers (x ∷ xs) few all =
    let kept = All-head (IsLeft numbers) x xs all in
    All-cons HasBlocker x xs (record { there = omega (arith, few, kept.there); odd = kept.odd; same = kept.same }) (has_blockers numbers xs few (All-tail (IsLeft numbers) x xs all))

first_blocked : (left : List Sampled) → All HasBlocker left → FirstTells left
first_blocked [] all = record { none = λ s first free. refl }
first_blocked (x ∷ xs) all = record { none = λ s first free. absurd (omega (arith, free, (All-head HasBlocker x xs all).there, ap (λ (y : Sampled). y.blocker) (Rattle.std.proofs.lemmas.Option.same_Some x s first))) }

-- The rows that nobody reads by these numbers went from limbo to the free rows, and those that are left have their blockers.
pub record Moves (numbers : List ℕ) (rows : ℕ) (b : BookData) (free' : NumbersBelow) (left : List Sampled) : Type 0 where
  pub tidy : IsTidy rows b.limbo b.free
  pub limit : free'.limit ≡ b.free.limit
  pub stay : map put_of left ≡ map put_of (filter (is_read numbers) b.limbo)
  pub freed : (row : ℕ) → set.contains free'.numbers row ≡ (set.contains b.free.numbers row || among (rows_of (filter (λ s. not (is_read numbers s)) b.limbo)) row)
  pub blockers : All HasBlocker left

pub moves_by_sweep : (v w : View) (b : BookData) (free' : NumbersBelow) (left : List Sampled) (above journal_room limbo_room : ℕ) → IsKept b above journal_room limbo_room → v.found ≡ Some b → v.core.has_book ≡ true → 1 ≤ v.layout.passes → v.layout.passes ≤ 8
    → (sweeps : Sweeps machine v b.limbo b.free w left free') → Moves sweeps.numbers v.layout.rows b free' left
moves_by_sweep v w b free' left above journal_room limbo_room is found has some few sweeps = record {
  tidy = tidy_by_loads machine v w sweeps.numbers b.limbo b.free (stock v b is.below found) sweeps.loads has some;
  limit = sweeps.limit;
  stay = sweeps.stay;
  freed = sweeps.freed;
  blockers = has_blockers sweeps.numbers left (omega (arith, few, sweeps.loads.all)) sweeps.kept;
}

module _ (numbers : List ℕ) (rows : ℕ) (b : BookData) (free' : NumbersBelow) (left : List Sampled) (above journal_room limbo_room : ℕ) (is : IsKept b above journal_room limbo_room) (moves : Moves numbers rows b free' left) where
  abbrev now : BookData
  now = record b { free = free'; limbo = left }

  abbrev unread : Sampled → Bool
  unread s = not (is_read numbers s)

  abbrev gone : List Sampled
  gone = filter unread b.limbo

  new_rows : AreNew b.free.numbers b.free.limit b.limits.tables (rows_of gone)
  new_rows = record {
    once = λ r. omega (arith, moves.tidy.once r, fewer unread b.limbo r);
    absent = λ r here. moves.tidy.apart r (omega (arith, here, fewer unread b.limbo r));
    below = λ r here. omega (arith, is.enough, row_small b.limits.tables gone r (All-filter unread (IsTableRow b.limits.tables) b.limbo is.rows) here);
    small = λ r here. row_small b.limits.tables gone r (All-filter unread (IsTableRow b.limits.tables) b.limbo is.rows) here;
  }

  growth : Grows b.free.numbers free'.numbers b.free.limit b.limits.tables (length (rows_of gone))
  growth = grows b.free.numbers free'.numbers b.free.limit b.limits.tables (rows_of gone) new_rows moves.freed

  within : free_rows_within now ≡ free_rows_within b + length gone
  within =
      let same : free_rows_within now ≡ free_rows_within (record b { free = record free' { limit = b.free.limit }; limbo = left }) =
      ap (λ (n : ℕ). free_rows_within (record b { free = record free' { limit = n }; limbo = left })) moves.limit in
      omega (arith, same, growth.within, length-map gone (λ (s : Sampled). s.row))

  split : length left + length gone ≡ length b.limbo
  split =
      let stay : length (map put_of left) ≡ length (map put_of (filter (is_read numbers) b.limbo)) = ap length moves.stay in
      omega (arith, stay, length-map left put_of, length-map (filter (is_read numbers) b.limbo) put_of, length-filter_both (is_read numbers) unread (λ s. refl) b.limbo)

  same_state : state_of now ≡ state_of b
  unfolding state_of
  same_state = refl

  same_sum : RowSum b ↔ RowSum now
  unfolding state_of
  same_sum = (λ sum. omega (arith, sum, within, split), λ sum. omega (arith, sum, within, split))

  -- the rows add up afterwards exactly where they did before
  pub sum_stays : (old : BookData) → b ≡ old → RowSum old ↔ RowSum now
  sum_stays old e = (λ sum. same_sum.0 (subst (λ (x : BookData). RowSum x) (sym e) sum), λ sum. subst (λ (x : BookData). RowSum x) e (same_sum.1 sum))

  -- the invariant of a book
  pub kept : (room : ℕ) → room ≡ limbo_room → IsKept now above journal_room room
  unfolding state_of
  kept room same = record {
    book = record {
      legal = is.book.legal;
      threads = is.book.threads;
      within = is.book.within;
      counts = record { frames = is.book.counts.frames; slots = is.book.counts.slots };
      frames = is.book.frames;
      slots = is.book.slots;
      fits = is.book.fits;
      places = is.book.places;
      drawn = is.book.drawn;
    };
    aside = omega (arith, growth.all, within, is.aside, length-map gone (λ (s : Sampled). s.row));
    below = record {
      below = λ n there. ⊎_elim
          (λ (was : set.contains b.free.numbers n ≡ true). omega (arith, moves.limit, is.below.below n was))
          (λ (came : among (rows_of gone) n ≡ true). omega (arith, moves.limit, new_rows.below n (among_has (rows_of gone) n came)))
          (either (set.contains b.free.numbers n) (among (rows_of gone) n) (sym (moves.freed n) ∙ there));
    };
    journal = is.journal;
    limbo = omega (arith, is.limbo, same);
    tells = first_blocked left moves.blockers;
    rows = rows_back b.limits.tables left (All-same (λ (k : PutRow). (1 ≤ k.row) × (k.row ≤ b.limits.tables)) (map put_of left) (map put_of (filter (is_read numbers) b.limbo)) moves.stay
        (All-map (λ (k : PutRow). (1 ≤ k.row) × (k.row ≤ b.limits.tables)) put_of (filter (is_read numbers) b.limbo) (All-filter (is_read numbers) (IsTableRow b.limits.tables) b.limbo is.rows)));
    enough = omega (arith, is.enough, moves.limit);
  }
