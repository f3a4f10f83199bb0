-- A book without entries.
use Rattle.std.proofs.Common.{◌≡◌, ℕ, zero, suc, ◌+◌, ◌-◌, ◌<◌, ◌≤◌, Bool, true, false, cond, ◌&&◌, List, [], ◌∷◌, replicate, refl, sym, ap, subst, ◌∙◌, ◌⊎◌, inl, inr, arith}
use Rattle.std.specs.Prelude.{Option, map, nat_le, nat_lt}
use Rattle.std.specs.List.{filter, range_with_len, sum_by, count_by}
use Rattle.std.specs.Option.{option_map_or}
use Rattle.std.specs.Ordering.{nat_cmp}
use Rattle.std.specs.Cmp.{nat_cmp_total}
use Rattle.std.specs.FinMap as fin
use Rattle.std.specs.FinMap.{get-empty}
use Rattle.std.specs.FinSet as set
use Rattle.std.proofs.lemmas.Bool.{cases_lt}
use Rattle.std.proofs.lemmas.Bool.Decides.{nat_tests}
use Rattle.std.proofs.lemmas.List.{get_or-replicate, get_or_past, length-replicate}
use Rattle.std.proofs.lemmas.List.Sums.{sum_by-cons}
use Rattle.corten_base.specs.declared.numbers.Limits.{Limits}
use Rattle.free_numbers.specs.Numbers.{NumbersBelow}
use Rattle.shares.specs.Counts.{count_of}
use Rattle.table_place.specs.Place.{place_cmp, root}
use Rattle.page_map.specs.declared.cell.Cell.{Cell}
use Rattle.page_map.specs.Cell.{frame_of, slot_of}
use Rattle.page_map.specs.State.{AddressSpace, start, owners, carries, linked, levels_of, IsWithinLimits}
use Rattle.page_map.proofs.Weights.{weight_insert}
use Rattle.page_map.proofs.Evaluate.{entries_empty}
use Rattle.page_map.proofs.Places.{place_total}
use Rattle.machine_plan.specs.Books.{BookData, state_of, free_rows_within}
use Rattle.book.specs.Kept.{IsKept}
use Rattle.book.specs.Pieces.{rows_in}
use Rattle.book.specs.Starting.{Starts}
use Rattle.book.proofs.Blockers.{tells_empty, no_rows}

nothing_carried : {X : Type 0} (w : X → ℕ) → sum_by w (fin.values (fin.empty {K = ℕ} {X = X} {R = nat_cmp})) ≡ 0
nothing_carried w = ap (λ es. sum_by w (map (λ e. e.1) es)) (entries_empty nat_cmp)

-- nobody carries a number in the start state
start_owners : (number_of : Cell → Option ℕ) (limits : Limits) (files : List (List ℕ)) (n : ℕ) → owners number_of (start limits files) n ≡ 0
unfolding owners start
start_owners number_of limits files n =
    let w : AddressSpace → ℕ = λ cells. count_by (carries number_of n) (fin.values cells) in
    let grows = weight_insert nat_cmp_total w fin.empty 0 fin.empty in
    let none : w fin.empty ≡ 0 = ap (λ es. count_by (carries number_of n) (map (λ e. e.1) es)) (entries_empty nat_cmp) in
    let before = ap (λ o. option_map_or w o 0) (get-empty {X = AddressSpace} nat_cmp 0) in
    added grows before none (nothing_carried w)
  where
    added : {a b c d : ℕ} → a + b ≡ c + d → b ≡ 0 → d ≡ 0 → c ≡ 0 → a ≡ 0
    added e f g h = omega (arith, e, f, g, h)

no_count : (numbers n : ℕ) → count_of (replicate numbers 0) n ≡ 0
no_count numbers n = go (cases_lt n numbers)
  where
    go : (n < numbers) ⊎ (numbers ≤ n) → count_of (replicate numbers 0) n ≡ 0
    go (inl inside) = get_or-replicate numbers n 0 0 inside
    go (inr past) = get_or_past (replicate numbers 0) n 0 (omega (arith, past, length-replicate {A = ℕ} numbers 0))

-- the free rows, from 2 on

all_pass : (lo len : ℕ) (p : ℕ → Bool) → ((k : ℕ) → lo ≤ k → k < lo + len → p k ≡ true) → filter p (range_with_len lo len) ≡ range_with_len lo len
all_pass lo zero p h = refl
all_pass lo (suc len) p h = (λ i. cond (h lo (omega arith) (omega arith) i) (lo ∷ filter p (range_with_len (lo + 1) len)) (filter p (range_with_len (lo + 1) len))) ∙ ap (λ l. lo ∷ l) (all_pass (lo + 1) len p (λ k a b. h k (omega arith) (omega arith)))

rows_from_two : (n : ℕ) (p : ℕ → Bool) → ((k : ℕ) → p k ≡ (nat_le 2 k && nat_lt k (suc (suc n)))) → filter p (range_with_len 0 (suc (suc n))) ≡ range_with_len 2 n
rows_from_two n p h =
    (λ i. cond (h 0 i) (0 ∷ filter p (range_with_len 1 (suc n))) (filter p (range_with_len 1 (suc n))))
    ∙ (λ i. cond (h 1 i) (1 ∷ filter p (range_with_len 2 n)) (filter p (range_with_len 2 n)))
    ∙ all_pass 2 n p (λ k a b. h k ∙ inside k a b)
  where
    inside : (k : ℕ) → 2 ≤ k → k < 2 + n → (nat_le 2 k && nat_lt k (suc (suc n))) ≡ true
    inside k a b = grind (arith, nat_tests, a, b)

pub all_rows : (rows : ℕ) (s : NumbersBelow) → 2 ≤ rows → s.limit ≡ rows → ((k : ℕ) → set.contains s.numbers k ≡ (nat_le 2 k && nat_lt k rows)) → rows_in s ≡ range_with_len 2 (rows - 2)
all_rows zero s some limit h = absurd (omega (arith, some))
all_rows (suc zero) s some limit h = absurd (omega (arith, some))
all_rows (suc (suc n)) s some limit h = ap (λ k. filter (set.contains s.numbers) (range_with_len 0 k)) limit ∙ rows_from_two n (set.contains s.numbers) h ∙ ap (range_with_len 2) (same n)
  where
    same : (n : ℕ) → n ≡ suc (suc n) - 2
    same n = omega arith

within_range : (t lo len : ℕ) → lo ≤ t + 1 → t < lo + len → count_by (λ row. nat_le row t) (range_with_len lo len) + lo ≡ t + 1
within_range t lo zero a b = omega (arith, a, b)
within_range t lo (suc len) a b = go (nat_le lo t) refl (λ more. within_range t (lo + 1) len (omega (arith, more)) (omega (arith, b)))
  where
    below : {x y : ℕ} → nat_le x y ≡ true → x ≤ y
    below e = grind (arith, nat_tests, e)

    over : {x y : ℕ} → nat_le x y ≡ false → y < x
    over e = grind (arith, nat_tests, e)

    go : (x : Bool) → nat_le lo t ≡ x → (lo < t + 1 → count_by (λ row. nat_le row t) (range_with_len (lo + 1) len) + (lo + 1) ≡ t + 1) → count_by (λ row. nat_le row t) (range_with_len lo (suc len)) + lo ≡ t + 1
    go true e rest =
        let one : ◌≡◌ {A = ℕ} (cond (nat_le lo t) 1 0) 1 = ap (λ b. cond b 1 0) e in
        let more = rest (omega (arith, below e)) in
        omega (arith, more, one, sum_by-cons (λ row. cond (nat_le row t) 1 0) lo (range_with_len (lo + 1) len))
    go false e rest =
        let out : ◌≡◌ {A = ℕ} (cond (nat_le lo t) 1 0) 0 = ap (λ b. cond b 1 0) e in
        omega (arith, a, over e, out, sum_by-cons (λ row. cond (nat_le row t) 1 0) lo (range_with_len (lo + 1) len), none t (lo + 1) len (omega (arith, over e)))
      where
        none : (t lo len : ℕ) → t < lo → count_by (λ row. nat_le row t) (range_with_len lo len) ≡ 0
        none t lo zero h = refl
        none t lo (suc len) h =
            let out : ◌≡◌ {A = ℕ} (cond (nat_le lo t) 1 0) 0 = ap (λ b. cond b 1 0) (past h) in
            omega (arith, out, none t (lo + 1) len (omega (arith, h)), sum_by-cons (λ row. cond (nat_le row t) 1 0) lo (range_with_len (lo + 1) len))
          where
            past : {x y : ℕ} → y < x → nat_le x y ≡ false
            past l = grind (arith, nat_tests, l)

one_table : (limits : Limits) (files : List (List ℕ)) → linked (start limits files) ≡ 1
unfolding start
one_table limits files =
    set.len-insert place_total set.empty (root (levels_of limits) 0)
    ∙ (λ i. cond (set.contains-empty place_cmp (root (levels_of limits) 0) i) (set.len (set.empty {R = place_cmp})) (set.len-empty place_cmp i + 1))

module _ (limits : Limits) (rows : ℕ) (shelf : List (List ℕ)) (entries : ℕ) (s : NumbersBelow) (within : IsWithinLimits limits) (fewer : limits.tables < rows) (few : entries ≤ 1048576) (limit : s.limit ≡ rows) (has : (k : ℕ) → set.contains s.numbers k ≡ (nat_le 2 k && nat_lt k rows)) (long : set.len s.numbers ≡ rows - 2) where
  abbrev first : BookData
  first = record {
    limits = limits;
    files = shelf;
    journal = [];
    room = entries;
    frames = record { counts = replicate limits.frames 0; spares = replicate limits.frames true };
    slots = record { counts = replicate limits.swap 0; spares = replicate limits.swap true };
    free = s;
    limbo = [];
    next_generation = 2;
  }

  free_within : free_rows_within first + 1 ≡ limits.tables
  free_within =
      let all = ap (λ l. count_by (λ row. nat_le row limits.tables) l) (all_rows rows s (omega (arith, fewer, within.some_table)) limit has) in
      omega (arith, all, within_range limits.tables 2 (rows - 2) (omega (arith, within.some_table)) (omega (arith, fewer, within.some_table)))

  pub first_kept : (journal_room limbo_room : ℕ) → entries ≤ journal_room → limits.tables ≤ limbo_room → IsKept first (rows - 1 - limits.tables) journal_room limbo_room
  unfolding state_of
  first_kept journal_room limbo_room j l = record {
    book = record {
      legal = tt;
      threads = tt;
      within = within;
      counts = record { frames = λ n. no_count limits.frames n ∙ sym (start_owners frame_of limits shelf n); slots = λ n. no_count limits.swap n ∙ sym (start_owners slot_of limits shelf n) };
      frames = length-replicate {A = ℕ} limits.frames 0;
      slots = length-replicate {A = ℕ} limits.swap 0;
      fits = omega arith;
      places = few;
      drawn = omega arith;
    };
    aside = omega (arith, long, free_within, fewer, within.some_table);
    below = record { below = λ n there. omega (arith, limit, inside n there) };
    journal = j;
    limbo = l;
    tells = tells_empty;
    rows = no_rows limits.tables;
    enough = omega (arith, fewer, limit);
  }
    where
      inside : (n : ℕ) → set.contains s.numbers n ≡ true → n < rows
      inside n there = both (sym (has n) ∙ there)
        where
          both : (nat_le 2 n && nat_lt n rows) ≡ true → n < rows
          both e = grind (arith, nat_tests, e)

  pub first_starts : Starts limits rows shelf entries first
  unfolding state_of
  first_starts = record {
    same_limits = refl;
    files = refl;
    journal = refl;
    room = refl;
    frames = refl;
    slots = refl;
    limit = limit;
    free = all_rows rows s (omega (arith, fewer, within.some_table)) limit has;
    limbo = refl;
    generation = refl;
    sum = omega (arith, free_within, one_table limits shelf);
  }

  module _ (b : BookData) (limits_are : b.limits ≡ limits) (files_are : b.files ≡ shelf) (journal_is : b.journal ≡ []) (room_is : b.room ≡ entries) (frames_are : b.frames ≡ record { counts = replicate limits.frames 0; spares = replicate limits.frames true })
      (slots_are : b.slots ≡ record { counts = replicate limits.swap 0; spares = replicate limits.swap true }) (free_is : b.free ≡ s) (limbo_is : b.limbo ≡ []) (generation_is : b.next_generation ≡ 2) where
    is_first : first ≡ b
    is_first = λ i. record {
      limits = sym limits_are i;
      files = sym files_are i;
      journal = sym journal_is i;
      room = sym room_is i;
      frames = sym frames_are i;
      slots = sym slots_are i;
      free = sym free_is i;
      limbo = sym limbo_is i;
      next_generation = sym generation_is i;
    }

    pub kept_at_first : (journal_room limbo_room : ℕ) → entries ≤ journal_room → limits.tables ≤ limbo_room → IsKept b (rows - 1 - limits.tables) journal_room limbo_room
    kept_at_first journal_room limbo_room j l = subst (λ (x : BookData). IsKept x (rows - 1 - limits.tables) journal_room limbo_room) is_first (first_kept journal_room limbo_room j l)

    pub starts : Starts limits rows shelf entries b
    starts = subst (λ (x : BookData). Starts limits rows shelf entries x) is_first first_starts
