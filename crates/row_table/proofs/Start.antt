-- How the table starts, and how the passes get seats of their own.
use Rattle.std.proofs.Common.{◌≡◌, ◌≢◌, ℕ, zero, suc, ◌+◌, ◌-◌, ◌<◌, ◌≤◌, ◌==◌, ◌⊎◌, cond, Bool, List, [], ◌∷◌, ◌++◌, map, length-append, length, get_or, set, replicate, sym, refl, ap, ◌∙◌, subst, inl, inr, ⊎_elim, arith, eq-eqb, ne_eqb, Option, Some}
use Rattle.std.specs.Prelude.{Result, Ok, Err, IfOk}
use Rattle.std.specs.List.{range_with_len, sum_by}
use mathlib.Core.Option.{some, some-injective, some-ne-none}
use Rattle.std.proofs.lemmas.List.{length-map, map-append}
use Rattle.std.proofs.lemmas.List.Sums.{sum_by-cons}
use Rattle.std.proofs.lemmas.List.FromFn.{fill_by_all, length-range_with_len}
use Rattle.std.proofs.lemmas.Bool.{cases_lt}
use lib.ListN.{get_elem?}
use mathlib.Core.Logic.{dite}
use native.Mathlib.Decide.{ℕ_discrete}
use Rattle.atomic_table.specs.Table.{Splits, opening}
use Rattle.atomic_table.proofs.Lists.{at_map, at_longer, at_last, at_set}
use Rattle.walk_core.specs.declared.pass.PassCore.{PassCore}
use Rattle.walk_core.specs.Words.{generation_at, epoch_at, stale, word_count}
use Rattle.walk_core.specs.Lists.{times}
use Rattle.walk_core.specs.Core.{Core, word, idle, times_in_hand, times_out, MayBoot, boot, boot_word}
use Rattle.walk_core.specs.Good.{Good, LockSays, says_free, says_held, says_stale}
use Rattle.walk_core.proofs.RowLists.{times-nil, range-push}
use Rattle.walk_core.proofs.Facts.{free_linked}
use Rattle.walk_core.proofs.Boot.{four_or_five, boot_good, boot_zero, word_is, times-range_out, times-range_in}
use Rattle.row_layout.specs.declared.places.Layout.{Layout}
use Rattle.row_layout.specs.Places.{IsLayout}
use Rattle.row_table.specs.declared.view.PassView.{PassView}
use Rattle.row_table.specs.declared.plan.Content.TheVariants.{Row, Book}
use Rattle.row_table.specs.Plan.{Meaning, IsLawful}
use Rattle.row_table.specs.Rows.{row_words, place_at, lock_of, generation_of}
use Rattle.row_table.specs.Rule.{Slot, Seat, Homes, unmoved, boot_from, boot_views, core_part, core_of, Seats, Knows, Holds}
use Rattle.row_table.specs.Start.{start_words, row_slot, start_slots, MayStart, first_pass, other_passes}
use Rattle.row_table.proofs.Known.{held_below}

at_end : {A : Type 0} (l : List A) (a b : A) (j : ℕ) → get_elem? (l ++ a ∷ []) j ≡ some b → (get_elem? l j ≡ some b) ⊎ ((j ≡ length l) × (a ≡ b))
at_end [] a b zero e = inr (refl, some-injective a b e)
at_end [] a b (suc j) e = absurd (some-ne-none b (sym e))
at_end (x ∷ xs) a b zero e = inl e
at_end (x ∷ xs) a b (suc j) e = ⊎_elim inl (λ t. inr (ap suc t.0, t.1)) (at_end xs a b j e)

there : {A : Type 0} (l : List A) (i : ℕ) → i < length l → (a : A) × (get_elem? l i ≡ some a)
there [] i h = absurd (omega arith)
there (x ∷ xs) zero h = (x, refl)
there (x ∷ xs) (suc i) h = there xs i (omega arith)

abbrev cut_place : ℕ → ℕ → ℕ → ℕ × ℕ
cut_place id end zero = (end, 0)
cut_place id end (suc i) = (id, i)

-- where the pass that stands at a place stands after the cut
abbrev cut : ℕ → ℕ → ℕ × ℕ → ℕ × ℕ
cut id end x = cond (x.0 == id) (cut_place id end x.1) x

abbrev chosen : Bool → ℕ × ℕ → ℕ × ℕ → ℕ × ℕ
chosen b x y = cond b x y

module _ {R B E : Type 0} where
  pub seats_cut : (views : List (List (PassView R B E))) (passes : List (PassView R B E)) (owner : ℕ → ℕ × ℕ) (id : ℕ) (vs : List (PassView R B E))
      → Seats views passes owner → get_elem? views id ≡ some vs → Seats (set views id (other_passes vs) ++ first_pass vs ∷ []) passes (λ n. cut id (length (set views id (other_passes vs))) (owner n))
  seats_cut views passes owner id vs seats me j ws e i u f =
      let end : ℕ = length (set views id (other_passes vs)) in
      ⊎_elim
      (λ (t : get_elem? (set views id (other_passes vs)) j ≡ some ws). ⊎_elim
      (λ (y : (j ≡ id) × (other_passes vs ≡ ws)). let old = later vs seats (subst (λ (x : List (PassView R B E)). get_elem? x i ≡ some u) (sym y.1) f) me in
      (old.0, ap (cut id end) old.1 ∙ (ap (λ b. chosen b (id, i) (id, suc i)) (eq-eqb id id refl) ∙ (λ k. (sym y.0 k, i)))))
      (λ (y : (j ≢ id) × (get_elem? views j ≡ some ws)). let old = seats j ws y.1 i u f in
      (old.0, ap (cut id end) old.1 ∙ ap (λ b. chosen b (cut_place id end i) (j, i)) (ne_eqb j id y.0)))
      (at_set views id j (other_passes vs) ws t))
      (λ (t : (j ≡ end) × (first_pass vs ≡ ws)). let old = first vs seats (subst (λ (x : List (PassView R B E)). get_elem? x i ≡ some u) (sym t.1) f) me in
      (old.1, ap (cut id end) old.2 ∙ (ap (λ b. chosen b (end, 0) (id, 0)) (eq-eqb id id refl) ∙ (λ k. (sym t.0 k, sym old.0 k)))))
      (at_end (set views id (other_passes vs)) (first_pass vs) ws j e)
    where
      later : (vs : List (PassView R B E)) → Seats views passes owner → get_elem? (other_passes vs) i ≡ some u → get_elem? views id ≡ some vs → (get_elem? passes u.number ≡ some u) × (owner u.number ≡ (id, suc i))
      later [] seats f me = absurd (some-ne-none u (sym f))
      later (v ∷ vs) seats f me = seats id (v ∷ vs) me (suc i) u f

      first : (vs : List (PassView R B E)) → Seats views passes owner → get_elem? (first_pass vs) i ≡ some u → get_elem? views id ≡ some vs → (i ≡ 0) × (get_elem? passes u.number ≡ some u) × (owner u.number ≡ (id, 0))
      first [] seats f me = absurd (some-ne-none u (sym f))
      first (v ∷ vs) seats f me = go i f
        where
          go : (i : ℕ) → get_elem? (v ∷ []) i ≡ some u → (i ≡ 0) × (get_elem? passes u.number ≡ some u) × (owner u.number ≡ (id, 0))
          go zero f = let t = seats id (v ∷ vs) me 0 u f in (refl, t.0, t.1)
          go (suc i) f = absurd (some-ne-none u (sym f))

  new_at : (k : Layout) (origin : Option B) (p n i : ℕ) (v : PassView R B E) → get_elem? (boot_from {R = R} {E = E} k origin p n) i ≡ some v → (v ≡ unmoved k origin (p + i)) × (i < n)
  new_at k origin p zero i v e = absurd (some-ne-none v (sym e))
  new_at k origin p (suc n) zero v e = (sym (some-injective (unmoved k origin p) v e) ∙ ap (unmoved k origin) (let t : p ≡ p + 0 = omega arith in t), omega arith)
  new_at k origin p (suc n) (suc i) v e = let t = new_at k origin (p + 1) n i v e in (t.0 ∙ ap (unmoved k origin) (let t : p + 1 + i ≡ p + suc i = omega arith in t), let h = t.1 in omega arith)

  seats_new : (k : Layout) (origin : Option B) (n : ℕ) → Seats {R = R} {E = E} (boot_from k origin 0 n ∷ []) (boot_from k origin 0 n) (λ p. (0, p))
  seats_new k origin n zero vs e i v f =
      let at : get_elem? (boot_from {R = R} {E = E} k origin 0 n) i ≡ some v = subst (λ (x : List (PassView R B E)). get_elem? x i ≡ some v) (sym (some-injective (boot_from k origin 0 n) vs e)) f in
      let is : v.number ≡ i = ap (λ (x : PassView R B E). x.number) (new_at k origin 0 n i v at).0 ∙ (let t : 0 + i ≡ i = omega arith in t) in
      (ap (λ (x : ℕ). get_elem? (boot_from {R = R} {E = E} k origin 0 n) x) is ∙ at, λ k. (0, is k))
  seats_new k origin n (suc j) vs e i v f = absurd (some-ne-none vs (sym e))

cores_new : (R B E : Type 0) (k : Layout) (origin : Option B) (p n : ℕ) → replicate n idle ≡ map core_part (boot_from {R = R} {E = E} k origin p n)
cores_new R B E k origin p zero = refl
cores_new R B E k origin p (suc n) = ap (λ (l : List PassCore). idle ∷ l) (cores_new R B E k origin (p + 1) n)

-- The words at the start

sum_by-same : {A : Type 0} (f : A → ℕ) (n : ℕ) (a : A) → f a ≡ 0 → sum_by f (replicate n a) ≡ 0
sum_by-same f zero a none = refl
sum_by-same f (suc n) a none = let here = sum_by-cons f a (replicate n a) in let rest = sum_by-same f n a none in omega arith

module _ (k : Layout) (is : IsLayout k) where
  may : MayBoot k.levels k.rows k.passes
  may = record { some_levels = four_or_five k.levels is.4 is.5; rows_low = is.0; rows_high = is.1; count_low = is.2; count_high = is.3 }

  abbrev c : Core
  c = boot k.levels k.rows k.passes

  good : Good c
  good = boot_good k.levels k.rows k.passes may

  free_is : (r : ℕ) → times_out c r ≡ times r (range_with_len 2 (k.rows - 2))
  unfolding boot times_out
  free_is r = let none_there = times-nil r in let hands = sum_by-same (times_in_hand r) k.passes idle (omega arith) in omega arith

  rows_are : (r : ℕ) → r < k.rows → r < c.rows
  unfolding boot
  rows_are r less = less

  count_is : c.count ≡ k.passes
  unfolding boot
  count_is = refl

  pub long_is : length (start_words k) ≡ word_count k.rows k.passes
  unfolding boot
  long_is = length-map (range_with_len 0 (word_count k.rows k.passes)) (boot_word k.levels k.rows) ∙ length-range_with_len 0 (word_count k.rows k.passes)

  -- the words that were read one by one
  pub words_listed : (d : Core) (ws : List ℕ) (n : ℕ) → d ≡ boot k.levels k.rows k.passes → n ≡ word_count k.rows k.passes → ws ≡ map (word d) (range_with_len 0 n) → ws ≡ start_words k
  words_listed d ws n same all is = is ∙ (ap (λ (x : Core). map (word x) (range_with_len 0 n)) same
      ∙ sym (fill_by_all (word c) (start_words k) n 0 (long_is ∙ sym all) (λ i _. refl)))

  zero_low : (r : ℕ) → r < k.rows → lock_of (start_words k) r ≡ 0 → r < 2
  zero_low r less z = let tree = (free_linked good.locks.rows r (rows_are r less) z).in_tree in ⊎_elim (λ (h : r < 2). h)
      (λ past. let out = free_is r in let one = times-range_in r 2 (k.rows - 2) past (let low = is.0 in omega arith) in absurd (omega arith)) (cases_lt r 2)

  stale_high : (r : ℕ) → r < k.rows → lock_of (start_words k) r ≡ stale → 2 ≤ r
  stale_high r less z = says (lock_of (start_words k) r) z (good.locks.rows.each r (rows_are r less))
    where
      says : (n : ℕ) → n ≡ stale → LockSays c r n → 2 ≤ r
      says n z (says_free e t) = absurd (omega arith)
      says n z (says_held p shown has) = let h = held_below c p r good has in let few = is.3 in let same = count_is in absurd (omega arith)
      says n z (says_stale shown out) = ⊎_elim (λ (h : r < 2). let same = free_is r in let none = times-range_out r 2 (k.rows - 2) (inl h) in absurd (omega arith)) (λ h. h) (cases_lt r 2)

  generation_low : (r : ℕ) → r < k.rows → generation_of (start_words k) r < 2
  generation_low r less = dite (ℕ_discrete r 1)
      (λ e. let at : generation_of (start_words k) r ≡ 1 = ap (generation_of (start_words k)) e ∙ word_is k.levels k.rows k.passes may 1029 (let low = is.0 in omega arith) in omega arith)
      (λ ne. let at : generation_of (start_words k) r ≡ 0 = word_is k.levels k.rows k.passes may (generation_at r) (omega arith) ∙ boot_zero k.levels k.rows (generation_at r) (λ e. omega arith) (λ e. omega arith) (λ e. omega arith) (λ e. omega arith) (λ e. omega arith) in omega arith)

  epoch_zero : (p : ℕ) → p < k.passes → get_or (start_words k) (epoch_at k.rows p) 0 ≡ 0
  epoch_zero p less = let low = is.0 in let few = is.3 in word_is k.levels k.rows k.passes may (epoch_at k.rows p) (omega arith)
      ∙ boot_zero k.levels k.rows (epoch_at k.rows p) (λ e. omega arith) (λ e. omega arith) (λ e. omega arith) (λ e. omega arith) (λ e. omega arith)

module _ {R B E : Type 0} (M : Meaning R B E) where
  core_new : (k : Layout) (ws : List ℕ) (book : B) → ws ≡ start_words k → M.limbo book ≡ [] → boot k.levels k.rows k.passes ≡ core_of M k ws (boot_views k book) (range_with_len 2 (k.rows - 2)) book
  unfolding boot
  core_new k ws book words limbo = λ i. record {
    levels = k.levels;
    rows = k.rows;
    count = k.passes;
    words = sym words i;
    passes = cores_new R B E k (Some book) 0 k.passes i;
    free = range_with_len 2 (k.rows - 2);
    limbo = sym limbo i;
  }

  pub starts : (k : Layout) (ws : List ℕ) (slots : List (Slot R B)) (rows : List R) (book : B) → IsLayout k → IsLawful M → MayStart M k rows book
      → ws ≡ start_words k → slots ≡ start_slots rows book → Holds M k book (opening ws slots (boot_views k book))
  starts k ws slots rows book is lawful from words_are slots_are =
      let views : List (PassView R B E) = boot_views k book in
      let homes : Homes R B = map some slots in
      let row_at : (r : ℕ) → r < k.rows → (x : R) × (get_elem? rows r ≡ some x) × (get_elem? homes r ≡ some (some (Some (Row x)))) = λ r less.
      let long = from.each_row in let t = there rows r (omega arith) in
      let there_too : get_elem? (start_slots {R = R} {B = B} rows book) r ≡ some (Some (Row t.0)) = at_longer (map row_slot rows) (Some (Book book) ∷ []) r (Some (Row t.0)) (at_map row_slot rows r t.0 t.1) in
      (t.0, t.1, at_map some slots r (Some (Row t.0)) (ap (λ (x : List (Slot R B)). get_elem? x r) slots_are ∙ there_too)) in
      let shown : (r : ℕ) → r < k.rows → lock_of ws r ≡ lock_of (start_words k) r = λ r _. ap (λ (x : List ℕ). lock_of x r) words_are in
      record {
        passes = views;
        owner = λ n. (0, n);
        book = book;
        free = range_with_len 2 (k.rows - 2);
        same_free = from.free;
        slots = length-map slots some ∙ (ap length slots_are ∙ (length-append (map row_slot rows) (Some (Book book) ∷ []) ∙ ap (λ (x : ℕ). x + 1) (length-map rows row_slot ∙ from.each_row)));
        seats = seats_new k (Some book) k.passes;
        numbers = λ p v e. ap (λ (x : PassView R B E). x.number) (new_at k (Some book) 0 k.passes p v e).0 ∙ (let t : 0 + p ≡ p = omega arith in t);
        good = subst Good (core_new k ws book words_are from.limbo) (good k is);
        contents = record {
          linked = λ r less z. let t = row_at r less in let low = zero_low k is r less (sym (shown r less) ∙ z) in
              (t.0, t.2, subst (λ (x : List ℕ). M.agrees book (place_at x r) (row_words x r) t.0) (sym words_are) (from.linked r t.0 low t.1));
          others = λ r less z. let t = row_at r less in (t.0, t.2, from.others r t.0 (stale_high k is r less (sym (shown r less) ∙ z)) t.1);
          book_home = λ _. at_map some slots k.rows (Some (Book book)) (ap (λ (x : List (Slot R B)). get_elem? x k.rows) slots_are ∙ at_last (map row_slot rows) (Some (Book book)) k.rows (length-map rows row_slot ∙ from.each_row));
        };
        generations = λ r less. let now = ap (λ (x : List ℕ). generation_of x r) words_are in let low = generation_low k is r less in let high = from.generation in omega arith;
        fixed = lawful.fixed_same book;
        knows = λ p v e. let t = new_at k (Some book) 0 k.passes p v e in let less = t.1 in
            subst (Knows M k book ws book) (sym t.0) (record {
              there = omega arith;
              layout = refl;
              epoch = ap (λ (x : List ℕ). get_or x (epoch_at k.rows (0 + p)) 0) words_are ∙ epoch_zero k is (0 + p) (omega arith);
              held = refl;
              rows = λ h i. let less = i.1 in absurd (omega arith);
              granted = refl;
              hand = λ x i. let less = i.1 in absurd (omega arith);
              vacant = λ h i. let less = i.1 in absurd (omega arith);
              placed = λ x i. let less = i.1 in absurd (omega arith);
              found = λ h. absurd (cc);
              origin = refl;
              seen = (M.journal book, refl);
              mine = ap (Rattle.row_table.specs.Rule.places_from (λ x. M.thread x == 0 + p) 0) (sym from.journal);
            });
      }

  pub cuts : (k : Layout) (book : B) (id : ℕ) (vs : List (PassView R B E)) → Splits (Holds M k book) id vs (other_passes vs) (first_pass vs)
  cuts k book id vs s h me = record {
    passes = h.passes;
    owner = λ n. cut id (length (set s.views id (other_passes vs))) (h.owner n);
    book = h.book;
    free = h.free;
    same_free = h.same_free;
    slots = h.slots;
    seats = seats_cut s.views h.passes h.owner id vs h.seats me;
    numbers = h.numbers;
    good = h.good;
    contents = h.contents;
    generations = h.generations;
    fixed = h.fixed;
    knows = h.knows;
  }

pub if_ok : {T F : Type 0} (P Q : T → Type 0) → ((x : T) → P x → Q x) → (r : Result T F) → IfOk r P → IfOk r Q
if_ok P Q h (Ok x) p = h x p
if_ok P Q h (Err e) p = tt

-- one pass after the other

pub next_new : {R B E : Type 0} (k : Layout) (origin : Option B) (n passes : ℕ) (m : Seat R B E) → n < passes → m ≡ (boot_from k origin n (passes - n), []) → m ≡ (unmoved k origin n ∷ boot_from k origin (n + 1) (passes - (n + 1)), [])
next_new {R} {B} {E} k origin n passes m less is = is ∙ ap (λ (j : ℕ). (boot_from {R = R} {B = B} {E = E} k origin n j, [])) (let e : passes - n ≡ suc (passes - (n + 1)) = omega arith in e)

pub after_cut : {R B E : Type 0} (m m' : Seat R B E) (w : PassView R B E) (more : List (PassView R B E)) → m ≡ (w ∷ more, []) → m' ≡ (other_passes m.0, []) → m' ≡ (more, [])
after_cut m m' w more is then = then ∙ ap (λ (y : Seat _ _ _). (other_passes y.0, [])) is

pub dealt_length : {A B : Type 0} (f : A → Option B) (xs : List A) (ys zs all : List B) (n : ℕ) → map f xs ≡ map (λ y. Some y) ys → ys ++ zs ≡ all → length all ≡ n → length xs + length zs ≡ n
dealt_length f xs ys zs all n same whole long =
    let a = sym (length-map xs f) ∙ (ap length same ∙ length-map ys (λ y. Some y)) in let b = ap length whole in let c = length-append ys zs in omega arith

pub numbers_more : {A : Type 0} (f : A → ℕ) (xs : List A) (x : A) (n : ℕ) → map f xs ≡ range_with_len 0 n → f x ≡ n → map f (xs ++ x ∷ []) ≡ range_with_len 0 (n + 1)
numbers_more f xs x n all is = map-append f xs (x ∷ []) ∙ ((λ i. all i ++ is i ∷ []) ∙ sym (range-push 0 n ∙ ap (λ (j : ℕ). range_with_len 0 n ++ j ∷ []) (let e : 0 + n ≡ n = omega arith in e)))

pub slots_long : {R B : Type 0} (rows : List R) (book : B) → length (start_slots rows book) ≡ length rows + 1
slots_long rows book = length-append (map row_slot rows) (Some (Book book) ∷ []) ∙ ap (λ (x : ℕ). x + 1) (length-map rows row_slot)
