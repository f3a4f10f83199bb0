-- References are given back one by one, from any place of a list.
use Rattle.std.proofs.Common.{◌≡◌, ℕ, zero, suc, ◌+◌, ◌-◌, ◌<◌, ◌≤◌, Bool, true, false, cond, List, [], ◌∷◌, ◌++◌, length, take, drop, get_or, set, append_assoc, refl, sym, ap, subst, ◌∙◌, ◌⊎◌, inl, inr, arith}
use mathlib.Core.Bool.{true≢false}
use Rattle.std.specs.Prelude.{Some, nat_eq}
use Rattle.std.specs.List.{All, filter}
use Rattle.std.specs.Cmp.{nat_eq_equiv}
use Rattle.std.proofs.lemmas.Bool.{cases_eq, cases_lt, ne_eqb}
use Rattle.std.proofs.lemmas.List.{get_or-set_same, get_or-set_other, length-set, drop_more, get_or-append_right, get_or_past, take_more, length-append, length-take, take-append-le, take_all, take-take, length_push}
use Rattle.std.proofs.lemmas.List.Elements.{All-weaker, All-same, All-pop, recursion_from_All, All-from_recursion}
use Rattle.counted_pages.specs.Pages.{PageCounts, CountedPage, HasSpare, with_count, with_spare}
use Rattle.shares.specs.Counts.{count_of}
use Rattle.machine_plan.specs.Agrees.{HasSpareFor}
use Rattle.machine_plan.specs.Kits.{Refs, AreBacked}
use Rattle.machine_plan.specs.Uses.{Ref, shown_ref, shown_refs}
use Rattle.book.specs.Balance.{times, AreHeld}
use Rattle.book.specs.Pieces.{GivesBack}
use Rattle.book.proofs.Filled.{back_step}

shown_append : (xs ys : Refs) → shown_refs (xs ++ ys) ≡ shown_refs xs ++ shown_refs ys
shown_append [] ys = refl
shown_append (x ∷ xs) ys = ap (λ zs. shown_ref x ∷ zs) (shown_append xs ys)

pub times_apart : (n : ℕ) (before after : Refs) (r : ℕ × CountedPage) → times n (shown_refs (before ++ r ∷ after)) ≡ times n (shown_refs (before ++ after)) + cond (nat_eq r.1.number n) 1 0
times_apart n [] after r = one_first n after r
  where
    one_first : (n : ℕ) (after : Refs) (r : ℕ × CountedPage) → times n (shown_refs (r ∷ after)) ≡ times n (shown_refs after) + cond (nat_eq r.1.number n) 1 0
    one_first n after r = Rattle.std.proofs.lemmas.List.Sums.sum_by-cons (λ (x : Ref). cond (nat_eq x.1.0 n) 1 0) (shown_ref r) (shown_refs after) ∙ swapped (cond (nat_eq r.1.number n) 1 0) (times n (shown_refs after))
      where
        swapped : (a b : ℕ) → a + b ≡ b + a
        swapped a b = omega arith
times_apart n (x ∷ before) after r =
    let one = Rattle.std.proofs.lemmas.List.Sums.sum_by-cons (λ (x : Ref). cond (nat_eq x.1.0 n) 1 0) (shown_ref x) in
    omega (arith, one (shown_refs (before ++ r ∷ after)), one (shown_refs (before ++ after)), times_apart n before after r)

all_apart : (P : ℕ × CountedPage → Type 0) (before after : Refs) (r : ℕ × CountedPage) → Rattle.std.specs.List.AllByRecursion P (before ++ r ∷ after) → Rattle.std.specs.List.AllByRecursion P (before ++ after)
all_apart P [] after r h = h.1
all_apart P (x ∷ before) after r h = (h.0, all_apart P before after r h.1)

abbrev pub Backed : PageCounts → ℕ × CountedPage → Type 0
Backed counts r = HasSpareFor counts r.1

pub gives_one : (old now next : PageCounts) (refs left rest before after : Refs) (r : ℕ × CountedPage) → GivesBack old now refs left → left ≡ before ++ r ∷ after → rest ≡ before ++ after →
    next ≡ with_spare (with_count now r.1.number (count_of now.counts r.1.number - 1)) r.1.number → GivesBack old next refs rest
gives_one old now next refs left rest before after r gives parts removed same =
    subst (λ (x : PageCounts × Refs). GivesBack old x.0 refs x.1) (λ i. (sym same i, sym removed i)) (record {
      balance = record {
        numbers = length-set now.counts k (count_of now.counts k - 1) ∙ gives.balance.numbers;
        counts = λ n. omega (arith, gives.balance.counts n, apart n, fewer n, some n);
      };
      spares = λ n had. kept n (gives.spares n had);
      held = record { each = λ n. omega (arith, gives.held.each n, apart n, fewer n, some n) };
      backed = All-from_recursion (Backed then) (before ++ after) (all_apart (Backed then) before after r (recursion_from_All (Backed then) (before ++ r ∷ after)
          (All-weaker (Backed now) (Backed then) (λ x h shared. kept x.1.number (h shared)) (before ++ r ∷ after) (All-same (Backed now) (before ++ r ∷ after) left (sym parts) gives.backed))));
    })
  where
    k : ℕ
    k = r.1.number

    then : PageCounts
    then = with_spare (with_count now k (count_of now.counts k - 1)) k

    apart : (n : ℕ) → times n (shown_refs left) ≡ times n (shown_refs (before ++ after)) + cond (nat_eq k n) 1 0
    apart n = ap (λ (rs : Refs). times n (shown_refs rs)) parts ∙ times_apart n before after r

    some : (n : ℕ) → cond (nat_eq k n) 1 0 ≤ count_of now.counts n
    some n = omega (arith, gives.held.each n, apart n)

    one : ◌≡◌ {A = ℕ} (cond (nat_eq k k) 1 0) 1
    one = ap (λ b. cond b 1 0) (nat_eq_equiv.refl k)

    inside : 1 ≤ count_of now.counts k → k < length now.counts
    inside h = elim (cases_lt k (length now.counts)) [ inl lt ↦ lt | inr past ↦ absurd (omega (arith, h, get_or_past now.counts k 0 past)) ]

    fewer : (n : ℕ) → count_of (set now.counts k (count_of now.counts k - 1)) n + cond (nat_eq k n) 1 0 ≡ count_of now.counts n
    fewer n = go (cases_eq n k)
      where
        go : (n ≡ k) ⊎ (n ≡ k → ⊥) → count_of (set now.counts k (count_of now.counts k - 1)) n + cond (nat_eq k n) 1 0 ≡ count_of now.counts n
        go (inl same) =
            let first : ◌≡◌ {A = ℕ} (cond (nat_eq k n) 1 0) 1 = ap (λ m. cond (nat_eq k m) 1 0) same ∙ one in
            let here : count_of (set now.counts k (count_of now.counts k - 1)) n ≡ count_of now.counts k - 1 = ap (count_of (set now.counts k (count_of now.counts k - 1))) same ∙ get_or-set_same now.counts k (count_of now.counts k - 1) 0 (inside (omega (arith, some k, one))) in
            let was : count_of now.counts n ≡ count_of now.counts k = ap (count_of now.counts) same in
            omega (arith, first, here, was, some k, one)
        go (inr other) =
            let none : ◌≡◌ {A = ℕ} (cond (nat_eq k n) 1 0) 0 = ap (λ b. cond b 1 0) (ne_eqb k n (λ e. other (sym e))) in
            omega (arith, none, get_or-set_other now.counts k n (count_of now.counts k - 1) 0 other)

    kept : (n : ℕ) → HasSpare now n → HasSpare then n
    kept n had = go (cases_eq n k)
      where
        go : (n ≡ k) ⊎ (n ≡ k → ⊥) → HasSpare then n
        go (inl same) = elim (cases_lt n (length now.spares)) [
          | inl lt ↦ ap (λ m. get_or (set now.spares m true) n false) (sym same) ∙ get_or-set_same now.spares n true false lt
          | inr past ↦ absurd (true≢false (sym had ∙ get_or_past now.spares n false past))
        ]
        go (inr other) = get_or-set_other now.spares k n true false other ∙ had

-- the part of a list that stays, from its end to its front
module _ {X : Type 0} (stays : X → Bool) (old cur : List X) (done : ℕ) (r d : X) (lt : done < length old) (is : cur ≡ take (length old - done) old ++ filter stays (drop (length old - done) old)) (read : r ≡ get_or cur (length old - 1 - done) d) where
  abbrev place : ℕ
  place = length old - 1 - done

  abbrev pub after : List X
  after = filter stays (drop (length old - done) old)

  abbrev pub before : List X
  before = take (length old - (done + 1)) old

  abbrev there : X
  there = get_or old place d

  long : length before ≡ place
  long = omega (arith, length-take (length old - (done + 1)) old, lt)

  front : take (length old - done) old ≡ before ++ there ∷ []
  front = ap (λ n. take n old) (next (length old) done lt) ∙ take_more old place d (omega (arith, lt)) ∙ ap (λ n. take n old ++ there ∷ []) (here (length old) done lt)
    where
      here : (n done : ℕ) → done < n → n - 1 - done ≡ n - (done + 1)
      here n done lt = omega (arith, lt)

      next : (n done : ℕ) → done < n → n - done ≡ n - 1 - done + 1
      next n done lt = omega (arith, lt)

  parts : cur ≡ before ++ there ∷ after
  parts = is ∙ ap (λ l. l ++ after) front ∙ append_assoc before (there ∷ []) after

  this : r ≡ there
  this = read ∙ ap (λ l. get_or l place d) parts ∙ get_or-append_right before (there ∷ after) place place d long (omega arith) ∙ ap (λ n. get_or (there ∷ after) n d) (zero_is place)
    where
      zero_is : (n : ℕ) → n - n ≡ 0
      zero_is n = omega arith

  pub in_parts : cur ≡ before ++ r ∷ after
  in_parts = parts ∙ ap (λ x. before ++ x ∷ after) (sym this)

  pub inside_step : place < length cur
  inside_step = omega (arith, ap length in_parts, length-append before (r ∷ after), long)

  rest_is : filter stays (drop (length old - (done + 1)) old) ≡ cond (stays r) (r ∷ after) after
  rest_is = ap (filter stays) (back_step old done there d lt refl) ∙ ap (λ x. cond (stays x) (x ∷ after) after) (sym this)

  pub stays_step : stays r ≡ true → cur ≡ before ++ filter stays (drop (length old - (done + 1)) old)
  stays_step it = in_parts ∙ ap (λ l. before ++ l) (sym (rest_is ∙ ap (λ b. cond b (r ∷ after) after) it))

  pub goes_step : stays r ≡ false → before ++ after ≡ before ++ filter stays (drop (length old - (done + 1)) old)
  goes_step it = ap (λ l. before ++ l) (sym (rest_is ∙ ap (λ b. cond b (r ∷ after) after) it))

  pub removed_is : take place cur ++ drop (suc place) cur ≡ before ++ after
  removed_is = (λ i. take place (in_parts i) ++ drop (suc place) (in_parts i)) ∙ apart before place long
    where
      apart : (xs : List X) (n : ℕ) → length xs ≡ n → take n (xs ++ r ∷ after) ++ drop (suc n) (xs ++ r ∷ after) ≡ xs ++ after
      apart [] zero e = refl
      apart [] (suc n) e = absurd (omega (arith, e))
      apart (x ∷ xs) zero e = absurd (omega (arith, e))
      apart (x ∷ xs) (suc n) e = ap (λ l. x ∷ l) (apart xs n (omega (arith, e)))

-- what is left where the last one was taken
pub popped_rest : {X : Type 0} (xs cur rest : List X) (done : ℕ) (r : X) → done < length xs → cur ≡ take (length xs - done) xs → cur ≡ rest ++ r ∷ [] → rest ≡ take (length xs - (done + 1)) xs
popped_rest xs cur rest done r lt was parts =
    sym (take-append-le (length rest) rest (r ∷ []) (omega arith) ∙ take_all (length rest) rest (omega arith))
    ∙ (λ i. take (long i) (sym parts i))
    ∙ ap (λ l. take (length xs - (done + 1)) l) was
    ∙ take-take (length xs - (done + 1)) (length xs - done) xs (less (length xs) done)
  where
    less : (n done : ℕ) → n - (done + 1) ≤ n - done
    less n done = omega arith

    long : length rest ≡ length xs - (done + 1)
    long = omega (arith, ap length was, length-take (length xs - done) xs, ap length parts, length_push rest r, lt)

pub gives_same : (old now next : PageCounts) (refs left rest : Refs) → GivesBack old now refs left → next ≡ now → rest ≡ left → GivesBack old next refs rest
gives_same old now next refs left rest gives same e = subst (λ (x : PageCounts × Refs). GivesBack old x.0 refs x.1) (λ i. (sym same i, sym e i)) gives

pub gives_none : (counts : PageCounts) (refs : Refs) → AreHeld counts (shown_refs refs) → AreBacked counts refs → GivesBack counts counts refs refs
gives_none counts refs held backed = record {
  balance = record { numbers = refl; counts = λ n. same (count_of counts.counts n) (times n (shown_refs refs)) };
  spares = λ n had. had;
  held = held;
  backed = backed;
}
  where
    same : (a b : ℕ) → a + b ≡ a + b + 0
    same a b = omega arith

pub last_backed : (counts : PageCounts) (refs rest : Refs) (r : ℕ × CountedPage) → refs ≡ rest ++ r ∷ [] → AreBacked counts refs → HasSpareFor counts r.1
last_backed counts refs rest r parts backed = (All-pop (Backed counts) refs rest (Some r) parts backed).1
