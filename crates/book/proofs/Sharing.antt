-- References are shared one by one.
use Rattle.std.proofs.Common.{◌≡◌, ℕ, ◌+◌, ◌<◌, ◌≤◌, ◌⊎◌, inl, inr, true, false, cond, List, [], ◌∷◌, ◌++◌, length, get_or, set, reverse, refl, sym, ap, subst, ◌∙◌, arith}
use Rattle.std.specs.Prelude.{Option, nat_eq, IsNone}
use Rattle.std.specs.List.{All, zip}
use Rattle.std.specs.Cmp.{nat_eq_equiv}
use Rattle.std.proofs.lemmas.Bool.{cases_eq, ne_eqb}
use Rattle.std.proofs.lemmas.List.{get_or-set_same, get_or-set_other, get_or_past, length-set, reverse-append, reverse-reverse}
use Rattle.std.proofs.lemmas.List.Sums.{sum_by-append, sum_by-cons}
use Rattle.std.proofs.lemmas.List.Elements.{All-nil, recursion_from_All, All-from_recursion}
use Rattle.corten_base.specs.Body.{PageBody}
use Rattle.counted_pages.specs.Pages.{PageCounts, CountedPage, HasSpare, with_count, with_spare}
use Rattle.shares.specs.Counts.{count_of}
use Rattle.machine_plan.specs.Kits.{Refs, Seconds, AreBacked, IsSecond, AreSeconds}
use Rattle.machine_plan.specs.Uses.{Ref, shown_ref, shown_refs}
use Rattle.book.specs.Balance.{times}
use Rattle.book.specs.Sharing.{AreShareable, Shares}

abbrev pub Second : Type 0
Second = PageBody × Option (List ℕ)

-- the second bodies, the last one first
pub record LeftSeconds (counts : PageCounts) (refs : Refs) (seconds : Seconds) : Type 0 where
  pub are : AreSeconds counts refs (reverse seconds)

-- the references that came are those before the rest
pub record Shared (old now : PageCounts) (refs rest came : Refs) : Type 0 where
  pub parts : came ++ rest ≡ refs
  pub numbers : length now.counts ≡ length old.counts
  pub counts : (n : ℕ) → count_of now.counts n ≡ count_of old.counts n + times n (shown_refs came)
  pub spares : (n : ℕ) → HasSpare old n → HasSpare now n
  pub backed : All (λ r. HasSpare now r.1.number) came

pub seconds_turned : (counts : PageCounts) (refs : Refs) (first seconds : Seconds) → AreSeconds counts refs first → seconds ≡ reverse first → LeftSeconds counts refs seconds
seconds_turned counts refs first seconds are turned = record { are = subst (λ (s : Seconds). AreSeconds counts refs s) (sym (ap reverse turned ∙ reverse-reverse first)) are }

none_shared : (p : PageCounts) (refs : Refs) → Shared p p refs refs []
none_shared p refs = record {
  parts = refl;
  numbers = refl;
  counts = λ n. omega arith;
  spares = λ n had. had;
  backed = All-nil (λ r. HasSpare p r.1.number);
}

pub shared_at_first : (p : PageCounts) (refs came : Refs) → came ≡ [] → Shared p p refs refs came
shared_at_first p refs came none = subst (λ (x : Refs). Shared p p refs refs x) (sym none) (none_shared p refs)

module _ (counts : PageCounts) (r : ℕ × CountedPage) (rest : Refs) where
  pub record NextSecond (x : Second) (left : Seconds) : Type 0 where
    pub is : IsSecond counts (r, x)
    pub more : LeftSeconds counts rest left

  turned_push : (left : Seconds) (x : Second) → reverse (left ++ x ∷ []) ≡ x ∷ reverse left
  turned_push left x = reverse-append left (x ∷ [])

  next_parts : (x : Second) (xs : Seconds) → AreSeconds counts (r ∷ rest) (x ∷ xs) → IsSecond counts (r, x) × AreSeconds counts rest xs
  next_parts x xs are =
      let each = recursion_from_All (IsSecond counts) (zip (r ∷ rest) (x ∷ xs)) are.each in
      (each.0, record { count = omega (arith, are.count); each = All-from_recursion (IsSecond counts) (zip rest xs) each.1 })

  pub next_second : (seconds left : Seconds) (x : Second) → seconds ≡ left ++ x ∷ [] → LeftSeconds counts (r ∷ rest) seconds → NextSecond x left
  next_second seconds left x popped before =
      let both = next_parts x (reverse left) (subst (λ (s : Seconds). AreSeconds counts (r ∷ rest) s) (ap reverse popped ∙ turned_push left x) before.are) in
      record { is = both.0; more = record { are = both.1 } }

  none_left : AreSeconds counts (r ∷ rest) [] → ⊥
  none_left are = omega (arith, are.count)

  pub some_left : (seconds : Seconds) → LeftSeconds counts (r ∷ rest) seconds → 0 < length seconds
  some_left [] before = absurd (none_left before.are)
  some_left (x ∷ xs) before = omega arith

shown_append : (xs ys : Refs) → shown_refs (xs ++ ys) ≡ shown_refs xs ++ shown_refs ys
shown_append [] ys = refl
shown_append (x ∷ xs) ys = ap (λ (l : List Ref). shown_ref x ∷ l) (shown_append xs ys)

abbrev once : ℕ → ℕ → ℕ
once n m = cond (nat_eq m n) 1 0

pub times_in_two : (n : ℕ) (xs ys : Refs) → times n (shown_refs (xs ++ ys)) ≡ times n (shown_refs xs) + times n (shown_refs ys)
times_in_two n xs ys = ap (times n) (shown_append xs ys) ∙ sum_by-append (λ (r : Ref). cond (nat_eq r.1.0 n) 1 0) (shown_refs xs) (shown_refs ys)

pub times_first : (n : ℕ) (x : ℕ × CountedPage) (ys : Refs) → times n (shown_refs (x ∷ ys)) ≡ once n x.1.number + times n (shown_refs ys)
times_first n x ys = sum_by-cons (λ (r : Ref). cond (nat_eq r.1.0 n) 1 0) (shown_ref x) (shown_refs ys)

times_pushed : (n : ℕ) (xs : Refs) (x : ℕ × CountedPage) → times n (shown_refs (xs ++ x ∷ [])) ≡ times n (shown_refs xs) + once n x.1.number
times_pushed n xs x = let two = times_in_two n xs (x ∷ []) in let first = times_first n x [] in omega (arith, two, first)

own_once : (n : ℕ) → ◌≡◌ {A = ℕ} (once n n) 1
own_once n = ap (λ b. cond b 1 0) (nat_eq_equiv.refl n)

append_one : (xs ys : Refs) (x : ℕ × CountedPage) → (xs ++ x ∷ []) ++ ys ≡ xs ++ x ∷ ys
append_one [] ys x = refl
append_one (y ∷ xs) ys x = ap (λ (l : Refs). y ∷ l) (append_one xs ys x)

all_push : (P : ℕ × CountedPage → Type 0) (xs : Refs) (x : ℕ × CountedPage) → All P xs → P x → All P (xs ++ x ∷ [])
all_push P xs x h p = All-from_recursion P (xs ++ x ∷ []) (go xs (recursion_from_All P xs h))
  where
    go : (ys : Refs) → Rattle.std.specs.List.AllByRecursion P ys → Rattle.std.specs.List.AllByRecursion P (ys ++ x ∷ [])
    go [] h = (p, tt)
    go (y ∷ ys) h = (h.0, go ys h.1)

module _ (old now : PageCounts) (refs rest came : Refs) (r : ℕ × CountedPage) (shareable : AreShareable old refs) (shared : Shared old now refs (r ∷ rest) came) where
  abbrev number : ℕ
  number = r.1.number

  all_times : (n : ℕ) → times n (shown_refs refs) ≡ times n (shown_refs came) + (once n number + times n (shown_refs rest))
  all_times n =
      let whole = ap (λ (l : Refs). times n (shown_refs l)) shared.parts in
      let two = times_in_two n came (r ∷ rest) in
      let first = times_first n r rest in
      omega (arith, whole, two, first)

  pub is_used : 0 < count_of now.counts number
  is_used = omega (arith, all_times number, shared.counts number, shareable.held number, own_once number)

  pub has_room : count_of now.counts number < 64
  has_room = omega (arith, all_times number, shared.counts number, shareable.room number, own_once number)

  inside : number < length now.counts
  inside = go (Rattle.std.proofs.lemmas.Bool.cases_lt number (length now.counts))
    where
      go : (number < length now.counts) ⊎ (length now.counts ≤ number) → number < length now.counts
      go (inl below) = below
      go (inr past) = absurd (omega (arith, is_used, get_or_past now.counts number 0 past))

  abbrev next : PageCounts
  next = with_spare (with_count now number (count_of now.counts number + 1)) number

  spare_stays : (n : ℕ) → HasSpare next number → HasSpare now n → HasSpare next n
  spare_stays n kept had = go (cases_eq n number)
    where
      go : (n ≡ number) ⊎ (n ≡ number → ⊥) → HasSpare next n
      go (inl same) = subst (λ (k : ℕ). HasSpare next k) (sym same) kept
      go (inr other) = get_or-set_other now.spares number n true false other ∙ had

  counted : (n : ℕ) → count_of next.counts n ≡ count_of now.counts n + once n number
  counted n = go (cases_eq n number)
    where
      go : (n ≡ number) ⊎ (n ≡ number → ⊥) → count_of next.counts n ≡ count_of now.counts n + once n number
      go (inl same) =
          let one : ◌≡◌ {A = ℕ} (once n number) 1 = ap (λ k. once k number) same ∙ own_once number in
          let here : count_of next.counts n ≡ count_of now.counts number + 1 = ap (count_of next.counts) same ∙ get_or-set_same now.counts number (count_of now.counts number + 1) 0 inside in
          let was : count_of now.counts n ≡ count_of now.counts number = ap (count_of now.counts) same in
          omega (arith, one, here, was)
      go (inr other) =
          let none : ◌≡◌ {A = ℕ} (once n number) 0 = ap (λ b. cond b 1 0) (ne_eqb number n (λ e. other (sym e))) in
          omega (arith, none, get_or-set_other now.counts number n (count_of now.counts number + 1) 0 other)

  one_more : HasSpare next number → Shared old next refs rest (came ++ r ∷ [])
  one_more kept = record {
    parts = append_one came rest r ∙ shared.parts;
    numbers = length-set now.counts number (count_of now.counts number + 1) ∙ shared.numbers;
    counts = λ n. omega (arith, counted n, shared.counts n, times_pushed n came r);
    spares = λ n had. spare_stays n kept (shared.spares n had);
    backed = all_push (λ x. HasSpare next x.1.number) came r (λ k d within. spare_stays _ kept (shared.backed k d within)) kept;
  }

  pub shared_one : (p : PageCounts) (more : Refs) → p ≡ next → more ≡ came ++ r ∷ [] → HasSpare p number → Shared old p refs rest more
  shared_one p more same_counts same_refs kept =
      subst (λ (x : PageCounts × Refs). Shared old x.0 refs rest x.1) (λ i. (sym same_counts i, sym same_refs i)) (one_more (subst (λ (x : PageCounts). HasSpare x number) same_counts kept))

nothing_behind : (xs : Refs) → xs ++ [] ≡ xs
nothing_behind [] = refl
nothing_behind (x ∷ xs) = ap (λ (l : Refs). x ∷ l) (nothing_behind xs)

pub all_shared : (old now : PageCounts) (refs rest came : Refs) → Shared old now refs rest came → rest ≡ [] → Shares old now refs came
all_shared old now refs rest came shared none =
    let same : came ≡ refs = sym (nothing_behind came) ∙ ap (λ (l : Refs). came ++ l) (sym none) ∙ shared.parts in
    record {
      same = same;
      balance = record { numbers = shared.numbers; counts = λ n. omega (arith, shared.counts n) };
      spares = shared.spares;
      backed = subst (λ (l : Refs). AreBacked now l) same (λ k d within _. shared.backed k d within);
    }

pub no_seconds : (counts : PageCounts) (rest : Refs) (seconds : Seconds) → LeftSeconds counts rest seconds → rest ≡ [] → seconds ≡ []
no_seconds counts rest [] left none = refl
no_seconds counts rest (x ∷ xs) left none = absurd (omega (arith, left.are.count, ap length none, Rattle.std.proofs.lemmas.List.length-reverse (x ∷ xs)))

-- what sharing the next reference asks
pub record NextShare (now : PageCounts) (r : ℕ × CountedPage) (x : Second) : Type 0 where
  pub same : x.0 ≡ r.1.body
  pub shared : x.0.own ≡ false
  pub used : 0 < count_of now.counts r.1.number
  pub room : count_of now.counts r.1.number < 64
  pub spare : IsNone x.1 → HasSpare now r.1.number

module _ (old now : PageCounts) (refs whole rest came : Refs) (r : ℕ × CountedPage) (more : whole ≡ r ∷ rest) (seconds left : Seconds) (x : Second) (popped : seconds ≡ left ++ x ∷ []) (shareable : AreShareable old refs)
    (shared : Shared old now refs whole came) (before : LeftSeconds old whole seconds) where
  shared_so : Shared old now refs (r ∷ rest) came
  shared_so = subst (λ (l : Refs). Shared old now refs l came) more shared

  second : NextSecond old r rest x left
  second = next_second old r rest seconds left x popped (subst (λ (l : Refs). LeftSeconds old l seconds) more before)

  pub next_share : NextShare now r x
  next_share = record {
    same = second.is.0;
    shared = second.is.1;
    used = is_used old now refs rest came r shareable shared_so;
    room = has_room old now refs rest came r shareable shared_so;
    spare = λ none. shared.spares r.1.number (second.is.2 none);
  }

  pub seconds_left : LeftSeconds old rest left
  seconds_left = second.more

  pub shared_more : (p : PageCounts) (pushed : Refs) (s : CountedPage) → p ≡ with_spare (with_count now r.1.number (count_of now.counts r.1.number + 1)) r.1.number → s ≡ r.1 → pushed ≡ came ++ (r.0, s) ∷ [] → HasSpare p r.1.number → Shared old p refs rest pushed
  shared_more p pushed s same_counts same_ref same_refs kept =
      shared_one old now refs rest came r shareable shared_so p pushed same_counts (same_refs ∙ ap (λ (t : CountedPage). came ++ (r.0, t) ∷ []) same_ref) kept

pub all_behind : (xs : Refs) (i : ℕ) → length xs ≤ i → Rattle.std.proofs.Common.drop i xs ≡ []
all_behind xs i past = go (Rattle.std.proofs.Common.drop i xs) (omega (arith, Rattle.std.proofs.lemmas.List.length-drop i xs, past))
  where
    go : (ys : Refs) → length ys ≡ 0 → ys ≡ []
    go [] e = refl
    go (y ∷ ys) e = absurd (omega (arith, e))

pub next_item : {X : Type 0} (xs : List X) (i : ℕ) (x : X) → i < length xs → x ≡ get_or xs i x → Rattle.std.proofs.Common.drop i xs ≡ x ∷ Rattle.std.proofs.Common.drop (i + 1) xs
next_item xs i x inside is = Rattle.std.proofs.lemmas.List.drop_more xs i x inside ∙ ap (λ y. y ∷ Rattle.std.proofs.Common.drop (i + 1) xs) (sym is)
