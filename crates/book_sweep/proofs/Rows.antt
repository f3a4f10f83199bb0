-- How many rows are free after others became so.
use Rattle.std.proofs.Common.{◌≡◌, ◌≢◌, ℕ, zero, suc, ◌+◌, ◌<◌, ◌≤◌, Bool, true, false, cond, ◌||◌, List, [], ◌∷◌, length, refl, sym, ap, ◌∙◌, inl, inr, arith, eqb, eq-eqb, ne_eqb}
use Rattle.std.specs.Prelude.{nat_le}
use Rattle.std.specs.List.{filter, range_with_len, count_by}
use Rattle.std.specs.Ordering.{nat_cmp}
use Rattle.std.specs.Cmp.{nat_cmp_total, unsigned_tied}
use Rattle.std.specs.FinSet as set
use Rattle.std.proofs.lemmas.Bool.{cases_eq, le-leb}
use Rattle.std.proofs.lemmas.List.Sums.{sum_by-cons}
use Rattle.walk_core.specs.Lists.{times, Has, among}
use Rattle.walk_core.proofs.RowLists.{times-nil, times-cons_same, times-cons_other, among_true, among_false}
use Rattle.book.proofs.LeastRows.{same_filter}

abbrev Numbers : Type 0
Numbers = set.FinSet nat_cmp

-- Of the numbers of a range that pass, those up to t

abbrev counted : ℕ → List ℕ → ℕ
counted t xs = count_by (λ row. nat_le row t) xs

counted_cons : (t x : ℕ) (xs : List ℕ) → counted t (x ∷ xs) ≡ cond (nat_le x t) 1 0 + counted t xs
counted_cons t x xs = sum_by-cons (λ row. cond (nat_le row t) 1 0) x xs

abbrev passing : ℕ → (ℕ → Bool) → ℕ → ℕ → ℕ
passing t p lo len = counted t (filter p (range_with_len lo len))

-- one number more passes p than q
one_more : (t r : ℕ) (p q : ℕ → Bool) → p r ≡ true → q r ≡ false → ((m : ℕ) → m ≢ r → p m ≡ q m) → r ≤ t → (lo len : ℕ) → lo ≤ r → r < lo + len → passing t p lo len ≡ passing t q lo len + 1
one_more t r p q pr qr others small lo zero low high = absurd (omega (arith, low, high))
one_more t r p q pr qr others small lo (suc len) low high =
    elim (cases_eq lo r) [
      | inl e ↦
          let ps : List ℕ = filter p (range_with_len (lo + 1) len) in let qs : List ℕ = filter q (range_with_len (lo + 1) len) in
          let rest : ps ≡ qs = same_filter p q (lo + 1) len (λ m a b. others m (λ f. omega (arith, e, f, a))) in
          let here : counted t (cond (p lo) (lo ∷ ps) ps) ≡ counted t (lo ∷ ps) = ap (λ b. counted t (cond b (lo ∷ ps) ps)) (ap p e ∙ pr) in
          let gone : counted t (cond (q lo) (lo ∷ qs) qs) ≡ counted t qs = ap (λ b. counted t (cond b (lo ∷ qs) qs)) (ap q e ∙ qr) in
          let one : ◌≡◌ {A = ℕ} (cond (nat_le lo t) 1 0) 1 = ap (λ b. cond b 1 0) (le-leb lo t (omega (arith, e, small))) in
          let same : counted t ps ≡ counted t qs = ap (counted t) rest in
          omega (arith, here, gone, one, same, counted_cons t lo ps)
      | inr apart ↦
          go (p lo) (q lo) (others lo apart) _ _ (one_more t r p q pr qr others small (lo + 1) len (omega (arith, low, apart)) (omega (arith, high)))
    ]
  where
    go : (a b : Bool) → a ≡ b → (ps qs : List ℕ) → counted t ps ≡ counted t qs + 1 → counted t (cond a (lo ∷ ps) ps) ≡ counted t (cond b (lo ∷ qs) qs) + 1
    go true true e ps qs more = omega (arith, more, counted_cons t lo ps, counted_cons t lo qs)
    go true false e ps qs more = absurd (cc)
    go false true e ps qs more = absurd (cc)
    go false false e ps qs more = more

-- A set with the numbers of a list

abbrev pub with_all : Numbers → List ℕ → Numbers
with_all s [] = s
with_all s (r ∷ rs) = set.insert (with_all s rs) r

put_one : (s : Numbers) (r q : ℕ) → set.contains (set.insert s r) q ≡ (eqb q r || set.contains s q)
put_one s r q = set.contains-insert nat_cmp_total s r q ∙ ap (λ b. b || set.contains s q) (unsigned_tied q r)

or_false : (b : Bool) → (b || false) ≡ b
or_false true = refl
or_false false = refl

or_true : (b : Bool) → (b || true) ≡ true
or_true true = refl
or_true false = refl

pub has_all : (s : Numbers) (rs : List ℕ) (q : ℕ) → set.contains (with_all s rs) q ≡ (set.contains s q || among rs q)
has_all s [] q = sym (ap (λ b. set.contains s q || b) (among_false [] q (times-nil q)) ∙ or_false (set.contains s q))
has_all s (r ∷ rs) q =
    elim (cases_eq q r) [
      | inl e ↦
          put_one (with_all s rs) r q
          ∙ ap (λ b. b || set.contains (with_all s rs) q) (eq-eqb q r e)
          ∙ sym (ap (λ b. set.contains s q || b) (among_true (r ∷ rs) q (omega (arith, times-cons_same q r rs (sym e)))) ∙ or_true (set.contains s q))
      | inr ne ↦
          put_one (with_all s rs) r q
          ∙ ap (λ b. b || set.contains (with_all s rs) q) (ne_eqb q r ne)
          ∙ has_all s rs q
          ∙ ap (λ n. set.contains s q || Rattle.std.specs.Prelude.nat_lt 0 n) (sym (times-cons_other q r rs (λ z. ne (sym z))))
    ]

-- numbers that were not there, each once and up to t
pub record AreNew (s : Numbers) (limit t : ℕ) (rs : List ℕ) : Type 0 where
  pub once : (r : ℕ) → times r rs ≤ 1
  pub absent : (r : ℕ) → Has rs r → set.contains s r ≡ false
  pub below : (r : ℕ) → Has rs r → r < limit
  pub small : (r : ℕ) → Has rs r → r ≤ t

pub record Grows (s s' : Numbers) (limit t count : ℕ) : Type 0 where
  pub all : set.len s' ≡ set.len s + count
  pub within : passing t (set.contains s') 0 limit ≡ passing t (set.contains s) 0 limit + count

grown : (s : Numbers) (limit t : ℕ) (rs : List ℕ) → AreNew s limit t rs → Grows s (with_all s rs) limit t (length rs)
grown s limit t [] new = record { all = omega arith; within = omega arith }
grown s limit t (r ∷ rs) new =
    let here : Has (r ∷ rs) r = omega (arith, times-cons_same r r rs refl) in
    let none : times r rs ≡ 0 = omega (arith, times-cons_same r r rs refl, new.once r) in
    let was : set.contains (with_all s rs) r ≡ false = has_all s rs r ∙ (λ i. new.absent r here i || among_false rs r none i) in
    let rest = grown s limit t rs fewer in
    let more : set.len (set.insert (with_all s rs) r) ≡ set.len (with_all s rs) + 1 = set.len-insert nat_cmp_total (with_all s rs) r ∙ ap (λ b. cond b (set.len (with_all s rs)) (set.len (with_all s rs) + 1)) was in
    let count = one_more t r (set.contains (set.insert (with_all s rs) r)) (set.contains (with_all s rs))
    (put_one (with_all s rs) r r ∙ ap (λ b. b || set.contains (with_all s rs) r) (eq-eqb r r refl))
    was
    (λ m other. put_one (with_all s rs) r m ∙ ap (λ b. b || set.contains (with_all s rs) m) (ne_eqb m r other))
    (new.small r here) 0 limit (omega arith) (omega (arith, new.below r here)) in
    record { all = omega (arith, more, rest.all); within = omega (arith, count, rest.within) }
  where
    later : (q : ℕ) → Has rs q → Has (r ∷ rs) q
    later q has = elim (cases_eq r q) [
      | inl e ↦ omega (arith, times-cons_same q r rs e)
      | inr ne ↦ omega (arith, has, times-cons_other q r rs ne)
    ]

    fewer : AreNew s limit t rs
    fewer = record {
      once = λ q. elim (cases_eq r q) [
        | inl e ↦ omega (arith, new.once q, times-cons_same q r rs e)
        | inr ne ↦ omega (arith, new.once q, times-cons_other q r rs ne)
      ];
      absent = λ q has. new.absent q (later q has);
      below = λ q has. new.below q (later q has);
      small = λ q has. new.small q (later q has);
    }

-- by what the set has afterwards
pub grows : (s s' : Numbers) (limit t : ℕ) (rs : List ℕ) → AreNew s limit t rs → ((q : ℕ) → set.contains s' q ≡ (set.contains s q || among rs q)) → Grows s s' limit t (length rs)
grows s s' limit t rs new has =
    let same : s' ≡ with_all s rs = set.same_set nat_cmp_total set.nat_cmp-IsAntisymmetric s' (with_all s rs) (λ q. has q ∙ sym (has_all s rs q)) in
    let g = grown s limit t rs new in
    record {
      all = ap set.len same ∙ g.all;
      within = ap (λ (x : Numbers). passing t (set.contains x) 0 limit) same ∙ g.within;
    }
