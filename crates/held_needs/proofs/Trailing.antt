-- Ranges one behind another: what the last of them cuts and earlier ones cut too, the one before it cuts.
use Rattle.std.proofs.Common.{◌≡◌, ℕ, zero, suc, ◌+◌, ◌≤◌, Bool, true, false, cond, not, List, [], ◌∷◌, ◌++◌, append-nil, append_assoc, refl, sym, ap, subst, ◌∙◌, ◌⊎◌, inl, inr, arith}
use mathlib.Core.Bool.{true≢false}
use Rattle.std.specs.Prelude.{◌&&◌, ◌||◌}
use Rattle.std.specs.List.{Contains, list_any}
use Rattle.std.specs.Ordering.{eq_by_cmp}
use Rattle.std.specs.Cmp.{eq_by_cmp_equiv}
use Rattle.std.specs.FinSet as set
use Rattle.std.proofs.lemmas.Bool.{or_cases, or_left, or_right}
use Rattle.std.proofs.lemmas.List.Concat.{flat_map-append}
use Rattle.table_place.specs.declared.Place.{Place}
use Rattle.table_place.specs.Place.{place_cmp, cut_by}
use Rattle.table_place.proofs.Tables.{in_range, to_range}
use Rattle.page_map.specs.Tables.{Tables, need}
use Rattle.page_map.proofs.Above.{any_append}
use Rattle.page_map.proofs.NeedOf.{cut_parts, cut_from}
use Rattle.page_map.proofs.Places.{place_total}
use Rattle.page_map.proofs.Wanted.{is_wanted}
use Rattle.plain_counts.specs.declared.cut.Pages.{Pages}
use Rattle.plain_counts.specs.Cut.{cut_by_all}
use Rattle.held_needs.proofs.Counted.{need_push}

-- ---- as many more behind lists that have the same of them

both_ways : (a b : Bool) → (a ≡ true → b ≡ true) → (b ≡ true → a ≡ true) → a ≡ b
both_ways true b f g = sym (f refl)
both_ways false true f g = absurd (true≢false (sym (g refl)))
both_ways false false f g = refl

pub as_many_more : (t : Tables) (xs zs ys : List Place) → ((q : Place) → is_wanted ys q ≡ true → is_wanted xs q ≡ is_wanted zs q) → need (xs ++ ys) t + need zs t ≡ need (zs ++ ys) t + need xs t
as_many_more t xs zs [] same = (λ i. need (append-nil xs i) t + need zs t) ∙ turn (need xs t) (need zs t) ∙ sym (λ i. need (append-nil zs i) t + need xs t)
  where
    turn : (a b : ℕ) → a + b ≡ b + a
    turn a b = omega arith
as_many_more t xs zs (y ∷ ys) same =
    let deeper = as_many_more t (xs ++ y ∷ []) (zs ++ y ∷ []) ys (λ q w.
    any_append (eq_by_cmp place_cmp q) xs (y ∷ []) ∙ ap (λ b. b || (eq_by_cmp place_cmp q y || false)) (same q (or_right (eq_by_cmp place_cmp q y) (is_wanted ys q) w)) ∙ sym (any_append (eq_by_cmp place_cmp q) zs (y ∷ []))) in
    let mine = same y (or_left (eq_by_cmp place_cmp y y) (is_wanted ys y) ((eq_by_cmp_equiv place_total).refl y)) in
    let one : need (zs ++ y ∷ []) t ≡ need zs t + cond (not (is_wanted xs y) && not (set.contains t y)) 1 0 = need_push zs y t ∙ ap (λ b. need zs t + cond (not b && not (set.contains t y)) 1 0) (sym mine) in
    less (need (xs ++ y ∷ ys) t) (need (zs ++ y ∷ ys) t) (need xs t) (need zs t) (cond (not (is_wanted xs y) && not (set.contains t y)) 1 0)
    (ap (λ ps. need ps t) (sym (append_assoc xs (y ∷ []) ys))) (ap (λ ps. need ps t) (sym (append_assoc zs (y ∷ []) ys))) (need_push xs y t) one deeper
  where
    less : {c d e f : ℕ} (a b m n k : ℕ) → a ≡ c → b ≡ d → e ≡ m + k → f ≡ n + k → c + f ≡ d + e → a + n ≡ b + m
    less a b m n k g h i j l = omega (arith, g, h, i, j, l)

-- ---- ranges one behind another

abbrev pub InRow : ℕ → List Pages → Type 0
InRow at [] = Unit {0}
InRow at (r ∷ rs) = (r.first ≡ at) × (1 ≤ r.count) × InRow (at + r.count) rs

-- the last of some, if there is one
abbrev pub last_before : Pages → List Pages → Pages
last_before old [] = old
last_before old (r ∷ rs) = last_before r rs

pub last_pushed : (old : Pages) (rs : List Pages) (r : Pages) → last_before old (rs ++ r ∷ []) ≡ r
last_pushed old [] r = refl
last_pushed old (x ∷ xs) r = last_pushed x xs r

-- it ends where the next one begins
ends_at : (at : ℕ) (x : Pages) (xs : List Pages) (r : Pages) → InRow at ((x ∷ xs) ++ r ∷ []) →
    (at ≤ (last_before x xs).first) × ((last_before x xs).first + (last_before x xs).count ≡ r.first) × (1 ≤ (last_before x xs).count)
ends_at at x [] r h = (omega (arith, h.0), omega (arith, h.0, h.2.0), h.1)
ends_at at x (y ∷ ys) r h = let deeper = ends_at (at + x.count) y ys r h.2 in (omega (arith, deeper.0), deeper.1, deeper.2)

-- and the others end before it
others_end : (at : ℕ) (x : Pages) (xs : List Pages) (r : Pages) → InRow at ((x ∷ xs) ++ r ∷ []) → (d : Pages) → Contains (x ∷ xs) d → (d ≡ last_before x xs) ⊎ (d.first + d.count ≤ (last_before x xs).first)
others_end at x [] r h d (zero, inside, is) = inl (sym is)
others_end at x [] r h d (suc k, inside, is) = absurd (omega (arith, inside))
others_end at x (y ∷ ys) r h d (zero, inside, is) = inr (subst (λ (p : Pages). p.first + p.count ≤ (last_before y ys).first) is (omega (arith, h.0, (ends_at (at + x.count) y ys r h.2).0)))
others_end at x (y ∷ ys) r h d (suc k, inside, is) = others_end (at + x.count) y ys r h.2 d (k, omega (arith, inside), is)

one_has : (f : Pages → Bool) (ds : List Pages) → list_any f ds ≡ true → (d : Pages) × Contains ds d × (f d ≡ true)
one_has f [] h = absurd (true≢false (sym h))
one_has f (d ∷ ds) h = elim (or_cases (f d) (list_any f ds) h) [
  | inl here ↦ (d, (0, omega arith, refl), here)
  | inr later ↦ (let at = one_has f ds later in (at.0, (suc at.1.0, omega (arith, at.1.1), at.1.2), at.2))
]

last_has : (f : Pages → Bool) (x : Pages) (xs : List Pages) → f (last_before x xs) ≡ true → list_any f (x ∷ xs) ≡ true
last_has f x [] h = or_left (f x) false h
last_has f x (y ∷ ys) h = or_right (f x) (list_any f (y ∷ ys)) (last_has f y ys h)

module _ (levels space : ℕ) (few : levels ≤ 5) where
  abbrev cuts : Place → Pages → Bool
  cuts q d = is_wanted (cut_by levels space d.first d.count) q

  pub among : (ds : List Pages) (q : Place) → is_wanted (cut_by_all levels space ds) q ≡ list_any (cuts q) ds
  among [] q = refl
  among (d ∷ ds) q = any_append (eq_by_cmp place_cmp q) (cut_by levels space d.first d.count) (cut_by_all levels space ds) ∙ ap (λ b. cuts q d || b) (among ds q)

  -- a table that one of them and a later one cut, the one before that cuts
  between : (q : Place) (d m r : Pages) → 1 ≤ d.count → 1 ≤ m.count → 1 ≤ r.count → d.first + d.count ≤ m.first → m.first + m.count ≡ r.first → cuts q d ≡ true → cuts q r ≡ true → cuts q m ≡ true
  between q d m r some_d some_m some_r before next cut_d cut_r =
      let a = cut_parts levels space d.first d.count q few some_d cut_d in
      let b = cut_parts levels space r.first r.count q few some_r cut_r in
      let low = in_range d.first d.count a.page a.within_range in
      let high = in_range r.first r.count b.page b.within_range in
      cut_from levels space m.first m.count q few (record {
        same_space = a.same_space;
        low = a.low;
        high = a.high;
        page = m.first;
        within_range = to_range m.first m.count m.first (omega arith) (omega (arith, some_m));
        from = omega (arith, a.from, low.1, before);
        to = omega (arith, b.to, high.0, next, some_m);
        outside = inr (omega (arith, b.to, high.0, next));
      })

  -- so behind ranges in a row as many more are cut as behind the last of them alone, whatever was cut before them
  module _ (t : Tables) (old : Pages) where
    same_cut : (at : ℕ) (done : List Pages) (r : Pages) → 1 ≤ r.count → InRow at (done ++ r ∷ []) → (some : (d : Pages) → Contains done d → 1 ≤ d.count) → (q : Place) → cuts q r ≡ true →
        list_any (cuts q) (old ∷ done) ≡ list_any (cuts q) (old ∷ last_before old done ∷ [])
    same_cut at [] r some_r row some q h = twice (cuts q old)
      where
        twice : (b : Bool) → (b || false) ≡ (b || (b || false))
        twice true = refl
        twice false = refl
    same_cut at (x ∷ xs) r some_r row some q h = ap (λ b. cuts q old || b) (both_ways (list_any (cuts q) (x ∷ xs)) (cuts q (last_before x xs) || false)
        (λ e. let one = one_has (cuts q) (x ∷ xs) e in or_left (cuts q (last_before x xs)) false (by_place one.0 one.2 one.1 (others_end at x xs r row one.0 one.1)))
        (λ e. last_has (cuts q) x xs (plain (cuts q (last_before x xs)) e)))
      where
        plain : (b : Bool) → (b || false) ≡ true → b ≡ true
        plain true e = refl
        plain false e = absurd (true≢false (sym e))

        by_place : (d : Pages) → cuts q d ≡ true → Contains (x ∷ xs) d → (d ≡ last_before x xs) ⊎ (d.first + d.count ≤ (last_before x xs).first) → cuts q (last_before x xs) ≡ true
        by_place d e held (inl same) = subst (λ p. cuts q p ≡ true) same e
        by_place d e held (inr before) = let ends = ends_at at x xs r row in between q d (last_before x xs) r (some d held) ends.2 some_r before ends.1 e h

    pub behind_all : (at : ℕ) (done : List Pages) (r : Pages) (n : ℕ) → 1 ≤ r.count → InRow at (done ++ r ∷ []) → ((d : Pages) → Contains done d → 1 ≤ d.count) →
        need (cut_by_all levels space ((old ∷ last_before old done ∷ []) ++ r ∷ [])) t ≡ need (cut_by_all levels space (old ∷ last_before old done ∷ [])) t + n →
        need (cut_by_all levels space (old ∷ (done ++ r ∷ []))) t ≡ need (cut_by_all levels space (old ∷ done)) t + n
    behind_all at done r n some_r row some e =
        less _ (need (cut_by_all levels space (old ∷ done)) t) (need (cut_by_all levels space (old ∷ last_before old done ∷ [])) t) n
        (ap (λ ps. need ps t) (flat_map-append (λ (d : Pages). cut_by levels space d.first d.count) (old ∷ done) (r ∷ []) ∙ ap (λ ps. cut_by_all levels space (old ∷ done) ++ ps) (append-nil (cut_by levels space r.first r.count))))
        (ap (λ ps. need ps t) (sym (flat_map-append (λ (d : Pages). cut_by levels space d.first d.count) (old ∷ last_before old done ∷ []) (r ∷ []) ∙ ap (λ ps. cut_by_all levels space (old ∷ last_before old done ∷ []) ++ ps) (append-nil (cut_by levels space r.first r.count)))) ∙ e)
        (as_many_more t (cut_by_all levels space (old ∷ done)) (cut_by_all levels space (old ∷ last_before old done ∷ [])) (cut_by levels space r.first r.count)
        (λ q h. among (old ∷ done) q ∙ same_cut at done r some_r row some q h ∙ sym (among (old ∷ last_before old done ∷ []) q)))
      where
        less : {c d : ℕ} (a m k n : ℕ) → a ≡ c → d ≡ k + n → c + k ≡ d + m → a ≡ m + n
        less a m k n g h l = omega (arith, g, h, l)
