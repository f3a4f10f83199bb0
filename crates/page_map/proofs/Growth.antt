-- The tables after a call: those that it wants are there, and those that it doesn't give up stay.
use Rattle.std.proofs.Common.{◌≡◌, ℕ, ◌+◌, ◌-◌, ◌/◌, ◌^◌, ◌<◌, ◌≤◌, Bool, true, false, cond, not, ◌&&◌, ◌||◌, ◌⊎◌, inl, inr, List, [], ◌∷◌, refl, sym, ap, subst, ◌∙◌, arith}
use mathlib.Core.Bool.{true≢false}
use Rattle.std.specs.FinSet as set
use Rattle.std.specs.FinSet.{same_set, len-insert, contains-union, contains-retain, contains-from_list}
use Rattle.std.specs.Prelude.{nat_lt}
use Rattle.std.proofs.lemmas.Bool.{and_parts, and_from, or_cases, or_left, or_right, not_from_false, not-true, ltb-true, false_from_ne_true, eqb-false, cases_lt}
use Rattle.table_place.specs.declared.Place.{Place}
use Rattle.table_place.specs.Range.{within}
use Rattle.table_place.specs.Place.{place_cmp, root, parent, is_place}
use Rattle.page_map.specs.Tables.{Tables, changed_tables, need}
use Rattle.page_map.specs.Alike.{is_unlike}
use Rattle.page_map.specs.State.{State, AddressSpace, IsConsistent, levels, linked, is_present}
use Rattle.page_map.proofs.Places.{place_total, place_exact}
use Rattle.page_map.proofs.Evaluate.{alike, added, choose_len, union_empty, retain_empty, retain_insert}
use Rattle.page_map.proofs.Wanted.{is_wanted, AreWanted}
use Rattle.page_map.proofs.Cells.{KeepsTables}

module _ (is_given_up : Place → Bool) (wanted : List Place) (tables : Tables) where
  pub contains_changed : (p : Place) → set.contains (changed_tables is_given_up wanted tables) p ≡ ((set.contains tables p && not (is_given_up p)) || is_wanted wanted p)
  contains_changed p =
      contains-union place_total (set.retain tables (λ p. not (is_given_up p))) (set.from_list wanted) p
      ∙ (λ i. contains-retain tables (λ p. not (is_given_up p)) p (alike place_total place_exact (λ p. not (is_given_up p)) p) i || contains-from_list place_total wanted p i)

  pub stays : (p : Place) → set.contains tables p ≡ true → is_given_up p ≡ false → set.contains (changed_tables is_given_up wanted tables) p ≡ true
  stays p here kept = contains_changed p ∙ or_left _ (is_wanted wanted p) (and_from _ _ here (not_from_false (is_given_up p) kept))

  pub comes : (p : Place) → is_wanted wanted p ≡ true → set.contains (changed_tables is_given_up wanted tables) p ≡ true
  comes p want = contains_changed p ∙ or_right (set.contains tables p && not (is_given_up p)) _ want

  pub whence : (p : Place) → set.contains (changed_tables is_given_up wanted tables) p ≡ true →
      ((set.contains tables p ≡ true) × (is_given_up p ≡ false)) ⊎ (is_wanted wanted p ≡ true)
  whence p h = elim (or_cases (set.contains tables p && not (is_given_up p)) (is_wanted wanted p) (sym (contains_changed p) ∙ h)) [
    | inl old ↦ inl (let both = and_parts (set.contains tables p) (not (is_given_up p)) old in (both.0, not-true (is_given_up p) both.1))
    | inr new ↦ inr new
  ]

-- a call that gives up no table
module _ (is_given_up : Place → Bool) (none : (p : Place) → is_given_up p ≡ false) (wanted : List Place) where
  pub all_stay : (tables : Tables) → set.retain tables (λ p. not (is_given_up p)) ≡ tables
  all_stay tables = same_set place_total place_exact _ _ (λ q.
      contains-retain tables (λ p. not (is_given_up p)) q (λ x _. ap not (none x ∙ sym (none q))) ∙ ap (λ b. set.contains tables q && not b) (none q) ∙ and_true (set.contains tables q))
    where
      and_true : (a : Bool) → (a && true) ≡ a
      and_true true = refl
      and_true false = refl

  -- adds as many as it needs
  pub grown_len : (tables : Tables) → set.len (changed_tables is_given_up wanted tables) ≡ set.len tables + need wanted tables
  grown_len tables = ap (λ s. set.len (set.union s (set.from_list wanted))) (all_stay tables) ∙ added place_total place_exact tables wanted

-- a call that gives up tables has no more
fewer : (a b : Bool) (r n : ℕ) → r ≤ n → cond a (cond (b && a) r (r + 1)) r ≤ cond b n (n + 1)
fewer true true r n h = h
fewer true false r n h = omega (arith, h)
fewer false true r n h = h
fewer false false r n h = omega (arith, h)

fewer_listed : (ps : List Place) (p : Place → Bool) → set.len (set.retain (set.from_list {R = place_cmp} ps) p) ≤ set.len (set.from_list {R = place_cmp} ps)
fewer_listed [] p = omega (arith, ap set.len (retain_empty place_total place_exact p))
fewer_listed (k ∷ ps) p =
    let s = set.from_list {R = place_cmp} ps in
    let kept : set.contains (set.retain s p) k ≡ (set.contains s k && p k) = contains-retain s p k (alike place_total place_exact p k) in
    let all = ap set.len (retain_insert place_total place_exact s k p) ∙ choose_len place_total place_exact (p k) (set.retain s p) k
    ∙ ap (λ b. cond (p k) (cond b (set.len (set.retain s p)) (set.len (set.retain s p) + 1)) (set.len (set.retain s p))) kept in
    omega (arith, all, len-insert place_total s k, fewer (p k) (set.contains s k) (set.len (set.retain s p)) (set.len s) (fewer_listed ps p))

pub listed : (tables : Tables) → set.from_list {R = place_cmp} (set.items tables) ≡ tables
listed tables = same_set place_total place_exact _ _ (λ q. contains-from_list place_total (set.items tables) q ∙ sym (set.contains-items tables q))

-- fewer are left of a set
pub retained_fewer : (tables : Tables) (keep : Place → Bool) → set.len (set.retain tables keep) ≤ set.len tables
retained_fewer tables keep = subst (λ (s : Tables). set.len (set.retain s keep) ≤ set.len s) (listed tables) (fewer_listed (set.items tables) keep)

pub fewer_left : (is_given_up : Place → Bool) (tables : Tables) → set.len (changed_tables is_given_up [] tables) ≤ set.len tables
fewer_left is_given_up tables =
    let left = ap set.len (union_empty place_total place_exact (set.retain tables (λ p. not (is_given_up p)))) in
    omega (arith, left, retained_fewer tables (λ p. not (is_given_up p)))

-- a call adds at most as many tables as it needs
pub at_most_needed : (is_given_up : Place → Bool) (wanted : List Place) (tables : Tables) → set.len (changed_tables is_given_up wanted tables) ≤ set.len tables + need wanted tables
at_most_needed is_given_up wanted tables =
    omega (arith, ap set.len part, retained_fewer (set.union tables (set.from_list wanted)) stay, added place_total place_exact tables wanted)
  where
    stay : Place → Bool
    stay p = not (is_given_up p) || is_wanted wanted p

    same : (a k w : Bool) → ((a && k) || w) ≡ ((a || w) && (k || w))
    same true true w = refl
    same true false true = refl
    same true false false = refl
    same false true true = refl
    same false true false = refl
    same false false true = refl
    same false false false = refl

    part : changed_tables is_given_up wanted tables ≡ set.retain (set.union tables (set.from_list wanted)) stay
    part = same_set place_total place_exact _ _ (λ q.
        contains_changed is_given_up wanted tables q
        ∙ same (set.contains tables q) (not (is_given_up q)) (is_wanted wanted q)
        ∙ sym (contains-retain (set.union tables (set.from_list wanted)) stay q (alike place_total place_exact stay q)
        ∙ ap (λ b. b && stay q) (contains-union place_total tables (set.from_list wanted) q ∙ ap (λ b. set.contains tables q || b) (contains-from_list place_total wanted q))))

-- the parent of a table right below the root is the root
pub parent_root : (levels : ℕ) (p : Place) → is_place levels p ≡ true → p.level + 1 ≡ levels → parent p ≡ root levels p.space
parent_root levels p h e = λ i. record { space = p.space; level = e i; prefix = none i }
  where
    low : p.prefix < 512
    low =
        let inner = and_parts (within 1 levels p.level) (nat_lt p.prefix (512 ^ (levels - p.level))) (and_parts (nat_lt p.space 64) (within 1 levels p.level && nat_lt p.prefix (512 ^ (levels - p.level))) h).1 in
        omega (arith, ltb-true p.prefix (512 ^ (levels - p.level)) inner.1, ap (λ n. 512 ^ n) one, pow-one)
      where
        one : levels - p.level ≡ 1
        one = omega (arith, e)

        pow-one : 512 ^ 1 ≡ 512
        pow-one = refl

    none : p.prefix / 512 ≡ 0
    none = omega (arith, low)

-- Where a call gives up only tables below the root of one space, with each all those below it, and has as wanted or keeps
-- each table whose span is not alike in the new cells, the tables after it are as the facts ask.
pub settled : (is_given_up : Place → Bool) (wanted : List Place) (st : State) (space : ℕ) (cells : AddressSpace) → IsConsistent st → is_present st space ≡ true →
    ((p : Place) → is_given_up p ≡ true → (p.space ≡ space) × (p.level < levels st)) →
    ((p : Place) → is_given_up (parent p) ≡ true → is_given_up p ≡ true) →
    AreWanted (levels st) space wanted →
    ((p : Place) → p.space ≡ space → 1 ≤ p.level → p.level < levels st → is_unlike cells p ≡ true → ((set.contains st.tables p ≡ true) × (is_given_up p ≡ false)) ⊎ (is_wanted wanted p ≡ true)) →
    linked st + need wanted st.tables ≤ st.limits.tables → KeepsTables st space cells (changed_tables is_given_up wanted st.tables)
settled is_given_up wanted st space cells ok here gone below want own room = record {
  roots = root_stays;
  others = λ p apart h. stays is_given_up wanted st.tables p h (false_from_ne_true _ (λ up. eqb-false p.space space apart (gone p up).0));
  own = λ p e low high h. elim (own p e low high h) [
    | inl old ↦ stays is_given_up wanted st.tables p old.0 old.1
    | inr new ↦ comes is_given_up wanted st.tables p new
  ];
  parents = λ p h low. elim (whence is_given_up wanted st.tables p h) [
    | inl old ↦ stays is_given_up wanted st.tables (parent p) (ok.parents p old.0 low) (false_from_ne_true _ (λ up. true≢false (sym (below p up) ∙ old.1)))
    | inr new ↦ (elim (cases_lt (p.level + 1) (levels st)) [
      | inl less ↦ comes is_given_up wanted st.tables (parent p) (want.parents p new less)
      | inr last ↦ (let is = parent_root (levels st) p (want.places p new) (top p.level (levels st) low last) in
          let in_space = want.spaces p new in
          subst (λ (q : Place). set.contains (changed_tables is_given_up wanted st.tables) q ≡ true) (sym is) (root_stays p.space (ap (is_present st) in_space ∙ here)))
    ])
  ];
  absent = λ p h. elim (whence is_given_up wanted st.tables p h) [
    | inl old ↦ ok.absent p old.0
    | inr new ↦ ap (is_present st) (want.spaces p new) ∙ here
  ];
  places = λ p h. elim (whence is_given_up wanted st.tables p h) [ inl old ↦ ok.places p old.0 | inr new ↦ want.places p new ];
  few = omega (arith, at_most_needed is_given_up wanted st.tables, room);
}
  where
    not_below : {n m : ℕ} → n ≡ m → n < m → ⊥
    not_below e h = omega arith

    top : (k n : ℕ) → k < n → n ≤ k + 1 → k + 1 ≡ n
    top k n a b = omega arith

    root_stays : (s : ℕ) → is_present st s ≡ true → set.contains (changed_tables is_given_up wanted st.tables) (root (levels st) s) ≡ true
    root_stays s h = stays is_given_up wanted st.tables (root (levels st) s) (ok.roots s h) (false_from_ne_true _ (λ up. not_below refl (gone (root (levels st) s) up).1))
