-- How many pages carry a number: those that a call uses, by its list of references, and all others.
use Rattle.std.proofs.Common.{◌≡◌, ℕ, zero, suc, ◌+◌, ◌<◌, ◌≤◌, Bool, true, false, cond, not, List, [], ◌∷◌, ◌++◌, refl, sym, ap, ◌∙◌, arith}
use Rattle.std.specs.Prelude.{Option, Some, None, T, nat_eq, map}
use Rattle.std.specs.List.{sum_by, count_by, filter, AllByRecursion}
use Rattle.std.specs.Option.{option_map_or}
use Rattle.std.specs.Ordering.{nat_cmp}
use Rattle.std.specs.declared.cmp.Ordering.TheVariants.{Less}
use Rattle.std.specs.Cmp.{ranked, unsigned_tied, nat_eq_equiv}
use Rattle.std.proofs.lemmas.Bool.{cases_eq}
use Rattle.std.proofs.lemmas.List.Sums.{sum_by-cons, sum_by-append}
use mathlib.Core.Logic.{◌⊎◌, inl, inr}
use Rattle.std.specs.FinMap as fin
use Rattle.std.specs.FinMap.{FinMap, find, is_sorted, entries_sorted, get-entries}
use Rattle.std.specs.FinMap.Entries.{below_all}
use Rattle.page_map.specs.declared.cell.Cell.{Cell}
use Rattle.page_map.specs.Cell.{contents}
use Rattle.page_map.specs.State.{AddressSpace, carries}
use Rattle.page_map.proofs.Weights.{first, second, less}
use Rattle.machine_plan.specs.Uses.{Ref, ref_at, refs_of}
use Rattle.book.specs.Balance.{times}

module _ {X : Type 0} (w : ℕ → X → ℕ) where
  abbrev total : List (ℕ × X) → ℕ
  total es = sum_by (λ e. w e.0 e.1) es

  abbrev at_key : List (ℕ × X) → ℕ → ℕ
  at_key es k = option_map_or (w k) (find nat_cmp k es) 0

  sums : (ℕ → ℕ) → ℕ → ℕ → ℕ
  sums f low zero = 0
  sums f low (suc n) = f low + sums f (low + 1) n

  sums_none : (f : ℕ → ℕ) (low n : ℕ) → ((k : ℕ) → f k ≡ 0) → sums f low n ≡ 0
  unfolding sums
  sums_none f low zero h = refl
  sums_none f low (suc n) h = omega (arith, h low, sums_none f (low + 1) n h)

  sums_same : (f g : ℕ → ℕ) (low n : ℕ) → ((k : ℕ) → low ≤ k → f k ≡ g k) → sums f low n ≡ sums g low n
  unfolding sums
  sums_same f g low zero h = refl
  sums_same f g low (suc n) h = let rest = sums_same f g (low + 1) n (λ k a. h k (omega arith)) in let here = h low (omega arith) in omega (arith, here, rest)

  abbrev pub Within : ℕ → ℕ → ℕ × X → Type 0
  Within low n e = (low ≤ e.0) × (e.0 < low + n)

  pub later : (low n : ℕ) (e : ℕ × X) (es : List (ℕ × X)) → low ≤ e.0 → T (below_all nat_cmp e.0 es) → AllByRecursion (Within low (suc n)) es → AllByRecursion (Within (low + 1) n) es
  later low n e [] a h within = tt
  later low n e (f ∷ es) a h within =
      ((omega (arith, a, ranked e.0 f.0 Less (sym (less _ (first _ _ h)))), omega (arith, within.0.1)), later low n e es a (second _ _ h) within.1)

  -- below the first of a list in order, a key is not found
  pub none_below : (x y : ℕ) (es : List (ℕ × X)) → x ≤ y → T (below_all nat_cmp y es) → find nat_cmp x es ≡ None
  none_below x y [] p h = refl
  none_below x y (e ∷ es) p h =
      let apart : nat_eq x e.0 ≡ false = differs (omega (arith, p, ranked y e.0 Less (sym (less _ (first _ _ h))))) in
      ap (λ b. cond b (Some e.1) (find nat_cmp x es)) (unsigned_tied x e.0 ∙ apart) ∙ none_below x y es p (second _ _ h)
    where
      differs : {a b : ℕ} → a < b → nat_eq a b ≡ false
      differs l = grind (arith, l)

  -- a sum over a list in order is the sum over all keys of a range that has them
  total_is : (n low : ℕ) (es : List (ℕ × X)) → T (is_sorted nat_cmp es) → AllByRecursion (Within low n) es → total es ≡ sums (at_key es) low n
  unfolding sums
  total_is zero low [] h within = refl
  total_is zero low (e ∷ es) h within = absurd (omega (arith, within.0.0, within.0.1))
  total_is (suc n) low [] h within = sym (sums_none (at_key []) low (suc n) (λ k. refl))
  total_is (suc n) low (e ∷ es) h within = go (λ fs. total_is n (low + 1) fs) (cases_eq e.0 low)
    where
      found_first : find nat_cmp e.0 (e ∷ es) ≡ Some e.1
      found_first = ap (λ b. cond b (Some e.1) (find nat_cmp e.0 es)) (unsigned_tied e.0 e.0 ∙ nat_eq_equiv.refl e.0)

      beside : (k : ℕ) → e.0 < k → at_key (e ∷ es) k ≡ at_key es k
      beside k a = ap (λ b. option_map_or (w k) (cond b (Some e.1) (find nat_cmp k es)) 0) (unsigned_tied k e.0 ∙ differs a)
        where
          differs : {a b : ℕ} → a < b → nat_eq b a ≡ false
          differs l = grind (arith, l)

      go : ((fs : List (ℕ × X)) → T (is_sorted nat_cmp fs) → AllByRecursion (Within (low + 1) n) fs → total fs ≡ sums (at_key fs) (low + 1) n) → (e.0 ≡ low) ⊎ (e.0 ≡ low → ⊥) → total (e ∷ es) ≡ sums (at_key (e ∷ es)) low (suc n)
      go more (inl same) =
          let here : at_key (e ∷ es) low ≡ w e.0 e.1 = ap (at_key (e ∷ es)) (sym same) ∙ ap (λ o. option_map_or (w e.0) o 0) found_first in
          let rest = more es (second _ _ h) (later low n e es within.0.0 (first _ _ h) within.1) in
          let alike = sums_same (at_key (e ∷ es)) (at_key es) (low + 1) n (λ k a. beside k (omega (arith, same, a))) in
          omega (arith, sum_by-cons (λ (e : ℕ × X). w e.0 e.1) e es, here, rest, alike)
      go more (inr apart) =
          let here : at_key (e ∷ es) low ≡ 0 = ap (λ o. option_map_or (w low) o 0) (ap (λ b. cond b (Some e.1) (find nat_cmp low es)) (unsigned_tied low e.0 ∙ differs (omega (arith, apart, within.0.0))) ∙ none_below low e.0 es within.0.0 (first _ _ h)) in
          let rest = more (e ∷ es) h ((omega (arith, apart, within.0.0), omega (arith, within.0.1)), later low n e es within.0.0 (first _ _ h) within.1) in
          omega (arith, here, rest)
        where
          differs : {a b : ℕ} → a < b → nat_eq a b ≡ false
          differs l = grind (arith, l)

  -- a number above all keys of a list
  pub top : List (ℕ × X) → ℕ
  top [] = 0
  top (e ∷ es) = e.0 + 1 + top es

  pub below_top : (n : ℕ) (es : List (ℕ × X)) → top es ≤ n → AllByRecursion (Within 0 n) es
  unfolding top
  below_top n [] h = tt
  below_top n (e ∷ es) h = ((omega arith, omega (arith, h)), below_top n es (omega (arith, h)))

  -- two maps of which each key weighs the same
  pub same_total : (m l : FinMap nat_cmp X) → ((k : ℕ) → option_map_or (w k) (fin.get m k) 0 ≡ option_map_or (w k) (fin.get l k) 0) → total (fin.entries m) ≡ total (fin.entries l)
  same_total m l same =
      let n = top (fin.entries m) + top (fin.entries l) in
      total_is n 0 (fin.entries m) (entries_sorted m) (below_top n (fin.entries m) (omega arith))
      ∙ sums_same (at_key (fin.entries m)) (at_key (fin.entries l)) 0 n (λ k _. ap (λ o. option_map_or (w k) o 0) (sym (get-entries m k)) ∙ same k ∙ ap (λ o. option_map_or (w k) o 0) (get-entries l k))
      ∙ sym (total_is n 0 (fin.entries l) (entries_sorted l) (below_top n (fin.entries l) (omega arith)))

-- The references of a list of cells, by their numbers
module _ (number_of : Cell → Option ℕ) (n : ℕ) where
  abbrev pub carried : AddressSpace → ℕ
  carried cells = count_by (carries number_of n) (fin.values cells)

  abbrev one : Cell → ℕ
  one c = cond (carries number_of n c) 1 0

  pub times-append : (xs ys : List Ref) → times n (xs ++ ys) ≡ times n xs + times n ys
  times-append xs ys = sum_by-append (λ (r : Ref). cond (nat_eq r.1.0 n) 1 0) xs ys

  times_one : (e : ℕ × Cell) → times n (ref_at number_of e) ≡ one e.1
  times_one e = go (number_of e.1)
    where
      go : (o : Option ℕ) → times n (option_map_or (λ m. (e.0, (m, contents [] e.1)) ∷ []) o []) ≡ cond (option_map_or (λ m. nat_eq m n) o false) 1 0
      go None = refl
      go (Some m) = sum_by-cons (λ (r : Ref). cond (nat_eq r.1.0 n) 1 0) (e.0, (m, contents [] e.1)) [] ∙ omega arith

  pub times_cons : (e : ℕ × Cell) (es : List (ℕ × Cell)) → times n (refs_of number_of (e ∷ es)) ≡ one e.1 + times n (refs_of number_of es)
  times_cons e es = times-append (ref_at number_of e) (refs_of number_of es) ∙ ap (λ k. k + times n (refs_of number_of es)) (times_one e)

  -- a list in two parts
  pub times_parts : (p : ℕ × Cell → Bool) (es : List (ℕ × Cell)) → times n (refs_of number_of (filter p es)) + times n (refs_of number_of (filter (λ e. not (p e)) es)) ≡ times n (refs_of number_of es)
  times_parts p [] = refl
  times_parts p (e ∷ es) = go (times_parts p es) (p e)
    where
      go : times n (refs_of number_of (filter p es)) + times n (refs_of number_of (filter (λ e. not (p e)) es)) ≡ times n (refs_of number_of es) → (b : Bool) → times n (refs_of number_of (cond b (e ∷ filter p es) (filter p es))) + times n (refs_of number_of (cond (not b) (e ∷ filter (λ e. not (p e)) es) (filter (λ e. not (p e)) es))) ≡ times n (refs_of number_of (e ∷ es))
      go rest true = omega (arith, times_cons e (filter p es), times_cons e es, rest)
      go rest false = omega (arith, times_cons e (filter (λ e. not (p e)) es), times_cons e es, rest)

  pub times_all : (es : List (ℕ × Cell)) → times n (refs_of number_of es) ≡ count_by (carries number_of n) (map (λ e. e.1) es)
  times_all [] = refl
  times_all (e ∷ es) = omega (arith, times_cons e es, times_all es, sum_by-cons one e.1 (map (λ e. e.1) es))

  module _ (uses : ℕ → Bool) where
    abbrev beside : ℕ → Cell → ℕ
    beside k c = cond (uses k) 0 (one c)

    abbrev pub used_in : AddressSpace → List (ℕ × Cell)
    used_in cells = filter (λ e. uses e.0) (fin.entries cells)

    in_two : (es : List (ℕ × Cell)) → count_by (carries number_of n) (map (λ e. e.1) es) ≡ times n (refs_of number_of (filter (λ e. uses e.0) es)) + sum_by (λ (e : ℕ × Cell). beside e.0 e.1) es
    in_two [] = refl
    in_two (e ∷ es) = go (in_two es) (uses e.0) refl
      where
        go : count_by (carries number_of n) (map (λ e. e.1) es) ≡ times n (refs_of number_of (filter (λ e. uses e.0) es)) + sum_by (λ (e : ℕ × Cell). beside e.0 e.1) es → (b : Bool) → uses e.0 ≡ b → count_by (carries number_of n) (map (λ e. e.1) (e ∷ es)) ≡ times n (refs_of number_of (cond b (e ∷ filter (λ e. uses e.0) es) (filter (λ e. uses e.0) es))) + sum_by (λ (e : ℕ × Cell). beside e.0 e.1) (e ∷ es)
        go rest true is =
            let none : beside e.0 e.1 ≡ 0 = ap (λ b. cond b 0 (one e.1)) is in
            omega (arith, sum_by-cons one e.1 (map (λ e. e.1) es), sum_by-cons (λ (e : ℕ × Cell). beside e.0 e.1) e es, times_cons e (filter (λ e. uses e.0) es), rest, none)
        go rest false is =
            let all : beside e.0 e.1 ≡ one e.1 = ap (λ b. cond b 0 (one e.1)) is in
            omega (arith, sum_by-cons one e.1 (map (λ e. e.1) es), sum_by-cons (λ (e : ℕ × Cell). beside e.0 e.1) e es, rest, all)

    -- two spaces whose pages beside those that are used carry the same numbers
    pub used_follow : (cells now : AddressSpace) → ((q : ℕ) → uses q ≡ false → option_map_or one (fin.get now q) 0 ≡ option_map_or one (fin.get cells q) 0) →
        carried now + times n (refs_of number_of (used_in cells)) ≡ carried cells + times n (refs_of number_of (used_in now))
    used_follow cells now same =
        let alike = same_total beside now cells (λ k. go k (uses k) refl (fin.get now k) (fin.get cells k) (same k)) in
        omega (arith, in_two (fin.entries cells), in_two (fin.entries now), alike)
      where
        go : (k : ℕ) (b : Bool) → uses k ≡ b → (x y : Option Cell) → (uses k ≡ false → option_map_or one x 0 ≡ option_map_or one y 0) → option_map_or (beside k) x 0 ≡ option_map_or (beside k) y 0
        go k true is x y h = none x ∙ sym (none y)
          where
            none : (o : Option Cell) → option_map_or (beside k) o 0 ≡ 0
            none None = refl
            none (Some c) = ap (λ b. cond b 0 (one c)) is
        go k false is x y h = all x ∙ h is ∙ sym (all y)
          where
            all : (o : Option Cell) → option_map_or (beside k) o 0 ≡ option_map_or one o 0
            all None = refl
            all (Some c) = ap (λ b. cond b 0 (one c)) is

    pub used_most : (cells : AddressSpace) → times n (refs_of number_of (used_in cells)) ≤ carried cells
    used_most cells = omega (arith, in_two (fin.entries cells))
