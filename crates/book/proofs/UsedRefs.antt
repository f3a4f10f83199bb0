-- The references of the pages that a call uses, page by page.
use Rattle.std.proofs.Common.{◌≡◌, ℕ, zero, suc, ◌+◌, ◌<◌, ◌≤◌, Bool, true, false, cond, List, [], ◌∷◌, ◌++◌, refl, ap, ◌∙◌, arith}
use Rattle.std.specs.Prelude.{Option, Some, None}
use Rattle.std.specs.List.{filter, AllByRecursion}
use Rattle.std.specs.Option.{option_map_or}
use Rattle.std.specs.FinMap as fin
use Rattle.page_map.specs.declared.cell.Cell.{Cell}
use Rattle.page_map.specs.Cell.{AddressSpace, contents}
use Rattle.machine_plan.specs.Uses.{Ref, ref_at, refs_of}
use Rattle.book.proofs.Gathered.{gather, gather_none, gather_parts, yielded, here, bound, gathered}

module _ (number_of : Cell → Option ℕ) (uses : ℕ → Bool) where
  abbrev pub used_ref : ℕ → Cell → List Ref
  used_ref k c = cond (uses k) (ref_at number_of (k, c)) []

  used_yield : (es : List (ℕ × Cell)) → refs_of number_of (filter (λ e. uses e.0) es) ≡ yielded used_ref es
  used_yield [] = refl
  used_yield (e ∷ es) = go (uses e.0) (used_yield es)
    where
      go : (b : Bool) → refs_of number_of (filter (λ e. uses e.0) es) ≡ yielded used_ref es →
          refs_of number_of (cond b (e ∷ filter (λ e. uses e.0) es) (filter (λ e. uses e.0) es)) ≡ cond b (ref_at number_of e) [] ++ yielded used_ref es
      go true rest = ap (λ l. ref_at number_of e ++ l) rest
      go false rest = rest

  pub refs_by_page : (m : AddressSpace) (n : ℕ) → bound used_ref m ≤ n → refs_of number_of (filter (λ e. uses e.0) (fin.entries m)) ≡ gather (here used_ref m) 0 n
  refs_by_page m n enough = used_yield (fin.entries m) ∙ gathered used_ref m n enough

  -- each is at its page
  pub at_its_page : (P : ℕ → Type 0) (m : AddressSpace) (k : ℕ) → P k → AllByRecursion (λ (r : Ref). P r.0) (here used_ref m k)
  at_its_page P m k holds = go (fin.get m k)
    where
      number : (c : Cell) (o : Option ℕ) → AllByRecursion (λ (r : Ref). P r.0) (option_map_or (λ n. (k, (n, contents [] c)) ∷ []) o [])
      number c None = tt
      number c (Some n) = (holds, tt)

      used : (c : Cell) (b : Bool) → AllByRecursion (λ (r : Ref). P r.0) (cond b (ref_at number_of (k, c)) [])
      used c true = number c (number_of c)
      used c false = tt

      go : (o : Option Cell) → AllByRecursion (λ (r : Ref). P r.0) (option_map_or (used_ref k) o [])
      go None = tt
      go (Some c) = used c (uses k)

-- lists that are gathered
module _ {B : Type 0} where
  both : (P : B → Type 0) (xs ys : List B) → AllByRecursion P xs → AllByRecursion P ys → AllByRecursion P (xs ++ ys)
  both P [] ys h g = g
  both P (x ∷ xs) ys h g = (h.0, both P xs ys h.1 g)

  pub each_gathered : (P : B → Type 0) (f : ℕ → List B) (low n : ℕ) → ((k : ℕ) → low ≤ k → k < low + n → AllByRecursion P (f k)) → AllByRecursion P (gather f low n)
  unfolding gather
  each_gathered P f low zero h = tt
  each_gathered P f low (suc n) h = both P (f low) (gather f (low + 1) n) (h low (omega arith) (omega arith)) (each_gathered P f (low + 1) n (λ k a b. h k (omega (arith, a)) (omega (arith, b))))

  -- where only a range yields anything
  pub gather_range : (f : ℕ → List B) (low n rest : ℕ) → ((k : ℕ) → k < low → f k ≡ []) → ((k : ℕ) → low + n ≤ k → f k ≡ []) → gather f 0 (low + n + rest) ≡ gather f low n
  gather_range f low n rest below above =
      gather_parts f 0 (low + n) rest
      ∙ (λ i. gather_parts f 0 low n i ++ gather_none f (0 + (low + n)) rest (λ k a b. above k (omega (arith, a))) i)
      ∙ (λ i. (gather_none f 0 low (λ k a b. below k (omega (arith, b))) i ++ gather f (zero_plus low i) n) ++ [])
      ∙ nil (gather f low n)
    where
      zero_plus : (k : ℕ) → 0 + k ≡ k
      zero_plus k = omega arith

      nil : (xs : List B) → xs ++ [] ≡ xs
      nil [] = refl
      nil (x ∷ xs) = ap (λ l. x ∷ l) (nil xs)
