-- Lists in which each element stands in a relation to each later one.
use Rattle.std.proofs.Common.{◌≡◌, ℕ, ◌+◌, ◌-◌, ◌<◌, ◌≤◌, ◌⊎◌, inl, inr, List, length, get_or, sym, subst, arith}
use Rattle.std.specs.List.{AllPairs, SameBelow, ShiftedDown}
use Rattle.std.proofs.lemmas.Bool.{cases_lt}
use mathlib.Core.Logic.{dite}
use native.Mathlib.Decide.{ℕ_discrete}

module _ {X : Type 0} (Q : X → X → Type 0) where
  -- with an element more at n
  pub pairs_insert : (xs ys : List X) (n : ℕ) (x : X) → n ≤ length xs → length ys ≡ length xs + 1 → ((d : X) → get_or ys n d ≡ x) → SameBelow xs ys n → ((k : ℕ) (d : X) → n < k → get_or ys k d ≡ get_or xs (k - 1) d)
      → AllPairs Q xs → ((k : ℕ) (d : X) → k < n → Q (get_or xs k d) x) → ((k : ℕ) (d : X) → n ≤ k → k < length xs → Q x (get_or xs k d)) → AllPairs Q ys
  pairs_insert xs ys n x inside long here below above pairs before after i j d less within = go (cases_lt j n)
    where
      both : (a b : X) → get_or ys i d ≡ a → get_or ys j d ≡ b → Q a b → Q (get_or ys i d) (get_or ys j d)
      both a b e f q = subst (λ (u : X). Q u (get_or ys j d)) (sym e) (subst (λ (u : X). Q a u) (sym f) q)

      last : n < j → (i < n) ⊎ (n ≤ i) → Q (get_or ys i d) (get_or ys j d)
      last past (inl front) = both _ _ (below i d front) (above j d past) (pairs i (j - 1) d (omega arith) (omega arith))
      last past (inr back) = dite (ℕ_discrete i n)
          (λ e. both x _ (subst (λ (k : ℕ). get_or ys k d ≡ x) (sym e) (here d)) (above j d past) (after (j - 1) d (omega arith) (omega arith)))
          (λ ne. both _ _ (above i d (omega arith)) (above j d past) (pairs (i - 1) (j - 1) d (omega arith) (omega arith)))

      go : (j < n) ⊎ (n ≤ j) → Q (get_or ys i d) (get_or ys j d)
      go (inl front) = both _ _ (below i d (omega arith)) (below j d front) (pairs i j d less (omega arith))
      go (inr back) = dite (ℕ_discrete j n)
          (λ e. both _ x (below i d (omega arith)) (subst (λ (k : ℕ). get_or ys k d ≡ x) (sym e) (here d)) (before i d (omega arith)))
          (λ ne. last (omega arith) (cases_lt i n))

  -- without the element at n
  pub pairs_remove : (xs ys : List X) (n : ℕ) → length ys + 1 ≡ length xs → SameBelow xs ys n → ShiftedDown xs ys n → AllPairs Q xs → AllPairs Q ys
  pairs_remove xs ys n long below above pairs i j d less within = go (cases_lt i n) (cases_lt j n)
    where
      both : (a b : X) → get_or ys i d ≡ a → get_or ys j d ≡ b → Q a b → Q (get_or ys i d) (get_or ys j d)
      both a b e f q = subst (λ (u : X). Q u (get_or ys j d)) (sym e) (subst (λ (u : X). Q a u) (sym f) q)

      go : (i < n) ⊎ (n ≤ i) → (j < n) ⊎ (n ≤ j) → Q (get_or ys i d) (get_or ys j d)
      go (inl a) (inl b) = both _ _ (below i d a) (below j d b) (pairs i j d less (omega arith))
      go (inl a) (inr b) = both _ _ (below i d a) (above j d b) (pairs i (j + 1) d (omega arith) (omega arith))
      go (inr a) (inl b) = absurd (omega arith)
      go (inr a) (inr b) = both _ _ (above i d a) (above j d b) (pairs (i + 1) (j + 1) d (omega arith) (omega arith))
