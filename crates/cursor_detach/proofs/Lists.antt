-- Lists that change at one place, and lists of rows.
use Rattle.std.specs.Prelude.{◌≡◌, ℕ, zero, suc, ◌<◌, Bool, true, false, cond, List, [], ◌∷◌, map, length, slice_get, slice_index, slice_index_or, slice_set, replicate, Some}
use Rattle.std.specs.List.{Contains, filter}
use Rattle.std.proofs.Common.{sym, refl, ◌∙◌, ap, subst, arith, ⊎_elim}
use Rattle.std.proofs.lemmas.Bool.{false≢true}
use Rattle.walk_core.proofs.RowLists.{head_or_later, in_head, in_tail}

module _ {X : Type 0} where
  pub get_same : (xs : List X) (i : ℕ) (y : X) → i < length xs → slice_get (slice_set xs i y) i ≡ Some y
  get_same [] i y h = absurd (omega arith)
  get_same (x ∷ xs) zero y h = refl
  get_same (x ∷ xs) (suc i) y h = get_same xs i y (omega (arith, h))

  pub get_other : (xs : List X) (i j : ℕ) (y : X) → (j ≡ i → ⊥) → slice_get (slice_set xs i y) j ≡ slice_get xs j
  get_other [] i j y other = refl
  get_other (x ∷ xs) zero zero y other = absurd (other refl)
  get_other (x ∷ xs) zero (suc j) y other = refl
  get_other (x ∷ xs) (suc i) zero y other = refl
  get_other (x ∷ xs) (suc i) (suc j) y other = get_other xs i j y (λ e. other (ap suc e))

  pub any_default : (xs : List X) (k : ℕ) (d e : X) → k < length xs → slice_index_or xs k d ≡ slice_index_or xs k e
  any_default [] k d e h = absurd (omega arith)
  any_default (x ∷ xs) zero d e h = refl
  any_default (x ∷ xs) (suc k) d e h = any_default xs k d e (omega (arith, h))

  -- as many elements, each of them this one
  pub all_of_one : (n : ℕ) (xs : List X) (x : X) → length xs ≡ n → ((i : ℕ) → i < n → slice_get xs i ≡ Some x) → xs ≡ replicate n x
  all_of_one zero [] x long each = refl
  all_of_one zero (y ∷ ys) x long each = absurd (omega arith)
  all_of_one (suc n) [] x long each = absurd (omega arith)
  all_of_one (suc n) (y ∷ ys) x long each =
      let here = each 0 (omega arith) in
      let rest = all_of_one n ys x (omega arith) (λ i less. each (suc i) (omega arith)) in
      cc

  pub map_same : (f : X → X) (xs : List X) → ((x : X) → Contains xs x → f x ≡ x) → map f xs ≡ xs
  map_same f [] each = refl
  map_same f (x ∷ xs) each =
      let here = each x (in_head x xs) in
      let rest = map_same f xs (λ y i. each y (in_tail x xs y i)) in
      cc

  pub map_twice : (f g h : X → X) (xs : List X) → ((x : X) → g (f x) ≡ h x) → map g (map f xs) ≡ map h xs
  map_twice f g h [] each = refl
  map_twice f g h (x ∷ xs) each =
      let here = each x in
      let rest = map_twice f g h xs each in
      cc

  -- two lists of which a test keeps the same
  pub kept_same : (t : X → Bool) (f g : X → X) (xs : List X) → ((x : X) → t (f x) ≡ t (g x)) → ((x : X) → t (g x) ≡ true → f x ≡ g x) → filter t (map f xs) ≡ filter t (map g xs)
  kept_same t f g [] tests each = refl
  kept_same t f g (x ∷ xs) tests each = go (t (g x)) refl (kept_same t f g xs tests each)
    where
      go : (b : Bool) → t (g x) ≡ b → filter t (map f xs) ≡ filter t (map g xs) → cond (t (f x)) (f x ∷ filter t (map f xs)) (filter t (map f xs)) ≡ cond (t (g x)) (g x ∷ filter t (map g xs)) (filter t (map g xs))
      go true e rest = (λ i. cond ((tests x ∙ e) i) (f x ∷ filter t (map f xs)) (filter t (map f xs))) ∙ ((λ i. each x e i ∷ rest i) ∙ sym (λ i. cond (e i) (g x ∷ filter t (map g xs)) (filter t (map g xs))))
      go false e rest = (λ i. cond ((tests x ∙ e) i) (f x ∷ filter t (map f xs)) (filter t (map f xs))) ∙ (rest ∙ sym (λ i. cond (e i) (g x ∷ filter t (map g xs)) (filter t (map g xs))))

  pub still_there : (t : X → Bool) (xs : List X) (y : X) → t y ≡ true → Contains xs y → Contains (filter t xs) y
  still_there t [] y passes c = let h = c.1 in absurd (omega arith)
  still_there t (x ∷ xs) y passes c = go (still_there t xs y passes) (t x) refl
    where
      go : (Contains xs y → Contains (filter t xs) y) → (b : Bool) → t x ≡ b → Contains (cond b (x ∷ filter t xs) (filter t xs)) y
      go rest true e = ⊎_elim (λ (z : x ≡ y). subst (λ (u : X). Contains (x ∷ filter t xs) u) z (in_head x (filter t xs))) (λ (z : Contains xs y). in_tail x (filter t xs) y (rest z)) (head_or_later x xs y c)
      go rest false e = ⊎_elim (λ (z : x ≡ y). absurd (false≢true (sym e ∙ (ap t z ∙ passes)))) rest (head_or_later x xs y c)

-- a 0 put into a list of numbers
pub zero_set : (ws : List ℕ) (i : ℕ) → slice_index (slice_set ws i 0) i ≡ 0
zero_set [] i = refl
zero_set (w ∷ ws) zero = refl
zero_set (w ∷ ws) (suc i) = zero_set ws i

pub zero_beside : (ws : List ℕ) (i j : ℕ) → (j ≡ i → ⊥) → slice_index (slice_set ws i 0) j ≡ slice_index ws j
zero_beside [] i j other = refl
zero_beside (w ∷ ws) zero zero other = absurd (other refl)
zero_beside (w ∷ ws) zero (suc j) other = refl
zero_beside (w ∷ ws) (suc i) zero other = refl
zero_beside (w ∷ ws) (suc i) (suc j) other = zero_beside ws i j (λ e. other (ap suc e))
