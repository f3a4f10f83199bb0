-- The references of a list of cells: of some pages alone, and after their bytes changed.
use Rattle.std.proofs.Common.{◌≡◌, ℕ, Bool, true, false, cond, List, [], ◌∷◌, ◌++◌, refl, sym, ap, ◌∙◌}
use Rattle.std.specs.Prelude.{Option, Some, None, map}
use Rattle.std.specs.List.{filter, AllByRecursion}
use Rattle.std.specs.Option.{option_map_or}
use Rattle.page_map.specs.declared.cell.Cell.{Cell}
use Rattle.page_map.specs.Cell.{contents}
use Rattle.machine_plan.specs.Uses.{Ref, ref_at, refs_of}
use Rattle.book.proofs.SameKeys.{with_values}

abbrev pub with_bytes : (ℕ → List ℕ → List ℕ) → Ref → Ref
with_bytes bytes r = (r.0, (r.1.0, bytes r.0 r.1.1))

map_append : {A B : Type 0} (g : A → B) (xs ys : List A) → map g (xs ++ ys) ≡ map g xs ++ map g ys
map_append g [] ys = refl
map_append g (x ∷ xs) ys = ap (λ l. g x ∷ l) (map_append g xs ys)

module _ (number_of : Cell → Option ℕ) where
  -- the references of the pages that a test picks
  pub picked_refs : (p : ℕ → Bool) (es : List (ℕ × Cell)) → refs_of number_of (filter (λ e. p e.0) es) ≡ filter (λ (r : Ref). p r.0) (refs_of number_of es)
  picked_refs p [] = refl
  picked_refs p (e ∷ es) = parted (p e.0) ∙ one (number_of e.1) (picked_refs p es)
    where
      parted : (b : Bool) → refs_of number_of (cond b (e ∷ filter (λ e. p e.0) es) (filter (λ e. p e.0) es)) ≡ cond b (ref_at number_of e ++ refs_of number_of (filter (λ e. p e.0) es)) (refs_of number_of (filter (λ e. p e.0) es))
      parted true = refl
      parted false = refl

      one : (o : Option ℕ) → refs_of number_of (filter (λ e. p e.0) es) ≡ filter (λ (r : Ref). p r.0) (refs_of number_of es) →
          cond (p e.0) (option_map_or (λ n. (e.0, (n, contents [] e.1)) ∷ []) o [] ++ refs_of number_of (filter (λ e. p e.0) es)) (refs_of number_of (filter (λ e. p e.0) es))
          ≡ filter (λ (r : Ref). p r.0) (option_map_or (λ n. (e.0, (n, contents [] e.1)) ∷ []) o [] ++ refs_of number_of es)
      one None rest = either (p e.0) ∙ rest
        where
          either : (b : Bool) → cond b (refs_of number_of (filter (λ e. p e.0) es)) (refs_of number_of (filter (λ e. p e.0) es)) ≡ refs_of number_of (filter (λ e. p e.0) es)
          either true = refl
          either false = refl
      one (Some n) rest = ap (λ (rs : List Ref). cond (p e.0) ((e.0, (n, contents [] e.1)) ∷ rs) rs) rest

  -- the same numbers with other bytes
  pub refs_with_bytes : (bytes : ℕ → List ℕ → List ℕ) (f : ℕ → Cell → Cell) (es : List (ℕ × Cell)) →
      AllByRecursion (λ (e : ℕ × Cell). ref_at number_of (e.0, f e.0 e.1) ≡ map (with_bytes bytes) (ref_at number_of e)) es → refs_of number_of (with_values f es) ≡ map (with_bytes bytes) (refs_of number_of es)
  refs_with_bytes bytes f [] h = refl
  refs_with_bytes bytes f (e ∷ es) h =
      ap (λ (rs : List Ref). rs ++ refs_of number_of (with_values f es)) h.0
      ∙ ap (λ (rs : List Ref). map (with_bytes bytes) (ref_at number_of e) ++ rs) (refs_with_bytes bytes f es h.1)
      ∙ sym (map_append (with_bytes bytes) (ref_at number_of e) (refs_of number_of es))
