-- Maps with the same keys: the entries of the one are those of the other, each with its new value.
use Rattle.std.proofs.Common.{◌≡◌, ℕ, Bool, true, false, cond, ◌&&◌, List, [], ◌∷◌, refl, sym, ap, subst, ◌∙◌}
use Rattle.std.specs.Prelude.{Some, T, map, nat_eq}
use Rattle.std.specs.List.{filter}
use Rattle.std.specs.Option.{option_map}
use Rattle.std.specs.Ordering.{nat_cmp, is_lt}
use Rattle.std.specs.Cmp.{nat_cmp_total, unsigned_tied}
use Rattle.std.specs.FinMap as fin
use Rattle.std.specs.FinMap.{FinMap, find, is_sorted, entries_sorted, get-entries, get-from_sorted, entries-from_sorted, from_sorted, same_map, nat_cmp-IsAntisymmetric}
use Rattle.std.specs.FinMap.Entries.{below_all}
use Rattle.std.proofs.lemmas.Bool.{eqb-true}

module _ {X : Type 0} (f : ℕ → X → X) where
  abbrev pub with_values : List (ℕ × X) → List (ℕ × X)
  with_values es = map (λ e. (e.0, f e.0 e.1)) es

  same_below : (k : ℕ) (es : List (ℕ × X)) → below_all nat_cmp k (with_values es) ≡ below_all nat_cmp k es
  same_below k [] = refl
  same_below k (e ∷ es) = ap (λ b. is_lt (nat_cmp k e.0) && b) (same_below k es)

  same_sorted : (es : List (ℕ × X)) → is_sorted nat_cmp (with_values es) ≡ is_sorted nat_cmp es
  same_sorted [] = refl
  same_sorted (e ∷ es) = λ i. same_below e.0 es i && same_sorted es i

  found : (k : ℕ) (es : List (ℕ × X)) → find nat_cmp k (with_values es) ≡ option_map (f k) (find nat_cmp k es)
  found k [] = refl
  found k (e ∷ es) =
      ap (λ b. cond b (Some (f e.0 e.1)) (find nat_cmp k (with_values es))) (unsigned_tied k e.0)
      ∙ go (nat_eq k e.0) refl (found k es)
      ∙ ap (λ b. option_map (f k) (cond b (Some e.1) (find nat_cmp k es))) (sym (unsigned_tied k e.0))
    where
      go : (b : Bool) → nat_eq k e.0 ≡ b → find nat_cmp k (with_values es) ≡ option_map (f k) (find nat_cmp k es) → cond b (Some (f e.0 e.1)) (find nat_cmp k (with_values es)) ≡ option_map (f k) (cond b (Some e.1) (find nat_cmp k es))
      go true e' rest = ap (λ n. Some (f n e.1)) (sym (eqb-true k e.0 e'))
      go false e' rest = rest

  pub same_keys : (m now : FinMap nat_cmp X) → ((k : ℕ) → fin.get now k ≡ option_map (f k) (fin.get m k)) → fin.entries now ≡ with_values (fin.entries m)
  same_keys m now each =
      let sorted : T (is_sorted nat_cmp (with_values (fin.entries m))) = subst T (sym (same_sorted (fin.entries m))) (entries_sorted m) in
      ap fin.entries (same_map nat_cmp_total nat_cmp-IsAntisymmetric now (from_sorted (with_values (fin.entries m))) (λ k.
      each k ∙ ap (option_map (f k)) (get-entries m k) ∙ sym (found k (fin.entries m)) ∙ sym (get-from_sorted nat_cmp (with_values (fin.entries m)) k sorted)))
      ∙ entries-from_sorted nat_cmp (with_values (fin.entries m)) sorted

  -- a test of keys alone picks the same ones
  pub same_picked : (p : ℕ → Bool) (es : List (ℕ × X)) → filter (λ e. p e.0) (with_values es) ≡ with_values (filter (λ e. p e.0) es)
  same_picked p [] = refl
  same_picked p (e ∷ es) = ap (λ l. cond (p e.0) ((e.0, f e.0 e.1) ∷ l) l) (same_picked p es) ∙ go (p e.0)
    where
      go : (b : Bool) → cond b ((e.0, f e.0 e.1) ∷ with_values (filter (λ e. p e.0) es)) (with_values (filter (λ e. p e.0) es)) ≡ with_values (cond b (e ∷ filter (λ e. p e.0) es) (filter (λ e. p e.0) es))
      go true = refl
      go false = refl
