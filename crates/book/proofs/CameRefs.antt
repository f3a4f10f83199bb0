-- Of the pages of a list in order those that pass are granted numbers, in their order: which references come, and which stay.
use Rattle.std.proofs.Common.{◌≡◌, ℕ, ◌≤◌, Bool, true, false, cond, List, [], ◌∷◌, ◌++◌, length, refl, sym, ap, ◌∙◌, arith}
use Rattle.std.specs.Prelude.{Option, Some, None, T, is_some, map}
use Rattle.std.specs.List.{AllByRecursion, filter, flat_map, zip}
use Rattle.std.specs.Option.{option_map_or, option_and_then}
use Rattle.std.specs.Ordering.{nat_cmp, eq_by_cmp, is_eq}
use Rattle.std.specs.Cmp.{unsigned_tied, nat_eq_equiv}
use Rattle.std.specs.FinMap.{find, is_sorted}
use Rattle.std.specs.FinMap.Entries.{below_all}
use Rattle.std.proofs.lemmas.Bool.{eqb-true}
use Rattle.page_map.proofs.Weights.{first, second, less}

pub key_itself : (k : ℕ) → eq_by_cmp nat_cmp k k ≡ true
key_itself k = unsigned_tied k k ∙ nat_eq_equiv.refl k

module _ {X : Type 0} where
  none_there : (k : ℕ) (es : List (ℕ × X)) → T (below_all nat_cmp k es) → find nat_cmp k es ≡ None
  none_there k [] h = refl
  none_there k (e ∷ es) h = ap (λ r. cond (is_eq r) (Some e.1) (find nat_cmp k es)) (less _ (first _ _ h)) ∙ none_there k es (second _ _ h)

  -- the keys behind the first are others
  others : (k : ℕ) (es : List (ℕ × X)) → T (below_all nat_cmp k es) → AllByRecursion (λ (e : ℕ × X). eq_by_cmp nat_cmp e.0 k ≡ false) es
  others k [] h = tt
  others k (e ∷ es) h = (unsigned_tied e.0 k ∙ nat_eq_equiv.symm e.0 k ∙ sym (unsigned_tied k e.0) ∙ ap is_eq (less _ (first _ _ h)), others k es (second _ _ h))

  module _ (passes : X → Bool) where
    abbrev pub pages_of_list : List (ℕ × X) → List ℕ
    pages_of_list es = map (λ e. e.0) (filter (λ e. passes e.1) es)

    none_granted : (k : ℕ) (es : List (ℕ × X)) (ns : List ℕ) → T (below_all nat_cmp k es) → find nat_cmp k (zip (pages_of_list es) ns) ≡ None
    none_granted k [] [] h = refl
    none_granted k [] (n ∷ ns) h = refl
    none_granted k (e ∷ es) ns h = go (passes e.1) ns (λ ns. none_granted k es ns (second _ _ h))
      where
        go : (b : Bool) (ns : List ℕ) → ((ns : List ℕ) → find nat_cmp k (zip (pages_of_list es) ns) ≡ None) → find nat_cmp k (zip (map (λ e. e.0) (cond b (e ∷ filter (λ e. passes e.1) es) (filter (λ e. passes e.1) es))) ns) ≡ None
        go false ns behind = behind ns
        go true [] behind = refl
        go true (n ∷ ns) behind = ap (λ r. cond (is_eq r) (Some n) (find nat_cmp k (zip (pages_of_list es) ns))) (less _ (first _ _ h)) ∙ behind ns

    module _ {Y : Type 0} (grants : List (ℕ × ℕ)) (made : ℕ × X → Option ℕ → Y) (came : ℕ × ℕ → Y) where
      abbrev Agrees : List (ℕ × X) → List ℕ → Type 0
      Agrees es ns = AllByRecursion (λ (e : ℕ × X). find nat_cmp e.0 grants ≡ find nat_cmp e.0 (zip (pages_of_list es) ns)) es

      abbrev IsMade : ℕ × X → Type 0
      IsMade e = (n : ℕ) → made e (Some n) ≡ came (e.0, n)

      abbrev all_made : List (ℕ × X) → List Y
      all_made es = map (λ e. made e (find nat_cmp e.0 grants)) (filter (λ e. is_some (find nat_cmp e.0 grants)) es)

      still_agrees : (e : ℕ × X) (n : ℕ) (ns : List ℕ) (es fs : List (ℕ × X)) → AllByRecursion (λ (x : ℕ × X). eq_by_cmp nat_cmp x.0 e.0 ≡ false) fs →
          AllByRecursion (λ (x : ℕ × X). find nat_cmp x.0 grants ≡ cond (eq_by_cmp nat_cmp x.0 e.0) (Some n) (find nat_cmp x.0 (zip (pages_of_list es) ns))) fs →
          AllByRecursion (λ (x : ℕ × X). find nat_cmp x.0 grants ≡ find nat_cmp x.0 (zip (pages_of_list es) ns)) fs
      still_agrees e n ns es [] other h = tt
      still_agrees e n ns es (x ∷ fs) other h = (h.0 ∙ ap (λ t. cond t (Some n) (find nat_cmp x.0 (zip (pages_of_list es) ns))) other.0, still_agrees e n ns es fs other.1 h.1)

      -- what is made of the granted ones is what came, in its order
      pub came_in_order : (es : List (ℕ × X)) (ns : List ℕ) → T (is_sorted nat_cmp es) → length (pages_of_list es) ≤ length ns → Agrees es ns → AllByRecursion IsMade es → all_made es ≡ map came (zip (pages_of_list es) ns)
      came_in_order [] [] sorted enough agrees is = refl
      came_in_order [] (n ∷ ns) sorted enough agrees is = refl
      came_in_order (e ∷ es) ns sorted enough agrees is = go (passes e.1) refl ns enough agrees (λ ns fewer agrees. came_in_order es ns (second _ _ sorted) fewer agrees is.1)
        where
          picked : Bool → List (ℕ × X)
          picked b = cond b (e ∷ filter (λ e. passes e.1) es) (filter (λ e. passes e.1) es)

          go : (b : Bool) → passes e.1 ≡ b → (ns : List ℕ) → length (map (λ e. e.0) (cond b (e ∷ filter (λ e. passes e.1) es) (filter (λ e. passes e.1) es))) ≤ length ns →
              AllByRecursion (λ (x : ℕ × X). find nat_cmp x.0 grants ≡ find nat_cmp x.0 (zip (map (λ e. e.0) (cond b (e ∷ filter (λ e. passes e.1) es) (filter (λ e. passes e.1) es))) ns)) (e ∷ es) →
              ((ns : List ℕ) → length (pages_of_list es) ≤ length ns → Agrees es ns → all_made es ≡ map came (zip (pages_of_list es) ns)) →
              all_made (e ∷ es) ≡ map came (zip (map (λ e. e.0) (cond b (e ∷ filter (λ e. passes e.1) es) (filter (λ e. passes e.1) es))) ns)
          go true p [] enough agrees rest = absurd (omega (arith, enough))
          go true p (n ∷ ns) enough agrees rest =
              let here : find nat_cmp e.0 grants ≡ Some n = agrees.0 ∙ ap (λ t. cond t (Some n) (find nat_cmp e.0 (zip (pages_of_list es) ns))) (key_itself e.0) in
              (λ i. map (λ x. made x (find nat_cmp x.0 grants)) (cond (is_some (here i)) (e ∷ filter (λ x. is_some (find nat_cmp x.0 grants)) es) (filter (λ x. is_some (find nat_cmp x.0 grants)) es)))
              ∙ (λ i. (ap (made e) here ∙ is.0 n) i ∷ rest ns (omega (arith, enough)) (still_agrees e n ns es es (others e.0 es (first _ _ sorted)) agrees.1) i)
          go false p ns enough agrees rest =
              let none : find nat_cmp e.0 grants ≡ None = agrees.0 ∙ none_granted e.0 es ns (first _ _ sorted) in
              (λ i. map (λ x. made x (find nat_cmp x.0 grants)) (cond (is_some (none i)) (e ∷ filter (λ x. is_some (find nat_cmp x.0 grants)) es) (filter (λ x. is_some (find nat_cmp x.0 grants)) es)))
              ∙ rest ns enough agrees.1

  -- a value that some of the pages have, by its page
  pub find_some : {Y : Type 0} (value : X → Option Y) (k : ℕ) (es : List (ℕ × X)) → T (is_sorted nat_cmp es) → find nat_cmp k (flat_map (λ e. option_map_or (λ y. (e.0, y) ∷ []) (value e.1) []) es) ≡ option_and_then value (find nat_cmp k es)
  find_some value k [] sorted = refl
  find_some {Y} value k (e ∷ es) sorted = go (value e.1) refl (eq_by_cmp nat_cmp k e.0) refl (find_some value k es (second _ _ sorted))
    where
      behind : List (ℕ × Y)
      behind = flat_map (λ e. option_map_or (λ y. (e.0, y) ∷ []) (value e.1) []) es

      go : (o : Option Y) → value e.1 ≡ o → (t : Bool) → eq_by_cmp nat_cmp k e.0 ≡ t → find nat_cmp k behind ≡ option_and_then value (find nat_cmp k es) →
          find nat_cmp k (option_map_or (λ y. (e.0, y) ∷ []) o [] ++ behind) ≡ option_and_then value (cond t (Some e.1) (find nat_cmp k es))
      go (Some y) v true tied rest = ap (λ t. cond t (Some y) (find nat_cmp k behind)) tied ∙ sym v
      go (Some y) v false tied rest = ap (λ t. cond t (Some y) (find nat_cmp k behind)) tied ∙ rest
      go None v true tied rest = rest ∙ ap (option_and_then value) (ap (λ n. find nat_cmp n es) (eqb-true k e.0 (sym (unsigned_tied k e.0) ∙ tied)) ∙ none_there e.0 es (first _ _ sorted)) ∙ sym v
      go None v false tied rest = rest

  pub found_itself : (es : List (ℕ × X)) → T (is_sorted nat_cmp es) → AllByRecursion (λ (e : ℕ × X). find nat_cmp e.0 es ≡ Some e.1) es
  found_itself [] sorted = tt
  found_itself (e ∷ es) sorted = (ap (λ t. cond t (Some e.1) (find nat_cmp e.0 es)) (key_itself e.0), later es (others e.0 es (first _ _ sorted)) (found_itself es (second _ _ sorted)))
    where
      later : (fs : List (ℕ × X)) → AllByRecursion (λ (x : ℕ × X). eq_by_cmp nat_cmp x.0 e.0 ≡ false) fs → AllByRecursion (λ (x : ℕ × X). find nat_cmp x.0 es ≡ Some x.1) fs →
          AllByRecursion (λ (x : ℕ × X). cond (eq_by_cmp nat_cmp x.0 e.0) (Some e.1) (find nat_cmp x.0 es) ≡ Some x.1) fs
      later [] o h = tt
      later (x ∷ fs) o h = (ap (λ t. cond t (Some e.1) (find nat_cmp x.0 es)) o.0 ∙ h.0, later fs o.1 h.1)
