-- The references of a refused call are those of its used pages, and its rows lack no others.
--     are_refs, is_listed      each reference of a plan is one of the state;  each used page with a number has one
--     is_returnable      so they may come back
use Rattle.std.specs.Prelude.{◌≡◌, ℕ, ◌⊎◌, Bool, true, false, cond, List, [], ◌∷◌, ◌++◌, map, Option, Some, None}
use Rattle.std.specs.List.{All, AllByRecursion, Contains, filter}
use Rattle.std.specs.Option.{option_map_or}
use Rattle.std.specs.Ordering.{nat_cmp, eq_by_cmp}
use Rattle.std.specs.FinMap as fin
use Rattle.std.specs.FinMap.{find, get-entries}
use Rattle.std.proofs.Common.{sym, refl, ◌∙◌, ap, subst, arith, inl, inr}
use Rattle.std.proofs.lemmas.Bool.{eqb-true}
use Rattle.std.proofs.lemmas.List.Elements.{All-nil, All-cons}
use Rattle.corten_base.specs.declared.calls.Call.{Call}
use Rattle.counted_pages.specs.Pages.{CountedPage}
use Rattle.page_map.specs.declared.cell.Cell.{Cell as PageCell}
use Rattle.page_map.specs.Cell.{contents}
use Rattle.page_map.specs.Effect.{space_of}
use Rattle.page_map.specs.State.{State, space_at, cell_at}
use Rattle.page_map.proofs.Few.{each_entry}
use Rattle.std.specs.Cmp.{unsigned_tied}
use Rattle.walk_core.proofs.RowLists.{head_or_later, in_head, in_tail}
use Rattle.machine_plan.specs.Kits.{Refs}
use Rattle.machine_plan.specs.Uses.{Ref, refs_of, shown_ref, shown_refs, uses_page, used_cells}
use Rattle.cursor_detach.proofs.Lists.{still_there}
use Rattle.cursor_apply.specs.Putting.{AreRefs, pages_of}

-- ---- lists of references

-- what a reference tells is so at its page
abbrev Tells : State → ℕ → (PageCell → Option ℕ) → Ref → Type 0
Tells st s number_of r = (cell : PageCell) × (cell_at st s r.0 ≡ Some cell) × (number_of cell ≡ Some r.1.0) × (contents [] cell ≡ r.1.1)

pub refs_each : (P : Ref → Type 0) (number_of : PageCell → Option ℕ) (es : List (ℕ × PageCell)) → AllByRecursion (λ (e : ℕ × PageCell). (n : ℕ) → number_of e.1 ≡ Some n → P (e.0, (n, contents [] e.1))) es → AllByRecursion P (refs_of number_of es)
refs_each P number_of [] h = tt
refs_each P number_of (e ∷ es) h = go (number_of e.1) refl (refs_each P number_of es h.1)
  where
    go : (o : Option ℕ) → number_of e.1 ≡ o → AllByRecursion P (refs_of number_of es) → AllByRecursion P (option_map_or (λ n. (e.0, (n, contents [] e.1)) ∷ []) o [] ++ refs_of number_of es)
    go None is rest = rest
    go (Some n) is rest = (h.0 n is, rest)

pub shown_each : (P : Ref → Type 0) (refs : Refs) → AllByRecursion P (shown_refs refs) → All (λ (r : ℕ × CountedPage). P (shown_ref r)) refs
shown_each P [] h = All-nil (λ (r : ℕ × CountedPage). P (shown_ref r))
shown_each P (r ∷ refs) h = All-cons (λ (r : ℕ × CountedPage). P (shown_ref r)) r refs h.0 (shown_each P refs h.1)

filtered : (P : ℕ × PageCell → Type 0) (p : ℕ × PageCell → Bool) (es : List (ℕ × PageCell)) → AllByRecursion P es → AllByRecursion P (filter p es)
filtered P p [] h = tt
filtered P p (e ∷ es) h = go (p e) (filtered P p es h.1)
  where
    go : (b : Bool) → AllByRecursion P (filter p es) → AllByRecursion P (cond b (e ∷ filter p es) (filter p es))
    go true rest = (h.0, rest)
    go false rest = rest

pub find_in : (es : List (ℕ × PageCell)) (q : ℕ) (x : PageCell) → find nat_cmp q es ≡ Some x → Contains es (q, x)
find_in [] q x e = absurd (cc)
find_in (e ∷ es) q x found = go (eq_by_cmp nat_cmp q e.0) refl (find_in es q x)
  where
    go : (b : Bool) → eq_by_cmp nat_cmp q e.0 ≡ b → (find nat_cmp q es ≡ Some x → Contains es (q, x)) → Contains (e ∷ es) (q, x)
    go true tied rest =
        let value : Some e.1 ≡ Some x = sym (ap (λ b. cond b (Some e.1) (find nat_cmp q es)) tied) ∙ found in
        let key : e.0 ≡ q = sym (eqb-true q e.0 (sym (unsigned_tied q e.0) ∙ tied)) in
        let same : e.1 ≡ x = cc in
        subst (Contains (e ∷ es)) (λ i. (key i, same i)) (in_head e es)
    go false tied rest = in_tail e es (q, x) (rest (sym (ap (λ b. cond b (Some e.1) (find nat_cmp q es)) tied) ∙ found))

pub listed : (number_of : PageCell → Option ℕ) (es : List (ℕ × PageCell)) (q : ℕ) (x : PageCell) (n : ℕ) → number_of x ≡ Some n → Contains es (q, x) → Contains (map (λ (r : Ref). r.0) (refs_of number_of es)) q
listed number_of [] q x n carries has = let less = has.1 in absurd (omega arith)
listed number_of (e ∷ es) q x n carries has = go (number_of e.1) refl (listed number_of es q x n carries) (head_or_later e es (q, x) has)
  where
    go : (o : Option ℕ) → number_of e.1 ≡ o → (Contains es (q, x) → Contains (map (λ (r : Ref). r.0) (refs_of number_of es)) q) → (e ≡ (q, x)) ⊎ Contains es (q, x)
        → Contains (map (λ (r : Ref). r.0) (option_map_or (λ n. (e.0, (n, contents [] e.1)) ∷ []) o [] ++ refs_of number_of es)) q
    go (Some m) is rest (inl same) = subst (Contains (e.0 ∷ map (λ (r : Ref). r.0) (refs_of number_of es))) (ap (λ (p : ℕ × PageCell). p.0) same) (in_head e.0 (map (λ (r : Ref). r.0) (refs_of number_of es)))
    go (Some m) is rest (inr later) = in_tail e.0 (map (λ (r : Ref). r.0) (refs_of number_of es)) q (rest later)
    go None is rest (inl same) = let clash : Some n ≡ None = sym carries ∙ (ap (λ (p : ℕ × PageCell). number_of p.1) (sym same) ∙ is) in absurd (cc)
    go None is rest (inr later) = rest later

pub same_pages : (refs : Refs) → map (λ (r : Ref). r.0) (shown_refs refs) ≡ pages_of refs
same_pages [] = refl
same_pages (r ∷ refs) = ap (λ (l : List ℕ). r.0 ∷ l) (same_pages refs)

module _ (st : State) (thread : ℕ) (c : Call) (number_of : PageCell → Option ℕ) (refs : Refs) (shown : shown_refs refs ≡ refs_of number_of (used_cells st st thread c)) where
  used_is : (s : ℕ) → space_of c ≡ Some s → used_cells st st thread c ≡ filter (λ (e : ℕ × PageCell). uses_page st thread c s e.0) (fin.entries (space_at st s))
  used_is s e = ap (λ (o : Option ℕ). option_map_or (λ s. filter (λ (e : ℕ × PageCell). uses_page st thread c s e.0) (fin.entries (space_at st s))) o []) e

  pub are_refs : (s : ℕ) → space_of c ≡ Some s → AreRefs st s number_of refs
  are_refs s e = each refs (shown_each (Tells st s number_of) refs (subst (AllByRecursion (Tells st s number_of)) (sym (shown ∙ ap (refs_of number_of) (used_is s e))) all))
    where
      all : AllByRecursion (Tells st s number_of) (refs_of number_of (filter (λ (e : ℕ × PageCell). uses_page st thread c s e.0) (fin.entries (space_at st s))))
      all = refs_each (Tells st s number_of) number_of (filter (λ (e : ℕ × PageCell). uses_page st thread c s e.0) (fin.entries (space_at st s)))
          (filtered (λ (e : ℕ × PageCell). (n : ℕ) → number_of e.1 ≡ Some n → Tells st s number_of (e.0, (n, contents [] e.1))) (λ (e : ℕ × PageCell). uses_page st thread c s e.0) (fin.entries (space_at st s))
          (each_entry (λ q x. (n : ℕ) → number_of x ≡ Some n → Tells st s number_of (q, (n, contents [] x))) (space_at st s) (λ q x found n carries. (x, found, carries, refl))))

      each : (refs : Refs) → All (λ (r : ℕ × CountedPage). Tells st s number_of (shown_ref r)) refs → AreRefs st s number_of refs
      each refs h = λ k d within. let t = h k d within in record { cell = t.0; there = t.1; carries = t.2; bytes = t.3 }

  pub none_listed : space_of c ≡ None → refs ≡ []
  none_listed e = no_shown refs (shown ∙ ap (λ (o : Option ℕ). refs_of number_of (option_map_or (λ s. filter (λ (e : ℕ × PageCell). uses_page st thread c s e.0) (fin.entries (space_at st s))) o [])) e)
    where
      no_shown : (refs : Refs) → shown_refs refs ≡ [] → refs ≡ []
      no_shown [] e = refl
      no_shown (r ∷ refs) e = absurd (cc)

  pub is_listed : (s q : ℕ) (x : PageCell) (n : ℕ) → space_of c ≡ Some s → cell_at st s q ≡ Some x → number_of x ≡ Some n → uses_page st thread c s q ≡ true → Contains (pages_of refs) q
  is_listed s q x n e there carries uses =
      subst (λ (l : List ℕ). Contains l q) (ap (map (λ (r : Ref). r.0)) (sym (shown ∙ ap (refs_of number_of) (used_is s e))) ∙ same_pages refs)
      (listed number_of (filter (λ (e : ℕ × PageCell). uses_page st thread c s e.0) (fin.entries (space_at st s))) q x n carries
      (still_there (λ (e : ℕ × PageCell). uses_page st thread c s e.0) (fin.entries (space_at st s)) (q, x) uses (find_in (fin.entries (space_at st s)) q x (sym (get-entries (space_at st s) q) ∙ there))))
