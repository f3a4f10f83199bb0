-- The references that a range of another length has: none of those that it gives up where it stays, and all where it moves, each at its new page.
use Rattle.std.proofs.Common.{◌≡◌, ℕ, zero, suc, ◌+◌, ◌-◌, ◌<◌, ◌≤◌, Bool, true, false, cond, ◌||◌, List, [], ◌∷◌, ◌++◌, map, refl, sym, ap, subst, ◌∙◌, arith}
use Rattle.std.specs.Prelude.{Option, Some, None, nat_lt}
use Rattle.std.specs.List.{filter, AllByRecursion}
use Rattle.std.specs.Option.{option_map, option_map_or}
use Rattle.std.specs.FinMap as fin
use Rattle.std.proofs.lemmas.Bool.{lt-ltb, false_from_ne_true}
use Rattle.std.proofs.lemmas.Bool.Decides.{nat_tests}
use Rattle.corten_base.specs.declared.permissions.Perm.{Perm}
use Rattle.corten_base.specs.declared.calls.Backing.{Backing}
use Rattle.table_place.specs.Range.{within}
use Rattle.table_place.proofs.Tables.{in_range, to_range}
use Rattle.page_map.specs.declared.cell.Cell.{Cell}
use Rattle.page_map.specs.Cell.{AddressSpace, backed, backing_of, perm_of, contents, goes_on}
use Rattle.page_map.specs.Remap.{Resize, moves, put_at, left_first, left_count, filled_first, filled_count, last_cell, cell_for, remapped}
use Rattle.page_map.proofs.Remapped.{remapped_at}
use Rattle.machine_plan.specs.Uses.{Ref, ref_at, refs_of}
use Rattle.book.specs.Rearranging.{moved_ref}
use Rattle.book.proofs.Gathered.{gather, gather_none, gather_same, gather_parts, here, bound}
use Rattle.book.proofs.UsedRefs.{used_ref, refs_by_page, each_gathered, gather_range}
use Rattle.book.proofs.InPlace.{none_in_place}

map_append : {A B : Type 0} (g : A → B) (xs ys : List A) → map g (xs ++ ys) ≡ map g xs ++ map g ys
map_append g [] ys = refl
map_append g (x ∷ xs) ys = ap (λ l. g x ∷ l) (map_append g xs ys)

-- what one range yields is what another does, each after a map
gather_moved : {A B : Type 0} (s : A → B) (f : ℕ → List A) (g : ℕ → List B) (low to n : ℕ) → ((i : ℕ) → i < n → map s (f (low + i)) ≡ g (to + i)) → map s (gather f low n) ≡ gather g to n
unfolding gather
gather_moved s f g low to zero h = refl
gather_moved s f g low to (suc n) h =
    map_append s (f low) (gather f (low + 1) n)
    ∙ (λ i. at_first i ++ gather_moved s f g (low + 1) (to + 1) n (λ k below. (λ j. map s (f (next low k j))) ∙ h (k + 1) (omega (arith, below)) ∙ (λ j. g (sym (next to k) j))) i)
  where
    at_zero : (k : ℕ) → k ≡ k + 0
    at_zero k = omega arith

    next : (m k : ℕ) → m + 1 + k ≡ m + (k + 1)
    next m k = omega arith

    at_first : map s (f low) ≡ g to
    at_first = (λ j. map s (f (at_zero low j))) ∙ h 0 (omega arith) ∙ (λ j. g (sym (at_zero to) j))

module _ (number_of : Cell → Option ℕ) (no_number : (what : Backing) (perm : Perm) (i : ℕ) → number_of (backed what perm i) ≡ None) (uses : ℕ → Bool) where
  abbrev plain_ref : ℕ → Option Cell → List Ref
  plain_ref k o = option_map_or (λ c. ref_at number_of (k, c)) o []

  abbrev if_used : ℕ → Bool → Option Cell → List Ref
  if_used k b o = option_map_or (λ c. cond b (ref_at number_of (k, c)) []) o []

  unused : (k : ℕ) (o : Option Cell) → if_used k false o ≡ []
  unused k None = refl
  unused k (Some c) = refl

  bare_cell : (k : ℕ) (c : Cell) → number_of c ≡ None → ref_at number_of (k, c) ≡ []
  bare_cell k c none = ap (λ o. option_map_or (λ n. (k, (n, contents [] c)) ∷ []) o []) none

  module _ (levels thread : ℕ) (r : Resize) (cells : AddressSpace) where
    abbrev now : AddressSpace
    now = remapped levels thread r cells

    abbrev names : ℕ → Bool
    names k = within (left_first levels cells r) (left_count levels cells r) k || within (filled_first levels thread cells r) (filled_count levels cells r) k

    -- where the range stays
    pub none_stay : moves levels cells r ≡ false → ((k : ℕ) → uses k ≡ names k) → refs_of number_of (filter (λ e. uses e.0) (fin.entries now)) ≡ []
    none_stay stays is =
        refs_by_page number_of uses now (bound (used_ref number_of uses) now) (omega arith)
        ∙ gather_none (here (used_ref number_of uses) now) 0 (bound (used_ref number_of uses) now) (λ k a b. go k (names k) refl (fin.get now k) refl)
      where
        go : (k : ℕ) (b : Bool) → names k ≡ b → (o : Option Cell) → fin.get now k ≡ o → if_used k (uses k) o ≡ []
        go k b named None found = refl
        go k false named (Some c) found = ap (λ u. if_used k u (Some c)) (is k ∙ named)
        go k true named (Some c) found = ap (λ u. if_used k u (Some c)) (is k ∙ named) ∙ bare_cell k c (none_in_place number_of no_number levels thread r cells stays k c named found)

    -- where it moves
    module _ (to : ℕ) (put : put_at levels thread cells r ≡ to) (more : r.old ≤ r.new) (free : (q : ℕ) → within to r.new q ≡ true → fin.get cells q ≡ None) (is : (k : ℕ) → uses k ≡ (within r.first r.old k || within to r.new k)) where
      abbrev pub moved : Ref → Ref
      moved = moved_ref r.first to

      at_page : (k : ℕ) → fin.get now k ≡ cond (within to r.new k) (cell_for cells r (k - to)) (cond (within r.first r.old k) None (fin.get cells k))
      at_page k = remapped_at levels thread r cells k ∙ ap (λ p. cond (within p r.new k) (cell_for cells r (k - p)) (cond (within r.first r.old k) None (fin.get cells k))) put

      before : (k : ℕ) → here (used_ref number_of uses) cells k ≡ cond (within r.first r.old k) (plain_ref k (fin.get cells k)) []
      before k = go (within r.first r.old k) (within to r.new k) refl (is k)
        where
          go : (a b : Bool) → within to r.new k ≡ b → uses k ≡ (a || b) → if_used k (uses k) (fin.get cells k) ≡ cond a (plain_ref k (fin.get cells k)) []
          go true b inside used = ap (λ u. if_used k u (fin.get cells k)) used
          go false true inside used = ap (λ o. if_used k (uses k) o) (free k inside)
          go false false inside used = ap (λ u. if_used k u (fin.get cells k)) used ∙ unused k (fin.get cells k)

      after : (k : ℕ) → here (used_ref number_of uses) now k ≡ cond (within to r.new k) (plain_ref k (cell_for cells r (k - to))) []
      after k = ap (λ o. if_used k (uses k) o) (at_page k) ∙ go (within to r.new k) (within r.first r.old k) (is k)
        where
          go : (b a : Bool) → uses k ≡ (a || b) → if_used k (uses k) (cond b (cell_for cells r (k - to)) (cond a None (fin.get cells k))) ≡ cond b (plain_ref k (cell_for cells r (k - to))) []
          go true true used = ap (λ u. if_used k u (cell_for cells r (k - to))) used
          go true false used = ap (λ u. if_used k u (cell_for cells r (k - to))) used
          go false true used = refl
          go false false used = ap (λ u. if_used k u (fin.get cells k)) used ∙ unused k (fin.get cells k)

      outside : (first count k : ℕ) → (first ≤ k → k < first + count → ⊥) → within first count k ≡ false
      outside first count k h = false_from_ne_true _ (λ w. let at = in_range first count k w in h at.0 at.1)

      old_refs : refs_of number_of (filter (λ e. uses e.0) (fin.entries cells)) ≡ gather (λ k. plain_ref k (fin.get cells k)) r.first r.old
      old_refs =
          refs_by_page number_of uses cells (r.first + r.old + bound (used_ref number_of uses) cells) (omega arith)
          ∙ gather_range (here (used_ref number_of uses) cells) r.first r.old (bound (used_ref number_of uses) cells)
          (λ k low. before k ∙ ap (λ b. cond b (plain_ref k (fin.get cells k)) []) (outside r.first r.old k (λ a b. omega (arith, a, low))))
          (λ k high. before k ∙ ap (λ b. cond b (plain_ref k (fin.get cells k)) []) (outside r.first r.old k (λ a b. omega (arith, b, high))))
          ∙ gather_same _ _ r.first r.old (λ k a b. before k ∙ ap (λ b. cond b (plain_ref k (fin.get cells k)) []) (to_range r.first r.old k a b))

      new_refs : refs_of number_of (filter (λ e. uses e.0) (fin.entries now)) ≡ gather (λ k. plain_ref k (cell_for cells r (k - to))) to r.new
      new_refs =
          refs_by_page number_of uses now (to + r.new + bound (used_ref number_of uses) now) (omega arith)
          ∙ gather_range (here (used_ref number_of uses) now) to r.new (bound (used_ref number_of uses) now)
          (λ k low. after k ∙ ap (λ b. cond b (plain_ref k (cell_for cells r (k - to))) []) (outside to r.new k (λ a b. omega (arith, a, low))))
          (λ k high. after k ∙ ap (λ b. cond b (plain_ref k (cell_for cells r (k - to))) []) (outside to r.new k (λ a b. omega (arith, b, high))))
          ∙ gather_same _ _ to r.new (λ k a b. after k ∙ ap (λ b. cond b (plain_ref k (cell_for cells r (k - to))) []) (to_range to r.new k a b))

      -- behind the old pages none has a number
      behind : (k : ℕ) → to + r.old ≤ k → plain_ref k (cell_for cells r (k - to)) ≡ []
      behind k high = ap (λ b. plain_ref k (cond b (fin.get cells (r.first + (k - to))) (option_map (λ last. goes_on last (k - to + 1 - r.old)) (last_cell cells r)))) (past (omega (arith, high))) ∙ go (last_cell cells r)
        where
          past : {a b : ℕ} → b ≤ a → nat_lt a b ≡ false
          past l = grind (arith, nat_tests, l)

          go : (o : Option Cell) → plain_ref k (option_map (λ last. goes_on last (k - to + 1 - r.old)) o) ≡ []
          go None = refl
          go (Some last) = bare_cell k (goes_on last (k - to + 1 - r.old)) (no_number (backing_of last) (perm_of last) (k - to + 1 - r.old))

      one : (i : ℕ) → i < r.old → map moved (plain_ref (r.first + i) (fin.get cells (r.first + i))) ≡ plain_ref (to + i) (cell_for cells r (to + i - to))
      one i below =
          go (fin.get cells (r.first + i))
          ∙ ap (λ b. plain_ref (to + i) (cond b (fin.get cells (r.first + i)) (option_map (λ last. goes_on last (i + 1 - r.old)) (last_cell cells r)))) (sym (lt-ltb i r.old below))
          ∙ ap (λ k. plain_ref (to + i) (cell_for cells r k)) (sym (back to i))
        where
          back : (a i : ℕ) → a + i - a ≡ i
          back a i = omega arith

          there : (first i to : ℕ) → first + i - first + to ≡ to + i
          there first i to = omega arith

          number : (c : Cell) (o : Option ℕ) → map moved (option_map_or (λ n. (r.first + i, (n, contents [] c)) ∷ []) o []) ≡ option_map_or (λ n. (to + i, (n, contents [] c)) ∷ []) o []
          number c None = refl
          number c (Some n) = ap (λ k. (k, (n, contents [] c)) ∷ []) (there r.first i to)

          go : (o : Option Cell) → map moved (plain_ref (r.first + i) o) ≡ plain_ref (to + i) o
          go None = refl
          go (Some c) = number c (number_of c)

      pub all_move : refs_of number_of (filter (λ e. uses e.0) (fin.entries now)) ≡ map moved (refs_of number_of (filter (λ e. uses e.0) (fin.entries cells)))
      all_move =
          new_refs
          ∙ ap (gather (λ k. plain_ref k (cell_for cells r (k - to))) to) (rest r.old r.new more)
          ∙ gather_parts (λ k. plain_ref k (cell_for cells r (k - to))) to r.old (r.new - r.old)
          ∙ (λ i. sym (gather_moved moved (λ k. plain_ref k (fin.get cells k)) (λ k. plain_ref k (cell_for cells r (k - to))) r.first to r.old one) i
          ++ gather_none (λ k. plain_ref k (cell_for cells r (k - to))) (to + r.old) (r.new - r.old) (λ k a b. behind k a) i)
          ∙ nil (map moved (gather (λ k. plain_ref k (fin.get cells k)) r.first r.old))
          ∙ ap (map moved) (sym old_refs)
        where
          rest : (a b : ℕ) → a ≤ b → b ≡ a + (b - a)
          rest a b h = omega (arith, h)

          nil : (xs : List Ref) → xs ++ [] ≡ xs
          nil [] = refl
          nil (x ∷ xs) = ap (λ l. x ∷ l) (nil xs)

      -- and each stood in the range
      pub all_near : AllByRecursion (λ (e : Ref). (r.first ≤ e.0) × (e.0 < r.first + r.old)) (refs_of number_of (filter (λ e. uses e.0) (fin.entries cells)))
      all_near = subst (λ l. AllByRecursion (λ (e : Ref). (r.first ≤ e.0) × (e.0 < r.first + r.old)) l) (sym old_refs)
          (each_gathered (λ (e : Ref). (r.first ≤ e.0) × (e.0 < r.first + r.old)) (λ k. plain_ref k (fin.get cells k)) r.first r.old (λ k a b. go k a b (fin.get cells k)))
        where
          number : (k : ℕ) (c : Cell) → r.first ≤ k → k < r.first + r.old → (o : Option ℕ) → AllByRecursion (λ (e : Ref). (r.first ≤ e.0) × (e.0 < r.first + r.old)) (option_map_or (λ n. (k, (n, contents [] c)) ∷ []) o [])
          number k c a b None = tt
          number k c a b (Some n) = ((a, b), tt)

          go : (k : ℕ) → r.first ≤ k → k < r.first + r.old → (o : Option Cell) → AllByRecursion (λ (e : Ref). (r.first ≤ e.0) × (e.0 < r.first + r.old)) (plain_ref k o)
          go k a b None = tt
          go k a b (Some c) = number k c a b (number_of c)
