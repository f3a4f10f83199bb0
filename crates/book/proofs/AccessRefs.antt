-- The references of an access: those that come, at the pages that were granted numbers, and those that stay at the others.
use Rattle.std.proofs.Common.{◌≡◌, ℕ, ◌≤◌, Bool, true, false, cond, not, List, [], ◌∷◌, length, refl, sym, ap, ◌∙◌}
use mathlib.Core.Bool.{true≢false}
use Rattle.std.specs.Prelude.{Option, Some, None, T, is_some, map}
use Rattle.std.specs.List.{AllByRecursion, filter, zip}
use Rattle.std.specs.Option.{unwrap_or}
use Rattle.std.specs.Ordering.{nat_cmp}
use Rattle.std.specs.FinMap.{find, is_sorted}
use Rattle.page_map.specs.declared.cell.Cell.{Cell}
use Rattle.page_map.specs.declared.cell.Cell.TheVariants.{Anon, File, Mapped, Swapped}
use Rattle.page_map.specs.Access.{Access, touched}
use Rattle.page_map.specs.Cell.{frame_of, slot_of, contents, written}
use Rattle.page_map.specs.Takes.{Grant, granted}
use Rattle.machine_plan.specs.Kits.{is_granted}
use Rattle.machine_plan.specs.Uses.{Ref, ref_at, refs_of}
use Rattle.book.proofs.SameKeys.{with_values, same_picked}
use Rattle.book.proofs.References.{with_bytes, picked_refs, refs_with_bytes}
use Rattle.book.proofs.CameRefs.{pages_of_list, came_in_order}

pub each_one : {X : Type 0} (P : X → Type 0) → ((x : X) → P x) → (xs : List X) → AllByRecursion P xs
each_one P h [] = tt
each_one P h (x ∷ xs) = (h x, each_one P h xs)

pub picked_ones : {X : Type 0} (P : X → Type 0) (p : X → Bool) (xs : List X) → AllByRecursion (λ (x : X). p x ≡ true → P x) xs → AllByRecursion P (filter p xs)
picked_ones P p [] h = tt
picked_ones P p (x ∷ xs) h = go (p x) refl (picked_ones P p xs h.1)
  where
    go : (b : Bool) → p x ≡ b → AllByRecursion P (filter p xs) → AllByRecursion P (cond b (x ∷ filter p xs) (filter p xs))
    go true is rest = (h.0 is, rest)
    go false is rest = rest

module _ (files : List (List ℕ)) (grants : Grant) (a : Access) where
  abbrev T' : ℕ → Cell → Cell
  T' = touched files grants a

  abbrev came_at : ℕ × Cell → Option ℕ → Ref
  came_at e o = (e.0, (unwrap_or o (unwrap_or (frame_of e.1) 0), written a.at a.stored e.0 (contents files e.1)))

  each_ref : (es : List (ℕ × Cell)) → refs_of frame_of (with_values T' es) ≡ map (λ e. came_at e (granted grants e.0)) es
  each_ref [] = refl
  each_ref (e ∷ es) = ap (λ (rs : List Ref). came_at e (granted grants e.0) ∷ rs) (each_ref es)

  -- after an access no page has a slot
  no_slots : (es : List (ℕ × Cell)) → refs_of slot_of (with_values T' es) ≡ []
  no_slots [] = refl
  no_slots (e ∷ es) = no_slots es

  pub slots_none : (p : ℕ → Bool) (es : List (ℕ × Cell)) → refs_of slot_of (filter (λ e. p e.0) (with_values T' es)) ≡ []
  slots_none p es = ap (refs_of slot_of) (same_picked T' p es) ∙ no_slots (filter (λ e. p e.0) es)

  kept_ref : (e : ℕ × Cell) → (frame_of e.1 ≡ None → is_some (granted grants e.0) ≡ true) → not (is_some (granted grants e.0)) ≡ true → ref_at frame_of (e.0, T' e.0 e.1) ≡ map (with_bytes (written a.at a.stored)) (ref_at frame_of e)
  kept_ref e lone stays = go (granted grants e.0) e.1 lone stays
    where
      go : (o : Option ℕ) (c : Cell) → (frame_of c ≡ None → is_some o ≡ true) → not (is_some o) ≡ true →
          (e.0, (unwrap_or o (unwrap_or (frame_of c) 0), written a.at a.stored e.0 (contents files c))) ∷ [] ≡ map (with_bytes (written a.at a.stored)) (ref_at frame_of (e.0, c))
      go (Some n) c lone stays = absurd (true≢false (sym stays))
      go None (Mapped perm origin frame bytes) lone stays = refl
      go None (Anon perm) lone stays = absurd (true≢false (sym (lone refl)))
      go None (File perm file index) lone stays = absurd (true≢false (sym (lone refl)))
      go None (Swapped perm origin slot bytes) lone stays = absurd (true≢false (sym (lone refl)))

  pub kept_refs : (es : List (ℕ × Cell)) → AllByRecursion (λ (e : ℕ × Cell). frame_of e.1 ≡ None → is_some (granted grants e.0) ≡ true) es →
      refs_of frame_of (filter (λ e. not (is_granted grants e)) (with_values T' es)) ≡ map (with_bytes (written a.at a.stored)) (filter (λ (r : Ref). not (is_some (granted grants r.0))) (refs_of frame_of es))
  kept_refs es lone =
      ap (refs_of frame_of) (same_picked T' (λ k. not (is_some (granted grants k))) es)
      ∙ refs_with_bytes frame_of (written a.at a.stored) T' (filter (λ e. not (is_some (granted grants e.0))) es)
      (picked_ones (λ (e : ℕ × Cell). ref_at frame_of (e.0, T' e.0 e.1) ≡ map (with_bytes (written a.at a.stored)) (ref_at frame_of e)) (λ e. not (is_some (granted grants e.0))) es (all_kept es lone))
      ∙ ap (map (with_bytes (written a.at a.stored))) (picked_refs frame_of (λ k. not (is_some (granted grants k))) es)
    where
      all_kept : (es : List (ℕ × Cell)) → AllByRecursion (λ (e : ℕ × Cell). frame_of e.1 ≡ None → is_some (granted grants e.0) ≡ true) es →
          AllByRecursion (λ (e : ℕ × Cell). not (is_some (granted grants e.0)) ≡ true → ref_at frame_of (e.0, T' e.0 e.1) ≡ map (with_bytes (written a.at a.stored)) (ref_at frame_of e)) es
      all_kept [] h = tt
      all_kept (e ∷ es) h = (kept_ref e h.0, all_kept es h.1)

module _ (files : List (List ℕ)) (a : Access) (wants : Cell → Bool) (es : List (ℕ × Cell)) (numbers : List ℕ) (sorted : T (is_sorted nat_cmp es)) (enough : length (pages_of_list wants es) ≤ length numbers) where
  abbrev grants_of : Grant
  grants_of = zip (pages_of_list wants es) numbers

  pub new_refs : (bytes : ℕ → List ℕ) → AllByRecursion (λ (e : ℕ × Cell). contents files e.1 ≡ bytes e.0) es →
      refs_of frame_of (filter (is_granted grants_of) (with_values (touched files grants_of a) es)) ≡ map (λ g. (g.0, (g.1, written a.at a.stored g.0 (bytes g.0)))) grants_of
  new_refs bytes same =
      ap (refs_of frame_of) (same_picked (touched files grants_of a) (λ k. is_some (granted grants_of k)) es)
      ∙ each_ref files grants_of a (filter (λ e. is_some (granted grants_of e.0)) es)
      ∙ came_in_order wants grants_of (came_at files grants_of a) (λ g. (g.0, (g.1, written a.at a.stored g.0 (bytes g.0)))) es numbers sorted enough
      (each_one (λ (e : ℕ × Cell). find nat_cmp e.0 grants_of ≡ find nat_cmp e.0 (zip (pages_of_list wants es) numbers)) (λ e. refl) es) (made es same)
    where
      made : (es : List (ℕ × Cell)) → AllByRecursion (λ (e : ℕ × Cell). contents files e.1 ≡ bytes e.0) es →
          AllByRecursion (λ (e : ℕ × Cell). (n : ℕ) → ◌≡◌ {A = Ref} (e.0, (n, written a.at a.stored e.0 (contents files e.1))) (e.0, (n, written a.at a.stored e.0 (bytes e.0)))) es
      made [] h = tt
      made (e ∷ es) h = ((λ n. λ i. (e.0, (n, written a.at a.stored e.0 (h.0 i)))), made es h.1)
