-- What an access has changed, once its pages got their frames.
use Rattle.std.proofs.Common.{◌≡◌, ℕ, zero, suc, ◌+◌, ◌-◌, ◌*◌, ◌%◌, min, ◌<◌, ◌≤◌, Bool, true, false, cond, List, [], ◌++◌, length, take, drop, refl, sym, ap, subst, ◌∙◌, arith}
use mathlib.Core.Logic.{◌⊎◌, inl, inr}
use Rattle.std.specs.Prelude.{Option, Some, None, IsSome, nat_eq}
use Rattle.std.specs.Option.{option_map, option_map_or, unwrap_or}
use Rattle.std.specs.List.{flat_map, range_with_len}
use Rattle.std.specs.Ordering.{nat_cmp}
use Rattle.std.specs.Cmp.{nat_cmp_total, unsigned_tied}
use Rattle.std.proofs.lemmas.Bool.{cases_lt, cases_eq, eqb-true, and_from, le-leb, lt-ltb, false≢true}
use Rattle.std.proofs.lemmas.List.{drop_all, length-take, length-drop}
use Rattle.std.specs.FinMap.{FinMap, get, get-remove, same_map, nat_cmp-IsAntisymmetric}
use Rattle.table_place.specs.Range.{within}
use Rattle.corten_base.specs.Bytes.{bytes_after_write}
use Rattle.page_map.specs.declared.cell.Cell.{Cell}
use Rattle.page_map.specs.declared.cell.Cell.TheVariants.{Anon, File, Mapped, Swapped}
use Rattle.page_map.specs.Change.{change, set_at}
use Rattle.page_map.specs.Cell.{backing_of, perm_of, frame_of, slot_of, contents, written}
use Rattle.page_map.specs.State.{AddressSpace}
use Rattle.page_map.specs.Takes.{Grant, granted}
use Rattle.page_map.specs.Access.{Access, first_page, page_count, touched, after_access, loaded}
use Rattle.page_map.proofs.Range.{inside, get-change, change_more, change_none}
use Rattle.page_map.proofs.Bytes.{written_nothing}
use Rattle.plain_counts.specs.declared.counts.Counts.{Counts}
use Rattle.plain_counts.specs.Counts.{carried, one_at, Follow}
use Rattle.space_cells.specs.Cells.{bytes_of}
use Rattle.plain_spaces.specs.Reach.{last_page, making, given, brought, stored_at, IsWhole, IsResident}
use Rattle.plain_spaces.proofs.Reach.{one_or_two}
use Rattle.plain_spaces.proofs.Moves.{carried_insert}

module _ (a : Access) (some : 0 < a.len) (few : a.len ≤ 4096) where
  -- a touched page is the first or the last
  pub either_page : (q : ℕ) → within (first_page a) (page_count a) q ≡ true → (q ≡ first_page a) ⊎ (q ≡ last_page a)
  either_page q w = go (one_or_two a some few)
    where
      pick : (q ≡ first_page a) ⊎ (q ≡ first_page a → ⊥) → (q ≡ first_page a → ⊥) → q ≡ last_page a → (q ≡ first_page a) ⊎ (q ≡ last_page a)
      pick s f e = inr e

      go : ((last_page a ≡ first_page a) × (page_count a ≡ 1)) ⊎ ((last_page a ≡ first_page a + 1) × (page_count a ≡ 2)) → (q ≡ first_page a) ⊎ (q ≡ last_page a)
      go (inl e) = inl (omega (arith, e.1, (inside (first_page a) (page_count a) q w).0, (inside (first_page a) (page_count a) q w).1))
      go (inr e) = two (cases_eq q (first_page a))
        where
          two : (q ≡ first_page a) ⊎ (q ≡ first_page a → ⊥) → (q ≡ first_page a) ⊎ (q ≡ last_page a)
          two (inl s) = inl s
          two (inr f) = inr (omega (arith, f, e.0, e.1, (inside (first_page a) (page_count a) q w).0, (inside (first_page a) (page_count a) q w).1))

  -- what stands of the access in a touched page
  touched_low : (q : ℕ) → within (first_page a) (page_count a) q ≡ true → a.at < 4096 * q + 4096
  touched_low q w = omega (arith, (inside (first_page a) (page_count a) q w).0)

  touched_high : (q : ℕ) → within (first_page a) (page_count a) q ≡ true → 4096 * q < a.at + a.len
  touched_high q w = go (either_page q w)
    where
      go : (q ≡ first_page a) ⊎ (q ≡ last_page a) → 4096 * q < a.at + a.len
      go (inl e) = omega (arith, e, some)
      go (inr e) = omega (arith, e, some)

module _ {X : Type 0} where
  -- two changes of one range
  pub change_twice : (m : FinMap nat_cmp X) (first count : ℕ) (f g h : ℕ → Option X → Option X) →
      ((q : ℕ) → within first count q ≡ true → g q (f q (get m q)) ≡ h q (get m q)) → change (change m first count f) first count g ≡ change m first count h
  change_twice m first count f g h same = same_map nat_cmp_total nat_cmp-IsAntisymmetric _ _ (λ q.
      get-change (change m first count f) first count g q
      ∙ ap (λ o. cond (within first count q) (g q o) o) (get-change m first count f q)
      ∙ go q (within first count q) refl
      ∙ sym (get-change m first count h q))
    where
      go : (q : ℕ) (b : Bool) → within first count q ≡ b → cond b (g q (cond b (f q (get m q)) (get m q))) (cond b (f q (get m q)) (get m q)) ≡ cond b (h q (get m q)) (get m q)
      go q true e = same q e
      go q false e = refl

same_flat : (f g : ℕ → List ℕ) (first count : ℕ) → ((q : ℕ) → first ≤ q → q < first + count → f q ≡ g q) → flat_map f (range_with_len first count) ≡ flat_map g (range_with_len first count)
same_flat f g first zero h = refl
same_flat f g first (suc count) h = (λ i. h first (omega arith) (omega arith) i ++ same_flat f g (first + 1) count (λ q low high. h q (omega arith) (omega arith)) i)

module _ (files : List (List ℕ)) (cells : AddressSpace) (a : Access) (grants : Grant) where
  brought_at : (q : ℕ) → within (first_page a) (page_count a) q ≡ true → get (brought files grants a cells) q ≡ option_map (given files (granted grants q)) (get cells q)
  brought_at q w = get-change cells (first_page a) (page_count a) (λ page. option_map (given files (granted grants page))) q
      ∙ ap (λ b. cond b (option_map (given files (granted grants q)) (get cells q)) (get cells q)) w

  -- all pages have frames
  pub brought_resident : 0 < a.len → a.len ≤ 4096 → IsWhole files cells → IsSome (get cells (first_page a)) → ((last_page a ≡ first_page a → ⊥) → IsSome (get cells (last_page a))) →
      IsResident (brought files grants a cells) a
  brought_resident some few whole first last = record { pages = λ q w. ap (λ o. length (bytes_of o)) (brought_at q w) ∙ long q (get cells q) refl (there q (either_page a some few q w)) }
    where
      there : (q : ℕ) → (q ≡ first_page a) ⊎ (q ≡ last_page a) → IsSome (get cells q)
      there q (inl e) = subst (λ p. IsSome (get cells p)) (sym e) first
      there q (inr e) = at (cases_eq (last_page a) (first_page a))
        where
          at : (last_page a ≡ first_page a) ⊎ (last_page a ≡ first_page a → ⊥) → IsSome (get cells q)
          at (inl s) = subst (λ p. IsSome (get cells p)) (sym (e ∙ s)) first
          at (inr f) = subst (λ p. IsSome (get cells p)) (sym e) (last f)

      long : (q : ℕ) (o : Option Cell) → get cells q ≡ o → IsSome o → length (bytes_of (option_map (given files (granted grants q)) o)) ≡ 4096
      long q None e h = absurd (false≢true h)
      long q (Some cell) e h = whole q cell e

  -- and the bytes that they had
  pub loaded_brought : loaded files (brought files grants a cells) a ≡ loaded files cells a
  unfolding loaded
  loaded_brought = ap (λ l. take a.len (drop (a.at % 4096) l)) (same_flat (λ page. option_map_or (contents files) (get (brought files grants a cells) page) []) (λ page. option_map_or (contents files) (get cells page) []) (first_page a) (page_count a)
      (λ q low high. ap (λ o. option_map_or (contents files) o []) (brought_at q (and_from _ _ (le-leb (first_page a) q low) (lt-ltb q (first_page a + page_count a) high))) ∙ kept q (get cells q)))
    where
      kept : (q : ℕ) (o : Option Cell) → option_map_or (contents files) (option_map (given files (granted grants q)) o) [] ≡ option_map_or (contents files) o []
      kept q None = refl
      kept q (Some cell) = refl

  pub brought_after : a.stored ≡ [] → brought files grants a cells ≡ after_access files grants a cells
  unfolding after_access
  brought_after none = λ i. change cells (first_page a) (page_count a) (λ page. option_map (λ cell.
      Mapped (perm_of cell) (backing_of cell) (unwrap_or (granted grants page) (unwrap_or (frame_of cell) 0)) (sym (ap (λ s. written a.at s page (contents files cell)) none ∙ written_nothing a.at page (contents files cell)) i)))

-- what falls into a page, between what stands before it and after it
overwritten_is : (at q : ℕ) (bytes old : List ℕ) → at < 4096 * q + 4096 → 4096 * q < at + length bytes → length old ≡ 4096 →
    bytes_after_write old (at - 4096 * q) (take (4096 - (at - 4096 * q)) (drop (4096 * q - at) bytes)) ≡ written at bytes q old
overwritten_is at q bytes old low high whole = ap (λ l. take (at - 4096 * q) old ++ take (4096 - (at - 4096 * q)) (drop (4096 * q - at) bytes) ++ l) (go (cases_lt (length bytes - (4096 * q - at)) (4096 - (at - 4096 * q))))
  where
    piece : List ℕ
    piece = take (4096 - (at - 4096 * q)) (drop (4096 * q - at) bytes)

    long : length piece ≡ min (4096 - (at - 4096 * q)) (length bytes - (4096 * q - at))
    long = length-take (4096 - (at - 4096 * q)) (drop (4096 * q - at) bytes) ∙ ap (min (4096 - (at - 4096 * q))) (length-drop (4096 * q - at) bytes)

    go : (length bytes - (4096 * q - at) < 4096 - (at - 4096 * q)) ⊎ (4096 - (at - 4096 * q) ≤ length bytes - (4096 * q - at)) →
        drop (at - 4096 * q + length piece) old ≡ drop (at + length bytes - 4096 * q) old
    go (inl h) = ap (λ n. drop n old) (omega (arith, long, h, low, high))
    go (inr h) = drop_all (at - 4096 * q + length piece) old (omega (arith, long, h, low, high, whole)) ∙ sym (drop_all (at + length bytes - 4096 * q) old (omega (arith, h, low, high, whole)))

-- an access that stores its bytes once its pages have frames
pub stored_after : (files : List (List ℕ)) (cells : AddressSpace) (a : Access) (bytes : List ℕ) (grants : Grant) → 0 < a.len → a.len ≤ 4096 → length bytes ≡ a.len → IsWhole files cells →
    change (brought files grants a cells) (first_page a) (page_count a) (λ page. option_map (stored_at a.at bytes page)) ≡ after_access files grants (making a bytes) cells
unfolding after_access
stored_after files cells a bytes grants some few long whole =
    change_twice cells (first_page a) (page_count a) (λ page. option_map (given files (granted grants page))) (λ page. option_map (stored_at a.at bytes page)) (λ page. option_map (touched files grants (making a bytes) page))
    (λ q w. each q w (get cells q) refl)
  where
    each : (q : ℕ) → within (first_page a) (page_count a) q ≡ true → (o : Option Cell) → get cells q ≡ o →
        option_map (stored_at a.at bytes q) (option_map (given files (granted grants q)) o) ≡ option_map (touched files grants (making a bytes) q) o
    each q w None e = refl
    each q w (Some cell) e = ap (λ b. Some (Mapped (perm_of cell) (backing_of cell) (unwrap_or (granted grants q) (unwrap_or (frame_of cell) 0)) b))
        (overwritten_is a.at q bytes (contents files cell) (touched_low a some few q w) (omega (arith, touched_high a some few q w, long)) (whole q cell e))

-- Cells that carry the same numbers count alike.
module _ (number_of : Cell → Option ℕ) (n : ℕ) (f : ℕ → Cell → Cell) (same : (page : ℕ) (c : Cell) → number_of (f page c) ≡ number_of c) (cells : AddressSpace) (first : ℕ) where
  carried_set : (m : AddressSpace) (k : ℕ) (o : Option Cell) → get m k ≡ o → carried number_of n (set_at m k (option_map (f k) o)) ≡ carried number_of n m
  carried_set m k None e = ap (carried number_of n) (same_map nat_cmp_total nat_cmp-IsAntisymmetric _ _ (λ q. get-remove nat_cmp_total m k q ∙ ap (λ b. cond b None (get m q)) (unsigned_tied q k) ∙ go q (nat_eq q k) refl))
    where
      go : (q : ℕ) (b : Bool) → nat_eq q k ≡ b → cond b None (get m q) ≡ get m q
      go q true h = sym (ap (get m) (eqb-true q k h) ∙ e)
      go q false h = refl
  carried_set m k (Some c) e = omega (arith, carried_insert number_of n m k c (f k c) e, ap (λ o. one_at o n) (same k c))

  pub carried_change : (count : ℕ) → carried number_of n (change cells first count (λ page. option_map (f page))) ≡ carried number_of n cells
  carried_change zero = ap (carried number_of n) (change_none cells first (λ page. option_map (f page)))
  carried_change (suc count) =
      ap (carried number_of n) (change_more cells first count (λ page. option_map (f page)))
      ∙ carried_set (change cells first count (λ page. option_map (f page))) (first + count) (get cells (first + count))
      (get-change cells first count (λ page. option_map (f page)) (first + count) ∙ ap (λ b. cond b (option_map (f (first + count)) (get cells (first + count))) (get cells (first + count))) (past (within first count (first + count)) refl))
      ∙ carried_change count
    where
      past : (b : Bool) → within first count (first + count) ≡ b → b ≡ false
      past false h = refl
      past true h = absurd (omega (arith, (inside first count (first + count) h).1))

stored_frame : (at : ℕ) (bytes : List ℕ) (page : ℕ) (c : Cell) → frame_of (stored_at at bytes page c) ≡ frame_of c
stored_frame at bytes page (Anon perm) = refl
stored_frame at bytes page (File perm file index) = refl
stored_frame at bytes page (Mapped perm origin frame b) = refl
stored_frame at bytes page (Swapped perm origin slot b) = refl

stored_slot : (at : ℕ) (bytes : List ℕ) (page : ℕ) (c : Cell) → slot_of (stored_at at bytes page c) ≡ slot_of c
stored_slot at bytes page (Anon perm) = refl
stored_slot at bytes page (File perm file index) = refl
stored_slot at bytes page (Mapped perm origin frame b) = refl
stored_slot at bytes page (Swapped perm origin slot b) = refl

-- and the counts follow
pub stored_follow : (at : ℕ) (bytes : List ℕ) (before cells : AddressSpace) (first count : ℕ) (old new : Counts) → Follow old new before cells →
    Follow old new before (change cells first count (λ page. option_map (stored_at at bytes page)))
stored_follow at bytes before cells first count old new f = record {
  frames = record { numbers = f.frames.numbers; counts = λ n. omega (arith, f.frames.counts n, carried_change frame_of n (stored_at at bytes) (stored_frame at bytes) cells first count) };
  slots = record { numbers = f.slots.numbers; counts = λ n. omega (arith, f.slots.counts n, carried_change slot_of n (stored_at at bytes) (stored_slot at bytes) cells first count) };
}
