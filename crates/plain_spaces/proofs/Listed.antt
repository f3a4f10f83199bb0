-- The pieces of pages that move: those of the old pages, one behind another, and the added pages.
--     old_cell, new_cell      page i of the new place
--     still_alike, added_alike      pages that are alike at the old place, and the added ones that go on from them
--     IsListed, start_listed, step_listed      the pieces before a page;  none;  one more
--     piece_listed      a piece of the old place is one of the new, with the added pages where they go on from it
--     added_listed      the added pages as a piece of their own
--     found_joined      whether the added pages go on from the last old one, by whether that is held
--     all_joined, all_apart      all pieces of the new place, where the added pages go on from the last old one, and where they don't
--     pieces_short, one_short      pieces of few pages, and one range of few
use Rattle.std.proofs.Common.{◌≡◌, ℕ, ◌+◌, ◌-◌, ◌^◌, ◌<◌, ◌≤◌, Bool, true, false, cond, ◌&&◌, List, [], ◌∷◌, ◌++◌, ◌⊎◌, refl, sym, ap, subst, ◌∙◌, arith}
use mathlib.Core.Bool.{true≢false}
use mathlib.Core.Logic.{inl, inr}
use Rattle.std.specs.Prelude.{Option, Some, None, is_none, is_some, nat_eq}
use Rattle.std.specs.Option.{option_and_then, option_map}
use Rattle.std.specs.FinMap.{get}
use Rattle.std.specs.List.{All}
use Rattle.std.proofs.lemmas.Bool.{cases_lt, eq-eqb, eqb-true, false_from_ne_true, lt-ltb, le-ltb, ne_eqb}
use Rattle.std.proofs.lemmas.List.Elements.{All-nil, All-cons}
use Rattle.page_map.specs.declared.cell.Cell.{Cell}
use Rattle.page_map.specs.declared.cell.Cell.TheVariants.{Anon, File, Mapped, Swapped}
use Rattle.page_map.specs.Alike.{continues, is_alike}
use Rattle.page_map.specs.Cell.{backing_of, goes_on, perm_of}
use Rattle.page_map.specs.Change.{earliest}
use Rattle.page_map.specs.Cutting.{ArePieces, IsPiece}
use Rattle.page_map.specs.State.{AddressSpace}
use Rattle.page_map.proofs.Alike.{alike_at, alike_from, alike_unnumbered, backed_unnumbered, continues_from, continues_is, continues_unnumbered, has_no_number, onward, onward_twice}
use Rattle.page_map.proofs.NeedOfMoves.{one_alike, one_piece_more}
use Rattle.plain_counts.specs.declared.cut.Pages.{Pages}
use Rattle.plain_counts.specs.Cut.{IsShort}
use Rattle.space_cells.specs.declared.moving.Relocation.{Relocation}
use Rattle.space_cells.specs.declared.held.Number.{Number}
use Rattle.space_cells.specs.Cells.{number_at, number_of, numbered_page}
use Rattle.space_cells.specs.Moving.{CanMove, moved}
use Rattle.plain_spaces.specs.Pieces.{AreMoved, joined_at, joined_end}
use Rattle.plain_spaces.proofs.Reach.{earliest_one}
use Rattle.plain_spaces.proofs.Relocated.{there}

-- the pieces before a page are listed, and what stands there does not go on from the one before
pub record IsListed (cells : AddressSpace) (r : Relocation) (pieces : List Pages) (next : ℕ) : Type 0 where
  pub low : r.first ≤ next
  pub high : next ≤ r.first + r.old
  pub listed : AreMoved cells r (r.to + (next - r.first + joined_at cells r next)) pieces
  pub parts : r.first < next → next < r.first + r.old → continues (get cells (next - 1)) 1 (get cells next) ≡ false

module _ (cells : AddressSpace) (r : Relocation) (can : CanMove cells r) where
  abbrev new : AddressSpace
  new = moved r cells

  -- a page of the old place, and one of the added pages
  pub old_cell : (i : ℕ) → i < r.old → get new (r.to + i) ≡ get cells (r.first + i)
  old_cell i low = there cells r can i (omega (arith, low, can.grows))
      ∙ ap (λ b. cond b (get cells (r.first + i)) (option_map (λ last. goes_on last (i + 1 - r.old)) (get cells (r.first + r.old - 1)))) (lt-ltb i r.old low)

  pub new_cell : (i : ℕ) → r.old ≤ i → i < r.new → get new (r.to + i) ≡ onward (i + 1 - r.old) (get cells (r.first + r.old - 1))
  new_cell i high low = there cells r can i low
      ∙ ap (λ b. cond b (get cells (r.first + i)) (option_map (λ last. goes_on last (i + 1 - r.old)) (get cells (r.first + r.old - 1)))) (le-ltb i r.old high)

  -- pages of the old place that are alike are so at the new one
  pub still_alike : (i n : ℕ) → i + n ≤ r.old → is_alike cells (r.first + i) n ≡ true → is_alike new (r.to + i) n ≡ true
  still_alike i n fits h = alike_from new (r.to + i) n (λ q a b.
      let from : r.to + (q - r.to) ≡ q = omega (arith, a) in
      let here : get new q ≡ get cells (r.first + (q - r.to)) = ap (get new) (sym from) ∙ old_cell (q - r.to) (omega (arith, a, b, fits)) in
      let place : q - (r.to + i) ≡ r.first + (q - r.to) - (r.first + i) = omega (arith, a) in
      (λ j. continues (old_cell i (omega (arith, a, b, fits)) j) (place j) (here j))
      ∙ alike_at cells (r.first + i) n h (r.first + (q - r.to)) (omega (arith, a)) (omega (arith, a, b)))

  -- the last piece is alike where its last page has no frame or slot
  pub plain_alike : (i n : ℕ) → i + n ≡ r.old → has_no_number (get cells (r.first + r.old - 1)) ≡ true → (is_alike cells (r.first + i) n ≡ true) ⊎ (n ≡ 1) → is_alike cells (r.first + i) n ≡ true
  plain_alike i n all plain (inl h) = h
  plain_alike i n all plain (inr e) =
      let same : r.first + i ≡ r.first + r.old - 1 = omega (arith, all, e) in
      ap (is_alike cells (r.first + i)) e ∙ one_alike cells (r.first + i) (ap (λ q. has_no_number (get cells q)) same ∙ plain)

  -- and the added pages go on from it
  pub added_alike : (i n : ℕ) → 1 ≤ n → i + n ≡ r.old → is_alike cells (r.first + i) n ≡ true → is_alike new (r.to + i) (n + (r.new - r.old)) ≡ true
  added_alike i n some all h = alike_from new (r.to + i) (n + (r.new - r.old)) (λ q a b. elim (cases_lt q (r.to + r.old)) [
    | inl old ↦ alike_at new (r.to + i) n (still_alike i n (omega (arith, all)) h) q a (omega (arith, old, all))
    | inr late ↦
        let k = q - r.to in
        let from : r.to + k ≡ q = omega (arith, a) in
        let start = old_cell i (omega (arith, some, all)) in
        let diff : r.first + r.old - 1 - (r.first + i) ≡ n - 1 = omega (arith, all, some) in
        let last = continues_is (get cells (r.first + i)) (r.first + r.old - 1 - (r.first + i)) (get cells (r.first + r.old - 1))
        (alike_at cells (r.first + i) n h (r.first + r.old - 1) (omega (arith, all, some)) (omega (arith, all, some))) ∙ ap (λ j. onward j (get cells (r.first + i))) diff in
        let sum : n - 1 + (k + 1 - r.old) ≡ q - (r.to + i) = omega (arith, late, all, some) in
        continues_from (get new (r.to + i)) (q - (r.to + i)) (get new q)
        (ap has_no_number start ∙ alike_unnumbered cells (r.first + i) n h (r.first + i) (omega arith) (omega (arith, some)))
        (ap (get new) (sym from) ∙ new_cell k (omega (arith, late)) (omega (arith, b, all, can.grows, late)) ∙ ap (onward (k + 1 - r.old)) last
        ∙ onward_twice (get cells (r.first + i)) (n - 1) (k + 1 - r.old) (q - (r.to + i)) sum ∙ ap (onward (q - (r.to + i))) (sym start))
  ])

  -- the added pages alone
  alone_alike : is_alike new (r.to + r.old) (r.new - r.old) ≡ true
  alone_alike = alike_from new (r.to + r.old) (r.new - r.old) (λ q a b.
      let last = get cells (r.first + r.old - 1) in
      let k = q - r.to in
      let from : r.to + k ≡ q = omega (arith, a) in
      let one : r.old + 1 - r.old ≡ 1 = omega arith in
      let start = new_cell r.old (omega arith) can.grows ∙ ap (λ j. onward j last) one in
      let sum : 1 + (q - (r.to + r.old)) ≡ k + 1 - r.old = omega (arith, a) in
      continues_from (get new (r.to + r.old)) (q - (r.to + r.old)) (get new q) (ap has_no_number start ∙ onward_plain last)
      (ap (get new) (sym from) ∙ new_cell k (omega (arith, a)) (omega (arith, a, b, can.grows)) ∙ sym (ap (onward (q - (r.to + r.old))) start ∙ onward_twice last 1 (q - (r.to + r.old)) (k + 1 - r.old) sum)))
    where
      onward_plain : (o : Option Cell) → has_no_number (onward 1 o) ≡ true
      onward_plain None = refl
      onward_plain (Some c) = backed_unnumbered (backing_of c) (perm_of c) 1

  -- behind a page with a frame or a slot
  numbered_stops : (o later : Option Cell) → has_no_number o ≡ false → continues o 1 later ≡ false
  numbered_stops o later h = false_from_ne_true _ (λ c. true≢false (sym (continues_unnumbered o 1 later c) ∙ h))

  pub old_parts : (i : ℕ) → 0 < i → i < r.old → continues (get cells (r.first + i - 1)) 1 (get cells (r.first + i)) ≡ false → continues (get new (r.to + i - 1)) 1 (get new (r.to + i)) ≡ false
  old_parts i some low h =
      let front : r.to + (i - 1) ≡ r.to + i - 1 = omega (arith, some) in
      let back : r.first + (i - 1) ≡ r.first + i - 1 = omega (arith, some) in
      (λ j. continues ((ap (get new) (sym front) ∙ old_cell (i - 1) (omega (arith, low)) ∙ ap (get cells) back) j) 1 (old_cell i low j)) ∙ h

  -- ---- the list

  abbrev AreSoFar : ℕ → List Pages → Type 0
  AreSoFar n pieces = AreMoved cells r (r.to + n) pieces

  -- the added pages as a piece of their own, behind a page with a frame or a slot
  pub added_listed : (pieces : List Pages) → has_no_number (get cells (r.first + r.old - 1)) ≡ false → AreSoFar r.old pieces → AreSoFar r.new (pieces ++ record { first = r.to + r.old; count = r.new - r.old } ∷ [])
  added_listed pieces numbered so_far =
      let all : r.to + r.old + (r.new - r.old) ≡ r.to + r.new = omega (arith, can.grows) in
      let front : r.to + (r.old - 1) ≡ r.to + r.old - 1 = omega (arith, can.some) in
      let back : r.first + (r.old - 1) ≡ r.first + r.old - 1 = omega (arith, can.some) in
      subst (λ end. AreMoved cells r end (pieces ++ record { first = r.to + r.old; count = r.new - r.old } ∷ [])) all
      (one_piece_more (λ (p : Pages). p.first) (λ p. p.count) new r.to (r.to + r.old) pieces (record { first = r.to + r.old; count = r.new - r.old }) so_far refl (omega (arith, can.grows)) (inl alone_alike)
      (λ _. numbered_stops (get new (r.to + r.old - 1)) (get new (r.to + r.old)) (ap has_no_number (ap (get new) (sym front) ∙ old_cell (r.old - 1) (omega (arith, can.some)) ∙ ap (get cells) back) ∙ numbered)))

  -- a piece of the old pages, which may have the added pages behind it
  pub piece_listed : (pieces : List Pages) (i n more : ℕ) → 1 ≤ n → i + n ≤ r.old → (more ≡ 0) ⊎ ((more ≡ r.new - r.old) × (i + n ≡ r.old) × (has_no_number (get cells (r.first + r.old - 1)) ≡ true)) →
      (is_alike cells (r.first + i) n ≡ true) ⊎ (n ≡ 1) → (0 < i → continues (get cells (r.first + i - 1)) 1 (get cells (r.first + i)) ≡ false) → AreSoFar i pieces →
      AreSoFar (i + n + more) (pieces ++ record { first = r.to + i; count = n + more } ∷ [])
  piece_listed pieces i n more some fits way whole parts so_far =
      let all : r.to + i + (n + more) ≡ r.to + (i + n + more) = omega arith in
      subst (λ end. AreMoved cells r end (pieces ++ record { first = r.to + i; count = n + more } ∷ [])) all
      (one_piece_more (λ (p : Pages). p.first) (λ p. p.count) new r.to (r.to + i) pieces (record { first = r.to + i; count = n + more }) so_far refl (omega (arith, some)) (longer way whole)
      (λ low. old_parts i (omega (arith, low)) (omega (arith, some, fits)) (parts (omega (arith, low)))))
    where
      longer : (more ≡ 0) ⊎ ((more ≡ r.new - r.old) × (i + n ≡ r.old) × (has_no_number (get cells (r.first + r.old - 1)) ≡ true)) → (is_alike cells (r.first + i) n ≡ true) ⊎ (n ≡ 1) →
          (is_alike new (r.to + i) (n + more) ≡ true) ⊎ (n + more ≡ 1)
      longer (inl none) (inl h) = let same : n + more ≡ n = omega (arith, none) in inl (ap (is_alike new (r.to + i)) same ∙ still_alike i n fits h)
      longer (inl none) (inr e) = inr (omega (arith, none, e))
      longer (inr last) h =
          inl (ap (λ m. is_alike new (r.to + i) (n + m)) last.0 ∙ added_alike i n some last.1 (plain_alike i n last.1 last.2 h))

  -- ---- whether the added pages go on

  plain_from : (o : Option Cell) → is_none (option_and_then number_of o) ≡ true → has_no_number o ≡ true
  plain_from None h = refl
  plain_from (Some (Anon perm)) h = refl
  plain_from (Some (File perm file index)) h = refl
  plain_from (Some (Mapped perm origin frame bytes)) h = absurd (true≢false (sym h))
  plain_from (Some (Swapped perm origin slot bytes)) h = absurd (true≢false (sym h))

  numbered_from : (o : Option Cell) → is_none (option_and_then number_of o) ≡ false → has_no_number o ≡ false
  numbered_from None h = absurd (true≢false h)
  numbered_from (Some (Anon perm)) h = absurd (true≢false h)
  numbered_from (Some (File perm file index)) h = absurd (true≢false h)
  numbered_from (Some (Mapped perm origin frame bytes)) h = refl
  numbered_from (Some (Swapped perm origin slot bytes)) h = refl

  abbrev Joins : ℕ → ℕ → ℕ → Type 0
  Joins i n more = (more ≡ 0) ⊎ ((more ≡ r.new - r.old) × (i + n ≡ r.old) × (has_no_number (get cells (r.first + r.old - 1)) ≡ true))

  pub joined_way : (i n next more : ℕ) → next ≡ r.first + i + n → more ≡ joined_at cells r next → Joins i n more
  joined_way i n next more at is = go (nat_eq next (r.first + r.old)) (is_none (number_at cells (next - 1))) refl refl
    where
      go : (a b : Bool) → nat_eq next (r.first + r.old) ≡ a → is_none (number_at cells (next - 1)) ≡ b → Joins i n more
      go true true e f =
          let end = eqb-true next (r.first + r.old) e in
          let last : next - 1 ≡ r.first + r.old - 1 = ap (λ k. k - 1) end in
          inr (is ∙ (λ j. cond (e j && f j) (r.new - r.old) 0), omega (arith, at, end), ap (λ q. has_no_number (get cells q)) (sym last) ∙ plain_from (get cells (next - 1)) f)
      go true false e f = inl (is ∙ (λ j. cond (e j && f j) (r.new - r.old) 0))
      go false b e f = inl (is ∙ (λ j. cond (e j && is_none (number_at cells (next - 1))) (r.new - r.old) 0))

  -- none of them goes on before the end
  pub none_joined : (next : ℕ) → next < r.first + r.old → joined_at cells r next ≡ 0
  none_joined next low = ap (λ b. cond (b && is_none (number_at cells (next - 1))) (r.new - r.old) 0) (ne_eqb next (r.first + r.old) (λ e. omega (arith, low, e)))

  -- by whether the last page is held
  pub found_joined : (next : ℕ) → next ≡ r.first + r.old → (o : Option (ℕ × Number)) → o ≡ earliest (r.first + r.old - 1) (r.first + r.old - (r.first + r.old - 1)) (numbered_page cells) → (b : Bool) → is_some o ≡ b →
      joined_at cells r next ≡ cond b 0 (r.new - r.old)
  found_joined next end o found b is =
      let one : r.first + r.old - (r.first + r.old - 1) ≡ 1 = omega (arith, can.some) in
      let here = found ∙ ap (λ n. earliest (r.first + r.old - 1) n (numbered_page cells)) one ∙ earliest_one (r.first + r.old - 1) (numbered_page cells) ∙ ap (λ e. numbered_page cells (e - 1)) (sym end) in
      ap (λ b. cond (b && is_none (number_at cells (next - 1))) (r.new - r.old) 0) (eq-eqb next (r.first + r.old) end)
      ∙ by_number (number_at cells (next - 1)) b (sym is ∙ ap (λ (o : Option (ℕ × Number)). is_some o) here)
    where
      by_number : (o : Option Number) (b : Bool) → b ≡ is_some {T = ℕ × Number} (option_map (λ number. (next - 1, number)) o) → cond (is_none o) (r.new - r.old) 0 ≡ cond b 0 (r.new - r.old)
      by_number None b e = sym (ap (λ b. cond b 0 (r.new - r.old)) e)
      by_number (Some x) b e = sym (ap (λ b. cond b 0 (r.new - r.old)) e)

  -- all or none at the end
  end_joined : (more : ℕ) → more ≡ joined_at cells r (r.first + r.old) → ((more ≡ 0) × (has_no_number (get cells (r.first + r.old - 1)) ≡ false)) ⊎ (more ≡ r.new - r.old)
  end_joined more is = go (is_none (number_at cells (r.first + r.old - 1))) refl
    where
      here : nat_eq (r.first + r.old) (r.first + r.old) ≡ true
      here = eq-eqb (r.first + r.old) (r.first + r.old) refl

      go : (b : Bool) → is_none (number_at cells (r.first + r.old - 1)) ≡ b → ((more ≡ 0) × (has_no_number (get cells (r.first + r.old - 1)) ≡ false)) ⊎ (more ≡ r.new - r.old)
      go true f = inr (is ∙ (λ j. cond (here j && f j) (r.new - r.old) 0))
      go false f = inl (is ∙ (λ j. cond (here j && f j) (r.new - r.old) 0), numbered_from (get cells (r.first + r.old - 1)) f)

  -- all pieces of the new place, where the added pages go on from the last old one, and where they don't
  pub all_joined : (more : ℕ) (pieces : List Pages) → more ≡ joined_at cells r (r.first + r.old) → (more ≡ 0 → ⊥) → AreMoved cells r (joined_end cells r) pieces → AreSoFar r.new pieces
  all_joined more pieces is some so_far = go (end_joined more is)
    where
      go : ((more ≡ 0) × (has_no_number (get cells (r.first + r.old - 1)) ≡ false)) ⊎ (more ≡ r.new - r.old) → AreSoFar r.new pieces
      go (inl none) = absurd (some none.0)
      go (inr all) =
          let end : joined_end cells r ≡ r.to + r.new = omega (arith, is, all, can.grows) in
          subst (λ end. AreMoved cells r end pieces) end so_far

  pub all_apart : (more : ℕ) (pieces : List Pages) → more ≡ joined_at cells r (r.first + r.old) → more ≡ 0 → AreMoved cells r (joined_end cells r) pieces →
      AreSoFar r.new (pieces ++ record { first = r.to + r.old; count = r.new - r.old } ∷ [])
  all_apart more pieces is nothing so_far = go (end_joined more is)
    where
      go : ((more ≡ 0) × (has_no_number (get cells (r.first + r.old - 1)) ≡ false)) ⊎ (more ≡ r.new - r.old) → AreSoFar r.new (pieces ++ record { first = r.to + r.old; count = r.new - r.old } ∷ [])
      go (inl none) =
          let end : joined_end cells r ≡ r.to + r.old = omega (arith, is, nothing) in
          added_listed pieces none.1 (subst (λ end. AreMoved cells r end pieces) end so_far)
      go (inr all) = absurd (omega (arith, all, nothing, can.grows))

  -- ---- the loop over the old pages

  pub start_listed : (pieces : List Pages) → pieces ≡ [] → IsListed cells r pieces r.first
  start_listed pieces none = record {
    low = omega arith;
    high = omega arith;
    listed = subst (λ ps. AreMoved cells r (r.to + (r.first - r.first + joined_at cells r r.first)) ps) (sym none)
        (let zero : joined_at cells r r.first ≡ 0 = none_joined r.first (omega (arith, can.some)) in omega (arith, zero));
    parts = λ a b. absurd (omega (arith, a));
  }

  pub step_listed : (pieces : List Pages) (next : ℕ) → IsListed cells r pieces next → (n : ℕ) → next < r.first + r.old → IsPiece (λ count. next) (λ (count : ℕ). count) cells next (r.first + r.old) n →
      (more : ℕ) → more ≡ joined_at cells r (next + n) → (pieces' : List Pages) → pieces' ≡ pieces ++ record { first = r.to + (next - r.first); count = n + more } ∷ [] → IsListed cells r pieces' (next + n)
  step_listed pieces next was n inside piece more is pieces' pushed =
      let i = next - r.first in
      let at : r.first + i ≡ next = omega (arith, was.low) in
      let fits : i + n ≤ r.old = omega (arith, piece.fits, was.low) in
      let zero : joined_at cells r next ≡ 0 = none_joined next inside in
      let here : next - r.first + joined_at cells r next ≡ i = omega (arith, zero) in
      let so_far : AreSoFar i pieces = subst (λ k. AreMoved cells r (r.to + k) pieces) here was.listed in
      let sum : i + n + more ≡ next + n - r.first + joined_at cells r (next + n) = omega (arith, is, was.low) in
      let whole : (is_alike cells (r.first + i) n ≡ true) ⊎ (n ≡ 1) = subst (λ q. (is_alike cells q n ≡ true) ⊎ (n ≡ 1)) (sym at) piece.whole in
      let all = piece_listed pieces i n more piece.some fits (joined_way i n (next + n) more (omega (arith, at)) is) whole
      (λ low. subst (λ q. continues (get cells (q - 1)) 1 (get cells q) ≡ false) (sym at) (was.parts (omega (arith, low, at)) inside)) so_far in
      record {
        low = omega (arith, was.low);
        high = piece.fits;
        listed = subst (λ ps. AreMoved cells r (r.to + (next + n - r.first + joined_at cells r (next + n))) ps) (sym pushed)
            (subst (λ k. AreMoved cells r (r.to + k) (pieces ++ record { first = r.to + i; count = n + more } ∷ [])) sum all);
        parts = λ a b. piece.parts b;
      }

-- ---- ranges of few pages

-- pieces of a range of few pages are short
pub pieces_short : (cells : AddressSpace) (at end : ℕ) (pieces : List Pages) → end ≤ 2 ^ 45 → ArePieces (λ (p : Pages). p.first) (λ p. p.count) cells at end pieces → All IsShort pieces
pieces_short cells at end [] few h = All-nil IsShort
pieces_short cells at end (p ∷ ps) few h =
    All-cons IsShort p ps (record { some = omega (arith, h.0.some); fits = omega (arith, h.0.here, h.0.fits, few) }) (pieces_short cells (at + p.count) end ps few h.1)

-- one range of few pages
pub one_short : (first count : ℕ) → 0 < count → first + count ≤ 2 ^ 45 → All IsShort (record { first = first; count = count } ∷ [])
one_short first count some few = All-cons IsShort (record { first = first; count = count }) [] (record { some = some; fits = few }) (All-nil IsShort)
