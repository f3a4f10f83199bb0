-- Bytes that are written into the pages of an access.
use Rattle.std.proofs.Common.{◌≡◌, ℕ, ◌+◌, ◌-◌, ◌*◌, ◌%◌, min, ◌<◌, ◌≤◌, Bool, true, false, cond, List, length, take, drop, refl, sym, ap, ◌∙◌, arith}
use mathlib.Core.Logic.{◌⊎◌, inl, inr}
use Rattle.std.specs.Prelude.{Option, Some, None, nat_eq}
use Rattle.std.specs.Option.{option_map}
use Rattle.std.specs.Ordering.{nat_cmp}
use Rattle.std.proofs.lemmas.Bool.{eqb-true, ne_eqb, cond-false}
use Rattle.std.proofs.lemmas.List.{take_all, take_min, length-drop}
use Rattle.std.specs.FinMap.{FinMap, get}
use Rattle.page_map.specs.declared.cell.Cell.{Cell}
use Rattle.page_map.specs.Change.{change, set_at}
use Rattle.page_map.specs.State.{AddressSpace}
use Rattle.page_map.specs.Access.{Access, first_page, page_count}
use Rattle.page_map.proofs.Range.{change_is, change_more, get-set_at}
use Rattle.space_cells.specs.Cells.{overwritten}
use Rattle.plain_spaces.specs.Reach.{last_page, stored_at}
use Rattle.plain_spaces.proofs.Reach.{one_or_two}
use Rattle.plain_spaces.proofs.Moves.{change_one}
use Rattle.plain_spaces.proofs.Brought.{within_one}

module _ {X : Type 0} where
  -- a key at which nothing changes
  pub change_nothing : (m : FinMap nat_cmp X) (k : ℕ) (new : ℕ → Option X → Option X) → new k (get m k) ≡ get m k → m ≡ change m k 1 new
  change_nothing m k new h = change_is m k 1 new m (λ q. go q (nat_eq q k) refl ∙ ap (λ b. cond b (new q (get m q)) (get m q)) (sym (within_one k q)))
    where
      go : (q : ℕ) (b : Bool) → nat_eq q k ≡ b → get m q ≡ cond (nat_eq q k) (new q (get m q)) (get m q)
      go q true e = sym (ap (λ b. cond b (new q (get m q)) (get m q)) e ∙ (λ i. new (eqb-true q k e i) (get m (eqb-true q k e i))) ∙ h ∙ ap (get m) (sym (eqb-true q k e)))
      go q false e = sym (ap (λ b. cond b (new q (get m q)) (get m q)) e)

  -- two keys, one after the other
  pub change_both : (m : FinMap nat_cmp X) (k j : ℕ) (f g : Option X → Option X) (new : ℕ → Option X → Option X) → j ≡ k + 1 → new k (get m k) ≡ f (get m k) → new j (get m j) ≡ g (get m j) →
      change (change m k 1 (λ _. f)) j 1 (λ _. g) ≡ change m k 2 new
  change_both m k j f g new next hf hg =
      change_one (change m k 1 (λ _. f)) j (λ _. g)
      ∙ ap (λ o. set_at (change m k 1 (λ _. f)) j (g o)) (ap (λ n. get n j) (change_one m k (λ _. f)) ∙ get-set_at m k (f (get m k)) j ∙ cond-false (nat_eq j k) (f (get m k)) (get m j) (ne_eqb j k (λ e. omega (arith, next, e))))
      ∙ (λ i. set_at ((change_one m k (λ _. f) ∙ sym (change_one m k new ∙ ap (set_at m k) hf)) i) (next i) ((sym hg ∙ (λ i. new (next i) (get m (next i)))) i))
      ∙ sym (change_more m k 1 new)

min_swap : (n : ℕ) (xs : List ℕ) → take (min (length xs) n) xs ≡ take n xs
min_swap n xs = ap (λ k. take k xs) (swapped (length xs) n) ∙ take_min n xs
  where
    swapped : (a b : ℕ) → min a b ≡ min b a
    swapped a b = omega arith

module _ (a : Access) (some : 0 < a.len) (few : a.len ≤ 4096) (bytes : List ℕ) (long : length bytes ≡ a.len) where
  near : ℕ
  near = min (length bytes) (4096 - a.at % 4096)

  -- what falls into the first page
  pub stored_first : (start n : ℕ) → start ≡ a.at % 4096 → n ≡ min (length bytes) (4096 - start) → (c : Cell) → stored_at a.at bytes (first_page a) c ≡ overwritten start (take n bytes) c
  stored_first start n s m c = (λ i. overwritten (place i) (piece i) c)
    where
      place : a.at - 4096 * first_page a ≡ start
      place = omega (arith, s)

      from : 4096 * first_page a - a.at ≡ 0
      from = omega arith

      piece : take (4096 - (a.at - 4096 * first_page a)) (drop (4096 * first_page a - a.at) bytes) ≡ take n bytes
      piece = (λ i. take (4096 - place i) (drop (from i) bytes)) ∙ sym (min_swap (4096 - start) bytes) ∙ ap (λ k. take k bytes) (sym m)

  -- what falls into the last page, where that is the next
  pub stored_last : (start n : ℕ) → start ≡ a.at % 4096 → n ≡ min (length bytes) (4096 - start) → last_page a ≡ first_page a + 1 → (c : Cell) → stored_at a.at bytes (last_page a) c ≡ overwritten 0 (drop n bytes) c
  stored_last start n s m next c = (λ i. overwritten (place i) (piece i) c)
    where
      place : a.at - 4096 * last_page a ≡ 0
      place = omega (arith, next)

      from : 4096 * last_page a - a.at ≡ n
      from = omega (arith, next, s, m, long)

      piece : take (4096 - (a.at - 4096 * last_page a)) (drop (4096 * last_page a - a.at) bytes) ≡ drop n bytes
      piece = (λ i. take (4096 - place i) (drop (from i) bytes)) ∙ take_all 4096 (drop n bytes) (omega (arith, length-drop n bytes, long, few))

  module _ (cells : AddressSpace) (start n : ℕ) (s : start ≡ a.at % 4096) (m : n ≡ min (length bytes) (4096 - start)) where
    at : (c : Cell → Cell) (d : Cell → Cell) → ((x : Cell) → c x ≡ d x) → (o : Option Cell) → option_map c o ≡ option_map d o
    at c d h None = refl
    at c d h (Some x) = ap Some (h x)

    -- the bytes of one page
    pub stored_one : length (drop n bytes) ≡ 0 → change cells (first_page a) 1 (λ _. option_map (overwritten start (take n bytes))) ≡ change cells (first_page a) (page_count a) (λ page. option_map (stored_at a.at bytes page))
    stored_one none = go (one_or_two a some few)
      where
        go : ((last_page a ≡ first_page a) × (page_count a ≡ 1)) ⊎ ((last_page a ≡ first_page a + 1) × (page_count a ≡ 2)) →
            change cells (first_page a) 1 (λ _. option_map (overwritten start (take n bytes))) ≡ change cells (first_page a) (page_count a) (λ page. option_map (stored_at a.at bytes page))
        go (inl e) =
            change_one cells (first_page a) (λ _. option_map (overwritten start (take n bytes)))
            ∙ ap (set_at cells (first_page a)) (sym (at (stored_at a.at bytes (first_page a)) (overwritten start (take n bytes)) (stored_first start n s m) (get cells (first_page a))))
            ∙ sym (change_one cells (first_page a) (λ page. option_map (stored_at a.at bytes page)))
            ∙ ap (λ k. change cells (first_page a) k (λ page. option_map (stored_at a.at bytes page))) (sym e.1)
        go (inr e) = absurd (omega (arith, none, length-drop n bytes, s, m, long, e.0))

    -- and of two
    pub stored_two : 0 < length (drop n bytes) →
        change (change cells (first_page a) 1 (λ _. option_map (overwritten start (take n bytes)))) (last_page a) 1 (λ _. option_map (overwritten 0 (drop n bytes))) ≡ change cells (first_page a) (page_count a) (λ page. option_map (stored_at a.at bytes page))
    stored_two more = go (one_or_two a some few)
      where
        go : ((last_page a ≡ first_page a) × (page_count a ≡ 1)) ⊎ ((last_page a ≡ first_page a + 1) × (page_count a ≡ 2)) →
            change (change cells (first_page a) 1 (λ _. option_map (overwritten start (take n bytes)))) (last_page a) 1 (λ _. option_map (overwritten 0 (drop n bytes))) ≡ change cells (first_page a) (page_count a) (λ page. option_map (stored_at a.at bytes page))
        go (inl e) = absurd (omega (arith, more, length-drop n bytes, s, m, long, e.0))
        go (inr e) =
            change_both cells (first_page a) (last_page a) (option_map (overwritten start (take n bytes))) (option_map (overwritten 0 (drop n bytes))) (λ page. option_map (stored_at a.at bytes page)) e.0
            (at (stored_at a.at bytes (first_page a)) (overwritten start (take n bytes)) (stored_first start n s m) (get cells (first_page a)))
            (at (stored_at a.at bytes (last_page a)) (overwritten 0 (drop n bytes)) (stored_last start n s m e.0) (get cells (last_page a)))
            ∙ ap (λ k. change cells (first_page a) k (λ page. option_map (stored_at a.at bytes page))) (sym e.1)
