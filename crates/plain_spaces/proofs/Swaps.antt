-- Pages that move one by one to the numbers that they get.
use Rattle.std.proofs.Common.{◌≡◌, ℕ, ◌+◌, ◌-◌, ◌<◌, ◌≤◌, Bool, true, false, cond, List, ◌∷◌, refl, sym, ap, ◌∙◌, arith}
use Rattle.std.specs.Prelude.{Option, Some, None, IfSome}
use Rattle.std.specs.Option.{option_map}
use Rattle.std.specs.Ordering.{nat_cmp}
use Rattle.std.specs.Cmp.{unsigned_tied, nat_eq_equiv}
use Rattle.std.proofs.lemmas.Bool.{ne_eqb}
use Rattle.std.specs.FinMap.{get, find}
use Rattle.table_place.specs.Range.{within}
use Rattle.page_map.specs.declared.cell.Cell.{Cell}
use Rattle.page_map.specs.Change.{keys_in, change}
use Rattle.page_map.specs.State.{AddressSpace}
use Rattle.page_map.specs.Swap.{moved, moved_to}
use Rattle.page_map.specs.Takes.{Grant, grant, granted}
use Rattle.page_map.proofs.Range.{get-change, inside, change_none}
use Rattle.plain_spaces.proofs.Keys.{keys_past, keys_here, key_before, keys_alike}
use Rattle.plain_spaces.proofs.FirstPages.{change_alike, change_skip, change_front}

module _ (to : ℕ → Cell → Cell) where
  -- what is left to be done from a page on, where these numbers are unused
  unfoldable pub to_do : (Cell → Bool) → AddressSpace → ℕ → ℕ → List ℕ → AddressSpace
  to_do passes cells next end numbers = moved_to to (grant (keys_in cells next (end - next) passes) numbers) next (end - next) cells

  pub all_to_do : (passes : Cell → Bool) (cells : AddressSpace) (first count : ℕ) (numbers : List ℕ) →
      to_do passes cells first (first + count) numbers ≡ moved_to to (grant (keys_in cells first count passes) numbers) first count cells
  unfolding to_do
  all_to_do passes cells first count numbers =
      let all : first + count - first ≡ count = omega arith in
      ap (λ n. moved_to to (grant (keys_in cells first n passes) numbers) first n cells) all

  stays_put : (o : Option Cell) → option_map (moved to None) o ≡ o
  stays_put None = refl
  stays_put (Some c) = refl

  -- up to a page before which none moves
  pub to_do_next : (passes : Cell → Bool) (cells : AddressSpace) (next page end : ℕ) (numbers : List ℕ) → next ≤ page → page ≤ end → ((q : ℕ) → next ≤ q → q < page → IfSome (get cells q) (λ c. passes c ≡ false)) →
      to_do passes cells next end numbers ≡ to_do passes cells page end numbers
  unfolding to_do moved_to
  to_do_next passes cells next page end numbers low high quiet =
      let rest = keys_in cells page (end - page) passes in
      ap (λ ks. change cells next (end - next) (λ q. option_map (moved to (granted (grant ks numbers) q)))) (keys_past passes cells next page end low high quiet)
      ∙ change_skip cells (λ q. option_map (moved to (granted (grant rest numbers) q))) next page end low high
      (λ q a b. ap (λ n. option_map (moved to n) (get cells q)) (key_before passes cells page (end - page) q numbers b) ∙ stays_put (get cells q))

  -- a page that stays
  pub to_do_stays : (passes : Cell → Bool) (cells : AddressSpace) (page end : ℕ) (cell : Cell) (numbers : List ℕ) → page < end → get cells page ≡ Some cell → passes cell ≡ false →
      to_do passes cells page end numbers ≡ to_do passes cells (page + 1) end numbers
  unfolding to_do moved_to
  to_do_stays passes cells page end cell numbers high here quiet =
      let rest = keys_in cells (page + 1) (end - (page + 1)) passes in
      let keys : keys_in cells page (end - page) passes ≡ rest = keys_here passes cells page end cell high here ∙ ap (λ b. cond b (page ∷ rest) rest) quiet in
      ap (λ ks. change cells page (end - page) (λ q. option_map (moved to (granted (grant ks numbers) q)))) keys
      ∙ change_skip cells (λ q. option_map (moved to (granted (grant rest numbers) q))) page (page + 1) end (omega arith) (omega (arith, high))
      (λ q a b. let at : q ≡ page = omega (arith, a, b) in
      ap (λ n. option_map (moved to n) (get cells q)) (key_before passes cells (page + 1) (end - (page + 1)) q numbers b) ∙ stays_put (get cells q))

  -- a page that gets the next number
  pub to_do_moves : (passes passes' : Cell → Bool) (cells cells' : AddressSpace) (page end number : ℕ) (cell : Cell) (numbers : List ℕ) → page < end → get cells page ≡ Some cell → passes cell ≡ true →
      cells' ≡ change cells page 1 (λ _. option_map (to number)) → ((q : ℕ) (c : Cell) → page < q → get cells q ≡ Some c → passes' c ≡ passes c) →
      to_do passes cells page end (number ∷ numbers) ≡ to_do passes' cells' (page + 1) end numbers
  unfolding to_do moved_to
  to_do_moves passes passes' cells cells' page end number cell numbers high here moves is tests =
      let rest = keys_in cells (page + 1) (end - (page + 1)) passes in
      let after : Grant = (page, number) ∷ grant rest numbers in
      let step : Grant → ℕ → Option Cell → Option Cell = λ grants q. option_map (moved to (granted grants q)) in
      let keys : keys_in cells page (end - page) passes ≡ page ∷ rest = keys_here passes cells page end cell high here ∙ ap (λ b. cond b (page ∷ rest) rest) moves in
      let gets : granted after page ≡ Some number = ap (λ b. cond b (Some number) (find nat_cmp page (grant rest numbers))) (unsigned_tied page page ∙ nat_eq_equiv.refl page) in
      let first : change cells page 1 (step after) ≡ cells' =
      change_alike cells (step after) (λ _. option_map (to number)) page 1 (λ q a b.
      let at : q ≡ page = omega (arith, a, b) in ap (λ k. option_map (moved to (granted after k)) (get cells q)) at ∙ ap (λ n. option_map (moved to n) (get cells q)) gets)
      ∙ sym is in
      let same : (q : ℕ) → page < q → get cells' q ≡ get cells q = λ q after. ap (λ m. get m q) is ∙ get-change cells page 1 (λ _. option_map (to number)) q ∙ elsewhere q after in
      let others : rest ≡ keys_in cells' (page + 1) (end - (page + 1)) passes' =
      sym (keys_alike passes passes' cells cells' (page + 1) (end - (page + 1)) (λ k a b. same k (omega (arith, a))) (λ k x a b at. tests k x (omega (arith, a)) at)) in
      ap (λ ks. change cells page (end - page) (step (grant ks (number ∷ numbers)))) keys
      ∙ change_front cells (step after) page end high
      ∙ ap (λ m. change m (page + 1) (end - (page + 1)) (step after)) first
      ∙ change_alike cells' (step after) (step (grant rest numbers)) (page + 1) (end - (page + 1)) (λ q a b.
      ap (λ b. option_map (moved to (cond b (Some number) (find nat_cmp q (grant rest numbers)))) (get cells' q)) (unsigned_tied q page ∙ ne_eqb q page (λ e. omega (arith, e, a))))
      ∙ ap (λ ks. change cells' (page + 1) (end - (page + 1)) (step (grant ks numbers))) others
    where
      elsewhere : (q : ℕ) → page < q → cond (within page 1 q) (option_map (to number) (get cells q)) (get cells q) ≡ get cells q
      elsewhere q after = go (within page 1 q) refl
        where
          go : (b : Bool) → within page 1 q ≡ b → cond b (option_map (to number) (get cells q)) (get cells q) ≡ get cells q
          go false e = refl
          go true e = absurd (omega (arith, after, (inside page 1 q e).1))

  -- no page moves any more
  pub to_do_none : (passes : Cell → Bool) (cells : AddressSpace) (next end : ℕ) (numbers : List ℕ) → next ≤ end → ((q : ℕ) → next ≤ q → q < end → IfSome (get cells q) (λ c. passes c ≡ false)) →
      to_do passes cells next end numbers ≡ cells
  unfolding to_do moved_to
  to_do_none passes cells next end numbers low quiet =
      let nothing : end - end ≡ 0 = omega arith in
      let f : ℕ → ℕ → Option Cell → Option Cell = λ n q. option_map (moved to (granted (grant (keys_in cells end n passes) numbers) q)) in
      to_do_next passes cells next end end numbers low (omega arith) quiet
      ∙ ap (λ n. change cells end n (f n)) nothing
      ∙ change_none cells end (f 0)
