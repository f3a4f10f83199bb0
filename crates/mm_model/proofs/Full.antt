-- Arenas stay full where no cell goes.
use Rattle.std.proofs.Common.{◌≡◌, ℕ, ◌+◌, ◌-◌, ◌*◌, ◌≤◌, ◌<◌, Bool, true, false, cond, List, replicate, Some, refl, sym, ap, subst, ◌∙◌, arith}
use mathlib.Core.Bool.{true≢false}
use Rattle.std.specs.Prelude.{Option, None, IsSome, nat_eq, nat_le, min}
use Rattle.std.specs.Option.{unwrap_or}
use Rattle.std.specs.FinMap as map
use Rattle.std.proofs.lemmas.List.{get_or-replicate}
use Rattle.std.proofs.lemmas.Bool.{eqb-true, eqb-false, leb-true}
use Rattle.table_place.specs.Range.{within}
use Rattle.page_map.specs.declared.cell.Cell.{Cell}
use Rattle.page_map.specs.Change.{change}
use Rattle.page_map.specs.State.{State, AddressSpace, space_at, cell_at}
use Rattle.page_map.specs.Tables.{Tables}
use Rattle.page_map.specs.Mapping.{arena_first}
use Rattle.page_map.proofs.Range.{get-change, inside}
use Rattle.page_map.proofs.Cells.{changed, cell_changed, spaces_changed}
use Rattle.plain_counts.specs.Fronts.{AreFull, IsFull, full_pages, full_before}

-- cells that come, and none that goes
pub still_full : (st next : State) (fronts : List ℕ) → ((s q : ℕ) → IsSome (cell_at st s q) → IsSome (cell_at next s q)) → AreFull st fronts → AreFull next fronts
still_full st next fronts stays full space thread known few =
    let before = full space thread known few in
    record { within = before.within; cells_there = λ q a b. stays space q (before.cells_there q a b) }

-- nothing is known at first
pub none_full : (st : State) → AreFull st (replicate 512 0)
none_full st space thread known few =
    let none : full_pages (replicate 512 0) space thread ≡ 0 = get_or-replicate 512 (8 * space + thread) 0 0 (omega (arith, known, few)) in
    subst (IsFull (space_at st space) thread) (sym none) (record { within = omega arith; cells_there = λ q a b. absurd (omega (arith, a, b)) })

-- the cells of one space change, and each page that had one has one
pub cells_stay : (st : State) (space : ℕ) (cells : AddressSpace) (tables : Tables) → ((q : ℕ) → IsSome (map.get (space_at st space) q) → IsSome (map.get cells q)) →
    (s q : ℕ) → IsSome (cell_at st s q) → IsSome (cell_at (changed st space cells tables) s q)
cells_stay st space cells tables stays s q there = go (nat_eq s space) refl
  where
    there_at : nat_eq s space ≡ true → IsSome (map.get (space_at st space) q)
    there_at e = subst (λ n. IsSome (cell_at st n q)) (eqb-true s space e) there

    go : (b : Bool) → nat_eq s space ≡ b → IsSome (cell_at (changed st space cells tables) s q)
    go true e = subst (λ o. IsSome o) (sym (cell_changed st space cells tables s q ∙ ap (λ b. cond b (map.get cells q) (cell_at st s q)) e)) (stays q (there_at e))
    go false e = subst (λ o. IsSome o) (sym (cell_changed st space cells tables s q ∙ ap (λ b. cond b (map.get cells q) (cell_at st s q)) e)) there

-- as in a range of pages that changes
pub change_stays : (cells : AddressSpace) (first count : ℕ) (new : ℕ → Option Cell → Option Cell) → ((q : ℕ) (c : Cell) → IsSome (new q (Some c))) →
    (q : ℕ) → IsSome (map.get cells q) → IsSome (map.get (change cells first count new) q)
change_stays cells first count new some q there = subst (λ o. IsSome o) (sym (get-change cells first count new q)) (go (within first count q) (map.get cells q) there)
  where
    go : (b : Bool) (o : Option Cell) → IsSome o → IsSome (cond b (new q o) o)
    go false o h = h
    go true (Some c) h = some q c
    go true None h = absurd (true≢false (sym h))

-- the pages of a range go: what stands before the range in an arena stays, or all of an arena after it
left : (cells : AddressSpace) (first count thread known : ℕ) → IsFull cells thread known → IsFull (change cells first count (λ _ _. None)) thread (full_before (arena_first thread) known first count)
left cells first count thread known full = go (nat_le (first + count) (arena_first thread)) refl
  where
    apart : (q : ℕ) → (first ≤ q → first + count ≤ q) → within first count q ≡ false
    apart q h = none (within first count q) refl
      where
        none : (b : Bool) → within first count q ≡ b → within first count q ≡ false
        none false e = e
        none true e = absurd (omega (arith, (inside first count q e).1, h (inside first count q e).0))

    there : (q : ℕ) → (first ≤ q → first + count ≤ q) → IsSome (map.get cells q) → IsSome (map.get (change cells first count (λ _ _. None)) q)
    there q h was = subst (λ o. IsSome o) (sym (get-change cells first count (λ _ _. None) q ∙ ap (λ b. cond b None (map.get cells q)) (apart q h))) was

    go : (b : Bool) → nat_le (first + count) (arena_first thread) ≡ b → IsFull (change cells first count (λ _ _. None)) thread (cond b known (min known (first - arena_first thread)))
    go true e = record {
      within = full.within;
      cells_there = λ q a b. there q (λ _. omega (arith, leb-true (first + count) (arena_first thread) e, a)) (full.cells_there q a b);
    }
    go false e = record {
      within = omega (arith, full.within);
      cells_there = λ q a b. there q (λ h. absurd (omega (arith, a, b, h))) (full.cells_there q a (omega (arith, b)));
    }

pub full_left : (st : State) (space first count : ℕ) (cells : AddressSpace) (tables : Tables) (fronts fronts' : List ℕ) → map.get st.spaces space ≡ Some cells → AreFull st fronts →
    ((t : ℕ) → t < 8 → full_pages fronts' space t ≡ full_before (arena_first t) (full_pages fronts space t) first count) →
    ((s t : ℕ) → (s ≡ space → ⊥) → t < 8 → full_pages fronts' s t ≡ full_pages fronts s t) →
    AreFull (changed st space (change cells first count (λ _ _. None)) tables) fronts'
full_left st space first count cells tables fronts fronts' here full known others s t small few = go (nat_eq s space) refl
  where
    new : AddressSpace
    new = change cells first count (λ _ _. None)

    next_at : (b : Bool) → nat_eq s space ≡ b → space_at (changed st space new tables) s ≡ cond b new (space_at st s)
    next_at b e = spaces_changed st space new tables s ∙ ap (λ b. cond b new (space_at st s)) e

    go : (b : Bool) → nat_eq s space ≡ b → IsFull (space_at (changed st space new tables) s) t (full_pages fronts' s t)
    go false e = subst (λ m. IsFull m t (full_pages fronts' s t)) (sym (next_at false e)) (subst (IsFull (space_at st s) t) (sym (others s t (eqb-false s space e) few)) (full s t small few))
    go true e =
        let same = eqb-true s space e in
        let was : space_at st s ≡ cells = ap (space_at st) same ∙ ap (λ o. unwrap_or o map.empty) here in
        let now : full_pages fronts' s t ≡ full_before (arena_first t) (full_pages fronts s t) first count =
        ap (λ k. full_pages fronts' k t) same ∙ known t few ∙ ap (λ k. full_before (arena_first t) (full_pages fronts k t) first count) (sym same) in
        subst (λ m. IsFull m t (full_pages fronts' s t)) (sym (next_at true e))
        (subst (IsFull new t) (sym now) (left cells first count t (full_pages fronts s t) (subst (λ m. IsFull m t (full_pages fronts s t)) was (full s t small few))))

-- the cells of a space that is present change, and each page that had one has one
pub full_stays : (st : State) (space : ℕ) (cells cells' : AddressSpace) (tables : Tables) (fronts : List ℕ) → map.get st.spaces space ≡ Some cells →
    ((q : ℕ) → IsSome (map.get cells q) → IsSome (map.get cells' q)) → AreFull st fronts → AreFull (changed st space cells' tables) fronts
full_stays st space cells cells' tables fronts here stays full =
    let cells_here : space_at st space ≡ cells = ap (λ o. unwrap_or o map.empty) here in
    still_full st (changed st space cells' tables) fronts (cells_stay st space cells' tables (λ q there. stays q (subst (λ old. IsSome (map.get old q)) cells_here there))) full
