-- Arenas are as full as is known after a range got another length: what it leaves is forgotten, and what it fills was free.
use Rattle.std.proofs.Common.{◌≡◌, ℕ, ◌+◌, ◌-◌, ◌<◌, Bool, true, false, cond, List, refl, sym, ap, subst, ◌∙◌}
use mathlib.Core.Bool.{true≢false}
use Rattle.std.specs.Prelude.{Option, Some, None, IsSome, is_some, nat_eq}
use Rattle.std.specs.FinMap as map
use Rattle.std.proofs.lemmas.Bool.{and_parts}
use Rattle.table_place.specs.Range.{within}
use Rattle.table_place.specs.Place.{is_user_range}
use Rattle.page_map.specs.declared.cell.Cell.{Cell}
use Rattle.page_map.specs.Change.{change}
use Rattle.page_map.specs.Mapping.{arena_first, is_free}
use Rattle.page_map.specs.Remap.{cell_for}
use Rattle.page_map.specs.State.{State, AddressSpace, cell_at}
use Rattle.page_map.specs.Tables.{Tables}
use Rattle.page_map.proofs.Cells.{changed, cell_changed}
use Rattle.page_map.proofs.Gaps.{gap_free}
use Rattle.page_map.proofs.GivenUp.{free_none}
use Rattle.page_map.proofs.Range.{change_none, get-change}
use Rattle.plain_counts.specs.Fronts.{AreFull, full_before, full_pages}
use Rattle.space_cells.specs.Moving.{moved}
use Rattle.plain_spaces.specs.Pieces.{left_of}
use Rattle.plain_spaces.specs.Resizing.{IsPlacing, grown, length_of, relocation}
use Rattle.plain_spaces.specs.declared.resizing.Placing.{Placing}
use Rattle.plain_spaces.specs.declared.resizing.Placing.TheVariants.{Shrinks, Grows, Moves}
use Rattle.plain_spaces.specs.declared.resizing.Resize.{Resize}
use Rattle.mm_model.specs.Remapping.{placed_cells}
use Rattle.mm_model.proofs.Full.{full_left, still_full}

-- pages that have cells keep them from one state of a space to another
stays_full : (st : State) (space : ℕ) (mid cells : AddressSpace) (tables : Tables) (fronts : List ℕ) → ((q : ℕ) → IsSome (map.get mid q) → IsSome (map.get cells q)) →
    AreFull (changed st space mid tables) fronts → AreFull (changed st space cells tables) fronts
stays_full st space mid cells tables fronts stays full =
    still_full (changed st space mid tables) (changed st space cells tables) fronts
    (λ s q there. subst (λ o. IsSome o) (sym (cell_changed st space cells tables s q)) (go s q (nat_eq s space) (subst (λ o. IsSome o) (cell_changed st space mid tables s q) there)))
    full
  where
    go : (s q : ℕ) (b : Bool) → IsSome (cond b (map.get mid q) (cell_at st s q)) → IsSome (cond b (map.get cells q) (cell_at st s q))
    go s q true h = stays q h
    go s q false h = h

-- as where only pages without cells are filled
filled_stays : (cells : AddressSpace) (first count : ℕ) (new : ℕ → Option Cell → Option Cell) → ((q : ℕ) → within first count q ≡ true → map.get cells q ≡ None) →
    (q : ℕ) → IsSome (map.get cells q) → IsSome (map.get (change cells first count new) q)
filled_stays cells first count new free q there = subst (λ o. IsSome o) (sym (get-change cells first count new q)) (go (within first count q) refl)
  where
    go : (b : Bool) → within first count q ≡ b → IsSome (cond b (new q (map.get cells q)) (map.get cells q))
    go false e = there
    go true e = absurd (true≢false (sym there ∙ ap (λ (o : Option Cell). is_some o) (free q e)))

-- a page without a cell has none after others lost theirs
still_none : (cells : AddressSpace) (first count q : ℕ) → map.get cells q ≡ None → map.get (change cells first count (λ _ _. None)) q ≡ None
still_none cells first count q none = get-change cells first count (λ _ _. None) q ∙ ap (cond (within first count q) None) none ∙ go (within first count q)
  where
    go : (b : Bool) → ◌≡◌ {A = Option Cell} (cond b None None) None
    go true = refl
    go false = refl

module _ (st : State) (L thread space : ℕ) (cells : AddressSpace) (here : map.get st.spaces space ≡ Some cells) (r : Resize) (tables : Tables) (fronts fronts' : List ℕ) (full : AreFull st fronts)
    (others : (s t : ℕ) → (s ≡ space → ⊥) → t < 8 → full_pages fronts' s t ≡ full_pages fronts s t) where
  abbrev Forgets : Placing → Type 0
  Forgets placing = (t : ℕ) → t < 8 → full_pages fronts' space t ≡ full_before (arena_first t) (full_pages fronts space t) (left_of r placing).first (left_of r placing).count

  moved_full : (to : ℕ) → IsPlacing L thread cells r (Moves to) → Forgets (Moves to) → AreFull (changed st space (moved (relocation r to) cells) tables) fronts'
  unfolding moved
  moved_full to is forgets =
      let left = change cells r.first r.old (λ _ _. None) in
      stays_full st space left (change left to r.new (λ page _. cell_for cells (length_of r) (page - to))) tables fronts'
      (filled_stays left to r.new (λ page _. cell_for cells (length_of r) (page - to)) (λ q w. still_none cells r.first r.old q (free_none cells to r.new q (gap_free thread cells r.new to is.1) w)))
      (full_left st space r.first r.old cells tables fronts fronts' here full forgets others)

  pub remap_full : (placing : Placing) → IsPlacing L thread cells r placing → Forgets placing → AreFull (changed st space (placed_cells r placing cells) tables) fronts'
  remap_full Shrinks is forgets = full_left st space (r.first + r.new) (r.old - r.new) cells tables fronts fronts' here full forgets others
  remap_full Grows is forgets =
      let free = (and_parts (is_user_range L (r.first + r.old) (r.new - r.old)) (is_free cells (r.first + r.old) (r.new - r.old)) is.1).1 in
      stays_full st space cells (grown (length_of r) cells) tables fronts'
      (filled_stays cells (r.first + r.old) (r.new - r.old) (λ page _. cell_for cells (length_of r) (page - r.first)) (λ q w. free_none cells (r.first + r.old) (r.new - r.old) q free w))
      (subst (λ m. AreFull (changed st space m tables) fronts') (change_none cells (r.first + r.new) (λ _ _. None))
      (full_left st space (r.first + r.new) 0 cells tables fronts fronts' here full forgets others))
  remap_full (Moves to) is forgets = moved_full to is forgets
