-- The next page of a range that has a frame or a slot.
use Rattle.std.proofs.Common.{◌≡◌, ℕ, zero, suc, ◌+◌, ◌-◌, ◌^◌, ◌<◌, ◌≤◌, false, List, ◌∷◌, refl, sym, ap, ◌∙◌, arith}
use mathlib.Core.Logic.{inl, inr}
use Rattle.std.specs.Prelude.{Option, Some, None, IfSome}
use Rattle.std.specs.Option.{option_map, option_map_or, option_and_then}
use Rattle.std.proofs.lemmas.Bool.{cases_eq}
use Rattle.std.specs.FinMap.{get}
use Rattle.page_map.specs.declared.cell.Cell.{Cell}
use Rattle.page_map.specs.Change.{earliest}
use Rattle.page_map.specs.State.{AddressSpace}
use Rattle.page_map.proofs.Least.{unanswered}
use Rattle.page_map.proofs.Owners.{same_some}
use Rattle.page_map.proofs.Steps.{not_none}
use Rattle.plain_counts.specs.declared.counts.Counts.{Counts}
use Rattle.space_cells.specs.declared.held.Number.{Number}
use Rattle.space_cells.specs.Cells.{number_of, number_at, numbered_page}
use Rattle.space_cells.specs.Walking.{IsWalk}
use Rattle.space_cells.proofs.Walking.{walk_from, walk_there, walk_before}
use Rattle.plain_spaces.specs.Copies.{AreLow}
use Rattle.plain_spaces.specs.declared.swap.Move.{Move}
use Rattle.plain_spaces.specs.Swapping.{moves, passes}

module _ {B : Type 0} (answer : ℕ → Option B) where
  abbrev IsFirst : ℕ → ℕ → B → ℕ → Type 0
  IsFirst first n b m = (first ≤ m) × (m < first + n) × (answer m ≡ Some b) × ((q : ℕ) → first ≤ q → q < m → answer q ≡ None)

  step : (first n : ℕ) (b : B) → (earliest (first + 1) n answer ≡ Some b → (m : ℕ) × IsFirst (first + 1) n b m) → (o : Option B) → answer first ≡ o →
      ◌≡◌ {A = Option B} (elim o [ Some b ↦ Some b | None ↦ earliest (first + 1) n answer ]) (Some b) → (m : ℕ) × IsFirst first (suc n) b m
  step first n b rest (Some c) is e = (first, (omega arith, omega arith, is ∙ e, λ q low high. absurd (omega (arith, low, high))))
  step first n b rest None is e =
      let found = rest e in (
        found.0,
        (
          omega (arith, found.1.0),
          omega (arith, found.1.1),
          found.1.2,
          λ q low high. elim (cases_eq q first) [
            | inl same ↦ ap answer same ∙ is
            | inr other ↦ found.1.3 q (later q first low other) high
          ],
        ),
      )
    where
      later : (q first : ℕ) → first ≤ q → (q ≡ first → ⊥) → first + 1 ≤ q
      later q first low other = omega arith

  first_answer : (first n : ℕ) (b : B) → earliest first n answer ≡ Some b → (m : ℕ) × IsFirst first n b m
  unfolding earliest
  first_answer first zero b e = absurd (not_none (sym e))
  first_answer first (suc n) b e = step first n b (first_answer (first + 1) n b) (answer first) refl e

-- a page and its number, and none before it from a page on
pub record IsNextHeld (cells : AddressSpace) (next end page : ℕ) (number : Number) : Type 0 where
  pub low : next ≤ page
  pub high : page < end
  pub there : number_at cells page ≡ Some number
  pub before : (q : ℕ) → next ≤ q → q < page → number_at cells q ≡ None

none_found : (cells : AddressSpace) (q : ℕ) → numbered_page cells q ≡ None → number_at cells q ≡ None
none_found cells q e = go (number_at cells q) e
  where
    go : (o : Option Number) → ◌≡◌ {A = Option (ℕ × Number)} (option_map (λ number. (q, number)) o) None → o ≡ None
    go None e = refl
    go (Some n) e = absurd (not_none e)

pub is_next_held : (cells : AddressSpace) (next end page : ℕ) (number : Number) → next ≤ end → Some (page, number) ≡ earliest next (end - next) (numbered_page cells) → IsNextHeld cells next end page number
is_next_held cells next end page number room e =
    let at = first_answer (numbered_page cells) next (end - next) (page, number) (sym e) in
    let both = go (number_at cells at.0) refl at.1.2 in
    record {
      low = omega (arith, at.1.0, both.0);
      high = omega (arith, at.1.1, both.0, room, at.1.0);
      there = ap (number_at cells) (sym both.0) ∙ both.1;
      before = λ q a b. none_found cells q (at.1.3 q a (omega (arith, b, both.0)));
    }
  where
    go : {m : ℕ} (o : Option Number) → number_at cells m ≡ o → ◌≡◌ {A = Option (ℕ × Number)} (option_map (λ number. (m, number)) o) (Some (page, number)) → (m ≡ page) × (number_at cells m ≡ Some number)
    go None is e = absurd (not_none (sym e))
    go (Some n) is e = let same = same_some e in (ap (λ p. p.0) same, is ∙ ap (λ p. Some p.1) same)

pub no_next_held : (cells : AddressSpace) (next end : ℕ) → None ≡ earliest next (end - next) (numbered_page cells) → (q : ℕ) → next ≤ q → q < end → number_at cells q ≡ None
no_next_held cells next end e q a b = none_found cells q (unanswered (numbered_page cells) next (end - next) (sym e) q a (omega (arith, a, b)))

-- a page without a number doesn't move
pub quiet_at : (way : Move) (counts : Counts) (cells : AddressSpace) (q : ℕ) → number_at cells q ≡ None → IfSome (get cells q) (λ c. passes way counts c ≡ false)
quiet_at way counts cells q none = go (get cells q) none
  where
    go : (o : Option Cell) → option_and_then number_of o ≡ None → IfSome o (λ c. passes way counts c ≡ false)
    go None e = tt
    go (Some c) e = ap (λ n. option_map_or (moves way counts) n false) e

-- the cell of a page with a number
pub cell_at : (cells : AddressSpace) (page : ℕ) (number : Number) → number_at cells page ≡ Some number → (cell : Cell) × ((get cells page ≡ Some cell) × (number_of cell ≡ Some number))
cell_at cells page number there = go (get cells page) refl there
  where
    go : (o : Option Cell) → get cells page ≡ o → option_and_then number_of o ≡ Some number → (cell : Cell) × ((get cells page ≡ Some cell) × (number_of cell ≡ Some number))
    go None here e = absurd (not_none (sym e))
    go (Some cell) here e = (cell, (here, e))

-- the next page of a walk over all pages
pub walked : (cells : AddressSpace) → AreLow cells → (next page : ℕ) (number : Number) (rest : List (ℕ × Number)) → IsWalk cells next ((page, number) ∷ rest) → IsNextHeld cells next (2 ^ 44) page number
walked cells low next page number rest walk =
    let there = walk_there cells next page number rest walk in
    let here = cell_at cells page number there in
    record {
      low = walk_from cells next page number rest walk;
      high = low page here.0 here.1.0;
      there = there;
      before = walk_before cells next page number rest walk;
    }
