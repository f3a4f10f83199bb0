-- Pages that have frames or slots, gone over in their order.
--     numbers_found, numbers_ordered      their numbers are those of the held pages, in the same order
--     walk_begun      the walk from the first page on
--     walk_from, walk_there, walk_before      what the next page is
--     walk_more, walk_over      the pages behind it;  where none is left
use Rattle.std.proofs.Common.{◌≡◌, ℕ, ◌+◌, ◌<◌, ◌≤◌, Bool, true, false, cond, List, [], ◌∷◌, refl, sym, ap, ◌∙◌, arith}
use mathlib.Core.Logic.{inl, inr}
use Rattle.std.specs.Prelude.{Option, Some, None}
use Rattle.std.specs.Option.{option_map}
use Rattle.std.specs.List.{AllByRecursion}
use Rattle.std.specs.List.Sorted.{IsStrictlySortedBy}
use Rattle.std.specs.Map.{keys_of, lookup}
use Rattle.std.specs.BTreeMap.{is_at}
use Rattle.std.specs.Ordering.{nat_cmp}
use Rattle.std.specs.declared.cmp.Ordering.TheVariants.{Less}
use Rattle.std.specs.Cmp.{unsigned_tied}
use Rattle.std.proofs.lemmas.Bool.{cases_lt, eq-eqb, ne_eqb}
use Rattle.page_map.specs.State.{AddressSpace}
use Rattle.page_map.proofs.Steps.{not_none}
use Rattle.page_runs.specs.Spans.{Marks}
use Rattle.space_cells.specs.declared.held.Number.{Number}
use Rattle.space_cells.specs.declared.held.HeldPage.{HeldPage}
use Rattle.space_cells.specs.Cells.{cells_of, number_at, HaveMarks}
use Rattle.space_cells.specs.Held.{HeldPages}
use Rattle.space_cells.specs.Walking.{numbers_of, IsWalk}
use Rattle.space_cells.proofs.Seen.{number_seen}

abbrev at : {X : Type 0} → ℕ → List (ℕ × X) → Option X
at q es = lookup (is_at (nat_cmp q)) es

numbers_found : (es : List (ℕ × HeldPage)) (q : ℕ) → at q (numbers_of es) ≡ option_map (λ held. held.number) (at q es)
numbers_found [] q = refl
numbers_found (e ∷ es) q = go (is_at (nat_cmp q) e.0) (numbers_found es q)
  where
    go : (b : Bool) → at q (numbers_of es) ≡ option_map (λ held. held.number) (at q es) → cond b (Some e.1.number) (at q (numbers_of es)) ≡ option_map (λ held. held.number) (cond b (Some e.1) (at q es))
    go true rest = refl
    go false rest = rest

all_numbers : (k : ℕ) (es : List (ℕ × HeldPage)) → AllByRecursion (λ y. nat_cmp k y ≡ Less) (keys_of es) → AllByRecursion (λ y. nat_cmp k y ≡ Less) (keys_of (numbers_of es))
all_numbers k [] h = h
all_numbers k (e ∷ es) h = (h.0, all_numbers k es h.1)

numbers_ordered : (es : List (ℕ × HeldPage)) → IsStrictlySortedBy nat_cmp (keys_of es) → IsStrictlySortedBy nat_cmp (keys_of (numbers_of es))
unfolding IsStrictlySortedBy
numbers_ordered [] h = h
numbers_ordered (e ∷ es) h = (all_numbers e.0 es h.0, numbers_ordered es h.1)

pub walk_begun : (marks : Marks) (pages : HeldPages) → HaveMarks marks pages → IsStrictlySortedBy nat_cmp (keys_of pages.entries) → IsWalk (cells_of marks pages) 0 (numbers_of pages.entries)
walk_begun marks pages have ordered = record {
  ordered = numbers_ordered pages.entries ordered;
  low = λ q less. absurd (omega (arith, less));
  same = λ q from. numbers_found pages.entries q ∙ sym (number_seen marks pages have q);
}

-- a key that is not above the first one stands in no later entry
behind : {X : Type 0} (k q : ℕ) (es : List (ℕ × X)) → AllByRecursion (λ y. nat_cmp k y ≡ Less) (keys_of es) → q ≤ k → at q es ≡ None
behind k q [] h low = refl
behind k q (e ∷ es) h low =
    ap (λ b. cond b (Some e.1) (at q es)) (unsigned_tied q e.0 ∙ ne_eqb q e.0 (λ same. apart (less k e.0 h.0) same)) ∙ behind k q es h.1 low
  where
    less : (a b : ℕ) → nat_cmp a b ≡ Less → a < b
    less a b e = grind arith

    apart : k < e.0 → q ≡ e.0 → ⊥
    apart l same = omega (arith, l, same, low)

module _ (cells : AddressSpace) (next page : ℕ) (number : Number) (rest : List (ℕ × Number)) (walk : IsWalk cells next ((page, number) ∷ rest)) where
  here : at page ((page, number) ∷ rest) ≡ Some number
  here = ap (λ b. cond b (Some number) (at page rest)) (unsigned_tied page page ∙ eq-eqb page page refl)

  other : (q : ℕ) → (q ≡ page → ⊥) → at q ((page, number) ∷ rest) ≡ at q rest
  other q apart = ap (λ b. cond b (Some number) (at q rest)) (unsigned_tied q page ∙ ne_eqb q page apart)

  pub walk_from : next ≤ page
  walk_from = elim (cases_lt page next) [
    | inl before ↦ absurd (not_none (sym here ∙ walk.low page before))
    | inr after ↦ after
  ]

  pub walk_there : number_at cells page ≡ Some number
  walk_there = sym (walk.same page walk_from) ∙ here

  pub walk_before : (q : ℕ) → next ≤ q → q < page → number_at cells q ≡ None
  unfolding IsStrictlySortedBy
  walk_before q from before =
      sym (walk.same q from) ∙ other q (λ same. omega (arith, same, before)) ∙ behind page q rest walk.ordered.0 (omega (arith, before))

  pub walk_more : IsWalk cells (page + 1) rest
  unfolding IsStrictlySortedBy
  walk_more = record {
    ordered = walk.ordered.1;
    low = λ q less. behind page q rest walk.ordered.0 (omega (arith, less));
    same = λ q from. sym (other q (λ same. omega (arith, same, from))) ∙ walk.same q (omega (arith, from, walk_from));
  }

pub walk_over : (cells : AddressSpace) (next : ℕ) → IsWalk cells next [] → (q : ℕ) → next ≤ q → number_at cells q ≡ None
walk_over cells next walk q from = sym (walk.same q from)
