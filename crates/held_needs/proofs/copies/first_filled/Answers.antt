use Rattle.std.proofs.Common.{◌≡◌, ◌∙◌, ◌+◌, ℕ, zero, suc, Bool, true, false, cond, List, [], ◌∷◌, refl, sym, ap, inl, inr, arith}
use mathlib.Core.Bool.{true≢false}
use Rattle.std.proofs.lemmas.Bool.{cases_lt}
use Rattle.std.specs.Prelude.{slice_get}
use Rattle.std.proofs.lemmas.List.Sums.{sum_by-cons}
use Rattle.page_map.proofs.Owners.{same_some}
use Rattle.page_map.proofs.Steps.{not_none}
use Rattle.row_cells.specs.declared.Cell.{Cell}
use Rattle.row_cells.specs.declared.Cell.TheVariants.{Invalid, Table, Anon, File, Mapped, Swapped}
use Rattle.row_cells.specs.Cells.{is_used, used_count}
use Rattle.held_needs.specs.Copies.{is_filled, FilledAt}
use Rattle.held_needs.proofs.copies.first_filled.Goals as goal

filled_used : (c : Cell) → is_filled c ≡ true → is_used c ≡ true
filled_used Invalid e = absurd (true≢false (sym e))
filled_used Table e = refl
filled_used (Anon perm) e = refl
filled_used (File perm file index) e = refl
filled_used (Mapped perm origin frame) e = refl
filled_used (Swapped perm origin slot) e = refl

-- a row without a used cell has none
all_unused : (cells : List Cell) → used_count cells ≡ 0 → (i : ℕ) → FilledAt cells i → ⊥
all_unused [] none i filled = not_none (sym filled.1)
all_unused (x ∷ xs) none zero filled = here (is_used x) refl (sym (sum_by-cons (λ c. cond (is_used c) 1 0) x xs) ∙ none)
  where
    used : is_used x ≡ true
    used = ap is_used (same_some filled.1) ∙ filled_used filled.0 filled.2

    here : (b : Bool) → is_used x ≡ b → cond b 1 0 + used_count xs ≡ 0 → ⊥
    here true e h = omega (arith, h)
    here false e h = true≢false (sym used ∙ e)
all_unused (x ∷ xs) none (suc i) filled = all_unused xs (rest (cond (is_used x) 1 0) (used_count xs) (sym (sum_by-cons (λ c. cond (is_used c) 1 0) x xs) ∙ none)) i filled
  where
    rest : (a b : ℕ) → a + b ≡ 0 → b ≡ 0
    rest a b h = omega (arith, h)

pub returns-then-used-eq0 : goal.returns-then-used-eq0
returns-then-used-eq0 c =
    let none : used_count c.args.cells.now ≡ 0 = sym c.used.ensures.value ∙ c.if-used-eq0.true in
    record { few = omega arith; before = λ i less filled. all_unused c.args.cells.now none i filled; here = λ less. absurd (omega (arith, less)) }

pub loop-index-preserved : goal.loop-index-preserved
loop-index-preserved c = λ i less filled. elim (cases_lt i c.loop-index.index) [
  | inl before ↦ c.loop-index.invariant i before filled
  | inr behind ↦ (let here : i ≡ c.loop-index.index = omega (arith, less, behind) in
      let same = same_some (sym filled.1 ∙ ap (slice_get c.args.cells.now) here ∙ c.get.ensures) in
      true≢false (sym filled.2 ∙ ap is_filled same ∙ sym c.is_filled.ensures ∙ c.if-is_filled.false))
]

pub returns : goal.returns
returns c = record {
  few = omega arith;
  before = λ i less filled. c.loop-index.invariant i (omega (arith, less, c.loop-index-test.false)) filled;
  here = λ less. absurd (omega (arith, less));
}
