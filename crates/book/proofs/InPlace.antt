-- A range that gets another length and stays where it is leaves no references.
use Rattle.std.proofs.Common.{◌≡◌, ℕ, ◌+◌, ◌-◌, ◌≤◌, Bool, true, false, cond, ◌||◌, sym, ap, ◌∙◌, arith}
use mathlib.Core.Bool.{true≢false}
use Rattle.std.specs.Prelude.{Option, Some, None, is_some, nat_lt}
use Rattle.std.specs.Option.{unwrap_or, option_map}
use Rattle.std.specs.FinMap as fin
use Rattle.std.proofs.lemmas.Bool.Decides.{nat_tests}
use Rattle.corten_base.specs.declared.permissions.Perm.{Perm}
use Rattle.corten_base.specs.declared.calls.Backing.{Backing}
use Rattle.table_place.specs.Range.{within}
use Rattle.table_place.proofs.Tables.{in_range}
use Rattle.page_map.specs.declared.cell.Cell.{Cell}
use Rattle.page_map.specs.Cell.{AddressSpace, backed, backing_of, perm_of, goes_on}
use Rattle.page_map.specs.Change.{change}
use Rattle.page_map.specs.Mapping.{gap}
use Rattle.page_map.specs.Remap.{Resize, moves, put_at, left_first, left_count, filled_first, filled_count, last_cell, cell_for, remapped}
use Rattle.page_map.proofs.Range.{get-change}

module _ (number_of : Cell → Option ℕ) (no_number : (what : Backing) (perm : Perm) (i : ℕ) → number_of (backed what perm i) ≡ None) (levels thread : ℕ) (r : Resize) (cells : AddressSpace) where
  at_page : (q : ℕ) → fin.get (remapped levels thread r cells) q
      ≡ cond (within (filled_first levels thread cells r) (filled_count levels cells r) q) (cell_for cells r (q - put_at levels thread cells r))
      (cond (within (left_first levels cells r) (left_count levels cells r) q) None (fin.get cells q))
  unfolding remapped
  at_page q =
      get-change (change cells (left_first levels cells r) (left_count levels cells r) (λ page _. None)) (filled_first levels thread cells r) (filled_count levels cells r) (λ page _. cell_for cells r (page - put_at levels thread cells r)) q
      ∙ ap (λ o. cond (within (filled_first levels thread cells r) (filled_count levels cells r) q) (cell_for cells r (q - put_at levels thread cells r)) o) (get-change cells (left_first levels cells r) (left_count levels cells r) (λ page _. None) q)

  module _ (stays : moves levels cells r ≡ false) where
    behind : (q : ℕ) → within (filled_first levels thread cells r) (filled_count levels cells r) q ≡ true → nat_lt (q - put_at levels thread cells r) r.old ≡ false
    behind q inside =
        let put : put_at levels thread cells r ≡ r.first = ap (λ b. cond b (unwrap_or (gap thread cells r.new) 0) r.first) stays in
        let from : filled_first levels thread cells r ≡ r.first + r.old = ap (λ b. cond b (put_at levels thread cells r) (r.first + r.old)) stays in
        past (put_at levels thread cells r) (filled_first levels thread cells r) r.first r.old put from (in_range (filled_first levels thread cells r) (filled_count levels cells r) q inside).0
      where
        no_less : {a b : ℕ} → b ≤ a → nat_lt a b ≡ false
        no_less l = grind (arith, nat_tests, l)

        past : (p f first old : ℕ) → p ≡ first → f ≡ first + old → f ≤ q → nat_lt (q - p) old ≡ false
        past p f first old a b c = no_less (omega (arith, a, b, c))

    -- neither a page that it gives up nor one that it fills has a number
    pub none_in_place : (q : ℕ) (x : Cell) → (within (left_first levels cells r) (left_count levels cells r) q || within (filled_first levels thread cells r) (filled_count levels cells r) q) ≡ true →
        fin.get (remapped levels thread r cells) q ≡ Some x → number_of x ≡ None
    none_in_place q x named found =
        go (within (left_first levels cells r) (left_count levels cells r) q) (within (filled_first levels thread cells r) (filled_count levels cells r) q) refl_of named (sym (at_page q) ∙ found)
      where
        refl_of : within (filled_first levels thread cells r) (filled_count levels cells r) q ≡ within (filled_first levels thread cells r) (filled_count levels cells r) q
        refl_of = λ i. within (filled_first levels thread cells r) (filled_count levels cells r) q

        gone_on : (o : Option Cell) (i : ℕ) → option_map (λ last. goes_on last i) o ≡ Some x → number_of x ≡ None
        gone_on None i e = absurd (true≢false (sym (ap is_some e)))
        gone_on (Some y) i e = same e (no_number (backing_of y) (perm_of y) i)
          where
            same : {a b : Cell} → Some a ≡ Some b → number_of a ≡ None → number_of b ≡ None
            same {a} {b} e h = ap (λ o. Rattle.std.specs.Option.option_map_or number_of o None) (sym e) ∙ h

        go : (a b : Bool) → within (filled_first levels thread cells r) (filled_count levels cells r) q ≡ b → (a || b) ≡ true → cond b (cell_for cells r (q - put_at levels thread cells r)) (cond a None (fin.get cells q)) ≡ Some x → number_of x ≡ None
        go a true inside u e =
            let i : ℕ = q - put_at levels thread cells r in
            gone_on (last_cell cells r) (i + 1 - r.old) (sym (ap (λ b. cond b (fin.get cells (r.first + i)) (option_map (λ last. goes_on last (i + 1 - r.old)) (last_cell cells r))) (behind q inside)) ∙ e)
        go true false inside u e = absurd (true≢false (sym (ap is_some e)))
        go false false inside u e = absurd (true≢false (sym u))
