-- The pieces of a range that moves, as ranges in a row.
use Rattle.std.proofs.Common.{◌≡◌, ℕ, zero, suc, ◌+◌, ◌^◌, ◌<◌, ◌≤◌, List, [], ◌∷◌, ◌++◌, length, get_or, take, refl, ap, subst, ◌∙◌, arith}
use Rattle.std.specs.List.{Contains}
use Rattle.std.proofs.lemmas.List.{take_more}
use Rattle.page_map.specs.Cell.{AddressSpace}
use Rattle.page_map.specs.Cutting.{ArePieces}
use Rattle.plain_counts.specs.declared.cut.Pages.{Pages}
use Rattle.plain_counts.specs.Cut.{IsShort}
use Rattle.machine_plan.specs.declared.kit.Piece.{Piece}
use Rattle.machine_plan.specs.Moving.{piece_at}
use Rattle.held_needs.specs.Moved.{range_at, ranges_at}
use Rattle.held_needs.proofs.Trailing.{InRow}

module _ (to : ℕ) where
  pub pieces_in_row : (at end : ℕ) (cells : AddressSpace) (pieces : List Piece) → ArePieces (piece_at to) (λ p. p.count) cells at end pieces → InRow at (ranges_at to pieces)
  pieces_in_row at end cells [] h = tt
  pieces_in_row at end cells (p ∷ ps) h = (h.0.here, h.0.some, pieces_in_row (at + p.count) end cells ps h.1)

  pub row_taken : (at n : ℕ) (pieces : List Piece) → InRow at (ranges_at to pieces) → InRow at (ranges_at to (take n pieces))
  row_taken at zero pieces h = tt
  row_taken at (suc n) [] h = tt
  row_taken at (suc n) (p ∷ ps) h = (h.0, h.1, row_taken (at + p.count) n ps h.2)

  pub row_counts : (at : ℕ) (ds : List Pages) → InRow at ds → (d : Pages) → Contains ds d → 1 ≤ d.count
  row_counts at [] h d (k, inside, is) = absurd (omega (arith, inside))
  row_counts at (x ∷ xs) h d (zero, inside, is) = subst (λ (p : Pages). 1 ≤ p.count) is h.1
  row_counts at (x ∷ xs) h d (suc k, inside, is) = row_counts (at + x.count) xs h.2 d (k, omega (arith, inside), is)

  pub piece_short : (at end : ℕ) (cells : AddressSpace) (pieces : List Piece) → ArePieces (piece_at to) (λ p. p.count) cells at end pieces → end ≤ 2 ^ 45 → (p : Piece) → Contains pieces p → IsShort (range_at to p)
  piece_short at end cells [] h low p (k, inside, is) = absurd (omega (arith, inside))
  piece_short at end cells (x ∷ xs) h low p (zero, inside, is) = subst (λ q. IsShort (range_at to q)) is (record { some = omega (arith, h.0.some); fits = omega (arith, h.0.fits, h.0.here, low) })
  piece_short at end cells (x ∷ xs) h low p (suc k, inside, is) = piece_short (at + x.count) end cells xs h.1 low p (k, omega (arith, inside), is)

  pub range_among : (pieces : List Piece) (p : Piece) → Contains pieces p → Contains (ranges_at to pieces) (range_at to p)
  range_among [] p (k, inside, is) = absurd (omega (arith, inside))
  range_among (x ∷ xs) p (zero, inside, is) = (0, omega arith, ap (range_at to) is)
  range_among (x ∷ xs) p (suc k, inside, is) = let at = range_among xs p (k, omega (arith, inside), is) in (suc at.0, omega (arith, at.1), at.2)

  pub ranges_more : (pieces : List Piece) (k : ℕ) (p : Piece) → k < length pieces → ranges_at to (take (k + 1) pieces) ≡ ranges_at to (take k pieces) ++ range_at to (get_or pieces k p) ∷ []
  ranges_more pieces k p inside = ap (ranges_at to) (take_more pieces k p inside) ∙ mapped (take k pieces) (get_or pieces k p)
    where
      mapped : (xs : List Piece) (x : Piece) → ranges_at to (xs ++ x ∷ []) ≡ ranges_at to xs ++ range_at to x ∷ []
      mapped [] x = refl
      mapped (y ∷ ys) x = ap (λ rs. range_at to y ∷ rs) (mapped ys x)
