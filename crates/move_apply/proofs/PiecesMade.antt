-- The pieces of a range that moves, one after another.
--     piece_is      the change of a piece, by its range
--     pieces_long, piece_left      as many changes as pieces;  the next of them
use Rattle.std.specs.Prelude.{◌≡◌, ℕ, zero, suc, ◌+◌, ◌*◌, ◌/◌, ◌<◌, List, [], ◌∷◌, drop, length, slice_index_or, Some}
use Rattle.std.proofs.Common.{sym, refl, ◌∙◌, ap, subst, arith}
use Rattle.machine_plan.specs.declared.kit.Change.{Change}
use Rattle.machine_plan.specs.declared.kit.Piece.{Piece}
use Rattle.cursor_apply.specs.declared.becoming.Making.TheVariants.{Back}
use Rattle.cursor_apply.specs.Changed.{range_change}
use Rattle.move_apply.specs.Pieces.{piece_range, piece_change, pieces_changes}
use Rattle.cursor_apply.proofs.StepsMade.{next_left}

pub piece_is : (to : ℕ) (p : Piece) → range_change (piece_change to p) ≡ Some (piece_range to p)
piece_is to p = λ i. Some (record { making = Back p.perm p.backing; first = begins (to + p.first) i; count = lasts p.count i })
  where
    begins : (n : ℕ) → 4096 * n / 4096 ≡ n
    begins n = omega arith

    lasts : (n : ℕ) → (4096 * n + 4095) / 4096 ≡ n
    lasts n = omega arith

pub pieces_long : (to : ℕ) (pieces : List Piece) → length (pieces_changes to pieces) ≡ length pieces
pieces_long to [] = refl
pieces_long to (p ∷ ps) = ap suc (pieces_long to ps)

piece_there : (to : ℕ) (pieces : List Piece) (i : ℕ) (d : Piece) → slice_index_or (pieces_changes to pieces) i (piece_change to d) ≡ piece_change to (slice_index_or pieces i d)
piece_there to [] i d = refl
piece_there to (p ∷ ps) zero d = refl
piece_there to (p ∷ ps) (suc i) d = piece_there to ps i d

pub piece_left : (to : ℕ) (pieces : List Piece) (i : ℕ) (d : Piece) → i < length pieces
    → drop i (pieces_changes to pieces) ≡ piece_change to (slice_index_or pieces i d) ∷ drop (i + 1) (pieces_changes to pieces)
piece_left to pieces i d inside =
    next_left (pieces_changes to pieces) i (piece_change to d) (subst (λ n. i < n) (sym (pieces_long to pieces)) inside)
    ∙ ap (λ (c : Change). c ∷ drop (i + 1) (pieces_changes to pieces)) (piece_there to pieces i d)
