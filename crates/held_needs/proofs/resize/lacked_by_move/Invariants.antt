use Rattle.std.proofs.Common.{◌≡◌, ℕ, ◌+◌, ◌*◌, ◌^◌, ◌≤◌, [], ◌∷◌, take}
use Rattle.page_map.specs.Cell.{AddressSpace}
use Rattle.page_map.specs.Cutting.{ArePieces}
use Rattle.page_map.specs.State.{State}
use Rattle.page_map.specs.Tables.{need}
use Rattle.plain_counts.specs.Cut.{IsShort, cut_by_all}
use Rattle.machine_plan.specs.Moving.{piece_at}
use Rattle.held_needs.specs.Found.{IsStateOf, EndsAsked}
use Rattle.held_needs.specs.Moved.{ranges_at}
use Rattle.held_needs.proofs.Trailing.{last_before}
use Rattle.held_needs.proofs.resize.lacked_by_move.Given as goal

-- what the pieces before this one cut is counted
abbrev pub invariant-loop-piece : goal.invariant-loop-piece
invariant-loop-piece l = record {
  few : l.count ≤ 8 * l.piece-index + 8;
  done_is : l.done ≡ l.old ∷ last_before l.old (ranges_at l.to (take l.piece-index l.pieces)) ∷ [];
  short : IsShort (last_before l.old (ranges_at l.to (take l.piece-index l.pieces)));
  so_far : (space end : ℕ) (st : State) (cells : AddressSpace) → IsStateOf l.levels l.held.rows st → ArePieces (piece_at l.to) (λ p. p.count) cells l.to end l.pieces → end ≤ 2 ^ 45
      → EndsAsked space l.held.rows (l.old ∷ ranges_at l.to l.pieces) → need (cut_by_all l.levels space (l.old ∷ ranges_at l.to (take l.piece-index l.pieces))) st.tables ≡ l.count;
}
