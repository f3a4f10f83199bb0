-- What a range that moves has at its new place, in pieces of pages that go on from one another.
--     piece_at      the first page of a piece at the new place
--     Tells      each page of a piece is what the piece says, but for its frame or slot
--     AreMoved      the pieces of a range at its new place, one behind another
--     HasPieces      the pieces of a call: those of a `remap` that moves its range, and else none
use Rattle.std.specs.Prelude.{◌≡◌, ℕ, ◌+◌, ◌<◌, true, false, List, [], Option, Some}
use Rattle.std.specs.Option.{option_map}
use Rattle.std.specs.List.{All}
use Rattle.std.specs.FinMap.{get}
use Rattle.corten_base.specs.declared.calls.Call.{Call}
use Rattle.corten_base.specs.declared.calls.Call.TheVariants as call
use Rattle.page_map.specs.Cell.{AddressSpace, backed, goes_on}
use Rattle.page_map.specs.Cutting.{ArePieces}
use Rattle.page_map.specs.Effect.{cells_after}
use Rattle.page_map.specs.Remap.{Resize, resize_of, moves, put_at}
use Rattle.page_map.specs.State.{State, levels, space_at}
use Rattle.machine_plan.specs.declared.kit.Piece.{Piece}

abbrev pub piece_at : ℕ → Piece → ℕ
piece_at to p = to + p.first

-- what goes on from a page no page further is what it was before it got its frame or slot
abbrev pub Tells : AddressSpace → ℕ → Piece → Type 0
Tells cells to p = (i : ℕ) → i < p.count → option_map (λ c. goes_on c 0) (get cells (piece_at to p + i)) ≡ Some (backed p.backing p.perm i)

pub record AreMoved (cells : AddressSpace) (to count : ℕ) (pieces : List Piece) : Type 0 where
  pub parts : ArePieces (piece_at to) (λ p. p.count) cells to (to + count) pieces
  pub each : All (Tells cells to) pieces

pub record HasMoved (st : State) (thread : ℕ) (c : Call) (cells : AddressSpace) (r : Resize) (pieces : List Piece) : Type 0 where
  pub moved : moves (levels st) cells r ≡ true → AreMoved (cells_after st thread c) (put_at (levels st) thread cells r) r.new pieces
  pub stayed : moves (levels st) cells r ≡ false → pieces ≡ []

abbrev pub HasPieces : State → ℕ → Call → List Piece → Type 0
HasPieces st thread (call.Remap space at old_len new_len) pieces = HasMoved st thread (call.Remap space at old_len new_len) (space_at st space) (resize_of at old_len new_len) pieces
HasPieces st thread c pieces = pieces ≡ []
