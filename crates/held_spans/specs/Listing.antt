-- The pieces of a call that moves a range.
--     is_high      a row of no space
--     IsKnown, IsKnownFor      a state of which the rows are, and in which they tell of each user page of a space;  of the space of a call
--     IsMoving      a range that moves, or none
--     IsLonger      a range that gets more pages
--     AnswersMoved      what is told of the range of a `remap`
--     AnswersPieces      what is told of a call
use Rattle.std.specs.Prelude.{◌≡◌, ℕ, ◌+◌, ◌^◌, ◌<◌, ◌≤◌, Bool, true, false, List, [], nat_le, Option, Some, None, IsNone, IsSome}
use Rattle.corten_base.specs.declared.calls.Call.{Call}
use Rattle.corten_base.specs.declared.calls.Call.TheVariants as call
use Rattle.page_map.specs.Remap.{resize_of, moves}
use Rattle.page_map.specs.State.{State, IsConsistent, levels, is_present, space_at}
use Rattle.machine_plan.specs.declared.kit.Piece.{Piece}
use Rattle.machine_plan.specs.HeldRows.{Row, RowsShown, AreOf}
use Rattle.machine_plan.specs.Moving.{HasPieces}
use Rattle.machine_plan.specs.Uses.{early_refusal}
use Rattle.held_spans.specs.declared.resizing.Resize.{Resize as Range}
use Rattle.held_spans.specs.Resizing.{AllAsked, range_of}

abbrev pub is_high : Row → Bool
is_high h = nat_le 6 h.place.level

pub record IsKnown (st : State) (space : ℕ) (rows : List Row) : Type 0 where
  pub consistent : IsConsistent st
  pub of_space : AreOf space rows
  pub shown : RowsShown st rows
  pub asked : is_present st space ≡ true → AllAsked (levels st) space rows

abbrev pub IsKnownFor : State → Call → List Row → Type 0
IsKnownFor st (call.Remap space at old_len new_len) rows = IsKnown st space rows
IsKnownFor st _ rows = Unit {0}

abbrev pub IsMoving : State → ℕ → ℕ → ℕ → ℕ → ℕ → Option Range → Type 0
IsMoving st thread space at old_len new_len None =
    early_refusal st thread (call.Remap space at old_len new_len) ≡ None → moves (levels st) (space_at st space) (resize_of at old_len new_len) ≡ false
IsMoving st thread space at old_len new_len (Some r) =
    (early_refusal st thread (call.Remap space at old_len new_len) ≡ None) × (moves (levels st) (space_at st space) (resize_of at old_len new_len) ≡ true) × (range_of r ≡ resize_of at old_len new_len)

-- a range that gets more pages, all of whose numbers are of 63 bits
pub record IsLonger (r : Range) : Type 0 where
  pub some : 1 ≤ r.old
  pub grows : r.old < r.new
  pub high : r.first + r.new < 2 ^ 63

-- They are asked of rows whose state is known later.
abbrev pub AnswersMoved : List Row → ℕ → ℕ → ℕ → ℕ → ℕ → Option Range → Type 0
AnswersMoved rows depth thread at old_len new_len answer =
    (space : ℕ) (st : State) → levels st ≡ depth → IsKnown st space rows → IsMoving st thread space at old_len new_len answer

abbrev pub AnswersPieces : List Row → ℕ → ℕ → Call → List Piece → Type 0
AnswersPieces rows depth thread c pieces =
    (st : State) → levels st ≡ depth → IsKnownFor st c rows
    → (IsNone (early_refusal st thread c) → HasPieces st thread c pieces) × (IsSome (early_refusal st thread c) → pieces ≡ [])
