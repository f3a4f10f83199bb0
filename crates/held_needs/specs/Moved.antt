-- The page tables that a range lacks that gets another length, or moves.
--     range_at, ranges_at      the pages of a piece at its new place;  those of several
--     resized      the pages by which a range that stays gets longer or shorter
--     StayLacks      how many missing tables these cut, and none where its length stays
--     MoveLacks      how many missing tables the old place of a range and its pieces at the new one cut
use Rattle.std.specs.Prelude.{◌≡◌, ℕ, ◌+◌, ◌-◌, ◌^◌, ◌≤◌, cond, nat_lt, List, [], ◌∷◌, map}
use Rattle.page_map.specs.Cell.{AddressSpace}
use Rattle.page_map.specs.Cutting.{ArePieces}
use Rattle.page_map.specs.State.{State}
use Rattle.page_map.specs.Tables.{need}
use Rattle.plain_counts.specs.declared.cut.Pages.{Pages}
use Rattle.plain_counts.specs.Cut.{IsShort, cut_by_all}
use Rattle.machine_plan.specs.declared.kit.Piece.{Piece}
use Rattle.machine_plan.specs.HeldRows.{Row}
use Rattle.machine_plan.specs.Moving.{piece_at}
use Rattle.held_needs.specs.Found.{IsStateOf, EndsAsked}

abbrev pub range_at : ℕ → Piece → Pages
range_at to piece = record { first = piece_at to piece; count = piece.count }

abbrev pub ranges_at : ℕ → List Piece → List Pages
ranges_at to pieces = map (range_at to) pieces

abbrev pub MoveLacks : ℕ → List Row → Pages → ℕ → List Piece → ℕ → Type 0
MoveLacks levels rows old to pieces count = (space end : ℕ) (st : State) (cells : AddressSpace) → IsStateOf levels rows st
    → ArePieces (piece_at to) (λ p. p.count) cells to end pieces → end ≤ 2 ^ 45 → EndsAsked space rows (old ∷ ranges_at to pieces)
    → need (cut_by_all levels space (old ∷ ranges_at to pieces)) st.tables ≡ count

abbrev pub resized : Pages → ℕ → Pages
resized old new = cond (nat_lt new old.count) (record { first = old.first + new; count = old.count - new }) (record { first = old.first + old.count; count = new - old.count })

pub record StayLacks (levels : ℕ) (rows : List Row) (old : Pages) (new count : ℕ) : Type 0 where
  pub other : (space : ℕ) (st : State) → IsStateOf levels rows st → IsShort (resized old new) → EndsAsked space rows (resized old new ∷ []) → need (cut_by_all levels space (resized old new ∷ [])) st.tables ≡ count
  pub same : new ≡ old.count → count ≡ 0
