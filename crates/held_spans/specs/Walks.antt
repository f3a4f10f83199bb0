-- What is told of the pages of a range, one span behind another.
--     is_such      whether a page has a cell, or has none
--     AnswersFirst      the least page of a range that is so
--     AnswersHole, AnswersMapped      the least page without a cell;  the least page with one
use Rattle.std.specs.Prelude.{◌≡◌, ℕ, Bool, true, false, List, Option, is_some, is_none}
use Rattle.page_map.specs.declared.cell.Cell.{Cell as PageCell}
use Rattle.page_map.specs.Change.{least}
use Rattle.page_map.specs.State.{State, cell_at}
use Rattle.machine_plan.specs.HeldRows.{Row, RowsShown, AreAsked}

abbrev pub is_such : Bool → Option PageCell → Bool
is_such true cell = is_some cell
is_such false cell = is_none cell

-- It is asked of rows whose state is known later.
abbrev pub AnswersFirst : List Row → ℕ → ℕ → Bool → Option ℕ → Type 0
AnswersFirst rows first count mapped answer =
    (space : ℕ) (st : State) → AreAsked space rows first count → RowsShown st rows → answer ≡ least first count (λ page. is_such mapped (cell_at st space page))

abbrev pub AnswersHole : List Row → ℕ → ℕ → Option ℕ → Type 0
AnswersHole rows first count answer =
    (space : ℕ) (st : State) → AreAsked space rows first count → RowsShown st rows → answer ≡ least first count (λ page. is_none (cell_at st space page))

abbrev pub AnswersMapped : List Row → ℕ → ℕ → Option ℕ → Type 0
AnswersMapped rows first count answer =
    (space : ℕ) (st : State) → AreAsked space rows first count → RowsShown st rows → answer ≡ least first count (λ page. is_some (cell_at st space page))
