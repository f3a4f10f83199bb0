-- Where a range of pages goes that is to have another number of pages.
--     range_of      the same range in the words of the page map
--     AllAsked      each user page of a space lies below an entry of the rows that is no link
--     AnswersRoom, AnswersFar      whether there is room behind it;  whether its last page would be too far in its file
--     IsPlaced      where it goes, or that it has no place
--     MovesLonger      a range that moves gets more pages
--     AnswersPlacing      what is told of it
use Rattle.std.specs.Prelude.{◌≡◌, ℕ, ◌+◌, ◌-◌, ◌<◌, Bool, true, false, List, Option, Some, None}
use Rattle.page_map.specs.Cell.{AddressSpace}
use Rattle.page_map.specs.Mapping.{gap}
use Rattle.page_map.specs.Remap.{Resize, has_room, is_too_far, moves, lacks_room}
use Rattle.page_map.specs.State.{State, space_at}
use Rattle.table_place.specs.Place.{is_user_page}
use Rattle.machine_plan.specs.HeldRows.{Row, RowsShown, IsAsked}
use Rattle.held_spans.specs.declared.resizing.Resize.{Resize as Range}
use Rattle.held_spans.specs.declared.resizing.Placing.{Placing}
use Rattle.held_spans.specs.declared.resizing.Placing.TheVariants.{Stays, Moves}

abbrev pub range_of : Range → Resize
range_of r = record { first = r.first; old = r.old; new = r.new }

abbrev pub AllAsked : ℕ → ℕ → List Row → Type 0
AllAsked levels space rows = (page : ℕ) → is_user_page levels page ≡ true → IsAsked space rows page

-- They are asked of rows whose state is known later.
abbrev pub AnswersRoom : List Row → ℕ → Range → Bool → Type 0
AnswersRoom rows levels r answer = (space : ℕ) (st : State) → AllAsked levels space rows → RowsShown st rows → answer ≡ has_room levels (space_at st space) (range_of r)

abbrev pub AnswersFar : List Row → Range → Bool → Type 0
AnswersFar rows r answer =
    (space : ℕ) (st : State) → IsAsked space rows (r.first + r.old - 1) → RowsShown st rows → answer ≡ is_too_far (space_at st space) (range_of r)

abbrev pub IsPlaced : ℕ → ℕ → AddressSpace → Resize → Option Placing → Type 0
IsPlaced levels thread cells r None = lacks_room levels thread cells r ≡ true
IsPlaced levels thread cells r (Some Stays) = (lacks_room levels thread cells r ≡ false) × (moves levels cells r ≡ false)
IsPlaced levels thread cells r (Some (Moves to)) = (lacks_room levels thread cells r ≡ false) × (moves levels cells r ≡ true) × (gap thread cells r.new ≡ Some to)

-- what moves gets more pages
abbrev pub MovesLonger : Range → Placing → Type 0
MovesLonger r Stays = Unit {0}
MovesLonger r (Moves to) = r.old < r.new

abbrev pub AnswersPlacing : List Row → ℕ → ℕ → Range → Option Placing → Type 0
AnswersPlacing rows levels thread r answer =
    (space : ℕ) (st : State) → AllAsked levels space rows → is_user_page levels (r.first + r.old - 1) ≡ true → RowsShown st rows → IsPlaced levels thread (space_at st space) (range_of r) answer
