-- What held rows tell of the page tables of a state, whichever the state is.
--     IsStateOf      a state that has these levels and the held rows' cells
--     TellsLowest      the level of the lowest table that is there above a page
--     EndsAsked      the rows tell of the first and the last page of each range
--     LacksBeside      how many missing tables a range cuts that no range before it cuts
--     LacksCut      how many missing tables ranges cut
use Rattle.std.specs.Prelude.{◌≡◌, ℕ, ◌+◌, List, [], ◌∷◌, ◌++◌}
use Rattle.std.specs.List.{Contains}
use Rattle.page_map.specs.State.{State, IsConsistent, levels}
use Rattle.page_map.specs.Tables.{need}
use Rattle.plain_counts.specs.declared.cut.Pages.{Pages}
use Rattle.plain_counts.specs.Cut.{cut_by_all}
use Rattle.machine_plan.specs.HeldRows.{Row, RowsShown, IsAsked}
use Rattle.held_needs.specs.Cutting.{IsLowest, last_of}

pub record IsStateOf (number : ℕ) (rows : List Row) (st : State) : Type 0 where
  pub consistent : IsConsistent st
  pub same_levels : levels st ≡ number
  pub shown : RowsShown st rows

abbrev pub TellsLowest : List Row → ℕ → ℕ → Type 0
TellsLowest rows page lowest = (levels space : ℕ) (st : State) → IsStateOf levels rows st → IsAsked space rows page → IsLowest levels space page st.tables lowest

abbrev pub EndsAsked : ℕ → List Row → List Pages → Type 0
EndsAsked space rows ranges = (r : Pages) → Contains ranges r → IsAsked space rows r.first × IsAsked space rows (last_of r)

abbrev pub LacksBeside : ℕ → List Row → List Pages → Pages → ℕ → Type 0
LacksBeside levels rows done r count = (space : ℕ) (st : State) → IsStateOf levels rows st → IsAsked space rows r.first → IsAsked space rows (last_of r)
    → need (cut_by_all levels space (done ++ r ∷ [])) st.tables ≡ need (cut_by_all levels space done) st.tables + count

abbrev pub LacksCut : ℕ → List Row → List Pages → ℕ → Type 0
LacksCut levels rows ranges count = (space : ℕ) (st : State) → IsStateOf levels rows st → EndsAsked space rows ranges → need (cut_by_all levels space ranges) st.tables ≡ count
