-- Calls that make, copy or remove a space, as held rows see them.
--     KnowsSpaces      rows of a state with the directory
--     user_count      how many user pages there are, from page 16 on
--     makes_space      whether a call makes, copies or removes a space
use Rattle.std.specs.Prelude.{ℕ, ◌-◌, ◌*◌, ◌^◌, Bool, true, false, List}
use Rattle.corten_base.specs.declared.calls.Call.{Call}
use Rattle.corten_base.specs.declared.calls.Call.TheVariants as call
use Rattle.page_map.specs.State.{State, IsConsistent}
use Rattle.table_place.specs.Place.{directory}
use Rattle.machine_plan.specs.Held.{ListHolds}
use Rattle.machine_plan.specs.HeldRows.{Row, RowsShown}

pub record KnowsSpaces (st : State) (rows : List Row) : Type 0 where
  pub consistent : IsConsistent st
  pub shown : RowsShown st rows
  pub top : ListHolds rows directory

abbrev pub user_count : ℕ → ℕ
user_count levels = 2 ^ (9 * levels - 1) - 17

abbrev pub makes_space : Call → Bool
makes_space call.Spawn = true
makes_space (call.Fork space) = true
makes_space (call.Exit space) = true
makes_space _ = false
