-- The state between a call's commit and the changes of its pages.
--     IsBetween      the tables are those after the call. Nothing stands below a table that it removed, a page whose reference was taken is what it came from, and any other page is as before
--     is_ranged      whether a call changes pages of one range where they stand
--     IsSteps      its changes lead from there to the state after it, and change each page whose reference was taken
--     RangedSteps      such a call's do
use Rattle.std.specs.Prelude.{◌≡◌, ◌≢◌, ℕ, ◌<◌, Bool, true, false, cond, Some, None}
use Rattle.std.specs.Option.{option_map}
use Rattle.corten_base.specs.declared.calls.Call.{Call}
use Rattle.corten_base.specs.declared.calls.Call.TheVariants as call
use Rattle.page_map.specs.Cell.{goes_on}
use Rattle.page_map.specs.Effect.{space_of, state_after}
use Rattle.page_map.specs.State.{State, IsConsistent, levels, cell_at}
use Rattle.page_map.specs.Step.{refusal}
use Rattle.table_place.specs.declared.Place.{Place}
use Rattle.table_place.specs.Place.{has_page}
use Rattle.machine_plan.specs.Given.{IsRemoved}
use Rattle.machine_plan.specs.Uses.{uses_page, changes_of}
use Rattle.cursor_apply.specs.Changed.{Steps, all_clean}

pub record IsBetween (old now st : State) (space : ℕ) (taken : ℕ → Bool) : Type 0 where
  pub same_levels : levels st ≡ levels now
  pub same_tables : st.tables ≡ now.tables
  pub others : (s page : ℕ) → s ≢ space → cell_at st s page ≡ cell_at now s page
  pub cut : (p : Place) (page : ℕ) → IsRemoved old now p → has_page p space page ≡ true → cell_at st space page ≡ None
  pub pages : (page : ℕ) → ((p : Place) → IsRemoved old now p → has_page p space page ≡ true → ⊥)
      → cell_at st space page ≡ cond (taken page) (option_map (λ c. goes_on c 0) (cell_at old space page)) (cell_at old space page)

abbrev pub is_ranged : Call → Bool
is_ranged (call.Map space where_to len perm what) = true
is_ranged (call.Unmap space at len) = true
is_ranged (call.Protect space at len perm) = true
is_ranged (call.DontNeed space at len) = true
is_ranged (call.Load space at len) = false
is_ranged (call.Store space at bytes) = false
is_ranged (call.Fault space at write) = false
is_ranged call.Spawn = false
is_ranged (call.Fork space) = false
is_ranged (call.Exit space) = false
is_ranged (call.SwapOut space at len) = false
is_ranged (call.SwapIn space at len) = false
is_ranged (call.Txn space at len ops) = false
is_ranged (call.Remap space at old_len new_len) = false

abbrev pub IsSteps : State → State → State → ℕ → ℕ → Call → Type 0
IsSteps old now st thread space c = Steps (changes_of old thread c) space st now × ((page : ℕ) → all_clean (changes_of old thread c) (uses_page old thread c space) page ≡ false)

abbrev pub RangedSteps : Type 0
RangedSteps = (old st : State) (thread limbo space : ℕ) (c : Call) → thread < 8 → is_ranged c ≡ true → space_of c ≡ Some space → IsConsistent old → IsConsistent (state_after old thread c)
    → refusal old thread c limbo ≡ None → IsBetween old (state_after old thread c) st space (uses_page old thread c space) → IsSteps old (state_after old thread c) st thread space c
