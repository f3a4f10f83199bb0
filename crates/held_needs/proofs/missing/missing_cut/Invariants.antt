use Rattle.std.proofs.Common.{◌≡◌, ℕ, ◌*◌, ◌≤◌, take}
use Rattle.page_map.specs.State.{State}
use Rattle.page_map.specs.Tables.{need}
use Rattle.plain_counts.specs.Cut.{cut_by_all}
use Rattle.held_needs.specs.Found.{IsStateOf, EndsAsked}
use Rattle.held_needs.proofs.missing.missing_cut.Given as goal

-- those that the ranges before this one cut are counted
abbrev pub invariant-loop-place : goal.invariant-loop-place
invariant-loop-place l = record {
  few : l.count ≤ 8 * l.place;
  so_far : (space : ℕ) (st : State) → IsStateOf l.levels l.held.rows st → EndsAsked space l.held.rows l.ranges → need (cut_by_all l.levels space (take l.place l.ranges)) st.tables ≡ l.count;
}
