-- Counts of a state.
--     owners_in      how many pages of a space carry a number
--     numbered      how many carry one of its kind
--     given_up      how many of its page tables a call gives up
use Rattle.std.specs.Prelude.{ℕ, is_some, Option}
use Rattle.std.specs.List.{count_by}
use Rattle.std.specs.FinMap.{values}
use Rattle.std.specs.FinSet.{len, retain}
use Rattle.corten_base.specs.declared.calls.Call.{Call}
use Rattle.page_map.specs.declared.cell.Cell.{Cell}
use Rattle.page_map.specs.State.{State, AddressSpace, carries}
use Rattle.page_map.specs.Effect.{is_given_up}

abbrev pub owners_in : (Cell → Option ℕ) → ℕ → AddressSpace → ℕ
owners_in number_of n cells = count_by (carries number_of n) (values cells)

abbrev pub numbered : (Cell → Option ℕ) → AddressSpace → ℕ
numbered number_of cells = count_by (λ cell. is_some (number_of cell)) (values cells)

abbrev pub given_up : State → Call → ℕ
given_up st c = len (retain st.tables (is_given_up st c))
