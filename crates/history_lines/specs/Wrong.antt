-- What is wrong with a history, before its lines are counted.
--     IsWrongAt      the first answered call whose reply is not the step's
--     AreTablesRight      the account line of page tables is that of a state
--     WrongAccount      the first account line that is not that of a state
use Rattle.std.specs.Prelude.{◌≡◌, ◌≢◌, ℕ, ◌+◌, ◌≤◌, List, ◌∷◌, ◌++◌, length}
use Rattle.corten_base.specs.declared.calls.Entry.{Entry}
use Rattle.corten_base.specs.declared.numbers.Accounts.{Accounts}
use Rattle.page_map.specs.State.{State, accounts, linked}
use Rattle.page_map.specs.History.{IsLegal, after}
use Rattle.history_lines.specs.Accounting.{frames_counts, swap_counts}
use Rattle.history_lines.specs.Checking.{IsRight}

-- behind i legal entries
pub record IsWrongAt (st : State) (entries : List Entry) (i : ℕ) : Type 0 where
  pub before : List Entry
  pub entry : Entry
  pub rest : List Entry
  pub parted : entries ≡ before ++ entry ∷ rest
  pub counted : i ≡ length before
  pub legal : IsLegal st before
  pub wrong : ¬ (IsRight (after st before) entry)

-- the line of page tables is right where the tables and the linked ones are, and as many are in limbo as there is room for
pub record AreTablesRight (st : State) (a : Accounts) : Type 0 where
  pub tables : a.tables ≡ st.limits.tables
  pub linked_tables : a.linked ≡ linked st
  pub fits : linked st + a.limbo ≤ st.limits.tables

-- behind i right lines
pub data WrongAccount (st : State) (a : Accounts) (i : ℕ) : Type 0 where
  frames : i ≡ 0 → frames_counts a ≢ frames_counts (accounts st 0) → WrongAccount st a i
  swap : i ≡ 1 → frames_counts a ≡ frames_counts (accounts st 0) → swap_counts a ≢ swap_counts (accounts st 0) → WrongAccount st a i
  tables : i ≡ 2 → frames_counts a ≡ frames_counts (accounts st 0) → swap_counts a ≡ swap_counts (accounts st 0) → ¬ (AreTablesRight st a) → WrongAccount st a i
