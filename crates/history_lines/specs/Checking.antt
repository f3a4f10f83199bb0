-- Whether a history is legal, and which of its lines is the first wrong one.
--     IsRight      an answered call whose reply is the step's
--     AreRight      accounts that are those of a state
--     IsLegalHistory      each reply is the step's, and the accounts are those of the state that the last one leaves
--     AreLegalLines      lines that are those of a legal history
--     IsFirstWrong      the first line that no legal history has behind the lines before it
--     IsVerdict      what is found of a history
use Rattle.std.specs.Prelude.{◌≡◌, ℕ, ◌+◌, ◌≤◌, List, [], ◌∷◌, ◌++◌, length}
use Rattle.corten_base.specs.declared.calls.Entry.{Entry}
use Rattle.corten_base.specs.declared.numbers.Accounts.{Accounts}
use Rattle.page_map.specs.State.{State, start, accounts, linked}
use Rattle.page_map.specs.History.{IsHistory, after, entry_step, limbo_of}
use Rattle.text_words.specs.Grammar.{Begins}
use Rattle.history_lines.specs.declared.history.History.{History}
use Rattle.history_lines.specs.declared.verdict.Verdict.{Verdict}
use Rattle.history_lines.specs.declared.verdict.Verdict.TheVariants.{Legal, Illegal}
use Rattle.history_lines.specs.HistoryText.{HasText, history_lines}

-- a call that shows how many page tables are in limbo is answered with these, and any other with none
abbrev pub IsRight : State → Entry → Type 0
IsRight st e = (linked st + limbo_of e.reply ≤ st.limits.tables) × (e.reply ≡ (entry_step st e).0)

-- as many page tables may be in limbo as there is room for
pub record AreRight (st : State) (a : Accounts) : Type 0 where
  pub counts : a ≡ accounts st a.limbo
  pub fits : linked st + a.limbo ≤ st.limits.tables

pub record IsLegalHistory (h : History) : Type 0 where
  pub entries : IsHistory h.limits h.shelf h.entries
  pub accounts : AreRight (after (start h.limits h.shelf) h.entries) h.accounts

pub record AreLegalLines (lines : List (List ℕ)) : Type 0 where
  pub history : History
  pub has_text : HasText history
  pub is_legal : IsLegalHistory history
  pub are : lines ≡ history_lines history

-- Counted from 1, n is the number of the first wrong line: some legal history begins with the lines before it, and none with these and that line.
pub record IsFirstWrong (lines : List (List ℕ)) (n : ℕ) : Type 0 where
  pub before : List (List ℕ)
  pub line : List ℕ
  pub rest : List (List ℕ)
  pub parted : lines ≡ before ++ line ∷ rest
  pub counted : n ≡ length before + 1
  pub begins : Begins AreLegalLines before
  pub wrong : ¬ (Begins AreLegalLines (before ++ line ∷ []))

abbrev pub IsVerdict : History → Verdict → Type 0
IsVerdict h (Legal n) = IsLegalHistory h × (n ≡ length h.entries)
IsVerdict h (Illegal line) = (¬ (IsLegalHistory h)) × IsFirstWrong (history_lines h) line
