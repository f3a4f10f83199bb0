-- History texts.
--     answer_words, answer_line, entry_line      an answered call's words, and its line
--     lines_of      the lines of entries
--     head_of      the version and the limits of a history
--     history_lines, history_text      the lines of a history, and its text
--     first_entry      the number of the line of the first answered call
--     IsAsked      the bounds of an answered call, whatever its reply
--     IsEntry      the bounds of an answered call that has a line
--     since, IsEntryOf      the first version that has a call's line, and the answered calls that have a line in a version
--     HasText      the bounds of a history that has a text
--     IsHistoryText      bytes that are the text of a history
--     AreHistoryLines      the grammar: lines that are those of some history
--     IsFirstFault      the first line outside the grammar
use Rattle.std.specs.Prelude.{◌≡◌, ℕ, ◌+◌, ◌≤◌, List, ◌∷◌, ◌++◌, length, map, codes, All}
use Rattle.text_words.specs.Spelling.{number}
use Rattle.text_words.specs.Layout.{joined, text}
use Rattle.text_words.specs.Grammar as grammar
use Rattle.corten_base.specs.declared.calls.Call.{Call}
use Rattle.corten_base.specs.declared.calls.Call.TheVariants as call
use Rattle.corten_base.specs.declared.calls.Reply.{Reply}
use Rattle.corten_base.specs.declared.calls.Entry.{Entry}
use Rattle.mm_script.specs.CallLine.{call_words, IsCall, IsWithin}
use Rattle.mm_script.specs.ScriptText.{AreFiles}
use Rattle.history_lines.specs.declared.header.Header.{Header}
use Rattle.history_lines.specs.declared.history.History.{History}
use Rattle.history_lines.specs.Replies.{reply_words, IsReply}
use Rattle.history_lines.specs.Accounting.{levels_lines, header_lines, account_lines, IsHeader, AreAccounts}

-- the thread, the call, and the reply behind `=`
abbrev pub answer_words : ℕ → Call → Reply → List (List ℕ)
answer_words thread c reply = number thread ∷ (call_words c ++ codes "=" ∷ reply_words reply)

abbrev pub answer_line : ℕ → Call → Reply → List ℕ
answer_line thread c reply = joined (answer_words thread c reply)

abbrev pub entry_words : Entry → List (List ℕ)
entry_words e = answer_words e.thread e.call e.reply

abbrev pub entry_line : Entry → List ℕ
entry_line e = joined (entry_words e)

-- the lines of entries, as text
abbrev pub lines_of : List Entry → List ℕ
lines_of entries = text (map entry_line entries)

abbrev pub head_of : History → Header
head_of h = record { version = h.version; limits = h.limits }

abbrev pub history_lines : History → List (List ℕ)
history_lines h = header_lines (head_of h) h.shelf ++ (map entry_line h.entries ++ account_lines h.accounts)

abbrev pub history_text : History → List ℕ
history_text h = text (history_lines h)

-- lines count from 1, and five levels have a line of their own
abbrev pub first_entry : History → ℕ
first_entry h = 5 + length (levels_lines h.limits.levels) + length h.shelf

-- the thread and the call are within their bounds, whatever the reply
pub record IsAsked (e : Entry) : Type 0 where
  pub thread : IsWithin 0 7 e.thread
  pub call : IsCall e.call

-- threads are numbered from 0 to 7
pub record IsEntry (e : Entry) : Type 0 where
  pub thread : IsWithin 0 7 e.thread
  pub call : IsCall e.call
  pub reply : IsReply e.reply

abbrev pub since : Call → ℕ
since (call.DontNeed space at len) = 2
since (call.Remap space at old_len new_len) = 2
since _ = 1

pub record IsEntryOf (version : ℕ) (e : Entry) : Type 0 where
  pub entry : IsEntry e
  pub known : since e.call ≤ version

pub record HasText (h : History) : Type 0 where
  pub head : IsHeader (head_of h)
  pub files : AreFiles h.shelf
  pub entries : All (IsEntryOf h.version) h.entries
  pub accounts : AreAccounts h.accounts

pub record IsHistoryText (bytes : List ℕ) (h : History) : Type 0 where
  pub has_text : HasText h
  pub whole : bytes ≡ history_text h

pub record AreHistoryLines (lines : List (List ℕ)) : Type 0 where
  pub history : History
  pub has_text : HasText history
  pub are : lines ≡ history_lines history

abbrev pub Begins : List (List ℕ) → Type 0
Begins = grammar.Begins AreHistoryLines

abbrev pub IsFirstFault : List ℕ → ℕ → Type 0
IsFirstFault = grammar.IsFirstFault AreHistoryLines
