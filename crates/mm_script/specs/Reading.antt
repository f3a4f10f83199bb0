-- The lines of a script, read from a place in its text on.
--     NextLine, NextWords      the next line that is kept, and the words of such a line
--     NoNext      no whole line that is kept is left
--     NoLine      the next line that is kept is no such line, or there is none
--     Passes      the kept lines between two places
--     lines_behind      the lines of threads behind the first `thread`
--     Begins      lines with which a script begins, where none is skipped
--     Fault, FaultFrom      why a line is outside the grammar, and the first such line after some lines of a script
use Rattle.std.specs.Prelude.{◌≡◌, ◌≢◌, ℕ, ◌+◌, List, [], ◌∷◌, ◌++◌, length, map, All}
use Rattle.std.specs.List.{flat_map}
use Rattle.corten_base.specs.declared.calls.Call.{Call}
use Rattle.text_words.specs.Layout.{IsLine, words_of, ended, text, TextRest}
use Rattle.mm_script.specs.CallLine.{call_line}
use Rattle.mm_script.specs.ScriptText.{kept, thread_lines, script_lines, IsScript}
use Rattle.mm_script.specs.declared.script.Script.{Script}

-- from old to new: lines that are skipped, and this line
pub record NextLine (old new : TextRest) (line : List ℕ) : Type 0 where
  pub skipped : List (List ℕ)
  pub are_lines : All IsLine skipped
  pub are_skipped : kept skipped ≡ []
  pub is_line : IsLine line
  pub is_kept : kept (line ∷ []) ≡ line ∷ []
  pub parted : old.bytes ≡ text skipped ++ (ended line ++ new.bytes)
  pub counted : new.taken ≡ old.taken + length skipped + 1

-- the same, where the line has these words
pub record NextWords (old new : TextRest) (words : List (List ℕ)) : Type 0 where
  pub line : List ℕ
  pub next : NextLine old new line
  pub are_words : words_of line ≡ words

-- from old to new: lines that are skipped, and no whole line behind them
pub record NoNext (old new : TextRest) : Type 0 where
  pub skipped : List (List ℕ)
  pub are_lines : All IsLine skipped
  pub are_skipped : kept skipped ≡ []
  pub parted : old.bytes ≡ text skipped ++ new.bytes
  pub counted : new.taken ≡ old.taken + length skipped
  pub ends : IsLine new.bytes

-- line n would be the next one that is kept, and it is one of which P holds, or the text ends
pub data NoLine (old : TextRest) (n : ℕ) (P : List ℕ → Type 0) : Type 0 where
  other : (new : TextRest) (line : List ℕ) → NextLine old new line → n ≡ new.taken → P line → NoLine old n P
  none : (new : TextRest) → NoNext old new → n ≡ new.taken + 1 → NoLine old n P

-- these are the lines between two places that are kept
pub record Passes (old new : TextRest) (lines : List (List ℕ)) : Type 0 where
  pub between : List (List ℕ)
  pub are_lines : All IsLine between
  pub are_kept : kept between ≡ lines
  pub parted : old.bytes ≡ text between ++ new.bytes
  pub counted : new.taken ≡ old.taken + length between

abbrev pub lines_behind : List (List Call) → List (List ℕ)
lines_behind [] = []
lines_behind (calls ∷ threads) = map call_line calls ++ flat_map thread_lines threads

-- some script has these lines, and then more
pub record Begins (lines : List (List ℕ)) : Type 0 where
  pub script : Script
  pub more : List (List ℕ)
  pub is_script : IsScript script
  pub goes_on : lines ++ more ≡ script_lines script

-- Why no script's text has these lines, and behind them these bytes.
pub data Fault (lines : List (List ℕ)) (rest : List ℕ) : Type 0 where
  -- no script begins with these lines and the next one
  outside : (line more : List ℕ) → IsLine line → rest ≡ ended line ++ more → ¬ (Begins (lines ++ kept (line ∷ []))) → Fault lines rest
  -- the next line has no newline
  unfinished : IsLine rest → rest ≢ [] → Fault lines rest
  -- the text ends before a line that must come
  missing : rest ≡ [] → ((script : Script) → IsScript script → lines ≢ script_lines script) → Fault lines rest

-- Behind these lines of a script, n is the number of the first line outside the grammar.
pub record FaultFrom (old : TextRest) (lines : List (List ℕ)) (n : ℕ) : Type 0 where
  pub between : List (List ℕ)
  pub rest : List ℕ
  pub are_lines : All IsLine between
  pub parted : old.bytes ≡ text between ++ rest
  pub counted : n ≡ old.taken + length between + 1
  pub begins : Begins (lines ++ kept between)
  pub fault : Fault (lines ++ kept between) rest
