-- Which bytes are the text of a script, and which line of other bytes is the first outside the grammar.
--     kept      the lines that are not skipped
--     limit_lines, file_lines      the lines of limits and of files
--     header_lines      both, with which a script begins
--     script_lines      the lines of a script
--     AreLimits, AreScriptLimits      the bounds of limits, and of a script's
--     IsScript      the bounds of a script
--     IsScriptText      bytes that are the text of a script
--     AreScriptLines      the grammar: lines that are those of some script, and lines that are skipped
--     IsFirstFault      the first line outside the grammar
use Rattle.std.specs.Prelude.{◌≡◌, ℕ, ◌<◌, ◌≤◌, ◌==◌, Bool, true, not, ⊤, List, [], ◌∷◌, ◌++◌, length, map, filter, codes, All}
use Rattle.std.specs.List.{flat_map}
use Rattle.corten_base.specs.declared.calls.Call.{Call}
use Rattle.corten_base.specs.declared.numbers.Limits.{Limits}
use Rattle.text_words.specs.Spelling.{number, hex}
use Rattle.text_words.specs.Grammar as grammar
use Rattle.text_words.specs.Layout.{IsLine, joined, text}
use Rattle.mm_script.specs.CallLine.{call_line, IsCall, IsWithin}
use Rattle.mm_script.specs.declared.fault.ScriptFault.{ScriptFault}
use Rattle.mm_script.specs.declared.fault.ScriptFault.TheVariants as fault
use Rattle.mm_script.specs.declared.script.Script.{Script}

-- a line that is empty or begins with `#`
abbrev pub is_skipped : List ℕ → Bool
is_skipped [] = true
is_skipped (b ∷ bytes) = b == 35

abbrev pub kept : List (List ℕ) → List (List ℕ)
kept lines = filter (λ line. not (is_skipped line)) lines

abbrev pub limit_words : List ℕ → ℕ → List (List ℕ)
limit_words name n = name ∷ number n ∷ []

abbrev pub limit_lines : Limits → List (List ℕ)
limit_lines limits =
    joined (limit_words (codes "frames") limits.frames)
    ∷ joined (limit_words (codes "tables") limits.tables)
    ∷ joined (limit_words (codes "swap") limits.swap)
    ∷ []

-- `-` for no byte
abbrev pub file_word : List ℕ → List ℕ
file_word [] = codes "-"
file_word (b ∷ bytes) = hex (b ∷ bytes)

abbrev pub file_line : List ℕ → List ℕ
file_line bytes = joined (codes "file" ∷ file_word bytes ∷ [])

abbrev pub file_lines : List (List ℕ) → List (List ℕ)
file_lines files = map file_line files

abbrev pub header_lines : Limits → List (List ℕ) → List (List ℕ)
header_lines limits files = limit_lines limits ++ file_lines files

abbrev pub thread_lines : List Call → List (List ℕ)
thread_lines calls = codes "thread" ∷ map call_line calls

abbrev pub script_lines : Script → List (List ℕ)
script_lines script = header_lines script.limits script.shelf ++ flat_map thread_lines script.threads

-- how many numbers there are of each kind
pub record AreLimits (limits : Limits) : Type 0 where
  pub frames : IsWithin 1 4096 limits.frames
  pub tables : IsWithin 1 1023 limits.tables
  pub swap : IsWithin 0 4096 limits.swap

-- a script's page tables have four levels
pub record AreScriptLimits (limits : Limits) : Type 0 where
  pub numbers : AreLimits limits
  pub levels : limits.levels ≡ 4

pub record IsFile (bytes : List ℕ) : Type 0 where
  pub size : length bytes ≤ 65536
  pub fit : All (λ b. b < 256) bytes

pub record AreFiles (files : List (List ℕ)) : Type 0 where
  pub count : length files ≤ 16
  pub each : All IsFile files

abbrev pub most_threads : ℕ
most_threads = 8

pub record AreThreads (threads : List (List Call)) : Type 0 where
  pub count : IsWithin 1 most_threads (length threads)
  pub calls : All (All IsCall) threads

pub record IsScript (script : Script) : Type 0 where
  pub limits : AreScriptLimits script.limits
  pub files : AreFiles script.shelf
  pub threads : AreThreads script.threads

-- The bytes are lines, each ended by a newline, and those that are kept are the lines of the script.
pub record IsScriptText (bytes : List ℕ) (script : Script) : Type 0 where
  pub lines : List (List ℕ)
  pub are_lines : All IsLine lines
  pub whole : bytes ≡ text lines
  pub are_kept : kept lines ≡ script_lines script
  pub is_script : IsScript script

-- lines of which those that are kept are the lines of a script
pub record AreScriptLines (lines : List (List ℕ)) : Type 0 where
  pub script : Script
  pub is_script : IsScript script
  pub are_kept : kept lines ≡ script_lines script

abbrev pub IsFirstFault : List ℕ → ℕ → Type 0
IsFirstFault = grammar.IsFirstFault AreScriptLines

-- a fact of the line that a fault names
abbrev pub IfBad : ScriptFault → (ℕ → Type 0) → Type 0
IfBad (fault.Bad n) P = P n
IfBad fault.NoMemory P = ⊤
