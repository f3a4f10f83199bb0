-- A history's text that is checked while it is read.
--     IsAt      the line behind the files and some entries was taken
--     IsTried      the machine behind entries, as long as each is right, and else the line of the first wrong one
--     AreTried      the entries were tried, and the line of frames behind them was taken
--     IsBegun      the machine as it stands where the line behind the files of a text was taken
--     IsVerdictOf      what is found of the history that a text has
use Rattle.std.specs.Prelude.{◌≡◌, ℕ, ◌+◌, List, [], ◌∷◌, ◌++◌, length, map, All, Option, Some, None}
use Rattle.corten_base.specs.declared.calls.Entry.{Entry}
use Rattle.page_map.specs.State.{State, start}
use Rattle.page_map.specs.History.{IsLegal, after}
use Rattle.text_words.specs.Layout.{TextRest}
use Rattle.text_words.specs.Passing.{Passes}
use Rattle.mm_script.specs.ScriptText.{file_lines, AreFiles}
use Rattle.history_lines.specs.declared.counts.Counts.{Counts}
use Rattle.history_lines.specs.declared.header.Header.{Header}
use Rattle.history_lines.specs.declared.history.History.{History}
use Rattle.history_lines.specs.declared.verdict.Verdict.{Verdict}
use Rattle.history_lines.specs.Accounting.{frames_line, head_lines, IsHeader, AreCounts}
use Rattle.history_lines.specs.Checking.{IsVerdict}
use Rattle.history_lines.specs.Files.{NoFileHere}
use Rattle.history_lines.specs.HistoryText.{entry_line, IsEntryOf, IsHistoryText}
use Rattle.history_lines.specs.Reading.{HasNoLevels}
use Rattle.history_lines.specs.Wrong.{IsWrongAt}

-- from the place behind the version and the limits to the place behind this line
pub record IsAt (head : Header) (files : List (List ℕ)) (old : TextRest) (es : List Entry) (line : List ℕ) (new : TextRest) : Type 0 where
  pub header : IsHeader head
  pub are_files : AreFiles files
  pub no_levels : HasNoLevels head.version head.limits.levels old.bytes
  pub are_entries : All (IsEntryOf head.version) es
  pub no_file : NoFileHere files es line
  pub before : TextRest
  pub passed : Passes old before (file_lines files ++ map entry_line es)
  pub next : Passes before new (line ∷ [])

-- the first of the entries is that of line `start`
abbrev pub IsTried : State → ℕ → List Entry → State → Option ℕ → Type 0
IsTried first start es now None = IsLegal first es × (now ≡ after first es)
IsTried first start es now (Some n) = (i : ℕ) × (n ≡ start + i) × IsWrongAt first es i

pub record AreTried (head : Header) (files : List (List ℕ)) (old new : TextRest) (first now : State) (start : ℕ) (wrong : Option ℕ) (frames : Counts) : Type 0 where
  pub entries : List Entry
  pub are_entries : All (IsEntryOf head.version) entries
  pub are_counts : AreCounts frames
  pub passed : Passes old new (file_lines files ++ (map entry_line entries ++ frames_line frames ∷ []))
  pub counted : new.taken ≡ start + length entries
  pub tried : IsTried first start entries now wrong

pub record IsBegun (bytes : List ℕ) (head : Header) (line : List ℕ) (now : TextRest) (st : State) : Type 0 where
  pub files : List (List ℕ)
  pub whole : TextRest
  pub behind : TextRest
  pub bytes_are : whole.bytes ≡ bytes
  pub none_taken : whole.taken ≡ 0
  pub header : Passes whole behind (head_lines head)
  pub at : IsAt head files behind [] line now
  pub state : st ≡ start head.limits files

pub record IsVerdictOf (bytes : List ℕ) (v : Verdict) : Type 0 where
  pub history : History
  pub is_text : IsHistoryText bytes history
  pub is_verdict : IsVerdict history v
