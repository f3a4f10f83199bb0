-- How a call of the program ends.
--     IsSoloText      what `solo` writes for the bytes of a script
--     IsTlbText      what `tlb` writes for the bytes of events
--     verdict_line, ending_of, IsVerdictText      what `check` writes for the bytes of a history, and how it ends then
--     IsVictimsText      what `victims` writes for them, and how it ends then
--     IsSaveText, IsRestoreText      what `save` and `restore` write
--     Answers      what a command writes for them, where it ends so
--     IsNoText, IsFirstFault      that they are none of the texts which a command reads, and the number of the first line outside
--     IsBadLine, IsLongLine, IsRefusal      what it writes for other bytes
--     IsSaid      a line that was written, or a front of it where the sink failed
--     Refuses      the same for the line that refuses what was read
--     Sides      what a source and a sink tell before a call and after it
--     WritesPart      a front of a text that a command writes was written
--     CommandEnds      what each ending of a command says of bytes that the source told
use Rattle.std.specs.Prelude.{◌≡◌, ℕ, ◌<◌, ◌≤◌, ◌⊎◌, Option, List, [], ◌++◌, length, codes}
use Rattle.std.specs.Io.KnownBytes.{IsAtEnd}
use Rattle.corten_base.specs.Outside.{Rises}
use Rattle.byte_streams.specs.Streams.{HasWritten, HasWrittenPart}
use Rattle.text_words.specs.Spelling.{number}
use Rattle.text_words.specs.Layout.{ended}
use Rattle.mm_script.specs.declared.script.Script.{Script}
use Rattle.mm_script.specs.ScriptText as scripts
use Rattle.history_lines.specs.declared.history.History.{History}
use Rattle.history_lines.specs.declared.verdict.Verdict.{Verdict}
use Rattle.history_lines.specs.declared.verdict.Verdict.TheVariants as verdict
use Rattle.history_lines.specs.HistoryText as histories
use Rattle.history_lines.specs.Checking.{IsVerdict}
use Rattle.tlb_text.specs.EventText as events
use Rattle.image_text.specs.ImageText as images
use Rattle.image_text.specs.Images.{ImageParts}
use Rattle.corten_run.specs.ImageAnswers.{IsSavedAs, IsRestoredAs}
use Rattle.corten_run.specs.Solo.{solo_text}
use Rattle.corten_run.specs.VictimText.{IsFound}
use Rattle.corten_run.specs.Commands.{greatest_length}
use Rattle.corten_run.specs.declared.command.Levels.{Levels}
use Rattle.corten_run.specs.declared.command.Command.{Command}
use Rattle.corten_run.specs.declared.command.Command.TheVariants.{Solo, Check, Victims, Tlb, Save, Restore}
use Rattle.corten_run.specs.declared.ending.Ending.{Ending}
use Rattle.corten_run.specs.declared.ending.Ending.TheVariants.{Done, Refused, Usage, ReadFailed, WriteFailed, NoMemory, Illegal, NotSaved}

-- the bytes are a script's text, and this is the text of the one history of its calls with so many levels
pub record IsSoloText (levels : Levels) (bytes written : List ℕ) : Type 0 where
  pub script : Script
  pub is_text : scripts.IsScriptText bytes script
  pub fits : length bytes ≤ greatest_length (Solo levels)
  pub history : written ≡ solo_text levels script

-- the bytes are events, and this is the text of their answers
pub record IsTlbText (bytes written : List ℕ) : Type 0 where
  pub answers : events.AnswersText bytes written
  pub fits : length bytes ≤ greatest_length Tlb

abbrev pub verdict_line : Verdict → List ℕ
verdict_line (verdict.Legal entries) = ended (codes "legal " ++ number entries)
verdict_line (verdict.Illegal line) = ended (codes "illegal " ++ number line)

abbrev pub ending_of : Verdict → Ending
ending_of (verdict.Legal entries) = Done
ending_of (verdict.Illegal line) = Illegal

-- the bytes are a history's text, and this line is what is found of the history, with this ending
pub record IsVerdictText (bytes : List ℕ) (ending : Ending) (written : List ℕ) : Type 0 where
  pub history : History
  pub is_text : histories.IsHistoryText bytes history
  pub fits : length bytes ≤ greatest_length Check
  pub verdict : Verdict
  pub is_verdict : IsVerdict history verdict
  pub ends : ending ≡ ending_of verdict
  pub line : written ≡ verdict_line verdict

-- the bytes are a history's text, and this is the text of its victims, or of the verdict that it is not legal, with this ending
pub record IsVictimsText (most : ℕ) (bytes : List ℕ) (ending : Ending) (written : List ℕ) : Type 0 where
  pub history : History
  pub is_text : histories.IsHistoryText bytes history
  pub fits : length bytes ≤ greatest_length (Victims most)
  pub found : IsFound most history ending written

-- the bytes are a history's text, and this is the text for the space, with this ending
pub record IsSaveText (space : ℕ) (bytes : List ℕ) (ending : Ending) (written : List ℕ) : Type 0 where
  pub history : History
  pub is_text : histories.IsHistoryText bytes history
  pub fits : length bytes ≤ greatest_length (Save space)
  pub found : IsSavedAs space history ending written

-- the bytes are an image's text, and this is that of the history which builds it
pub record IsRestoreText (bytes written : List ℕ) : Type 0 where
  pub image : ImageParts
  pub is_text : images.IsImageText bytes image
  pub fits : length bytes ≤ greatest_length Restore
  pub history : IsRestoredAs image written

-- the whole text that a command writes where it ends so
abbrev pub Answers : Command → List ℕ → Ending → List ℕ → Type 0
Answers (Solo levels) bytes ending written = IsSoloText levels bytes written × (ending ≡ Done)
Answers Check bytes ending written = IsVerdictText bytes ending written
Answers (Victims most) bytes ending written = IsVictimsText most bytes ending written
Answers Tlb bytes ending written = IsTlbText bytes written × (ending ≡ Done)
Answers (Save space) bytes ending written = IsSaveText space bytes ending written
Answers Restore bytes ending written = IsRestoreText bytes written × (ending ≡ Done)

-- the bytes are not the text that a command reads
abbrev pub IsNoText : Command → List ℕ → Type 0
IsNoText (Solo levels) bytes = (script : Script) → ¬ (scripts.IsScriptText bytes script)
IsNoText Check bytes = (h : History) → ¬ (histories.IsHistoryText bytes h)
IsNoText (Victims most) bytes = (h : History) → ¬ (histories.IsHistoryText bytes h)
IsNoText Tlb bytes = ¬ (events.IsEventText bytes)
IsNoText (Save space) bytes = (h : History) → ¬ (histories.IsHistoryText bytes h)
IsNoText Restore bytes = (image : ImageParts) → ¬ (images.IsImageText bytes image)

-- the number of the first line outside the grammar of the texts that a command reads
abbrev pub IsFirstFault : Command → List ℕ → ℕ → Type 0
IsFirstFault (Solo levels) = scripts.IsFirstFault
IsFirstFault Check = histories.IsFirstFault
IsFirstFault (Victims most) = histories.IsFirstFault
IsFirstFault Tlb = events.IsFirstFault
IsFirstFault (Save space) = histories.IsFirstFault
IsFirstFault Restore = images.IsFirstFault

-- the bytes are no text that the command reads, and the line names the first line outside the grammar
pub record IsBadLine (command : Command) (bytes written : List ℕ) : Type 0 where
  pub line : ℕ
  pub fits : length bytes ≤ greatest_length command
  pub no_text : IsNoText command bytes
  pub first : IsFirstFault command bytes line
  pub bad : written ≡ ended (codes "bad " ++ number line)

-- there are more bytes than such a text may have
pub record IsLongLine (command : Command) (bytes written : List ℕ) : Type 0 where
  pub too_long : greatest_length command < length bytes
  pub long : written ≡ ended (codes "long")

abbrev pub IsRefusal : Command → List ℕ → List ℕ → Type 0
IsRefusal command bytes written = IsBadLine command bytes written ⊎ IsLongLine command bytes written

-- `left` and `held` are what the source and the sink tell, `read_faults` and `write_faults` their counts; `_now` is after the call
pub record Sides : Type 0 where
  pub left_now : Option (List ℕ)
  pub read_faults : ℕ
  pub read_faults_now : ℕ
  pub held : Option (List ℕ)
  pub held_now : Option (List ℕ)
  pub write_faults : ℕ
  pub write_faults_now : ℕ

-- the line was written, or a front of it and the sink failed
abbrev pub IsSaid : Sides → List ℕ → Type 0
IsSaid s line = HasWritten s.held s.held_now line ⊎ (HasWrittenPart s.held s.held_now line × Rises s.write_faults s.write_faults_now)

-- a line that refuses what was read was written, or a front of it where the sink failed, or memory ran out before
abbrev pub Refuses : Option (List ℕ) → Option (List ℕ) → ℕ → ℕ → List ℕ → Ending → Type 0
Refuses held held_now faults faults_now line Refused = HasWritten held held_now line ⊎ (HasWrittenPart held held_now line × Rises faults faults_now)
Refuses held held_now faults faults_now line NoMemory = HasWritten held held_now []
Refuses held held_now faults faults_now line _ = ⊥

-- a front of a text that the command writes was written
abbrev pub WritesPart : Command → List ℕ → Sides → Type 0
WritesPart command bytes s = (ending : Ending) × (written : List ℕ) × Answers command bytes ending written × HasWrittenPart s.held s.held_now written

-- the source told these bytes
abbrev pub CommandEnds : Command → List ℕ → Sides → Ending → Type 0
-- all was read, and the whole text was written
CommandEnds command bytes s Done = (written : List ℕ) × Answers command bytes Done written × HasWritten s.held s.held_now written × IsAtEnd s.left_now
-- the same, where what was read is a history that is not legal
CommandEnds command bytes s Illegal = (written : List ℕ) × Answers command bytes Illegal written × HasWritten s.held s.held_now written × IsAtEnd s.left_now
-- the same, where the space has no image
CommandEnds command bytes s NotSaved = (written : List ℕ) × Answers command bytes NotSaved written × HasWritten s.held s.held_now written × IsAtEnd s.left_now
-- the bytes are no such text
CommandEnds command bytes s Refused = (written : List ℕ) × IsRefusal command bytes written × IsSaid s written
-- a read failed, and nothing was written
CommandEnds command bytes s ReadFailed = Rises s.read_faults s.read_faults_now × HasWritten s.held s.held_now []
-- a write failed, and a front of the text was written
CommandEnds command bytes s WriteFailed = WritesPart command bytes s × Rises s.write_faults s.write_faults_now
-- memory ran out, and a front of the text was written, or nothing
CommandEnds command bytes s NoMemory = WritesPart command bytes s ⊎ HasWritten s.held s.held_now []
CommandEnds command bytes s Usage = ⊥
