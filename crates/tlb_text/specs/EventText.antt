-- The lines of events and of their answers.
--     event_words, event_line      the words of an event's line, and the line
--     answer_words, answer_line      the same of an answer
--     sizes_lines, event_lines      the first two lines, and all lines
--     AreSizes      the sizes that there are
--     AreEventLines, IsEventText      the grammar, and the texts that are in it
--     IsFirstFault      the first line outside the grammar
--     Answered      events between two places are answered
--     AnswersText      a text of answers is that of the events of a text
--     ReadsNone      no event of this name has words that begin so
use Rattle.std.specs.Prelude.{◌≡◌, ◌≢◌, ◌<◌, ◌++◌, ◌∷◌, [], ℕ, List, map, codes, All}
use Rattle.text_words.specs.Spelling.{number}
use Rattle.text_words.specs.Layout.{IsLine, joined, text, TextRest}
use Rattle.text_words.specs.Passing.{Passes}
use Rattle.text_words.specs.Grammar as grammar
use Rattle.mm_script.specs.CallLine.{IsWithin}
use Rattle.mm_script.specs.ScriptText.{limit_words}
use Rattle.tlb_core.specs.declared.events.TlbEvent.{TlbEvent}
use Rattle.tlb_core.specs.declared.events.TlbEvent.TheVariants as events
use Rattle.tlb_core.specs.declared.events.TlbAnswer.{TlbAnswer}
use Rattle.tlb_core.specs.declared.events.TlbAnswer.TheVariants as answers
use Rattle.tlb_core.specs.Histories.{History}
use Rattle.tlb_core.specs.Answers.{Sizes, IsEvent, IsRun}
use Rattle.tlb_text.specs.declared.names.EventName.{EventName}
use Rattle.tlb_text.specs.declared.names.EventName.TheVariants as name

abbrev pub event_words : TlbEvent → List (List ℕ)
event_words (events.Map page) = codes "map" ∷ number page ∷ []
event_words (events.Unmap page) = codes "unmap" ∷ number page ∷ []
event_words (events.Fill cpu page) = codes "fill" ∷ number cpu ∷ number page ∷ []
event_words (events.Reach cpu page) = codes "reach" ∷ number cpu ∷ number page ∷ []
event_words (events.Drop cpu page) = codes "drop" ∷ number cpu ∷ number page ∷ []
event_words (events.Ack cpu) = codes "ack" ∷ number cpu ∷ []
event_words (events.Free frame) = codes "free" ∷ number frame ∷ []

abbrev pub event_line : TlbEvent → List ℕ
event_line event = joined (event_words event)

abbrev pub answer_words : TlbAnswer → List (List ℕ)
answer_words (answers.At frame) = codes "at" ∷ number frame ∷ []
answer_words answers.Used = codes "used" ∷ []
answer_words answers.NoFree = codes "nofree" ∷ []
answer_words answers.None = codes "none" ∷ []
answer_words answers.Ok = codes "ok" ∷ []
answer_words (answers.Hit frame) = codes "hit" ∷ number frame ∷ []
answer_words answers.Miss = codes "miss" ∷ []
answer_words answers.Idle = codes "idle" ∷ []
answer_words (answers.Wait cpu) = codes "wait" ∷ number cpu ∷ []

abbrev pub answer_line : TlbAnswer → List ℕ
answer_line answer = joined (answer_words answer)

abbrev pub sizes_lines : Sizes → List (List ℕ)
sizes_lines sizes = joined (limit_words (codes "cpus") sizes.cpus) ∷ joined (limit_words (codes "frames") sizes.frames) ∷ []

abbrev pub event_lines : Sizes → List TlbEvent → List (List ℕ)
event_lines sizes list = sizes_lines sizes ++ map event_line list

pub record AreSizes (sizes : Sizes) : Type 0 where
  pub cpus : IsWithin 1 8 sizes.cpus
  pub frames : IsWithin 1 64 sizes.frames

-- lines of sizes and of events that are there
pub record AreEventLines (lines : List (List ℕ)) : Type 0 where
  pub sizes : Sizes
  pub list : List TlbEvent
  pub are_sizes : AreSizes sizes
  pub are_events : All (IsEvent sizes) list
  pub are : lines ≡ event_lines sizes list

-- bytes that are such lines
pub record IsEventText (bytes : List ℕ) : Type 0 where
  pub lines : List (List ℕ)
  pub are_lines : All IsLine lines
  pub read : bytes ≡ text lines
  pub of_events : AreEventLines lines

abbrev pub IsFirstFault : List ℕ → ℕ → Type 0
IsFirstFault = grammar.IsFirstFault AreEventLines

abbrev pub answers_text : History → List ℕ
answers_text h = text (map (λ x. answer_line x.answer) h)

-- the lines between two places are those of events, and the text has a line for each: its answer by the events before it
pub record Answered (sizes : Sizes) (old new : TextRest) (out : List ℕ) : Type 0 where
  pub history : History
  pub run : IsRun sizes history
  pub passed : Passes old new (map event_line (map (λ x. x.event) history))
  pub told : out ≡ answers_text history

-- The bytes are the lines of events, and the text has a line for each: the answer that it has by those before it.
pub record AnswersText (bytes answers : List ℕ) : Type 0 where
  pub sizes : Sizes
  pub history : History
  pub are_sizes : AreSizes sizes
  pub run : IsRun sizes history
  pub are_lines : All IsLine (event_lines sizes (map (λ x. x.event) history))
  pub read : bytes ≡ text (event_lines sizes (map (λ x. x.event) history))
  pub told : answers ≡ answers_text history

abbrev pub ReadsNone : Sizes → EventName → List (List ℕ) → Type 0
ReadsNone sizes name.Map words = (page : ℕ) (rest : List (List ℕ)) → page < 64 → words ≢ number page ∷ rest
ReadsNone sizes name.Unmap words = (page : ℕ) (rest : List (List ℕ)) → page < 64 → words ≢ number page ∷ rest
ReadsNone sizes name.Fill words = (cpu page : ℕ) (rest : List (List ℕ)) → cpu < sizes.cpus → page < 64 → words ≢ number cpu ∷ number page ∷ rest
ReadsNone sizes name.Reach words = (cpu page : ℕ) (rest : List (List ℕ)) → cpu < sizes.cpus → page < 64 → words ≢ number cpu ∷ number page ∷ rest
ReadsNone sizes name.Drop words = (cpu page : ℕ) (rest : List (List ℕ)) → cpu < sizes.cpus → page < 64 → words ≢ number cpu ∷ number page ∷ rest
ReadsNone sizes name.Ack words = (cpu : ℕ) (rest : List (List ℕ)) → cpu < sizes.cpus → words ≢ number cpu ∷ rest
ReadsNone sizes name.Free words = (frame : ℕ) (rest : List (List ℕ)) → frame < sizes.frames → words ≢ number frame ∷ rest
