-- What `save` writes of a history, and `restore` of an image.
--     left_by_history      the state that a history leaves
--     IsFaultLine      the line of why a space is not saved
--     IsSavedOf, IsSavedAs      the text for a space of a state, and of a history, and how the call ends then
--     IsStatusOfSave      the status for a space of a history
--     IsRestoredAs      the text of the history that builds an image
use Rattle.std.specs.Prelude.{◌≡◌, ℕ, List, [], ◌∷◌, ◌++◌, codes}
use Rattle.text_words.specs.Spelling.{number, address}
use Rattle.text_words.specs.Layout.{ended, joined}
use Rattle.page_map.specs.History.{after}
use Rattle.page_map.specs.State.{State, space_at, start}
use Rattle.history_lines.specs.declared.history.History.{History}
use Rattle.history_lines.specs.declared.verdict.Verdict.TheVariants as verdict
use Rattle.history_lines.specs.Checking.{IsLegalHistory, IsVerdict}
use Rattle.history_lines.specs.HistoryText.{history_text}
use Rattle.image_text.specs.Images.{ImageParts}
use Rattle.space_image.specs.declared.saving.SaveFault.{SaveFault}
use Rattle.space_image.specs.declared.saving.SaveFault.TheVariants as fault
use Rattle.space_image.specs.Saving.{HasImage, HasImageText, IsSaved, IsSaveFault}
use Rattle.space_image.specs.Restoring.{IsRestored}
use Rattle.corten_run.specs.Statuses.{status_of}
use Rattle.corten_run.specs.declared.ending.Ending.{Ending}
use Rattle.corten_run.specs.declared.ending.Ending.TheVariants.{Done, Illegal, NotSaved}

abbrev pub left_by_history : History → State
left_by_history h = after (start h.limits h.shelf) h.entries

-- want of memory has no line
abbrev pub IsFaultLine : SaveFault → List ℕ → Type 0
IsFaultLine fault.NoSpace written = written ≡ ended (codes "nospace")
IsFaultLine (fault.Deep at) written = written ≡ ended (joined (codes "deep" ∷ address at ∷ []))
IsFaultLine fault.NoMemory written = ⊥

abbrev pub IsSavedOf : State → ℕ → Ending → List ℕ → Type 0
IsSavedOf st space Done written = HasImage st space × IsSaved st space written
IsSavedOf st space NotSaved written = (f : SaveFault) × IsSaveFault st space f × IsFaultLine f written
IsSavedOf st space _ written = ⊥

-- The image of the space in the state that a legal history leaves, as a text that can be read and restored, or why there is
-- none; or the history's first wrong line.
abbrev pub IsSavedAs : ℕ → History → Ending → List ℕ → Type 0
IsSavedAs space h Done written = IsLegalHistory h × HasImage (left_by_history h) space × HasImageText h.limits h.shelf (space_at (left_by_history h) space) written
IsSavedAs space h NotSaved written = IsLegalHistory h × ((f : SaveFault) × IsSaveFault (left_by_history h) space f × IsFaultLine f written)
IsSavedAs space h Illegal written = (line : ℕ) × IsVerdict h (verdict.Illegal line) × (written ≡ ended (codes "illegal " ++ number line))
IsSavedAs space h _ written = ⊥

abbrev pub EndsSave : ℕ → History → Ending → Type 0
EndsSave space h Done = IsLegalHistory h × HasImage (left_by_history h) space
EndsSave space h NotSaved = IsLegalHistory h × ¬ (HasImage (left_by_history h) space)
EndsSave space h Illegal = ¬ (IsLegalHistory h)
EndsSave space h _ = ⊥

abbrev pub IsStatusOfSave : ℕ → History → ℕ → Type 0
IsStatusOfSave space h status = (ending : Ending) × (status ≡ status_of ending) × EndsSave space h ending

pub record IsRestoredAs (image : ImageParts) (written : List ℕ) : Type 0 where
  pub history : History
  pub restored : IsRestored image history
  pub text : written ≡ history_text history
