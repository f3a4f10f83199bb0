-- How `save` and `restore` end.
use Rattle.std.proofs.Common.{◌≡◌, ◌≢◌, ℕ, ◌≤◌, List, [], ◌∷◌, ◌++◌, true, false, Option, None, Some, IfSome, ◌∙◌, length, refl, sym, ap, subst, inl, inr, arith}
use Rattle.std.specs.Prelude.{◌⊎◌}
use Rattle.std.specs.List.{All}
use Rattle.std.proofs.lemmas.Bool.{cases_lt}
use Rattle.std.proofs.lemmas.List.Elements.{All-weaker}
use Rattle.std.specs.Io.KnownBytes.{IsAtEnd}
use Rattle.corten_base.specs.Outside.{Rises}
use Rattle.corten_base.specs.declared.calls.Entry.{Entry}
use Rattle.corten_base.specs.declared.numbers.Accounts.{Accounts}
use Rattle.byte_streams.specs.Streams.{HasWritten}
use Rattle.page_map.specs.State.{State, is_present, space_at}
use Rattle.history_lines.specs.declared.history.History.{History}
use Rattle.history_lines.specs.declared.verdict.Verdict.TheVariants as verdict
use Rattle.history_lines.specs.HistoryText.{HasText, IsAsked, IsEntry, IsEntryOf, IsHistoryText, history_text}
use Rattle.history_lines.specs.Accounting.{HasLevels}
use Rattle.history_lines.specs.Checking.{IsLegalHistory, IsVerdict}
use Rattle.history_lines.proofs.OneHistory.{one_history}
use Rattle.history_text.proofs.Reached.{history_entries}
use Rattle.mm_script.specs.CallLine.{IsWithin}
use Rattle.image_text.specs.Images.{ImageParts, IsImage}
use Rattle.image_text.specs.ImageText.{IsImageText}
use Rattle.space_image.specs.declared.saving.SaveFault.{SaveFault}
use Rattle.space_image.specs.declared.saving.SaveFault.TheVariants as fault
use Rattle.space_image.specs.Saving.{HasImage, IsSaveFault}
use Rattle.space_image.proofs.SavedImage.{saved_text}
use Rattle.space_image.specs.Restoring.{IsRestored}
use Rattle.corten_run.specs.ImageAnswers.{EndsSave, IsFaultLine, IsRestoredAs, IsSavedAs, IsSavedOf, IsStatusOfSave, left_by_history}
use Rattle.corten_run.specs.Commands.{Names, Saves, greatest_length}
use Rattle.corten_run.specs.Endings.{Sides, CommandEnds, IsSaveText, IsRestoreText}
use Rattle.corten_run.specs.Statuses.{status_of}
use Rattle.corten_run.specs.declared.command.Command.{Command}
use Rattle.corten_run.specs.declared.command.Command.TheVariants.{Solo, Check, Victims, Tlb, Save, Restore}
use Rattle.corten_run.specs.declared.ending.Ending.{Ending}
use Rattle.corten_run.specs.declared.ending.Ending.TheVariants.{Done, Refused, Usage, ReadFailed, WriteFailed, NoMemory, Illegal, NotSaved}

-- the levels of a header
within_levels : (version levels : ℕ) → HasLevels version levels → IsWithin 4 5 levels
within_levels version levels (HasLevels.four is) = (omega (arith, is), omega (arith, is))
within_levels version levels (HasLevels.five is later) = (omega (arith, is), omega (arith, is))

asked_of : (version : ℕ) (e : Entry) → IsEntryOf version e → IsAsked e
asked_of version e is = record { thread = is.entry.thread; call = is.entry.call }

-- what is found of a space of the state that a legal history leaves is found of the history
pub saved_as : (space : ℕ) (h : History) (st : State) (e : Ending) (written : List ℕ) → HasText h → IsLegalHistory h → st ≡ left_by_history h → IsSavedOf st space e written → IsSavedAs space h e written
saved_as space h st Done written has legal is found =
    let here : IsSavedOf (left_by_history h) space Done written = subst (λ s. IsSavedOf s space Done written) is found in (
      legal,
      here.0,
      saved_text h.limits h.shelf h.entries space written has.head.limits (within_levels h.version h.limits.levels has.head.levels) has.files
          (All-weaker (IsEntryOf h.version) IsAsked (asked_of h.version) h.entries has.entries) legal.entries here.0 here.1,
    )
saved_as space h st NotSaved written has legal is found = (legal, subst (λ s. IsSavedOf s space NotSaved written) is found)
saved_as space h st _ written has legal is found = absurd found

-- a space with a fault has no image
no_image : (st : State) (space : ℕ) (f : SaveFault) (written : List ℕ) → IsSaveFault st space f → IsFaultLine f written → ¬ (HasImage st space)
no_image st space fault.NoSpace written wrong line has = let differ : true ≡ false = sym has.0 ∙ wrong in absurd (cc differ)
no_image st space (fault.Deep at) written wrong line has = has.1 wrong.page wrong.deep
no_image st space fault.NoMemory written wrong line has = line

save_ends : (space : ℕ) (h : History) (e : Ending) (written : List ℕ) → IsSavedAs space h e written → EndsSave space h e
save_ends space h Done written found = (found.0, found.1)
save_ends space h NotSaved written found = (found.0, no_image (left_by_history h) space found.1.0 written found.1.1 found.1.2)
save_ends space h Illegal written found = found.1.0
save_ends space h _ written found = absurd found

-- an ending with which the space was judged
save_status : (space : ℕ) (bytes written : List ℕ) (h : History) (e : Ending) → IsSaveText space bytes e written → IsHistoryText bytes h → IsStatusOfSave space h (status_of e)
save_status space bytes written h e found is_text =
    let same : found.history ≡ h = one_history bytes h found.history is_text found.is_text in
    (e, refl, save_ends space h e written (subst (λ x. IsSavedAs space x e written) same found.found))

saved_when : (space : ℕ) (bytes : List ℕ) (h : History) (s : Sides) (e : Ending) → CommandEnds (Save space) bytes s e → ¬ (Rises s.read_faults s.read_faults_now) → ¬ (Rises s.write_faults s.write_faults_now)
    → IsHistoryText bytes h → length bytes ≤ greatest_length (Save space) → IsStatusOfSave space h (status_of e) ⊎ (status_of e ≡ 5)
saved_when space bytes h s Done ends quiet silent is_text fits = inl (save_status space bytes ends.0 h Done ends.1 is_text)
saved_when space bytes h s Illegal ends quiet silent is_text fits = inl (save_status space bytes ends.0 h Illegal ends.1 is_text)
saved_when space bytes h s NotSaved ends quiet silent is_text fits = inl (save_status space bytes ends.0 h NotSaved ends.1 is_text)
saved_when space bytes h s Refused (written, inl bad, said) quiet silent is_text fits = absurd (bad.no_text h is_text)
saved_when space bytes h s Refused (written, inr long, said) quiet silent is_text fits = let more = long.too_long in absurd (omega (arith, more, fits))
saved_when space bytes h s Usage ends quiet silent is_text fits = absurd ends
saved_when space bytes h s ReadFailed ends quiet silent is_text fits = absurd (quiet ends.0)
saved_when space bytes h s WriteFailed ends quiet silent is_text fits = absurd (silent ends.1)
saved_when space bytes h s NoMemory ends quiet silent is_text fits = inr refl

saved_if : (space : ℕ) (left : Option (List ℕ)) (h : History) (s : Sides) (e : Ending) (n : ℕ) → n ≡ status_of e → IfSome left (λ bytes. CommandEnds (Save space) bytes s e) → ¬ (Rises s.read_faults s.read_faults_now) → ¬ (Rises s.write_faults s.write_faults_now)
    → IfSome left (λ bytes. IsHistoryText bytes h → length bytes ≤ greatest_length (Save space) → IsStatusOfSave space h n ⊎ (n ≡ 5))
saved_if space None h s e n is told quiet silent = tt
saved_if space (Some bytes) h s e n is told quiet silent =
    λ is_text fits. subst (λ m. IsStatusOfSave space h m ⊎ (m ≡ 5)) (sym is) (saved_when space bytes h s e told quiet silent is_text fits)

pub saved_named : (command : Command) (space : ℕ) → command ≡ Save space → (left : Option (List ℕ)) (h : History) (s : Sides) (e : Ending) (n : ℕ) → n ≡ status_of e → IfSome left (λ bytes. CommandEnds command bytes s e)
    → ¬ (Rises s.read_faults s.read_faults_now) → ¬ (Rises s.write_faults s.write_faults_now)
    → IfSome left (λ bytes. IsHistoryText bytes h → length bytes ≤ greatest_length (Save space) → IsStatusOfSave space h n ⊎ (n ≡ 5))
saved_named command space is left h s e n status told = saved_if space left h s e n status (subst (λ k. IfSome left (λ bytes. CommandEnds k bytes s e)) is told)

-- only `save` finds no image
pub only_save : (words : List (List ℕ)) (c : Command) (e : Ending) (n : ℕ) → Names words c → (e ≡ NotSaved → Saves c) → n ≡ status_of e → n ≡ 8 → (space : ℕ) × Names words (Save space)
only_save words c NotSaved n named saves is eight = go c named (saves refl)
  where
    go : (k : Command) → Names words k → Saves k → (space : ℕ) × Names words (Save space)
    go (Save space) h tells = (space, h)
    go _ h tells = absurd tells
only_save words c _ n named saves is eight = absurd (omega (arith, is, eight))

pub few_statuses : (e : Ending) (n : ℕ) → n ≡ status_of e → (n ≤ 6) ⊎ (n ≡ 8)
few_statuses NotSaved n is = inr is
few_statuses _ n is = inl (omega (arith, is))

-- where a space was judged, no ending of it is a fault
pub no_fault_saved : (space : ℕ) (h : History) (e : Ending) (written : List ℕ) → IsSavedAs space h e written → (e ≢ ReadFailed) × (e ≢ WriteFailed)
no_fault_saved space h Done written found = (λ e. cc, λ e. cc)
no_fault_saved space h Illegal written found = (λ e. cc, λ e. cc)
no_fault_saved space h NotSaved written found = (λ e. cc, λ e. cc)
no_fault_saved space h _ written found = absurd found

-- the whole text was written
pub saved_ends : (space : ℕ) (bytes written : List ℕ) (h : History) (e : Ending) (s : Sides) → IsHistoryText bytes h → length bytes ≤ greatest_length (Save space) → IsSavedAs space h e written → HasWritten s.held s.held_now written → IsAtEnd s.left_now
    → CommandEnds (Save space) bytes s e
saved_ends space bytes written h Done s is_text fits found whole end = (written, record { history = h; is_text = is_text; fits = fits; found = found }, whole, end)
saved_ends space bytes written h Illegal s is_text fits found whole end = (written, record { history = h; is_text = is_text; fits = fits; found = found }, whole, end)
saved_ends space bytes written h NotSaved s is_text fits found whole end = (written, record { history = h; is_text = is_text; fits = fits; found = found }, whole, end)
saved_ends space bytes written h _ s is_text fits found whole end = absurd found

-- an image is restored, or memory is wanted
restored_when : (bytes : List ℕ) (image : ImageParts) (s : Sides) (e : Ending) → CommandEnds Restore bytes s e → ¬ (Rises s.read_faults s.read_faults_now) → ¬ (Rises s.write_faults s.write_faults_now)
    → IsImageText bytes image → length bytes ≤ greatest_length Restore → (status_of e ≡ 0) ⊎ (status_of e ≡ 5)
restored_when bytes image s Done ends quiet silent is_text fits = inl refl
restored_when bytes image s Illegal ends quiet silent is_text fits = let differ : Illegal ≡ Done = ends.1.1 in absurd (cc differ)
restored_when bytes image s NotSaved ends quiet silent is_text fits = let differ : NotSaved ≡ Done = ends.1.1 in absurd (cc differ)
restored_when bytes image s Refused (written, inl bad, said) quiet silent is_text fits = absurd (bad.no_text image is_text)
restored_when bytes image s Refused (written, inr long, said) quiet silent is_text fits = let more = long.too_long in absurd (omega (arith, more, fits))
restored_when bytes image s Usage ends quiet silent is_text fits = absurd ends
restored_when bytes image s ReadFailed ends quiet silent is_text fits = absurd (quiet ends.0)
restored_when bytes image s WriteFailed ends quiet silent is_text fits = absurd (silent ends.1)
restored_when bytes image s NoMemory ends quiet silent is_text fits = inr refl

restored_if : (left : Option (List ℕ)) (image : ImageParts) (s : Sides) (e : Ending) (n : ℕ) → n ≡ status_of e → IfSome left (λ bytes. CommandEnds Restore bytes s e) → ¬ (Rises s.read_faults s.read_faults_now) → ¬ (Rises s.write_faults s.write_faults_now)
    → IfSome left (λ bytes. IsImageText bytes image → length bytes ≤ greatest_length Restore → (n ≡ 0) ⊎ (n ≡ 5))
restored_if None image s e n is told quiet silent = tt
restored_if (Some bytes) image s e n is told quiet silent = λ is_text fits. subst (λ m. (m ≡ 0) ⊎ (m ≡ 5)) (sym is) (restored_when bytes image s e told quiet silent is_text fits)

pub restored_named : (command : Command) → command ≡ Restore → (left : Option (List ℕ)) (image : ImageParts) (s : Sides) (e : Ending) (n : ℕ) → n ≡ status_of e → IfSome left (λ bytes. CommandEnds command bytes s e)
    → ¬ (Rises s.read_faults s.read_faults_now) → ¬ (Rises s.write_faults s.write_faults_now)
    → IfSome left (λ bytes. IsImageText bytes image → length bytes ≤ greatest_length Restore → (n ≡ 0) ⊎ (n ≡ 5))
restored_named command is left image s e n status told = restored_if left image s e n status (subst (λ k. IfSome left (λ bytes. CommandEnds k bytes s e)) is told)

-- the levels of an image have their line in version 2
two_levels : (levels : ℕ) → IsWithin 4 5 levels → HasLevels 2 levels
two_levels levels within = elim (cases_lt levels 5) [
  | inl low ↦ HasLevels.four (omega (arith, within.0, low))
  | inr high ↦ HasLevels.five (omega (arith, within.1, high)) refl
]

-- the answered calls of what an image is restored to have lines
pub restored_entries : (image : ImageParts) (h : History) → IsImage image → IsRestored image h → All IsEntry h.entries
restored_entries image h right is =
    history_entries 2 image.limits image.files h.entries
    (record { version = (omega arith, omega arith); limits = right.limits; levels = two_levels image.limits.levels right.levels }) right.files is.asked is.legal

-- it is written in version 2
pub restored_text : (bytes : List ℕ) (image : ImageParts) (h : History) (es : List Entry) → es ≡ h.entries → IsImageText bytes image → length bytes ≤ greatest_length Restore → IsRestored image h
    → IsRestoreText bytes (history_text (record { version = 2; limits = h.limits; shelf = h.shelf; entries = es; accounts = h.accounts }))
restored_text bytes image h es same is_text fits is = record {
  image = image;
  is_text = is_text;
  fits = fits;
  history = record { history = h; restored = is; text = λ i. history_text (record { version = sym is.version i; limits = h.limits; shelf = h.shelf; entries = same i; accounts = h.accounts }) };
}
