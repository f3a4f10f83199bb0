-- What is known of the bytes that a source told.
use Rattle.std.proofs.Common.{◌≡◌, ◌≢◌, ℕ, ◌≤◌, List, [], ◌∷◌, ◌++◌, Option, None, Some, IfSome, ◌∙◌, append-nil, length, refl, sym, ap, subst, inl, inr, arith}
use Rattle.std.specs.Prelude.{◌⊎◌, codes}
use Rattle.std.specs.Option.{unwrap_or}
use Rattle.std.specs.Io.KnownBytes.{IsAtEnd}
use Rattle.corten_base.specs.Outside.{Rises}
use Rattle.byte_streams.specs.Streams.{HasRead, HasWritten}
use Rattle.text_words.specs.Spelling.{number}
use Rattle.text_words.specs.Layout.{ended}
use Rattle.mm_script.specs.declared.script.Script.{Script}
use Rattle.mm_script.specs.ScriptText.{IsScriptText}
use Rattle.history_lines.specs.declared.history.History.{History}
use Rattle.history_lines.specs.declared.verdict.Verdict.{Verdict}
use Rattle.history_lines.specs.declared.verdict.Verdict.TheVariants as verdict
use Rattle.history_lines.specs.HistoryText.{HasText, IsHistoryText}
use Rattle.history_lines.specs.Checking.{IsVerdict}
use Rattle.history_lines.proofs.OneHistory.{one_history}
use Rattle.history_lines.proofs.OneVerdict.{one_verdict}
use Rattle.tlb_text.specs.EventText.{IsEventText}
use Rattle.tlb_text.proofs.Behind.{is_event_text}
use Rattle.corten_run.specs.VictimText.{IsFound}
use Rattle.corten_run.specs.Commands.{greatest_length}
use Rattle.corten_run.specs.Endings.{Sides, CommandEnds, Answers, IsNoText, IsFirstFault, Refuses, IsVerdictText, IsVictimsText, ending_of, verdict_line}
use Rattle.corten_run.specs.Statuses.{status_of}
use Rattle.corten_run.specs.declared.command.Levels.{Levels}
use Rattle.corten_run.specs.declared.command.Command.{Command}
use Rattle.corten_run.specs.declared.command.Command.TheVariants.{Solo, Check, Victims, Tlb, Save, Restore}
use Rattle.corten_run.specs.declared.ending.Ending.{Ending}
use Rattle.corten_run.specs.declared.ending.Ending.TheVariants.{Done, Refused, Usage, ReadFailed, WriteFailed, NoMemory, Illegal, NotSaved}

-- a command that answers bytes has read a text
answers_no_text : (command : Command) (bytes written : List ℕ) (e : Ending) → Answers command bytes e written → (length bytes ≤ greatest_length command → IsNoText command bytes) → ⊥
answers_no_text (Solo levels) bytes written e h none = none h.0.fits h.0.script h.0.is_text
answers_no_text Check bytes written e h none = none h.fits h.history h.is_text
answers_no_text (Victims most) bytes written e h none = none h.fits h.history h.is_text
answers_no_text Tlb bytes written e h none = none h.0.fits (is_event_text bytes written h.0.answers)
answers_no_text (Save space) bytes written e h none = none h.fits h.history h.is_text
answers_no_text Restore bytes written e h none = none h.0.fits h.0.image h.0.is_text

-- bytes that are no such text are refused, or memory is wanted
pub refused_when : (command : Command) (bytes : List ℕ) (s : Sides) (e : Ending) → CommandEnds command bytes s e → ¬ (Rises s.read_faults s.read_faults_now)
    → (length bytes ≤ greatest_length command → IsNoText command bytes) → (status_of e ≡ 1) ⊎ (status_of e ≡ 5)
refused_when command bytes s Done ends quiet none = absurd (answers_no_text command bytes ends.0 Done ends.1 none)
refused_when command bytes s Illegal ends quiet none = absurd (answers_no_text command bytes ends.0 Illegal ends.1 none)
refused_when command bytes s NotSaved ends quiet none = absurd (answers_no_text command bytes ends.0 NotSaved ends.1 none)
refused_when command bytes s Refused ends quiet none = inl refl
refused_when command bytes s Usage ends quiet none = absurd ends
refused_when command bytes s ReadFailed ends quiet none = absurd (quiet ends.0)
refused_when command bytes s WriteFailed ends quiet none = absurd (answers_no_text command bytes ends.0.1 ends.0.0 ends.0.2 none)
refused_when command bytes s NoMemory ends quiet none = inr refl

-- an ending speaks of the source only where a read failed and where all was done
moved : (command : Command) (bytes : List ℕ) (left_now : Option (List ℕ)) (f f' : ℕ) (s : Sides) (e : Ending) → IsAtEnd left_now → e ≢ ReadFailed → CommandEnds command bytes s e
    → CommandEnds command bytes (record s { left_now = left_now; read_faults = f; read_faults_now = f' }) e
moved command bytes left_now f f' s Done end other ends = (ends.0, ends.1, ends.2, end)
moved command bytes left_now f f' s Illegal end other ends = (ends.0, ends.1, ends.2, end)
moved command bytes left_now f f' s NotSaved end other ends = (ends.0, ends.1, ends.2, end)
moved command bytes left_now f f' s Refused end other ends = ends
moved command bytes left_now f f' s Usage end other ends = absurd ends
moved command bytes left_now f f' s ReadFailed end other ends = absurd (other refl)
moved command bytes left_now f f' s WriteFailed end other ends = ends
moved command bytes left_now f f' s NoMemory end other ends = ends

-- the bytes that were read to the end are those that the source told
pub retold : (command : Command) (left left_now : Option (List ℕ)) (got : List ℕ) (f f' : ℕ) (s : Sides) (e : Ending) → HasRead left left_now got → IsAtEnd left_now
    → e ≢ ReadFailed → CommandEnds command got s e → IfSome left (λ bytes. CommandEnds command bytes (record s { left_now = left_now; read_faults = f; read_faults_now = f' }) e)
retold command None left_now got f f' s e read end other ends = tt
retold command (Some bytes) None got f f' s e read end other ends = absurd (cc)
retold command (Some bytes) (Some rest) got f f' s e read end other ends =
    let same : bytes ≡ got = ap (λ o. unwrap_or o []) read ∙ ap (λ r. got ++ r) end ∙ append-nil got in
    subst (λ b. CommandEnds command b (record s { left_now = Some rest; read_faults = f; read_faults_now = f' }) e) (sym same) (moved command got (Some rest) f f' s e end other ends)

pub refused_if : (command : Command) (left : Option (List ℕ)) (s : Sides) (e : Ending) (n : ℕ) → n ≡ status_of e → IfSome left (λ bytes. CommandEnds command bytes s e) → ¬ (Rises s.read_faults s.read_faults_now)
    → IfSome left (λ bytes. (length bytes ≤ greatest_length command → IsNoText command bytes) → (n ≡ 1) ⊎ (n ≡ 5))
refused_if command None s e n is told quiet = tt
refused_if command (Some bytes) s e n is told quiet = λ none. subst (λ m. (m ≡ 1) ⊎ (m ≡ 5)) (sym is) (refused_when command bytes s e told quiet none)

-- what is told of the ending
pub told_ending : (command : Command) (left : Option (List ℕ)) (s : Sides) (e : Ending) (n : ℕ) → n ≡ status_of e → IfSome left (λ bytes. CommandEnds command bytes s e)
    → IfSome left (λ bytes. (ending : Ending) × (n ≡ status_of ending) × CommandEnds command bytes s ending)
told_ending command None s e n is told = tt
told_ending command (Some bytes) s e n is told = (e, is, told)

-- a script is answered by its history, or memory is wanted
done_when : (levels : Levels) (bytes : List ℕ) (script : Script) (s : Sides) (e : Ending) → CommandEnds (Solo levels) bytes s e → ¬ (Rises s.read_faults s.read_faults_now) → ¬ (Rises s.write_faults s.write_faults_now)
    → IsScriptText bytes script → length bytes ≤ greatest_length (Solo levels) → (status_of e ≡ 0) ⊎ (status_of e ≡ 5)
done_when levels bytes script s Done ends quiet silent is_text fits = inl refl
done_when levels bytes script s Illegal ends quiet silent is_text fits = let differ : Illegal ≡ Done = ends.1.1 in absurd (cc differ)
done_when levels bytes script s NotSaved ends quiet silent is_text fits = let differ : NotSaved ≡ Done = ends.1.1 in absurd (cc differ)
done_when levels bytes script s Refused (written, inl bad, said) quiet silent is_text fits = absurd (bad.no_text script is_text)
done_when levels bytes script s Refused (written, inr long, said) quiet silent is_text fits = let more = long.too_long in absurd (omega (arith, more, fits))
done_when levels bytes script s Usage ends quiet silent is_text fits = absurd ends
done_when levels bytes script s ReadFailed ends quiet silent is_text fits = absurd (quiet ends.0)
done_when levels bytes script s WriteFailed ends quiet silent is_text fits = absurd (silent ends.1)
done_when levels bytes script s NoMemory ends quiet silent is_text fits = inr refl

pub done_if : (levels : Levels) (left : Option (List ℕ)) (script : Script) (s : Sides) (e : Ending) (n : ℕ) → n ≡ status_of e → IfSome left (λ bytes. CommandEnds (Solo levels) bytes s e) → ¬ (Rises s.read_faults s.read_faults_now) → ¬ (Rises s.write_faults s.write_faults_now)
    → IfSome left (λ bytes. IsScriptText bytes script → length bytes ≤ greatest_length (Solo levels) → (n ≡ 0) ⊎ (n ≡ 5))
done_if levels None script s e n is told quiet silent = tt
done_if levels (Some bytes) script s e n is told quiet silent = λ is_text fits. subst (λ m. (m ≡ 0) ⊎ (m ≡ 5)) (sym is) (done_when levels bytes script s e told quiet silent is_text fits)

-- events are answered, or memory is wanted
answered_when : (bytes : List ℕ) (s : Sides) (e : Ending) → CommandEnds Tlb bytes s e → ¬ (Rises s.read_faults s.read_faults_now) → ¬ (Rises s.write_faults s.write_faults_now)
    → IsEventText bytes → length bytes ≤ greatest_length Tlb → (status_of e ≡ 0) ⊎ (status_of e ≡ 5)
answered_when bytes s Done ends quiet silent is_text fits = inl refl
answered_when bytes s Illegal ends quiet silent is_text fits = let differ : Illegal ≡ Done = ends.1.1 in absurd (cc differ)
answered_when bytes s NotSaved ends quiet silent is_text fits = let differ : NotSaved ≡ Done = ends.1.1 in absurd (cc differ)
answered_when bytes s Refused (written, inl bad, said) quiet silent is_text fits = absurd (bad.no_text is_text)
answered_when bytes s Refused (written, inr long, said) quiet silent is_text fits = let more = long.too_long in absurd (omega (arith, more, fits))
answered_when bytes s Usage ends quiet silent is_text fits = absurd ends
answered_when bytes s ReadFailed ends quiet silent is_text fits = absurd (quiet ends.0)
answered_when bytes s WriteFailed ends quiet silent is_text fits = absurd (silent ends.1)
answered_when bytes s NoMemory ends quiet silent is_text fits = inr refl

answered_if : (left : Option (List ℕ)) (s : Sides) (e : Ending) (n : ℕ) → n ≡ status_of e → IfSome left (λ bytes. CommandEnds Tlb bytes s e) → ¬ (Rises s.read_faults s.read_faults_now) → ¬ (Rises s.write_faults s.write_faults_now)
    → IfSome left (λ bytes. IsEventText bytes → length bytes ≤ greatest_length Tlb → (n ≡ 0) ⊎ (n ≡ 5))
answered_if None s e n is told quiet silent = tt
answered_if (Some bytes) s e n is told quiet silent = λ is_text fits. subst (λ m. (m ≡ 0) ⊎ (m ≡ 5)) (sym is) (answered_when bytes s e told quiet silent is_text fits)

-- a history is answered by what is found of it, or memory is wanted
same_ending : (bytes written : List ℕ) (e : Ending) (h : History) (v : Verdict) → IsVerdictText bytes e written → IsHistoryText bytes h → IsVerdict h v → e ≡ ending_of v
same_ending bytes written e h v found is_text is_verdict =
    let same : found.history ≡ h = one_history bytes h found.history is_text found.is_text in
    let here : IsVerdict h found.verdict = subst (λ x. IsVerdict x found.verdict) same found.is_verdict in
    found.ends ∙ ap ending_of (one_verdict h found.verdict v is_text.has_text here is_verdict)

judged_when : (bytes : List ℕ) (h : History) (v : Verdict) (s : Sides) (e : Ending) → CommandEnds Check bytes s e → ¬ (Rises s.read_faults s.read_faults_now) → ¬ (Rises s.write_faults s.write_faults_now)
    → IsHistoryText bytes h → length bytes ≤ greatest_length Check → IsVerdict h v → (status_of e ≡ status_of (ending_of v)) ⊎ (status_of e ≡ 5)
judged_when bytes h v s Done ends quiet silent is_text fits is_verdict = inl (ap status_of (same_ending bytes ends.0 Done h v ends.1 is_text is_verdict))
judged_when bytes h v s Illegal ends quiet silent is_text fits is_verdict = inl (ap status_of (same_ending bytes ends.0 Illegal h v ends.1 is_text is_verdict))
judged_when bytes h v s NotSaved ends quiet silent is_text fits is_verdict = inl (ap status_of (same_ending bytes ends.0 NotSaved h v ends.1 is_text is_verdict))
judged_when bytes h v s Refused (written, inl bad, said) quiet silent is_text fits is_verdict = absurd (bad.no_text h is_text)
judged_when bytes h v s Refused (written, inr long, said) quiet silent is_text fits is_verdict = let more = long.too_long in absurd (omega (arith, more, fits))
judged_when bytes h v s Usage ends quiet silent is_text fits is_verdict = absurd ends
judged_when bytes h v s ReadFailed ends quiet silent is_text fits is_verdict = absurd (quiet ends.0)
judged_when bytes h v s WriteFailed ends quiet silent is_text fits is_verdict = absurd (silent ends.1)
judged_when bytes h v s NoMemory ends quiet silent is_text fits is_verdict = inr refl

pub judged_if : (left : Option (List ℕ)) (h : History) (v : Verdict) (s : Sides) (e : Ending) (n : ℕ) → n ≡ status_of e → IfSome left (λ bytes. CommandEnds Check bytes s e) → ¬ (Rises s.read_faults s.read_faults_now) → ¬ (Rises s.write_faults s.write_faults_now)
    → IfSome left (λ bytes. IsHistoryText bytes h → length bytes ≤ greatest_length Check → IsVerdict h v → (n ≡ status_of (ending_of v)) ⊎ (n ≡ 5))
judged_if None h v s e n is told quiet silent = tt
judged_if (Some bytes) h v s e n is told quiet silent =
    λ is_text fits is_verdict. subst (λ m. (m ≡ status_of (ending_of v)) ⊎ (m ≡ 5)) (sym is) (judged_when bytes h v s e told quiet silent is_text fits is_verdict)

-- a history's victims are found, or it is not legal, or memory is wanted
ends_as_judged : (most : ℕ) (written : List ℕ) (e : Ending) (h : History) (v : Verdict) → HasText h → IsFound most h e written → IsVerdict h v → e ≡ ending_of v
ends_as_judged most written Done h v has_text found is_verdict = ap ending_of (one_verdict h (verdict.Legal (length h.entries)) v has_text (found.0, refl) is_verdict)
ends_as_judged most written Illegal h v has_text found is_verdict = ap ending_of (one_verdict h (verdict.Illegal found.0) v has_text found.1 is_verdict)
ends_as_judged most written _ h v has_text found is_verdict = absurd found

found_ending : (most : ℕ) (bytes written : List ℕ) (e : Ending) (h : History) (v : Verdict) → IsVictimsText most bytes e written → IsHistoryText bytes h → IsVerdict h v → e ≡ ending_of v
found_ending most bytes written e h v found is_text is_verdict =
    let same : found.history ≡ h = one_history bytes h found.history is_text found.is_text in
    ends_as_judged most written e h v is_text.has_text (subst (λ x. IsFound most x e written) same found.found) is_verdict

found_when : (most : ℕ) (bytes : List ℕ) (h : History) (v : Verdict) (s : Sides) (e : Ending) → CommandEnds (Victims most) bytes s e → ¬ (Rises s.read_faults s.read_faults_now) → ¬ (Rises s.write_faults s.write_faults_now)
    → IsHistoryText bytes h → length bytes ≤ greatest_length (Victims most) → IsVerdict h v → (status_of e ≡ status_of (ending_of v)) ⊎ (status_of e ≡ 5)
found_when most bytes h v s Done ends quiet silent is_text fits is_verdict = inl (ap status_of (found_ending most bytes ends.0 Done h v ends.1 is_text is_verdict))
found_when most bytes h v s Illegal ends quiet silent is_text fits is_verdict = inl (ap status_of (found_ending most bytes ends.0 Illegal h v ends.1 is_text is_verdict))
found_when most bytes h v s NotSaved ends quiet silent is_text fits is_verdict = inl (ap status_of (found_ending most bytes ends.0 NotSaved h v ends.1 is_text is_verdict))
found_when most bytes h v s Refused (written, inl bad, said) quiet silent is_text fits is_verdict = absurd (bad.no_text h is_text)
found_when most bytes h v s Refused (written, inr long, said) quiet silent is_text fits is_verdict = let more = long.too_long in absurd (omega (arith, more, fits))
found_when most bytes h v s Usage ends quiet silent is_text fits is_verdict = absurd ends
found_when most bytes h v s ReadFailed ends quiet silent is_text fits is_verdict = absurd (quiet ends.0)
found_when most bytes h v s WriteFailed ends quiet silent is_text fits is_verdict = absurd (silent ends.1)
found_when most bytes h v s NoMemory ends quiet silent is_text fits is_verdict = inr refl

found_if : (most : ℕ) (left : Option (List ℕ)) (h : History) (v : Verdict) (s : Sides) (e : Ending) (n : ℕ) → n ≡ status_of e → IfSome left (λ bytes. CommandEnds (Victims most) bytes s e) → ¬ (Rises s.read_faults s.read_faults_now) → ¬ (Rises s.write_faults s.write_faults_now)
    → IfSome left (λ bytes. IsHistoryText bytes h → length bytes ≤ greatest_length (Victims most) → IsVerdict h v → (n ≡ status_of (ending_of v)) ⊎ (n ≡ 5))
found_if most None h v s e n is told quiet silent = tt
found_if most (Some bytes) h v s e n is told quiet silent =
    λ is_text fits is_verdict. subst (λ m. (m ≡ status_of (ending_of v)) ⊎ (m ≡ 5)) (sym is) (found_when most bytes h v s e told quiet silent is_text fits is_verdict)

pub found_named : (command : Command) (most : ℕ) → command ≡ Victims most → (left : Option (List ℕ)) (h : History) (v : Verdict) (s : Sides) (e : Ending) (n : ℕ) → n ≡ status_of e → IfSome left (λ bytes. CommandEnds command bytes s e)
    → ¬ (Rises s.read_faults s.read_faults_now) → ¬ (Rises s.write_faults s.write_faults_now)
    → IfSome left (λ bytes. IsHistoryText bytes h → length bytes ≤ greatest_length (Victims most) → IsVerdict h v → (n ≡ status_of (ending_of v)) ⊎ (n ≡ 5))
found_named command most is left h v s e n status told = found_if most left h v s e n status (subst (λ k. IfSome left (λ bytes. CommandEnds k bytes s e)) is told)

-- where a text was found, no ending of it is a fault
pub no_fault_found : (most : ℕ) (h : History) (e : Ending) (written : List ℕ) → IsFound most h e written → (e ≢ ReadFailed) × (e ≢ WriteFailed) × (e ≢ NotSaved)
no_fault_found most h Done written found = (λ e. cc, λ e. cc, λ e. cc)
no_fault_found most h Illegal written found = (λ e. cc, λ e. cc, λ e. cc)
no_fault_found most h _ written found = absurd found

-- the whole text was written
pub found_ends : (most : ℕ) (bytes written : List ℕ) (h : History) (e : Ending) (s : Sides) → IsHistoryText bytes h → length bytes ≤ greatest_length (Victims most) → IsFound most h e written → HasWritten s.held s.held_now written → IsAtEnd s.left_now
    → CommandEnds (Victims most) bytes s e
found_ends most bytes written h Done s is_text fits found whole end = (written, record { history = h; is_text = is_text; fits = fits; found = found }, whole, end)
found_ends most bytes written h Illegal s is_text fits found whole end = (written, record { history = h; is_text = is_text; fits = fits; found = found }, whole, end)
found_ends most bytes written h _ s is_text fits found whole end = absurd found

-- the whole line of what was found was written
pub verdict_ends : (bytes : List ℕ) (h : History) (v : Verdict) (s : Sides) → IsHistoryText bytes h → length bytes ≤ greatest_length Check → IsVerdict h v → HasWritten s.held s.held_now (verdict_line v) → IsAtEnd s.left_now
    → CommandEnds Check bytes s (ending_of v)
verdict_ends bytes h (verdict.Legal n) s is_text fits is_verdict written end =
    (verdict_line (verdict.Legal n), record { history = h; is_text = is_text; fits = fits; verdict = verdict.Legal n; is_verdict = is_verdict; ends = refl; line = refl }, written, end)
verdict_ends bytes h (verdict.Illegal n) s is_text fits is_verdict written end =
    (verdict_line (verdict.Illegal n), record { history = h; is_text = is_text; fits = fits; verdict = verdict.Illegal n; is_verdict = is_verdict; ends = refl; line = refl }, written, end)

pub verdict_text : (bytes : List ℕ) (h : History) (v : Verdict) → IsHistoryText bytes h → length bytes ≤ greatest_length Check → IsVerdict h v → IsVerdictText bytes (ending_of v) (verdict_line v)
verdict_text bytes h v is_text fits is_verdict = record { history = h; is_text = is_text; fits = fits; verdict = v; is_verdict = is_verdict; ends = refl; line = refl }

-- no ending of a history that was judged is a fault
pub no_fault_ending : (v : Verdict) → (ending_of v ≢ ReadFailed) × (ending_of v ≢ WriteFailed) × (ending_of v ≢ NotSaved)
no_fault_ending (verdict.Legal n) = (λ e. cc, λ e. cc, λ e. cc)
no_fault_ending (verdict.Illegal n) = (λ e. cc, λ e. cc, λ e. cc)

pub told_named : (command named : Command) → command ≡ named → (left : Option (List ℕ)) (s : Sides) (e : Ending) (n : ℕ) → n ≡ status_of e → IfSome left (λ bytes. CommandEnds command bytes s e)
    → IfSome left (λ bytes. (ending : Ending) × (n ≡ status_of ending) × CommandEnds named bytes s ending)
told_named command named is left s e n status told = told_ending named left s e n status (subst (λ k. IfSome left (λ bytes. CommandEnds k bytes s e)) is told)

pub done_named : (command : Command) (levels : Levels) → command ≡ Solo levels → (left : Option (List ℕ)) (script : Script) (s : Sides) (e : Ending) (n : ℕ) → n ≡ status_of e → IfSome left (λ bytes. CommandEnds command bytes s e)
    → ¬ (Rises s.read_faults s.read_faults_now) → ¬ (Rises s.write_faults s.write_faults_now)
    → IfSome left (λ bytes. IsScriptText bytes script → length bytes ≤ greatest_length (Solo levels) → (n ≡ 0) ⊎ (n ≡ 5))
done_named command levels is left script s e n status told = done_if levels left script s e n status (subst (λ k. IfSome left (λ bytes. CommandEnds k bytes s e)) is told)

pub judged_named : (command : Command) → command ≡ Check → (left : Option (List ℕ)) (h : History) (v : Verdict) (s : Sides) (e : Ending) (n : ℕ) → n ≡ status_of e → IfSome left (λ bytes. CommandEnds command bytes s e)
    → ¬ (Rises s.read_faults s.read_faults_now) → ¬ (Rises s.write_faults s.write_faults_now)
    → IfSome left (λ bytes. IsHistoryText bytes h → length bytes ≤ greatest_length Check → IsVerdict h v → (n ≡ status_of (ending_of v)) ⊎ (n ≡ 5))
judged_named command is left h v s e n status told = judged_if left h v s e n status (subst (λ k. IfSome left (λ bytes. CommandEnds k bytes s e)) is told)

pub answered_named : (command : Command) → command ≡ Tlb → (left : Option (List ℕ)) (s : Sides) (e : Ending) (n : ℕ) → n ≡ status_of e → IfSome left (λ bytes. CommandEnds command bytes s e)
    → ¬ (Rises s.read_faults s.read_faults_now) → ¬ (Rises s.write_faults s.write_faults_now)
    → IfSome left (λ bytes. IsEventText bytes → length bytes ≤ greatest_length Tlb → (n ≡ 0) ⊎ (n ≡ 5))
answered_named command is left s e n status told = answered_if left s e n status (subst (λ k. IfSome left (λ bytes. CommandEnds k bytes s e)) is told)

pub refused_named : (command named : Command) → command ≡ named → (left : Option (List ℕ)) (s : Sides) (e : Ending) (n : ℕ) → n ≡ status_of e → IfSome left (λ bytes. CommandEnds command bytes s e)
    → ¬ (Rises s.read_faults s.read_faults_now) → IfSome left (λ bytes. (length bytes ≤ greatest_length named → IsNoText named bytes) → (n ≡ 1) ⊎ (n ≡ 5))
refused_named command named is left s e n status told = refused_if named left s e n status (subst (λ k. IfSome left (λ bytes. CommandEnds k bytes s e)) is told)

-- the line that refuses bytes, as an ending of the command
pub refusal_ends : (command : Command) (bytes : List ℕ) (line : ℕ) (s : Sides) (e : Ending) → length bytes ≤ greatest_length command → IsNoText command bytes → IsFirstFault command bytes line
    → Refuses s.held s.held_now s.write_faults s.write_faults_now (ended (codes "bad " ++ number line)) e → CommandEnds command bytes s e
refusal_ends command bytes line s Refused fits none first said = (ended (codes "bad " ++ number line), inl (record { line = line; fits = fits; no_text = none; first = first; bad = refl }), said)
refusal_ends command bytes line s NoMemory fits none first said = inr said
refusal_ends command bytes line s _ fits none first said = absurd said
