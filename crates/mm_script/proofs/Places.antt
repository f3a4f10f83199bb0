-- From one place in a script's text to another.
use Rattle.std.proofs.Common.{◌≡◌, ◌≢◌, ℕ, ◌+◌, true, false, not, cond, List, [], ◌∷◌, ◌++◌, length, refl, sym, ap, subst, ◌∙◌, arith}
use Rattle.std.proofs.lemmas.List.{append_assoc, append-nil, length-append}
use Rattle.std.proofs.lemmas.List.Elements.{All-nil, All-append, All-push, filter-append}
use Rattle.text_words.specs.Layout.{IsLine, ended, text, TextRest}
use Rattle.text_words.proofs.LineLists.{text-append, text_push}
use Rattle.mm_script.specs.ScriptText.{is_skipped, kept, IsScript, script_lines, IfBad}
use Rattle.mm_script.specs.declared.fault.ScriptFault.{ScriptFault}
use Rattle.mm_script.specs.declared.fault.ScriptFault.TheVariants as fault
use Rattle.mm_script.specs.declared.script.Script.{Script}
use Rattle.mm_script.specs.Reading.{NextLine, NoNext, NoLine, Passes, FaultFrom, Begins, Fault}

pub kept-append : (xs ys : List (List ℕ)) → kept (xs ++ ys) ≡ kept xs ++ kept ys
kept-append xs ys = filter-append (λ line. not (is_skipped line)) xs ys

pub kept_skipped : (line : List ℕ) → is_skipped line ≡ true → kept (line ∷ []) ≡ []
kept_skipped line h = ap (λ b. cond (not b) (line ∷ []) []) h

pub kept_line : (line : List ℕ) → is_skipped line ≡ false → kept (line ∷ []) ≡ line ∷ []
kept_line line h = ap (λ b. cond (not b) (line ∷ []) []) h

pub Passes-none : (place : TextRest) → Passes place place []
Passes-none place = record { between = []; are_lines = All-nil IsLine; are_kept = refl; parted = refl; counted = omega arith }

-- one more line
pub Passes-push : (old mid new : TextRest) (lines : List (List ℕ)) (line : List ℕ) → Passes old mid lines → IsLine line → mid.bytes ≡ ended line ++ new.bytes → new.taken ≡ mid.taken + 1 → Passes old new (lines ++ kept (line ∷ []))
Passes-push old mid new lines line h is_line parted counted = record {
  between = h.between ++ line ∷ [];
  are_lines = All-push IsLine h.between line h.are_lines is_line;
  are_kept = kept-append h.between (line ∷ []) ∙ ap (λ ls. ls ++ kept (line ∷ [])) h.are_kept;
  parted = h.parted ∙ ap (λ bs. text h.between ++ bs) parted ∙ sym (text_push h.between line new.bytes);
  counted = let more = length-append h.between (line ∷ []) in let before : mid.taken ≡ old.taken + length h.between = h.counted in omega arith;
}

pub Passes-append : (old mid new : TextRest) (xs ys : List (List ℕ)) → Passes old mid xs → Passes mid new ys → Passes old new (xs ++ ys)
Passes-append old mid new xs ys h g = record {
  between = h.between ++ g.between;
  are_lines = All-append IsLine h.between g.between h.are_lines g.are_lines;
  are_kept = kept-append h.between g.between ∙ ap (λ ls. ls ++ kept g.between) h.are_kept ∙ ap (λ ls. xs ++ ls) g.are_kept;
  parted = h.parted ∙ ap (λ bs. text h.between ++ bs) g.parted ∙ sym (ap (λ bs. bs ++ new.bytes) (text-append h.between g.between) ∙ append_assoc (text h.between) (text g.between) new.bytes);
  counted = let more = length-append h.between g.between in let a : mid.taken ≡ old.taken + length h.between = h.counted in let b : new.taken ≡ mid.taken + length g.between = g.counted in omega arith;
}

-- after lines that are skipped
pub NextLine-from : (old mid new : TextRest) (line : List ℕ) → Passes old mid [] → IsLine line → is_skipped line ≡ false → mid.bytes ≡ ended line ++ new.bytes → new.taken ≡ mid.taken + 1 → NextLine old new line
NextLine-from old mid new line h is_line keeps parted counted = record {
  skipped = h.between;
  are_lines = h.are_lines;
  are_skipped = h.are_kept;
  is_line = is_line;
  is_kept = kept_line line keeps;
  parted = h.parted ∙ ap (λ bs. text h.between ++ bs) parted;
  counted = let a : mid.taken ≡ old.taken + length h.between = h.counted in omega arith;
}

pub NoNext-from : (old new : TextRest) → Passes old new [] → IsLine new.bytes → NoNext old new
NoNext-from old new h ends = record { skipped = h.between; are_lines = h.are_lines; are_skipped = h.are_kept; parted = h.parted; counted = h.counted; ends = ends }

pub Passes-next : (old new : TextRest) (line : List ℕ) → NextLine old new line → Passes old new (line ∷ [])
Passes-next old new line h = record {
  between = h.skipped ++ line ∷ [];
  are_lines = All-push IsLine h.skipped line h.are_lines h.is_line;
  are_kept = kept-append h.skipped (line ∷ []) ∙ ap (λ ls. ls ++ kept (line ∷ [])) h.are_skipped ∙ h.is_kept;
  parted = h.parted ∙ sym (text_push h.skipped line new.bytes);
  counted = let more = length-append h.skipped (line ∷ []) in let a : new.taken ≡ old.taken + length h.skipped + 1 = h.counted in omega arith;
}

-- a fault behind more lines
pub FaultFrom-behind : (old mid : TextRest) (before lines : List (List ℕ)) (n : ℕ) → Passes old mid lines → FaultFrom mid (before ++ lines) n → FaultFrom old before n
FaultFrom-behind old mid before lines n h f =
    let shape : (before ++ lines) ++ kept f.between ≡ before ++ kept (h.between ++ f.between) =
    append_assoc before lines (kept f.between) ∙ ap (λ ls. before ++ ls) (sym (kept-append h.between f.between ∙ ap (λ ls. ls ++ kept f.between) h.are_kept)) in
    record {
      between = h.between ++ f.between;
      rest = f.rest;
      are_lines = All-append IsLine h.between f.between h.are_lines f.are_lines;
      parted = h.parted ∙ ap (λ bs. text h.between ++ bs) f.parted ∙ sym (ap (λ bs. bs ++ f.rest) (text-append h.between f.between) ∙ append_assoc (text h.between) (text f.between) f.rest);
      counted = let more = length-append h.between f.between in let a : mid.taken ≡ old.taken + length h.between = h.counted in let b : n ≡ mid.taken + length f.between + 1 = f.counted in omega arith;
      begins = subst Begins shape f.begins;
      fault = subst (λ ls. Fault ls f.rest) shape f.fault;
    }

-- the next line is no line with which a script goes on, or the text ends too early
skipped_none : (before : List (List ℕ)) (skipped : List (List ℕ)) → kept skipped ≡ [] → before ++ kept skipped ≡ before
skipped_none before skipped none = ap (λ ls. before ++ ls) none ∙ append-nil before

pub fault_at_line : (old new : TextRest) (before : List (List ℕ)) (line : List ℕ) → NextLine old new line → Begins before → ¬ (Begins (before ++ line ∷ [])) → FaultFrom old before new.taken
fault_at_line old new before line h begun ends =
    let same = skipped_none before h.skipped h.are_skipped in
    record {
      between = h.skipped;
      rest = ended line ++ new.bytes;
      are_lines = h.are_lines;
      parted = h.parted;
      counted = h.counted;
      begins = subst Begins (sym same) begun;
      fault = subst (λ ls. Fault ls (ended line ++ new.bytes)) (sym same)
          (Fault.outside line new.bytes h.is_line refl (λ b. ends (subst (λ ls. Begins (before ++ ls)) h.is_kept b)));
    }

fault_at_end : (old new : TextRest) (before : List (List ℕ)) → NoNext old new → Begins before → ((script : Script) → IsScript script → before ≢ script_lines script) → FaultFrom old before (new.taken + 1)
fault_at_end old new before h begun wanting =
    let same = skipped_none before h.skipped h.are_skipped in
    record {
      between = h.skipped;
      rest = new.bytes;
      are_lines = h.are_lines;
      parted = h.parted;
      counted = let a : new.taken ≡ old.taken + length h.skipped = h.counted in omega arith;
      begins = subst Begins (sym same) begun;
      fault = subst (λ ls. Fault ls new.bytes) (sym same) (at_end new.bytes h.ends);
    }
  where
    at_end : (rest : List ℕ) → IsLine rest → Fault before rest
    at_end [] ends = Fault.missing refl wanting
    at_end (b ∷ bytes) ends = Fault.unfinished ends (λ e. cc)

-- the next line has no newline
pub fault_unfinished : (old new : TextRest) (before : List (List ℕ)) → NoNext old new → Begins before → new.bytes ≢ [] → FaultFrom old before (new.taken + 1)
fault_unfinished old new before h begun some =
    let same = skipped_none before h.skipped h.are_skipped in
    record {
      between = h.skipped;
      rest = new.bytes;
      are_lines = h.are_lines;
      parted = h.parted;
      counted = let a : new.taken ≡ old.taken + length h.skipped = h.counted in omega arith;
      begins = subst Begins (sym same) begun;
      fault = subst (λ ls. Fault ls new.bytes) (sym same) (Fault.unfinished h.ends some);
    }

pub Passes-end : (old new : TextRest) → NoNext old new → Passes old new []
Passes-end old new h = record { between = h.skipped; are_lines = h.are_lines; are_kept = h.are_skipped; parted = h.parted; counted = h.counted }

pub FaultFrom-next : (old : TextRest) (before : List (List ℕ)) (n : ℕ) (P : List ℕ → Type 0) → NoLine old n P → Begins before → ((line : List ℕ) → P line → ¬ (Begins (before ++ line ∷ []))) → ((script : Script) → IsScript script → before ≢ script_lines script) → FaultFrom old before n
FaultFrom-next old before n P (NoLine.other new line next counted differs) begun ends wanting =
    subst (FaultFrom old before) (sym counted) (fault_at_line old new before line next begun (ends line differs))
FaultFrom-next old before n P (NoLine.none new next counted) begun ends wanting =
    subst (FaultFrom old before) (sym counted) (fault_at_end old new before next begun wanting)

pub IfBad-weaker : (f : ScriptFault) (P Q : ℕ → Type 0) → ((n : ℕ) → P n → Q n) → IfBad f P → IfBad f Q
IfBad-weaker (fault.Bad n) P Q more h = more n h
IfBad-weaker fault.NoMemory P Q more h = tt
