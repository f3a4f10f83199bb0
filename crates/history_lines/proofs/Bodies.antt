-- The lines of entries, one after another, and a whole text.
use Rattle.std.proofs.Common.{◌≡◌, ◌≢◌, ℕ, ◌+◌, List, [], ◌∷◌, ◌++◌, map, codes, refl, sym, ap, subst, ◌∙◌, arith}
use Rattle.std.specs.Prelude.{Option, Some, None, IfNone}
use Rattle.std.specs.List.{All}
use Rattle.std.proofs.lemmas.List.{map_push, append-nil, append_assoc, length-append}
use Rattle.std.proofs.lemmas.List.Elements.{All-push}
use Rattle.corten_base.specs.declared.calls.Entry.{Entry}
use Rattle.corten_base.specs.declared.numbers.Accounts.{Accounts}
use Rattle.text_words.specs.Layout.{IsLine, words_of, ended, text, TextRest}
use Rattle.text_words.specs.Passing.{Passes, FaultFrom}
use Rattle.text_words.proofs.Passing.{Passes-append, FaultFrom-behind, fault_at_line, fault_at_end}
use Rattle.mm_script.specs.ScriptText.{file_line, file_lines, IsFile, AreFiles}
use Rattle.history_lines.specs.declared.header.Header.{Header}
use Rattle.history_lines.specs.declared.history.History.{History}
use Rattle.history_lines.specs.declared.counts.Counts.{Counts}
use Rattle.history_lines.specs.Accounting.{levels_line, head_lines, header_lines, counts_words, frames_line, swap_line, tables_line, frames_counts, swap_counts, tables_counts, IsHeader, AreCounts}
use Rattle.history_lines.specs.Files.{IsNextFile, NoFileHere}
use Rattle.history_lines.specs.HistoryText.{entry_line, history_lines, IsEntryOf, AreHistoryLines, IsHistoryText}
use Rattle.history_lines.specs.Reading.{HasNoLevels}
use Rattle.history_lines.proofs.CountLines.{IsNoEntryOf}
use Rattle.history_lines.proofs.Beginnings.{LeavesNoLevels, Begins-entries, no_body, wants_accounts}

-- what a reader says where it found none
pub at_none : (r : Option Entry) (P : Type 0) → ((e : Entry) → r ≢ Some e) → IfNone r P → P
at_none None P none h = h
at_none (Some e) P none h = absurd (none e refl)

-- one more file, where there is no entry yet
pub more_files : (old mid new : TextRest) (fs fs' : List (List ℕ)) (es : List Entry) (line : List ℕ) → IsNextFile line es fs fs' → Passes old mid (file_lines fs ++ map entry_line es) → Passes mid new (line ∷ [])
    → Passes old new (file_lines fs' ++ map entry_line es)
more_files old mid new fs fs' es line f passed next =
    let front : Passes old mid (file_lines fs) =
    subst (Passes old mid) (append-nil (file_lines fs)) (subst (λ e. Passes old mid (file_lines fs ++ map entry_line e)) f.none passed) in
    let all : Passes old new (file_lines (fs ++ f.bytes ∷ [])) =
    subst (Passes old new) (ap (λ l. file_lines fs ++ l ∷ []) f.is_line ∙ sym (map_push file_line fs f.bytes)) (Passes-append old mid new (file_lines fs) (line ∷ []) front next) in
    subst (λ e. Passes old new (file_lines fs' ++ map entry_line e)) (sym f.none)
    (subst (Passes old new) (sym (append-nil (file_lines fs'))) (subst (λ g. Passes old new (file_lines g)) (sym f.after) all))

pub more_are_files : (fs fs' : List (List ℕ)) (es : List Entry) (line : List ℕ) → IsNextFile line es fs fs' → AreFiles fs → AreFiles fs'
more_are_files fs fs' es line f h =
    subst AreFiles (sym f.after) (record { count = let long = length-append fs (f.bytes ∷ []) in let room = f.room in omega (arith, long, room); each = All-push IsFile fs f.bytes h.each f.is_file })

-- one more entry
pub more_entries : (old mid new : TextRest) (fs : List (List ℕ)) (es : List Entry) (e : Entry) (line : List ℕ) → Passes old mid (file_lines fs ++ map entry_line es) → Passes mid new (line ∷ []) → line ≡ entry_line e
    → Passes old new (file_lines fs ++ map entry_line (es ++ e ∷ []))
more_entries old mid new fs es e line passed next is =
    subst (Passes old new)
    (ap (λ l. (file_lines fs ++ map entry_line es) ++ l ∷ []) is ∙ append_assoc (file_lines fs) (map entry_line es) (entry_line e ∷ []) ∙ ap (λ ls. file_lines fs ++ ls) (sym (map_push entry_line es e)))
    (Passes-append old mid new (file_lines fs ++ map entry_line es) (line ∷ []) passed next)

-- the line of frames behind them
pub body_ends : (old mid new : TextRest) (fs : List (List ℕ)) (es : List Entry) (f : Counts) → Passes old mid (file_lines fs ++ map entry_line es) → Passes mid new (frames_line f ∷ [])
    → Passes old new (file_lines fs ++ (map entry_line es ++ frames_line f ∷ []))
body_ends old mid new fs es f passed next =
    subst (Passes old new) (append_assoc (file_lines fs) (map entry_line es) (frames_line f ∷ []))
    (Passes-append old mid new (file_lines fs ++ map entry_line es) (frames_line f ∷ []) passed next)

-- the first line of some bytes
first_is_other : (old new : TextRest) (lines more : List (List ℕ)) (line : List ℕ) → Passes old new lines → lines ≢ [] → ((rest : List ℕ) → old.bytes ≢ ended line ++ rest) → (others : List (List ℕ)) → lines ++ more ≢ line ∷ others
first_is_other old new [] more line passed some other others same = some refl
first_is_other old new (l ∷ lines) more line passed some other others same =
    let first : l ≡ line = cc in
    other (text lines ++ new.bytes) (passed.parted ∙ append_assoc (ended l) (text lines) new.bytes ∙ ap (λ k. ended k ++ (text lines ++ new.bytes)) first)

some_lines : (xs ys : List (List ℕ)) (line : List ℕ) → (xs ++ ys) ++ line ∷ [] ≢ []
some_lines [] [] line same = cc
some_lines [] (y ∷ ys) line same = cc
some_lines (x ∷ xs) ys line same = cc

-- where no line of levels went on, none is still to come
leaves_no_levels : (old mid new : TextRest) (head : Header) (fs : List (List ℕ)) (es : List Entry) (line : List ℕ) → HasNoLevels head.version head.limits.levels old.bytes → Passes old mid (file_lines fs ++ map entry_line es)
    → Passes mid new (line ∷ []) → (xs : List (List ℕ)) → LeavesNoLevels head (file_lines fs ++ (map entry_line es ++ line ∷ xs))
leaves_no_levels old mid new head fs es line none passed next xs version levels others same =
    let passed_all = Passes-append old mid new (file_lines fs ++ map entry_line es) (line ∷ []) passed next in
    let shape : ((file_lines fs ++ map entry_line es) ++ line ∷ []) ++ xs ≡ file_lines fs ++ (map entry_line es ++ line ∷ xs) =
    append_assoc (file_lines fs ++ map entry_line es) (line ∷ []) xs ∙ append_assoc (file_lines fs) (map entry_line es) (line ∷ xs) in
    first_is_other old new ((file_lines fs ++ map entry_line es) ++ line ∷ []) xs levels_line passed_all (some_lines (file_lines fs) (map entry_line es) line) (none version levels) others (shape ∙ same)

-- the files and the entries stand behind the version and the limits
behind_head_lines : (head : Header) (fs : List (List ℕ)) (es : List Entry) (old : TextRest) (n : ℕ) → FaultFrom AreHistoryLines old (header_lines head fs ++ map entry_line es) n → FaultFrom AreHistoryLines old (head_lines head ++ (file_lines fs ++ map entry_line es)) n
behind_head_lines head fs es old n fault = subst (λ ls. FaultFrom AreHistoryLines old ls n) (append_assoc (head_lines head) (file_lines fs) (map entry_line es)) fault

pub body_fault : (old mid new : TextRest) (head : Header) (fs : List (List ℕ)) (es : List Entry) (line : List ℕ) → IsHeader head → AreFiles fs → All (IsEntryOf head.version) es → HasNoLevels head.version head.limits.levels old.bytes
    → Passes old mid (file_lines fs ++ map entry_line es) → Passes mid new (line ∷ []) → NoFileHere fs es line → IsNoEntryOf head.version line
    → ((c : Counts) → AreCounts c → words_of line ≢ counts_words (codes "frames") (codes "free") (codes "mapped") c) → FaultFrom AreHistoryLines old (head_lines head) new.taken
body_fault old mid new head fs es line hh hfs he no_levels passed next no_file none no_frames =
    FaultFrom-behind AreHistoryLines old mid (head_lines head) (file_lines fs ++ map entry_line es) new.taken passed
    (behind_head_lines head fs es mid new.taken
    (fault_at_line AreHistoryLines mid new (header_lines head fs ++ map entry_line es) line next (Begins-entries head fs es hh hfs he)
    (no_body head fs es line hh hfs he no_file none (leaves_no_levels old mid new head fs es line no_levels passed next) no_frames)))

pub end_fault : (old mid : TextRest) (head : Header) (fs : List (List ℕ)) (es : List Entry) → IsHeader head → AreFiles fs → All (IsEntryOf head.version) es → Passes old mid (file_lines fs ++ map entry_line es) → IsLine mid.bytes
    → FaultFrom AreHistoryLines old (head_lines head) (mid.taken + 1)
end_fault old mid head fs es hh hfs he passed ends =
    FaultFrom-behind AreHistoryLines old mid (head_lines head) (file_lines fs ++ map entry_line es) (mid.taken + 1) passed
    (behind_head_lines head fs es mid (mid.taken + 1)
    (fault_at_end AreHistoryLines mid (header_lines head fs ++ map entry_line es) ends (Begins-entries head fs es hh hfs he) (wants_accounts head fs es hh hfs he)))

-- a history whose lines were all passed
module _ (bytes : List ℕ) (old mid last new : TextRest) (head : Header) (fs : List (List ℕ)) (es : List Entry) (f s t : Counts) (a : Accounts) (are : old.bytes ≡ bytes) (hh : IsHeader head) (hfs : AreFiles fs) (he : All (IsEntryOf head.version) es) (hf : AreCounts f) (hs : AreCounts s) (ht : AreCounts t)
    (first : Passes old mid (head_lines head)) (body : Passes mid last (file_lines fs ++ (map entry_line es ++ frames_line f ∷ []))) (ends : Passes last new (swap_line s ∷ tables_line t ∷ [])) (done : new.bytes ≡ [])
    (frames : frames_counts a ≡ f) (swap : swap_counts a ≡ s) (tables : tables_counts a ≡ t) where
  abbrev passed_history : History
  passed_history = record { version = head.version; limits = head.limits; shelf = fs; entries = es; accounts = a }

  abbrev lines : List (List ℕ)
  lines = (header_lines head fs ++ (map entry_line es ++ frames_line f ∷ [])) ++ swap_line s ∷ tables_line t ∷ []

  passed_lines : lines ≡ history_lines passed_history
  passed_lines =
      append_assoc (header_lines head fs) (map entry_line es ++ frames_line f ∷ []) (swap_line s ∷ tables_line t ∷ [])
      ∙ ap (λ ls. header_lines head fs ++ ls) (append_assoc (map entry_line es) (frames_line f ∷ []) (swap_line s ∷ tables_line t ∷ []))
      ∙ (λ i. header_lines head fs ++ (map entry_line es ++ frames_line (sym frames i) ∷ swap_line (sym swap i) ∷ tables_line (sym tables i) ∷ []))

  pub history_passed : IsHistoryText bytes passed_history
  history_passed =
      let front : Passes old last (header_lines head fs ++ (map entry_line es ++ frames_line f ∷ [])) =
      subst (Passes old last) (sym (append_assoc (head_lines head) (file_lines fs) (map entry_line es ++ frames_line f ∷ [])))
      (Passes-append old mid last (head_lines head) (file_lines fs ++ (map entry_line es ++ frames_line f ∷ [])) first body) in
      let all = Passes-append old last new (header_lines head fs ++ (map entry_line es ++ frames_line f ∷ [])) (swap_line s ∷ tables_line t ∷ []) front ends in
      record {
        has_text = record {
          head = hh;
          files = hfs;
          entries = he;
          accounts = record { frames = subst AreCounts (sym frames) hf; swap = subst AreCounts (sym swap) hs; tables = subst AreCounts (sym tables) ht };
        };
        whole = sym are ∙ all.parted ∙ ap (λ bs. text lines ++ bs) done ∙ append-nil (text lines) ∙ ap text passed_lines;
      }
