-- The lines of files: a history text has those before its first other line.
use Rattle.std.proofs.Common.{◌≡◌, ◌≢◌, ℕ, ◌+◌, List, [], ◌∷◌, ◌++◌, take, map, codes, refl, sym, ap, subst, ◌∙◌, arith}
use Rattle.std.specs.Prelude.{Some, slice_get}
use Rattle.std.specs.List.{All}
use Rattle.std.proofs.lemmas.List.{append-nil, append_assoc, map_push, take_more}
use Rattle.std.proofs.lemmas.Option.{get_or_from_slice_get, slice_get_within}
use Rattle.std.proofs.lemmas.Bool.Decides.{nat_tests}
use Rattle.std.proofs.lemmas.List.Elements.{All-head, All-tail}
use Rattle.corten_base.specs.declared.calls.Entry.{Entry}
use Rattle.text_words.specs.Layout.{words_of, ended, text}
use Rattle.text_words.proofs.LineLists.{text-append}
use Rattle.text_words.specs.Spelling.{number}
use Rattle.text_words.proofs.SpelledBytes.{IsNoDigit}
use Rattle.mm_script.specs.ScriptText.{file_line, file_lines, IsFile}
use Rattle.mm_script.proofs.CallForms.{other_word}
use Rattle.mm_script.proofs.FileLines.{file_words, words_of-file_line, file_line_injective}
use Rattle.history_lines.specs.declared.counts.Counts.{Counts}
use Rattle.history_lines.specs.Accounting.{levels_line, counts_words, frames_line, AreCounts}
use Rattle.history_lines.specs.Files.{IsNoFile}
use Rattle.history_lines.specs.HistoryText.{entry_line, entry_words, IsEntry, IsEntryOf}
use Rattle.history_lines.proofs.OneEntry.{words_of-entry_line}
use Rattle.history_lines.proofs.CountLines.{words_of-counts, words_of-levels, frames_names, no_digit_s, no_thread}

same_first : (a b : List ℕ) (x y : List (List ℕ)) → a ∷ x ≡ b ∷ y → a ≡ b
same_first a b x y same = cc

pub frames_line_no_file : (c : Counts) → AreCounts c → IsNoFile (frames_line c)
frames_line_no_file c h bytes is_file is =
    let words : counts_words (codes "frames") (codes "free") (codes "mapped") c ≡ file_words bytes =
    sym (words_of-counts (codes "frames") (codes "free") (codes "mapped") c frames_names h) ∙ ap words_of is ∙ words_of-file_line bytes is_file in
    other_word (codes "frames") (codes "file") _ _ refl words

-- the letter i is in the word `file` and in no number
no_digit_i : IsNoDigit 105
no_digit_i d small is = grind (arith, nat_tests)

pub entry_line_no_file : (e : Entry) → IsEntry e → IsNoFile (entry_line e)
entry_line_no_file e h bytes is_file is =
    let words : entry_words e ≡ file_words bytes = sym (words_of-entry_line e h) ∙ ap words_of is ∙ words_of-file_line bytes is_file in
    no_thread 105 e (codes "file") no_digit_i h refl (same_first (number e.thread) (codes "file") _ _ words)

-- the line of five levels is none of these
no_levels : (line first : List ℕ) (words : List (List ℕ)) → words_of line ≡ first ∷ words → first ≢ codes "levels" → line ≢ levels_line
no_levels line first words are other is =
    other (same_first first (codes "levels") words (codes "5" ∷ []) (sym are ∙ ap words_of is ∙ words_of-levels))

-- lines of which the first is not that of five levels
abbrev pub HasNoLevelsFirst : List (List ℕ) → Type 0
HasNoLevelsFirst lines = (more : List (List ℕ)) → lines ≢ levels_line ∷ more

pub file_no_levels : (f : List ℕ) → IsFile f → file_line f ≢ levels_line
file_no_levels f h = no_levels (file_line f) (codes "file") _ (words_of-file_line f h) (λ same. other_word (codes "file") (codes "levels") [] [] refl (ap (λ w. w ∷ []) same))

pub entry_no_levels : (e : Entry) → IsEntry e → entry_line e ≢ levels_line
entry_no_levels e h = no_levels (entry_line e) (number e.thread) _ (words_of-entry_line e h) (no_thread 115 e (codes "levels") no_digit_s h refl)

pub frames_no_levels : (c : Counts) → AreCounts c → frames_line c ≢ levels_line
frames_no_levels c h =
    no_levels (frames_line c) (codes "frames") _ (words_of-counts (codes "frames") (codes "free") (codes "mapped") c frames_names h)
    (λ same. other_word (codes "frames") (codes "levels") [] [] refl (ap (λ w. w ∷ []) same))

pub first_no_levels : (line : List ℕ) (lines : List (List ℕ)) → line ≢ levels_line → HasNoLevelsFirst (line ∷ lines)
first_no_levels line lines other more same = other (same_first line levels_line lines more same)

pub none_no_levels : HasNoLevelsFirst []
none_no_levels more same = cc

pub files_no_levels : (fs lines : List (List ℕ)) → All IsFile fs → HasNoLevelsFirst lines → HasNoLevelsFirst (file_lines fs ++ lines)
files_no_levels [] lines hf none = none
files_no_levels (f ∷ fs) lines hf none = first_no_levels (file_line f) (file_lines fs ++ lines) (file_no_levels f (All-head IsFile f fs hf))

pub entries_no_levels : (v : ℕ) (es : List Entry) (lines : List (List ℕ)) → All (IsEntryOf v) es → HasNoLevelsFirst lines → HasNoLevelsFirst (map entry_line es ++ lines)
entries_no_levels v [] lines he none = none
entries_no_levels v (e ∷ es) lines he none = first_no_levels (entry_line e) (map entry_line es ++ lines) (entry_no_levels e (All-head (IsEntryOf v) e es he).entry)

-- lines of which the first is no file's
pub record FirstOther (lines : List (List ℕ)) : Type 0 where
  pub first : List ℕ
  pub others : List (List ℕ)
  pub are : lines ≡ first ∷ others
  pub none : IsNoFile first

-- so are entries' and the line of frames behind them
pub body_first : (v : ℕ) (es : List Entry) (last : List ℕ) (ys : List (List ℕ)) → All (IsEntryOf v) es → IsNoFile last → FirstOther (map entry_line es ++ last ∷ ys)
body_first v [] last ys he none = record { first = last; others = ys; are = refl; none = none }
body_first v (e ∷ es) last ys he none = record { first = entry_line e; others = map entry_line es ++ last ∷ ys; are = refl; none = entry_line_no_file e (All-head (IsEntryOf v) e es he).entry }

-- Files' lines, and lines behind them, are those of files and others: then the second files go on from the first.
pub record FilesGoOn (fs fs' xs ys : List (List ℕ)) : Type 0 where
  pub more : List (List ℕ)
  pub are_files : All IsFile more
  pub files : fs' ≡ fs ++ more
  pub rest : xs ≡ file_lines more ++ ys

-- the line of a file is not the first of others
not_other : (f : List ℕ) (xs ys : List (List ℕ)) → IsFile f → FirstOther ys → file_line f ∷ xs ≢ ys
not_other f xs ys h o same = let whole : file_line f ∷ xs ≡ o.first ∷ o.others = same ∙ o.are in o.none f h (sym (same_first _ _ _ _ whole))

pub files_go_on : (fs fs' xs ys : List (List ℕ)) → All IsFile fs → All IsFile fs' → FirstOther ys → file_lines fs ++ xs ≡ file_lines fs' ++ ys → FilesGoOn fs fs' xs ys
files_go_on [] fs' xs ys h h' o same = record { more = fs'; are_files = h'; files = refl; rest = same }
files_go_on (f ∷ fs) [] xs ys h h' o same = absurd (not_other f (file_lines fs ++ xs) ys (All-head IsFile f fs h) o same)
files_go_on (f ∷ fs) (f' ∷ fs') xs ys h h' o same =
    let head : f ≡ f' = file_line_injective f f' (All-head IsFile f fs h) (All-head IsFile f' fs' h') (same_first _ _ _ _ same) in
    let rest = files_go_on fs fs' xs ys (All-tail IsFile f fs h) (All-tail IsFile f' fs' h') o (cc) in
    record { more = rest.more; are_files = rest.are_files; files = ap (λ x. f' ∷ x) rest.files ∙ ap (λ x. x ∷ (fs ++ rest.more)) (sym head); rest = rest.rest }

-- the same files, and the same lines behind them
pub record SameFiles (fs fs' xs ys : List (List ℕ)) : Type 0 where
  pub files : fs ≡ fs'
  pub rest : xs ≡ ys

pub same_files : (fs fs' xs ys : List (List ℕ)) → All IsFile fs → All IsFile fs' → FirstOther xs → FirstOther ys → file_lines fs ++ xs ≡ file_lines fs' ++ ys → SameFiles fs fs' xs ys
same_files [] [] xs ys h h' o o' same = record { files = refl; rest = same }
same_files [] (f' ∷ fs') xs ys h h' o o' same = absurd (not_other f' (file_lines fs' ++ ys) xs (All-head IsFile f' fs' h') o (sym same))
same_files (f ∷ fs) [] xs ys h h' o o' same = absurd (not_other f (file_lines fs ++ xs) ys (All-head IsFile f fs h) o' same)
same_files (f ∷ fs) (f' ∷ fs') xs ys h h' o o' same =
    let head : f ≡ f' = file_line_injective f f' (All-head IsFile f fs h) (All-head IsFile f' fs' h') (same_first _ _ _ _ same) in
    let rest = same_files fs fs' xs ys (All-tail IsFile f fs h) (All-tail IsFile f' fs' h') o o' (cc) in
    record { files = (λ i. head i ∷ rest.files i); rest = rest.rest }

-- the next file of a shelf
pub next_file : (fs : List (List ℕ)) (i : ℕ) (bytes : List ℕ) → Some bytes ≡ slice_get fs i → take (i + 1) fs ≡ take i fs ++ bytes ∷ []
next_file fs i bytes is =
    take_more fs i bytes (slice_get_within fs i bytes (sym is)) ∙ ap (λ b. take i fs ++ b ∷ []) (get_or_from_slice_get fs i bytes bytes (sym is))

-- the line of the next file
pub next_file_line : (fs : List (List ℕ)) (i : ℕ) (bytes before out : List ℕ) → Some bytes ≡ slice_get fs i → out ≡ before ++ text (file_lines (take i fs))
    → (out ++ file_line bytes) ++ 10 ∷ [] ≡ before ++ text (file_lines (take (i + 1) fs))
next_file_line fs i bytes before out is written =
    append_assoc out (file_line bytes) (10 ∷ [])
    ∙ ap (λ t. t ++ ended (file_line bytes)) written
    ∙ append_assoc before (text (file_lines (take i fs))) (ended (file_line bytes))
    ∙ ap (λ t. before ++ t)
    (ap (λ t. text (file_lines (take i fs)) ++ t) (sym (append-nil (ended (file_line bytes))))
    ∙ sym (text-append (file_lines (take i fs)) (file_line bytes ∷ []))
    ∙ ap text (sym (map_push file_line (take i fs) bytes) ∙ ap file_lines (sym (next_file fs i bytes is))))
