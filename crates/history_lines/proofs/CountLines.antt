-- Lines of three numbers, each behind its word, and the lines of limits.
use Rattle.std.proofs.Common.{◌≡◌, ◌≢◌, ℕ, ◌<◌, ◌≤◌, Bool, true, false, not, eqb, ltb, List, [], ◌∷◌, codes, refl, sym, ap, subst, ◌∙◌, arith}
use Rattle.std.specs.Prelude.{◌==◌, ◌&&◌, if◌then◌else◌}
use Rattle.std.specs.List.{All, list_all}
use Rattle.std.proofs.lemmas.Bool.{false≢true}
use Rattle.std.proofs.lemmas.Bool.Decides.{nat_tests}
use Rattle.std.proofs.lemmas.List.Elements.{All-nil, All-cons, All-head, All-tail, All-append}
use Rattle.corten_base.specs.declared.calls.Entry.{Entry}
use Rattle.text_words.specs.Layout.{HasNo, IsLine, joined, words_of}
use Rattle.text_words.specs.Spelling.{number}
use Rattle.text_words.proofs.OneValue.{number_injective}
use Rattle.text_words.proofs.SpelledBytes.{IsNoDigit, IsNoDigit-below, HasNo-number, HasNo-joined}
use Rattle.text_words.proofs.WordLists.{joined-words_of, words_of-joined}
use Rattle.mm_script.specs.ScriptText.{limit_words, file_line, file_lines, IsFile, AreFiles}
use Rattle.mm_script.proofs.FileLines.{file_line_IsLine}
use Rattle.mm_script.proofs.OneCall.{HasNo_letters}
use Rattle.history_lines.specs.declared.counts.Counts.{Counts}
use Rattle.history_lines.specs.declared.header.Header.{Header}
use Rattle.history_lines.specs.Replies.{IsCount}
use Rattle.history_lines.specs.Accounting.{version_line, levels_line, levels_lines, head_lines, header_lines, counts_words, frames_line, IsHeader, AreCounts}
use Rattle.history_lines.specs.HistoryText.{entry_line, entry_words, IsEntry, IsEntryOf}
use Rattle.history_lines.proofs.OneEntry.{words_of-entry_line}

-- a line with these words is these words joined
pub line_is : (line : List ℕ) (words : List (List ℕ)) → words_of line ≡ words → line ≡ joined words
line_is line words are = sym (joined-words_of line) ∙ ap joined are

-- three words of letters
pub record AreNames (first second third : List ℕ) : Type 0 where
  pub one : list_all (λ b. ltb 96 b) first ≡ true
  pub two : list_all (λ b. ltb 96 b) second ≡ true
  pub three : list_all (λ b. ltb 96 b) third ≡ true

count_has_no : (byte n : ℕ) → byte < 45 → IsCount n → HasNo byte (number n)
count_has_no byte n low h = HasNo-number byte n (omega arith) (IsNoDigit-below byte (omega arith))

counts_words_have_no : (byte : ℕ) (first second third : List ℕ) (c : Counts) → byte < 45 → AreNames first second third → AreCounts c → All (HasNo byte) (counts_words first second third c)
counts_words_have_no byte first second third c low names h =
    let P = HasNo byte in
    let e6 = All-cons P (number c.third) [] (count_has_no byte c.third low h.third) (All-nil P) in
    let e5 = All-cons P third (number c.third ∷ []) (HasNo_letters byte third low names.three) e6 in
    let e4 = All-cons P (number c.second) (third ∷ number c.third ∷ []) (count_has_no byte c.second low h.second) e5 in
    let e3 = All-cons P second (number c.second ∷ third ∷ number c.third ∷ []) (HasNo_letters byte second low names.two) e4 in
    let e2 = All-cons P (number c.whole) (second ∷ number c.second ∷ third ∷ number c.third ∷ []) (count_has_no byte c.whole low h.whole) e3 in
    All-cons P first (number c.whole ∷ second ∷ number c.second ∷ third ∷ number c.third ∷ []) (HasNo_letters byte first low names.one) e2

pub words_of-counts : (first second third : List ℕ) (c : Counts) → AreNames first second third → AreCounts c → words_of (joined (counts_words first second third c)) ≡ counts_words first second third c
words_of-counts first second third c names h =
    words_of-joined (counts_words first second third c) (λ e. cc) (counts_words_have_no 32 first second third c (omega arith) names h)

pub counts_IsLine : (first second third : List ℕ) (c : Counts) → AreNames first second third → AreCounts c → IsLine (joined (counts_words first second third c))
counts_IsLine first second third c names h = HasNo-joined 10 (counts_words first second third c) (λ e. omega arith) (counts_words_have_no 10 first second third c (omega arith) names h)

counts_from_parts : (c d : Counts) → c.whole ≡ d.whole → c.second ≡ d.second → c.third ≡ d.third → c ≡ d
counts_from_parts c d whole second third = λ i. record { whole = whole i; second = second i; third = third i }

same_count : (m n : ℕ) → IsCount m → IsCount n → number m ≡ number n → m ≡ n
same_count m n hm hn same = number_injective m n (omega arith) (omega arith) same

counts_words_injective : (first second third : List ℕ) (c d : Counts) → AreCounts c → AreCounts d → counts_words first second third c ≡ counts_words first second third d → c ≡ d
counts_words_injective first second third c d hc hd same =
    counts_from_parts c d (same_count c.whole d.whole hc.whole hd.whole (cc)) (same_count c.second d.second hc.second hd.second (cc)) (same_count c.third d.third hc.third hd.third (cc))

pub counts_line_injective : (first second third : List ℕ) (c d : Counts) → AreNames first second third → AreCounts c → AreCounts d → joined (counts_words first second third c) ≡ joined (counts_words first second third d) → c ≡ d
counts_line_injective first second third c d names hc hd same =
    counts_words_injective first second third c d hc hd
    (sym (words_of-counts first second third c names hc) ∙ ap words_of same ∙ words_of-counts first second third d names hd)

-- a line whose words are not such words is no such line
pub no_counts_line : (line first second third : List ℕ) → AreNames first second third → ((c : Counts) → AreCounts c → words_of line ≢ counts_words first second third c) → (c : Counts) → AreCounts c → line ≢ joined (counts_words first second third c)
no_counts_line line first second third names none c h is = none c h (ap words_of is ∙ words_of-counts first second third c names h)

pub frames_names : AreNames (codes "frames") (codes "free") (codes "mapped")
frames_names = record { one = refl; two = refl; three = refl }

pub swap_names : AreNames (codes "swap") (codes "free") (codes "used")
swap_names = record { one = refl; two = refl; three = refl }

pub tables_names : AreNames (codes "tables") (codes "linked") (codes "limbo")
tables_names = record { one = refl; two = refl; three = refl }

-- a line that is no entry's
abbrev pub IsNoEntry : List ℕ → Type 0
IsNoEntry line = (e : Entry) → IsEntry e → line ≢ entry_line e

-- a line that is no entry's in a version
abbrev pub IsNoEntryOf : ℕ → List ℕ → Type 0
IsNoEntryOf version line = (e : Entry) → IsEntryOf version e → line ≢ entry_line e

-- the letter s is in the words `frames` and `levels`, and in no number
pub no_digit_s : IsNoDigit 115
no_digit_s d small is = grind (arith, nat_tests)

tested : (byte : ℕ) (bytes : List ℕ) → HasNo byte bytes → list_all (λ b. not (eqb b byte)) bytes ≡ true
tested byte [] h = refl
tested byte (b ∷ bytes) h = go (eqb b byte) refl (tested byte bytes (All-tail (λ c. c ≢ byte) b bytes h))
  where
    go : (t : Bool) → eqb b byte ≡ t → list_all (λ c. not (eqb c byte)) bytes ≡ true → list_all (λ c. not (eqb c byte)) (b ∷ bytes) ≡ true
    go true is rest = let same : b ≡ byte = grind (arith, nat_tests) in absurd (All-head (λ c. c ≢ byte) b bytes h same)
    go false is rest = ap (λ t. not t && list_all (λ c. not (eqb c byte)) bytes) is ∙ rest

-- no thread's word is a word with a letter that is no digit
pub no_thread : (byte : ℕ) (e : Entry) (name : List ℕ) → IsNoDigit byte → IsEntry e → list_all (λ b. not (eqb b byte)) name ≡ false → number e.thread ≢ name
no_thread byte e name no_digit h has is =
    let none : HasNo byte name = subst (HasNo byte) is (HasNo-number byte e.thread (omega (arith, h.thread.1)) no_digit) in
    false≢true (sym has ∙ tested byte name none)

same_first : (a b : List ℕ) (x y : List (List ℕ)) → a ∷ x ≡ b ∷ y → a ≡ b
same_first a b x y same = cc

pub frames_line_no_entry : (c : Counts) → AreCounts c → IsNoEntry (frames_line c)
frames_line_no_entry c h e is_entry is =
    let words : entry_words e ≡ counts_words (codes "frames") (codes "free") (codes "mapped") c =
    sym (words_of-entry_line e is_entry) ∙ ap words_of (sym is) ∙ words_of-counts (codes "frames") (codes "free") (codes "mapped") c frames_names h in
    no_thread 115 e (codes "frames") no_digit_s is_entry refl (same_first (number e.thread) (codes "frames") _ _ words)

-- the lines of the header
limit_words_have_no : (byte : ℕ) (name : List ℕ) (n : ℕ) → byte < 45 → list_all (λ b. ltb 96 b) name ≡ true → n ≤ 4096 → All (HasNo byte) (limit_words name n)
limit_words_have_no byte name n low letters few =
    All-cons (HasNo byte) name (number n ∷ []) (HasNo_letters byte name low letters)
    (All-cons (HasNo byte) (number n) [] (HasNo-number byte n (omega arith) (IsNoDigit-below byte (omega arith))) (All-nil (HasNo byte)))

pub words_of-limit : (name : List ℕ) (n : ℕ) → list_all (λ b. ltb 96 b) name ≡ true → n ≤ 4096 → words_of (joined (limit_words name n)) ≡ limit_words name n
words_of-limit name n letters few = words_of-joined (limit_words name n) (λ e. cc) (limit_words_have_no 32 name n (omega arith) letters few)

limit_IsLine : (name : List ℕ) (n : ℕ) → list_all (λ b. ltb 96 b) name ≡ true → n ≤ 4096 → IsLine (joined (limit_words name n))
limit_IsLine name n letters few = HasNo-joined 10 (limit_words name n) (λ e. omega arith) (limit_words_have_no 10 name n (omega arith) letters few)

same_second : (a b c d : List ℕ) (x y : List (List ℕ)) → a ∷ b ∷ x ≡ c ∷ d ∷ y → b ≡ d
same_second a b c d x y same = cc

pub limit_line_injective : (name : List ℕ) (m n : ℕ) → list_all (λ b. ltb 96 b) name ≡ true → m ≤ 4096 → n ≤ 4096 → joined (limit_words name m) ≡ joined (limit_words name n) → m ≡ n
limit_line_injective name m n letters hm hn same =
    number_injective m n (omega arith) (omega arith)
    (same_second name (number m) name (number n) [] [] (sym (words_of-limit name m letters hm) ∙ ap words_of same ∙ words_of-limit name n letters hn))

files_are_lines : (files : List (List ℕ)) → All IsFile files → All IsLine (file_lines files)
files_are_lines [] h = All-nil IsLine
files_are_lines (f ∷ files) h = All-cons IsLine (file_line f) (file_lines files) (file_line_IsLine f (All-head IsFile f files h)) (files_are_lines files (All-tail IsFile f files h))

-- the line of five levels
levels_words_have_no : (byte : ℕ) → byte < 45 → All (HasNo byte) (codes "levels" ∷ codes "5" ∷ [])
levels_words_have_no byte low =
    let five : HasNo byte (codes "5") = All-cons (λ b. b ≢ byte) 53 [] (λ is. omega arith) (All-nil (λ b. b ≢ byte)) in
    All-cons (HasNo byte) (codes "levels") (codes "5" ∷ []) (HasNo_letters byte (codes "levels") low refl) (All-cons (HasNo byte) (codes "5") [] five (All-nil (HasNo byte)))

pub words_of-levels : words_of levels_line ≡ codes "levels" ∷ codes "5" ∷ []
words_of-levels = words_of-joined (codes "levels" ∷ codes "5" ∷ []) (λ e. cc) (levels_words_have_no 32 (omega arith))

pub levels_IsLine : IsLine levels_line
levels_IsLine = HasNo-joined 10 (codes "levels" ∷ codes "5" ∷ []) (λ e. omega arith) (levels_words_have_no 10 (omega arith))

levels_are_lines : (levels : ℕ) → All IsLine (levels_lines levels)
levels_are_lines levels =
    let one : All IsLine (levels_line ∷ []) = All-cons IsLine levels_line [] levels_IsLine (All-nil IsLine) in
    elim (levels == 5) as (λ b. All IsLine (if b then levels_line ∷ [] else [])) [ true ↦ one | false ↦ All-nil IsLine ]

pub header_are_lines : (head : Header) (files : List (List ℕ)) → IsHeader head → AreFiles files → All IsLine (header_lines head files)
header_are_lines head files h hf =
    let limits = head.limits in
    let version : List ℕ = version_line head.version in
    let frames : List ℕ = joined (limit_words (codes "frames") limits.frames) in
    let tables : List ℕ = joined (limit_words (codes "tables") limits.tables) in
    let swap : List ℕ = joined (limit_words (codes "swap") limits.swap) in
    let last : List (List ℕ) = levels_lines limits.levels in
    All-append IsLine (head_lines head) (file_lines files)
    (All-cons IsLine version (frames ∷ tables ∷ swap ∷ last) (limit_IsLine (codes "corten") head.version refl (omega (arith, h.version.1)))
    (All-cons IsLine frames (tables ∷ swap ∷ last) (limit_IsLine (codes "frames") limits.frames refl h.limits.frames.1)
    (All-cons IsLine tables (swap ∷ last) (limit_IsLine (codes "tables") limits.tables refl (omega (arith, h.limits.tables.1)))
    (All-cons IsLine swap last (limit_IsLine (codes "swap") limits.swap refl h.limits.swap.1) (levels_are_lines limits.levels)))))
    (files_are_lines files hf.each)
