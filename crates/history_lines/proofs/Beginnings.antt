-- With which lines a history text begins.
use Rattle.std.proofs.Common.{◌≡◌, ◌≢◌, ℕ, ◌≤◌, true, ltb, List, [], ◌∷◌, ◌++◌, length, map, codes, refl, sym, ap, subst, ◌∙◌, arith}
use Rattle.std.specs.List.{All, list_all}
use Rattle.std.proofs.lemmas.List.{append-nil, append_assoc, length-append}
use Rattle.std.proofs.lemmas.List.Elements.{All-nil, All-head, All-tail}
use Rattle.corten_base.specs.declared.calls.Entry.{Entry}
use Rattle.text_words.specs.Layout.{joined, words_of}
use Rattle.text_words.proofs.Grammars.{Begins-front, Begins-whole}
use Rattle.mm_script.specs.CallLine.{IsWithin}
use Rattle.mm_script.specs.ScriptText.{limit_words, file_lines, IsFile, AreFiles}
use Rattle.history_lines.specs.declared.header.Header.{Header}
use Rattle.history_lines.specs.declared.history.History.{History}
use Rattle.history_lines.specs.declared.counts.Counts.{Counts}
use Rattle.history_lines.specs.Accounting.{version_line, levels_line, levels_lines, header_lines, account_lines, counts_words, frames_line, swap_line, tables_line, frames_counts, swap_counts, tables_counts, HasLevels, IsHeader, AreCounts}
use Rattle.history_lines.specs.HistoryText.{entry_line, head_of, history_lines, IsEntryOf, HasText, AreHistoryLines, Begins}
use Rattle.history_lines.proofs.OneEntry.{entry_line_injective}
use Rattle.history_lines.specs.Files.{NoFileHere}
use Rattle.history_lines.proofs.Shelves.{HasNoLevelsFirst, FirstOther, body_first, frames_line_no_file, entry_line_no_file, files_go_on, same_files, frames_no_levels, first_no_levels, none_no_levels, files_no_levels, entries_no_levels}
use Rattle.history_lines.proofs.CountLines.{IsNoEntry, IsNoEntryOf, frames_line_no_entry, no_counts_line, limit_line_injective, frames_names, swap_names, tables_names, words_of-limit}

-- a history of these parts
abbrev pub history_of : Header → List (List ℕ) → List Entry → Counts → Counts → Counts → History
history_of head files entries f s t = record {
  version = head.version;
  limits = head.limits;
  shelf = files;
  entries = entries;
  accounts = record {
    frames = f.whole;
    frames_free = f.second;
    frames_mapped = f.third;
    swap = s.whole;
    swap_free = s.second;
    swap_used = s.third;
    tables = t.whole;
    linked = t.second;
    limbo = t.third;
  };
}

pub HasText-of : (head : Header) (files : List (List ℕ)) (entries : List Entry) (f s t : Counts) → IsHeader head → AreFiles files → All (IsEntryOf head.version) entries → AreCounts f → AreCounts s → AreCounts t
    → HasText (history_of head files entries f s t)
HasText-of head files entries f s t h hfs he hf hs ht = record {
  head = h;
  files = hfs;
  entries = he;
  accounts = record { frames = hf; swap = hs; tables = ht };
}

-- what begins a history text: each front of one
front_begins : (h : History) → HasText h → (lines more : List (List ℕ)) → history_lines h ≡ lines ++ more → Begins lines
front_begins h has lines more parted =
    Begins-front AreHistoryLines lines more (subst Begins parted (Begins-whole AreHistoryLines (history_lines h) (record { history = h; has_text = has; are = refl })))

abbrev no_counts : Counts
no_counts = record { whole = 0; second = 0; third = 0 }

no_counts_are : AreCounts no_counts
no_counts_are = record { whole = omega arith; second = omega arith; third = omega arith }

-- a version and limits, with four levels
abbrev head_from : ℕ → ℕ → ℕ → ℕ → Header
head_from version frames tables swap = record { version = version; limits = record { levels = 4; frames = frames; tables = tables; swap = swap } }

no_files_are : AreFiles []
no_files_are = record { count = omega arith; each = All-nil IsFile }

abbrev empty : Header → History
empty head = history_of head [] [] no_counts no_counts no_counts

empty_has_text : (head : Header) → IsHeader head → HasText (empty head)
empty_has_text head h = HasText-of head [] [] no_counts no_counts no_counts h no_files_are (All-nil (IsEntryOf head.version)) no_counts_are no_counts_are no_counts_are

from_numbers : (v f t s : ℕ) → IsWithin 1 2 v → IsWithin 1 4096 f → IsWithin 1 1023 t → IsWithin 0 4096 s → IsHeader (head_from v f t s)
from_numbers v f t s hv hf ht hs = record { version = hv; limits = record { frames = hf; tables = ht; swap = hs }; levels = HasLevels.four refl }

-- the least numbers
one_within : (high : ℕ) → 1 ≤ high → IsWithin 1 high 1
one_within high h = (omega arith, h)

front_from : (v f t s : ℕ) (lines more : List (List ℕ)) → IsWithin 1 2 v → IsWithin 1 4096 f → IsWithin 1 1023 t → IsWithin 0 4096 s → history_lines (empty (head_from v f t s)) ≡ lines ++ more → Begins lines
front_from v f t s lines more hv hf ht hs parted = front_begins (empty (head_from v f t s)) (empty_has_text (head_from v f t s) (from_numbers v f t s hv hf ht hs)) lines more parted

abbrev last_of : ℕ → ℕ → ℕ → List (List ℕ)
last_of f t s = account_lines (empty (head_from 1 f t s)).accounts

abbrev limit_line : List ℕ → ℕ → List ℕ
limit_line name n = joined (limit_words name n)

pub Begins-none : Begins []
Begins-none = front_from 1 1 1 0 [] (history_lines (empty (head_from 1 1 1 0))) (one_within 2 (omega arith)) (one_within 4096 (omega arith)) (one_within 1023 (omega arith)) (omega arith, omega arith) refl

pub Begins-version : (v : ℕ) → IsWithin 1 2 v → Begins (version_line v ∷ [])
Begins-version v hv =
    front_from v 1 1 0 (version_line v ∷ []) (limit_line (codes "frames") 1 ∷ limit_line (codes "tables") 1 ∷ limit_line (codes "swap") 0 ∷ last_of 1 1 0)
    hv (one_within 4096 (omega arith)) (one_within 1023 (omega arith)) (omega arith, omega arith) refl

pub Begins-frames : (v f : ℕ) → IsWithin 1 2 v → IsWithin 1 4096 f → Begins (version_line v ∷ limit_line (codes "frames") f ∷ [])
Begins-frames v f hv hf =
    front_from v f 1 0 (version_line v ∷ limit_line (codes "frames") f ∷ []) (limit_line (codes "tables") 1 ∷ limit_line (codes "swap") 0 ∷ last_of f 1 0)
    hv hf (one_within 1023 (omega arith)) (omega arith, omega arith) refl

pub Begins-tables : (v f t : ℕ) → IsWithin 1 2 v → IsWithin 1 4096 f → IsWithin 1 1023 t → Begins (version_line v ∷ limit_line (codes "frames") f ∷ limit_line (codes "tables") t ∷ [])
Begins-tables v f t hv hf ht =
    front_from v f t 0 (version_line v ∷ limit_line (codes "frames") f ∷ limit_line (codes "tables") t ∷ []) (limit_line (codes "swap") 0 ∷ last_of f t 0)
    hv hf ht (omega arith, omega arith) refl

pub Begins-entries : (head : Header) (fs : List (List ℕ)) (es : List Entry) → IsHeader head → AreFiles fs → All (IsEntryOf head.version) es → Begins (header_lines head fs ++ map entry_line es)
Begins-entries head fs es hl hfs he =
    let h : History = history_of head fs es no_counts no_counts no_counts in
    front_begins h (HasText-of head fs es no_counts no_counts no_counts hl hfs he no_counts_are no_counts_are no_counts_are)
    (header_lines head fs ++ map entry_line es) (account_lines h.accounts) (sym (append_assoc (header_lines head fs) (map entry_line es) (account_lines h.accounts)))

-- the lines behind a header, which go on with others
pub behind_header : (head : Header) (fs m xs ys : List (List ℕ)) → (header_lines head fs ++ (m ++ xs)) ++ ys ≡ header_lines head fs ++ (m ++ (xs ++ ys))
behind_header head fs m xs ys = append_assoc (header_lines head fs) (m ++ xs) ys ∙ ap (λ ls. header_lines head fs ++ ls) (append_assoc m xs ys)

-- some first lines of the accounts
module _ (head : Header) (fs : List (List ℕ)) (es : List Entry) (hl : IsHeader head) (hfs : AreFiles fs) (he : All (IsEntryOf head.version) es) where
  pub Begins-accounts : (f s t : Counts) (xs ys : List (List ℕ)) → AreCounts f → AreCounts s → AreCounts t → xs ++ ys ≡ frames_line f ∷ swap_line s ∷ tables_line t ∷ []
      → Begins (header_lines head fs ++ (map entry_line es ++ xs))
  Begins-accounts f s t xs ys hf hs ht parted =
      let h : History = history_of head fs es f s t in
      front_begins h (HasText-of head fs es f s t hl hfs he hf hs ht) (header_lines head fs ++ (map entry_line es ++ xs)) ys
      (ap (λ ls. header_lines head fs ++ (map entry_line es ++ ls)) (sym parted) ∙ sym (behind_header head fs (map entry_line es) xs ys))

  pub Begins-frames_line : (f : Counts) → AreCounts f → Begins (header_lines head fs ++ (map entry_line es ++ frames_line f ∷ []))
  Begins-frames_line f hf = Begins-accounts f no_counts no_counts (frames_line f ∷ []) (swap_line no_counts ∷ tables_line no_counts ∷ []) hf no_counts_are no_counts_are refl

  pub Begins-swap_line : (f s : Counts) → AreCounts f → AreCounts s → Begins (header_lines head fs ++ (map entry_line es ++ frames_line f ∷ swap_line s ∷ []))
  Begins-swap_line f s hf hs = Begins-accounts f s no_counts (frames_line f ∷ swap_line s ∷ []) (tables_line no_counts ∷ []) hf hs no_counts_are refl

  pub Begins-tables_line : (f s t : Counts) → AreCounts f → AreCounts s → AreCounts t → Begins (header_lines head fs ++ (map entry_line es ++ frames_line f ∷ swap_line s ∷ tables_line t ∷ []))
  Begins-tables_line f s t hf hs ht = Begins-accounts f s t (frames_line f ∷ swap_line s ∷ tables_line t ∷ []) [] hf hs ht refl

-- Entries, and lines behind them, are those of entries and an account line: then the second entries go on from the first.
pub record GoesOn (v : ℕ) (es es' : List Entry) (xs : List (List ℕ)) (line : List ℕ) (ys : List (List ℕ)) : Type 0 where
  pub more : List Entry
  pub are_entries : All (IsEntryOf v) more
  pub entries : es' ≡ es ++ more
  pub rest : xs ≡ map entry_line more ++ line ∷ ys

pub entries_go_on : (w v : ℕ) (es es' : List Entry) (xs : List (List ℕ)) (line : List ℕ) (ys : List (List ℕ)) → All (IsEntryOf w) es → All (IsEntryOf v) es' → IsNoEntry line
    → map entry_line es ++ xs ≡ map entry_line es' ++ line ∷ ys → GoesOn v es es' xs line ys
entries_go_on w v [] es' xs line ys he he' none same = record { more = es'; are_entries = he'; entries = refl; rest = same }
entries_go_on w v (e ∷ es) [] xs line ys he he' none same = absurd (none e (All-head (IsEntryOf w) e es he).entry (cc))
entries_go_on w v (e ∷ es) (e' ∷ es') xs line ys he he' none same =
    let head : e ≡ e' = entry_line_injective e e' (All-head (IsEntryOf w) e es he).entry (All-head (IsEntryOf v) e' es' he').entry (cc) in
    let rest = entries_go_on w v es es' xs line ys (All-tail (IsEntryOf w) e es he) (All-tail (IsEntryOf v) e' es' he') none (cc) in
    record { more = rest.more; are_entries = rest.are_entries; entries = ap (λ x. e' ∷ x) rest.entries ∙ ap (λ x. x ∷ (es ++ rest.more)) (sym head); rest = rest.rest }

-- the first line behind some entries
pub data FirstBehind (v : ℕ) (line : List ℕ) (xs : List (List ℕ)) (es : List Entry) (last : List ℕ) (ys : List (List ℕ)) : Type 0 where
  entry : (e : Entry) (others : List Entry) → es ≡ e ∷ others → IsEntryOf v e → line ≡ entry_line e → FirstBehind v line xs es last ys
  account : es ≡ [] → line ≡ last → xs ≡ ys → FirstBehind v line xs es last ys

pub first_behind : (v : ℕ) (line : List ℕ) (xs : List (List ℕ)) (es : List Entry) (last : List ℕ) (ys : List (List ℕ)) → All (IsEntryOf v) es → line ∷ xs ≡ map entry_line es ++ last ∷ ys → FirstBehind v line xs es last ys
first_behind v line xs [] last ys he same = FirstBehind.account refl (cc) (cc)
first_behind v line xs (e ∷ es) last ys he same = FirstBehind.entry e es refl (All-head (IsEntryOf v) e es he) (cc)

nothing_behind : (es : List Entry) (last : List ℕ) (ys : List (List ℕ)) → [] ≢ map entry_line es ++ last ∷ ys
nothing_behind [] last ys same = cc
nothing_behind (e ∷ es) last ys same = cc

-- The versions, the limits and the levels of two headers are the same, and what stands behind them.
pub record SameHeads (a b : Header) (x y : List (List ℕ)) : Type 0 where
  pub heads : a ≡ b
  pub rest : x ≡ y

-- no line of levels is still to come
abbrev pub LeavesNoLevels : Header → List (List ℕ) → Type 0
LeavesNoLevels head lines = head.version ≡ 2 → head.limits.levels ≡ 4 → HasNoLevelsFirst lines

-- the four first lines
record SameFirst (a b c d : List ℕ) (x : List (List ℕ)) (a' b' c' d' : List ℕ) (x' : List (List ℕ)) : Type 0 where
  one : a ≡ a'
  two : b ≡ b'
  three : c ≡ c'
  four : d ≡ d'
  rest : x ≡ x'

first_lines : (a b c d : List ℕ) (x : List (List ℕ)) (a' b' c' d' : List ℕ) (x' : List (List ℕ)) → a ∷ b ∷ c ∷ d ∷ x ≡ a' ∷ b' ∷ c' ∷ d' ∷ x' → SameFirst a b c d x a' b' c' d' x'
first_lines a b c d x a' b' c' d' x' same = record { one = cc; two = cc; three = cc; four = cc; rest = cc }

same_levels : (v w l m : ℕ) (x y : List (List ℕ)) → HasLevels v l → HasLevels w m → v ≡ w → (v ≡ 2 → l ≡ 4 → HasNoLevelsFirst x) → HasNoLevelsFirst y → levels_lines l ++ x ≡ levels_lines m ++ y → (l ≡ m) × (x ≡ y)
same_levels v w l m x y (HasLevels.four l_is) (HasLevels.four m_is) versions no_x no_y same =
    (l_is ∙ sym m_is, ap (λ n. levels_lines n ++ x) (sym l_is) ∙ same ∙ ap (λ n. levels_lines n ++ y) m_is)
same_levels v w l m x y (HasLevels.five l_is v_is) (HasLevels.five m_is w_is) versions no_x no_y same =
    (l_is ∙ sym m_is, behind (ap (λ n. levels_lines n ++ x) (sym l_is) ∙ same ∙ ap (λ n. levels_lines n ++ y) m_is))
  where
    behind : levels_line ∷ x ≡ levels_line ∷ y → x ≡ y
    behind whole = cc whole
same_levels v w l m x y (HasLevels.four l_is) (HasLevels.five m_is w_is) versions no_x no_y same =
    absurd (no_x (versions ∙ w_is) l_is y (ap (λ n. levels_lines n ++ x) (sym l_is) ∙ same ∙ ap (λ n. levels_lines n ++ y) m_is))
same_levels v w l m x y (HasLevels.five l_is v_is) (HasLevels.four m_is) versions no_x no_y same =
    absurd (no_y x (sym (ap (λ n. levels_lines n ++ x) (sym l_is) ∙ same ∙ ap (λ n. levels_lines n ++ y) m_is)))

same_limits : (a b : Header) → IsHeader a → IsHeader b → version_line a.version ≡ version_line b.version → limit_line (codes "frames") a.limits.frames ≡ limit_line (codes "frames") b.limits.frames
    → limit_line (codes "tables") a.limits.tables ≡ limit_line (codes "tables") b.limits.tables → limit_line (codes "swap") a.limits.swap ≡ limit_line (codes "swap") b.limits.swap → a.limits.levels ≡ b.limits.levels → a ≡ b
same_limits a b ha hb version frames tables swap levels = λ i. record {
  version = limit_line_injective (codes "corten") a.version b.version refl (omega (arith, ha.version.1)) (omega (arith, hb.version.1)) version i;
  limits = record {
    levels = levels i;
    frames = limit_line_injective (codes "frames") a.limits.frames b.limits.frames refl ha.limits.frames.1 hb.limits.frames.1 frames i;
    tables = limit_line_injective (codes "tables") a.limits.tables b.limits.tables refl (omega (arith, ha.limits.tables.1)) (omega (arith, hb.limits.tables.1)) tables i;
    swap = limit_line_injective (codes "swap") a.limits.swap b.limits.swap refl ha.limits.swap.1 hb.limits.swap.1 swap i;
  };
}

pub headers : (a b : Header) (fs gs x y : List (List ℕ)) → IsHeader a → IsHeader b → LeavesNoLevels a (file_lines fs ++ x) → HasNoLevelsFirst (file_lines gs ++ y) → header_lines a fs ++ x ≡ header_lines b gs ++ y
    → SameHeads a b (file_lines fs ++ x) (file_lines gs ++ y)
headers a b fs gs x y ha hb no_x no_y same =
    let lines = first_lines _ _ _ _ ((levels_lines a.limits.levels ++ file_lines fs) ++ x) _ _ _ _ ((levels_lines b.limits.levels ++ file_lines gs) ++ y) same in
    let versions : a.version ≡ b.version = limit_line_injective (codes "corten") a.version b.version refl (omega (arith, ha.version.1)) (omega (arith, hb.version.1)) lines.one in
    let behind : levels_lines a.limits.levels ++ (file_lines fs ++ x) ≡ levels_lines b.limits.levels ++ (file_lines gs ++ y) =
    sym (append_assoc (levels_lines a.limits.levels) (file_lines fs) x) ∙ lines.rest ∙ append_assoc (levels_lines b.limits.levels) (file_lines gs) y in
    let levels = same_levels a.version b.version a.limits.levels b.limits.levels (file_lines fs ++ x) (file_lines gs ++ y) ha.levels hb.levels versions no_x no_y behind in
    record { heads = same_limits a b ha hb lines.one lines.two lines.three lines.four levels.0; rest = levels.1 }

-- what begins no history text
no_limit : (line name : List ℕ) (n low high : ℕ) → list_all (λ b. ltb 96 b) name ≡ true → high ≤ 4096 → IsWithin low high n → ((m : ℕ) → IsWithin low high m → words_of line ≢ limit_words name m) → line ≢ joined (limit_words name n)
no_limit line name n low high letters small within none is = none n within (ap words_of is ∙ words_of-limit name n letters (omega (arith, within.1)))

pub no_version : (line : List ℕ) → ((n : ℕ) → IsWithin 1 2 n → words_of line ≢ limit_words (codes "corten") n) → ¬ (Begins ([] ++ line ∷ []))
no_version line none b =
    let are = b.goes_on.are in
    no_limit line (codes "corten") b.goes_on.history.version 1 2 refl (omega arith) b.goes_on.has_text.head.version none (cc are)

pub no_frames : (first line : List ℕ) → ((n : ℕ) → IsWithin 1 4096 n → words_of line ≢ limit_words (codes "frames") n) → ¬ (Begins ((first ∷ []) ++ line ∷ []))
no_frames first line none b =
    let are = b.goes_on.are in
    no_limit line (codes "frames") b.goes_on.history.limits.frames 1 4096 refl (omega arith) b.goes_on.has_text.head.limits.frames none (cc are)

pub no_tables : (first second line : List ℕ) → ((n : ℕ) → IsWithin 1 1023 n → words_of line ≢ limit_words (codes "tables") n) → ¬ (Begins ((first ∷ second ∷ []) ++ line ∷ []))
no_tables first second line none b =
    let are = b.goes_on.are in
    no_limit line (codes "tables") b.goes_on.history.limits.tables 1 1023 refl (omega arith) b.goes_on.has_text.head.limits.tables none (cc are)

pub no_swap : (first second third line : List ℕ) → ((n : ℕ) → IsWithin 0 4096 n → words_of line ≢ limit_words (codes "swap") n) → ¬ (Begins ((first ∷ second ∷ third ∷ []) ++ line ∷ []))
no_swap first second third line none b =
    let are = b.goes_on.are in
    no_limit line (codes "swap") b.goes_on.history.limits.swap 0 4096 refl (omega arith) b.goes_on.has_text.head.limits.swap none (cc are)

-- the first line of a history behind its files
history_first : (h : History) → HasText h → FirstOther (map entry_line h.entries ++ account_lines h.accounts)
history_first h has =
    body_first h.version h.entries (frames_line (frames_counts h.accounts)) (swap_line (swap_counts h.accounts) ∷ tables_line (tables_counts h.accounts) ∷ []) has.entries
    (frames_line_no_file (frames_counts h.accounts) has.accounts.frames)

-- behind the limits of a history, and the line of its levels, no such line comes
history_no_levels : (h : History) → HasText h → HasNoLevelsFirst (file_lines h.shelf ++ (map entry_line h.entries ++ account_lines h.accounts))
history_no_levels h has =
    files_no_levels h.shelf (map entry_line h.entries ++ account_lines h.accounts) has.files.each (entries_no_levels h.version h.entries (account_lines h.accounts) has.entries
    (first_no_levels (frames_line (frames_counts h.accounts)) (swap_line (swap_counts h.accounts) ∷ tables_line (tables_counts h.accounts) ∷ []) (frames_no_levels (frames_counts h.accounts) has.accounts.frames)))

-- a history that goes on behind a header
pub behind_head : (head : Header) (fs xs : List (List ℕ)) (h : History) → IsHeader head → HasText h → LeavesNoLevels head (file_lines fs ++ xs) → header_lines head fs ++ xs ≡ history_lines h
    → SameHeads head (head_of h) (file_lines fs ++ xs) (file_lines h.shelf ++ (map entry_line h.entries ++ account_lines h.accounts))
behind_head head fs xs h hh has none same = headers head (head_of h) fs h.shelf xs (map entry_line h.entries ++ account_lines h.accounts) hh has.head none (history_no_levels h has) same

module _ (head : Header) (fs : List (List ℕ)) (es : List Entry) (hh : IsHeader head) (hfs : AreFiles fs) (he : All (IsEntryOf head.version) es) where
  -- the header, the files and the entries of a text that goes on behind these and some entries
  pub record GoesOnBehind (xs : List (List ℕ)) (h : History) : Type 0 where
    pub heads : head ≡ head_of h
    pub files : fs ≡ h.shelf
    pub entries : GoesOn h.version es h.entries xs (frames_line (frames_counts h.accounts)) (swap_line (swap_counts h.accounts) ∷ tables_line (tables_counts h.accounts) ∷ [])

  behind_same : (xs : List (List ℕ)) (h : History) → HasText h → head ≡ head_of h → fs ≡ h.shelf → map entry_line es ++ xs ≡ map entry_line h.entries ++ account_lines h.accounts → GoesOnBehind xs h
  behind_same xs h has heads files same = record {
    heads = heads;
    files = files;
    entries = entries_go_on head.version h.version es h.entries xs (frames_line (frames_counts h.accounts)) (swap_line (swap_counts h.accounts) ∷ tables_line (tables_counts h.accounts) ∷ []) he has.entries
        (frames_line_no_entry (frames_counts h.accounts) has.accounts.frames) same;
  }

  pub behind_entries : (xs : List (List ℕ)) (h : History) → HasText h → FirstOther (map entry_line es ++ xs) → HasNoLevelsFirst xs → header_lines head fs ++ (map entry_line es ++ xs) ≡ history_lines h → GoesOnBehind xs h
  behind_entries xs h has first none same =
      let no_levels = files_no_levels fs (map entry_line es ++ xs) hfs.each (entries_no_levels head.version es xs he none) in
      let whole = behind_head head fs (map entry_line es ++ xs) h hh has (λ version levels. no_levels) same in
      let both = same_files fs h.shelf (map entry_line es ++ xs) (map entry_line h.entries ++ account_lines h.accounts) hfs.each has.files.each first (history_first h has) whole.rest in
      behind_same xs h has whole.heads both.files both.rest

-- behind entries, or where there are as many files as may be, no file's line goes on
no_more_files : (v : ℕ) (fs more : List (List ℕ)) (es : List Entry) (line : List ℕ) (xs ys : List (List ℕ)) → All (IsEntryOf v) es → NoFileHere fs es line → length (fs ++ more) ≤ 16 → All IsFile more
    → map entry_line es ++ line ∷ xs ≡ file_lines more ++ ys → more ≡ []
no_more_files v fs [] es line xs ys he none few hm same = refl
no_more_files v fs (m ∷ more) (e ∷ es) line xs ys he none few hm same = absurd (entry_line_no_file e (All-head (IsEntryOf v) e es he).entry m (All-head IsFile m more hm) (cc))
no_more_files v fs (m ∷ more) [] line xs ys he (NoFileHere.full many) few hm same = let long = length-append fs (m ∷ more) in absurd (omega (arith, long, many, few))
no_more_files v fs (m ∷ more) [] line xs ys he (NoFileHere.late some) few hm same = absurd (some refl)
no_more_files v fs (m ∷ more) [] line xs ys he (NoFileHere.other none) few hm same = absurd (none m (All-head IsFile m more hm) (cc))

-- a line that is neither a file's, where one may come, nor an entry's nor the frames'
pub no_body : (head : Header) (fs : List (List ℕ)) (es : List Entry) (line : List ℕ) → IsHeader head → AreFiles fs → All (IsEntryOf head.version) es → NoFileHere fs es line → IsNoEntryOf head.version line
    → ((xs : List (List ℕ)) → LeavesNoLevels head (file_lines fs ++ (map entry_line es ++ line ∷ xs)))
    → ((c : Counts) → AreCounts c → words_of line ≢ counts_words (codes "frames") (codes "free") (codes "mapped") c) → ¬ (Begins ((header_lines head fs ++ map entry_line es) ++ line ∷ []))
no_body head fs es line hh hfs he no_file none no_levels no_frames b =
    let h : History = b.goes_on.history in
    let has = b.goes_on.has_text in
    let body : List (List ℕ) = map entry_line h.entries ++ account_lines h.accounts in
    let shape : header_lines head fs ++ (map entry_line es ++ line ∷ b.more) ≡ ((header_lines head fs ++ map entry_line es) ++ line ∷ []) ++ b.more =
    sym (append_assoc (header_lines head fs ++ map entry_line es) (line ∷ []) b.more ∙ append_assoc (header_lines head fs) (map entry_line es) (line ∷ b.more)) in
    let whole = behind_head head fs (map entry_line es ++ line ∷ b.more) h hh has (no_levels b.more) (shape ∙ b.goes_on.are) in
    let files = files_go_on fs h.shelf (map entry_line es ++ line ∷ b.more) body hfs.each has.files.each (history_first h has) whole.rest in
    let few : length (fs ++ files.more) ≤ 16 = subst (λ l. length l ≤ 16) files.files has.files.count in
    let no_more = no_more_files head.version fs files.more es line b.more body he no_file few files.are_files files.rest in
    let same_shelf : fs ≡ h.shelf = sym (files.files ∙ ap (λ m. fs ++ m) no_more ∙ append-nil fs) in
    let on = (behind_same head fs es hh hfs he (line ∷ b.more) h has whole.heads same_shelf (files.rest ∙ ap (λ m. file_lines m ++ body) no_more)).entries in
    elim (first_behind h.version line b.more on.more _ _ on.are_entries on.rest) [
      | FirstBehind.entry e others goes is_entry is ↦ none e (subst (λ (a : Header). IsEntryOf a.version e) (sym whole.heads) is_entry) is
      | FirstBehind.account empty is rest ↦ no_counts_line line (codes "frames") (codes "free") (codes "mapped") frames_names no_frames (frames_counts h.accounts) has.accounts.frames is
    ]

-- the account lines behind the line of frames are the text's last ones
pub record LastLines (head : Header) (fs : List (List ℕ)) (es : List Entry) (xs : List (List ℕ)) (f : Counts) (h : History) : Type 0 where
  pub heads : head ≡ head_of h
  pub files : fs ≡ h.shelf
  pub entries : es ≡ h.entries
  pub frames : frames_line f ≡ frames_line (frames_counts h.accounts)
  pub others : xs ≡ swap_line (swap_counts h.accounts) ∷ tables_line (tables_counts h.accounts) ∷ []

module _ (head : Header) (fs : List (List ℕ)) (es : List Entry) (f : Counts) (hh : IsHeader head) (hfs : AreFiles fs) (he : All (IsEntryOf head.version) es) (hf : AreCounts f) where
  pub last_lines : (xs : List (List ℕ)) (h : History) → HasText h → header_lines head fs ++ (map entry_line es ++ frames_line f ∷ xs) ≡ history_lines h → LastLines head fs es xs f h
  last_lines xs h has same =
      let both = behind_entries head fs es hh hfs he (frames_line f ∷ xs) h has (body_first head.version es (frames_line f) xs he (frames_line_no_file f hf)) (first_no_levels (frames_line f) xs (frames_no_levels f hf)) same in
      let on = both.entries in
      elim (first_behind h.version (frames_line f) xs on.more _ _ on.are_entries on.rest) [
        | FirstBehind.entry e others goes is_entry is ↦ absurd (frames_line_no_entry f hf e is_entry.entry is)
        | FirstBehind.account empty is rest ↦ record {
          heads = both.heads;
          files = both.files;
          entries = sym (on.entries ∙ ap (λ m. es ++ m) empty ∙ append-nil es);
          frames = is;
          others = rest;
        }
      ]

  -- the lines of a text that goes on behind the line of frames
  after_frames : (xs ys : List (List ℕ)) → (b : Begins ((header_lines head fs ++ (map entry_line es ++ frames_line f ∷ xs)) ++ ys)) → LastLines head fs es ((xs ++ ys) ++ b.more) f b.goes_on.history
  after_frames xs ys b =
      let first : (header_lines head fs ++ (map entry_line es ++ frames_line f ∷ xs)) ++ ys ≡ header_lines head fs ++ (map entry_line es ++ frames_line f ∷ (xs ++ ys)) =
      behind_header head fs (map entry_line es) (frames_line f ∷ xs) ys in
      let whole : header_lines head fs ++ (map entry_line es ++ frames_line f ∷ ((xs ++ ys) ++ b.more)) ≡ ((header_lines head fs ++ (map entry_line es ++ frames_line f ∷ xs)) ++ ys) ++ b.more =
      sym (ap (λ ls. ls ++ b.more) first ∙ behind_header head fs (map entry_line es) (frames_line f ∷ (xs ++ ys)) b.more) in
      last_lines ((xs ++ ys) ++ b.more) b.goes_on.history b.goes_on.has_text (whole ∙ b.goes_on.are)

  pub no_swap_line : (line : List ℕ) → ((c : Counts) → AreCounts c → words_of line ≢ counts_words (codes "swap") (codes "free") (codes "used") c)
      → ¬ (Begins ((header_lines head fs ++ (map entry_line es ++ frames_line f ∷ [])) ++ line ∷ []))
  no_swap_line line none b =
      let others = (after_frames [] (line ∷ []) b).others in
      no_counts_line line (codes "swap") (codes "free") (codes "used") swap_names none (swap_counts b.goes_on.history.accounts) b.goes_on.has_text.accounts.swap (cc others)

  pub no_tables_line : (s : Counts) (line : List ℕ) → ((c : Counts) → AreCounts c → words_of line ≢ counts_words (codes "tables") (codes "linked") (codes "limbo") c)
      → ¬ (Begins ((header_lines head fs ++ (map entry_line es ++ frames_line f ∷ swap_line s ∷ [])) ++ line ∷ []))
  no_tables_line s line none b =
      let others = (after_frames (swap_line s ∷ []) (line ∷ []) b).others in
      no_counts_line line (codes "tables") (codes "linked") (codes "limbo") tables_names none (tables_counts b.goes_on.history.accounts) b.goes_on.has_text.accounts.tables (cc others)

  pub no_more : (s t : Counts) (line : List ℕ) → ¬ (Begins ((header_lines head fs ++ (map entry_line es ++ frames_line f ∷ swap_line s ∷ tables_line t ∷ [])) ++ line ∷ []))
  no_more s t line b = too_many line b.more (after_frames (swap_line s ∷ tables_line t ∷ []) (line ∷ []) b).others
    where
      too_many : {a c d e : List ℕ} (l : List ℕ) (xs : List (List ℕ)) → a ∷ c ∷ l ∷ xs ≡ d ∷ e ∷ [] → ⊥
      too_many l xs same = cc

  pub wants_swap_line : ¬ (AreHistoryLines (header_lines head fs ++ (map entry_line es ++ frames_line f ∷ [])))
  wants_swap_line h = let others = (last_lines [] h.history h.has_text h.are).others in cc others

  pub wants_tables_line : (s : Counts) → ¬ (AreHistoryLines (header_lines head fs ++ (map entry_line es ++ frames_line f ∷ swap_line s ∷ [])))
  wants_tables_line s h = let others = (last_lines (swap_line s ∷ []) h.history h.has_text h.are).others in cc others

-- lines that are not all of a history text
pub wants_version : ¬ (AreHistoryLines [])
wants_version h = let are = h.are in cc are

pub wants_frames : (first : List ℕ) → ¬ (AreHistoryLines (first ∷ []))
wants_frames first h = let are = h.are in cc are

pub wants_tables : (first second : List ℕ) → ¬ (AreHistoryLines (first ∷ second ∷ []))
wants_tables first second h = let are = h.are in cc are

pub wants_swap : (first second third : List ℕ) → ¬ (AreHistoryLines (first ∷ second ∷ third ∷ []))
wants_swap first second third h = let are = h.are in cc are

-- entries' lines alone are not the lines of files and a body
no_more_after : (v : ℕ) (more : List (List ℕ)) (es : List Entry) (ys : List (List ℕ)) → All (IsEntryOf v) es → All IsFile more → map entry_line es ≡ file_lines more ++ ys → more ≡ []
no_more_after v [] es ys he hm same = refl
no_more_after v (m ∷ more) [] ys he hm same = absurd (cc same)
no_more_after v (m ∷ more) (e ∷ es) ys he hm same = absurd (entry_line_no_file e (All-head (IsEntryOf v) e es he).entry m (All-head IsFile m more hm) (cc))

pub wants_accounts : (head : Header) (fs : List (List ℕ)) (es : List Entry) → IsHeader head → AreFiles fs → All (IsEntryOf head.version) es → ¬ (AreHistoryLines (header_lines head fs ++ map entry_line es))
wants_accounts head fs es hh hfs he g =
    let h : History = g.history in
    let has = g.has_text in
    let body : List (List ℕ) = map entry_line h.entries ++ account_lines h.accounts in
    let no_levels = files_no_levels fs (map entry_line es ++ []) hfs.each (entries_no_levels head.version es [] he none_no_levels) in
    let whole = behind_head head fs (map entry_line es) h hh has (λ version levels. subst (λ ls. HasNoLevelsFirst (file_lines fs ++ ls)) (append-nil (map entry_line es)) no_levels) g.are in
    let files = files_go_on fs h.shelf (map entry_line es) body hfs.each has.files.each (history_first h has) whole.rest in
    let none = no_more_after head.version files.more es body he files.are_files files.rest in
    let same : map entry_line es ++ [] ≡ body = append-nil (map entry_line es) ∙ files.rest ∙ ap (λ m. file_lines m ++ body) none in
    let on = entries_go_on head.version h.version es h.entries [] (frames_line (frames_counts h.accounts)) (swap_line (swap_counts h.accounts) ∷ tables_line (tables_counts h.accounts) ∷ []) he has.entries
    (frames_line_no_entry (frames_counts h.accounts) has.accounts.frames) same in
    nothing_behind on.more _ _ on.rest
