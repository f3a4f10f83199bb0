-- A text is that of one history at most, and of none where a line is outside the grammar.
use Rattle.std.proofs.Common.{◌≡◌, ◌≢◌, ℕ, List, [], ◌∷◌, ◌++◌, map, codes, refl, sym, ◌∙◌, arith}
use Rattle.std.specs.List.{All}
use Rattle.std.proofs.lemmas.List.{append-nil}
use Rattle.std.proofs.lemmas.List.Elements.{All-nil, All-cons, All-head, All-tail, All-append}
use Rattle.corten_base.specs.declared.calls.Entry.{Entry}
use Rattle.corten_base.specs.declared.numbers.Accounts.{Accounts}
use Rattle.text_words.specs.Layout.{IsLine}
use Rattle.text_words.proofs.LineLists.{SameLines, one_list_of_lines}
use Rattle.text_words.proofs.Grammars as grammars
use Rattle.history_lines.specs.declared.history.History.{History}
use Rattle.history_lines.specs.declared.counts.Counts.{Counts}
use Rattle.history_lines.specs.Accounting.{header_lines, account_lines, frames_line, swap_line, tables_line, frames_counts, swap_counts, tables_counts, AreCounts}
use Rattle.history_lines.specs.HistoryText.{entry_line, head_of, history_lines, history_text, IsEntryOf, HasText, IsHistoryText, AreHistoryLines, IsFirstFault}
use Rattle.history_lines.proofs.OneEntry.{entry_line_IsLine}
use Rattle.history_lines.proofs.CountLines.{header_are_lines, counts_IsLine, counts_line_injective, frames_names, swap_names, tables_names}
use Rattle.history_lines.proofs.Beginnings.{last_lines}

entries_are_lines : (v : ℕ) (es : List Entry) → All (IsEntryOf v) es → All IsLine (map entry_line es)
entries_are_lines v [] h = All-nil IsLine
entries_are_lines v (e ∷ es) h = All-cons IsLine (entry_line e) (map entry_line es) (entry_line_IsLine e (All-head (IsEntryOf v) e es h).entry) (entries_are_lines v es (All-tail (IsEntryOf v) e es h))

accounts_are_lines : (f s t : Counts) → AreCounts f → AreCounts s → AreCounts t → All IsLine (frames_line f ∷ swap_line s ∷ tables_line t ∷ [])
accounts_are_lines f s t hf hs ht =
    All-cons IsLine (frames_line f) (swap_line s ∷ tables_line t ∷ []) (counts_IsLine (codes "frames") (codes "free") (codes "mapped") f frames_names hf)
    (All-cons IsLine (swap_line s) (tables_line t ∷ []) (counts_IsLine (codes "swap") (codes "free") (codes "used") s swap_names hs)
    (All-cons IsLine (tables_line t) [] (counts_IsLine (codes "tables") (codes "linked") (codes "limbo") t tables_names ht) (All-nil IsLine)))

pub history_are_lines : (h : History) → HasText h → All IsLine (history_lines h)
history_are_lines h has =
    All-append IsLine (header_lines (head_of h) h.shelf) (map entry_line h.entries ++ account_lines h.accounts) (header_are_lines (head_of h) h.shelf has.head has.files)
    (All-append IsLine (map entry_line h.entries) (account_lines h.accounts) (entries_are_lines h.version h.entries has.entries)
    (accounts_are_lines (frames_counts h.accounts) (swap_counts h.accounts) (tables_counts h.accounts) has.accounts.frames has.accounts.swap has.accounts.tables))

accounts_from_counts : (a b : Accounts) → frames_counts a ≡ frames_counts b → swap_counts a ≡ swap_counts b → tables_counts a ≡ tables_counts b → a ≡ b
accounts_from_counts a b f s t = λ i. record {
  frames = (f i).whole;
  frames_free = (f i).second;
  frames_mapped = (f i).third;
  swap = (s i).whole;
  swap_free = (s i).second;
  swap_used = (s i).third;
  tables = (t i).whole;
  linked = (t i).second;
  limbo = (t i).third;
}

history_from_parts : (a b : History) → head_of a ≡ head_of b → a.shelf ≡ b.shelf → a.entries ≡ b.entries → a.accounts ≡ b.accounts → a ≡ b
history_from_parts a b heads files entries accounts = λ i. record { version = (heads i).version; limits = (heads i).limits; shelf = files i; entries = entries i; accounts = accounts i }

-- the same header, files and entries, and the same account lines
record SameBody (a b : History) : Type 0 where
  pub heads : head_of a ≡ head_of b
  pub files : a.shelf ≡ b.shelf
  pub entries : a.entries ≡ b.entries
  pub frames : frames_line (frames_counts a.accounts) ≡ frames_line (frames_counts b.accounts)
  pub swap : swap_line (swap_counts a.accounts) ≡ swap_line (swap_counts b.accounts)
  pub tables : tables_line (tables_counts a.accounts) ≡ tables_line (tables_counts b.accounts)

same_body : (a b : History) → HasText a → HasText b → history_lines a ≡ history_lines b → SameBody a b
same_body a b ha hb same =
    let last = last_lines (head_of a) a.shelf a.entries (frames_counts a.accounts) ha.head ha.files ha.entries ha.accounts.frames (swap_line (swap_counts a.accounts) ∷ tables_line (tables_counts a.accounts) ∷ []) b hb same in
    let others = last.others in
    record { heads = last.heads; files = last.files; entries = last.entries; frames = last.frames; swap = cc others; tables = cc others }

pub history_lines_injective : (a b : History) → HasText a → HasText b → history_lines a ≡ history_lines b → a ≡ b
history_lines_injective a b ha hb same =
    let body = same_body a b ha hb same in
    history_from_parts a b body.heads body.files body.entries
    (accounts_from_counts a.accounts b.accounts
    (counts_line_injective (codes "frames") (codes "free") (codes "mapped") (frames_counts a.accounts) (frames_counts b.accounts) frames_names ha.accounts.frames hb.accounts.frames body.frames)
    (counts_line_injective (codes "swap") (codes "free") (codes "used") (swap_counts a.accounts) (swap_counts b.accounts) swap_names ha.accounts.swap hb.accounts.swap body.swap)
    (counts_line_injective (codes "tables") (codes "linked") (codes "limbo") (tables_counts a.accounts) (tables_counts b.accounts) tables_names ha.accounts.tables hb.accounts.tables body.tables))

pub one_history : (bytes : List ℕ) (a b : History) → IsHistoryText bytes a → IsHistoryText bytes b → b ≡ a
one_history bytes a b ha hb =
    let none = All-nil (λ c. c ≢ 10) in
    let same : SameLines (history_lines b) [] (history_lines a) [] =
    one_list_of_lines (history_lines b) [] (history_lines a) [] (history_are_lines b hb.has_text) (history_are_lines a ha.has_text) none none
    (append-nil (history_text b) ∙ sym hb.whole ∙ ha.whole ∙ sym (append-nil (history_text a))) in
    history_lines_injective b a hb.has_text ha.has_text same.lines

pub fault_refuses : (bytes : List ℕ) (n : ℕ) (h : History) → IsFirstFault bytes n → ¬ (IsHistoryText bytes h)
fault_refuses bytes n h fault t =
    grammars.fault_refuses AreHistoryLines bytes n (history_lines h) fault (history_are_lines h t.has_text) t.whole (record { history = h; has_text = t.has_text; are = refl })

pub one_first_fault : (bytes : List ℕ) (m n : ℕ) → IsFirstFault bytes m → IsFirstFault bytes n → m ≡ n
one_first_fault bytes m n h g = grammars.one_first_fault AreHistoryLines bytes m n h g
