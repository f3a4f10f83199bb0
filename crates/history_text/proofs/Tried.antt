-- Entries that are tried one by one, and what is found of the text that has them.
use Rattle.std.proofs.Common.{◌≡◌, ℕ, ◌+◌, ◌≤◌, List, [], ◌∷◌, ◌++◌, length, map, refl, sym, ap, subst, ◌∙◌, arith}
use Rattle.std.specs.Prelude.{Option, Some, None}
use Rattle.std.proofs.lemmas.List.{append_assoc, length-append, length-map}
use Rattle.std.proofs.lemmas.List.Elements.{All-push}
use Rattle.corten_base.specs.declared.calls.Entry.{Entry}
use Rattle.corten_base.specs.declared.numbers.Accounts.{Accounts}
use Rattle.page_map.specs.State.{State, linked}
use Rattle.page_map.specs.History.{IsLegal, after, entry_step}
use Rattle.page_map.proofs.Histories.{legal_join, after_append}
use Rattle.text_words.specs.Layout.{TextRest}
use Rattle.text_words.specs.Passing.{Passes, FaultFrom}
use Rattle.text_words.proofs.Grammars.{first_fault}
use Rattle.text_words.proofs.Passing.{Passes-append, FaultFrom-behind}
use Rattle.mm_script.specs.ScriptText.{file_line, file_lines}
use Rattle.history_lines.specs.declared.counts.Counts.{Counts}
use Rattle.history_lines.specs.declared.header.Header.{Header}
use Rattle.history_lines.specs.declared.history.History.{History}
use Rattle.history_lines.specs.declared.verdict.Verdict.TheVariants.{Legal, Illegal}
use Rattle.history_lines.specs.Accounting.{head_lines, header_lines, levels_lines, frames_line, swap_line, tables_line, frames_counts, swap_counts, tables_counts, AreCounts}
use Rattle.history_lines.specs.Checking.{IsRight, AreRight}
use Rattle.history_lines.specs.Files.{NoFileHere}
use Rattle.history_lines.specs.HistoryText.{entry_line, first_entry, AreHistoryLines, IsEntryOf, IsFirstFault, IsHistoryText}
use Rattle.history_lines.specs.Wrong.{WrongAccount}
use Rattle.history_lines.proofs.Bodies.{more_entries, history_passed}
use Rattle.history_lines.proofs.Closings.{final, final_is_consistent}
use Rattle.history_lines.proofs.Verdicts.{Found, found_at_entry, found_at_account}
use Rattle.history_text.specs.Streaming.{AreTried, IsAt, IsBegun, IsTried, IsVerdictOf}

-- one more right entry
pub tried_right : (first : State) (begin : ℕ) (es : List Entry) (e : Entry) (now new : State) → IsTried first begin es now None → IsRight now e → new ≡ (entry_step now e).1 → IsTried first begin (es ++ e ∷ []) new None
tried_right first begin es e now new tried right is =
    let here : IsRight (after first es) e = subst (λ s. IsRight s e) tried.1 right in (
      legal_join first es (e ∷ []) tried.0 (here.0, here.1, tt),
      is ∙ ap (λ s. (entry_step s e).1) tried.1 ∙ sym (after_append first es (e ∷ [])),
    )

-- the first wrong one
pub tried_wrong : (first : State) (begin line : ℕ) (es : List Entry) (e : Entry) (now new : State) → line ≡ begin + length es → IsTried first begin es now None → ¬ (IsRight now e) → IsTried first begin (es ++ e ∷ []) new (Some line)
tried_wrong first begin line es e now new at tried wrong = (
  length es,
  at,
  record {
    before = es;
    entry = e;
    rest = [];
    parted = refl;
    counted = refl;
    legal = tried.0;
    wrong = λ right. wrong (subst (λ s. IsRight s e) (sym tried.1) right);
  },
)

-- one behind it
pub tried_behind : (first : State) (begin n : ℕ) (es : List Entry) (e : Entry) (now new : State) → IsTried first begin es now (Some n) → IsTried first begin (es ++ e ∷ []) new (Some n)
tried_behind first begin n es e now new (i, at, w) = (
  i,
  at,
  record {
    before = w.before;
    entry = w.entry;
    rest = w.rest ++ e ∷ [];
    parted = ap (λ l. l ++ e ∷ []) w.parted ∙ append_assoc w.before (w.entry ∷ w.rest) (e ∷ []);
    counted = w.counted;
    legal = w.legal;
    wrong = w.wrong;
  },
)

-- the line behind one more entry
pub at_next : (head : Header) (fs : List (List ℕ)) (old mid new : TextRest) (es : List Entry) (e : Entry) (line next : List ℕ) → IsAt head fs old es line mid → IsEntryOf head.version e → line ≡ entry_line e → Passes mid new (next ∷ [])
    → IsAt head fs old (es ++ e ∷ []) next new
at_next head fs old mid new es e line next at is_entry is more = record {
  header = at.header;
  are_files = at.are_files;
  no_levels = at.no_levels;
  are_entries = All-push (IsEntryOf head.version) es e at.are_entries is_entry;
  no_file = NoFileHere.late (some es);
  before = mid;
  passed = more_entries old at.before mid fs es e line at.passed at.next is;
  next = more;
}
  where
    some : (xs : List Entry) → xs ++ e ∷ [] ≡ [] → ⊥
    some [] same = cc
    some (x ∷ xs) same = cc

-- the number of the line behind the files
begins_at : (head : Header) (fs : List (List ℕ)) (a b c d : TextRest) (line : List ℕ) → a.taken ≡ 0 → Passes a b (head_lines head) → Passes b c (file_lines fs ++ []) → Passes c d (line ∷ []) → d.taken ≡ 5 + length (levels_lines head.limits.levels) + length fs
begins_at head fs a b c d line none first files next =
    let x : b.taken ≡ a.taken + length (head_lines head) = first.counted in
    let y : c.taken ≡ b.taken + length (file_lines fs ++ []) = files.counted in
    let z : d.taken ≡ c.taken + 1 = next.counted in
    let long = length-append (file_lines fs) [] in
    let each = length-map fs file_line in
    omega (arith, none, x, y, z, long, each)

pub is_none : (o : Option ℕ) → ((n : ℕ) → o ≡ Some n → ⊥) → o ≡ None
is_none None h = refl
is_none (Some n) h = absurd (h n refl)

-- a fault behind the version and the limits
pub body_fault : (bytes : List ℕ) (head : Header) (line : List ℕ) (next : TextRest) (st : State) (n : ℕ) (b : IsBegun bytes head line next st) → FaultFrom AreHistoryLines b.behind (head_lines head) n → IsFirstFault bytes n
body_fault bytes head line next st n b fault =
    first_fault AreHistoryLines bytes b.whole n b.bytes_are b.none_taken (FaultFrom-behind AreHistoryLines b.whole b.behind [] (head_lines head) n b.header fault)

-- a text whose entries were tried
module _ (bytes : List ℕ) (head : Header) (line : List ℕ) (next last : TextRest) (st now : State) (wrong : Option ℕ) (f : Counts) (b : IsBegun bytes head line next st) (tried : AreTried head b.files b.behind last st now next.taken wrong f) where
  abbrev body : List (List ℕ)
  body = map entry_line tried.entries ++ frames_line f ∷ []

  -- a fault behind the line of frames
  pub ends_fault : (n : ℕ) → FaultFrom AreHistoryLines last (header_lines head b.files ++ body) n → IsFirstFault bytes n
  ends_fault n fault =
      let passed : Passes b.whole last (header_lines head b.files ++ body) =
      subst (Passes b.whole last) (sym (append_assoc (head_lines head) (file_lines b.files) body)) (Passes-append b.whole b.behind last (head_lines head) (file_lines b.files ++ body) b.header tried.passed) in
      first_fault AreHistoryLines bytes b.whole n b.bytes_are b.none_taken (FaultFrom-behind AreHistoryLines b.whole last [] (header_lines head b.files ++ body) n passed fault)

  pub tried_right_now : wrong ≡ None → IsTried st next.taken tried.entries now None
  tried_right_now none = subst (IsTried st next.taken tried.entries now) none tried.tried

  state_is : wrong ≡ None → now ≡ final head.limits b.files tried.entries
  state_is none = (tried_right_now none).1 ∙ ap (λ s. after s tried.entries) b.state

  -- where each entry was right, the machine has room for its page tables
  pub tried_fits : wrong ≡ None → linked now ≤ now.limits.tables
  tried_fits none = subst (λ (s : State). linked s ≤ s.limits.tables) (sym (state_is none)) (final_is_consistent head b.files tried.entries b.at.header tried.are_entries).tables

  -- the last lines were read
  module _ (new : TextRest) (s t : Counts) (a : Accounts) (hs : AreCounts s) (ht : AreCounts t) (ends : Passes last new (swap_line s ∷ tables_line t ∷ [])) (done : new.bytes ≡ [])
      (frames : frames_counts a ≡ f) (swap : swap_counts a ≡ s) (tables : tables_counts a ≡ t) where
    abbrev read : History
    read = record { version = head.version; limits = head.limits; shelf = b.files; entries = tried.entries; accounts = a }

    is_read : IsHistoryText bytes read
    is_read =
        history_passed bytes b.whole b.behind last new head b.files tried.entries f s t a b.bytes_are b.at.header b.at.are_files tried.are_entries tried.are_counts hs ht b.header tried.passed ends done frames swap tables

    begins : next.taken ≡ first_entry read
    begins = begins_at head b.files b.whole b.behind b.at.before next line b.none_taken b.header b.at.passed b.at.next

    pub wrong_entry : (n : ℕ) → wrong ≡ Some n → IsVerdictOf bytes (Illegal n)
    wrong_entry n is =
        let found : IsTried st next.taken tried.entries now (Some n) = subst (IsTried st next.taken tried.entries now) is tried.tried in
        let number : first_entry read + found.0 ≡ n = ap (λ k. k + found.0) (sym begins) ∙ sym found.1 in
        record { history = read; is_text = is_read; is_verdict = subst (Found read) number (found_at_entry read is_read.has_text st tried.entries b.state refl found.0 found.2) }

    pub wrong_account : (i n : ℕ) → wrong ≡ None → WrongAccount now a i → n ≡ last.taken + i → IsVerdictOf bytes (Illegal n)
    wrong_account i n none w is =
        let right = tried_right_now none in
        let count : last.taken ≡ next.taken + length tried.entries = tried.counted in
        let number : first_entry read + length tried.entries + i ≡ n = omega (arith, begins, count, is) in
        record { history = read; is_text = is_read; is_verdict = subst (Found read) number (found_at_account read is_read.has_text st now tried.entries b.state refl right.0 right.1 i w) }

    pub all_right : (n : ℕ) → wrong ≡ None → AreRight now a → n + next.taken ≡ last.taken → IsVerdictOf bytes (Legal n)
    all_right n none accounts is =
        let count : last.taken ≡ next.taken + length tried.entries = tried.counted in
        let number : n ≡ length tried.entries = omega (arith, count, is) in
        record {
          history = read;
          is_text = is_read;
          is_verdict = (record { entries = subst (λ s. IsLegal s tried.entries) b.state (tried_right_now none).0; accounts = subst (λ s. AreRight s a) (state_is none) accounts }, number);
        }
