-- Which line is the first wrong one.
use Rattle.std.proofs.Common.{◌≡◌, ◌≢◌, ℕ, ◌+◌, ◌<◌, ◌≤◌, List, [], ◌∷◌, ◌++◌, drop, get_or, length, map, take, codes, refl, sym, ap, subst, ◌∙◌, arith}
use Rattle.std.specs.Prelude.{Option, Some, None, IfNone}
use Rattle.std.specs.List.{All}
use Rattle.std.proofs.lemmas.List.{append_assoc, length-append, length-map, length-take-le, map-append, take_more, take-append-drop}
use Rattle.std.proofs.lemmas.List.Elements.{All-nil, All-cons, All-head, All-tail}
use Rattle.corten_base.specs.declared.calls.Entry.{Entry}
use Rattle.corten_base.specs.declared.numbers.Accounts.{Accounts}
use Rattle.page_map.specs.State.{State, start, accounts, linked}
use Rattle.page_map.specs.History.{IsLegal, IsHistory, after, entry_step}
use Rattle.page_map.proofs.Histories.{legal_rest, legal_join, after_append}
use Rattle.text_words.specs.Grammar.{Begins}
use Rattle.text_words.proofs.Grammars.{Begins-front, Begins-whole}
use Rattle.mm_script.specs.ScriptText.{file_line, file_lines, AreFiles}
use Rattle.history_lines.specs.declared.header.Header.{Header}
use Rattle.history_lines.specs.declared.history.History.{History}
use Rattle.history_lines.specs.declared.counts.Counts.{Counts}
use Rattle.history_lines.specs.Accounting.{levels_lines, head_lines, header_lines, account_lines, frames_line, swap_line, tables_line, frames_counts, swap_counts, tables_counts, IsHeader, AreCounts}
use Rattle.history_lines.specs.HistoryText.{entry_line, head_of, history_lines, first_entry, IsEntryOf, HasText}
use Rattle.history_lines.specs.Checking.{IsRight, AreRight, IsLegalHistory, AreLegalLines, IsFirstWrong}
use Rattle.history_lines.specs.Wrong.{IsWrongAt, AreTablesRight, WrongAccount}
use Rattle.history_lines.proofs.OneEntry.{entry_line_injective}
use Rattle.history_lines.proofs.Shelves.{body_first, entry_line_no_file, entry_no_levels, first_no_levels}
use Rattle.history_lines.proofs.CountLines.{frames_line_no_entry, counts_line_injective, frames_names, swap_names, tables_names}
use Rattle.history_lines.proofs.Beginnings.{FirstBehind, behind_entries, first_behind, behind_header, last_lines}
use Rattle.history_lines.proofs.Closings.{final, closed, closed_has_text, closed_is_legal, right_frames, right_swap, right_tables}

-- one more legal entry, or the first wrong one
pub next_entry : (es : List Entry) (i : ℕ) (e : Entry) → i < length es → e ≡ get_or es i e → take (i + 1) es ≡ take i es ++ e ∷ []
next_entry es i e inside is = take_more es i e inside ∙ ap (λ x. take i es ++ x ∷ []) (sym is)

pub legal_more : (st now : State) (es : List Entry) (i : ℕ) (e : Entry) → i < length es → e ≡ get_or es i e → IsLegal st (take i es) → now ≡ after st (take i es) → IsRight now e → IsLegal st (take (i + 1) es)
legal_more st now es i e inside is legal now_is right =
    let here : IsRight (after st (take i es)) e = subst (λ s. IsRight s e) now_is right in
    subst (IsLegal st) (sym (next_entry es i e inside is)) (legal_join st (take i es) (e ∷ []) legal (here.0, here.1, tt))

pub after_more : (st now : State) (es : List Entry) (i : ℕ) (e : Entry) → i < length es → e ≡ get_or es i e → now ≡ after st (take i es) → (entry_step now e).1 ≡ after st (take (i + 1) es)
after_more st now es i e inside is now_is =
    ap (λ s. (entry_step s e).1) now_is ∙ sym (after_append st (take i es) (e ∷ [])) ∙ ap (after st) (sym (next_entry es i e inside is))

pub wrong_at : (st now : State) (es : List Entry) (i : ℕ) (e : Entry) → i < length es → drop i es ≡ e ∷ drop (i + 1) es → IsLegal st (take i es) → now ≡ after st (take i es) → ¬ (IsRight now e) → IsWrongAt st es i
wrong_at st now es i e inside next legal now_is wrong = record {
  before = take i es;
  entry = e;
  rest = drop (i + 1) es;
  parted = sym (take-append-drop i es) ∙ ap (λ r. take i es ++ r) next;
  counted = sym (length-take-le i es (omega (arith, inside)));
  legal = legal;
  wrong = λ right. wrong (subst (λ s. IsRight s e) (sym now_is) right);
}

-- the fronts of the lines of a legal history
front_legal : (h : History) → HasText h → IsLegalHistory h → (lines more : List (List ℕ)) → history_lines h ≡ lines ++ more → Begins AreLegalLines lines
front_legal h has legal lines more parted =
    Begins-front AreLegalLines lines more (subst (Begins AreLegalLines) parted (Begins-whole AreLegalLines (history_lines h) (record { history = h; has_text = has; is_legal = legal; are = refl })))

-- a history with a wrong line is not legal
pub wrong_is_illegal : (h : History) → HasText h → (n : ℕ) → IsFirstWrong (history_lines h) n → ¬ (IsLegalHistory h)
wrong_is_illegal h has n w legal =
    w.wrong (front_legal h has legal (w.before ++ w.line ∷ []) w.rest (w.parted ∙ sym (append_assoc w.before (w.line ∷ []) w.rest)))

front_entries : (v : ℕ) (xs ys : List Entry) → All (IsEntryOf v) (xs ++ ys) → All (IsEntryOf v) xs
front_entries v [] ys h = All-nil (IsEntryOf v)
front_entries v (x ∷ xs) ys h = All-cons (IsEntryOf v) x xs (All-head (IsEntryOf v) x (xs ++ ys) h) (front_entries v xs ys (All-tail (IsEntryOf v) x (xs ++ ys) h))

entry_behind : (v : ℕ) (xs ys : List Entry) (e : Entry) → All (IsEntryOf v) (xs ++ e ∷ ys) → IsEntryOf v e
entry_behind v [] ys e h = All-head (IsEntryOf v) e ys h
entry_behind v (x ∷ xs) ys e h = entry_behind v xs ys e (All-tail (IsEntryOf v) x (xs ++ e ∷ ys) h)

header_length : (head : Header) (fs m : List (List ℕ)) → length (header_lines head fs ++ m) ≡ 4 + length (levels_lines head.limits.levels) + length fs + length m
header_length head fs m =
    let long = length-append (header_lines head fs) m in
    let front = length-append (head_lines head) (file_lines fs) in
    let files = length-map fs file_line in
    omega (arith, long, front, files)

-- the lines before an entry and behind it
parted_at : (head : Header) (fs : List (List ℕ)) (es before rest : List Entry) (e : Entry) (accs : List (List ℕ)) → es ≡ before ++ e ∷ rest
    → header_lines head fs ++ (map entry_line es ++ accs) ≡ (header_lines head fs ++ map entry_line before) ++ entry_line e ∷ (map entry_line rest ++ accs)
parted_at head fs es before rest e accs parted =
    ap (λ x. header_lines head fs ++ (map entry_line x ++ accs)) parted
    ∙ ap (λ ls. header_lines head fs ++ (ls ++ accs)) (map-append entry_line before (e ∷ rest))
    ∙ ap (λ ls. header_lines head fs ++ ls) (append_assoc (map entry_line before) (entry_line e ∷ map entry_line rest) accs)
    ∙ sym (append_assoc (header_lines head fs) (map entry_line before) (entry_line e ∷ (map entry_line rest ++ accs)))

-- the header, the files and the entries of a history that goes on with an entry's line
record GoesOnWith (head : Header) (fs : List (List ℕ)) (before : List Entry) (e : Entry) (h : History) : Type 0 where
  heads : head ≡ head_of h
  files : fs ≡ h.shelf
  rest : List Entry
  entries : h.entries ≡ before ++ e ∷ rest

goes_on_with : (head : Header) (fs : List (List ℕ)) (before : List Entry) (e : Entry) (more : List (List ℕ)) (h : History) → HasText h → IsHeader head → AreFiles fs → All (IsEntryOf head.version) before → IsEntryOf head.version e
    → header_lines head fs ++ (map entry_line before ++ entry_line e ∷ more) ≡ history_lines h → GoesOnWith head fs before e h
goes_on_with head fs before e more h has hh hfs hb he same =
    let both = behind_entries head fs before hh hfs hb (entry_line e ∷ more) h has (body_first head.version before (entry_line e) more hb (entry_line_no_file e he.entry))
    (first_no_levels (entry_line e) more (entry_no_levels e he.entry)) same in
    let on = both.entries in
    elim (first_behind h.version (entry_line e) more on.more _ _ on.are_entries on.rest) [
      | FirstBehind.entry e' others goes is_entry is ↦ record {
        heads = both.heads;
        files = both.files;
        rest = others;
        entries = on.entries ∙ ap (λ m. before ++ m) goes ∙ ap (λ x. before ++ x ∷ others) (sym (entry_line_injective e e' he.entry is_entry.entry is));
      }
      | FirstBehind.account none is rest ↦ absurd (frames_line_no_entry (frames_counts h.accounts) has.accounts.frames e he.entry (sym is))
    ]

-- an entry whose reply is not the step's
no_legal_entry : (head : Header) (fs : List (List ℕ)) (before : List Entry) (e : Entry) → IsHeader head → AreFiles fs → All (IsEntryOf head.version) before → IsEntryOf head.version e → ¬ (IsRight (final head.limits fs before) e)
    → ¬ (Begins AreLegalLines ((header_lines head fs ++ map entry_line before) ++ entry_line e ∷ []))
no_legal_entry head fs before e hh hfs hb he wrong b =
    let h : History = b.goes_on.history in
    let shape : header_lines head fs ++ (map entry_line before ++ entry_line e ∷ b.more) ≡ ((header_lines head fs ++ map entry_line before) ++ entry_line e ∷ []) ++ b.more =
    sym (append_assoc (header_lines head fs ++ map entry_line before) (entry_line e ∷ []) b.more ∙ append_assoc (header_lines head fs) (map entry_line before) (entry_line e ∷ b.more)) in
    let on = goes_on_with head fs before e b.more h b.goes_on.has_text hh hfs hb he (shape ∙ b.goes_on.are) in
    let same : head.limits ≡ h.limits = ap (λ (a : Header). a.limits) on.heads in
    let legal : IsHistory head.limits fs (before ++ e ∷ on.rest) = subst (IsHistory head.limits fs) on.entries (subst (λ l. IsHistory l fs h.entries) (sym same) (subst (λ f. IsHistory h.limits f h.entries) (sym on.files) b.goes_on.is_legal.entries)) in
    let rest = legal_rest (start head.limits fs) before (e ∷ on.rest) legal in
    wrong (rest.0, rest.1)

pub verdict_at_entry : (h : History) → HasText h → (i : ℕ) → IsWrongAt (start h.limits h.shelf) h.entries i → IsFirstWrong (history_lines h) (first_entry h + i)
verdict_at_entry h has i w =
    let all : All (IsEntryOf h.version) (w.before ++ w.entry ∷ w.rest) = subst (All (IsEntryOf h.version)) w.parted has.entries in
    let hb : All (IsEntryOf h.version) w.before = front_entries h.version w.before (w.entry ∷ w.rest) all in
    let he : IsEntryOf h.version w.entry = entry_behind h.version w.before w.rest w.entry all in
    record {
      before = header_lines (head_of h) h.shelf ++ map entry_line w.before;
      line = entry_line w.entry;
      rest = map entry_line w.rest ++ account_lines h.accounts;
      parted = parted_at (head_of h) h.shelf h.entries w.before w.rest w.entry (account_lines h.accounts) w.parted;
      counted = let long = header_length (head_of h) h.shelf (map entry_line w.before) in let same = length-map w.before entry_line in let at : i ≡ length w.before = w.counted in omega (arith, long, same, at);
      begins = front_legal (closed (head_of h) h.shelf w.before) (closed_has_text (head_of h) h.shelf w.before has.head has.files hb) (closed_is_legal (head_of h) h.shelf w.before has.head hb w.legal)
          (header_lines (head_of h) h.shelf ++ map entry_line w.before) (account_lines (closed (head_of h) h.shelf w.before).accounts)
          (sym (append_assoc (header_lines (head_of h) h.shelf) (map entry_line w.before) (account_lines (closed (head_of h) h.shelf w.before).accounts)));
      wrong = no_legal_entry (head_of h) h.shelf w.before w.entry has.head has.files hb he w.wrong;
    }

-- Lines of a legal history that begins with these files, entries and a line of frames: its state and its last lines.
record LegalLast (head : Header) (fs : List (List ℕ)) (es : List Entry) (f : Counts) (xs : List (List ℕ)) : Type 0 where
  pub a : Accounts
  pub fit : HasText (record { version = head.version; limits = head.limits; shelf = fs; entries = es; accounts = a })
  pub right : AreRight (final head.limits fs es) a
  pub frames : f ≡ frames_counts a
  pub others : xs ≡ swap_line (swap_counts a) ∷ tables_line (tables_counts a) ∷ []

legal_last : (head : Header) (fs : List (List ℕ)) (es : List Entry) (f : Counts) (xs more : List (List ℕ)) → IsHeader head → AreFiles fs → All (IsEntryOf head.version) es → AreCounts f
    → AreLegalLines ((header_lines head fs ++ (map entry_line es ++ frames_line f ∷ xs)) ++ more) → LegalLast head fs es f (xs ++ more)
legal_last head fs es f xs more hh hfs he hf g =
    let h : History = g.history in
    let shape : header_lines head fs ++ (map entry_line es ++ frames_line f ∷ (xs ++ more)) ≡ (header_lines head fs ++ (map entry_line es ++ frames_line f ∷ xs)) ++ more =
    sym (behind_header head fs (map entry_line es) (frames_line f ∷ xs) more) in
    let last = last_lines head fs es f hh hfs he hf (xs ++ more) h g.has_text (shape ∙ g.are) in
    let same : head.limits ≡ h.limits = ap (λ (a : Header). a.limits) last.heads in
    let states : final h.limits h.shelf h.entries ≡ final head.limits fs es = λ i. final (sym same i) (sym last.files i) (sym last.entries i) in
    record {
      a = h.accounts;
      fit = record { head = hh; files = hfs; entries = he; accounts = g.has_text.accounts };
      right = subst (λ st. AreRight st h.accounts) states g.is_legal.accounts;
      frames = counts_line_injective (codes "frames") (codes "free") (codes "mapped") f (frames_counts h.accounts) frames_names hf g.has_text.accounts.frames last.frames;
      others = last.others;
    }

first_is : {a b : List ℕ} {xs ys : List (List ℕ)} → a ∷ xs ≡ b ∷ ys → a ≡ b
first_is same = cc

second_is : {a b c d : List ℕ} {xs ys : List (List ℕ)} → a ∷ c ∷ xs ≡ b ∷ d ∷ ys → c ≡ d
second_is same = cc

tables_like : (st : State) (a b : Accounts) → tables_counts a ≡ tables_counts b → AreTablesRight st b → AreTablesRight st a
tables_like st a b same h =
    let limbo : b.limbo ≡ a.limbo = ap (λ (c : Counts). c.third) (sym same) in
    record {
      tables = ap (λ (c : Counts). c.whole) same ∙ h.tables;
      linked_tables = ap (λ (c : Counts). c.second) same ∙ h.linked_tables;
      fits = subst (λ n. linked st + n ≤ st.limits.tables) limbo h.fits;
    }

module _ (h : History) (has : HasText h) (legal : IsHistory h.limits h.shelf h.entries) where
  abbrev st : State
  st = final h.limits h.shelf h.entries

  abbrev own : Accounts
  own = accounts st 0

  abbrev m : List (List ℕ)
  m = map entry_line h.entries

  -- the fronts of the history with the accounts of its state
  own_begins : (xs ys : List (List ℕ)) → account_lines own ≡ xs ++ ys → Begins AreLegalLines (header_lines (head_of h) h.shelf ++ (m ++ xs))
  own_begins xs ys parted =
      front_legal (closed (head_of h) h.shelf h.entries) (closed_has_text (head_of h) h.shelf h.entries has.head has.files has.entries) (closed_is_legal (head_of h) h.shelf h.entries has.head has.entries legal)
      (header_lines (head_of h) h.shelf ++ (m ++ xs)) ys (ap (λ ls. header_lines (head_of h) h.shelf ++ (m ++ ls)) parted ∙ sym (behind_header (head_of h) h.shelf m xs ys))

  count_lines : (xs : List (List ℕ)) (n i : ℕ) → n ≡ length xs → i ≡ n → first_entry h + length h.entries + i ≡ length (header_lines (head_of h) h.shelf ++ (m ++ xs)) + 1
  count_lines xs n i is at = omega (arith, header_length (head_of h) h.shelf (m ++ xs), length-append m xs, length-map h.entries entry_line, is, at)

  wrong_frames : frames_counts h.accounts ≢ frames_counts own → ¬ (Begins AreLegalLines ((header_lines (head_of h) h.shelf ++ (m ++ [])) ++ frames_line (frames_counts h.accounts) ∷ []))
  wrong_frames differ b =
      let shape : ((header_lines (head_of h) h.shelf ++ (m ++ [])) ++ frames_line (frames_counts h.accounts) ∷ []) ++ b.more ≡ (header_lines (head_of h) h.shelf ++ (m ++ frames_line (frames_counts h.accounts) ∷ [])) ++ b.more =
      ap (λ ls. ls ++ b.more) (behind_header (head_of h) h.shelf m [] (frames_line (frames_counts h.accounts) ∷ [])) in
      let last = legal_last (head_of h) h.shelf h.entries (frames_counts h.accounts) [] b.more has.head has.files has.entries has.accounts.frames (subst AreLegalLines shape b.goes_on) in
      differ (last.frames ∙ right_frames st last.a last.right)

  wrong_swap : swap_counts h.accounts ≢ swap_counts own
      → ¬ (Begins AreLegalLines ((header_lines (head_of h) h.shelf ++ (m ++ frames_line (frames_counts h.accounts) ∷ [])) ++ swap_line (swap_counts h.accounts) ∷ []))
  wrong_swap differ b =
      let line : List ℕ = swap_line (swap_counts h.accounts) in
      let shape : ((header_lines (head_of h) h.shelf ++ (m ++ frames_line (frames_counts h.accounts) ∷ [])) ++ line ∷ []) ++ b.more ≡ (header_lines (head_of h) h.shelf ++ (m ++ frames_line (frames_counts h.accounts) ∷ line ∷ [])) ++ b.more =
      ap (λ ls. ls ++ b.more) (behind_header (head_of h) h.shelf m (frames_line (frames_counts h.accounts) ∷ []) (line ∷ [])) in
      let last = legal_last (head_of h) h.shelf h.entries (frames_counts h.accounts) (line ∷ []) b.more has.head has.files has.entries has.accounts.frames (subst AreLegalLines shape b.goes_on) in
      let same = counts_line_injective (codes "swap") (codes "free") (codes "used") (swap_counts h.accounts) (swap_counts last.a) swap_names has.accounts.swap last.fit.accounts.swap (first_is last.others) in
      differ (same ∙ right_swap st last.a last.right)

  wrong_tables : ¬ (AreTablesRight st h.accounts)
      → ¬ (Begins AreLegalLines ((header_lines (head_of h) h.shelf ++ (m ++ frames_line (frames_counts h.accounts) ∷ swap_line (swap_counts h.accounts) ∷ [])) ++ tables_line (tables_counts h.accounts) ∷ []))
  wrong_tables differ b =
      let line : List ℕ = tables_line (tables_counts h.accounts) in
      let front : List (List ℕ) = swap_line (swap_counts h.accounts) ∷ [] in
      let shape : ((header_lines (head_of h) h.shelf ++ (m ++ frames_line (frames_counts h.accounts) ∷ front)) ++ line ∷ []) ++ b.more ≡ (header_lines (head_of h) h.shelf ++ (m ++ frames_line (frames_counts h.accounts) ∷ swap_line (swap_counts h.accounts) ∷ line ∷ [])) ++ b.more =
      ap (λ ls. ls ++ b.more) (behind_header (head_of h) h.shelf m (frames_line (frames_counts h.accounts) ∷ front) (line ∷ [])) in
      let last = legal_last (head_of h) h.shelf h.entries (frames_counts h.accounts) (swap_line (swap_counts h.accounts) ∷ line ∷ []) b.more has.head has.files has.entries has.accounts.frames (subst AreLegalLines shape b.goes_on) in
      let same = counts_line_injective (codes "tables") (codes "linked") (codes "limbo") (tables_counts h.accounts) (tables_counts last.a) tables_names has.accounts.tables last.fit.accounts.tables (second_is last.others) in
      differ (tables_like st h.accounts last.a same (right_tables st last.a last.right))

  pub verdict_at_account : (i : ℕ) → WrongAccount st h.accounts i → IsFirstWrong (history_lines h) (first_entry h + length h.entries + i)
  verdict_at_account i (WrongAccount.frames at differ) = record {
    before = header_lines (head_of h) h.shelf ++ (m ++ []);
    line = frames_line (frames_counts h.accounts);
    rest = swap_line (swap_counts h.accounts) ∷ tables_line (tables_counts h.accounts) ∷ [];
    parted = sym (behind_header (head_of h) h.shelf m [] (account_lines h.accounts));
    counted = count_lines [] 0 i refl at;
    begins = own_begins [] (account_lines own) refl;
    wrong = wrong_frames differ;
  }
  verdict_at_account i (WrongAccount.swap at frames differ) =
      let first : List ℕ = frames_line (frames_counts h.accounts) in
      record {
        before = header_lines (head_of h) h.shelf ++ (m ++ first ∷ []);
        line = swap_line (swap_counts h.accounts);
        rest = tables_line (tables_counts h.accounts) ∷ [];
        parted = sym (behind_header (head_of h) h.shelf m (first ∷ []) (swap_line (swap_counts h.accounts) ∷ tables_line (tables_counts h.accounts) ∷ []));
        counted = count_lines (first ∷ []) 1 i refl at;
        begins = own_begins (first ∷ []) (swap_line (swap_counts own) ∷ tables_line (tables_counts own) ∷ [])
            (ap (λ c. frames_line c ∷ swap_line (swap_counts own) ∷ tables_line (tables_counts own) ∷ []) (sym frames));
        wrong = wrong_swap differ;
      }
  verdict_at_account i (WrongAccount.tables at frames swap differ) =
      let first : List ℕ = frames_line (frames_counts h.accounts) in
      let second : List ℕ = swap_line (swap_counts h.accounts) in
      record {
        before = header_lines (head_of h) h.shelf ++ (m ++ first ∷ second ∷ []);
        line = tables_line (tables_counts h.accounts);
        rest = [];
        parted = sym (behind_header (head_of h) h.shelf m (first ∷ second ∷ []) (tables_line (tables_counts h.accounts) ∷ []));
        counted = count_lines (first ∷ second ∷ []) 2 i refl at;
        begins = own_begins (first ∷ second ∷ []) (tables_line (tables_counts own) ∷ [])
            (λ j. frames_line (sym frames j) ∷ swap_line (sym swap j) ∷ tables_line (tables_counts own) ∷ []);
        wrong = wrong_tables differ;
      }

-- what the machine found, said of the history
abbrev pub Found : History → ℕ → Type 0
Found h n = (¬ (IsLegalHistory h)) × IsFirstWrong (history_lines h) n

pub found_at_entry : (h : History) → HasText h → (st : State) (es : List Entry) → st ≡ start h.limits h.shelf → es ≡ h.entries → (i : ℕ) → IsWrongAt st es i → Found h (first_entry h + i)
found_at_entry h has st es st_is es_are i w =
    let here : IsWrongAt (start h.limits h.shelf) h.entries i = subst (λ s. IsWrongAt s h.entries i) st_is (subst (λ x. IsWrongAt st x i) es_are w) in
    let first = verdict_at_entry h has i here in
    (wrong_is_illegal h has (first_entry h + i) first, first)

pub found_at_account : (h : History) → HasText h → (st now : State) (es : List Entry) → st ≡ start h.limits h.shelf → es ≡ h.entries → IsLegal st es → now ≡ after st es → (i : ℕ) → WrongAccount now h.accounts i → Found h (first_entry h + length es + i)
found_at_account h has st now es st_is es_are legal now_is i w =
    let legal_here : IsHistory h.limits h.shelf h.entries = subst (λ s. IsLegal s h.entries) st_is (subst (IsLegal st) es_are legal) in
    let state : now ≡ final h.limits h.shelf h.entries = now_is ∙ (λ j. after (st_is j) (es_are j)) in
    let first = verdict_at_account h has legal_here i (subst (λ s. WrongAccount s h.accounts i) state w) in
    let number : first_entry h + length h.entries + i ≡ first_entry h + length es + i = ap (λ x. first_entry h + length x + i) (sym es_are) in
    subst (Found h) number (wrong_is_illegal h has (first_entry h + length h.entries + i) first, first)

-- what a search answers where it found nothing
pub none_found : (r : Option ℕ) (P : Type 0) → ((i : ℕ) → r ≢ Some i) → IfNone r P → P
none_found None P none h = h
none_found (Some i) P none h = absurd (none i refl)
