-- A line is that of one entry at most, and its words are the entry's.
use Rattle.std.proofs.Common.{◌≡◌, ◌≢◌, ℕ, ◌<◌, ◌≤◌, List, [], ◌∷◌, ◌++◌, codes, refl, sym, ap, subst, ◌∙◌, arith}
use Rattle.std.specs.Prelude.{Option, Some, None, IfSome, IfNone}
use Rattle.std.specs.List.{All}
use Rattle.std.proofs.lemmas.List.{append-nil, append_assoc}
use Rattle.std.proofs.lemmas.List.Elements.{All-nil, All-cons, All-append}
use Rattle.corten_base.specs.declared.calls.Call.{Call}
use Rattle.corten_base.specs.declared.calls.Entry.{Entry}
use Rattle.corten_base.specs.declared.calls.Reply.{Reply}
use Rattle.text_words.specs.Layout.{HasNo, IsLine, joined, words_of}
use Rattle.text_words.specs.Spelling.{number}
use Rattle.text_words.proofs.OneValue.{number_injective}
use Rattle.text_words.proofs.SpelledBytes.{IsNoDigit-below, HasNo-number, HasNo-joined}
use Rattle.text_words.proofs.WordLists.{joined-words_of, words_of-joined}
use Rattle.mm_script.specs.CallLine.{call_words, spaced, IsCall, EndsCall}
use Rattle.mm_script.proofs.CallForms.{other_word}
use Rattle.mm_script.proofs.OpLines.{joined_spaced, spaced-append}
use Rattle.mm_script.proofs.OneCall.{one_call, call_words_have_no, ends_before}
use Rattle.history_lines.specs.Replies.{reply_words, IsReply}
use Rattle.history_lines.specs.HistoryText.{entry_words, entry_line, since, IsEntry, IsEntryOf}
use Rattle.history_lines.proofs.OneReply.{one_reply, reply_words_have_no}

-- the same entry, and the same words behind it
pub record SameEntry (a b : Entry) (x y : List (List ℕ)) : Type 0 where
  pub entries : a ≡ b
  pub rest : x ≡ y

entry_from_parts : (a b : Entry) → a.thread ≡ b.thread → a.call ≡ b.call → a.reply ≡ b.reply → a ≡ b
entry_from_parts a b thread call reply = λ i. record { thread = thread i; call = call i; reply = reply i }

entry_words-append : (e : Entry) (x : List (List ℕ)) → entry_words e ++ x ≡ number e.thread ∷ (call_words e.call ++ codes "=" ∷ (reply_words e.reply ++ x))
entry_words-append e x = ap (λ ws. number e.thread ∷ ws) (append_assoc (call_words e.call) (codes "=" ∷ reply_words e.reply) x)

same_first : (a b : List ℕ) (x y : List (List ℕ)) → a ∷ x ≡ b ∷ y → a ≡ b
same_first a b x y same = cc

same_behind : (a b : List ℕ) (x y : List (List ℕ)) → a ∷ x ≡ b ∷ y → x ≡ y
same_behind a b x y same = cc

-- `=` is no further operation of a transaction
ends_here : (c : Call) (words : List (List ℕ)) → EndsCall c (codes "=" ∷ words)
ends_here c words = ends_before c (codes "=") words (λ e. other_word (codes "=") (codes ";") [] [] refl (ap (λ w. w ∷ []) e))

-- words begin with the words of one entry at most
pub one_entry : (a b : Entry) (x y : List (List ℕ)) → IsEntry a → IsEntry b → entry_words a ++ x ≡ entry_words b ++ y → SameEntry a b x y
one_entry a b x y ha hb same =
    let from_call : List (List ℕ) = call_words a.call ++ codes "=" ∷ (reply_words a.reply ++ x) in
    let from_call' : List (List ℕ) = call_words b.call ++ codes "=" ∷ (reply_words b.reply ++ y) in
    let whole : number a.thread ∷ from_call ≡ number b.thread ∷ from_call' = sym (entry_words-append a x) ∙ same ∙ entry_words-append b y in
    let threads : a.thread ≡ b.thread = number_injective a.thread b.thread (omega (arith, ha.thread.1)) (omega (arith, hb.thread.1)) (same_first _ _ from_call from_call' whole) in
    let calls = one_call a.call b.call (codes "=" ∷ (reply_words a.reply ++ x)) (codes "=" ∷ (reply_words b.reply ++ y)) ha.call hb.call (ends_here a.call _) (ends_here b.call _) (same_behind _ _ from_call from_call' whole) in
    let replies = one_reply a.reply b.reply x y ha.reply hb.reply (same_behind _ _ (reply_words a.reply ++ x) (reply_words b.reply ++ y) calls.rest) in
    record { entries = entry_from_parts a b threads calls.calls replies.replies; rest = replies.rest }

-- where no reply stands behind `=`, no entry does
pub no_entry_behind : (thread : ℕ) (c : Call) (words left : List (List ℕ)) → IsCall c → words ≡ number thread ∷ (call_words c ++ codes "=" ∷ left)
    → ((r : Reply) (rest : List (List ℕ)) → IsReply r → left ≢ reply_words r ++ rest) → (e : Entry) (rest : List (List ℕ)) → IsEntry e → words ≢ entry_words e ++ rest
no_entry_behind thread c words left hc are none e rest he is =
    let from_call : List (List ℕ) = call_words c ++ codes "=" ∷ left in
    let from_call' : List (List ℕ) = call_words e.call ++ codes "=" ∷ (reply_words e.reply ++ rest) in
    let whole : number thread ∷ from_call ≡ number e.thread ∷ from_call' = sym are ∙ is ∙ entry_words-append e rest in
    let calls = one_call c e.call (codes "=" ∷ left) (codes "=" ∷ (reply_words e.reply ++ rest)) hc he.call (ends_here c left) (ends_here e.call _) (same_behind _ _ from_call from_call' whole) in
    none e.reply rest he.reply (same_behind _ _ left (reply_words e.reply ++ rest) calls.rest)

-- where no `=` stands behind a call, no entry does
pub no_equals : (thread : ℕ) (c : Call) (words left : List (List ℕ)) → IsCall c → EndsCall c left → words ≡ number thread ∷ (call_words c ++ left) → ((rest : List (List ℕ)) → left ≢ codes "=" ∷ rest)
    → (e : Entry) (rest : List (List ℕ)) → IsEntry e → words ≢ entry_words e ++ rest
no_equals thread c words left hc ends are none e rest he is =
    let from_call' : List (List ℕ) = call_words e.call ++ codes "=" ∷ (reply_words e.reply ++ rest) in
    let whole : number thread ∷ (call_words c ++ left) ≡ number e.thread ∷ from_call' = sym are ∙ is ∙ entry_words-append e rest in
    let calls = one_call c e.call left (codes "=" ∷ (reply_words e.reply ++ rest)) hc he.call ends (ends_here e.call _) (same_behind _ _ (call_words c ++ left) from_call' whole) in
    none (reply_words e.reply ++ rest) calls.rest

-- where no call stands behind a thread, no entry does
pub no_call_behind : (thread : ℕ) (words left : List (List ℕ)) → words ≡ number thread ∷ left → ((c : Call) (rest : List (List ℕ)) → IsCall c → EndsCall c rest → left ≢ call_words c ++ rest)
    → (e : Entry) (rest : List (List ℕ)) → IsEntry e → words ≢ entry_words e ++ rest
no_call_behind thread words left are none e rest he is =
    let from_call' : List (List ℕ) = call_words e.call ++ codes "=" ∷ (reply_words e.reply ++ rest) in
    let whole : number thread ∷ left ≡ number e.thread ∷ from_call' = sym are ∙ is ∙ entry_words-append e rest in
    none e.call (codes "=" ∷ (reply_words e.reply ++ rest)) he.call (ends_here e.call _) (same_behind _ _ left from_call' whole)

-- the line of an answered call, from its parts
spaced_joined : (words : List (List ℕ)) → words ≢ [] → spaced words ≡ 32 ∷ joined words
spaced_joined [] some = absurd (some refl)
spaced_joined (w ∷ words) some = sym (ap (λ t. 32 ∷ t) (joined_spaced w words))

pub answer_written : (front first : List ℕ) (call reply : List (List ℕ)) → call ≢ [] → reply ≢ []
    → ((((front ++ first) ++ 32 ∷ []) ++ joined call) ++ (32 ∷ 61 ∷ 32 ∷ [])) ++ joined reply ≡ front ++ joined (first ∷ (call ++ codes "=" ∷ reply))
answer_written front first call reply some_call some_reply =
    let parts : joined (first ∷ (call ++ codes "=" ∷ reply)) ≡ first ++ ((32 ∷ joined call) ++ (32 ∷ 61 ∷ 32 ∷ joined reply)) =
    joined_spaced first (call ++ codes "=" ∷ reply) ∙ ap (λ t. first ++ t) (spaced-append call (codes "=" ∷ reply) ∙ (λ i. spaced_joined call some_call i ++ (32 ∷ 61 ∷ spaced_joined reply some_reply i))) in
    let flat : ((((front ++ first) ++ 32 ∷ []) ++ joined call) ++ (32 ∷ 61 ∷ 32 ∷ [])) ++ joined reply ≡ front ++ (first ++ ((32 ∷ joined call) ++ (32 ∷ 61 ∷ 32 ∷ joined reply))) = simp append_assoc in
    flat ∙ ap (λ t. front ++ t) (sym parts)

-- what a reader says where it found none
pub none_read : {X : Type 0} (r : Option X) (P : Type 0) → ((x : X) → r ≢ Some x) → IfNone r P → P
none_read None P none h = h
none_read (Some x) P none h = absurd (none x refl)

-- no word of an entry has a space or a newline
pub entry_words_have_no : (byte : ℕ) (e : Entry) → byte < 45 → IsEntry e → All (HasNo byte) (entry_words e)
entry_words_have_no byte e low h =
    let P = HasNo byte in
    let equals : HasNo byte (codes "=") = All-cons (λ b. b ≢ byte) 61 [] (λ is. omega arith) (All-nil (λ b. b ≢ byte)) in
    let from_equals = All-cons P (codes "=") (reply_words e.reply) equals (reply_words_have_no byte e.reply low h.reply) in
    let from_call = All-append P (call_words e.call) (codes "=" ∷ reply_words e.reply) (call_words_have_no byte e.call low h.call) from_equals in
    All-cons P (number e.thread) (call_words e.call ++ codes "=" ∷ reply_words e.reply)
    (HasNo-number byte e.thread (omega (arith, h.thread.1)) (IsNoDigit-below byte (omega arith))) from_call

pub words_of-entry_line : (e : Entry) → IsEntry e → words_of (entry_line e) ≡ entry_words e
words_of-entry_line e h = words_of-joined (entry_words e) (λ none. cc) (entry_words_have_no 32 e (omega arith) h)

pub entry_line_IsLine : (e : Entry) → IsEntry e → IsLine (entry_line e)
entry_line_IsLine e h = HasNo-joined 10 (entry_words e) (λ is. omega arith) (entry_words_have_no 10 e (omega arith) h)

pub entry_line_injective : (a b : Entry) → IsEntry a → IsEntry b → entry_line a ≡ entry_line b → a ≡ b
entry_line_injective a b ha hb same =
    let words : entry_words a ≡ entry_words b = sym (words_of-entry_line a ha) ∙ ap words_of same ∙ words_of-entry_line b hb in
    (one_entry a b [] [] ha hb (ap (λ ws. ws ++ []) words)).entries

-- an answered call of a later version is none of this one
pub later_entry : (version : ℕ) (line : List ℕ) (a : Entry) → IsEntry a → line ≡ entry_line a → version < since a.call → (e : Entry) → IsEntryOf version e → line ≢ entry_line e
later_entry version line a ha is late e he same =
    let one : a ≡ e = entry_line_injective a e ha he.entry (sym is ∙ same) in
    let known : since a.call ≤ version = subst (λ (x : Entry). since x.call ≤ version) (sym one) he.known in
    omega (arith, late, known)

-- A reader took the words of an entry from the front of a line's words, or found none there; more are left behind them.
pub record HasTaken (read : Option Entry) (line : List ℕ) (more : List (List ℕ)) : Type 0 where
  pub found : IfSome read (λ e. IsEntry e × (words_of line ≡ entry_words e ++ more))
  pub none : IfNone read ((e : Entry) (rest : List (List ℕ)) → IsEntry e → words_of line ≢ entry_words e ++ rest)

line_from_words : (line : List ℕ) (e : Entry) → words_of line ≡ entry_words e ++ [] → line ≡ entry_line e
line_from_words line e are = sym (joined-words_of line) ∙ ap joined (are ∙ append-nil (entry_words e))

words_from_line : (line : List ℕ) (e : Entry) → IsEntry e → line ≡ entry_line e → words_of line ≡ entry_words e ++ []
words_from_line line e h is = ap words_of is ∙ words_of-entry_line e h ∙ sym (append-nil (entry_words e))

pub found_whole : (read : Option Entry) (line : List ℕ) (more : List (List ℕ)) → HasTaken read line more → more ≡ [] → IfSome read (λ e. IsEntry e × (line ≡ entry_line e))
found_whole None line more taken done = tt
found_whole (Some e) line more taken done = (taken.found.0, line_from_words line e (taken.found.1 ∙ ap (λ ws. entry_words e ++ ws) done))

pub none_whole : (read : Option Entry) (line : List ℕ) (more : List (List ℕ)) → HasTaken read line more → IfNone read ((e : Entry) → IsEntry e → line ≢ entry_line e)
none_whole None line more taken = λ e h is. taken.none e [] h (words_from_line line e h is)
none_whole (Some e) line more taken = tt

pub none_longer : (read : Option Entry) (line : List ℕ) (more : List (List ℕ)) → HasTaken read line more → more ≢ [] → (e : Entry) → IsEntry e → line ≢ entry_line e
none_longer None line more taken some = λ e h is. taken.none e [] h (words_from_line line e h is)
none_longer (Some a) line more taken some = λ e h is. some (one_entry a e more [] taken.found.0 h (sym taken.found.1 ∙ words_from_line line e h is)).rest
