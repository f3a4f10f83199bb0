-- The words of a line, one after another, and words joined and parted again.
use Rattle.std.proofs.Common.{◌≡◌, ◌≢◌, ℕ, Bool, true, false, eqb, List, [], ◌∷◌, ◌++◌, refl, sym, ap, ◌∙◌, length, IsTrue, ne_eqb, arith}
use Rattle.std.specs.Prelude.{if◌then◌else◌}
use Rattle.std.specs.List.{All}
use Rattle.std.proofs.lemmas.List.{append-nil, append_assoc}
use Rattle.std.proofs.lemmas.List.Elements.{All-head, All-tail, All-weaker}
use Rattle.std.proofs.lemmas.List.Splits.{slice_split_none, slice_split_at, length-slice_split, join_with_byte-slice_split}
use Rattle.text_words.specs.Layout.{IsWord, joined, words_of}

-- a line has a word, if only an empty one
pub words_of_some : (line : List ℕ) → words_of line ≢ []
words_of_some line h =
    let more = length-slice_split (λ b. eqb b 32) line in
    let none : length (words_of line) ≡ 0 = ap length h in
    omega arith

no_space : (word : List ℕ) → IsWord word → All (λ b. eqb b 32 ≡ false) word
no_space word h = All-weaker (λ b. b ≢ 32) (λ b. eqb b 32 ≡ false) (λ b ne. ne_eqb b 32 ne) word h

-- the words after a first one
pub words_of_first : (word rest : List ℕ) → IsWord word → words_of (word ++ 32 ∷ rest) ≡ word ∷ words_of rest
words_of_first word rest h = slice_split_at (λ b. eqb b 32) word 32 rest (no_space word h) refl

pub words_of_one : (word : List ℕ) → IsWord word → words_of word ≡ word ∷ []
words_of_one word h = slice_split_none (λ b. eqb b 32) word (no_space word h)

-- the words of a line, joined, are the line, and joined words are the words of a line
pub joined-words_of : (line : List ℕ) → joined (words_of line) ≡ line
joined-words_of line = join_with_byte-slice_split 32 line

pub words_of-joined : (words : List (List ℕ)) → words ≢ [] → All IsWord words → words_of (joined words) ≡ words
words_of-joined [] some h = absurd (some refl)
words_of-joined (word ∷ []) some h = words_of_one word (All-head IsWord word [] h)
words_of-joined (word ∷ next ∷ words) some h =
    words_of_first word (joined (next ∷ words)) (All-head IsWord word (next ∷ words) h)
    ∙ ap (λ ws. word ∷ ws) (words_of-joined (next ∷ words) (λ e. cc) (All-tail IsWord word (next ∷ words) h))

-- what is left of the words of a line
abbrev pub left : Bool → List ℕ → List (List ℕ)
left done rest = if done then [] else words_of rest

pub none_left : (done : Bool) (rest : List ℕ) (words : List (List ℕ)) → left done rest ≡ words → (IsTrue done → words ≡ []) × (words ≡ [] → IsTrue done)
none_left true rest words is = (λ _. sym is, λ _. refl)
none_left false rest words is = (λ h. cc, λ none. absurd (words_of_some rest (is ∙ none)))

pub left_not_done : (done : Bool) (rest : List ℕ) → done ≡ false → left done rest ≡ words_of rest
left_not_done true rest h = absurd (cc)
left_not_done false rest h = refl

-- one more word behind others
pub joined_push : (words : List (List ℕ)) (word : List ℕ) → words ≢ [] → joined (words ++ word ∷ []) ≡ joined words ++ 32 ∷ word
joined_push [] word some = absurd (some refl)
joined_push (first ∷ []) word some = refl
joined_push (first ∷ next ∷ words) word some =
    ap (λ cs. first ++ 32 ∷ cs) (joined_push (next ∷ words) word (λ e. cc))
    ∙ sym (append_assoc first (32 ∷ joined (next ∷ words)) (32 ∷ word))

-- one more word is printed, behind a space unless it is the first
pub printed_first : (front out word : List ℕ) (words : List (List ℕ)) → words ≡ [] → out ≡ front ++ joined words → out ++ word ≡ front ++ joined (words ++ word ∷ [])
printed_first front out word [] none so_far = ap (λ cs. cs ++ word) (so_far ∙ append-nil front)
printed_first front out word (w ∷ words) none so_far = absurd (cc)

pub printed_next : (front out word : List ℕ) (words : List (List ℕ)) → words ≢ [] → out ≡ front ++ joined words → (out ++ 32 ∷ []) ++ word ≡ front ++ joined (words ++ word ∷ [])
printed_next front out word words some so_far =
    append_assoc out (32 ∷ []) word
    ∙ ap (λ cs. cs ++ 32 ∷ word) so_far
    ∙ append_assoc front (joined words) (32 ∷ word)
    ∙ ap (λ cs. front ++ cs) (sym (joined_push words word some))
