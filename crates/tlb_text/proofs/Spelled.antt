-- A line is that of one event at most.
--     name_of, numbers_of      the parts of an event's words
--     no_event      words that no event of the name has are those of no event
--     words_of-event_line, event_line_is      a line and its words
--     none_longer      no event's words are those of another, and more
use Rattle.std.proofs.Common.{◌≡◌, ◌≢◌, ◌+◌, ◌*◌, ◌<◌, ◌≤◌, ◌^◌, ℕ, cond, Option, Some, List, [], ◌∷◌, ◌++◌, length, codes, refl, sym, ◌∙◌, ap, subst, arith}
use Rattle.std.specs.Prelude.{nat_eq, slice_index}
use Rattle.std.proofs.lemmas.List.{append-nil, length-append}
use Rattle.std.proofs.lemmas.List.Elements.{All-nil, All-cons}
use Rattle.text_words.specs.Spelling.{number}
use Rattle.text_words.specs.Layout.{IsWord, joined, words_of}
use Rattle.text_words.proofs.WordLists.{words_of-joined, joined-words_of}
use Rattle.mm_script.proofs.OneCall.{HasNo_letters, length_word_has_no}
use Rattle.tlb_core.specs.declared.events.TlbEvent.{TlbEvent}
use Rattle.tlb_core.specs.declared.events.TlbEvent.TheVariants as events
use Rattle.tlb_core.specs.Answers.{Sizes, IsEvent}
use Rattle.tlb_text.specs.declared.names.EventName.{EventName}
use Rattle.tlb_text.specs.declared.names.EventName.TheVariants as name
use Rattle.tlb_text.specs.EventNames.{name_word}
use Rattle.tlb_text.specs.EventText.{event_words, event_line, ReadsNone}

abbrev pub name_of : TlbEvent → EventName
name_of (events.Map page) = name.Map
name_of (events.Unmap page) = name.Unmap
name_of (events.Fill cpu page) = name.Fill
name_of (events.Reach cpu page) = name.Reach
name_of (events.Drop cpu page) = name.Drop
name_of (events.Ack cpu) = name.Ack
name_of (events.Free frame) = name.Free

abbrev pub numbers_of : TlbEvent → List (List ℕ)
numbers_of (events.Map page) = number page ∷ []
numbers_of (events.Unmap page) = number page ∷ []
numbers_of (events.Fill cpu page) = number cpu ∷ number page ∷ []
numbers_of (events.Reach cpu page) = number cpu ∷ number page ∷ []
numbers_of (events.Drop cpu page) = number cpu ∷ number page ∷ []
numbers_of (events.Ack cpu) = number cpu ∷ []
numbers_of (events.Free frame) = number frame ∷ []

pub event_words_are : (e : TlbEvent) → event_words e ≡ name_word (name_of e) ∷ numbers_of e
event_words_are (events.Map page) = refl
event_words_are (events.Unmap page) = refl
event_words_are (events.Fill cpu page) = refl
event_words_are (events.Reach cpu page) = refl
event_words_are (events.Drop cpu page) = refl
event_words_are (events.Ack cpu) = refl
event_words_are (events.Free frame) = refl

-- Names are told apart by their first two letters.
abbrev key : List ℕ → ℕ
key word = slice_index word 0 * 256 + slice_index word 1

abbrev decoded : ℕ → Option EventName
decoded k = cond (nat_eq k 28001) (Some name.Map) (cond (nat_eq k 30062) (Some name.Unmap) (cond (nat_eq k 26217) (Some name.Fill)
    (cond (nat_eq k 29285) (Some name.Reach) (cond (nat_eq k 25714) (Some name.Drop) (cond (nat_eq k 24931) (Some name.Ack) (Some name.Free))))))

is_decoded : (n : EventName) → decoded (key (name_word n)) ≡ Some n
is_decoded name.Map = refl
is_decoded name.Unmap = refl
is_decoded name.Fill = refl
is_decoded name.Reach = refl
is_decoded name.Drop = refl
is_decoded name.Ack = refl
is_decoded name.Free = refl

same_name : (m n : EventName) → name_word m ≡ name_word n → m ≡ n
same_name m n same = let both : Some m ≡ Some n = sym (is_decoded m) ∙ ap (λ w. decoded (key w)) same ∙ is_decoded n in cc

reads_no_numbers : (sizes : Sizes) (e : TlbEvent) (words rest : List (List ℕ)) → ReadsNone sizes (name_of e) words → IsEvent sizes e → words ≢ numbers_of e ++ rest
reads_no_numbers sizes (events.Map page) words rest none is = none page rest is
reads_no_numbers sizes (events.Unmap page) words rest none is = none page rest is
reads_no_numbers sizes (events.Fill cpu page) words rest none is = none cpu page rest is.0 is.1
reads_no_numbers sizes (events.Reach cpu page) words rest none is = none cpu page rest is.0 is.1
reads_no_numbers sizes (events.Drop cpu page) words rest none is = none cpu page rest is.0 is.1
reads_no_numbers sizes (events.Ack cpu) words rest none is = none cpu rest is
reads_no_numbers sizes (events.Free frame) words rest none is = none frame rest is

pub no_event : (sizes : Sizes) (n : EventName) (words rest : List (List ℕ)) → ReadsNone sizes n words → (e : TlbEvent) → IsEvent sizes e → name_word n ∷ words ≢ event_words e ++ rest
no_event sizes n words rest none e is same =
    let whole : name_word n ∷ words ≡ name_word (name_of e) ∷ (numbers_of e ++ rest) = same ∙ ap (λ ws. ws ++ rest) (event_words_are e) in
    let first : name_word n ≡ name_word (name_of e) = cc whole in
    let behind : words ≡ numbers_of e ++ rest = cc whole in
    reads_no_numbers sizes e words rest (subst (λ m. ReadsNone sizes m words) (same_name n (name_of e) first) none) is behind

-- how many numbers stand behind a name
abbrev count : EventName → ℕ
count name.Map = 1
count name.Unmap = 1
count name.Fill = 2
count name.Reach = 2
count name.Drop = 2
count name.Ack = 1
count name.Free = 1

length-numbers_of : (e : TlbEvent) → length (numbers_of e) ≡ count (name_of e)
length-numbers_of (events.Map page) = refl
length-numbers_of (events.Unmap page) = refl
length-numbers_of (events.Fill cpu page) = refl
length-numbers_of (events.Reach cpu page) = refl
length-numbers_of (events.Drop cpu page) = refl
length-numbers_of (events.Ack cpu) = refl
length-numbers_of (events.Free frame) = refl

none_left : (rest : List (List ℕ)) → length rest ≡ 0 → rest ≡ []
none_left [] h = refl
none_left (w ∷ ws) h = absurd (omega arith)

pub none_longer : (a b : TlbEvent) (rest : List (List ℕ)) → event_words a ++ rest ≡ event_words b → rest ≡ []
none_longer a b rest same =
    let whole : name_word (name_of a) ∷ (numbers_of a ++ rest) ≡ name_word (name_of b) ∷ numbers_of b = sym (ap (λ ws. ws ++ rest) (event_words_are a)) ∙ same ∙ event_words_are b in
    let first : name_word (name_of a) ≡ name_word (name_of b) = cc whole in
    let behind : numbers_of a ++ rest ≡ numbers_of b = cc whole in
    let counts : count (name_of a) ≡ count (name_of b) = ap count (same_name (name_of a) (name_of b) first) in
    let sum : length (numbers_of a) + length rest ≡ length (numbers_of b) = sym (length-append (numbers_of a) rest) ∙ ap length behind in
    none_left rest (omega (arith, length-numbers_of a, length-numbers_of b))

name_IsWord : (n : EventName) → IsWord (name_word n)
name_IsWord name.Map = HasNo_letters 32 (codes "map") (omega arith) refl
name_IsWord name.Unmap = HasNo_letters 32 (codes "unmap") (omega arith) refl
name_IsWord name.Fill = HasNo_letters 32 (codes "fill") (omega arith) refl
name_IsWord name.Reach = HasNo_letters 32 (codes "reach") (omega arith) refl
name_IsWord name.Drop = HasNo_letters 32 (codes "drop") (omega arith) refl
name_IsWord name.Ack = HasNo_letters 32 (codes "ack") (omega arith) refl
name_IsWord name.Free = HasNo_letters 32 (codes "free") (omega arith) refl

one_number : (n : EventName) (a : ℕ) → a < 2 ^ 64 → words_of (joined (name_word n ∷ number a ∷ [])) ≡ name_word n ∷ number a ∷ []
one_number n a fits = words_of-joined (name_word n ∷ number a ∷ []) (λ e. cc)
    (All-cons IsWord (name_word n) (number a ∷ []) (name_IsWord n) (All-cons IsWord (number a) [] (length_word_has_no 32 a (omega arith) fits) (All-nil IsWord)))

two_numbers : (n : EventName) (a b : ℕ) → a < 2 ^ 64 → b < 2 ^ 64 → words_of (joined (name_word n ∷ number a ∷ number b ∷ [])) ≡ name_word n ∷ number a ∷ number b ∷ []
two_numbers n a b fits too = words_of-joined (name_word n ∷ number a ∷ number b ∷ []) (λ e. cc)
    (All-cons IsWord (name_word n) (number a ∷ number b ∷ []) (name_IsWord n) (All-cons IsWord (number a) (number b ∷ []) (length_word_has_no 32 a (omega arith) fits)
    (All-cons IsWord (number b) [] (length_word_has_no 32 b (omega arith) too) (All-nil IsWord))))

-- the sizes are small
pub record AreSmall (sizes : Sizes) : Type 0 where
  pub cpus : sizes.cpus ≤ 8
  pub frames : sizes.frames ≤ 64

pub words_of-event_line : (sizes : Sizes) → AreSmall sizes → (e : TlbEvent) → IsEvent sizes e → words_of (event_line e) ≡ event_words e
words_of-event_line sizes small (events.Map page) is = one_number name.Map page (omega arith)
words_of-event_line sizes small (events.Unmap page) is = one_number name.Unmap page (omega arith)
words_of-event_line sizes small (events.Fill cpu page) is = two_numbers name.Fill cpu page (omega (arith, small.cpus, is.0)) (omega (arith, is.1))
words_of-event_line sizes small (events.Reach cpu page) is = two_numbers name.Reach cpu page (omega (arith, small.cpus, is.0)) (omega (arith, is.1))
words_of-event_line sizes small (events.Drop cpu page) is = two_numbers name.Drop cpu page (omega (arith, small.cpus, is.0)) (omega (arith, is.1))
words_of-event_line sizes small (events.Ack cpu) is = one_number name.Ack cpu (omega (arith, small.cpus))
words_of-event_line sizes small (events.Free frame) is = one_number name.Free frame (omega (arith, small.frames))

pub event_line_is : (line : List ℕ) (e : TlbEvent) → words_of line ≡ event_words e → line ≡ event_line e
event_line_is line e are = sym (joined-words_of line) ∙ ap joined are

module _ (sizes : Sizes) (small : AreSmall sizes) (line word : List ℕ) (rest : List (List ℕ)) (are : words_of line ≡ word ∷ rest) where
  line_words : (e : TlbEvent) → IsEvent sizes e → line ≡ event_line e → word ∷ rest ≡ event_words e
  line_words e is same = sym are ∙ ap words_of same ∙ words_of-event_line sizes small e is

  -- the first word is no name
  pub none_named : ((n : EventName) → word ≢ name_word n) → (e : TlbEvent) → IsEvent sizes e → line ≢ event_line e
  none_named none e is same =
      let whole : word ∷ rest ≡ name_word (name_of e) ∷ numbers_of e = line_words e is same ∙ event_words_are e in
      let first : word ≡ name_word (name_of e) = cc whole in
      none (name_of e) first

  module _ (n : EventName) (named : word ≡ name_word n) where
    -- the words behind the name are those of no event
    pub none_read : ReadsNone sizes n rest → (e : TlbEvent) → IsEvent sizes e → line ≢ event_line e
    none_read none e is same = no_event sizes n rest [] none e is (ap (λ w. w ∷ rest) (sym named) ∙ line_words e is same ∙ sym (append-nil (event_words e)))

    whole_words : (e : TlbEvent) (left : List (List ℕ)) → name_word n ∷ rest ≡ event_words e ++ left → words_of line ≡ event_words e ++ left
    whole_words e left found = are ∙ ap (λ w. w ∷ rest) named ∙ found

    pub found_whole : (e : TlbEvent) (left : List (List ℕ)) → name_word n ∷ rest ≡ event_words e ++ left → left ≡ [] → line ≡ event_line e
    found_whole e left found none = event_line_is line e (whole_words e left found ∙ ap (λ ws. event_words e ++ ws) none ∙ append-nil (event_words e))

    pub found_longer : (e : TlbEvent) (left : List (List ℕ)) → name_word n ∷ rest ≡ event_words e ++ left → left ≢ [] → (other : TlbEvent) → IsEvent sizes other → line ≢ event_line other
    found_longer e left found some other is same = some (none_longer e other left (sym (whole_words e left found) ∙ are ∙ line_words other is same))
