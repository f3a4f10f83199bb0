-- A text has one first line outside a grammar at most, and none where it is in the grammar.
use Rattle.std.proofs.Common.{◌≡◌, ◌≢◌, ℕ, ◌+◌, ◌<◌, ◌≤◌, List, [], ◌∷◌, ◌++◌, length, sym, ap, subst, ◌∙◌, arith}
use Rattle.std.specs.List.{All}
use Rattle.std.proofs.lemmas.List.{append-nil, append_assoc}
use Rattle.std.proofs.lemmas.List.Elements.{All-nil}
use Rattle.text_words.specs.Layout.{IsLine, ended, text, TextRest}
use Rattle.text_words.specs.Grammar.{Begins, Fault, IsFirstFault}
use Rattle.text_words.specs.Passing.{FaultFrom}
use Rattle.text_words.proofs.LineLists.{lines_go_on, fewer_lines, first_line, no_lines, no_cut}

-- a beginning of a beginning
pub Begins-front : (G : List (List ℕ) → Type 0) (lines more : List (List ℕ)) → Begins G (lines ++ more) → Begins G lines
Begins-front G lines more b = record { more = more ++ b.more; goes_on = subst G (append_assoc lines more b.more) b.goes_on }

pub Begins-whole : (G : List (List ℕ) → Type 0) (lines : List (List ℕ)) → G lines → Begins G lines
Begins-whole G lines h = record { more = []; goes_on = subst G (sym (append-nil lines)) h }

-- no text that goes on behind a fault begins one of the grammar
pub no_more_behind : (G : List (List ℕ) → Type 0) (before more : List (List ℕ)) (rest behind : List ℕ) → All IsLine more → more ≢ [] → rest ≡ text more ++ behind → Fault G before rest → ¬ (Begins G (before ++ more))
no_more_behind G before more rest behind are_lines some rest_is (Fault.outside line after is_line parted ends) b =
    let first = first_line line after more behind is_line are_lines some (sym parted ∙ rest_is) in
    let shape : before ++ more ≡ (before ++ line ∷ []) ++ first.others =
    ap (λ ls. before ++ ls) first.are ∙ sym (append_assoc before (line ∷ []) first.others) in
    ends (Begins-front G (before ++ line ∷ []) first.others (subst (Begins G) shape b))
no_more_behind G before more rest behind are_lines some rest_is (Fault.unfinished is_line nonempty) b =
    some (no_lines rest more behind is_line rest_is)
no_more_behind G before more rest behind are_lines some rest_is (Fault.missing none wanting) b =
    some (no_lines rest more behind (subst IsLine (sym none) (All-nil (λ c. c ≢ 10))) rest_is)

-- no text of the grammar has a fault
none_behind : (G : List (List ℕ) → Type 0) (before more : List (List ℕ)) (rest : List ℕ) → All IsLine more → rest ≡ text more ++ [] → G (before ++ more) → Fault G before rest → ⊥
none_behind G before [] rest are_lines rest_is h (Fault.outside line after is_line parted ends) =
    let empty : ended line ++ after ≡ [] = sym parted ∙ rest_is in
    absurd (no_cut 10 line after [] (All-nil (λ c. c ≢ 10)) (sym (append_assoc line (10 ∷ []) after) ∙ empty))
none_behind G before [] rest are_lines rest_is h (Fault.unfinished is_line nonempty) = nonempty rest_is
none_behind G before [] rest are_lines rest_is h (Fault.missing none wanting) = wanting (subst G (append-nil before) h)
none_behind G before (m ∷ more) rest are_lines rest_is h f =
    no_more_behind G before (m ∷ more) rest [] are_lines (λ e. cc) rest_is f (Begins-whole G (before ++ m ∷ more) h)

pub fault_refuses : (G : List (List ℕ) → Type 0) (bytes : List ℕ) (n : ℕ) (lines : List (List ℕ)) → IsFirstFault G bytes n → All IsLine lines → bytes ≡ text lines → ¬ (G lines)
fault_refuses G bytes n lines h are_lines whole g =
    let same : text h.before ++ h.rest ≡ text lines = sym h.parted ∙ whole in
    let fewer = fewer_lines h.before h.rest lines h.are_lines are_lines same in
    let on = lines_go_on h.before h.rest lines [] h.are_lines are_lines fewer (same ∙ sym (append-nil (text lines))) in
    none_behind G h.before on.more h.rest on.are_lines on.rest (subst G on.lines g) h.fault

-- a text has one first fault
none_earlier : (G : List (List ℕ) → Type 0) (bytes : List ℕ) (m n : ℕ) (h : IsFirstFault G bytes m) (g : IsFirstFault G bytes n) → length h.before < length g.before → ⊥
none_earlier G bytes m n h g less =
    let on = lines_go_on h.before h.rest g.before g.rest h.are_lines g.are_lines (omega arith) (sym h.parted ∙ g.parted) in
    let some : on.more ≢ [] = λ e. let same : length g.before ≡ length h.before = ap length (on.lines ∙ ap (λ ls. h.before ++ ls) e ∙ append-nil h.before) in omega arith in
    no_more_behind G h.before on.more h.rest g.rest on.are_lines some on.rest h.fault (subst (Begins G) on.lines g.begins)

pub one_first_fault : (G : List (List ℕ) → Type 0) (bytes : List ℕ) (m n : ℕ) → IsFirstFault G bytes m → IsFirstFault G bytes n → m ≡ n
one_first_fault G bytes m n h g =
    let first : m ≡ length h.before + 1 = h.counted in
    let second : n ≡ length g.before + 1 = g.counted in
    let not_less : length g.before ≤ length h.before = at_most (length h.before) (length g.before) (none_earlier G bytes m n h g) in
    let not_more : length h.before ≤ length g.before = at_most (length g.before) (length h.before) (none_earlier G bytes n m g h) in
    omega arith
  where
    at_most : (a b : ℕ) → (a < b → ⊥) → b ≤ a
    at_most a b none = omega (arith, none)

-- a fault, counted from the first line
pub first_fault : (G : List (List ℕ) → Type 0) (bytes : List ℕ) (old : TextRest) (n : ℕ) → old.bytes ≡ bytes → old.taken ≡ 0 → FaultFrom G old [] n → IsFirstFault G bytes n
first_fault G bytes old n are first h = record {
  before = h.between;
  rest = h.rest;
  are_lines = h.are_lines;
  parted = sym are ∙ h.parted;
  counted = let c : n ≡ old.taken + length h.between + 1 = h.counted in omega arith;
  begins = h.begins;
  fault = h.fault;
}
