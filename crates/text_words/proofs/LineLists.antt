-- The lines of a text: joined lists, and a text parted in one way alone.
use Rattle.std.proofs.Common.{◌≡◌, ◌≢◌, ℕ, ◌≤◌, List, [], ◌∷◌, ◌++◌, length, refl, sym, ap, ◌∙◌, arith}
use Rattle.std.specs.List.{All}
use Rattle.std.proofs.lemmas.Grind.{flat_map-append}
use Rattle.std.proofs.lemmas.List.{append_assoc, append-nil}
use Rattle.std.proofs.lemmas.List.Elements.{All-nil, All-head, All-tail}
use Rattle.text_words.specs.Layout.{HasNo, IsLine, ended, text}

pub text-append : (xs ys : List (List ℕ)) → text (xs ++ ys) ≡ text xs ++ text ys
text-append xs ys = flat_map-append ended xs ys

-- a text with one more line
pub text_push : (lines : List (List ℕ)) (line rest : List ℕ) → text (lines ++ line ∷ []) ++ rest ≡ text lines ++ (ended line ++ rest)
text_push lines line rest =
    ap (λ bytes. bytes ++ rest) (text-append lines (line ∷ []) ∙ ap (λ bytes. text lines ++ bytes) (append-nil (ended line)))
    ∙ append_assoc (text lines) (ended line) rest

-- two first lines before a byte
pub record SameCut (byte : ℕ) (x xs y ys : List ℕ) : Type 0 where
  pub front : x ≡ y
  pub back : xs ≡ ys

pub one_cut : (byte : ℕ) (x xs y ys : List ℕ) → HasNo byte x → HasNo byte y → x ++ byte ∷ xs ≡ y ++ byte ∷ ys → SameCut byte x xs y ys
one_cut byte [] xs [] ys no_x no_y same = record { front = refl; back = cc }
one_cut byte [] xs (b ∷ y) ys no_x no_y same = absurd (All-head (λ c. c ≢ byte) b y no_y (cc))
one_cut byte (a ∷ x) xs [] ys no_x no_y same = absurd (All-head (λ c. c ≢ byte) a x no_x (cc))
one_cut byte (a ∷ x) xs (b ∷ y) ys no_x no_y same =
    let rest = one_cut byte x xs y ys (All-tail (λ c. c ≢ byte) a x no_x) (All-tail (λ c. c ≢ byte) b y no_y) (cc) in
    let heads : a ≡ b = cc in
    record { front = ap (λ c. c ∷ x) heads ∙ ap (λ cs. b ∷ cs) rest.front; back = rest.back }

-- a first line before a byte that doesn't occur at all
pub no_cut : (byte : ℕ) (x xs y : List ℕ) → HasNo byte y → x ++ byte ∷ xs ≢ y
no_cut byte [] xs [] no_y same = cc
no_cut byte [] xs (b ∷ y) no_y same = All-head (λ c. c ≢ byte) b y no_y (cc)
no_cut byte (a ∷ x) xs [] no_y same = cc
no_cut byte (a ∷ x) xs (b ∷ y) no_y same = no_cut byte x xs y (All-tail (λ c. c ≢ byte) b y no_y) (cc)

-- another first line before the bytes, and none
pub other_line : (bytes line rest other more : List ℕ) → bytes ≡ ended line ++ rest → IsLine line → IsLine other → line ≢ other → bytes ≢ ended other ++ more
other_line bytes line rest other more is is_line is_other differ same =
    differ (one_cut 10 line rest other more is_line is_other (sym (append_assoc line (10 ∷ []) rest) ∙ sym is ∙ same ∙ append_assoc other (10 ∷ []) more)).front

pub unended_line : (bytes other more : List ℕ) → IsLine bytes → bytes ≢ ended other ++ more
unended_line bytes other more is_line same = no_cut 10 other more bytes is_line (sym (same ∙ append_assoc other (10 ∷ []) more))

-- a text has one list of lines, and one rest
pub record SameLines (xs : List (List ℕ)) (x : List ℕ) (ys : List (List ℕ)) (y : List ℕ) : Type 0 where
  pub lines : xs ≡ ys
  pub rest : x ≡ y

-- a line before other bytes, as a cut
ended_first : (line more : List ℕ) (lines : List (List ℕ)) → text (line ∷ lines) ++ more ≡ line ++ 10 ∷ (text lines ++ more)
ended_first line more lines = append_assoc (ended line) (text lines) more ∙ append_assoc line (10 ∷ []) (text lines ++ more)

pub one_list_of_lines : (xs : List (List ℕ)) (x : List ℕ) (ys : List (List ℕ)) (y : List ℕ) → All IsLine xs → All IsLine ys → IsLine x → IsLine y → text xs ++ x ≡ text ys ++ y → SameLines xs x ys y
one_list_of_lines [] x [] y xs_are ys_are x_is y_is same = record { lines = refl; rest = same }
one_list_of_lines [] x (l ∷ ys) y xs_are ys_are x_is y_is same = absurd (no_cut 10 l (text ys ++ y) x x_is (sym (same ∙ ended_first l y ys)))
one_list_of_lines (k ∷ xs) x [] y xs_are ys_are x_is y_is same = absurd (no_cut 10 k (text xs ++ x) y y_is (sym (ended_first k x xs) ∙ same))
one_list_of_lines (k ∷ xs) x (l ∷ ys) y xs_are ys_are x_is y_is same =
    let cut = one_cut 10 k (text xs ++ x) l (text ys ++ y) (All-head IsLine k xs xs_are) (All-head IsLine l ys ys_are) (sym (ended_first k x xs) ∙ same ∙ ended_first l y ys) in
    let rest = one_list_of_lines xs x ys y (All-tail IsLine k xs xs_are) (All-tail IsLine l ys ys_are) x_is y_is cut.back in
    record { lines = ap (λ c. c ∷ xs) cut.front ∙ ap (λ cs. l ∷ cs) rest.lines; rest = rest.rest }

-- the lines of a text that begins with others
pub record GoesOn (xs : List (List ℕ)) (x : List ℕ) (ys : List (List ℕ)) (y : List ℕ) : Type 0 where
  pub more : List (List ℕ)
  pub lines : ys ≡ xs ++ more
  pub rest : x ≡ text more ++ y
  pub are_lines : All IsLine more

pub lines_go_on : (xs : List (List ℕ)) (x : List ℕ) (ys : List (List ℕ)) (y : List ℕ) → All IsLine xs → All IsLine ys → length xs ≤ length ys → text xs ++ x ≡ text ys ++ y → GoesOn xs x ys y
lines_go_on [] x ys y xs_are ys_are fewer same = record { more = ys; lines = refl; rest = same; are_lines = ys_are }
lines_go_on (k ∷ xs) x [] y xs_are ys_are fewer same = absurd (omega arith)
lines_go_on (k ∷ xs) x (l ∷ ys) y xs_are ys_are fewer same =
    let cut = one_cut 10 k (text xs ++ x) l (text ys ++ y) (All-head IsLine k xs xs_are) (All-head IsLine l ys ys_are) (sym (ended_first k x xs) ∙ same ∙ ended_first l y ys) in
    let rest = lines_go_on xs x ys y (All-tail IsLine k xs xs_are) (All-tail IsLine l ys ys_are) (omega arith) cut.back in
    record { more = rest.more; lines = ap (λ c. c ∷ ys) (sym cut.front) ∙ ap (λ cs. k ∷ cs) rest.lines; rest = rest.rest; are_lines = rest.are_lines }

-- a whole text has no fewer lines
pub fewer_lines : (xs : List (List ℕ)) (x : List ℕ) (ys : List (List ℕ)) → All IsLine xs → All IsLine ys → text xs ++ x ≡ text ys → length xs ≤ length ys
fewer_lines [] x ys xs_are ys_are same = omega arith
fewer_lines (k ∷ xs) x [] xs_are ys_are same = absurd (no_cut 10 k (text xs ++ x) [] (All-nil (λ c. c ≢ 10)) (sym (ended_first k x xs) ∙ same))
fewer_lines (k ∷ xs) x (l ∷ ys) xs_are ys_are same =
    let whole : text (l ∷ ys) ≡ l ++ 10 ∷ (text ys ++ []) = sym (append-nil (text (l ∷ ys))) ∙ ended_first l [] ys in
    let cut = one_cut 10 k (text xs ++ x) l (text ys ++ []) (All-head IsLine k xs xs_are) (All-head IsLine l ys ys_are) (sym (ended_first k x xs) ∙ same ∙ whole) in
    let rest = fewer_lines xs x ys (All-tail IsLine k xs xs_are) (All-tail IsLine l ys ys_are) (cut.back ∙ append-nil (text ys)) in
    omega arith

-- the first line of a text
pub record FirstLine (line more : List ℕ) (lines : List (List ℕ)) (rest : List ℕ) : Type 0 where
  pub others : List (List ℕ)
  pub are : lines ≡ line ∷ others

pub first_line : (line more : List ℕ) (lines : List (List ℕ)) (rest : List ℕ) → IsLine line → All IsLine lines → lines ≢ [] → ended line ++ more ≡ text lines ++ rest → FirstLine line more lines rest
first_line line more [] rest is_line are some same = absurd (some refl)
first_line line more (l ∷ lines) rest is_line are some same =
    let cut = one_cut 10 line more l (text lines ++ rest) is_line (All-head IsLine l lines are) (sym (append_assoc line (10 ∷ []) more) ∙ same ∙ ended_first l rest lines) in
    record { others = lines; are = ap (λ c. c ∷ lines) (sym cut.front) }

-- bytes without a newline are no lines
pub no_lines : (rest : List ℕ) (lines : List (List ℕ)) (behind : List ℕ) → IsLine rest → rest ≡ text lines ++ behind → lines ≡ []
no_lines rest [] behind is_line same = refl
no_lines rest (l ∷ lines) behind is_line same = absurd (no_cut 10 l (text lines ++ behind) rest is_line (sym (same ∙ ended_first l behind lines)))
