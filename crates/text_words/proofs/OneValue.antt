-- No two values have one spelling.
use Rattle.std.proofs.Common.{◌≡◌, ℕ, ◌/◌, ◌%◌, ◌^◌, ◌<◌, ◌≤◌, Bool, true, false, List, [], ◌∷◌, refl, sym, ap, ◌∙◌, arith}
use Rattle.std.specs.Prelude.{if◌then◌else◌}
use Rattle.std.specs.Fmt.{digits, digit_glyph}
use Rattle.std.specs.List.{All}
use Rattle.std.specs.Int.Digits.{number_from_digits}
use Rattle.std.proofs.lemmas.List.Elements.{All-head, All-tail}
use Rattle.corten_base.specs.declared.permissions.Perm.{Perm}
use Rattle.text_words.specs.Spelling.{number, address, hex, permission}
use Rattle.text_words.proofs.Numerals.{IsNumeral-digits, below_power, values_of, values_of-written, digit_glyph_injective, weaker_base}

digits_injective : (base m n : ℕ) → 2 ≤ base → base ≤ 16 → m < 2 ^ 64 → n < 2 ^ 64 → digits base false m ≡ digits base false n → m ≡ n
digits_injective base m n two small m_fits n_fits same =
    let a = IsNumeral-digits base m two (below_power base m two m_fits) in
    let b = IsNumeral-digits base n two (below_power base n two n_fits) in
    let values : a.values ≡ b.values =
    sym (values_of-written a.values (weaker_base base a.values small a.below))
    ∙ ap values_of (sym a.spelled ∙ same ∙ b.spelled)
    ∙ values_of-written b.values (weaker_base base b.values small b.below) in
    sym a.value ∙ ap (number_from_digits base) values ∙ b.value

pub number_injective : (m n : ℕ) → m < 2 ^ 64 → n < 2 ^ 64 → number m ≡ number n → m ≡ n
number_injective m n m_fits n_fits same = digits_injective 10 m n (omega arith) (omega arith) m_fits n_fits same

pub address_injective : (m n : ℕ) → m < 2 ^ 64 → n < 2 ^ 64 → address m ≡ address n → m ≡ n
address_injective m n m_fits n_fits same = digits_injective 16 m n (omega arith) (omega arith) m_fits n_fits (cc)

byte_from_digits : (a b : ℕ) → a < 256 → b < 256 → digit_glyph false (a / 16) ≡ digit_glyph false (b / 16) → digit_glyph false (a % 16) ≡ digit_glyph false (b % 16) → a ≡ b
byte_from_digits a b a_fits b_fits high low =
    let high_same : a / 16 ≡ b / 16 = digit_glyph_injective (a / 16) (b / 16) (omega arith) (omega arith) high in
    let low_same : a % 16 ≡ b % 16 = digit_glyph_injective (a % 16) (b % 16) (omega arith) (omega arith) low in
    omega arith

pub hex_injective : (xs ys : List ℕ) → All (λ b. b < 256) xs → All (λ b. b < 256) ys → hex xs ≡ hex ys → xs ≡ ys
unfolding hex
hex_injective [] [] xs_fit ys_fit same = refl
hex_injective [] (y ∷ ys) xs_fit ys_fit same = absurd (cc)
hex_injective (x ∷ xs) [] xs_fit ys_fit same = absurd (cc)
hex_injective (x ∷ xs) (y ∷ ys) xs_fit ys_fit same =
    let head : x ≡ y = byte_from_digits x y (All-head (λ b. b < 256) x xs xs_fit) (All-head (λ b. b < 256) y ys ys_fit) (cc) (cc) in
    let rest : xs ≡ ys = hex_injective xs ys (All-tail (λ b. b < 256) x xs xs_fit) (All-tail (λ b. b < 256) y ys ys_fit) (cc) in
    ap (λ b. b ∷ xs) head ∙ ap (λ bs. y ∷ bs) rest

letter_injective : (letter : ℕ) (a b : Bool) → 45 < letter → (if a then letter else 45) ≡ (if b then letter else 45) → a ≡ b
letter_injective letter true true above same = refl
letter_injective letter false false above same = refl
letter_injective letter true false above same = absurd (omega arith)
letter_injective letter false true above same = absurd (omega arith)

perm_from_parts : (p q : Perm) → p.read ≡ q.read → p.write ≡ q.write → p.exec ≡ q.exec → p ≡ q
perm_from_parts p q read write exec = λ i. record { read = read i; write = write i; exec = exec i }

pub permission_injective : (p q : Perm) → permission p ≡ permission q → p ≡ q
permission_injective p q same =
    perm_from_parts p q
    (letter_injective 114 p.read q.read (omega arith) (cc))
    (letter_injective 119 p.write q.write (omega arith) (cc))
    (letter_injective 120 p.exec q.exec (omega arith) (cc))
