-- Bytes as pairs of hexadecimal digits: joined lists, and digits in pairs.
use Rattle.std.proofs.Common.{◌≡◌, ℕ, zero, suc, ◌+◌, ◌*◌, ◌/◌, ◌%◌, ◌<◌, Bool, true, false, ◌&&◌, List, [], ◌∷◌, ◌++◌, map, take, length, get_or, refl, sym, ap, ◌∙◌, arith}
use Rattle.std.specs.Fmt.{digit_glyph}
use Rattle.std.specs.List.{All, flat_map, list_all}
use Rattle.std.specs.Simd.{first_chunks}
use Rattle.std.proofs.lemmas.Bool.Decides.{nat_tests}
use Rattle.std.proofs.lemmas.List.{append_assoc, take_more}
use Rattle.std.proofs.lemmas.List.Elements.{All-nil, All-cons, All-head, All-tail}
use Rattle.text_words.specs.Digits.{is_digit, value_of, pair_value, digit_pair}
use Rattle.text_words.specs.Spelling.{hex}

-- the digits of a byte
abbrev pub high_of : ℕ → ℕ
high_of byte = digit_glyph false (byte / 16)

abbrev pub low_of : ℕ → ℕ
low_of byte = digit_glyph false (byte % 16)

pub hex-nil : hex [] ≡ []
unfolding hex
hex-nil = refl

pub hex-cons : (byte : ℕ) (bytes : List ℕ) → hex (byte ∷ bytes) ≡ high_of byte ∷ low_of byte ∷ hex bytes
unfolding hex
hex-cons byte bytes = refl

pub hex-append : (xs ys : List ℕ) → hex (xs ++ ys) ≡ hex xs ++ hex ys
unfolding hex
hex-append [] ys = refl
hex-append (x ∷ xs) ys = ap (λ cs. high_of x ∷ low_of x ∷ cs) (hex-append xs ys)

pub hex_push : (xs : List ℕ) (x : ℕ) → hex (xs ++ x ∷ []) ≡ hex xs ++ (high_of x ∷ low_of x ∷ [])
hex_push xs x = hex-append xs (x ∷ []) ∙ ap (λ cs. hex xs ++ cs) (hex-cons x [] ∙ ap (λ cs. high_of x ∷ low_of x ∷ cs) hex-nil)

-- one more byte is printed
pub printed_more : (front bytes out : List ℕ) (i high low : ℕ) → i < length bytes → out ≡ front ++ hex (take i bytes) → high ≡ high_of (get_or bytes i 0) → low ≡ low_of (get_or bytes i 0) → (out ++ high ∷ []) ++ low ∷ [] ≡ front ++ hex (take (i + 1) bytes)
printed_more front bytes out i high low inside so_far high_is low_is =
    append_assoc out (high ∷ []) (low ∷ [])
    ∙ ap (λ cs. cs ++ (high ∷ low ∷ [])) so_far
    ∙ append_assoc front (hex (take i bytes)) (high ∷ low ∷ [])
    ∙ ap (λ c. front ++ (hex (take i bytes) ++ (c ∷ low ∷ []))) high_is
    ∙ ap (λ c. front ++ (hex (take i bytes) ++ (high_of (get_or bytes i 0) ∷ c ∷ []))) low_is
    ∙ ap (λ cs. front ++ cs) (sym (hex_push (take i bytes) (get_or bytes i 0)))
    ∙ ap (λ bs. front ++ hex bs) (sym (take_more bytes i 0 inside))

-- the pairs of digits of bytes, one behind the other
pub hex_of_pairs : (bytes : List ℕ) → flat_map (λ pair. pair) (map digit_pair bytes) ≡ hex bytes
unfolding hex
hex_of_pairs [] = refl
hex_of_pairs (b ∷ bytes) = ap (λ cs. high_of b ∷ low_of b ∷ cs) (hex_of_pairs bytes)

-- ---- the digits of bytes are digits, and there are two for each byte

pub length-hex : (bytes : List ℕ) → length (hex bytes) ≡ 2 * length bytes
unfolding hex
length-hex [] = refl
length-hex (b ∷ bytes) = omega (arith, length-hex bytes)

is_digit-glyph : (d : ℕ) → d < 16 → is_digit (digit_glyph false d) ≡ true
is_digit-glyph d small = grind (arith, nat_tests)

pub list_all-hex : (bytes : List ℕ) → All (λ b. b < 256) bytes → list_all is_digit (hex bytes) ≡ true
unfolding hex
list_all-hex [] fit = refl
list_all-hex (b ∷ bytes) fit =
    let small : b < 256 = All-head (λ x. x < 256) b bytes fit in
    let high : is_digit (high_of b) ≡ true = is_digit-glyph (b / 16) (omega arith) in
    let low : is_digit (low_of b) ≡ true = is_digit-glyph (b % 16) (omega arith) in
    rw high (rw low (list_all-hex bytes (All-tail (λ x. x < 256) b bytes fit)))

-- ---- digits in pairs are those of bytes

glyph-value_of : (digit : ℕ) → is_digit digit ≡ true → digit_glyph false (value_of digit) ≡ digit
glyph-value_of digit is = grind (arith, nat_tests)

value_of_small : (digit : ℕ) → value_of digit < 16
value_of_small digit = omega arith

high_of-pair : (x y : ℕ) → is_digit x ≡ true → high_of (16 * value_of x + value_of y) ≡ x
high_of-pair x y is =
    let small = value_of_small y in
    let e : (16 * value_of x + value_of y) / 16 ≡ value_of x = omega arith in
    ap (digit_glyph false) e ∙ glyph-value_of x is

low_of-pair : (x y : ℕ) → is_digit y ≡ true → low_of (16 * value_of x + value_of y) ≡ y
low_of-pair x y is =
    let small = value_of_small y in
    let e : (16 * value_of x + value_of y) % 16 ≡ value_of y = omega arith in
    ap (digit_glyph false) e ∙ glyph-value_of y is

both : (a b : Bool) → (a && b) ≡ true → (a ≡ true) × (b ≡ true)
both true b h = (refl, h)
both false b h = cc

-- digits, in pairs
pub hex-pairs : (n : ℕ) (word : List ℕ) → length word ≡ 2 * n → list_all is_digit word ≡ true → hex (map pair_value (first_chunks 2 n word)) ≡ word
unfolding hex
hex-pairs zero [] even are = refl
hex-pairs zero (x ∷ word) even are = absurd (omega arith)
hex-pairs (suc n) [] even are = absurd (omega arith)
hex-pairs (suc n) (x ∷ []) even are = absurd (omega arith)
hex-pairs (suc n) (x ∷ y ∷ word) even are =
    let front = both (is_digit x) (is_digit y && list_all is_digit word) are in
    let back = both (is_digit y) (list_all is_digit word) front.1 in
    let high = high_of-pair x y front.0 in
    let low = low_of-pair x y back.0 in
    let more = hex-pairs n word (omega arith) back.1 in
    cc

pub pairs_fit : (chunks : List (List ℕ)) → All (λ b. b < 256) (map pair_value chunks)
pairs_fit [] = All-nil (λ b. b < 256)
pairs_fit (pair ∷ chunks) = All-cons (λ b. b < 256) (pair_value pair) (map pair_value chunks) (omega arith) (pairs_fit chunks)
