-- Which bytes do not occur in spelled words: a byte that is no digit occurs in no number and in no hexadecimal bytes.
use Rattle.std.proofs.Common.{◌≡◌, ◌≢◌, ℕ, ◌+◌, ◌/◌, ◌%◌, ◌^◌, ◌<◌, ◌≤◌, Bool, true, false, List, [], ◌∷◌, sym, subst, ◌⊎◌, inl, inr, arith}
use Rattle.std.specs.Prelude.{if◌then◌else◌}
use Rattle.std.specs.Fmt.{digits, digit_glyph}
use Rattle.std.specs.List.{All}
use Rattle.std.proofs.lemmas.Bool.Decides.{nat_tests}
use Rattle.std.proofs.lemmas.List.Elements.{All-nil, All-cons, All-head, All-tail, All-append}
use Rattle.corten_base.specs.declared.permissions.Perm.{Perm}
use Rattle.text_words.specs.Layout.{HasNo, joined}
use Rattle.text_words.specs.Spelling.{number, address, hex, permission}
use Rattle.text_words.proofs.Numerals.{IsNumeral-digits, below_power, written, weaker_base}

-- a byte that is no digit
abbrev pub IsNoDigit : ℕ → Type 0
IsNoDigit byte = (d : ℕ) → d < 16 → digit_glyph false d ≢ byte

digit_glyph_parts : (d : ℕ) → (d < 10) × (digit_glyph false d ≡ 48 + d) ⊎ (10 ≤ d) × (digit_glyph false d ≡ 87 + d)
digit_glyph_parts d = grind (arith, nat_tests)

-- a space, a newline and a dash stand before the digits, and `;` and `=` between digits and letters
pub IsNoDigit-below : (byte : ℕ) → byte < 48 → IsNoDigit byte
IsNoDigit-below byte low d small is =
    elim (digit_glyph_parts d) [ inl h ↦ omega (arith, h.1) | inr h ↦ omega (arith, h.1) ]

pub IsNoDigit-between : (byte : ℕ) → 57 < byte → byte < 97 → IsNoDigit byte
IsNoDigit-between byte high low d small is =
    elim (digit_glyph_parts d) [ inl h ↦ omega (arith, h.0, h.1) | inr h ↦ omega (arith, h.0, h.1) ]

HasNo-written : (byte : ℕ) (ds : List ℕ) → All (λ d. d < 16) ds → IsNoDigit byte → HasNo byte (written ds)
HasNo-written byte [] fit none = All-nil (λ b. b ≢ byte)
HasNo-written byte (d ∷ ds) fit none =
    All-cons (λ b. b ≢ byte) (digit_glyph false d) (written ds) (none d (All-head (λ x. x < 16) d ds fit)) (HasNo-written byte ds (All-tail (λ x. x < 16) d ds fit) none)

HasNo-digits : (byte base n : ℕ) → 2 ≤ base → base ≤ 16 → n < 2 ^ 64 → IsNoDigit byte → HasNo byte (digits base false n)
HasNo-digits byte base n two small fits none =
    let a = IsNumeral-digits base n two (below_power base n two fits) in
    subst (HasNo byte) (sym a.spelled) (HasNo-written byte a.values (weaker_base base a.values small a.below) none)

pub HasNo-number : (byte n : ℕ) → n < 2 ^ 64 → IsNoDigit byte → HasNo byte (number n)
HasNo-number byte n fits none = HasNo-digits byte 10 n (omega arith) (omega arith) fits none

pub HasNo-address : (byte n : ℕ) → n < 2 ^ 64 → IsNoDigit byte → 120 ≢ byte → HasNo byte (address n)
HasNo-address byte n fits none no_x =
    All-cons (λ b. b ≢ byte) 48 (120 ∷ digits 16 false n) (none 0 (omega arith))
    (All-cons (λ b. b ≢ byte) 120 (digits 16 false n) no_x (HasNo-digits byte 16 n (omega arith) (omega arith) fits none))

pub HasNo-hex : (byte : ℕ) (bytes : List ℕ) → All (λ b. b < 256) bytes → IsNoDigit byte → HasNo byte (hex bytes)
unfolding hex
HasNo-hex byte [] fit none = All-nil (λ b. b ≢ byte)
HasNo-hex byte (c ∷ bytes) fit none =
    let small : c < 256 = All-head (λ b. b < 256) c bytes fit in
    All-cons (λ b. b ≢ byte) (digit_glyph false (c / 16)) (digit_glyph false (c % 16) ∷ hex bytes) (none (c / 16) (omega arith))
    (All-cons (λ b. b ≢ byte) (digit_glyph false (c % 16)) (hex bytes) (none (c % 16) (omega arith)) (HasNo-hex byte bytes (All-tail (λ b. b < 256) c bytes fit) none))

HasNo-letter : (byte letter : ℕ) (holds : Bool) → letter ≢ byte → 45 ≢ byte → (if holds then letter else 45) ≢ byte
HasNo-letter byte letter true no_letter no_dash = no_letter
HasNo-letter byte letter false no_letter no_dash = no_dash

-- permissions have letters and dashes alone
pub HasNo-permission : (byte : ℕ) (perm : Perm) → byte < 45 → HasNo byte (permission perm)
HasNo-permission byte perm low =
    let no : (letter : ℕ) → 45 ≤ letter → letter ≢ byte = λ letter high is. omega arith in
    let r : ℕ = if perm.read then 114 else 45 in
    let w : ℕ = if perm.write then 119 else 45 in
    let x : ℕ = if perm.exec then 120 else 45 in
    All-cons (λ b. b ≢ byte) r (w ∷ x ∷ []) (HasNo-letter byte 114 perm.read (no 114 (omega arith)) (no 45 (omega arith)))
    (All-cons (λ b. b ≢ byte) w (x ∷ []) (HasNo-letter byte 119 perm.write (no 119 (omega arith)) (no 45 (omega arith)))
    (All-cons (λ b. b ≢ byte) x [] (HasNo-letter byte 120 perm.exec (no 120 (omega arith)) (no 45 (omega arith))) (All-nil (λ b. b ≢ byte))))

-- words joined
pub HasNo-joined : (byte : ℕ) (words : List (List ℕ)) → 32 ≢ byte → All (HasNo byte) words → HasNo byte (joined words)
HasNo-joined byte [] no_space h = All-nil (λ b. b ≢ byte)
HasNo-joined byte (word ∷ []) no_space h = All-head (HasNo byte) word [] h
HasNo-joined byte (word ∷ next ∷ words) no_space h =
    All-append (λ b. b ≢ byte) word (32 ∷ joined (next ∷ words)) (All-head (HasNo byte) word (next ∷ words) h)
    (All-cons (λ b. b ≢ byte) 32 (joined (next ∷ words)) no_space (HasNo-joined byte (next ∷ words) no_space (All-tail (HasNo byte) word (next ∷ words) h)))
