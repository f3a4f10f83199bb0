-- How the words of a text are spelled, each as a function from a value to its bytes.
--     number        a number in decimal digits, without a leading zero
--     address       `0x` and a number in lower-case hexadecimal digits, without a leading zero
--     hex           two lower-case hexadecimal digits for each byte
--     permission    three characters, `r` or `-`, `w` or `-` and `x` or `-`
use Rattle.std.specs.Prelude.{ℕ, ◌/◌, ◌%◌, false, List, [], ◌∷◌, ◌++◌, codes, if◌then◌else◌}
use Rattle.std.specs.Fmt.{digits, digit_glyph}
use Rattle.corten_base.specs.declared.permissions.Perm.{Perm}

-- what Rust's `{}` writes: `0` is the only number whose first digit is 0
abbrev pub number : ℕ → List ℕ
number n = digits 10 false n

-- what Rust's `{:#x}` writes
abbrev pub address : ℕ → List ℕ
address n = codes "0x" ++ digits 16 false n

-- the digit of the high four bits comes first
unfoldable pub hex : List ℕ → List ℕ
hex [] = []
hex (byte ∷ bytes) = digit_glyph false (byte / 16) ∷ digit_glyph false (byte % 16) ∷ hex bytes

-- 114, 119 and 120 are the letters, and 45 is `-`
abbrev pub permission : Perm → List ℕ
permission perm =
    (if perm.read then 114 else 45) ∷ (if perm.write then 119 else 45) ∷ (if perm.exec then 120 else 45) ∷ []
