-- The digits of base 16, `0` to `9` and `a` to `f`, without a table.
--     is_digit      whether a byte is one
--     value_of      the value of a digit
--     pair_value      the byte whose digits two bytes are
--     digit_pair      the two digits of a byte
use Rattle.std.specs.Prelude.{ℕ, ◌+◌, ◌*◌, ◌/◌, ◌%◌, Bool, false, ◌&&◌, ◌||◌, List, [], ◌∷◌, nat_le, slice_index}
use Rattle.std.specs.Fmt.{digit_glyph}

abbrev pub is_digit : ℕ → Bool
is_digit byte = nat_le 48 byte && nat_le byte 57 || nat_le 97 byte && nat_le byte 102

-- in ASCII the low four bits count from `0`, and from the byte before `a`
abbrev pub value_of : ℕ → ℕ
value_of digit = (digit % 16 + 9 * (digit / 64)) % 16

abbrev pub pair_value : List ℕ → ℕ
pair_value pair = 16 * value_of (slice_index pair 0) + value_of (slice_index pair 1)

-- the digit of the high four bits comes first
abbrev pub digit_pair : ℕ → List ℕ
digit_pair byte = digit_glyph false (byte / 16) ∷ digit_glyph false (byte % 16) ∷ []
