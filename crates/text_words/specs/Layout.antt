-- How words stand on a line, and lines in a text.
--     HasNo         a byte that does not occur
--     IsWord, IsLine      bytes without a space, and without a newline
--     joined        words with one space between two
--     words_of      the words that a line is made of: what stands between its spaces and its ends
--     ended, text   a line with its newline, and lines one after another
use Rattle.std.specs.Prelude.{◌≢◌, ℕ, ◌==◌, List, [], ◌∷◌, ◌++◌, All}
use Rattle.std.specs.List.{join_with_byte, slice_split, flat_map}

abbrev pub HasNo : ℕ → List ℕ → Type 0
HasNo byte bytes = All (λ b. b ≢ byte) bytes

-- 32 is a space, and 10 a newline
abbrev pub IsWord : List ℕ → Type 0
IsWord word = HasNo 32 word

abbrev pub IsLine : List ℕ → Type 0
IsLine line = HasNo 10 line

abbrev pub joined : List (List ℕ) → List ℕ
joined words = join_with_byte 32 words

abbrev pub words_of : List ℕ → List (List ℕ)
words_of line = slice_split (λ b. b == 32) line

abbrev pub ended : List ℕ → List ℕ
ended line = line ++ 10 ∷ []

abbrev pub text : List (List ℕ) → List ℕ
text lines = flat_map ended lines

-- what is left of a text after some lines
pub record TextRest : Type 0 where
  pub bytes : List ℕ
  pub taken : ℕ
