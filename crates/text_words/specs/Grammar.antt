-- Which line of a text is the first outside a grammar. A grammar says of lines whether they are the lines of a text.
--     Begins      lines with which a text of the grammar begins
--     Fault, IsFirstFault      why a line is outside the grammar, and the first such line
use Rattle.std.specs.Prelude.{◌≡◌, ◌≢◌, ℕ, ◌+◌, List, [], ◌∷◌, ◌++◌, length, All}
use Rattle.text_words.specs.Layout.{IsLine, ended, text}

-- some text has these lines, and then more
pub record Begins (Grammar : List (List ℕ) → Type 0) (lines : List (List ℕ)) : Type 0 where
  pub more : List (List ℕ)
  pub goes_on : Grammar (lines ++ more)

-- Why no text has these lines, and behind them these bytes.
pub data Fault (Grammar : List (List ℕ) → Type 0) (lines : List (List ℕ)) (rest : List ℕ) : Type 0 where
  -- no text begins with these lines and the next one
  outside : (line more : List ℕ) → IsLine line → rest ≡ ended line ++ more → ¬ (Begins Grammar (lines ++ line ∷ [])) → Fault Grammar lines rest
  -- the next line has no newline
  unfinished : IsLine rest → rest ≢ [] → Fault Grammar lines rest
  -- the bytes end before a line that must come
  missing : rest ≡ [] → ¬ (Grammar lines) → Fault Grammar lines rest

-- Counted from 1, n is the number of the first line that is outside the grammar: some text begins with the lines before it.
pub record IsFirstFault (Grammar : List (List ℕ) → Type 0) (bytes : List ℕ) (n : ℕ) : Type 0 where
  pub before : List (List ℕ)
  pub rest : List ℕ
  pub are_lines : All IsLine before
  pub parted : bytes ≡ text before ++ rest
  pub counted : n ≡ length before + 1
  pub begins : Begins Grammar before
  pub fault : Fault Grammar before rest
