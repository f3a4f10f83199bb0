-- The lines of a text, read from a place on, where no line is skipped.
--     Passes      the lines between two places
--     NoLine      the next line is no such line, or there is none
--     FaultFrom      the first line outside a grammar, after some lines of a text
use Rattle.std.specs.Prelude.{◌≡◌, ℕ, ◌+◌, List, [], ◌∷◌, ◌++◌, length, All}
use Rattle.text_words.specs.Layout.{IsLine, text, TextRest}
use Rattle.text_words.specs.Grammar.{Begins, Fault}

-- these are the lines between two places
pub record Passes (old new : TextRest) (lines : List (List ℕ)) : Type 0 where
  pub are_lines : All IsLine lines
  pub parted : old.bytes ≡ text lines ++ new.bytes
  pub counted : new.taken ≡ old.taken + length lines

-- line n would be the next one, and it is one of which P holds, or the text ends
pub data NoLine (old : TextRest) (n : ℕ) (P : List ℕ → Type 0) : Type 0 where
  other : (new : TextRest) (line : List ℕ) → Passes old new (line ∷ []) → n ≡ new.taken → P line → NoLine old n P
  none : IsLine old.bytes → n ≡ old.taken + 1 → NoLine old n P

-- Behind these lines of a text, n is the number of the first line outside the grammar.
pub record FaultFrom (Grammar : List (List ℕ) → Type 0) (old : TextRest) (lines : List (List ℕ)) (n : ℕ) : Type 0 where
  pub between : List (List ℕ)
  pub rest : List ℕ
  pub are_lines : All IsLine between
  pub parted : old.bytes ≡ text between ++ rest
  pub counted : n ≡ old.taken + length between + 1
  pub begins : Begins Grammar (lines ++ between)
  pub fault : Fault Grammar (lines ++ between) rest
