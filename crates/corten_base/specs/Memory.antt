-- A source and a sink in memory, as contracts see them.
--     SourceState, SinkState      the bytes, and when calls fail
--     IfGot, IfTook      a fact about the number of bytes that an answer tells
--     count_after      a count after one more
use Rattle.std.specs.Prelude.{ℕ, ◌+◌, ◌-◌, ◌^◌, min, List, ⊤}
use Rattle.corten_base.specs.declared.outside.ReadAnswer.{ReadAnswer}
use Rattle.corten_base.specs.declared.outside.ReadAnswer.TheVariants as read
use Rattle.corten_base.specs.declared.outside.WriteAnswer.{WriteAnswer}
use Rattle.corten_base.specs.declared.outside.WriteAnswer.TheVariants as write

-- Calls count from 0, and those whose numbers stand in `failing` fail.
pub record SourceState : Type 0 where
  pub left : List ℕ
  -- the greatest number of bytes of a call
  pub piece : ℕ
  pub failing : List ℕ
  -- how many calls there were, and how many of them failed
  pub calls : ℕ
  pub faults : ℕ

pub record SinkState : Type 0 where
  pub held : List ℕ
  -- how many bytes it can hold
  pub room : ℕ
  pub piece : ℕ
  pub failing : List ℕ
  pub calls : ℕ
  pub faults : ℕ

abbrev pub IfGot : ReadAnswer → (ℕ → Type 0) → Type 0
IfGot (read.Got n) P = P n
IfGot read.End P = ⊤
IfGot read.Failed P = ⊤

abbrev pub IfTook : WriteAnswer → (ℕ → Type 0) → Type 0
IfTook (write.Took n) P = P n
IfTook write.Failed P = ⊤

-- a u64, which stays at its end
abbrev pub count_after : ℕ → ℕ
count_after count = min (count + 1) (2 ^ 64 - 1)
