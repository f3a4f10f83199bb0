-- What a read of a source and a write to a sink do. A source may tell the bytes that are left in it, and a sink those
-- that it holds: `Some` list where it tells them, else None.
--     IsRead, IsWrite      what a call did, by its answer
--     Rises      a count of faults after a fault
use Rattle.std.specs.Prelude.{◌≡◌, ℕ, ◌-◌, ◌^◌, ◌<◌, ◌≤◌, Option, List, length, take}
use Rattle.std.specs.Io.KnownBytes.{prepend_known, append_known, IsAtEnd}
use Rattle.corten_base.specs.declared.outside.ReadAnswer.{ReadAnswer}
use Rattle.corten_base.specs.declared.outside.ReadAnswer.TheVariants.{Got, End, Failed}
use Rattle.corten_base.specs.declared.outside.WriteAnswer.{WriteAnswer}
use Rattle.corten_base.specs.declared.outside.WriteAnswer.TheVariants as answer

-- `Got n`: n bytes stand at the front of the buffer, and they and those that are left now are those that were left.
-- `End`: nothing was left. `Failed`: all is left as it was.
abbrev pub IsRead : Option (List ℕ) → Option (List ℕ) → ReadAnswer → List ℕ → Type 0
IsRead left left_now (Got n) buffer = (0 < n) × (n ≤ length buffer) × (left ≡ prepend_known (take n buffer) left_now)
IsRead left left_now End buffer = IsAtEnd left × (left_now ≡ left)
IsRead left left_now Failed buffer = left_now ≡ left

-- `Took n`: the first n bytes were appended. `Failed`: none was.
abbrev pub IsWrite : Option (List ℕ) → Option (List ℕ) → WriteAnswer → List ℕ → Type 0
IsWrite held held_now (answer.Took n) bytes = (0 < n) × (n ≤ length bytes) × (held_now ≡ append_known held (take n bytes))
IsWrite held held_now answer.Failed bytes = held_now ≡ held

-- A count that stands at the end of its type, a u64, stays there. Any other has risen.
abbrev pub Rises : ℕ → ℕ → Type 0
Rises count count_now = count < 2 ^ 64 - 1 → count < count_now
