-- What was read from a source, and what was written to a sink, in one or more calls.
--     HasRead      the bytes that were read, up to the source's end
--     HasWritten, HasWrittenPart      the bytes that were written;  a front of them
use Rattle.std.specs.Prelude.{◌≡◌, ℕ, ◌≤◌, Option, List, length, take}
use Rattle.std.specs.Io.KnownBytes.{prepend_known, append_known, IsAtEnd}

-- these bytes came first, and what is left now came after them
abbrev pub HasRead : Option (List ℕ) → Option (List ℕ) → List ℕ → Type 0
HasRead left left_now bytes = left ≡ prepend_known bytes left_now

abbrev pub HasWritten : Option (List ℕ) → Option (List ℕ) → List ℕ → Type 0
HasWritten held held_now bytes = held_now ≡ append_known held bytes

abbrev pub HasWrittenPart : Option (List ℕ) → Option (List ℕ) → List ℕ → Type 0
HasWrittenPart held held_now bytes = (n : ℕ) × (n ≤ length bytes) × HasWritten held held_now (take n bytes)
