-- A text that is written to a sink piece by piece, with a buffer before the sink.
--     PassedOn      the bytes that waited, or a front of them, went to the sink, and the others wait
use Rattle.std.specs.Prelude.{◌≡◌, ℕ, Option, List, ◌++◌}
use Rattle.byte_streams.specs.Streams.{HasWritten}

abbrev pub PassedOn : Option (List ℕ) → Option (List ℕ) → List ℕ → List ℕ → Type 0
PassedOn held held_now waiting waiting_now = (front : List ℕ) × (waiting ≡ front ++ waiting_now) × HasWritten held held_now front
