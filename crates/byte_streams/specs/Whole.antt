-- What reading a source to its end does.
--     Ends      what each answer says of the source
use Rattle.std.specs.Prelude.{ℕ, ◌<◌, ◌≤◌, Option, List, length}
use Rattle.std.specs.Io.KnownBytes.{IsAtEnd}
use Rattle.corten_base.specs.Outside.{Rises}
use Rattle.byte_streams.specs.Streams.{HasRead}
use Rattle.byte_streams.specs.declared.reading.ReadWhole.{ReadWhole}
use Rattle.byte_streams.specs.declared.reading.ReadWhole.TheVariants.{All, TooLong, Failed}

-- `left` and `faults` are the source's before, `left_now` and `faults_now` after
abbrev pub Ends : ℕ → Option (List ℕ) → Option (List ℕ) → ℕ → ℕ → ReadWhole → Type 0
-- these were all the bytes, not more than the limit
Ends limit left left_now faults faults_now (All bytes) = HasRead left left_now bytes.items × IsAtEnd left_now × (length bytes.items ≤ limit)
-- more bytes than the limit were read
Ends limit left left_now faults faults_now TooLong = (bytes : List ℕ) × (limit < length bytes) × HasRead left left_now bytes
Ends limit left left_now faults faults_now Failed = Rises faults faults_now
