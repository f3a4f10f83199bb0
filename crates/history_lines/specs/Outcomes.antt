-- What became of writing a text.
--     IsWritten      the whole text was appended, or a front of it with the cause
--     GoesOn      the same for a text that goes on, with a buffer before the sink
use Rattle.std.specs.Prelude.{ℕ, Option, List}
use Rattle.corten_base.specs.Outside.{Rises}
use Rattle.byte_streams.specs.Streams.{HasWritten, HasWrittenPart}
use Rattle.history_lines.specs.Writing.{PassedOn}
use Rattle.history_lines.specs.declared.writer.Written.{Written}
use Rattle.history_lines.specs.declared.writer.Written.TheVariants.{Whole, Failed, NoMemory}

-- `faults` and `faults_now` are the sink's counts before and after
abbrev pub IsWritten : Option (List ℕ) → Option (List ℕ) → ℕ → ℕ → List ℕ → Written → Type 0
IsWritten held held_now faults faults_now text Whole = HasWritten held held_now text
IsWritten held held_now faults faults_now text Failed = HasWrittenPart held held_now text × Rises faults faults_now
IsWritten held held_now faults faults_now text NoMemory = HasWrittenPart held held_now text

-- the same for a text that goes on: what was not yet written waits
abbrev pub GoesOn : Option (List ℕ) → Option (List ℕ) → ℕ → ℕ → List ℕ → List ℕ → Written → Type 0
GoesOn held held_now faults faults_now text waiting Whole = PassedOn held held_now text waiting
GoesOn held held_now faults faults_now text waiting Failed = HasWrittenPart held held_now text × Rises faults faults_now
GoesOn held held_now faults faults_now text waiting NoMemory = HasWrittenPart held held_now text
