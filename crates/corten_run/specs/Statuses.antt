-- The exit statuses.
--     status_of      the status of an ending
use Rattle.std.specs.Prelude.{ℕ}
use Rattle.corten_run.specs.declared.ending.Ending.{Ending}
use Rattle.corten_run.specs.declared.ending.Ending.TheVariants.{Done, Refused, Usage, ReadFailed, WriteFailed, NoMemory, Illegal, NotSaved}

abbrev pub status_of : Ending → ℕ
status_of Done = 0
status_of Refused = 1
status_of Usage = 2
status_of ReadFailed = 3
status_of WriteFailed = 4
status_of NoMemory = 5
status_of Illegal = 6
status_of NotSaved = 8
