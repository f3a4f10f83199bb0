-- Pages of files, after POSIX.1 mmap: a page has 4,096 bytes, and the last page of a file may have fewer.
--     file_bytes      the bytes of a file by its number
--     IsPage      what a page of a file is: no file of that number, past the end, or the bytes from its start on
use Rattle.std.specs.Prelude.{◌≡◌, ℕ, ◌*◌, ◌<◌, ◌≤◌, List, [], length, take, drop, slice_get}
use Rattle.std.specs.Option.{unwrap_or}
use Rattle.file_shelf.specs.declared.FilePage.{FilePage}
use Rattle.file_shelf.specs.declared.FilePage.TheVariants.{NoFile, PastEnd, Bytes}

abbrev pub file_bytes : List (List ℕ) → ℕ → List ℕ
file_bytes files file = unwrap_or (slice_get files file) []

abbrev pub IsPage : List (List ℕ) → ℕ → ℕ → FilePage → Type 0
IsPage files file index NoFile = length files ≤ file
IsPage files file index PastEnd = (file < length files) × (length (file_bytes files file) ≤ index * 4096)
IsPage files file index (Bytes part) =
    (file < length files) × (index * 4096 < length (file_bytes files file)) × (part.now ≡ take 4096 (drop (index * 4096) (file_bytes files file)))
