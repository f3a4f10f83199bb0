-- Bytes of a page, and bytes written into others.
--     zeros      the 4,096 bytes of a page of zeros
--     bytes_after_write      bytes after others were written at a place in them
use Rattle.std.specs.Prelude.{ℕ, ◌+◌, List, ◌++◌, length, take, drop, replicate}

unfoldable pub zeros : List ℕ
zeros = replicate 4096 0

-- those before the place, those written, and those after them
abbrev pub bytes_after_write : List ℕ → ℕ → List ℕ → List ℕ
bytes_after_write old place written = take place old ++ written ++ drop (place + length written) old
