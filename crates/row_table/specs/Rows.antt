-- What the words show of a row.
--     row_words      its 512 entry words
--     place_at, lock_of_row, generation_of      its position, its lock word and its generation word
--     epoch_of      a pass's epoch word
use Rattle.std.specs.Prelude.{ℕ, List, map, slice_index}
use Rattle.std.specs.List.{range_with_len}
use Rattle.table_place.specs.declared.Place.{Place}
use Rattle.walk_core.specs.Words.{entry_at, lock_at, position_at, generation_at, place_shown}

unfoldable pub row_words : List ℕ → ℕ → List ℕ
row_words words row = map (λ index. slice_index words (entry_at row index)) (range_with_len 0 512)

abbrev pub place_at : List ℕ → ℕ → Place
place_at words row = place_shown (slice_index words (position_at row))

abbrev pub lock_of : List ℕ → ℕ → ℕ
lock_of words row = slice_index words (lock_at row)

abbrev pub generation_of : List ℕ → ℕ → ℕ
generation_of words row = slice_index words (generation_at row)
