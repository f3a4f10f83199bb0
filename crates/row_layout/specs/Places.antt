-- The places of the words of table rows, passes and the book.
--     IsLayout      the sizes that a layout may have
--     Word      the words: of a row its entries, lock, position and generation; a pass's epoch; the book's lock
--     IsThere      whether a layout has a word
--     place, word_count      the place of a word;  how many words there are
use Rattle.std.specs.Prelude.{ℕ, ◌+◌, ◌*◌, ◌<◌, ◌≤◌}
use Rattle.row_layout.specs.declared.places.Layout.{Layout}

abbrev pub IsLayout : Layout → Type 0
IsLayout l = (2 ≤ l.rows) × (l.rows ≤ 1024) × (1 ≤ l.passes) × (l.passes ≤ 8) × (4 ≤ l.levels) × (l.levels ≤ 5)

pub data Word : Type 0 where
  entry_word : ℕ → ℕ → Word
  lock_word : ℕ → Word
  position_word : ℕ → Word
  generation_word : ℕ → Word
  epoch_word : ℕ → Word
  book_word : Word

abbrev pub IsThere : Layout → Word → Type 0
IsThere l (entry_word row index) = (row < l.rows) × (index < 512)
IsThere l (lock_word row) = row < l.rows
IsThere l (position_word row) = row < l.rows
IsThere l (generation_word row) = row < l.rows
IsThere l (epoch_word pass) = pass < l.passes
IsThere l book_word = Unit {0}

-- A row has 515 words. The epoch words of the passes stand behind all rows, and the book's lock word behind them.
abbrev pub place : Layout → Word → ℕ
place l (entry_word row index) = 515 * row + index
place l (lock_word row) = 515 * row + 512
place l (position_word row) = 515 * row + 513
place l (generation_word row) = 515 * row + 514
place l (epoch_word pass) = 515 * l.rows + pass
place l book_word = 515 * l.rows + l.passes

abbrev pub word_count : Layout → ℕ
word_count l = 515 * l.rows + l.passes + 1
