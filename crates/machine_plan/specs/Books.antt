-- The book's plain data, as clauses see it.
--     BookData      what a book holds
--     state_of      the state that its journal leaves
--     HasLevels      its state has as many levels as its limits say
--     free_rows_within, RowSum      how many rows may still be granted;  those, the rows in limbo and the tables of the state are all the tables that the limits allow
--     HasBlocker, unblocked      a row in limbo that a sweep left there, with a pass that may still read it;  the row as it was before any sweep
--     put_of      a row in limbo as the pure core sees it
use Rattle.std.specs.Prelude.{◌≡◌, ℕ, ◌+◌, ◌<◌, ◌%◌, List, length, nat_le, slice_index}
use Rattle.std.specs.List.{count_by, filter, range_with_len}
use Rattle.std.specs.FinSet as set
use Rattle.corten_base.specs.declared.calls.Entry.{Entry}
use Rattle.corten_base.specs.declared.numbers.Limits.{Limits}
use Rattle.free_numbers.specs.Numbers.{NumbersBelow}
use Rattle.counted_pages.specs.Pages.{PageCounts}
use Rattle.row_layout.specs.Limbo.{blocked}
use Rattle.row_layout.specs.declared.limbo.Sampled.{Sampled}
use Rattle.walk_core.specs.declared.lists.PutRow.{PutRow}
use Rattle.page_map.specs.State.{State, start, levels, linked}
use Rattle.page_map.specs.History.{after}

-- The journal has places for so many entries. frames, slots: the owners of each number, and whether a spare buffer is kept for it.
pub record BookData : Type 0 where
  pub limits : Limits
  pub files : List (List ℕ)
  pub journal : List Entry
  pub room : ℕ
  pub frames : PageCounts
  pub slots : PageCounts
  pub free : NumbersBelow
  pub limbo : List Sampled
  pub next_generation : ℕ

unfoldable pub state_of : BookData → State
state_of b = after (start b.limits b.files) b.journal

abbrev pub HasLevels : Type 0
HasLevels = (b : BookData) → levels (state_of b) ≡ b.limits.levels

-- in ascending order
abbrev pub free_list : BookData → List ℕ
free_list b = filter (set.contains b.free.numbers) (range_with_len 0 b.free.limit)

-- rows above the limit of tables are set aside
abbrev pub free_rows_within : BookData → ℕ
free_rows_within b = count_by (λ row. nat_le row b.limits.tables) (free_list b)

abbrev pub RowSum : BookData → Type 0
RowSum b = free_rows_within b + length b.limbo + linked (state_of b) ≡ b.limits.tables

-- the number of the pass is the odd one with which the row went into limbo
pub record HasBlocker (s : Sampled) : Type 0 where
  pub there : s.blocker < 8
  pub odd : s.blocked_at % 2 ≡ 1
  pub same : s.blocked_at ≡ slice_index s.samples s.blocker

abbrev pub unblocked : Sampled → Sampled
unblocked s = blocked s 255 0

abbrev pub put_of : Sampled → PutRow
put_of s = record { row = s.row; samples = s.samples }
