-- Which rows a sweep takes out of limbo.
--     IsStock      the two lists of the book that a pass has
--     reads, is_read      a pass may still read a row in limbo;  some pass may
--     IsReader      the first pass that may
--     rows_of      the numbers of rows in limbo
--     swept_rows      the rows of limbo that are not left there
--     IsKept      a row that the sweep left in limbo, with the first pass that may still read it
--     Sweeps      what a sweep leaves
use Rattle.std.specs.Prelude.{◌≡◌, ℕ, ◌<◌, ◌%◌, ◌==◌, ◌&&◌, ◌||◌, Bool, true, false, not, List, map, length, slice_index, Some}
use Rattle.std.specs.List.{All, filter, range_with_len, list_any}
use Rattle.std.specs.FinSet as set
use Rattle.free_numbers.specs.Numbers.{NumbersBelow}
use Rattle.walk_core.specs.Lists.{among, minus}
use Rattle.row_layout.specs.declared.limbo.Sampled.{Sampled}
use Rattle.row_table.specs.declared.view.PassView.{PassView}
use Rattle.row_table.specs.Plan.{Meaning}
use Rattle.epoch_grace.specs.Loads.{put_of, Loads}

-- the number with which the row went into limbo is odd, so the pass x was inside then, and a load found it again
abbrev pub reads : List ℕ → Sampled → ℕ → Bool
reads numbers s x = (slice_index s.samples x % 2 == 1) && (slice_index numbers x == slice_index s.samples x)

abbrev pub is_read : List ℕ → Sampled → Bool
is_read numbers s = list_any (reads numbers s) (range_with_len 0 (length numbers))

abbrev pub IsReader : List ℕ → Sampled → ℕ → Type 0
IsReader numbers s x = (reads numbers s x ≡ true) × ((y : ℕ) → y < x → reads numbers s y ≡ false)

abbrev pub rows_of : List Sampled → List ℕ
rows_of limbo = map (λ s. s.row) limbo

abbrev pub swept_rows : List Sampled → List Sampled → List ℕ
swept_rows limbo left = minus (rows_of left) (rows_of limbo)

-- The pass and its number are those of a load of this sweep; the number is odd, and the one with which the row went into limbo. No pass before
-- it may read the row.
pub record IsKept (numbers : List ℕ) (s : Sampled) : Type 0 where
  pub there : s.blocker < length numbers
  pub loaded : s.blocked_at ≡ slice_index numbers s.blocker
  pub odd : s.blocked_at % 2 ≡ 1
  pub same : s.blocked_at ≡ slice_index s.samples s.blocker
  pub first : (x : ℕ) → x < s.blocker → reads numbers s x ≡ false

module _ {R B E : Type 0} where
  pub record IsStock (M : Meaning R B E) (v : PassView R B E) (limbo : List Sampled) (free : NumbersBelow) : Type 0 where
    pub book : B
    pub found : v.found ≡ Some book
    pub in_limbo : M.limbo book ≡ map put_of limbo
    pub is_free : (row : ℕ) → set.contains free.numbers row ≡ among (M.free book) row

  -- The rows that some pass may still read stay in limbo, in their order and with their numbers. All others are free, and no other row becomes so.
  pub record Sweeps (M : Meaning R B E) (v : PassView R B E) (limbo : List Sampled) (free : NumbersBelow) (w : PassView R B E) (left : List Sampled) (free' : NumbersBelow) : Type 0 where
    pub numbers : List ℕ
    pub loads : Loads M v numbers w
    pub stay : map put_of left ≡ map put_of (filter (is_read numbers) limbo)
    pub kept : All (IsKept numbers) left
    pub limit : free'.limit ≡ free.limit
    pub freed : (row : ℕ) → set.contains free'.numbers row ≡ (set.contains free.numbers row || among (rows_of (filter (λ s. not (is_read numbers s)) limbo)) row)
