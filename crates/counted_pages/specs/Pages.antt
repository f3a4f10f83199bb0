-- Numbered pages with owners.
--     CountedPage      a page as one of its owners holds it: the number and the body
--     PageCounts      the count of owners of each number, and whether a spare buffer is kept for it
--     HasSpare      a spare buffer is kept for a number
--     with_count, with_spare, without_spare      the pages with another count, with a spare and without one at a number
--     KeepsSpares      each unused number has a spare
use Rattle.std.specs.Prelude.{◌≡◌, ℕ, ◌<◌, Bool, true, false, List, length, slice_index_or, slice_set}
use Rattle.corten_base.specs.Body.{PageBody}
use Rattle.shares.specs.Counts.{count_of}

pub record CountedPage : Type 0 where
  pub number : ℕ
  pub body : PageBody

pub record PageCounts : Type 0 where
  pub counts : List ℕ
  pub spares : List Bool

abbrev pub HasSpare : PageCounts → ℕ → Type 0
HasSpare pages number = slice_index_or pages.spares number false ≡ true

abbrev pub with_count : PageCounts → ℕ → ℕ → PageCounts
with_count pages number count = record pages { counts = slice_set pages.counts number count }

abbrev pub with_spare : PageCounts → ℕ → PageCounts
with_spare pages number = record pages { spares = slice_set pages.spares number true }

abbrev pub without_spare : PageCounts → ℕ → PageCounts
without_spare pages number = record pages { spares = slice_set pages.spares number false }

pub record KeepsSpares (pages : PageCounts) : Type 0 where
  pub as_many : length pages.spares ≡ length pages.counts
  pub unused : (number : ℕ) → number < length pages.counts → count_of pages.counts number ≡ 0 → HasSpare pages number
