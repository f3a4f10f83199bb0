-- Counts of owners beside the cells of a space.
--     carried, one_at      how many cells carry a number;  1 for the number that is there
--     IsCounted, AreCounted      counts of no fewer owners than the cells of a space, of one kind;  of both kinds
--     Leaves, Follows, Follow      counts after a number was left;  after cells changed, of one kind;  of both kinds
use Rattle.std.specs.Prelude.{◌≡◌, ℕ, ◌+◌, ◌≤◌, cond, List, length, slice_index, nat_eq, Option, Some, None}
use Rattle.std.specs.List.{count_by}
use Rattle.std.specs.FinMap as map
use Rattle.page_map.specs.declared.cell.Cell.{Cell}
use Rattle.page_map.specs.Cell.{frame_of, slot_of}
use Rattle.page_map.specs.State.{AddressSpace, carries}
use Rattle.plain_counts.specs.declared.counts.Counts.{Counts}

abbrev pub carried : (Cell → Option ℕ) → ℕ → AddressSpace → ℕ
carried number_of n cells = count_by (carries number_of n) (map.values cells)

abbrev pub one_at : Option ℕ → ℕ → ℕ
one_at None n = 0
one_at (Some m) n = cond (nat_eq m n) 1 0

pub record IsCounted (number_of : Cell → Option ℕ) (counts : List ℕ) (cells : AddressSpace) : Type 0 where
  pub each : (n : ℕ) → carried number_of n cells ≤ slice_index counts n

pub record AreCounted (counts : Counts) (cells : AddressSpace) : Type 0 where
  pub frames : IsCounted frame_of counts.frames cells
  pub slots : IsCounted slot_of counts.slots cells

-- one owner fewer of the number that is there
pub record Leaves (left : Option ℕ) (old new : List ℕ) : Type 0 where
  pub numbers : length new ≡ length old
  pub counts : (n : ℕ) → slice_index new n + one_at left n ≡ slice_index old n

pub record Follows (number_of : Cell → Option ℕ) (old new : List ℕ) (before after : AddressSpace) : Type 0 where
  pub numbers : length new ≡ length old
  pub counts : (n : ℕ) → slice_index new n + carried number_of n before ≡ slice_index old n + carried number_of n after

pub record Follow (old new : Counts) (before after : AddressSpace) : Type 0 where
  pub frames : Follows frame_of old.frames new.frames before after
  pub slots : Follows slot_of old.slots new.slots before after
