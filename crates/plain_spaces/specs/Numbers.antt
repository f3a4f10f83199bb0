-- Numbers of frames and swap slots beside the counts of their owners.
--     frame_in, slot_in      the number of a frame;  of a swap slot
--     count_of, IsCarried, MayShare      how many keys carry it;  whether one does;  and not too many
--     WasUnused, one_fewer      whether a number is there and no key carries it;  the counts of one kind, by one fewer at a number
--     Leave, LeavesAny, Join      counts after one key fewer carries it;  if there is one;  after one key more does
--     times      how often a number of a kind stands in a list
--     AreCarried, AreLeft, LeaveAll      counts of at least as many owners as numbers of a list stand there;  and after each was left, of one kind;  of both
--     Keeps      that nothing has changed
use Rattle.std.specs.Prelude.{◌≡◌, ℕ, ◌+◌, ◌-◌, ◌^◌, ◌<◌, ◌≤◌, List, length, slice_index, slice_set, Option, Some, None}
use Rattle.std.specs.List.{sum_by}
use Rattle.page_map.specs.State.{AddressSpace}
use Rattle.plain_counts.specs.declared.counts.Counts.{Counts}
use Rattle.plain_counts.specs.Counts.{one_at, Leaves}
use Rattle.space_cells.specs.declared.held.Number.{Number}
use Rattle.space_cells.specs.declared.held.Number.TheVariants.{Frame, Slot}

abbrev pub frame_in : Number → Option ℕ
frame_in (Frame n) = Some n
frame_in (Slot n) = None

abbrev pub slot_in : Number → Option ℕ
slot_in (Frame n) = None
slot_in (Slot n) = Some n

abbrev pub count_of : Counts → Number → ℕ
count_of counts (Frame n) = slice_index counts.frames n
count_of counts (Slot n) = slice_index counts.slots n

abbrev pub IsCarried : Counts → Number → Type 0
IsCarried counts number = 0 < count_of counts number

pub record MayShare (counts : Counts) (number : Number) : Type 0 where
  pub carried : IsCarried counts number
  pub room : count_of counts number + 1 < 2 ^ 32

abbrev pub WasUnused : List ℕ → ℕ → Type 0
WasUnused counts n = (n < length counts) × (slice_index counts n ≡ 0)

abbrev pub one_fewer : List ℕ → ℕ → List ℕ
one_fewer counts n = slice_set counts n (slice_index counts n - 1)

-- one key fewer, and the numbers of the other kind stay
abbrev pub Leave : Number → Counts → Counts → Type 0
Leave (Frame n) old new = Leaves (Some n) old.frames new.frames × (new.slots ≡ old.slots)
Leave (Slot n) old new = Leaves (Some n) old.slots new.slots × (new.frames ≡ old.frames)

abbrev pub LeavesAny : Option Number → Counts → Counts → Type 0
LeavesAny None old new = new ≡ old
LeavesAny (Some number) old new = Leave number old new

-- one key more
abbrev pub Join : Number → Counts → Counts → Type 0
Join number old new = Leave number new old

-- how often the list has the number n of a kind
abbrev pub times : (Number → Option ℕ) → List Number → ℕ → ℕ
times kind numbers n = sum_by (λ number. one_at (kind number) n) numbers

pub record AreCarried (numbers : List Number) (counts : Counts) : Type 0 where
  pub frames : (n : ℕ) → times frame_in numbers n ≤ slice_index counts.frames n
  pub slots : (n : ℕ) → times slot_in numbers n ≤ slice_index counts.slots n

pub record AreLeft (kind : Number → Option ℕ) (numbers : List Number) (old new : List ℕ) : Type 0 where
  pub numbers_stay : length new ≡ length old
  pub counts : (n : ℕ) → slice_index new n + times kind numbers n ≡ slice_index old n

pub record LeaveAll (numbers : List Number) (old new : Counts) : Type 0 where
  pub frames : AreLeft frame_in numbers old.frames new.frames
  pub slots : AreLeft slot_in numbers old.slots new.slots

pub record Keeps (cells cells' : AddressSpace) (counts counts' : Counts) : Type 0 where
  pub same_cells : cells' ≡ cells
  pub same_counts : counts' ≡ counts
