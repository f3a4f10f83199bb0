-- Pages that move to swap slots and back, beside the counts of owners of frames and slots.
--     moves, passes      whether a page of this number moves;  whether a page does
--     to, numbered, gets_of, loses_of      the page under its new number;  that number;  the numbers of the kind that it gets;  of the kind that it loses
--     taken, left      the counts of owners of the kind of numbers that pages get;  of the kind that they lose
--     moving_in      the pages of a range that move
--     IsFree, AreFree      whether a number is unused for a page of this number, if it moves;  for each page of a range that moves
--     swapped      the cells after the pages of a range that move got the least ones
--     Takes, TakesNumber      counts after the least unused number was taken, of one kind;  of both
--     Moves, Stays      a page that moved to a number that it took, and left its own;  one that stayed
--     Settles      which of these became of a page
--     SwapsAt, MovesAt      and of the cells
use Rattle.std.specs.Prelude.{◌≡◌, ℕ, ◌+◌, ◌<◌, ◌≤◌, Bool, true, false, nat_eq, List, ◌∷◌, length, slice_index, Option, Some}
use Rattle.std.specs.Option.{option_map_or}
use Rattle.std.specs.FinMap as map
use Rattle.page_map.specs.declared.cell.Cell.{Cell}
use Rattle.page_map.specs.Cell.{frame_of, slot_of}
use Rattle.page_map.specs.Change.{keys_in}
use Rattle.page_map.specs.State.{AddressSpace}
use Rattle.page_map.specs.Swap.{out_to, in_to, moved_to}
use Rattle.page_map.specs.Takes.{grant}
use Rattle.plain_counts.specs.declared.counts.Counts.{Counts}
use Rattle.plain_counts.specs.Counts.{one_at, Leaves}
use Rattle.plain_counts.specs.Owners.{unused_of}
use Rattle.space_cells.specs.declared.held.Number.{Number}
use Rattle.space_cells.specs.declared.held.Number.TheVariants.{Frame, Slot}
use Rattle.space_cells.specs.Cells.{number_of}
use Rattle.plain_spaces.specs.declared.swap.Move.{Move}
use Rattle.plain_spaces.specs.declared.swap.Move.TheVariants.{Out, In}

-- a page with a frame of its own goes out, and one with a slot comes in
abbrev pub moves : Move → Counts → Number → Bool
moves Out counts (Frame frame) = nat_eq (slice_index counts.frames frame) 1
moves Out counts (Slot slot) = false
moves In counts (Frame frame) = false
moves In counts (Slot slot) = true

abbrev pub passes : Move → Counts → Cell → Bool
passes way counts cell = option_map_or (moves way counts) (number_of cell) false

abbrev pub to : Move → ℕ → Cell → Cell
to Out = out_to
to In = in_to

abbrev pub numbered : Move → ℕ → Number
numbered Out = Slot
numbered In = Frame

abbrev pub gets_of : Move → Cell → Option ℕ
gets_of Out = slot_of
gets_of In = frame_of

abbrev pub loses_of : Move → Cell → Option ℕ
loses_of Out = frame_of
loses_of In = slot_of

abbrev pub taken : Move → Counts → List ℕ
taken Out counts = counts.slots
taken In counts = counts.frames

abbrev pub left : Move → Counts → List ℕ
left Out counts = counts.frames
left In counts = counts.slots

abbrev pub IsFree : Move → Counts → Number → Type 0
IsFree way counts number = moves way counts number ≡ true → 0 < length (unused_of (taken way counts))

abbrev pub moving_in : Move → Counts → AddressSpace → ℕ → ℕ → List ℕ
moving_in way counts cells first count = keys_in cells first count (passes way counts)

abbrev pub AreFree : Move → Counts → AddressSpace → ℕ → ℕ → Type 0
AreFree way counts cells first count = length (moving_in way counts cells first count) ≤ length (unused_of (taken way counts))

abbrev pub swapped : Move → Counts → ℕ → ℕ → AddressSpace → AddressSpace
swapped way counts first count cells =
    moved_to (to way) (grant (moving_in way counts cells first count) (unused_of (taken way counts))) first count cells

pub record Takes (number : ℕ) (old new : List ℕ) : Type 0 where
  pub least : unused_of old ≡ number ∷ unused_of new
  pub numbers : length new ≡ length old
  pub counts : (n : ℕ) → slice_index new n ≡ slice_index old n + one_at (Some number) n

pub record TakesNumber (way : Move) (number : Number) (old new : Counts) : Type 0 where
  pub value : ℕ
  pub number_is : number ≡ numbered way value
  pub takes : Takes value (taken way old) (taken way new)
  pub others_stay : left way new ≡ left way old

pub record Moves (to : ℕ → Cell → Cell) (number_of : Cell → Option ℕ) (cell after : Cell) (taken taken' left left' : List ℕ) : Type 0 where
  pub number : ℕ
  pub takes : Takes number taken taken'
  pub leaves : Leaves (number_of cell) left left'
  pub moved : after ≡ to number cell

pub record Stays (cell after : Cell) (taken taken' left left' : List ℕ) : Type 0 where
  pub same_cell : after ≡ cell
  pub same_taken : taken' ≡ taken
  pub same_left : left' ≡ left

abbrev pub Settles : (to : ℕ → Cell → Cell) (number_of : Cell → Option ℕ) → Bool → (cell after : Cell) (taken taken' left left' : List ℕ) → Type 0
Settles to number_of true = Moves to number_of
Settles to number_of false = Stays

pub record SwapsAt (to : ℕ → Cell → Cell) (number_of : Cell → Option ℕ) (passes : Cell → Bool) (page : ℕ) (cells cells' : AddressSpace) (taken taken' left left' : List ℕ) : Type 0 where
  pub cell : Cell
  pub after : Cell
  pub here : map.get cells page ≡ Some cell
  pub cells_are : cells' ≡ map.insert cells page after
  pub settles : Settles to number_of (passes cell) cell after taken taken' left left'

abbrev pub MovesAt : Move → ℕ → AddressSpace → AddressSpace → Counts → Counts → Type 0
MovesAt way page cells cells' counts counts' =
    SwapsAt (to way) (loses_of way) (passes way counts) page cells cells' (taken way counts) (taken way counts') (left way counts) (left way counts')
