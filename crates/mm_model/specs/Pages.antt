-- Pages that have frames.
--     frame_in, frame_at      the frame of a page of some cells;  of a page of a space
--     IsFirstFramed, IsFirstMapped      the least page from one on that has a frame, with its frame
use Rattle.std.specs.Prelude.{◌≡◌, ℕ, ◌<◌, ◌≤◌, Option, Some, None}
use Rattle.std.specs.Option.{option_and_then}
use Rattle.std.specs.FinMap.{get}
use Rattle.page_map.specs.Cell.{AddressSpace, frame_of}
use Rattle.page_map.specs.State.{State, space_at}

abbrev pub frame_in : AddressSpace → ℕ → Option ℕ
frame_in cells page = option_and_then frame_of (get cells page)

-- a page is Mapped where it has a frame
abbrev pub frame_at : State → ℕ → ℕ → Option ℕ
frame_at st space page = frame_in (space_at st space) page

pub record IsFirstFramed (cells : AddressSpace) (from page frame : ℕ) : Type 0 where
  pub from_there : from ≤ page
  pub mapped : frame_in cells page ≡ Some frame
  pub least : (q : ℕ) → from ≤ q → q < page → frame_in cells q ≡ None

abbrev pub IsFirstMapped : State → ℕ → ℕ → ℕ → ℕ → Type 0
IsFirstMapped st space from page frame = IsFirstFramed (space_at st space) from page frame
