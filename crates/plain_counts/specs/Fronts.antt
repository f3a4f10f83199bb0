-- How far the arenas are full.
--     full_pages      how many pages of a thread's arena in a space are known to be full
--     full_before      how many of them stand before a range, where the range is not before the arena
--     IsFull      whether so many pages from the beginning of an arena on have cells
--     AreFull      whether the arenas are full as far as is known
use Rattle.std.specs.Prelude.{ℕ, ◌+◌, ◌-◌, ◌*◌, ◌^◌, ◌<◌, ◌≤◌, cond, min, nat_le, List, IsSome, slice_index}
use Rattle.std.specs.FinMap as map
use Rattle.page_map.specs.Mapping.{arena_first}
use Rattle.page_map.specs.State.{State, AddressSpace, space_at}

abbrev pub full_pages : List ℕ → ℕ → ℕ → ℕ
full_pages fronts space thread = slice_index fronts (8 * space + thread)

-- what is still known of an arena from `arena` on once the pages of a range may have no cells
abbrev pub full_before : ℕ → ℕ → ℕ → ℕ → ℕ
full_before arena known first count = cond (nat_le (first + count) arena) known (min known (first - arena))

pub record IsFull (cells : AddressSpace) (thread count : ℕ) : Type 0 where
  pub within : count ≤ 2 ^ 27
  pub cells_there : (q : ℕ) → arena_first thread ≤ q → q < arena_first thread + count → IsSome (map.get cells q)

abbrev pub AreFull : State → List ℕ → Type 0
AreFull st fronts = (space thread : ℕ) → space < 64 → thread < 8 → IsFull (space_at st space) thread (full_pages fronts space thread)
