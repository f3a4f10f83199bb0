-- Runs of like pages that are as long as they can be.
--     AreLike      pages of which each goes on from the one before it
--     IsLongest      so many pages, the first of which has a cell, and neither what stands before them nor what stands behind goes on with them
--     IsLongestFrom      the first such run that has a page from a page on
--     IsBegun      the first of the pages that go on from one another up to a page
--     IsLowest, IsLastHeld      from where on up to a page no page is held but itself;  the last held page up to a page
--     own_bytes      the bytes of a page that has a frame or a swap slot
use Rattle.std.specs.Prelude.{◌≡◌, ℕ, ◌+◌, ◌-◌, ◌<◌, ◌≤◌, ◌⊎◌, true, false, List, Option, Some, None, IsSome}
use Rattle.std.specs.FinMap.{get}
use Rattle.page_map.specs.Cell.{AddressSpace}
use Rattle.page_map.specs.Alike.{continues}
use Rattle.space_cells.specs.Held.{HeldPages, held_at}
use Rattle.page_map.specs.declared.cell.Cell.{Cell}
use Rattle.page_map.specs.declared.cell.Cell.TheVariants.{Anon, File, Mapped, Swapped}

-- A page with a frame or a swap slot is alone: none goes on from it, and it goes on from none.
abbrev pub AreLike : AddressSpace → ℕ → ℕ → Type 0
AreLike cells first end = (q : ℕ) → first ≤ q → q + 1 < end → continues (get cells q) 1 (get cells (q + 1)) ≡ true

pub record IsLongest (cells : AddressSpace) (first count : ℕ) : Type 0 where
  pub some : 0 < count
  pub there : IsSome (get cells first)
  pub like : AreLike cells first (first + count)
  pub starts : (q : ℕ) → q + 1 ≡ first → continues (get cells q) 1 (get cells first) ≡ false
  pub stops : continues (get cells (first + count - 1)) 1 (get cells (first + count)) ≡ false

pub record IsLongestFrom (cells : AddressSpace) (page first count : ℕ) : Type 0 where
  pub run : IsLongest cells first count
  pub reaches : page < first + count
  pub none_before : (q : ℕ) → page ≤ q → q < first → get cells q ≡ None

pub record IsBegun (cells : AddressSpace) (page first : ℕ) : Type 0 where
  pub near : first ≤ page
  pub there : IsSome (get cells first)
  pub like : AreLike cells first (page + 1)
  pub starts : (q : ℕ) → q + 1 ≡ first → continues (get cells q) 1 (get cells first) ≡ false

pub record IsLastHeld (pages : HeldPages) (page last : ℕ) : Type 0 where
  pub near : last ≤ page
  pub there : IsSome (held_at pages last)
  pub none_later : (q : ℕ) → last < q → q ≤ page → held_at pages q ≡ None

-- behind a held page, or at the page itself where it is held
pub record IsLowest (pages : HeldPages) (page low : ℕ) : Type 0 where
  pub near : low ≤ page
  pub free : (q : ℕ) → low ≤ q → q < page → held_at pages q ≡ None
  pub page_free : low < page → held_at pages page ≡ None
  pub ends : (q : ℕ) → q + 1 ≡ low → IsSome (held_at pages q) ⊎ IsSome (held_at pages low)

abbrev pub own_bytes : Option Cell → Option (List ℕ)
own_bytes None = None
own_bytes (Some (Anon perm)) = None
own_bytes (Some (File perm file index)) = None
own_bytes (Some (Mapped perm origin frame bytes)) = Some bytes
own_bytes (Some (Swapped perm origin slot bytes)) = Some bytes
