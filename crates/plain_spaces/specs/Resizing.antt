-- Another length for a range of pages of a space.
--     length_of      the range with its old and its new length, as page_map has it
--     IsPlacing      what becomes of a range: it shrinks or stays as it is, it grows where it is, or it moves
--     IsSomePlacing      the same with some number of levels, for some thread
--     grown      the cells after a range grew where it is
--     relocation      the relocation of a range that moves
--     HasNoPlace      a range that has to move, and no gap is large enough
--     IsRemapped      the cells after it got its other length
--     AreNear      cells of which none comes from a file's page of a number above 2 ^ 62
--     IsFull      a range of pages that all have cells, of files' pages that are in their bounds
use Rattle.std.specs.Prelude.{◌≡◌, ℕ, ◌+◌, ◌-◌, ◌^◌, ◌<◌, ◌≤◌, true, false, Some, None, IsSome}
use Rattle.std.specs.FinMap.{get}
use Rattle.table_place.specs.Range.{within}
use Rattle.page_map.specs.declared.cell.Cell.{Cell}
use Rattle.page_map.specs.Cell.{backing_of, index_of}
use Rattle.page_map.specs.Change.{change}
use Rattle.page_map.specs.Mapping.{gap}
use Rattle.page_map.specs.Remap as page_map
use Rattle.page_map.specs.Remap.{cell_for, grows, has_room, moves, remapped}
use Rattle.page_map.specs.State.{AddressSpace}
use Rattle.space_cells.specs.declared.moving.Relocation.{Relocation}
use Rattle.plain_spaces.specs.declared.resizing.Resize.{Resize}
use Rattle.plain_spaces.specs.declared.resizing.Placing.{Placing}
use Rattle.plain_spaces.specs.declared.resizing.Placing.TheVariants.{Shrinks, Grows, Moves}

abbrev pub length_of : Resize → page_map.Resize
length_of r = record { first = r.first; old = r.old; new = r.new }

abbrev pub IsPlacing : ℕ → ℕ → AddressSpace → Resize → Placing → Type 0
IsPlacing levels thread cells r Shrinks = grows (length_of r) ≡ false
IsPlacing levels thread cells r Grows = (grows (length_of r) ≡ true) × (has_room levels cells (length_of r) ≡ true)
IsPlacing levels thread cells r (Moves to) = (moves levels cells (length_of r) ≡ true) × (gap thread cells r.new ≡ Some to)

-- with some number of levels up to five, for some thread
abbrev pub IsSomePlacing : AddressSpace → Resize → Placing → Type 0
IsSomePlacing cells r placing = (levels : ℕ) × (thread : ℕ) × (levels ≤ 5) × (thread < 8) × IsPlacing levels thread cells r placing

-- the cells after it grew where it is
abbrev pub grown : page_map.Resize → AddressSpace → AddressSpace
grown r cells = change cells (r.first + r.old) (r.new - r.old) (λ page _. cell_for cells r (page - r.first))

-- it has to move, and no gap is large enough
pub record HasNoPlace (levels thread : ℕ) (cells : AddressSpace) (r : Resize) : Type 0 where
  pub goes : moves levels cells (length_of r) ≡ true
  pub none : gap thread cells r.new ≡ None

-- for each number of levels and each thread with which it is placed so
abbrev pub IsRemapped : AddressSpace → AddressSpace → Resize → Placing → Type 0
IsRemapped old new r placing = (levels thread : ℕ) → IsPlacing levels thread old r placing → new ≡ remapped levels thread (length_of r) old

abbrev pub relocation : Resize → ℕ → Relocation
relocation r to = record { first = r.first; old = r.old; to = to; new = r.new }

abbrev pub AreNear : AddressSpace → Type 0
AreNear cells = (q : ℕ) (c : Cell) → get cells q ≡ Some c → index_of (backing_of c) ≤ 2 ^ 62

-- the pages of a range, of which none is Invalid and none comes from a file's page above 2 ^ 62
pub record IsFull (cells : AddressSpace) (r : Resize) : Type 0 where
  pub some : 0 < r.old
  pub pages : r.first + r.old ≤ 2 ^ 45
  pub few : r.new ≤ 2 ^ 45
  pub there : (q : ℕ) → within r.first r.old q ≡ true → IsSome (get cells q)
  pub indexes : AreNear cells
