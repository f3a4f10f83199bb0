-- Pages that move to another place, with what is held over them.
--     resize_of      the range of a relocation, with its old and its new length
--     moved      the cells after it
--     CanMove      cells that a relocation may be made of: pages at all old places, none at the new ones, and indexes in their bounds
--     IsMovable      the same of marks
--     mark_for, HaveMoved      the mark of a page at the new place;  marks of which so many pages stand at their new places
--     AreMoves      changes of marks by which so many pages stand at their new places
--     ArePlaced, AreRelocated      what is held at the pages of a range is held at those of another too;  the same of the old pages of a relocation
use Rattle.std.specs.Prelude.{◌≡◌, ℕ, ◌+◌, ◌-◌, ◌^◌, ◌<◌, ◌≤◌, true, false, cond, nat_lt, List, Option, Some, None, IsSome}
use Rattle.std.specs.Option.{option_map}
use Rattle.std.specs.FinMap.{get}
use Rattle.table_place.specs.Range.{within}
use Rattle.page_map.specs.declared.cell.Cell.{Cell}
use Rattle.page_map.specs.Cell.{backing_of}
use Rattle.page_map.specs.Cell as cell
use Rattle.page_map.specs.Change.{change}
use Rattle.page_map.specs.Remap.{Resize, cell_for}
use Rattle.page_map.specs.State.{AddressSpace}
use Rattle.page_runs.specs.declared.mark.Mark.{Mark}
use Rattle.page_runs.specs.Mark.{goes_on, index_of}
use Rattle.page_runs.specs.Spans.{Marks}
use Rattle.space_cells.specs.declared.moving.Relocation.{Relocation}
use Rattle.page_runs.specs.declared.change.Change.{Change}
use Rattle.page_runs.specs.Changes.{after_changes}
use Rattle.space_cells.specs.Held.{HeldPages, held_at}

abbrev pub resize_of : Relocation → Resize
resize_of r = record { first = r.first; old = r.old; new = r.new }

-- The old pages become Invalid. At the new place stands what stood there, and behind it what goes on from the last.
unfoldable pub moved : Relocation → AddressSpace → AddressSpace
moved r cells = change (change cells r.first r.old (λ _ _. None)) r.to r.new (λ page _. cell_for cells (resize_of r) (page - r.to))

pub record CanMove (cells : AddressSpace) (r : Relocation) : Type 0 where
  pub some : 0 < r.old
  pub grows : r.old < r.new
  pub pages : r.first + r.old ≤ 2 ^ 62
  pub places : r.to + r.new ≤ 2 ^ 62
  pub there : (q : ℕ) → within r.first r.old q ≡ true → IsSome (get cells q)
  pub free : (q : ℕ) → within r.to r.new q ≡ true → get cells q ≡ None
  pub indexes : (q : ℕ) (c : Cell) → within r.first r.old q ≡ true → get cells q ≡ Some c → cell.index_of (backing_of c) ≤ 2 ^ 62

pub record IsMovable (marks : Marks) (r : Relocation) : Type 0 where
  pub some : 0 < r.old
  pub grows : r.old < r.new
  pub pages : r.first + r.old ≤ 2 ^ 62
  pub places : r.to + r.new ≤ 2 ^ 62
  pub there : (q : ℕ) → within r.first r.old q ≡ true → IsSome (get marks q)
  pub free : (q : ℕ) → within r.to r.new q ≡ true → get marks q ≡ None
  pub indexes : (q : ℕ) (m : Mark) → within r.first r.old q ≡ true → get marks q ≡ Some m → index_of m.backing ≤ 2 ^ 62

-- what stood there, and behind the old end what goes on from the last old page
abbrev pub mark_for : Marks → Relocation → ℕ → Option Mark
mark_for marks r i = cond (nat_lt i r.old) (get marks (r.first + i)) (option_map (λ last. goes_on last (i + 1 - r.old)) (get marks (r.first + r.old - 1)))

-- no old page has a mark, so many new ones do, and all others are as they were
pub record HaveMoved (r : Relocation) (n : ℕ) (old new : Marks) : Type 0 where
  pub left : (q : ℕ) → within r.first r.old q ≡ true → get new q ≡ None
  pub there : (i : ℕ) → i < n → get new (r.to + i) ≡ mark_for old r i
  pub others : (q : ℕ) → within r.first r.old q ≡ false → within r.to n q ≡ false → get new q ≡ get old q

abbrev pub AreMoves : Relocation → ℕ → Marks → List Change → Type 0
AreMoves r n marks changes = HaveMoved r n marks (after_changes marks changes)

abbrev pub ArePlaced : ℕ → ℕ → ℕ → HeldPages → HeldPages → Type 0
ArePlaced first count to old new = (i : ℕ) → i < count → held_at new (to + i) ≡ held_at old (first + i)

abbrev pub AreRelocated : Relocation → HeldPages → HeldPages → Type 0
AreRelocated r old new = ArePlaced r.first r.old r.to old new
