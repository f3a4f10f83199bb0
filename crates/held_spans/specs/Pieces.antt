-- The pieces of a range that moves.
--     perm_in      the permissions of a page
--     page_behind      what the page behind one came from, as a call computes it
--     added_to      how many pages the range gets behind a page
--     pieces_of      the pieces of a run, and of the pages that go on from it
--     IsPutAt      what stands at the new place of a range
--     IsFull      each page of a range has a cell, of which a file's page has no great number
--     ListsMoved      the pieces of a range at its new place
use Rattle.std.specs.Prelude.{◌≡◌, ℕ, ◌+◌, ◌-◌, ◌%◌, ◌^◌, ◌<◌, ◌≤◌, ◌&&◌, true, false, cond, List, [], ◌∷◌, nat_eq, nat_lt, Some}
use Rattle.std.specs.FinMap.{get}
use Rattle.corten_base.specs.declared.calls.Backing.{Backing}
use Rattle.corten_base.specs.declared.calls.Backing.TheVariants as backing
use Rattle.corten_base.specs.declared.numbers.Status.{Status}
use Rattle.corten_base.specs.declared.numbers.Status.TheVariants as status
use Rattle.corten_base.specs.declared.permissions.Perm.{Perm}
use Rattle.table_place.specs.Range.{within}
use Rattle.page_map.specs.declared.cell.Cell.{Cell as PageCell}
use Rattle.page_map.specs.Cell.{AddressSpace, backing_of, index_of}
use Rattle.page_map.specs.Remap.{cell_for}
use Rattle.page_map.specs.State.{State, space_at}
use Rattle.machine_plan.specs.declared.kit.Piece.{Piece}
use Rattle.machine_plan.specs.HeldRows.{Row, RowsShown, AreAsked}
use Rattle.machine_plan.specs.Moving.{AreMoved}
use Rattle.held_spans.specs.declared.resizing.Resize.{Resize as Range}
use Rattle.held_spans.specs.declared.runs.Run.{Run}
use Rattle.held_spans.specs.Spans.{has_number}
use Rattle.held_spans.specs.Resizing.{range_of}

abbrev pub perm_in : Status → Perm
perm_in status.Invalid = record { read = false; write = false; exec = false }
perm_in (status.Anon perm) = perm
perm_in (status.File perm file index) = perm
perm_in (status.Mapped perm frame) = perm
perm_in (status.Swapped perm slot) = perm

abbrev pub page_behind : Backing → Backing
page_behind backing.Zero = backing.Zero
page_behind (backing.File file index) = backing.File file ((index + 1) % 2 ^ 64)

-- all at its end
abbrev pub added_to : Range → ℕ → ℕ
added_to r page = cond (nat_eq page (r.first + r.old)) (r.new - r.old) 0

-- nothing goes on from a page with a frame or a slot, so the pages behind it are a piece of their own
abbrev pub pieces_of : Run → ℕ → ℕ → List Piece
pieces_of r at added =
    cond (nat_lt 0 added && has_number r.status)
    (record { first = at; count = r.count; perm = perm_in r.status; backing = r.origin }
    ∷ record { first = at + r.count; count = added; perm = perm_in r.status; backing = page_behind r.origin } ∷ [])
    (record { first = at; count = r.count + added; perm = perm_in r.status; backing = r.origin } ∷ [])

abbrev pub IsPutAt : AddressSpace → Range → AddressSpace → ℕ → Type 0
IsPutAt cells r after to = (i : ℕ) → i < r.new → get after (to + i) ≡ cell_for cells (range_of r) i

pub record IsFull (cells : AddressSpace) (r : Range) : Type 0 where
  pub each : (n : ℕ) → within r.first r.old n ≡ true → (c : PageCell) × (get cells n ≡ Some c)
  pub indexes : (n : ℕ) (c : PageCell) → get cells n ≡ Some c → index_of (backing_of c) ≤ 2 ^ 62

-- It is asked of rows whose state is known later.
abbrev pub ListsMoved : List Row → Range → List Piece → Type 0
ListsMoved rows r pieces =
    (space : ℕ) (st : State) → AreAsked space rows r.first r.old → RowsShown st rows → IsFull (space_at st space) r
    → (after : AddressSpace) (to : ℕ) → IsPutAt (space_at st space) r after to → AreMoved after to r.new pieces
