-- The cells of a space, of which marks say what the pages came from, and over which some pages have frames or slots.
--     numbered      the cell of a page that has a frame or a slot, with what it came from
--     cell_of      the cell of a page with a mark, where a held page lies over it or none does
--     cells_of      the cells of a space
--     HaveMarks      each held page lies over a mark
--     held_of, number_of      the frame or slot of a cell with its bytes;  its number alone
--     with_held      a cell that gets a frame or a slot
--     renumbered, overwritten      a cell under another number;  after bytes were written at a place in it, if it has a frame;  with .._page, the same of a held page
--     changed_at      the cell of one page changes
--     mapped_at, protected_at      pages that are mapped;  pages under other permissions
--     bytes_of      the bytes of a page that has a frame, and none of another page
--     framed      the same of a held page
--     number_at, numbered_page      the number of the cell at a page;  with the page
--     numbers_in      the numbers of the cells of a range, in the order of the pages
use Rattle.std.specs.Prelude.{ℕ, ◌-◌, List, [], map, Option, Some, None, IsSome}
use Rattle.std.specs.Option.{option_map, option_and_then}
use Rattle.std.specs.List.{filter_map, range_with_len}
use Rattle.std.specs.FinMap.{entries, from_entries, get}
use Rattle.corten_base.specs.declared.permissions.Perm.{Perm}
use Rattle.corten_base.specs.declared.calls.Backing.{Backing}
use Rattle.corten_base.specs.Bytes.{bytes_after_write}
use Rattle.page_map.specs.declared.cell.Cell.{Cell}
use Rattle.page_map.specs.declared.cell.Cell.TheVariants.{Anon, File, Mapped, Swapped}
use Rattle.page_map.specs.Cell.{backing_of, perm_of, with_perm}
use Rattle.page_map.specs.Change.{change}
use Rattle.page_map.specs.Mapping.{backed}
use Rattle.page_map.specs.State.{AddressSpace}
use Rattle.page_runs.specs.declared.mark.Mark.{Mark}
use Rattle.page_runs.specs.declared.runs.Run.{Run}
use Rattle.page_runs.specs.Spans.{Marks}
use Rattle.space_cells.specs.declared.held.Number.{Number}
use Rattle.space_cells.specs.declared.held.Number.TheVariants.{Frame, Slot}
use Rattle.space_cells.specs.declared.held.HeldPage.{HeldPage}
use Rattle.space_cells.specs.Held.{HeldPages, held_at}

abbrev pub numbered : Perm → Backing → Number → List ℕ → Cell
numbered perm origin (Frame frame) bytes = Mapped perm origin frame bytes
numbered perm origin (Slot slot) bytes = Swapped perm origin slot bytes

-- a held page has the permissions of the mark that it lies over, and came from what that says
abbrev pub cell_of : Mark → Option HeldPage → Cell
cell_of mark None = backed mark.backing mark.perm 0
cell_of mark (Some held) = numbered mark.perm mark.backing held.number held.bytes

unfoldable pub cells_of : Marks → HeldPages → AddressSpace
cells_of marks pages = from_entries (map (λ e. (e.0, cell_of e.1 (held_at pages e.0))) (entries marks))

-- the pages that have frames or slots have marks
abbrev pub HaveMarks : Marks → HeldPages → Type 0
HaveMarks marks pages = (page : ℕ) → IsSome (held_at pages page) → IsSome (get marks page)

abbrev pub held_of : Cell → Option HeldPage
held_of (Mapped perm origin frame bytes) = Some (record { number = Frame frame; bytes = bytes })
held_of (Swapped perm origin slot bytes) = Some (record { number = Slot slot; bytes = bytes })
held_of (Anon perm) = None
held_of (File perm file index) = None

abbrev pub number_of : Cell → Option Number
number_of cell = option_map (λ held. held.number) (held_of cell)

abbrev pub with_held : HeldPage → Cell → Cell
with_held held cell = numbered (perm_of cell) (backing_of cell) held.number held.bytes

abbrev pub renumbered_page : Number → HeldPage → HeldPage
renumbered_page number held = record { number = number; bytes = held.bytes }

abbrev pub renumbered : Number → Cell → Cell
renumbered number (Mapped perm origin frame bytes) = numbered perm origin number bytes
renumbered number (Swapped perm origin slot bytes) = numbered perm origin number bytes
renumbered number (Anon perm) = Anon perm
renumbered number (File perm file index) = File perm file index

abbrev pub overwritten : ℕ → List ℕ → Cell → Cell
overwritten place written (Mapped perm origin frame bytes) = Mapped perm origin frame (bytes_after_write bytes place written)
overwritten place written (Anon perm) = Anon perm
overwritten place written (File perm file index) = File perm file index
overwritten place written (Swapped perm origin slot bytes) = Swapped perm origin slot bytes

abbrev pub written_under : Number → ℕ → List ℕ → List ℕ → List ℕ
written_under (Frame frame) place written bytes = bytes_after_write bytes place written
written_under (Slot slot) place written bytes = bytes

abbrev pub overwritten_page : ℕ → List ℕ → HeldPage → HeldPage
overwritten_page place written held = record { number = held.number; bytes = written_under held.number place written held.bytes }

abbrev pub changed_at : AddressSpace → ℕ → (Cell → Cell) → AddressSpace
changed_at cells page f = change cells page 1 (λ _. option_map f)

abbrev pub mapped_at : AddressSpace → Run → AddressSpace
mapped_at cells run = change cells run.first run.count (λ page _. Some (backed run.mark.backing run.mark.perm (page - run.first)))

abbrev pub protected_at : AddressSpace → ℕ → ℕ → Perm → AddressSpace
protected_at cells first count perm = change cells first count (λ _. option_map (with_perm perm))

abbrev pub bytes_of : Option Cell → List ℕ
bytes_of None = []
bytes_of (Some (Mapped perm origin frame bytes)) = bytes
bytes_of (Some (Anon perm)) = []
bytes_of (Some (File perm file index)) = []
bytes_of (Some (Swapped perm origin slot bytes)) = []

abbrev pub framed : Number → List ℕ → List ℕ
framed (Frame frame) bytes = bytes
framed (Slot slot) bytes = []

abbrev pub number_at : AddressSpace → ℕ → Option Number
number_at cells page = option_and_then number_of (get cells page)

abbrev pub numbered_page : AddressSpace → ℕ → Option (ℕ × Number)
numbered_page cells page = option_map (λ number. (page, number)) (number_at cells page)

abbrev pub numbers_in : AddressSpace → ℕ → ℕ → List Number
numbers_in cells first count = filter_map (number_at cells) (range_with_len first count)
