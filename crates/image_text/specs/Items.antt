-- What an image has of the pages of a space, item by item, and the map that items stand for.
--     first_of, count_of, end_of      the first page of an item, how many it has, and the page behind its last one
--     bytes_of, is_live, is_out      a page's bytes without the zeros at their end;  whether an item is a page with a frame;  with a swap slot
--     Joins      a run that goes on from another, so that one run could stand for both
--     cell_at      the cell of a page of an item. An image has no numbers: in place of a frame's and a slot's stands 0
--     cells_of      the map that items stand for
--     without_number, AreEqualButForNumbers      a cell with 0 for its number;  maps that differ in numbers alone
--     before_trimmed, trimmed      bytes without the zeros at their end
use Rattle.std.specs.Prelude.{◌≡◌, ◌≢◌, ℕ, ◌+◌, ◌-◌, ◌*◌, Bool, true, false, List, [], ◌∷◌, ◌++◌, length, drop, nat_eq, cond, Option, Some}
use Rattle.std.specs.Option.{option_map}
use Rattle.std.specs.FinMap.{empty, get}
use Rattle.corten_base.specs.declared.permissions.Perm.{Perm}
use Rattle.corten_base.specs.declared.calls.Backing.{Backing}
use Rattle.page_map.specs.declared.cell.Cell.{Cell}
use Rattle.page_map.specs.declared.cell.Cell.TheVariants.{Anon, File, Mapped, Swapped}
use Rattle.page_map.specs.Cell.{AddressSpace, backed, goes_on, index_of, zeros}
use Rattle.page_map.specs.Change.{change}
use Rattle.image_text.specs.declared.image.Item.{Item}
use Rattle.image_text.specs.declared.image.Item.TheVariants.{Run, Page}
use Rattle.image_text.specs.declared.image.Residence.{Residence}
use Rattle.image_text.specs.declared.image.Residence.TheVariants.{Live, Out}

abbrev pub first_of : Item → ℕ
first_of (Run first count perm backing) = first
first_of (Page page perm origin residence bytes) = page

abbrev pub count_of : Item → ℕ
count_of (Run first count perm backing) = count
count_of (Page page perm origin residence bytes) = 1

abbrev pub end_of : Item → ℕ
end_of item = first_of item + count_of item

abbrev pub bytes_of : Item → List ℕ
bytes_of (Run first count perm backing) = []
bytes_of (Page page perm origin residence bytes) = bytes

abbrev pub is_live : Item → Bool
is_live (Run first count perm backing) = false
is_live (Page page perm origin Live bytes) = true
is_live (Page page perm origin Out bytes) = false

abbrev pub is_out : Item → Bool
is_out (Run first count perm backing) = false
is_out (Page page perm origin Live bytes) = false
is_out (Page page perm origin Out bytes) = true

-- the cell of a page that has bytes of its own
abbrev pub kept : Residence → Perm → Backing → List ℕ → Cell
kept Live perm origin bytes = Mapped perm origin 0 bytes
kept Out perm origin bytes = Swapped perm origin 0 bytes

-- the 4,096 bytes of a page
abbrev pub whole : List ℕ → List ℕ
whole bytes = bytes ++ drop (length bytes) zeros

abbrev pub cell_at : Item → ℕ → Cell
cell_at (Run first count perm backing) page = backed backing perm (page - first)
cell_at (Page p perm origin residence bytes) page = kept residence perm origin (whole bytes)

abbrev pub put : Item → AddressSpace → AddressSpace
put item cells = change cells (first_of item) (count_of item) (λ page _. Some (cell_at item page))

-- items that are put into a map one after another
abbrev pub put_all : List Item → AddressSpace → AddressSpace
put_all [] cells = cells
put_all (item ∷ items) cells = put_all items (put item cells)

abbrev pub cells_of : List Item → AddressSpace
cells_of items = put_all items empty

-- The second run begins behind the first one's last page, and its first page is what goes on from there.
abbrev pub Joins : Item → Item → Type 0
Joins (Run first count perm backing) (Run next many other what) = (next ≡ first + count) × (backed what other 0 ≡ backed backing perm count)
Joins (Run first count perm backing) (Page page other origin residence bytes) = ⊥
Joins (Page page perm origin residence bytes) next = ⊥

abbrev pub without_number : Cell → Cell
without_number (Anon perm) = Anon perm
without_number (File perm file index) = File perm file index
without_number (Mapped perm origin frame bytes) = Mapped perm origin 0 bytes
without_number (Swapped perm origin slot bytes) = Swapped perm origin 0 bytes

-- They have the same pages, and at each page the same kind, permissions, file and index, origin and bytes.
abbrev pub AreEqualButForNumbers : AddressSpace → AddressSpace → Type 0
AreEqualButForNumbers a b = (page : ℕ) → option_map without_number (get a page) ≡ option_map without_number (get b page)

-- a byte before others of which the zeros at the end are gone
abbrev pub before_trimmed : ℕ → List ℕ → List ℕ
before_trimmed byte [] = cond (nat_eq byte 0) [] (byte ∷ [])
before_trimmed byte (b ∷ bytes) = byte ∷ b ∷ bytes

abbrev pub trimmed : List ℕ → List ℕ
trimmed [] = []
trimmed (byte ∷ bytes) = before_trimmed byte (trimmed bytes)

-- no zero stands at the end
abbrev pub IsTrimmed : List ℕ → Type 0
IsTrimmed bytes = (front : List ℕ) → bytes ≢ front ++ 0 ∷ []
