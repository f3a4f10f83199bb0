-- Accesses to the cells of one space, beside the counts of owners of the frames and the swap slots.
--     reaching, storing, making      an access that stores nothing;  one that stores bytes;  an access that stores these bytes
--     last_page, beyond, IsUserAccess      its last page;  whether that is another than the first;  whether it has 1 to 4,096 bytes, in user pages alone
--     above_pages, lacked      the tables below the root above its pages;  those of them that are missing
--     wants, wanting      whether a page wants a frame, by the counts of owners;  the pages of an access that do
--     HasFrames, grants_of      whether so many frames are unused;  which of them its pages get
--     given, brought      a page on the frame that it got;  the cells after the pages of an access got theirs
--     stored_at, after_write      a page after an access stored some bytes;  all pages after it did
--     IsResident      whether all pages of an access have frames
--     IsWhole      whether all pages have 4,096 bytes
--     Makes      what an access changes that nothing refuses
use Rattle.std.specs.Prelude.{◌≡◌, ℕ, ◌+◌, ◌-◌, ◌*◌, ◌/◌, ◌^◌, ◌<◌, ◌≤◌, Bool, true, cond, not, ◌&&◌, List, [], length, take, drop, slice_index, nat_eq, Option, Some}
use Rattle.std.specs.Option.{unwrap_or, option_map}
use Rattle.std.specs.List.{flat_map, range_with_len}
use Rattle.std.specs.FinMap as map
use Rattle.page_map.specs.declared.cell.Cell.{Cell}
use Rattle.page_map.specs.declared.cell.Cell.TheVariants.{Anon, File, Mapped, Swapped}
use Rattle.table_place.specs.declared.Place.{Place}
use Rattle.table_place.specs.Range.{within}
use Rattle.table_place.specs.Place.{cut_by}
use Rattle.page_map.specs.Change.{keys_in, change}
use Rattle.page_map.specs.Cell.{backing_of, perm_of, frame_of, contents}
use Rattle.page_map.specs.State.{AddressSpace}
use Rattle.page_map.specs.Takes.{Grant, grant, granted}
use Rattle.page_map.specs.Access.{Access, first_page, page_count, after_access}
use Rattle.page_map.specs.Tables.{Tables, missing}
use Rattle.plain_counts.specs.declared.counts.Counts.{Counts}
use Rattle.plain_counts.specs.Counts.{Follow}
use Rattle.plain_counts.specs.Owners.{unused_of}
use Rattle.space_cells.specs.Cells.{overwritten, bytes_of}

abbrev pub reaching : ℕ → ℕ → Bool → Access
reaching at len write = record { at = at; len = len; write = write; stored = [] }

abbrev pub storing : ℕ → List ℕ → Access
storing at bytes = record { at = at; len = length bytes; write = true; stored = bytes }

abbrev pub making : Access → List ℕ → Access
making a bytes = record { at = a.at; len = a.len; write = a.write; stored = bytes }

abbrev pub last_page : Access → ℕ
last_page a = (a.at + a.len - 1) / 4096

-- one thing where the last page is the first, and another where it is not
abbrev pub beyond : {A : Type 0} → Access → A → A → A
beyond a one two = cond (nat_eq (last_page a) (first_page a)) one two

-- the tables below the root above its pages, page by page
abbrev pub above_pages : ℕ → ℕ → Access → List Place
above_pages levels space a = flat_map (λ page. cut_by levels space page 1) (range_with_len (first_page a) (page_count a))

abbrev pub lacked : ℕ → ℕ → Access → Tables → Tables
lacked levels space a tables = missing (above_pages levels space a) tables

pub record IsUserAccess (a : Access) : Type 0 where
  pub some : 0 < a.len
  pub few : a.len ≤ 4096
  pub low : 16 ≤ first_page a
  pub high : last_page a + 1 < 2 ^ 44

abbrev pub wants : (ℕ → ℕ) → Bool → Cell → Bool
wants owners write (Mapped perm origin frame bytes) = write && not (nat_eq (owners frame) 1)
wants owners write (Anon perm) = true
wants owners write (File perm file index) = true
wants owners write (Swapped perm origin slot bytes) = true

abbrev pub wanting : (ℕ → ℕ) → AddressSpace → Access → List ℕ
wanting owners cells a = keys_in cells (first_page a) (page_count a) (wants owners a.write)

abbrev pub HasFrames : Counts → AddressSpace → Access → Type 0
HasFrames counts cells a = length (wanting (slice_index counts.frames) cells a) ≤ length (unused_of counts.frames)

-- the least ones
abbrev pub grants_of : Counts → AddressSpace → Access → Grant
grants_of counts cells a = grant (wanting (slice_index counts.frames) cells a) (unused_of counts.frames)

abbrev pub given : List (List ℕ) → Option ℕ → Cell → Cell
given files frame cell = Mapped (perm_of cell) (backing_of cell) (unwrap_or frame (unwrap_or (frame_of cell) 0)) (contents files cell)

abbrev pub brought : List (List ℕ) → Grant → Access → AddressSpace → AddressSpace
brought files grants a cells = change cells (first_page a) (page_count a) (λ page. option_map (given files (granted grants page)))

-- what falls into a page of bytes that are stored from an address on
abbrev pub stored_at : ℕ → List ℕ → ℕ → Cell → Cell
stored_at at bytes page = overwritten (at - 4096 * page) (take (4096 - (at - 4096 * page)) (drop (4096 * page - at) bytes))

abbrev pub after_write : Access → List ℕ → AddressSpace → AddressSpace
after_write a bytes cells = change cells (first_page a) (page_count a) (λ page. option_map (stored_at a.at bytes page))

-- all cells have 4,096 bytes as their contents
abbrev pub IsWhole : List (List ℕ) → AddressSpace → Type 0
IsWhole files cells = (q : ℕ) (c : Cell) → map.get cells q ≡ Some c → length (contents files c) ≡ 4096

pub record IsResident (cells : AddressSpace) (a : Access) : Type 0 where
  pub pages : (q : ℕ) → within (first_page a) (page_count a) q ≡ true → length (bytes_of (map.get cells q)) ≡ 4096

-- its pages got the least unused frames, and its bytes are stored
pub record Makes (files : List (List ℕ)) (a : Access) (cells cells' : AddressSpace) (counts counts' : Counts) : Type 0 where
  pub cells_are : cells' ≡ after_access files (grants_of counts cells a) a cells
  pub counts_follow : Follow counts counts' cells cells'
