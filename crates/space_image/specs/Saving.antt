-- A space that becomes an image.
--     item_of      what an image has of a longest run whose first page has this cell
--     IsTold      what is told of a run whose first page has this cell
--     IsPut      the line of a run whose first page has this cell, added to a text
--     HasItems      lines of items that have a map, added to a text
--     IsSaved      the text of a space's image
--     is_deep      whether a page is one of a file, further in it than the first page of a mapping may be
--     IsDeep, AreNoneDeep      a longest run that begins with such a page;  that there is none
--     HasImage      a space that is there, with no such run
--     HasImageText      cells whose image has these bytes as its text, within the bounds of images
--     IsFirstDeep      the address of the first one
--     IsSaveFault      why a space is not saved
use Rattle.std.specs.Prelude.{◌≡◌, ℕ, ◌*◌, ◌^◌, ◌<◌, Bool, true, false, List, ◌++◌, length, map, nat_lt, Option, Some}
use Rattle.std.specs.Option.{option_map}
use Rattle.std.specs.FinMap.{get}
use Rattle.corten_base.specs.declared.calls.Backing.TheVariants as backing
use Rattle.corten_base.specs.declared.numbers.Limits.{Limits}
use Rattle.corten_base.specs.declared.numbers.Status.{Status}
use Rattle.corten_base.specs.declared.numbers.Status.TheVariants as status
use Rattle.page_map.specs.declared.cell.Cell.{Cell}
use Rattle.page_map.specs.declared.cell.Cell.TheVariants.{Anon, File, Mapped, Swapped}
use Rattle.page_map.specs.Cell.{AddressSpace, backing_of, status_of}
use Rattle.page_map.specs.State.{State, is_present, space_at}
use Rattle.space_cells.specs.Longest.{IsLongest, own_bytes}
use Rattle.mm_model.specs.declared.runs.Run.{Run}
use Rattle.text_words.specs.Layout.{ended, text}
use Rattle.image_text.specs.declared.image.Item.{Item}
use Rattle.image_text.specs.declared.image.Item.TheVariants as item
use Rattle.image_text.specs.declared.image.Residence.TheVariants.{Live, Out}
use Rattle.image_text.specs.Items.{AreEqualButForNumbers, cells_of, trimmed}
use Rattle.image_text.specs.Images.{ImageParts, AreInOrder, IsImageOf}
use Rattle.image_text.specs.ImageText.{IsImageText, image_text, item_line}
use Rattle.space_image.specs.declared.saving.SaveFault.{SaveFault}
use Rattle.space_image.specs.declared.saving.SaveFault.TheVariants.{NoSpace, Deep, NoMemory}

abbrev pub item_of : ℕ → ℕ → Cell → Item
item_of first count (Anon perm) = item.Run first count perm backing.Zero
item_of first count (File perm file index) = item.Run first count perm (backing.File file index)
item_of first count (Mapped perm origin frame bytes) = item.Page first perm origin Live (trimmed bytes)
item_of first count (Swapped perm origin slot bytes) = item.Page first perm origin Out (trimmed bytes)

pub record IsTold (cell : Option Cell) (run : Run) : Type 0 where
  pub status : run.status ≡ status_of cell
  pub origin : option_map backing_of cell ≡ Some run.origin

-- a page's own bytes are 4,096
pub record IsPut (cell : Option Cell) (run : Run) (old new : List ℕ) : Type 0 where
  pub full : (bytes : List ℕ) → own_bytes cell ≡ Some bytes → length bytes ≡ 4096
  pub line : (c : Cell) → cell ≡ Some c → new ≡ old ++ ended (item_line (item_of run.first run.count c))

pub record HasItems (cells : AddressSpace) (old new : List ℕ) : Type 0 where
  pub items : List Item
  pub in_order : AreInOrder items
  pub same_map : AreEqualButForNumbers (cells_of items) cells
  pub text : new ≡ old ++ text (map item_line items)

pub record IsSaved (st : State) (space : ℕ) (bytes : List ℕ) : Type 0 where
  pub image : ImageParts
  pub of_space : IsImageOf st.limits st.files (space_at st space) image
  pub text : bytes ≡ image_text image

abbrev pub is_deep : Status → Bool
is_deep status.Invalid = false
is_deep (status.Anon perm) = false
is_deep (status.File perm file index) = nat_lt (2 ^ 40) index
is_deep (status.Mapped perm frame) = false
is_deep (status.Swapped perm slot) = false

pub record IsDeep (cells : AddressSpace) (page : ℕ) : Type 0 where
  pub count : ℕ
  pub longest : IsLongest cells page count
  pub deep : is_deep (status_of (get cells page)) ≡ true

abbrev pub AreNoneDeep : AddressSpace → Type 0
AreNoneDeep cells = (page : ℕ) → ¬ (IsDeep cells page)

abbrev pub HasImage : State → ℕ → Type 0
HasImage st space = (is_present st space ≡ true) × AreNoneDeep (space_at st space)

abbrev pub HasImageText : Limits → List (List ℕ) → AddressSpace → List ℕ → Type 0
HasImageText limits files cells bytes = (image : ImageParts) × IsImageOf limits files cells image × IsImageText bytes image

pub record IsFirstDeep (cells : AddressSpace) (address : ℕ) : Type 0 where
  pub page : ℕ
  pub at : address ≡ 4096 * page
  pub deep : IsDeep cells page
  pub least : (q : ℕ) → q < page → ¬ (IsDeep cells q)

-- Want of memory is found where nothing else is wrong.
abbrev pub IsSaveFault : State → ℕ → SaveFault → Type 0
IsSaveFault st space NoSpace = is_present st space ≡ false
IsSaveFault st space (Deep address) = IsFirstDeep (space_at st space) address
IsSaveFault st space NoMemory = HasImage st space
