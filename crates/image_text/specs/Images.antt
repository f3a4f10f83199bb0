-- Which images there are.
--     ImageParts      the limits, the files and the items of an image
--     unlike_count      how many page tables below the root have a span that is not alike
--     IsNext      an item that stands in order behind others: so a map has one list of items
--     AreInOrder      items each of which stands in order behind those before it
--     IsBacked      an item that could come from these files
--     IsInBounds      an item that leaves the machine within its limits, behind others
--     MayFollow, IsImage      both;  an image each of whose items may follow those before it
--     IsImageOf      the image of a space's map
use Rattle.std.specs.Prelude.{◌≡◌, ◌≢◌, ℕ, ◌+◌, ◌*◌, ◌^◌, ◌<◌, ◌≤◌, true, ⊤, List, [], ◌∷◌, ◌++◌, length, filter, All}
use Rattle.std.specs.FinSet as set
use Rattle.corten_base.specs.declared.numbers.Limits.{Limits}
use Rattle.corten_base.specs.declared.calls.Backing.{Backing}
use Rattle.corten_base.specs.declared.calls.Backing.TheVariants as backing
use Rattle.table_place.specs.Place.{place_cmp, is_user_range}
use Rattle.file_shelf.specs.Pages.{file_bytes}
use Rattle.page_map.specs.Cell.{AddressSpace}
use Rattle.page_map.specs.Alike.{unlike_tables}
use Rattle.mm_script.specs.CallLine.{IsWithin}
use Rattle.mm_script.specs.ScriptText.{AreLimits, AreFiles}
use Rattle.image_text.specs.declared.image.Item.{Item}
use Rattle.image_text.specs.declared.image.Item.TheVariants.{Run, Page}
use Rattle.image_text.specs.Items.{first_of, count_of, end_of, bytes_of, is_live, is_out, cells_of, Joins, IsTrimmed, AreEqualButForNumbers}

pub record ImageParts : Type 0 where
  pub limits : Limits
  pub files : List (List ℕ)
  pub items : List Item

-- those of one space, whose number is of no account
abbrev pub unlike_count : ℕ → AddressSpace → ℕ
unlike_count levels cells = set.len (set.from_list {R = place_cmp} (unlike_tables levels 0 cells))

-- It has a page, all its pages are behind theirs, it is no run that could be joined with the last of them, and its bytes
-- have no zero at the end.
pub record IsNext (before : List Item) (item : Item) : Type 0 where
  pub some : 1 ≤ count_of item
  pub behind : All (λ other. end_of other ≤ first_of item) before
  pub apart : (earlier : List Item) (last : Item) → before ≡ earlier ++ last ∷ [] → ¬ (Joins last item)
  pub trimmed : IsTrimmed (bytes_of item)

abbrev pub AreInOrder : List Item → Type 0
AreInOrder items = (before after : List Item) (item : Item) → items ≡ before ++ item ∷ after → IsNext before item

-- the file is there, and at the offset of a run a mapping could begin (mmap(2): EOVERFLOW)
abbrev pub IsRunBacking : List (List ℕ) → Backing → Type 0
IsRunBacking files backing.Zero = ⊤
IsRunBacking files (backing.File file index) = (file < length files) × (index ≤ 2 ^ 40)

-- the file is there, and the page begins before its end: no other page of a file gets a frame
abbrev pub IsPageOrigin : List (List ℕ) → Backing → Type 0
IsPageOrigin files backing.Zero = ⊤
IsPageOrigin files (backing.File file index) = (file < length files) × (4096 * index < length (file_bytes files file))

abbrev pub IsBacked : List (List ℕ) → Item → Type 0
IsBacked files (Run first count perm what) = IsRunBacking files what
IsBacked files (Page page perm origin residence bytes) = IsPageOrigin files origin

pub record IsInBounds (limits : Limits) (files : List (List ℕ)) (before : List Item) (item : Item) : Type 0 where
  pub user : is_user_range limits.levels (first_of item) (count_of item) ≡ true
  pub backed : IsBacked files item
  pub size : length (bytes_of item) ≤ 4096
  pub fit : All (λ b. b < 256) (bytes_of item)
  pub live : length (filter is_live (before ++ item ∷ [])) ≤ limits.frames
  pub out : length (filter is_out (before ++ item ∷ [])) ≤ limits.swap
  -- the root's, and those that the map so far wants below it
  pub tables : 1 + unlike_count limits.levels (cells_of (before ++ item ∷ [])) ≤ limits.tables

pub record MayFollow (limits : Limits) (files : List (List ℕ)) (before : List Item) (item : Item) : Type 0 where
  pub next : IsNext before item
  pub bounds : IsInBounds limits files before item

pub record IsImage (image : ImageParts) : Type 0 where
  pub limits : AreLimits image.limits
  pub levels : IsWithin 4 5 image.limits.levels
  pub files : AreFiles image.files
  pub items : (before after : List Item) (item : Item) → image.items ≡ before ++ item ∷ after → MayFollow image.limits image.files before item

-- the limits and the files of a machine, and the map of one of its spaces but for numbers
pub record IsImageOf (limits : Limits) (files : List (List ℕ)) (cells : AddressSpace) (image : ImageParts) : Type 0 where
  pub same_limits : image.limits ≡ limits
  pub same_files : image.files ≡ files
  pub in_order : AreInOrder image.items
  pub same_map : AreEqualButForNumbers (cells_of image.items) cells
