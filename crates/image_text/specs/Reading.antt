-- What a reader of an image knows and finds.
--     IsSpelled      an item that has a line, whatever stands before it
--     AreSmall, reach      items whose pages are those of 44 bits;  the page behind the last one of items
--     new_in_level      how many page tables of a level an item wants and no item before it
--     IsTally, IsDraft, Fits      what is counted of items;  an image with its counts;  counts within limits
--     IsPlaced      an item in order, with user pages, that could come from the files
--     IsNextFile, NoFileHere      a file's line, which goes on;  why none does
--     IsNextItem      an item that goes on
--     IsAdded, IsNoLine      a line that goes on;  a line that is none of a file or an item that may come next
--     HasNoLevels      no line of levels goes on behind the limits
use Rattle.std.specs.Prelude.{◌≡◌, ◌≢◌, ℕ, ◌+◌, ◌-◌, ◌*◌, ◌/◌, ◌^◌, ◌<◌, ◌≤◌, Bool, true, ◌&&◌, ◌||◌, List, [], ◌∷◌, ◌++◌, length, filter, nat_lt, nat_le, All, if◌then◌else◌}
use Rattle.corten_base.specs.declared.numbers.Limits.{Limits}
use Rattle.table_place.specs.Place.{is_user_range}
use Rattle.text_words.specs.Layout.{ended}
use Rattle.mm_script.specs.CallLine.{IsNumber, IsBacking}
use Rattle.mm_script.specs.ScriptText.{IsFile, file_line}
use Rattle.history_lines.specs.Accounting.{levels_line}
use Rattle.image_text.specs.declared.image.Item.{Item}
use Rattle.image_text.specs.declared.image.Item.TheVariants.{Run, Page}
use Rattle.image_text.specs.declared.tally.Tally.{Tally}
use Rattle.image_text.specs.Items.{first_of, count_of, end_of, is_live, is_out, cells_of}
use Rattle.image_text.specs.Images.{ImageParts, unlike_count, IsNext, IsBacked, MayFollow, IsImage}
use Rattle.image_text.specs.ImageText.{item_line}

-- an address fits into 64 bits
abbrev pub IsSpelled : Item → Type 0
IsSpelled (Run first count perm backing) = (first < 2 ^ 52) × IsNumber count × IsBacking backing
IsSpelled (Page page perm origin residence bytes) = (page < 2 ^ 52) × IsBacking origin × (length bytes ≤ 4096) × All (λ b. b < 256) bytes

-- so are user pages
abbrev pub AreSmall : List Item → Type 0
AreSmall items = All (λ item. end_of item < 2 ^ 44) items

-- 0 where there is none
abbrev pub reach : List Item → ℕ
reach [] = 0
reach (item ∷ []) = end_of item
reach (item ∷ next ∷ items) = reach (next ∷ items)

-- the first page of the span of this level that has a page
abbrev pub span_of : ℕ → ℕ → ℕ
span_of level page = page / 512 ^ level * 512 ^ level

-- whether a span is cut by the pages from first to before end, of which it has one: it also has other pages
abbrev pub is_cut : ℕ → ℕ → ℕ → ℕ → Bool
is_cut level first end span = nat_lt span first || nat_lt end (span + 512 ^ level)

-- The spans of the first and of the last page, if they are cut: the first one's only where no page before `behind` is in it.
abbrev pub is_new_front : ℕ → ℕ → ℕ → ℕ → Bool
is_new_front behind first end level = nat_le behind (span_of level first) && is_cut level first end (span_of level first)

abbrev pub is_new_back : ℕ → ℕ → ℕ → Bool
is_new_back first end level = nat_lt (span_of level first) (span_of level (end - 1)) && is_cut level first end (span_of level (end - 1))

abbrev pub new_in_level : ℕ → ℕ → ℕ → ℕ → ℕ
new_in_level behind first end level =
    (if is_new_front behind first end level then 1 else 0) + (if is_new_back first end level then 1 else 0)

-- the root's table is one of those that the map wants
pub record IsTally (levels : ℕ) (items : List Item) (tally : Tally) : Type 0 where
  pub live : tally.live ≡ length (filter is_live items)
  pub out : tally.out ≡ length (filter is_out items)
  pub tables : tally.tables ≡ 1 + unlike_count levels (cells_of items)

pub record IsDraft (image : ImageParts) (tally : Tally) : Type 0 where
  pub right : IsImage image
  pub counted : IsTally image.limits.levels image.items tally

pub record Fits (limits : Limits) (tally : Tally) : Type 0 where
  pub live : tally.live ≤ limits.frames
  pub out : tally.out ≤ limits.swap
  pub tables : tally.tables ≤ limits.tables

pub record IsPlaced (image : ImageParts) (item : Item) : Type 0 where
  pub user : is_user_range image.limits.levels (first_of item) (count_of item) ≡ true
  pub next : IsNext image.items item
  pub backed : IsBacked image.files item

-- there is room for one more, and no item yet
pub record IsNextFile (old : ImageParts) (line : List ℕ) (new : ImageParts) : Type 0 where
  pub bytes : List ℕ
  pub is_file : IsFile bytes
  pub is_line : line ≡ file_line bytes
  pub none : old.items ≡ []
  pub room : length old.files < 16
  pub after : new ≡ record { limits = old.limits; files = old.files ++ bytes ∷ []; items = old.items }

-- there are as many files as may be, or there is an item, or the line is no file's
pub data NoFileHere (image : ImageParts) (line : List ℕ) : Type 0 where
  full : 16 ≤ length image.files → NoFileHere image line
  late : image.items ≢ [] → NoFileHere image line
  other : ((bytes : List ℕ) → IsFile bytes → line ≢ file_line bytes) → NoFileHere image line

pub record IsNextItem (old : ImageParts) (item : Item) (new : ImageParts) : Type 0 where
  pub may : MayFollow old.limits old.files old.items item
  pub after : new ≡ record { limits = old.limits; files = old.files; items = old.items ++ item ∷ [] }

pub data IsAdded (old : ImageParts) (line : List ℕ) (new : ImageParts) : Type 0 where
  file : IsNextFile old line new → IsAdded old line new
  item : (i : Item) → line ≡ item_line i → IsNextItem old i new → IsAdded old line new

pub record IsNoLine (image : ImageParts) (line : List ℕ) : Type 0 where
  pub no_file : NoFileHere image line
  pub no_item : (item : Item) → MayFollow image.limits image.files image.items item → line ≢ item_line item

-- no line of levels goes on behind limits: it was taken, or another stands there
abbrev pub HasNoLevels : ℕ → List ℕ → Type 0
HasNoLevels levels bytes = levels ≡ 4 → (more : List ℕ) → bytes ≢ ended levels_line ++ more
