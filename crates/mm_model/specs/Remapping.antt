-- Ranges of pages that get another length.
--     address_of      the address of a range once it is placed so
--     resized      the cells afterwards
--     IsRemapping      what is known of a range and its place where nothing but page tables can refuse the call
--     MayRemap      the same of some call of some thread
--     wanted_at      the tables that it wants
--     AreLacked      those of them that are missing
--     lack_at      the reply that they are too many, if they are
--     after_remap      the state after it
use Rattle.std.specs.Prelude.{◌≡◌, ℕ, ◌+◌, ◌-◌, ◌*◌, ◌<◌, true, false, List, Option, None}
use Rattle.std.specs.FinMap as map
use Rattle.corten_base.specs.declared.calls.Reply.{Reply}
use Rattle.table_place.specs.declared.Place.{Place}
use Rattle.table_place.specs.Place.{is_inside, is_page_range}
use Rattle.page_map.specs.Alike.{unlike_tables}
use Rattle.page_map.specs.Change.{change}
use Rattle.page_map.specs.Mapping.{hole, is_length}
use Rattle.page_map.specs.Remap.{is_too_far, resize_of}
use Rattle.page_map.specs.State.{State, AddressSpace, is_present, levels, space_at}
use Rattle.page_map.specs.Tables.{changed_tables, missing}
use Rattle.plain_counts.specs.Levels.{Lists}
use Rattle.space_cells.specs.Moving.{moved}
use Rattle.plain_spaces.specs.Pieces.{left_of}
use Rattle.plain_spaces.specs.Resizing.{IsPlacing, grown, length_of, relocation}
use Rattle.plain_spaces.specs.declared.resizing.Placing.{Placing}
use Rattle.plain_spaces.specs.declared.resizing.Placing.TheVariants.{Shrinks, Grows, Moves}
use Rattle.plain_spaces.specs.declared.resizing.Resize.{Resize}
use Rattle.mm_model.specs.Lacking.{tables_lack}
use Rattle.mm_model.specs.declared.remapping.Remapping.{Remapping}

abbrev pub address_of : ℕ → Placing → ℕ
address_of at Shrinks = at
address_of at Grows = at
address_of at (Moves to) = 4096 * to

abbrev pub placed_cells : Resize → Placing → AddressSpace → AddressSpace
placed_cells r Shrinks cells = change cells (r.first + r.new) (r.old - r.new) (λ page _. None)
placed_cells r Grows cells = grown (length_of r) cells
placed_cells r (Moves to) cells = moved (relocation r to) cells

abbrev pub resized : Remapping → AddressSpace → AddressSpace
resized r cells = placed_cells r.resize r.placing cells

pub record IsRemapping (st : State) (thread space at old_len new_len : ℕ) (r : Remapping) : Type 0 where
  pub lengths : length_of r.resize ≡ resize_of at old_len new_len
  pub range : is_page_range (levels st) at old_len ≡ true
  pub length : is_length (levels st) new_len ≡ true
  pub present : is_present st space ≡ true
  pub placed : IsPlacing (levels st) thread (space_at st space) r.resize r.placing
  pub near : is_too_far (space_at st space) (resize_of at old_len new_len) ≡ false
  pub full : hole (space_at st space) at old_len ≡ None

pub record MayRemap (st : State) (space : ℕ) (r : Remapping) : Type 0 where
  pub thread : ℕ
  pub at : ℕ
  pub old_len : ℕ
  pub new_len : ℕ
  pub few : thread < 8
  pub is : IsRemapping st thread space at old_len new_len r

-- those whose spans are not alike afterwards
abbrev pub wanted_at : State → ℕ → Remapping → List Place
wanted_at st space r = unlike_tables (levels st) space (resized r (space_at st space))

abbrev pub AreLacked : State → ℕ → Remapping → List Place → Type 0
AreLacked st space r places = Lists (missing (wanted_at st space r) st.tables) places

abbrev pub lack_at : State → ℕ → Remapping → ℕ → Option Reply
lack_at st space r limbo = tables_lack st (wanted_at st space r) limbo

abbrev pub after_remap : State → ℕ → Remapping → State
after_remap st space r = record st {
  spaces = map.insert st.spaces space (resized r (space_at st space));
  tables = changed_tables (is_inside (levels st) space (left_of r.resize r.placing).first (left_of r.resize r.placing).count) (wanted_at st space r) st.tables;
}
