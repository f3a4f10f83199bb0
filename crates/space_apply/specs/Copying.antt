-- The tables of a copied space.
--     CopiesSpace      a call that copies a space, and the list has the directory
--     IsKey      a page of a space at which something stands
--     copy_at      the same table of another space
--     CopiesTables      the tables that are there after the copy
--     is_filled, IsFirstFilled      whether a cell is neither Invalid nor a link;  the first such cell of a row, and 512 where there is none
--     LeadsOn      whether an entry of a row leads to a table
--     page_at      the first page below an entry
--     HasOwn, HasCopies, HasCopiesTo      a table that has a key below an entry of its own has its copy in a list;  so has each table of a span;  of so many entries
--     IsCopying      a call of which the tables of a span may be copied
--     CanCopy, LinksCopies, CopiesOwn, CopiesAll, CopiesSome      there is such a call;  for each one its rows are linked, and the tables have their copies
use Rattle.std.specs.Prelude.{◌≡◌, ◌≢◌, ℕ, ◌+◌, ◌-◌, ◌*◌, ◌^◌, ◌<◌, ◌≤◌, Bool, true, false, List, slice_get, Some, is_some}
use Rattle.std.specs.FinSet as set
use Rattle.corten_base.specs.declared.calls.Call.{Call}
use Rattle.corten_base.specs.declared.calls.Call.TheVariants as call
use Rattle.page_map.specs.State.{State, levels, cell_at}
use Rattle.page_map.specs.Spaces.{least_absent}
use Rattle.row_cells.specs.declared.Cell.{Cell}
use Rattle.row_cells.specs.declared.Cell.TheVariants.{Invalid, Table, Anon, File, Mapped, Swapped}
use Rattle.row_table.specs.declared.view.PassView.{PassView}
use Rattle.table_place.specs.declared.Place.{Place}
use Rattle.table_place.specs.Place.{directory, has_page, place_of}
use Rattle.machine_plan.specs.declared.kit.Kit.{Kit}
use Rattle.machine_plan.specs.Agrees.{below, IsNoTable}
use Rattle.machine_plan.specs.Books.{BookData, state_of}
use Rattle.machine_plan.specs.Held.{ListHolds}
use Rattle.machine_plan.specs.HeldRows.{Row, is_table}
use Rattle.cursor_apply.specs.Linking.{IsLinking, LinkedSoFar}

pub record CopiesSpace (a : BookData) (c : Call) (rows : List Row) (space new : ℕ) : Type 0 where
  pub forks : c ≡ call.Fork space
  pub new_space : least_absent (state_of a) ≡ Some new
  pub top : ListHolds rows directory

abbrev pub IsKey : State → ℕ → ℕ → Type 0
IsKey st space page = is_some (cell_at st space page) ≡ true

abbrev pub copy_at : ℕ → Place → Place
copy_at new p = record { space = new; level = p.level; prefix = p.prefix }

-- Those of other spaces are those before. The new space was not there, and has each table of the source above a key. Each table of the source has its row in the list.
pub record CopiesTables (a b : BookData) (rows : List Row) (space new : ℕ) : Type 0 where
  pub fresh : (p : Place) → set.contains (state_of a).tables p ≡ true → p.space ≢ new
  pub stay : (p : Place) → set.contains (state_of a).tables p ≡ true → set.contains (state_of b).tables p ≡ true
  pub others : (p : Place) → set.contains (state_of b).tables p ≡ true → p.space ≢ new → set.contains (state_of a).tables p ≡ true
  pub wanted : (page level : ℕ) → IsKey (state_of a) space page → set.contains (state_of a).tables (place_of space level page) ≡ true → set.contains (state_of b).tables (place_of new level page) ≡ true
  pub held : (p : Place) → set.contains (state_of a).tables p ≡ true → p.space ≡ space → ListHolds rows p
  pub top : ListHolds rows directory

abbrev pub is_filled : Cell → Bool
is_filled Invalid = false
is_filled Table = false
is_filled (Anon perm) = true
is_filled (File perm file index) = true
is_filled (Mapped perm origin frame) = true
is_filled (Swapped perm origin slot) = true

abbrev pub FilledAt : List Cell → ℕ → Type 0
FilledAt cells index = (cell : Cell) × (slice_get cells index ≡ Some cell) × (is_filled cell ≡ true)

pub record IsFirstFilled (cells : List Cell) (index : ℕ) : Type 0 where
  pub few : index ≤ 512
  pub before : (i : ℕ) → i < index → FilledAt cells i → ⊥
  pub here : index < 512 → FilledAt cells index

-- whether the entry is a link
pub record LeadsOn (cells : List Cell) (index : ℕ) (leads : Bool) : Type 0 where
  pub cell : Cell
  pub there : slice_get cells index ≡ Some cell
  pub is : leads ≡ is_table cell

abbrev pub page_at : Place → ℕ → ℕ
page_at p index = (512 * p.prefix + index) * 512 ^ (p.level - 1)

pub record HasOwn (st : State) (p : Place) (new : ℕ) (rows : List Row) : Type 0 where
  pub each : (index page : ℕ) → index < 512 → IsNoTable st (below (levels st) p index) → has_page (below (levels st) p index) p.space page ≡ true → IsKey st p.space page → ListHolds rows (copy_at new p)

pub record HasCopiesTo (st : State) (p : Place) (new count : ℕ) (rows : List Row) : Type 0 where
  pub each : (index page level : ℕ) → index < count → has_page (below (levels st) p index) p.space page ≡ true → IsKey st p.space page → 1 ≤ level → level < p.level → set.contains st.tables (place_of p.space level page) ≡ true
      → ListHolds rows (place_of new level page)

pub record HasCopies (st : State) (p : Place) (new : ℕ) (rows : List Row) : Type 0 where
  pub each : (page level : ℕ) → has_page p p.space page ≡ true → IsKey st p.space page → 1 ≤ level → level ≤ p.level → set.contains st.tables (place_of p.space level page) ≡ true → ListHolds rows (place_of new level page)

-- ---- for some call, and for each such call

module _ {B E : Type 0} where
  -- the table at the position is one of the source
  pub record IsCopying (count room : ℕ) (a b : BookData) (thread : ℕ) (c : Call) (kit : Kit) (next : ℕ) (v : PassView (List Cell) B E) (rows : List Row) (w : PassView (List Cell) B E) (rows' : List Row) (p : Place) (new : ℕ) : Type 0 where
    pub linking : IsLinking count room a b thread c kit v rows
    pub so_far : LinkedSoFar a b thread c kit next v rows w rows'
    pub tables : CopiesTables a b rows p.space new
    pub there : set.contains (state_of a).tables p ≡ true

  abbrev pub CanCopy : ℕ → ℕ → Kit → ℕ → PassView (List Cell) B E → List Row → Place → ℕ → Type 0
  CanCopy count room kit next w rows' p new = (a : BookData) × (b : BookData) × (thread : ℕ) × (c : Call) × (v : PassView (List Cell) B E) × (rows : List Row) × IsCopying count room a b thread c kit next v rows w rows' p new

  abbrev pub LinksCopies : ℕ → ℕ → Kit → ℕ → PassView (List Cell) B E → List Row → Place → ℕ → ℕ → PassView (List Cell) B E → List Row → Type 0
  LinksCopies count room kit next w rows' p new done z rows'' = (a b : BookData) (thread : ℕ) (c : Call) (v : PassView (List Cell) B E) (rows : List Row)
      → IsCopying count room a b thread c kit next v rows w rows' p new → LinkedSoFar a b thread c kit done v rows z rows''

  abbrev pub CopiesOwn : ℕ → ℕ → Kit → ℕ → PassView (List Cell) B E → List Row → Place → ℕ → List Row → Type 0
  CopiesOwn count room kit next w rows' p new rows'' = (a b : BookData) (thread : ℕ) (c : Call) (v : PassView (List Cell) B E) (rows : List Row)
      → IsCopying count room a b thread c kit next v rows w rows' p new → HasOwn (state_of a) p new rows''

  abbrev pub CopiesAll : ℕ → ℕ → Kit → ℕ → PassView (List Cell) B E → List Row → Place → ℕ → List Row → Type 0
  CopiesAll count room kit next w rows' p new rows'' = (a b : BookData) (thread : ℕ) (c : Call) (v : PassView (List Cell) B E) (rows : List Row)
      → IsCopying count room a b thread c kit next v rows w rows' p new → HasCopies (state_of a) p new rows''

  abbrev pub CopiesSome : ℕ → ℕ → Kit → ℕ → PassView (List Cell) B E → List Row → Place → ℕ → ℕ → List Row → Type 0
  CopiesSome count room kit next w rows' p new done rows'' = (a b : BookData) (thread : ℕ) (c : Call) (v : PassView (List Cell) B E) (rows : List Row)
      → IsCopying count room a b thread c kit next v rows w rows' p new → HasCopiesTo (state_of a) p new done rows''
