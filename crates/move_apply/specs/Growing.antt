-- Pages that go on from the last one of a range, behind its end.
--     perm_in      the permissions of a page of which this is told, and none where nothing stands there
--     next_of      what the page behind one came from
--     going_on, goes_behind      the pages behind one of which this is told, and behind one with this cell
--     IsFill      rows in which the pages behind the end of a range are to go on from its last one
--     MayFill, Fills      there are such rows;  they do
--     MayGrowBy, GrowsBy      the same of a change of a call
--     MayGrow, Grows      there is a call that lets its range grow where it stands;  for each one what an apply leaves
use Rattle.std.specs.Prelude.{◌≡◌, ℕ, ◌+◌, ◌-◌, ◌<◌, ◌≤◌, Bool, false, List, Option, Some, None}
use Rattle.std.specs.Option.{option_map}
use Rattle.corten_base.specs.declared.calls.Backing.{Backing}
use Rattle.corten_base.specs.declared.calls.Backing.TheVariants as backing
use Rattle.corten_base.specs.declared.calls.Call.TheVariants as call
use Rattle.corten_base.specs.declared.numbers.Status.{Status}
use Rattle.corten_base.specs.declared.numbers.Status.TheVariants as status
use Rattle.corten_base.specs.declared.permissions.Perm.{Perm}
use Rattle.page_map.specs.declared.cell.Cell.{Cell as PageCell}
use Rattle.page_map.specs.Cell.{backing_of, perm_of}
use Rattle.page_map.specs.Remap.{moves, resize_of}
use Rattle.page_map.specs.State.{State, levels, space_at, cell_at}
use Rattle.row_cells.specs.declared.Cell.{Cell}
use Rattle.row_table.specs.declared.view.PassView.{PassView}
use Rattle.table_place.specs.Place.{pages_of}
use Rattle.machine_plan.specs.declared.kit.Kit.{Kit}
use Rattle.machine_plan.specs.declared.kit.Change.{Change}
use Rattle.machine_plan.specs.declared.kit.Change.TheVariants.{Op, Reset, Move, GiveUp, Spawn, Fork, Exit}
use Rattle.machine_plan.specs.Books.{BookData, state_of}
use Rattle.tree_lock.specs.declared.zone.Zone.TheVariants as zone
use Rattle.machine_plan.specs.Cover.{HasCover}
use Rattle.machine_plan.specs.Held.{ListHolds}
use Rattle.machine_plan.specs.HeldRows.{Row, IsAsked}
use Rattle.cursor_apply.specs.Applying.{Applied}
use Rattle.cursor_apply.specs.Changed.{IsReady, AreChanged, clean}
use Rattle.move_apply.specs.Resizing.{IsResizable}
use Rattle.cursor_apply.specs.declared.becoming.Making.TheVariants.{Back}
use Rattle.cursor_apply.specs.declared.becoming.RangeChange.{RangeChange}

abbrev pub perm_in : Status → Option Perm
perm_in status.Invalid = None
perm_in (status.Anon perm) = Some perm
perm_in (status.File perm file index) = Some perm
perm_in (status.Mapped perm frame) = Some perm
perm_in (status.Swapped perm slot) = Some perm

abbrev pub next_of : Backing → Backing
next_of backing.Zero = backing.Zero
next_of (backing.File file index) = backing.File file (index + 1)

abbrev pub backing_behind : Perm → Backing → ℕ → ℕ → RangeChange
backing_behind perm origin first count = record { making = Back perm (next_of origin); first = first; count = count }

abbrev pub going_on : Status → Backing → ℕ → ℕ → Option RangeChange
going_on what origin first count = option_map (λ perm. backing_behind perm origin first count) (perm_in what)

abbrev pub goes_behind : PageCell → ℕ → ℕ → RangeChange
goes_behind last first count = backing_behind (perm_of last) (backing_of last) first count

module _ {B E : Type 0} where
  pub record IsFill (b : BookData) (st now : State) (space : ℕ) (is_old : ℕ → Bool) (first old new : ℕ) (v : PassView (List Cell) B E) (rows : List Row) : Type 0 where
    pub some : 1 ≤ old
    pub more : old < new
    pub last : PageCell
    pub there : cell_at st space (first + old - 1) ≡ Some last
    pub asked : IsAsked space rows (first + old - 1)
    pub ready : IsReady b st now space is_old (goes_behind last (first + old) (new - old)) v rows

  abbrev pub MayFill : ℕ → ℕ → ℕ → PassView (List Cell) B E → List Row → Type 0
  MayFill first old new v rows = (b : BookData) × (st : State) × (now : State) × (space : ℕ) × (is_old : (ℕ → Bool)) × IsFill b st now space is_old first old new v rows

  abbrev pub Fills : ℕ → ℕ → ℕ → PassView (List Cell) B E → List Row → PassView (List Cell) B E → List Row → Type 0
  Fills first old new v rows w rows' = (b : BookData) (st now : State) (space : ℕ) (is_old : ℕ → Bool) → IsFill b st now space is_old first old new v rows
      → AreChanged b now (clean (first + old) (new - old) is_old) v rows w rows'

  abbrev pub MayGrowBy : Change → PassView (List Cell) B E → List Row → Type 0
  MayGrowBy (Move first old to new) v rows = MayFill first old new v rows
  MayGrowBy (Op o) v rows = Unit {0}
  MayGrowBy (Reset first count) v rows = Unit {0}
  MayGrowBy (GiveUp first count) v rows = Unit {0}
  MayGrowBy (Spawn space) v rows = Unit {0}
  MayGrowBy (Fork space) v rows = Unit {0}
  MayGrowBy Exit v rows = Unit {0}

  abbrev pub GrowsBy : Change → PassView (List Cell) B E → List Row → PassView (List Cell) B E → List Row → Type 0
  GrowsBy (Move first old to new) v rows w rows' = Fills first old new v rows w rows'
  GrowsBy (Op o) v rows w rows' = Unit {0}
  GrowsBy (Reset first count) v rows w rows' = Unit {0}
  GrowsBy (GiveUp first count) v rows w rows' = Unit {0}
  GrowsBy (Spawn space) v rows w rows' = Unit {0}
  GrowsBy (Fork space) v rows w rows' = Unit {0}
  GrowsBy Exit v rows w rows' = Unit {0}

  -- the rows have the cover of the space after the call
  pub record IsGrowable (a b : BookData) (thread space at old_len new_len : ℕ) (v : PassView (List Cell) B E) (rows : List Row) (kit : Kit) : Type 0 where
    pub more : pages_of old_len < pages_of new_len
    pub stays : moves (levels (state_of a)) (space_at (state_of a) space) (resize_of at old_len new_len) ≡ false
    pub resizable : IsResizable a b thread space at old_len new_len v rows kit
    pub cover : HasCover (zone.Space space) (state_of b) (ListHolds rows)

  abbrev pub MayGrow : PassView (List Cell) B E → List Row → Kit → Type 0
  MayGrow v rows kit = (a : BookData) × (b : BookData) × (thread : ℕ) × (space : ℕ) × (at : ℕ) × (old_len : ℕ) × (new_len : ℕ) × IsGrowable a b thread space at old_len new_len v rows kit

  abbrev pub Grows : PassView (List Cell) B E → List Row → Kit → PassView (List Cell) B E → List Row → Kit → Type 0
  Grows v rows kit w rows' kit' = (a b : BookData) (thread space at old_len new_len : ℕ) → IsGrowable a b thread space at old_len new_len v rows kit
      → Applied b thread (call.Remap space at old_len new_len) v w rows' kit kit'
