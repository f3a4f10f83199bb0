-- What one change of a range of pages makes of a state, and the rows that agree with it.
--     IsOld      a page whose word is still that of what it had
--     IsLow      what a page with a frame or a slot came from is numbered below 2 ^ 64
--     IsEntryOf      a cell agrees with a state and its word with a book, but for the words of some pages
--     IsRowOf, AreRowsOf      so does each cell of a row that the pass knows;  of each row of a list
--     IsChange      the pages of a range are changed, and each entry that has some of them but not all has what it had
--     clean      without the pages of a range
--     Rewrites      a pass wrote words, and nothing else
--     RowChange      one row of a list is changed
--     IsBase, IsReady      rows that may be changed;  in this way
--     AreChanging, AreChanged      so many of them are;  all are
--     op_change, range_change      the range of pages that a change of a call changes, and how
--     Steps      the states that the changes of a call make, one after another
--     MayMakeAt      a row of a list may be changed
--     MayChange, Changes, MayChangeBy, ChangesBy, MayMakeAll, MakesAll      what the changes of a range, of a call's change and of all of them ask, and what they do
--     AgreesAfter      where the last state is that of the book, the rows agree with it
use Rattle.std.specs.Prelude.{◌≡◌, ◌≢◌, ℕ, ◌+◌, ◌-◌, ◌^◌, ◌<◌, ◌≤◌, ◌⊎◌, ◌&&◌, Bool, true, false, not, List, [], ◌∷◌, map, length, slice_get, slice_index, slice_index_or, Option, Some, None}
use Rattle.std.specs.List.{Contains}
use Rattle.std.specs.FinSet as set
use Rattle.corten_base.specs.declared.calls.Backing.{Backing}
use Rattle.corten_base.specs.declared.calls.TxnOp.{TxnOp}
use Rattle.corten_base.specs.declared.calls.TxnOp.TheVariants as op
use Rattle.page_map.specs.Cell.{index_of}
use Rattle.page_map.specs.Mapping.{op_first, op_pages}
use Rattle.page_map.specs.State.{State, levels, cell_at}
use Rattle.row_cells.specs.declared.Cell.{Cell}
use Rattle.row_cells.specs.declared.Cell.TheVariants.{Invalid, Table, Anon, File, Mapped, Swapped}
use Rattle.row_table.specs.declared.view.PassView.{PassView}
use Rattle.row_table.specs.declared.view.HeldRow.{HeldRow as KnownRow}
use Rattle.row_table.specs.Moves.{NotInHand}
use Rattle.row_table.specs.Rule.{row_part}
use Rattle.table_place.specs.declared.Place.{Place}
use Rattle.table_place.specs.Place.{root, has_page, span_first, span_count, is_place}
use Rattle.table_place.specs.Range.{within}
use Rattle.tree_lock.specs.Held.{with_content}
use Rattle.tree_lock.specs.Release.{HoldsExactly}
use Rattle.walk_core.specs.Words.{is_link}
use Rattle.machine_plan.specs.declared.kit.Change.{Change}
use Rattle.machine_plan.specs.declared.kit.Change.TheVariants.{Op, Reset, Move, GiveUp, Spawn, Fork, Exit}
use Rattle.machine_plan.specs.Agrees.{below, HasBytes, IsTableOf, IsNoTable, Shows, Spells}
use Rattle.machine_plan.specs.Books.{BookData, state_of}
use Rattle.machine_plan.specs.Held.{AllGiven, HeldWith}
use Rattle.machine_plan.specs.HeldRows.{Row, AreOf, is_table}
use Rattle.cursor_apply.specs.Applying.{OnlyWords}
use Rattle.cursor_apply.specs.declared.becoming.Making.{Making}
use Rattle.cursor_apply.specs.declared.becoming.Making.TheVariants as making
use Rattle.cursor_apply.specs.declared.becoming.RangeChange.{RangeChange}
use Rattle.cursor_apply.specs.Changing.{page_made, IsNearAll, IsSmall, MayMake, Makes}
use Rattle.cursor_apply.specs.Putting.{row_place}

-- the word of a page, where it is no link
pub record IsOld (is_old : ℕ → Bool) (q : Place) (word : ℕ) (cell : Cell) : Type 0 where
  pub low : q.level ≡ 0
  pub old : is_old q.prefix ≡ true
  pub no_link : is_link word ≡ false
  pub no_table : is_table cell ≡ false

abbrev pub IsLow : Cell → Type 0
IsLow (Mapped perm origin frame) = index_of origin < 2 ^ 64
IsLow (Swapped perm origin slot) = index_of origin < 2 ^ 64
IsLow Invalid = Unit {0}
IsLow Table = Unit {0}
IsLow (Anon perm) = Unit {0}
IsLow (File perm file index) = Unit {0}

pub record IsEntryOf (b : BookData) (st : State) (is_old : ℕ → Bool) (q : Place) (word : ℕ) (cell : Cell) : Type 0 where
  pub shows : Shows st q cell
  pub spells : Spells (state_of b) cell word ⊎ IsOld is_old q word cell
  pub kept : HasBytes b cell
  pub small : IsSmall cell
  pub low : IsLow cell

pub record IsRowOf (b : BookData) (st : State) (is_old : ℕ → Bool) (known : List (KnownRow (List Cell))) (x : Row) : Type 0 where
  pub row : KnownRow (List Cell)
  pub held : Contains known row
  pub same_row : row.row ≡ x.row
  pub same_place : row.place ≡ x.place
  pub table : IsTableOf st x.place
  pub whole : length x.content ≡ 512
  pub entries : (index : ℕ) (cell : Cell) → index < 512 → slice_get x.content index ≡ Some cell → IsEntryOf b st is_old (below (levels st) x.place index) (slice_index row.words index) cell

abbrev pub AreRowsOf : BookData → State → (ℕ → Bool) → List (KnownRow (List Cell)) → List Row → Type 0
AreRowsOf b st is_old known rows = (x : Row) → Contains rows x → IsRowOf b st is_old known x

abbrev pub LiesIn : Place → ℕ → ℕ → Type 0
LiesIn q first count = (first ≤ span_first q) × (span_first q + span_count q ≤ first + count)

pub record IsChange (change : RangeChange) (space : ℕ) (st now : State) : Type 0 where
  pub same_levels : levels now ≡ levels st
  pub same_tables : now.tables ≡ st.tables
  pub inside : (page : ℕ) → within change.first change.count page ≡ true → cell_at now space page ≡ page_made change.making (page - change.first) (cell_at st space page)
  pub others : (s page : ℕ) → s ≢ space → cell_at now s page ≡ cell_at st s page
  pub edges : (q : Place) → q.space ≡ space → q.level < levels st → IsNoTable st q → ¬ LiesIn q change.first change.count → (page : ℕ) → has_page q space page ≡ true → cell_at now space page ≡ cell_at st space page
  pub top : set.contains st.tables (root (levels st) space) ≡ true
  pub few_levels : levels st < 6
  pub places : (p : Place) → set.contains st.tables p ≡ true → is_place (levels st) p ≡ true
  pub end : change.first + change.count < 2 ^ 46
  pub near : IsNearAll change.making change.count

abbrev pub clean : ℕ → ℕ → (ℕ → Bool) → ℕ → Bool
clean first count is_old page = is_old page && not (within first count page)

module _ {B E : Type 0} where
  pub record Rewrites (v w : PassView (List Cell) B E) : Type 0 where
    pub view : OnlyWords v w
    pub parts : map row_part w.rows ≡ map row_part v.rows
    pub given : AllGiven v → AllGiven w

  pub record RowChange (change : RangeChange) (at : ℕ) (rows : List Row) (v : PassView (List Cell) B E) (rows' : List Row) (w : PassView (List Cell) B E) : Type 0 where
    pub row : Row
    pub is : (d : Row) → slice_index_or rows at d ≡ row
    pub content : List Cell
    pub now : rows' ≡ with_content rows at content
    pub makes : Makes change row.row row.place v row.content w content

  -- the rows of one space and the directory, which agree with a state but for the words of some pages. The pass knows these rows alone
  pub record IsBase (b : BookData) (st : State) (space : ℕ) (is_old : ℕ → Bool) (v : PassView (List Cell) B E) (rows : List Row) : Type 0 where
    pub exact : HoldsExactly rows v.core.held v.rows
    pub of_space : AreOf space rows
    pub linked : (x : Row) → Contains rows x → NotInHand v x.row
    pub rows_of : AreRowsOf b st is_old v.rows rows

  pub record IsReady (b : BookData) (st now : State) (space : ℕ) (is_old : ℕ → Bool) (change : RangeChange) (v : PassView (List Cell) B E) (rows : List Row) : Type 0 where
    pub is_change : IsChange change space st now
    pub base : IsBase b st space is_old v rows

  pub record AreChanging (b : BookData) (st now : State) (is_old : ℕ → Bool) (change : RangeChange) (done : ℕ) (v : PassView (List Cell) B E) (rows0 : List Row) (w : PassView (List Cell) B E) (rows : List Row) : Type 0 where
    pub rewrites : Rewrites v w
    pub places : map row_place rows ≡ map row_place rows0
    pub made : (at : ℕ) (d : Row) → at < done → at < length rows → IsRowOf b now (clean change.first change.count is_old) w.rows (slice_index_or rows at d)
    pub left : (at : ℕ) (d : Row) → done ≤ at → at < length rows → IsRowOf b st is_old w.rows (slice_index_or rows at d)

  pub record AreChanged (b : BookData) (now : State) (is_old : ℕ → Bool) (v : PassView (List Cell) B E) (rows0 : List Row) (w : PassView (List Cell) B E) (rows : List Row) : Type 0 where
    pub rewrites : Rewrites v w
    pub places : map row_place rows ≡ map row_place rows0
    pub rows_of : AreRowsOf b now is_old w.rows rows

abbrev pub op_making : TxnOp → Making
op_making (op.Map at fresh len perm what) = making.Back perm what
op_making (op.Unmap at len) = making.Clear
op_making (op.Protect at len perm) = making.Permit perm

abbrev pub op_change : TxnOp → RangeChange
op_change o = record { making = op_making o; first = op_first o; count = op_pages o }

-- a range that moves, and spaces that are made and removed, are no such changes; positions are given up before
abbrev pub range_change : Change → Option RangeChange
range_change (Op o) = Some (op_change o)
range_change (Reset first count) = Some (record { making = making.GiveBack; first = first; count = count })
range_change (Move first old to new) = None
range_change (GiveUp first count) = None
range_change (Spawn space) = None
range_change (Fork space) = None
range_change Exit = None

abbrev pub StepsBy : Option RangeChange → ℕ → State → State → Type 0
StepsBy None space st now = now ≡ st
StepsBy (Some change) space st now = IsChange change space st now

abbrev pub clean_by : Option RangeChange → (ℕ → Bool) → ℕ → Bool
clean_by None is_old = is_old
clean_by (Some change) is_old = clean change.first change.count is_old

abbrev pub Steps : List Change → ℕ → State → State → Type 0
Steps [] space st now = now ≡ st
Steps (c ∷ cs) space st now = (mid : State) × StepsBy (range_change c) space st mid × Steps cs space mid now

abbrev pub all_clean : List Change → (ℕ → Bool) → ℕ → Bool
all_clean [] is_old = is_old
all_clean (c ∷ cs) is_old = all_clean cs (clean_by (range_change c) is_old)

module _ {B E : Type 0} where
  -- a list of changes, and one of them or of the ranges, as contracts ask and tell it: for any book and states

  abbrev pub MayChange : RangeChange → PassView (List Cell) B E → List Row → Type 0
  MayChange change v rows = (b : BookData) × (st : State) × (now : State) × (space : ℕ) × (is_old : (ℕ → Bool)) × IsReady b st now space is_old change v rows

  abbrev pub Changes : RangeChange → PassView (List Cell) B E → List Row → PassView (List Cell) B E → List Row → Type 0
  Changes change v rows w rows' = (b : BookData) (st now : State) (space : ℕ) (is_old : ℕ → Bool) → IsReady b st now space is_old change v rows
      → AreChanged b now (clean change.first change.count is_old) v rows w rows'

  abbrev pub MayChangeBy : Option RangeChange → PassView (List Cell) B E → List Row → Type 0
  MayChangeBy change v rows = (b : BookData) × (st : State) × (now : State) × (space : ℕ) × (is_old : (ℕ → Bool)) × IsBase b st space is_old v rows × StepsBy change space st now

  abbrev pub ChangesBy : Option RangeChange → PassView (List Cell) B E → List Row → PassView (List Cell) B E → List Row → Type 0
  ChangesBy change v rows w rows' = (b : BookData) (st now : State) (space : ℕ) (is_old : ℕ → Bool) → IsBase b st space is_old v rows → StepsBy change space st now
      → AreChanged b now (clean_by change is_old) v rows w rows'

  abbrev pub MayMakeAll : List Change → PassView (List Cell) B E → List Row → Type 0
  MayMakeAll changes v rows = (b : BookData) × (st : State) × (now : State) × (space : ℕ) × (is_old : (ℕ → Bool)) × IsBase b st space is_old v rows × Steps changes space st now

  abbrev pub MakesAll : List Change → PassView (List Cell) B E → List Row → PassView (List Cell) B E → List Row → Type 0
  MakesAll changes v rows w rows' = (b : BookData) (st now : State) (space : ℕ) (is_old : ℕ → Bool) → IsBase b st space is_old v rows → Steps changes space st now
      → AreChanged b now (all_clean changes is_old) v rows w rows'

  abbrev pub AgreesAfter : List Change → PassView (List Cell) B E → List Row → PassView (List Cell) B E → List Row → Type 0
  AgreesAfter changes v rows w rows' = (b : BookData) (st : State) (space : ℕ) (is_old : ℕ → Bool) → IsBase b st space is_old v rows → Steps changes space st (state_of b)
      → ((page : ℕ) → all_clean changes is_old page ≡ false) → HeldWith b w rows'

  -- the row at this place of the list may be changed
  abbrev pub MayMakeAt : ℕ → PassView (List Cell) B E → List Row → Type 0
  MayMakeAt at v rows = (x d : Row) → slice_index_or rows at d ≡ x → (1 ≤ x.place.level) × MayMake x.row x.place x.content v
