-- Granted rows are linked, each with the mark of its span spread over its entries.
--     spread_cell      what stands at an entry of a row whose span had this mark
--     FitsIn      the indexes of a file's pages below a mark are numbers of 64 bits
--     IsSpread      the cells of such a row
--     new_row, linked_view      the row in the list, and the pass after it linked a row
--     MayLinkAt, LinksAt      a granted row that may be linked at a position;  it is linked there
--     IsLinkable      what apply asks further of a call that was granted rows
--     IsGrantedList, IsLinking      the numbers and generations that a commit granted;  what linking them asks
--     LinkedSoFar      so many of the granted rows are linked
--     IsNext, LinksNext      a position that the next row may get;  it has it
--     CanLinkNext, LinksOneMore      a call of which the next row may be linked there;  one row more of each such call is linked
--     CanLinkPage, LinksMore, CanLinkCut, LinksMoreCut      the same of the tables above a page, and of those that a range cuts
--     table_at      the table of a level above a page, and the directory above the root
--     IsLowest, IsLowestAt      the lowest row of a list that has a page;  where in a list it is
--     MayLinkPage      the tables above a page down to a level are wanted, and none of them is missing in the list that is none of the new ones
--     ReachesPage      a row of that level or a lower one has the page
--     IsLow      the least level whose tables a page does not begin
--     MayLinkCut, ReachesCut      the tables that a range cuts may be linked, and are there
--     AreAbove      the missing tables are those above the pages that want something
--     IsAccessIn      a load, a store or a fault in a space
--     MakesSpace      a call that makes an empty space, and the list has the directory
use Rattle.std.specs.Prelude.{◌≡◌, ◌≢◌, ℕ, ◌+◌, ◌*◌, ◌-◌, ◌/◌, ◌^◌, ◌<◌, ◌≤◌, ◌⊎◌, not, true, false, cond, List, [], ◌∷◌, ◌++◌, map, drop, length, nat_eq, nat_lt, slice_get, slice_index, slice_index_or, slice_set, Some}
use Rattle.std.specs.List.{All, Contains, filter}
use Rattle.std.specs.FinSet as set
use Rattle.corten_base.specs.declared.calls.Call.{Call}
use Rattle.corten_base.specs.declared.calls.Call.TheVariants as call
use Rattle.page_map.specs.Access.{Access}
use Rattle.page_map.specs.Effect.{access_of, space_of, wanted_tables}
use Rattle.page_map.specs.State.{IsConsistent, levels}
use Rattle.page_map.specs.Spaces.{least_absent}
use Rattle.page_map.specs.Tables.{Tables, need}
use Rattle.row_cells.specs.declared.Cell.{Cell}
use Rattle.row_cells.specs.declared.Cell.TheVariants.{Invalid, Table, Anon, File, Mapped, Swapped}
use Rattle.row_table.specs.declared.view.PassView.{PassView}
use Rattle.row_table.specs.declared.view.HandRow.{HandRow}
use Rattle.row_table.specs.declared.view.HeldRow.{HeldRow as KnownRow}
use Rattle.row_table.specs.Links.{with_word, with_link}
use Rattle.row_table.specs.Moves.{NotInHand}
use Rattle.row_table.specs.Openings.{MaySetUp, opened_row}
use Rattle.row_table.specs.Rule.{SameRows}
use Rattle.table_place.specs.declared.Place.{Place}
use Rattle.table_place.specs.Place.{directory, has_page, is_place, parent, place_of, span_count}
use Rattle.tree_lock.specs.Held.{IsInserted, with_content}
use Rattle.tree_lock.specs.Release.{HoldsExactly}
use Rattle.tree_lock.specs.Zone.{Meets, ZoneHas}
use Rattle.walk_core.specs.Core.{granted_rows}
use Rattle.walk_core.specs.Lists.{Has, IsDistinct}
use Rattle.walk_core.specs.Words.{is_link, link_word}
use Rattle.machine_plan.specs.declared.kit.Kit.{Kit}
use Rattle.machine_plan.specs.declared.kit.Want.{Want}
use Rattle.machine_plan.specs.Agrees.{below, IsTableOf}
use Rattle.machine_plan.specs.Books.{BookData, state_of}
use Rattle.machine_plan.specs.Held.{ListHolds}
use Rattle.machine_plan.specs.HeldRows.{Row}
use Rattle.machine_plan.specs.Uses.{zone_of}
use Rattle.cursor_detach.specs.Cutting.{above_place, above_index, IsRowAt}
use Rattle.cursor_apply.specs.Applying.{hand_row, OnlyRows}
use Rattle.cursor_apply.specs.Staging.{AreStaged}

-- each entry spans so many pages
abbrev pub spread_cell : Cell → ℕ → ℕ → Cell
spread_cell (Anon perm) pages index = Anon perm
spread_cell (File perm file first) pages index = File perm file (first + index * pages)
spread_cell Invalid pages index = Invalid
spread_cell Table pages index = Invalid
spread_cell (Mapped perm origin frame) pages index = Invalid
spread_cell (Swapped perm origin slot) pages index = Invalid

abbrev pub FitsIn : Cell → ℕ → Type 0
FitsIn (File perm file first) count = first + count ≤ 2 ^ 64
FitsIn (Anon perm) count = Unit {0}
FitsIn Invalid count = Unit {0}
FitsIn Table count = Unit {0}
FitsIn (Mapped perm origin frame) count = Unit {0}
FitsIn (Swapped perm origin slot) count = Unit {0}

pub record IsSpread (mark : Cell) (pages : ℕ) (cells : List Cell) : Type 0 where
  pub whole : length cells ≡ 512
  pub each : (index : ℕ) → index < 512 → slice_get cells index ≡ Some (spread_cell mark pages index)

abbrev pub new_row : ℕ → Place → ℕ → List Cell → Row
new_row row place generation content = record { row = row; place = place; generation = generation; content = content }

pub record IsGrantedList (a b : BookData) (kit : Kit) : Type 0 where
  pub once : IsDistinct (map (λ g. g.0) kit.rows.items)
  pub each : (k : ℕ) (d : ℕ × ℕ) → k < length kit.rows.items → (a.next_generation ≤ (slice_index_or kit.rows.items k d).1) × ((slice_index_or kit.rows.items k d).1 < b.next_generation)
  pub low : b.next_generation ≤ 2 ^ 30
  pub few : length kit.rows.items ≤ 2 ^ 30

module _ {B E : Type 0} where
  -- the row was opened, and the entry of the linker links it
  abbrev pub linked_view : PassView (List Cell) B E → KnownRow (List Cell) → ℕ → ℕ → Place → ℕ → PassView (List Cell) B E
  linked_view v linker index row place generation = record v {
    core = record v.core { held = v.core.held ++ row ∷ []; granted = filter (λ g. not (nat_eq g.row row)) v.core.granted };
    rows = map (λ h. with_link linker index row (with_word linker.row index (link_word row generation) h)) (v.rows ++ opened_row row place generation ∷ []);
    hand = filter (λ x. not (nat_eq x.row row)) v.hand;
  }

  -- the row above is in the list and in the tree, and has no link there
  pub record MayLinkAt (levels row generation : ℕ) (p : Place) (rows : List Row) (v : PassView (List Cell) B E) : Type 0 where
    pub may : MaySetUp v row p generation
    pub place : is_place levels p ≡ true
    pub same_levels : v.layout.levels ≡ levels
    pub small : row < 1024
    pub low : generation < 2 ^ 30
    pub up : Row
    pub there : Contains rows up
    pub is_up : up.place ≡ above_place levels p
    pub mark : Cell
    pub marked : slice_get up.content (above_index levels p) ≡ Some mark
    pub fits : FitsIn mark (span_count p)
    pub linker : KnownRow (List Cell)
    pub linker_held : Contains v.rows linker
    pub linker_row : linker.row ≡ up.row
    pub linker_place : linker.place ≡ up.place
    pub linked : NotInHand v up.row
    pub free : is_link (slice_index linker.words (above_index levels p)) ≡ false
    pub other_rows : All (λ h. h.row ≢ row) rows
    pub other_places : All (λ h. h.place ≢ p) rows

  -- the cell of the row above is a link now, and its mark stands at the entries of the row
  pub record LinksAt (levels row generation : ℕ) (p : Place) (rows : List Row) (v : PassView (List Cell) B E) (rows' : List Row) (w : PassView (List Cell) B E) : Type 0 where
    pub at : ℕ
    pub is_at : IsRowAt (above_place levels p) rows at
    pub mark : Cell
    pub marked : slice_get is_at.row.content (above_index levels p) ≡ Some mark
    pub content : List Cell
    pub spread : IsSpread mark (512 ^ (p.level - 1)) content
    pub inserted : IsInserted (new_row row p generation content) (with_content rows at (slice_set is_at.row.content (above_index levels p) Table)) rows'
    pub view : (linker : KnownRow (List Cell)) → Contains v.rows linker → linker.row ≡ is_at.row.row → w ≡ linked_view v linker (above_index levels p) row p generation

  -- The hand has the rows that were granted, each with a generation below those that the book drew for them, and as many as there are tables missing. What is no link was none at the give. A row has each page of the zone, and a row that is linked below one of the list and meets the zone is in the list.
  pub record IsLinkable (a b : BookData) (thread : ℕ) (c : Call) (v : PassView (List Cell) B E) (rows : List Row) (kit : Kit) : Type 0 where
    pub hand : SameRows (map hand_row v.hand) (map (λ g. g.0) kit.rows.items)
    pub granted : SameRows (granted_rows v.core) (map (λ g. g.0) kit.rows.items)
    pub unlinked : v.core.unlinked ≡ []
    pub each : (x : HandRow) → Contains v.hand x → (x.row < 1024) × (x.generation < a.next_generation) × (x.low ≤ a.next_generation) × (b.next_generation ≤ x.high)
    pub vacant : (h : KnownRow (List Cell)) (index : ℕ) → Contains v.rows h → index < 512 → is_link (slice_index h.words index) ≡ false → Has h.vacant index
    pub tables : (x : Row) → Contains rows x → IsTableOf (state_of b) x.place
    pub zone : (s page : ℕ) → ZoneHas (zone_of thread c) s page → (x : Row) × Contains rows x × (has_page x.place s page ≡ true)
    pub links : (x : Row) (index : ℕ) → Contains rows x → index < 512 → Meets (zone_of thread c) (below (levels (state_of a)) x.place index) → set.contains (state_of a).tables (below (levels (state_of a)) x.place index) ≡ true
        → set.contains (state_of b).tables (below (levels (state_of a)) x.place index) ≡ true → ListHolds rows (below (levels (state_of a)) x.place index)
    pub all : length kit.rows.items ≡ need (wanted_tables (state_of a) thread c) (state_of a).tables

  -- where page tables have so many levels, and the list has so much room
  pub record IsLinking (count room : ℕ) (a b : BookData) (thread : ℕ) (c : Call) (kit : Kit) (v : PassView (List Cell) B E) (rows : List Row) : Type 0 where
    pub before : IsConsistent (state_of a)
    pub after : IsConsistent (state_of b)
    pub same : levels (state_of b) ≡ levels (state_of a)
    pub count_is : count ≡ levels (state_of a)
    pub layout : v.layout.levels ≡ levels (state_of a)
    pub new : IsLinkable a b thread c v rows kit
    pub list : IsGrantedList a b kit
    pub enough : length rows + length kit.rows.items ≤ room

  -- The tables are those that the call left and those of the rows that were linked. As many are missing as rows are left.
  pub record LinkedSoFar (a b : BookData) (thread : ℕ) (c : Call) (kit : Kit) (next : ℕ) (v : PassView (List Cell) B E) (rows : List Row) (w : PassView (List Cell) B E) (rows' : List Row) : Type 0 where
    pub tables : Tables
    pub view : OnlyRows v w
    pub exact : HoldsExactly rows' w.core.held w.rows
    pub staged : AreStaged a b tables thread c kit w rows'
    pub kept : (x : Row) → Contains rows x → (y : Row) × Contains rows' y × (y.row ≡ x.row) × (y.place ≡ x.place)
    pub made : (p : Place) → set.contains (state_of a).tables p ≡ false → set.contains tables p ≡ true → ListHolds rows' p
    pub only : (y : Row) → Contains rows' y → ListHolds rows y.place ⊎ ((set.contains (state_of a).tables y.place ≡ false) × (set.contains (state_of b).tables y.place ≡ true))
    pub left : (p : Place) → set.contains (state_of a).tables p ≡ true → set.contains (state_of b).tables p ≡ true → set.contains tables p ≡ true
    pub within : (p : Place) → set.contains tables p ≡ true → set.contains (state_of b).tables p ≡ true
    pub parents : (p : Place) → set.contains tables p ≡ true → p.level < levels (state_of a) → set.contains tables (parent p) ≡ true
    pub missing : next + set.len (set.difference (state_of b).tables tables) ≡ length kit.rows.items
    pub count : length rows' ≡ length rows + next
    pub hand : SameRows (map hand_row w.hand) (drop next (map (λ g. g.0) kit.rows.items))
    pub granted : SameRows (granted_rows w.core) (drop next (map (λ g. g.0) kit.rows.items))
    pub of_hand : (x : HandRow) → Contains w.hand x → Contains v.hand x
    pub given : (h : KnownRow (List Cell)) → Contains w.rows h → h.is_given ≡ true
    pub vacant : (h : KnownRow (List Cell)) (index : ℕ) → Contains w.rows h → index < 512 → is_link (slice_index h.words index) ≡ false → Has h.vacant index

  -- b has the position, no row that was linked is there, and the one above is in the list
  pub record IsNext (a b : BookData) (thread : ℕ) (c : Call) (kit : Kit) (next : ℕ) (v : PassView (List Cell) B E) (rows : List Row) (w : PassView (List Cell) B E) (rows' : List Row) (p : Place) : Type 0 where
    pub so_far : LinkedSoFar a b thread c kit next v rows w rows'
    pub wanted : set.contains (state_of b).tables p ≡ true
    pub absent : set.contains so_far.tables p ≡ false
    pub up : ListHolds rows' (above_place (levels (state_of a)) p)

pub record LinksNext (p : Place) (rows rows' : List Row) : Type 0 where
  pub there : ListHolds rows' p
  pub kept : (q : Place) → ListHolds rows q → ListHolds rows' q
  pub only : (q : Place) → ListHolds rows' q → (q ≡ p) ⊎ ListHolds rows q

-- ---- the tables above a page

abbrev pub table_at : ℕ → ℕ → ℕ → ℕ → Place
table_at levels space level page = cond (nat_lt levels level) directory (place_of space level page)

pub record IsLowest (levels space page level : ℕ) (rows : List Row) : Type 0 where
  pub high : level ≤ levels + 1
  pub deep : 1 ≤ level
  pub holds : ListHolds rows (table_at levels space level page)
  pub none : (k : ℕ) → 1 ≤ k → k < level → ¬ ListHolds rows (place_of space k page)

-- no row behind it has the page
pub record IsLowestAt (space page : ℕ) (rows : List Row) (at : ℕ) : Type 0 where
  pub inside : at < length rows
  pub has : (d : Row) → has_page (slice_index_or rows at d).place space page ≡ true
  pub none : (k : ℕ) (d : Row) → at < k → k < length rows → has_page (slice_index_or rows k d).place space page ≡ false

-- a row has the page, and the table below a row of the list is in the list where it was there before and has the page
pub record MayLinkPage (a b : BookData) (rows : List Row) (space page low : ℕ) : Type 0 where
  pub row : Row
  pub there : Contains rows row
  pub has : has_page row.place space page ≡ true
  pub deep : 1 ≤ low
  pub high : low ≤ levels (state_of a)
  pub wanted : (k : ℕ) → low ≤ k → k ≤ levels (state_of a) → set.contains (state_of b).tables (place_of space k page) ≡ true
  pub linked : (x : Row) (index : ℕ) → Contains rows x → index < 512 → has_page (below (levels (state_of a)) x.place index) space page ≡ true → set.contains (state_of a).tables (below (levels (state_of a)) x.place index) ≡ true
      → set.contains (state_of b).tables (below (levels (state_of a)) x.place index) ≡ true → ListHolds rows (below (levels (state_of a)) x.place index)

pub record ReachesPage (space page low : ℕ) (rows : List Row) : Type 0 where
  pub level : ℕ
  pub deep : 1 ≤ level
  pub low_enough : level ≤ low
  pub holds : ListHolds rows (place_of space level page)

-- each table above such a page is one of b, and each new table of b is above such a page
pub record AreAbove (a b : BookData) (rows : List Row) (kit : Kit) (space : ℕ) : Type 0 where
  pub pages : (k : ℕ) (d : ℕ × Want) → k < length kit.wants.items → MayLinkPage a b rows space (slice_index_or kit.wants.items k d).0 1
  pub all : (p : Place) → set.contains (state_of a).tables p ≡ false → set.contains (state_of b).tables p ≡ true
      → (k : ℕ) × (k < length kit.wants.items) × ((d : ℕ × Want) → has_page p space (slice_index_or kit.wants.items k d).0 ≡ true)

pub record IsAccessIn (space : ℕ) (c : Call) : Type 0 where
  pub access : Access
  pub of_space : space_of c ≡ Some space
  pub accesses : access_of c ≡ Some access

pub record MakesSpace (a : BookData) (c : Call) (rows : List Row) (space : ℕ) : Type 0 where
  pub spawns : c ≡ call.Spawn
  pub new : least_absent (state_of a) ≡ Some space
  pub top : ListHolds rows directory

-- and the root where it begins them all
pub record IsLow (levels page low : ℕ) : Type 0 where
  pub deep : 1 ≤ low
  pub high : low ≤ levels
  pub cut : low < levels → page / 512 ^ low * 512 ^ low < page
  pub whole : (k : ℕ) → 1 ≤ k → k < low → page / 512 ^ k * 512 ^ k ≡ page

pub record MayLinkCut (a b : BookData) (rows : List Row) (space first count : ℕ) : Type 0 where
  pub some : 1 ≤ count
  pub near : (low : ℕ) → IsLow (levels (state_of a)) first low → MayLinkPage a b rows space first low
  pub far : (low : ℕ) → IsLow (levels (state_of a)) (first + count) low → MayLinkPage a b rows space (first + count - 1) low

pub record ReachesCut (levels space first count : ℕ) (rows : List Row) : Type 0 where
  pub near_low : ℕ
  pub near_is : IsLow levels first near_low
  pub near : ReachesPage space first near_low rows
  pub far_low : ℕ
  pub far_is : IsLow levels (first + count) far_low
  pub far : ReachesPage space (first + count - 1) far_low rows

-- ---- for some call, and for each such call

module _ {B E : Type 0} where
  abbrev pub CanLinkNext : ℕ → ℕ → Kit → ℕ → PassView (List Cell) B E → List Row → Place → Type 0
  CanLinkNext count room kit next w rows' p = (a : BookData) × (b : BookData) × (thread : ℕ) × (c : Call) × (v : PassView (List Cell) B E) × (rows : List Row)
      × IsLinking count room a b thread c kit v rows × IsNext a b thread c kit next v rows w rows' p

  abbrev pub LinksOneMore : ℕ → ℕ → Kit → ℕ → PassView (List Cell) B E → List Row → Place → PassView (List Cell) B E → List Row → Type 0
  LinksOneMore count room kit next w rows' p z rows'' = (a b : BookData) (thread : ℕ) (c : Call) (v : PassView (List Cell) B E) (rows : List Row)
      → IsLinking count room a b thread c kit v rows → IsNext a b thread c kit next v rows w rows' p → LinkedSoFar a b thread c kit (next + 1) v rows z rows''

  abbrev pub CanLinkPage : ℕ → ℕ → Kit → ℕ → PassView (List Cell) B E → List Row → ℕ → ℕ → ℕ → Type 0
  CanLinkPage count room kit next w rows' space page low = (a : BookData) × (b : BookData) × (thread : ℕ) × (c : Call) × (v : PassView (List Cell) B E) × (rows : List Row)
      × IsLinking count room a b thread c kit v rows × LinkedSoFar a b thread c kit next v rows w rows' × MayLinkPage a b rows space page low

  abbrev pub LinksMore : ℕ → ℕ → Kit → ℕ → PassView (List Cell) B E → List Row → ℕ → ℕ → ℕ → ℕ → PassView (List Cell) B E → List Row → Type 0
  LinksMore count room kit next w rows' space page low done z rows'' = (a b : BookData) (thread : ℕ) (c : Call) (v : PassView (List Cell) B E) (rows : List Row)
      → IsLinking count room a b thread c kit v rows → LinkedSoFar a b thread c kit next v rows w rows' → MayLinkPage a b rows space page low → LinkedSoFar a b thread c kit done v rows z rows''

  abbrev pub CanLinkCut : ℕ → ℕ → Kit → ℕ → PassView (List Cell) B E → List Row → ℕ → ℕ → ℕ → Type 0
  CanLinkCut levels room kit next w rows' space first count = (a : BookData) × (b : BookData) × (thread : ℕ) × (c : Call) × (v : PassView (List Cell) B E) × (rows : List Row)
      × IsLinking levels room a b thread c kit v rows × LinkedSoFar a b thread c kit next v rows w rows' × MayLinkCut a b rows space first count

  abbrev pub LinksMoreCut : ℕ → ℕ → Kit → ℕ → PassView (List Cell) B E → List Row → ℕ → ℕ → ℕ → ℕ → PassView (List Cell) B E → List Row → Type 0
  LinksMoreCut levels room kit next w rows' space first count done z rows'' = (a b : BookData) (thread : ℕ) (c : Call) (v : PassView (List Cell) B E) (rows : List Row)
      → IsLinking levels room a b thread c kit v rows → LinkedSoFar a b thread c kit next v rows w rows' → MayLinkCut a b rows space first count → LinkedSoFar a b thread c kit done v rows z rows''
