-- A call that gives a range another length: the pages that it changes, and the tables that these cut.
--     IsRemapIn      such a call of a space
--     StaysIn      one whose range stays where it is, and the list has the directory
--     RemapsIn      such a call whose range stays or moves
--     goes_elsewhere      whether a change puts a range elsewhere
--     new_place      where the range of a change begins afterwards
--     pages_of, changed_at, changed_pages      so many pages;  those that a range leaves, or gets where it stands;  those of a change
--     pages_at      those of a piece of a range that begins at this page
--     HasEnds      the ends of a range are numbers of 64 bits
--     MayLinkPages, ReachesPages      the tables that pages cut may be linked, and are there
--     CanLinkPages, LinksMorePages      for some call, and for each such call
use Rattle.std.specs.Prelude.{◌≡◌, ℕ, ◌+◌, ◌-◌, ◌^◌, ◌<◌, ◌≤◌, Bool, false, not, cond, nat_eq, nat_lt, List}
use Rattle.corten_base.specs.declared.calls.Call.{Call}
use Rattle.corten_base.specs.declared.calls.Call.TheVariants as call
use Rattle.page_map.specs.Remap.{moves, resize_of}
use Rattle.page_map.specs.State.{levels, space_at}
use Rattle.row_cells.specs.declared.Cell.{Cell}
use Rattle.row_table.specs.declared.view.PassView.{PassView}
use Rattle.table_place.specs.Place.{directory}
use Rattle.machine_plan.specs.declared.kit.Change.{Change}
use Rattle.machine_plan.specs.declared.kit.Change.TheVariants.{Op, Reset, Move, GiveUp, Spawn, Fork, Exit}
use Rattle.machine_plan.specs.declared.kit.Kit.{Kit}
use Rattle.machine_plan.specs.declared.kit.Piece.{Piece}
use Rattle.machine_plan.specs.Books.{BookData, state_of}
use Rattle.machine_plan.specs.Held.{ListHolds}
use Rattle.machine_plan.specs.HeldRows.{Row}
use Rattle.move_apply.specs.declared.relinking.Pages.{Pages}
use Rattle.cursor_apply.specs.Linking.{IsLinking, LinkedSoFar, MayLinkCut, ReachesCut}

pub record IsRemapIn (space : ℕ) (c : Call) : Type 0 where
  pub at : ℕ
  pub old_len : ℕ
  pub new_len : ℕ
  pub is : c ≡ call.Remap space at old_len new_len

pub record StaysIn (a : BookData) (space : ℕ) (c : Call) (rows : List Row) : Type 0 where
  pub remap : IsRemapIn space c
  pub top : ListHolds rows directory
  pub stays : moves (levels (state_of a)) (space_at (state_of a) space) (resize_of remap.at remap.old_len remap.new_len) ≡ false

pub record RemapsIn (space : ℕ) (c : Call) (rows : List Row) : Type 0 where
  pub remap : IsRemapIn space c
  pub top : ListHolds rows directory

abbrev pub goes_elsewhere : Change → Bool
goes_elsewhere (Move first old to new) = not (nat_eq to first)
goes_elsewhere (Op o) = false
goes_elsewhere (Reset first count) = false
goes_elsewhere (GiveUp first count) = false
goes_elsewhere (Spawn space) = false
goes_elsewhere (Fork space) = false
goes_elsewhere Exit = false

abbrev pub new_place : Change → ℕ
new_place (Move first old to new) = to
new_place (Op o) = 0
new_place (Reset first count) = 0
new_place (GiveUp first count) = 0
new_place (Spawn space) = 0
new_place (Fork space) = 0
new_place Exit = 0

abbrev pub pages_of : ℕ → ℕ → Pages
pages_of first count = record { first = first; count = count }

abbrev pub changed_at : ℕ → ℕ → ℕ → ℕ → Pages
changed_at first old to new = cond (nat_eq to first) (cond (nat_lt old new) (pages_of (first + old) (new - old)) (pages_of (first + new) (old - new))) (pages_of first old)

abbrev pub changed_pages : Change → Pages
changed_pages (Move first old to new) = changed_at first old to new
changed_pages (Op o) = pages_of 0 0
changed_pages (Reset first count) = pages_of 0 0
changed_pages (GiveUp first count) = pages_of 0 0
changed_pages (Spawn space) = pages_of 0 0
changed_pages (Fork space) = pages_of 0 0
changed_pages Exit = pages_of 0 0

abbrev pub pages_at : ℕ → Piece → Pages
pages_at to p = pages_of (to + p.first) p.count

abbrev pub HasEnds : Change → Type 0
HasEnds (Move first old to new) = (first + old < 2 ^ 64) × (first + new < 2 ^ 64)
HasEnds (Op o) = Unit {0}
HasEnds (Reset first count) = Unit {0}
HasEnds (GiveUp first count) = Unit {0}
HasEnds (Spawn space) = Unit {0}
HasEnds (Fork space) = Unit {0}
HasEnds Exit = Unit {0}

abbrev pub MayLinkPages : BookData → BookData → List Row → ℕ → Pages → Type 0
MayLinkPages a b rows space p = (1 ≤ p.count → MayLinkCut a b rows space p.first p.count) × (p.first + p.count < 2 ^ 64)

abbrev pub ReachesPages : ℕ → ℕ → Pages → List Row → Type 0
ReachesPages levels space p rows = 1 ≤ p.count → ReachesCut levels space p.first p.count rows

module _ {B E : Type 0} where
  abbrev pub CanLinkPages : ℕ → ℕ → Kit → ℕ → PassView (List Cell) B E → List Row → ℕ → Pages → Type 0
  CanLinkPages levels room kit next w rows' space p = (a : BookData) × (b : BookData) × (thread : ℕ) × (c : Call) × (v : PassView (List Cell) B E) × (rows : List Row)
      × IsLinking levels room a b thread c kit v rows × LinkedSoFar a b thread c kit next v rows w rows' × MayLinkPages a b rows space p

  abbrev pub LinksMorePages : ℕ → ℕ → Kit → ℕ → PassView (List Cell) B E → List Row → ℕ → Pages → ℕ → PassView (List Cell) B E → List Row → Type 0
  LinksMorePages levels room kit next w rows' space p done z rows'' = (a b : BookData) (thread : ℕ) (c : Call) (v : PassView (List Cell) B E) (rows : List Row)
      → IsLinking levels room a b thread c kit v rows → LinkedSoFar a b thread c kit next v rows w rows' → MayLinkPages a b rows space p → LinkedSoFar a b thread c kit done v rows z rows''
