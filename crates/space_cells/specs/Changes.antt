-- Changes of the pages of several ranges, one after the other.
--     made_cell      what an effect makes of the cell of a page that stands so many pages after the first one
--     cells_after, cells_after_all      the cells after a change;  after some in order
--     frees, releases      whether an effect takes frames and slots;  whether a change takes that of a page
--     released_in, all_released      the numbers that an effect releases, of those in its range;  those that changes release
--     any_releases      whether one of some changes takes the frame or slot of a page
--     left, released_by, released_of      the numbers that changes leave at the pages, and that a change and some changes release, of those at the pages
--     unless      a number, if it is not passed over
--     left_in, released_after      the numbers of a change's range that earlier ones leave there;  those of them that it releases
--     IsClearedOf      the pages whose frames and slots are taken are not held any more, and the others are as they were
use Rattle.std.specs.Prelude.{◌≡◌, ℕ, ◌-◌, Bool, true, false, cond, ◌&&◌, List, [], ◌∷◌, ◌++◌, Option, Some, None}
use Rattle.std.specs.Option.{option_map}
use Rattle.std.specs.List.{filter_map, fold, list_any, range_with_len}
use Rattle.table_place.specs.Range.{within}
use Rattle.page_map.specs.declared.cell.Cell.{Cell}
use Rattle.page_map.specs.Cell.{with_perm}
use Rattle.page_map.specs.Change.{change}
use Rattle.page_map.specs.Mapping.{backed}
use Rattle.page_map.specs.State.{AddressSpace}
use Rattle.page_runs.specs.declared.change.Change.{Change}
use Rattle.page_runs.specs.declared.change.Effect.{Effect}
use Rattle.page_runs.specs.declared.change.Effect.TheVariants.{Map, Unmap, Protect}
use Rattle.space_cells.specs.declared.held.Number.{Number}
use Rattle.space_cells.specs.Cells.{numbers_in}
use Rattle.space_cells.specs.Held.{HeldPages, held_at, number_held}

abbrev pub made_cell : Effect → ℕ → Option Cell → Option Cell
made_cell (Map mark) place old = Some (backed mark.backing mark.perm place)
made_cell Unmap place old = None
made_cell (Protect perm) place old = option_map (with_perm perm) old

abbrev pub cells_after : AddressSpace → Change → AddressSpace
cells_after cells c = change cells c.first c.count (λ page. made_cell c.effect (page - c.first))

-- each change on what the ones before it left
abbrev pub cells_after_all : AddressSpace → List Change → AddressSpace
cells_after_all cells changes = fold cells_after cells changes

abbrev pub frees : Effect → Bool
frees (Map mark) = true
frees Unmap = true
frees (Protect perm) = false

abbrev pub releases : Change → ℕ → Bool
releases c page = within c.first c.count page && frees c.effect

abbrev pub any_releases : List Change → ℕ → Bool
any_releases changes page = list_any (λ c. releases c page) changes

abbrev pub released_in : Effect → List Number → List Number
released_in effect numbers = cond (frees effect) numbers []

-- change by change, and of each in the order of the pages
abbrev pub all_released : AddressSpace → List Change → List Number
all_released cells [] = []
all_released cells (c ∷ cs) = released_in c.effect (numbers_in cells c.first c.count) ++ all_released (cells_after cells c) cs

abbrev pub left : (ℕ → Option Number) → List Change → ℕ → Option Number
left numbers changes page = cond (any_releases changes page) None (numbers page)

abbrev pub released_by : (ℕ → Option Number) → Change → List Number
released_by numbers c = released_in c.effect (filter_map numbers (range_with_len c.first c.count))

abbrev pub released_of : (ℕ → Option Number) → List Change → List Number
released_of numbers [] = []
released_of numbers (c ∷ cs) = released_by numbers c ++ released_of (left numbers (c ∷ [])) cs

abbrev pub unless : Bool → Number → List Number
unless is_passed_over number = cond is_passed_over [] (number ∷ [])

abbrev pub left_in : HeldPages → List Change → Change → List Number
left_in pages earlier c = filter_map (left (number_held pages) earlier) (range_with_len c.first c.count)

abbrev pub released_after : HeldPages → List Change → Change → List Number
released_after pages earlier c = released_by (left (number_held pages) earlier) c

abbrev pub IsClearedOf : (ℕ → Bool) → HeldPages → HeldPages → Type 0
IsClearedOf taken old new = (q : ℕ) → held_at new q ≡ cond (taken q) None (held_at old q)
