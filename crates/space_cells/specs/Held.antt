-- Pages that have frames or slots, by page.
--     held_at      the held page at a page
--     Sets, SetsBoth      what one page holds is set;  and then what another one holds
--     Alters      what one page holds changes
--     Clears      no page of a range is held any more
--     HoldNone, AreSameOutside      no page of a range is held;  all pages but those of a range hold what they held
--     IsFirstHeld      the first held page of a range, with its number
--     number_held, numbers_held      the number of the held page at a page;  the numbers of the held pages of a range, in the order of the pages
use Rattle.std.specs.Prelude.{◌≡◌, ◌≢◌, ℕ, ◌<◌, ◌≤◌, true, false, List, Option, Some, None}
use Rattle.std.specs.Option.{option_map}
use Rattle.std.specs.List.{filter_map, range_with_len}
use Rattle.std.specs.Ordering.{nat_cmp}
use Rattle.std.specs.BTreeMap.{BTreeMap}
use Rattle.std.specs.BTreeMap as tree
use Rattle.table_place.specs.Range.{within}
use Rattle.space_cells.specs.declared.held.Number.{Number}
use Rattle.space_cells.specs.declared.held.HeldPage.{HeldPage}

abbrev pub HeldPages : Type 0
HeldPages = BTreeMap ℕ HeldPage

abbrev pub held_at : HeldPages → ℕ → Option HeldPage
held_at pages page = tree.get nat_cmp pages page

-- what is held at one page is set, and each other page keeps what it holds
pub record Sets (old new : HeldPages) (page : ℕ) (held : Option HeldPage) : Type 0 where
  pub here : held_at new page ≡ held
  pub others : (q : ℕ) → q ≢ page → held_at new q ≡ held_at old q

-- the one and then the other
pub record SetsBoth (old new : HeldPages) (near far : ℕ × HeldPage) : Type 0 where
  pub between : HeldPages
  pub near_set : Sets old between near.0 (Some near.1)
  pub far_set : Sets between new far.0 (Some far.1)

abbrev pub Alters : HeldPages → HeldPages → ℕ → (HeldPage → HeldPage) → Type 0
Alters old new page f = Sets old new page (option_map f (held_at old page))

abbrev pub HoldNone : ℕ → ℕ → HeldPages → Type 0
HoldNone first count pages = (q : ℕ) → within first count q ≡ true → held_at pages q ≡ None

abbrev pub AreSameOutside : ℕ → ℕ → HeldPages → HeldPages → Type 0
AreSameOutside first count old new = (q : ℕ) → within first count q ≡ false → held_at new q ≡ held_at old q

pub record Clears (first end : ℕ) (old new : HeldPages) : Type 0 where
  pub below : (q : ℕ) → q < first → held_at new q ≡ held_at old q
  pub inside : (q : ℕ) → first ≤ q → q < end → held_at new q ≡ None
  pub above : (q : ℕ) → end ≤ q → held_at new q ≡ held_at old q

pub record IsFirstHeld (pages : HeldPages) (first end page : ℕ) (number : Number) : Type 0 where
  pub from : first ≤ page
  pub before : page < end
  pub there : option_map (λ held. held.number) (held_at pages page) ≡ Some number
  pub least : (q : ℕ) → first ≤ q → q < page → held_at pages q ≡ None

abbrev pub number_held : HeldPages → ℕ → Option Number
number_held pages page = option_map (λ held. held.number) (held_at pages page)

abbrev pub numbers_held : HeldPages → ℕ → ℕ → List Number
numbers_held pages first count = filter_map (number_held pages) (range_with_len first count)
