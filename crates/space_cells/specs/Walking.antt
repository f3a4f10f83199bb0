-- Pages that have frames or slots, gone over in their order.
--     numbers_of      pages with their numbers, of held pages
--     IsWalk      the pages from a page on that have frames or slots, with their numbers
use Rattle.std.specs.Prelude.{◌≡◌, ℕ, ◌<◌, ◌≤◌, List, [], ◌∷◌, None}
use Rattle.std.specs.List.Sorted.{IsStrictlySortedBy}
use Rattle.std.specs.Map.{keys_of, lookup}
use Rattle.std.specs.BTreeMap.{is_at}
use Rattle.std.specs.Ordering.{nat_cmp}
use Rattle.page_map.specs.State.{AddressSpace}
use Rattle.space_cells.specs.declared.held.Number.{Number}
use Rattle.space_cells.specs.declared.held.HeldPage.{HeldPage}
use Rattle.space_cells.specs.Cells.{number_at}

abbrev pub numbers_of : List (ℕ × HeldPage) → List (ℕ × Number)
numbers_of [] = []
numbers_of (e ∷ es) = (e.0, e.1.number) ∷ numbers_of es

pub record IsWalk (cells : AddressSpace) (next : ℕ) (rest : List (ℕ × Number)) : Type 0 where
  pub ordered : IsStrictlySortedBy nat_cmp (keys_of rest)
  pub low : (q : ℕ) → q < next → lookup (is_at (nat_cmp q)) rest ≡ None
  pub same : (q : ℕ) → next ≤ q → lookup (is_at (nat_cmp q)) rest ≡ number_at cells q
