-- The table at the start.
--     start_words      the words at the start
--     row_slot, start_slots      the slots at the start
--     MayStart      what rows and book a table may start with
--     first_pass, other_passes      how the passes of a seat are cut in two
--     new_view      what a pass knows at the start
use Rattle.std.specs.Prelude.{◌≡◌, ℕ, ◌-◌, ◌<◌, ◌≤◌, List, [], ◌∷◌, ◌++◌, map, length, Some}
use Rattle.std.specs.List.{range_with_len}
use mathlib.Core.Option.{some}
use lib.ListN.{get_elem?}
use Rattle.walk_core.specs.Core.{boot}
use Rattle.row_layout.specs.declared.places.Layout.{Layout}
use Rattle.row_table.specs.declared.plan.Content.TheVariants.{Row, Book}
use Rattle.row_table.specs.declared.view.PassView.{PassView}
use Rattle.row_table.specs.Plan.{Meaning}
use Rattle.row_table.specs.Rows.{row_words, place_at}
use Rattle.row_table.specs.Rule.{Slot, SameRows}

-- those of the core at the start; `StartsTrue` says what they show of the first two rows
abbrev pub start_words : Layout → List ℕ
start_words k = (boot k.levels k.rows k.passes).words

abbrev pub row_slot : {R B : Type 0} → R → Slot R B
row_slot x = Some (Row x)

abbrev pub start_slots : {R B : Type 0} → List R → B → List (Slot R B)
start_slots rows book = map row_slot rows ++ Some (Book book) ∷ []

-- Rows 0 and 1 are linked and agree with the book, and all others are free and blank. The journal and the limbo are empty.
pub record MayStart {R B E : Type 0} (M : Meaning R B E) (k : Layout) (rows : List R) (book : B) : Type 0 where
  pub each_row : length rows ≡ k.rows
  pub linked : (r : ℕ) (x : R) → r < 2 → get_elem? rows r ≡ some x → M.agrees book (place_at (start_words k) r) (row_words (start_words k) r) x
  pub others : (r : ℕ) (x : R) → 2 ≤ r → get_elem? rows r ≡ some x → M.is_blank x
  pub journal : M.journal book ≡ []
  pub free : SameRows (range_with_len 2 (k.rows - 2)) (M.free book)
  pub limbo : M.limbo book ≡ []
  pub generation : 2 ≤ M.next_generation book

module _ {R B E : Type 0} where
  abbrev pub first_pass : List (PassView R B E) → List (PassView R B E)
  first_pass [] = []
  first_pass (v ∷ vs) = v ∷ []

  abbrev pub other_passes : List (PassView R B E) → List (PassView R B E)
  other_passes [] = []
  other_passes (v ∷ vs) = vs
