-- When a pass may release all rows of a list, and what it knows then.
--     HoldsExactly      a pass that holds the rows of these numbers holds those of the list, and no others
--     MayReleaseAll      each row of the list is one that the pass may release with its content there
--     Releases      a row of the list goes back
--     emptied      the pass once it holds no row
use Rattle.std.specs.Prelude.{◌≡◌, ℕ, List, [], map}
use Rattle.std.specs.List.{All}
use Rattle.row_table.specs.declared.view.PassView.{PassView}
use Rattle.row_table.specs.declared.view.HeldRow.{HeldRow as KnownRow}
use Rattle.row_table.specs.Plan.{Meaning}
use Rattle.row_table.specs.Rule.{SameRows, row_part}
use Rattle.row_table.specs.Moves.{released, NotInHand, Fits}
use Rattle.tree_lock.specs.declared.held.HeldRow.{HeldRow}
use Rattle.tree_lock.specs.Held.{row_numbers, IsRemoved}

module _ {R : Type 0} where
  -- and they are the rows of its view
  pub record HoldsExactly (xs : List (HeldRow R)) (numbers : List ℕ) (rows : List (KnownRow R)) : Type 0 where
    pub held : SameRows (row_numbers xs) numbers
    pub shown : map row_part rows ≡ numbers

module _ {R B E : Type 0} where
  abbrev pub MayReleaseAll : Meaning R B E → List (HeldRow R) → PassView R B E → Type 0
  MayReleaseAll M rows v = All (λ h. NotInHand v h.row × Fits M v h.row h.content) rows

  -- the row at this place of the list goes back
  pub record Releases (place : ℕ) (xs : List (HeldRow R)) (v : PassView R B E) (ys : List (HeldRow R)) (w : PassView R B E) : Type 0 where
    pub row : HeldRow R
    pub removed : IsRemoved place row xs ys
    pub now : w ≡ released v row.row

  abbrev pub emptied : PassView R B E → PassView R B E
  emptied v = record v { core = record v.core { held = [] }; rows = [] }
