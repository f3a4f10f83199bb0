-- Changes of whole ranges of pages. What such a change lacks are the missing ones of the tables that its ranges cut.
--     Changes      a change of one range: a mapping operation, on the pages from the first that it changes to the last
--     IsMove      pages of one range that go to another
--     IsPiece, ArePieces      a part of a range whose pages go on from one another;  all of a range, one behind another
use Rattle.std.specs.Prelude.{◌≡◌, ℕ, ◌+◌, ◌-◌, ◌<◌, ◌≤◌, ◌⊎◌, true, false, List, [], ◌∷◌, None}
use Rattle.std.specs.FinMap.{get}
use Rattle.table_place.specs.Range.{within, lies_in}
use Rattle.page_map.specs.Cell.{AddressSpace}
use Rattle.page_map.specs.Alike.{continues, is_alike}

-- Only pages of the range change, the first and the last of them do, and what was alike in it stays alike.
pub record Changes (old new : AddressSpace) (first count : ℕ) : Type 0 where
  pub some : 1 ≤ count
  pub out : (q : ℕ) → within first count q ≡ false → get new q ≡ get old q
  pub alike : (low n : ℕ) → lies_in low n first count ≡ true → is_alike old low n ≡ true → is_alike new low n ≡ true
  pub starts : get new first ≡ get old first → ⊥
  pub stops : get new (first + count - 1) ≡ get old (first + count - 1) → ⊥

-- The pages of one range become Invalid, and those of another, which were, are filled.
pub record IsMove (old new : AddressSpace) (from n to m : ℕ) : Type 0 where
  pub some : 1 ≤ n
  pub stood : (q : ℕ) → within from n q ≡ true → get old q ≡ None → ⊥
  pub left : (q : ℕ) → within from n q ≡ true → get new q ≡ None
  pub free : (q : ℕ) → within to m q ≡ true → get old q ≡ None
  pub filled : (q : ℕ) → within to m q ≡ true → get new q ≡ None → ⊥
  pub out : (q : ℕ) → within from n q ≡ false → within to m q ≡ false → get new q ≡ get old q

module _ {A : Type 0} (first_of count_of : A → ℕ) (cells : AddressSpace) where
  -- A piece of a range that ends at `end`: pages that go on from its first one, or a page alone, and what stands behind it does
  -- not go on from its last.
  pub record IsPiece (at end : ℕ) (r : A) : Type 0 where
    pub here : first_of r ≡ at
    pub some : 1 ≤ count_of r
    pub fits : at + count_of r ≤ end
    pub whole : (is_alike cells at (count_of r) ≡ true) ⊎ (count_of r ≡ 1)
    pub parts : at + count_of r < end → continues (get cells (at + count_of r - 1)) 1 (get cells (at + count_of r)) ≡ false

  -- the pieces of a range, one behind another
  abbrev pub ArePieces : ℕ → ℕ → List A → Type 0
  ArePieces at end [] = at ≡ end
  ArePieces at end (r ∷ rs) = IsPiece at end r × ArePieces (at + count_of r) end rs
