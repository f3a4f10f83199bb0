-- What rows and the book hold, as the rule of the shared table sees it.
--     Region      the positions and the pages that one hold of the book may change
--     Covers, IsOutside, IsUntouched      one span lies in another;  a span has no page of a region;  a position at which a hold changes nothing
--     Meaning      what a plan says of its types
--     HasGrown      a journal with at most one entry more
--     IsLawful      the laws of a plan
use Rattle.std.specs.Prelude.{◌≡◌, ℕ, ◌≤◌, Bool, true, List, [], ◌∷◌, ◌++◌, ◌⊎◌}
use Rattle.table_place.specs.declared.Place.{Place}
use Rattle.table_place.specs.Place.{has_page}
use Rattle.walk_core.specs.declared.lists.PutRow.{PutRow}

-- holds: the positions whose rows the pass holds. has: the pages, by space and number
pub record Region : Type 1 where
  pub holds : Place → Type 0
  pub has : ℕ → ℕ → Type 0

-- the span of q lies in the span of p
abbrev pub Covers : Place → Place → Type 0
Covers p q = (space page : ℕ) → has_page q space page ≡ true → has_page p space page ≡ true

abbrev pub IsOutside : Region → Place → Type 0
IsOutside region p = (space page : ℕ) → has_page p space page ≡ true → ¬ region.has space page

-- a position that is not held, and whose span is outside the region or has the span of a held position in it
abbrev pub IsUntouched : Region → Place → Type 0
IsUntouched region p = ¬ region.holds p × (IsOutside region p ⊎ ((q : Place) × region.holds q × Covers p q))

-- journal, thread: the entries of a book, and the thread that an entry names
-- free, limbo, next_generation: the book's free rows, its rows in limbo, and the generation that no row has yet
-- agrees: what a row holds and its 512 entry words agree at a position with a book
-- is_blank: what a row holds while it is in no tree
-- may_follow: one hold of the book by a pass with this region may leave the second book in place of the first
-- same_fixed: two books have the same fixed part
-- shows_limbo: the newest entry shows how many rows are in limbo
pub record Meaning (R B E : Type 0) : Type 1 where
  pub journal : B → List E
  pub thread : E → ℕ
  pub free : B → List ℕ
  pub limbo : B → List PutRow
  pub next_generation : B → ℕ
  pub agrees : B → Place → List ℕ → R → Type 0
  pub is_blank : R → Type 0
  pub may_follow : Region → B → B → Type 0
  pub same_fixed : B → B → Type 0
  pub shows_limbo : B → Bool

abbrev pub HasGrown : {E : Type 0} → List E → List E → Type 0
HasGrown {E} old new = (new ≡ old) ⊎ ((entry : E) × (new ≡ old ++ entry ∷ []))

-- Where one book follows another in a region, no agreement is lost at an untouched position, the journal has grown by at most
-- one entry, the next generation has not fallen, and the fixed part is the same.
pub record IsLawful {R B E : Type 0} (M : Meaning R B E) : Type 1 where
  pub keeps_agreement : (region : Region) (a b : B) → M.may_follow region a b → (p : Place) → IsUntouched region p → (words : List ℕ) (row : R) → M.agrees a p words row → M.agrees b p words row
  pub grows : (region : Region) (a b : B) → M.may_follow region a b → HasGrown (M.journal a) (M.journal b)
  pub rises : (region : Region) (a b : B) → M.may_follow region a b → M.next_generation a ≤ M.next_generation b
  pub keeps_fixed : (region : Region) (a b : B) → M.may_follow region a b → M.same_fixed a b
  pub fixed_same : (a : B) → M.same_fixed a a
  pub fixed_back : (a b : B) → M.same_fixed a b → M.same_fixed b a
  pub fixed_on : (a b c : B) → M.same_fixed a b → M.same_fixed b c → M.same_fixed a c
