-- The rule of the shared table: between any two steps its words, the values at home and the views stand for a good core.
--     Slot, Homes, Seat, Table      a slot, what stands at home, what one seat knows and has, and the table
--     StartsWith, own_places      a journal begins with what was seen;  the places of one thread's entries in a journal
--     unmoved, boot_views      a pass that has done nothing, and the passes at the start
--     view, IsOne      what the one pass of a seat knows
--     core_of      the core for which the table stands
--     SameRows      two lists with the same rows
--     row_part, hand_part, hand_state, granted_state      the row of a held row and of one of the hand, and with it whether its position is set up
--     Contents      what stands at home
--     Agrees      what is known of how a held row agrees with the book
--     IsHeldRow, IsHandRow, Knows      what is true of a row that a pass holds, of one that it was granted, and of all that a pass knows
--     Seats, Holds      no two seats have one pass;  the rule
use Rattle.std.specs.Prelude.{◌≡◌, ℕ, ◌+◌, ◌<◌, ◌≤◌, ◌==◌, cond, Bool, true, false, List, [], ◌∷◌, ◌++◌, map, length, slice_index, slice_index_or, Option, None, Some, is_some}
use Rattle.std.specs.List.{Contains}
use Prim.Native.Nat.{zero, suc}
use mathlib.Core.Option.{some}
use mathlib.Core.Option as maybe
use lib.ListN.{get_elem?}
use Rattle.atomic_table.specs.Table.{State, Me}
use Rattle.table_place.specs.declared.Place.{Place}
use Rattle.walk_core.specs.declared.pass.PassCore.{PassCore}
use Rattle.walk_core.specs.declared.pass.GrantedRow.{GrantedRow}
use Rattle.walk_core.specs.Words.{epoch_at, book_at, stale}
use Rattle.walk_core.specs.Lists.{times}
use Rattle.walk_core.specs.Core.{Core, idle, times_in_hand}
use Rattle.walk_core.specs.Good.{Good}
use Rattle.row_layout.specs.declared.places.Layout.{Layout}
use Rattle.row_table.specs.declared.plan.Content.{Content}
use Rattle.row_table.specs.declared.plan.Content.TheVariants.{Row, Book}
use Rattle.row_table.specs.declared.view.PassView.{PassView}
use Rattle.row_table.specs.declared.view.HeldRow.{HeldRow}
use Rattle.row_table.specs.declared.view.HandRow.{HandRow}
use Rattle.row_table.specs.Plan.{Meaning}
use Rattle.row_table.specs.Vacant.{KeepsVacant}
use Rattle.row_table.specs.Rows.{row_words, place_at, lock_of, generation_of}

abbrev pub Slot : Type 0 → Type 0 → Type 0
Slot R B = Option (Content R B)

abbrev pub Homes : Type 0 → Type 0 → Type 0
Homes R B = List (maybe.Option (Slot R B))

abbrev pub Seat : Type 0 → Type 0 → Type 0 → Type 0
Seat R B E = Me (Slot R B) (List (PassView R B E))

abbrev pub Table : Type 0 → Type 0 → Type 0 → Type 0
Table R B E = State (Slot R B) (List (PassView R B E))

abbrev pub no_layout : Layout
no_layout = record { rows = 0; passes = 0; levels = 0 }

abbrev pub StartsWith : {E : Type 0} → List E → List E → Type 0
StartsWith {E} journal seen = (more : List E) × (journal ≡ seen ++ more)

-- the places, from this one on, of the entries of which the test is true
abbrev pub places_from : {E : Type 0} → (E → Bool) → ℕ → List E → List ℕ
places_from own i [] = []
places_from own i (e ∷ es) = cond (own e) (i ∷ places_from own (i + 1) es) (places_from own (i + 1) es)

abbrev pub SameRows : List ℕ → List ℕ → Type 0
SameRows xs ys = (r : ℕ) → times r xs ≡ times r ys

abbrev pub row_part : {R : Type 0} → HeldRow R → ℕ
row_part h = h.row

abbrev pub hand_part : HandRow → ℕ
hand_part x = x.row

-- a row, and whether its position was set up since its give
abbrev pub hand_state : HandRow → ℕ × Bool
hand_state x = (x.row, is_some x.place)

abbrev pub granted_state : GrantedRow → ℕ × Bool
granted_state g = (g.row, g.has_position)

module _ {R B E : Type 0} where
  -- a pass that has done nothing, where the book at the start is known or not
  abbrev pub unmoved : Layout → Option B → ℕ → PassView R B E
  unmoved k origin p = record { number = p; layout = k; core = idle; epoch = 0; rows = []; hand = []; found = None; last = None; origin = origin; seen = []; mine = []; turn = None; findings = [] }

  abbrev pub view : Seat R B E → PassView R B E
  view m = slice_index_or m.0 0 (unmoved no_layout None 0)

  abbrev pub IsOne : ℕ → Seat R B E → Type 0
  IsOne n m = (m.0 ≡ view m ∷ []) × ((view m).number ≡ n)

  -- the passes at the start, from this one on
  abbrev pub boot_from : Layout → Option B → ℕ → ℕ → List (PassView R B E)
  boot_from k origin p zero = []
  boot_from k origin p (suc n) = unmoved k origin p ∷ boot_from k origin (p + 1) n

  abbrev pub boot_views : Layout → B → List (PassView R B E)
  boot_views k origin = boot_from k (Some origin) 0 k.passes

  abbrev pub core_part : PassView R B E → PassCore
  core_part v = v.core

  -- the place i of the seat j has a pass of which no other seat knows
  abbrev pub Seats : List (List (PassView R B E)) → List (PassView R B E) → (ℕ → ℕ × ℕ) → Type 0
  Seats views passes owner = (j : ℕ) (vs : List (PassView R B E)) → get_elem? views j ≡ some vs → (i : ℕ) (v : PassView R B E) → get_elem? vs i ≡ some v
      → (get_elem? passes v.number ≡ some v) × (owner v.number ≡ (j, i))

  module _ (M : Meaning R B E) where
    abbrev pub own_places : ℕ → List E → List ℕ
    own_places p journal = places_from (λ e. M.thread e == p) 0 journal

    abbrev pub core_of : Layout → List ℕ → List (PassView R B E) → List ℕ → B → Core
    core_of k words passes free book = record { levels = k.levels; rows = k.rows; count = k.passes; words = words; passes = map core_part passes; free = free; limbo = M.limbo book }

    -- a row that nobody holds is at home and agrees with the book, a row that nobody may take is at home and blank, and so is the book while no pass has it
    pub record Contents (k : Layout) (words : List ℕ) (book : B) (homes : Homes R B) : Type 0 where
      pub linked : (r : ℕ) → r < k.rows → lock_of words r ≡ 0 → (x : R) × (get_elem? homes r ≡ some (some (Some (Row x)))) × M.agrees book (place_at words r) (row_words words r) x
      pub others : (r : ℕ) → r < k.rows → lock_of words r ≡ stale → (x : R) × (get_elem? homes r ≡ some (some (Some (Row x)))) × M.is_blank x
      pub book_home : slice_index words (book_at k.rows k.passes) ≡ 0 → get_elem? homes k.rows ≡ some (some (Some (Book book)))

    -- While the pass has given no book since the grab, what the grab found agrees with the book. Afterwards whatever agrees with the book that the pass gave last agrees with the book.
    pub record Agrees (book : B) (last : Option B) (h : HeldRow R) : Type 0 where
      pub found : h.is_given ≡ false → (x : R) → h.found ≡ Some x → M.agrees book h.place h.words_found x
      pub given : h.is_given ≡ true → (a : B) → last ≡ Some a → (words : List ℕ) (x : R) → M.agrees a h.place words x → M.agrees book h.place words x

    -- a row of the pass's hand is not linked, and agrees with nothing yet
    pub record IsHeldRow (k : Layout) (words : List ℕ) (book : B) (v : PassView R B E) (h : HeldRow R) : Type 0 where
      pub there : h.row < k.rows
      pub shown : row_words words h.row ≡ h.words
      pub place : place_at words h.row ≡ h.place
      pub generation : generation_of words h.row ≡ h.generation
      pub agrees : times_in_hand h.row v.core ≡ 0 → Agrees book v.last h

    -- a row that the pass was granted
    pub record IsHandRow (k : Layout) (words : List ℕ) (book : B) (x : HandRow) : Type 0 where
      pub there : x.row < k.rows
      pub shown : generation_of words x.row ≡ x.generation
      pub below : x.generation < x.high
      pub fresh : x.high ≤ M.next_generation book

    pub record Knows (k : Layout) (first : B) (words : List ℕ) (book : B) (v : PassView R B E) : Type 0 where
      pub there : v.number < k.passes
      pub layout : v.layout ≡ k
      pub epoch : slice_index words (epoch_at k.rows v.number) ≡ v.epoch
      pub held : map row_part v.rows ≡ v.core.held
      pub rows : (h : HeldRow R) → Contains v.rows h → IsHeldRow k words book v h
      pub granted : map hand_state v.hand ≡ map granted_state v.core.granted
      pub hand : (x : HandRow) → Contains v.hand x → IsHandRow k words book x
      pub vacant : (h : HeldRow R) → Contains v.rows h → times_in_hand h.row v.core ≡ 0 → KeepsVacant M k.levels book v.last h
      pub placed : (x : HandRow) → Contains v.hand x → (p : Place) → x.place ≡ Some p → place_at words x.row ≡ p
      pub found : v.core.has_book ≡ true → v.found ≡ Some book
      pub origin : v.origin ≡ Some first
      pub seen : StartsWith (M.journal book) v.seen
      pub mine : v.mine ≡ own_places v.number (M.journal book)

    pub record Holds (k : Layout) (first : B) (s : Table R B E) : Type 0 where
      pub passes : List (PassView R B E)
      pub owner : ℕ → ℕ × ℕ
      -- the book, wherever it is, and its free rows in some order
      pub book : B
      pub free : List ℕ
      pub same_free : SameRows free (M.free book)
      pub slots : length s.homes ≡ k.rows + 1
      pub seats : Seats s.views passes owner
      pub numbers : (p : ℕ) (v : PassView R B E) → get_elem? passes p ≡ some v → v.number ≡ p
      pub good : Good (core_of k s.words passes free book)
      pub contents : Contents k s.words book s.homes
      pub generations : (r : ℕ) → r < k.rows → generation_of s.words r < M.next_generation book
      pub fixed : M.same_fixed first book
      pub knows : (p : ℕ) (v : PassView R B E) → get_elem? passes p ≡ some v → Knows k first s.words book v
