-- What set up and open row make of what a pass knows, what they ask and tell.
--     placed, numbered, prepared      the pass after it set up a position, a generation, and both
--     opened      the pass after it opened a row
--     MaySetUp, PlaceTells, NumberTells      when a pass may set up a row, and what its two steps tell
--     MayOpen, KeepsOpen      when a pass may open a row, and a step after which it may open each other row that it could open
--     IsSetUp, OpenSays, OpenTells, Opens      the row of the hand and the position that it was set up with, and what an opening tells and answers
use Rattle.std.specs.Prelude.{◌≡◌, ◌≢◌, ℕ, ◌<◌, ◌≤◌, cond, true, false, [], ◌∷◌, ◌++◌, map, nat_eq, None, Some}
use Rattle.std.specs.List.{Contains}
use Rattle.atomic_table.specs.Table.{Step}
use Rattle.table_place.specs.declared.Place.{Place}
use Rattle.table_place.specs.Place.{is_place}
use Rattle.walk_core.specs.declared.event.SetPart.TheVariants.{Position, Generation}
use Rattle.walk_core.specs.Words.{lock_at, position_at, generation_at, place_shown}
use Rattle.walk_core.specs.Lists.{times}
use Rattle.walk_core.specs.Core.{granted_at, set_up}
use Rattle.walk_core.specs.Events.{granted_after_part}
use Rattle.row_table.specs.declared.plan.Content.TheVariants.{Row}
use Rattle.row_table.specs.declared.view.PassView.{PassView}
use Rattle.row_table.specs.declared.view.HeldRow.{HeldRow}
use Rattle.row_table.specs.declared.view.HandRow.{HandRow}
use Rattle.row_table.specs.Plan.{Meaning}
use Rattle.row_table.specs.Vacant.{blank_words}
use Rattle.row_table.specs.Rule.{Slot, Seat, view}

-- Set up

abbrev pub with_place : ℕ → Place → HandRow → HandRow
with_place row place x = cond (nat_eq x.row row) (record x { place = Some place }) x

abbrev pub with_number : ℕ → ℕ → HandRow → HandRow
with_number row generation x = cond (nat_eq x.row row) (record x { generation = generation }) x

-- a row that was opened: no grab found anything in it
abbrev pub opened_row : {R : Type 0} → ℕ → Place → ℕ → HeldRow R
opened_row row place generation = record { row = row; place = place; generation = generation; words = blank_words; words_found = blank_words; found = None; is_given = false; vacant = [] }

module _ {R B E : Type 0} where
  abbrev pub placed : PassView R B E → ℕ → Place → PassView R B E
  placed v row place = record v { core = record v.core { granted = granted_after_part row (Position place) v.core.granted }; hand = map (with_place row place) v.hand }

  abbrev pub numbered : PassView R B E → ℕ → ℕ → PassView R B E
  numbered v row generation = record v { core = record v.core { granted = granted_after_part row (Generation generation) v.core.granted }; hand = map (with_number row generation) v.hand }

  abbrev pub prepared : PassView R B E → ℕ → Place → ℕ → PassView R B E
  prepared v row place generation = numbered (placed v row place) row generation

  -- The row is in the hand and is not open. The generation is greater than that of the row, at least the next one of the turn in which it was granted, and below the next one of that give.
  pub record MaySetUp (v : PassView R B E) (row : ℕ) (place : Place) (generation : ℕ) : Type 0 where
    pub known : HandRow
    pub in_hand : Contains v.hand known
    pub same_row : known.row ≡ row
    pub closed : times row v.core.held ≡ 0
    pub is_place : is_place v.layout.levels place ≡ true
    pub above : known.generation < generation
    pub low : known.low ≤ generation
    pub high : generation < known.high

  abbrev pub PlaceTells : Step (Slot R B) → Seat R B E → ℕ → Seat R B E → Type 0
  PlaceTells st m n m' = (row : ℕ) → st.word ≡ position_at row → m' ≡ (placed (view m) row (place_shown st.first) ∷ [], m.1)

  abbrev pub NumberTells : Step (Slot R B) → Seat R B E → ℕ → Seat R B E → Type 0
  NumberTells st m n m' = (row : ℕ) → st.word ≡ generation_at row → m' ≡ (numbered (view m) row st.first ∷ [], m.1)

  -- Open row

  abbrev pub opened : PassView R B E → ℕ → Place → ℕ → PassView R B E
  opened v row place generation = record v { core = record v.core { held = v.core.held ++ row ∷ [] }; rows = v.rows ++ opened_row row place generation ∷ [] }

  -- the row was granted and is not open, and both words were set up since
  pub record MayOpen (v : PassView R B E) (row : ℕ) : Type 0 where
    pub both_set : granted_at v.core row ≡ set_up row
    pub closed : times row v.core.held ≡ 0

  -- each other row that could be opened still can
  abbrev pub KeepsOpen : ℕ → PassView R B E → PassView R B E → Type 0
  KeepsOpen row v w = (r : ℕ) → r ≢ row → MayOpen v r → MayOpen w r

  -- the only row of the hand with this number, and the position with which it was set up
  pub record IsSetUp (v : PassView R B E) (row : ℕ) : Type 0 where
    pub known : HandRow
    pub in_hand : Contains v.hand known
    pub same_row : known.row ≡ row
    pub only : (x : HandRow) → Contains v.hand x → x.row ≡ row → x ≡ known
    pub place : Place
    pub is_set : known.place ≡ Some place

  module _ (M : Meaning R B E) where
    abbrev pub OpenSays : Seat R B E → Seat R B E → ℕ → Type 0
    OpenSays m m' row = (at : IsSetUp (view m) row) × (x : R) × M.is_blank x × (m' ≡ (opened (view m) row at.place at.known.generation ∷ [], (row, Some (Row x)) ∷ m.1))

    abbrev pub OpenTells : Step (Slot R B) → Seat R B E → ℕ → Seat R B E → Type 0
    OpenTells st m n m' = (row : ℕ) → st.word ≡ lock_at row → OpenSays m m' row

    abbrev pub Opens : ℕ → PassView R B E → R → PassView R B E → Type 0
    Opens row v x w = (at : IsSetUp v row) × M.is_blank x × (w ≡ opened v row at.place at.known.generation)
