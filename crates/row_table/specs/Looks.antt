-- What a look makes of what a pass knows, and what it tells.
--     looked_at      the pass after it read an entry
--     Reads      what is known of the entry that was read
--     LookSays, LookTells      what the step tells its seat
--     MayLook, Looks      when a pass may look, and what it answers
use Rattle.std.specs.Prelude.{◌≡◌, ◌≢◌, ℕ, ◌<◌, ◌⊎◌, true, [], ◌∷◌, ◌++◌, slice_index, Some}
use Rattle.std.specs.List.{Contains}
use Rattle.atomic_table.specs.Table.{Step}
use Rattle.table_place.specs.declared.Place.{Place}
use Rattle.table_place.specs.Place.{entry_place, is_place}
use Rattle.walk_core.specs.Words.{entry_at, is_link, link_row}
use Rattle.walk_core.specs.Lists.{Has}
use Rattle.walk_core.specs.Events.{stand_after_look}
use Rattle.walk_core.specs.Guards.{StandsOn}
use Rattle.row_table.specs.declared.view.PassView.{PassView}
use Rattle.row_table.specs.declared.view.HeldRow.{HeldRow}
use Rattle.row_table.specs.Rule.{Slot, Seat, view}
use Rattle.row_table.specs.Known.{IsRight, IsKnownPlace, IsKnownGeneration}
use Rattle.row_table.specs.Moves.{finding}

module _ {R B E : Type 0} where
  -- where the word is a link of the row on which the pass stands, it stands on the linked row
  abbrev pub looked_at : PassView R B E → ℕ → Place → ℕ → ℕ → PassView R B E
  looked_at v row place index n = record v {
    core = record v.core { stand = stand_after_look v.layout.levels row index n v.core.stand };
    findings = v.findings ++ finding row place (Some index) n ∷ [];
  }

  -- the row's position and generation are known, the word of a held row is the known one, and a row that the word links is there, is not row 0 and is at the position of a table
  pub record Reads (v : PassView R B E) (row index n : ℕ) : Type 0 where
    pub right : IsRight v
    pub place : Place
    pub known : IsKnownPlace v row place
    pub generation : ℕ
    pub known_generation : IsKnownGeneration v row generation
    pub holds : (h : HeldRow R) → Contains v.rows h → h.row ≡ row → n ≡ slice_index h.words index
    pub below : is_link n ≡ true → link_row n < v.layout.rows
    pub down : is_link n ≡ true → link_row n ≢ 0
    pub leads : is_link n ≡ true → is_place v.layout.levels (entry_place v.layout.levels place index) ≡ true

  abbrev pub LookSays : Seat R B E → ℕ → Seat R B E → ℕ → ℕ → Type 0
  LookSays m n m' row index = (reads : Reads (view m) row index n) × (m' ≡ (looked_at (view m) row reads.place index n ∷ [], m.1))

  abbrev pub LookTells : Step (Slot R B) → Seat R B E → ℕ → Seat R B E → Type 0
  LookTells st m n m' = (row index : ℕ) → index < 512 → st.word ≡ entry_at row index → LookSays m n m' row index

  abbrev pub MayLook : PassView R B E → ℕ → Type 0
  MayLook v row = StandsOn v.core row ⊎ Has v.core.held row

  abbrev pub Looks : ℕ → ℕ → PassView R B E → ℕ → PassView R B E → Type 0
  Looks row index v n w = (reads : Reads v row index n) × (w ≡ looked_at v row reads.place index n)
