-- What each kind of step makes of what a pass knows, and what it tells.
--     finding, got, looked      a word that was found;  the pass after a grab that took the row, and after one that did not
--     released      the pass after a release
--     Finds, Misses      what a grab that took the row found, and one that did not
--     GrabSays, GrabTells, ReleaseTells      what a step tells its seat
--     NotInHand, MayGrab      a row is not in the pass's hand;  when a pass may grab
--     Fits, MayRelease      a content that may stand in a row;  when a pass may release
use Rattle.std.specs.Prelude.{◌≡◌, ◌≢◌, ℕ, ◌<◌, ◌≤◌, not, true, false, ◌⊎◌, List, [], ◌∷◌, ◌++◌, nat_eq, Option, None, Some, length}
use Rattle.std.specs.List.{Contains, filter}
use Rattle.atomic_table.specs.Table.{Step, rest}
use Rattle.table_place.specs.declared.Place.{Place}
use Rattle.walk_core.specs.Words.{lock_at, held_by, stale}
use Rattle.walk_core.specs.Lists.{Has, without}
use Rattle.walk_core.specs.Core.{times_in_hand}
use Rattle.walk_core.specs.Guards.{StandsOn}
use Rattle.row_table.specs.declared.plan.Content.TheVariants.{Row}
use Rattle.row_table.specs.declared.view.PassView.{PassView}
use Rattle.row_table.specs.declared.view.HeldRow.{HeldRow}
use Rattle.row_table.specs.declared.view.Finding.{Finding}
use Rattle.row_table.specs.Plan.{Meaning}
use Rattle.row_table.specs.Rule.{Slot, Seat, view}
use Rattle.row_table.specs.Known.{LinksRow, IsKnownPlace, IsKnownGeneration, IsHolder, IsLoose, LinksBelow, LinksLead, LinksDown, IsPlaced, IsRight}

abbrev pub finding : ℕ → Place → Option ℕ → ℕ → Finding
finding row place index word = record { row = row; place = place; index = index; word = word }

abbrev pub grabbed : {R : Type 0} → ℕ → Place → ℕ → List ℕ → R → HeldRow R
grabbed row place generation words found = record { row = row; place = place; generation = generation; words = words; words_found = words; found = Some found; is_given = false; vacant = [] }

module _ {R B E : Type 0} where
  abbrev pub looked : PassView R B E → ℕ → Place → Option ℕ → ℕ → PassView R B E
  looked v row place index word = record v { findings = v.findings ++ finding row place index word ∷ [] }

  abbrev pub got : PassView R B E → ℕ → Place → ℕ → List ℕ → R → PassView R B E
  got v row place generation words found = record v {
    core = record v.core { held = v.core.held ++ row ∷ [] };
    rows = v.rows ++ grabbed row place generation words found ∷ [];
    findings = v.findings ++ finding row place None 0 ∷ [];
  }

  abbrev pub released : PassView R B E → ℕ → PassView R B E
  released v row = record v { core = record v.core { held = without row v.core.held }; rows = filter (λ h. not (nat_eq h.row row)) v.rows }

  abbrev pub NotInHand : PassView R B E → ℕ → Type 0
  NotInHand v row = times_in_hand row v.core ≡ 0

  -- what a grab that took the row found: its position, its generation, its 512 entry words and its content. The row is linked, so it is row 0 at the directory or another one at the position of a table, and the pass did not hold it
  pub record Finds (row : ℕ) (v : PassView R B E) : Type 0 where
    pub right : IsRight v
    pub there : row < v.layout.rows
    pub place : Place
    pub known : IsKnownPlace v row place
    pub generation : ℕ
    pub known_generation : IsKnownGeneration v row generation
    pub words : List ℕ
    pub all : length words ≡ 512
    pub below : LinksBelow v.layout.rows words
    pub placed : IsPlaced v.layout.levels row place
    pub down : LinksDown words
    pub leads : LinksLead v.layout.levels place words
    pub content : R
    pub linked : NotInHand v row
    pub once : ¬ Has v.core.held row

  -- what a grab that found n and did not take the row tells of it
  pub record Misses (row : ℕ) (v : PassView R B E) (n : ℕ) : Type 0 where
    pub right : IsRight v
    pub place : Place
    pub known : IsKnownPlace v row place
    pub small : n ≤ stale
    pub loose : n ≡ stale → IsLoose v row
    pub taken : n ≢ stale → (s : ℕ) × (n ≡ held_by s) × IsHolder v row s

  -- of a grab of the row that found n
  abbrev pub GrabSays : Seat R B E → ℕ → Seat R B E → ℕ → Type 0
  GrabSays m n m' row = (n ≡ 0 → (f : Finds row (view m)) × (m' ≡ (got (view m) row f.place f.generation f.words f.content ∷ [], (row, Some (Row f.content)) ∷ m.1)))
      × (n ≢ 0 → (missed : Misses row (view m) n) × (m' ≡ (looked (view m) row missed.place None n ∷ [], m.1)))

  abbrev pub GrabTells : Step (Slot R B) → Seat R B E → ℕ → Seat R B E → Type 0
  GrabTells st m n m' = (row : ℕ) → st.word ≡ lock_at row → GrabSays m n m' row

  abbrev pub ReleaseTells : Step (Slot R B) → Seat R B E → ℕ → Seat R B E → Type 0
  ReleaseTells st m n m' = (row : ℕ) → st.word ≡ lock_at row → m' ≡ (released (view m) row ∷ [], rest m.1)

  abbrev pub MayGrab : PassView R B E → ℕ → Type 0
  MayGrab v row = StandsOn v.core row ⊎ LinksRow v row

  -- What may stand in a held row at its release: what the grab found, or, once the pass has given the book, what agrees with the book that it gave last.
  pub record Fits (M : Meaning R B E) (v : PassView R B E) (row : ℕ) (content : R) : Type 0 where
    pub known : HeldRow R
    pub held : Contains v.rows known
    pub same_row : known.row ≡ row
    pub content_fits : ((known.is_given ≡ false) × (known.found ≡ Some content) × (known.words ≡ known.words_found))
        ⊎ ((known.is_given ≡ true) × ((book : B) × (v.last ≡ Some book) × M.agrees book known.place known.words content))
