-- What the functions ask and do that take the rows below the covering row.
--     Sees      what an entry of a held row has
--     IsFresh      no held row is at a position below these entries of a table
--     Grew      the rows that were taken below a row, whose links are held
--     AreThere      the held rows are rows of the table
--     after_look, after_grab, after_miss      the pass after a look at an entry, and after a grab of the row that it links
--     IsStaged, IsStage      what is known of each row that was taken, and of all of them, with the row that was taken first
--     GetsChild, MissesChild, TakesChild      what a step at one entry does
--     IsBarred, TakesBelow      another pass holds a row below;  what a walk over all entries does
use Rattle.std.specs.Prelude.{◌≡◌, ◌≢◌, ℕ, ◌<◌, ◌≤◌, true, false, List, [], ◌∷◌, ◌++◌, slice_index, Option, None, Some}
use Rattle.std.specs.List.{Contains}
use Rattle.table_place.specs.declared.Place.{Place}
use Rattle.table_place.specs.Place.{is_place, entry_place}
use Rattle.walk_core.specs.Words.{is_link, link_row, held_by}
use Rattle.row_table.specs.declared.view.PassView.{PassView}
use Rattle.row_table.specs.declared.view.HeldRow.{HeldRow as KnownRow}
use Rattle.row_table.specs.Known.{IsAnother, IsPlaced}
use Rattle.row_table.specs.Moves.{finding, grabbed, NotInHand}
use Rattle.tree_lock.specs.declared.zone.Zone.{Zone}
use Rattle.tree_lock.specs.declared.held.HeldRow.{HeldRow}
use Rattle.tree_lock.specs.declared.below.Spot.{Spot}
use Rattle.tree_lock.specs.declared.below.Taken.{Taken}
use Rattle.tree_lock.specs.declared.below.Child.{Child}
use Rattle.tree_lock.specs.declared.below.Child.TheVariants.{Nothing, Got, Busy}
use Rattle.tree_lock.specs.Held.{IsInserted}
use Rattle.tree_lock.specs.Reached.{IsOnTheWay, LastGrab, IsTaken, IsBelow}
use Rattle.tree_lock.specs.Covers.{LinksHeld, LinkedBy, IsOfCover, IsListOf}

module _ {R : Type 0} where
  abbrev pub Sees : List (KnownRow R) → Spot → ℕ → ℕ → Type 0
  Sees rows at index word = (h : KnownRow R) → Contains rows h → h.row ≡ at.row → word ≡ slice_index h.words index

module _ {R : Type 0} (levels : ℕ) where
  abbrev pub IsFresh : List (KnownRow R) → Place → ℕ → Type 0
  IsFresh rows place first = (h : KnownRow R) → Contains rows h → (index : ℕ) → first ≤ index → index < 512 → h.place ≢ entry_place levels place index

  pub record Grew (zone : Zone) (at : Spot) (old new : List (KnownRow R)) : Type 0 where
    pub more : List (KnownRow R)
    pub rows : new ≡ old ++ more
    pub lower : (h : KnownRow R) → Contains more h → h.place.level < at.place.level
    pub done : (h : KnownRow R) → Contains more h → LinksHeld levels zone new h
    pub here : (h : KnownRow R) → Contains old h → h.row ≡ at.row → h.place ≡ at.place → LinksHeld levels zone new h

module _ {R B E : Type 0} where
  abbrev pub AreThere : PassView R B E → Type 0
  AreThere v = (h : KnownRow R) → Contains v.rows h → h.row < v.layout.rows

  -- a look at an entry, and behind it a grab of the row that it links
  abbrev pub after_look : PassView R B E → Spot → ℕ → ℕ → PassView R B E
  after_look v at index word = record v { findings = v.findings ++ finding at.row at.place (Some index) word ∷ [] }

  abbrev pub after_grab : PassView R B E → Spot → ℕ → ℕ → KnownRow R → PassView R B E
  after_grab v at index word h = record v {
    core = record v.core { held = v.core.held ++ h.row ∷ [] };
    rows = v.rows ++ h ∷ [];
    findings = (v.findings ++ finding at.row at.place (Some index) word ∷ []) ++ finding h.row h.place None 0 ∷ [];
  }

module _ {R B E : Type 0} (levels : ℕ) where
  abbrev pub after_miss : PassView R B E → Spot → ℕ → ℕ → ℕ → PassView R B E
  after_miss v at index word seat = record v { findings = (v.findings ++ finding at.row at.place (Some index) word ∷ []) ++ finding (link_row word) (entry_place levels at.place index) None (held_by seat) ∷ [] }

  pub record IsStaged (zone : Zone) (top : KnownRow R) (v : PassView R B E) (h : KnownRow R) : Type 0 where
    pub of_cover : IsOfCover levels v.layout.rows zone top h
    pub in_tree : NotInHand v h.row
    pub links : ℕ
    pub taken : IsTaken levels zone v.findings links h.row h.place
    -- no link leads on to a row that may cover the zone
    pub lowest : (index : ℕ) → index < 512 → IsOnTheWay zone (entry_place levels h.place index) → is_link (slice_index h.words index) ≡ false

  pub record IsStage (zone : Zone) (top : KnownRow R) (v : PassView R B E) (xs : List (HeldRow R)) : Type 0 where
    pub outside : v.core.stand ≡ None
    pub list : IsListOf v.core.held v.rows xs
    pub below : List (KnownRow R)
    pub rows : v.rows ≡ top ∷ below
    pub each : (h : KnownRow R) → Contains v.rows h → IsStaged zone top v h
    pub linked : (h : KnownRow R) → Contains below h → LinkedBy levels zone v.rows h.row h.place

  pub record GetsChild (v : PassView R B E) (xs : List (HeldRow R)) (at : Spot) (index : ℕ) (child : Spot) (w : PassView R B E) (ys : List (HeldRow R)) : Type 0 where
    pub few : levels < 6
    pub word : ℕ
    pub sees : Sees v.rows at index word
    pub link : is_link word ≡ true
    pub to_row : link_row word ≡ child.row
    pub is_below : child.place ≡ entry_place levels at.place index
    pub table : is_place levels child.place ≡ true
    pub there : child.row < v.layout.rows
    pub placed : IsPlaced levels child.row child.place
    pub generation : ℕ
    pub words : List ℕ
    pub content : R
    pub now : w ≡ after_grab v at index word (grabbed child.row child.place generation words content)
    pub in_tree : NotInHand v child.row
    pub inserted : IsInserted (record { row = child.row; place = child.place; generation = generation; content = content }) xs ys

  pub record MissesChild (v : PassView R B E) (xs : List (HeldRow R)) (at : Spot) (index row seat : ℕ) (w : PassView R B E) (ys : List (HeldRow R)) : Type 0 where
    pub word : ℕ
    pub sees : Sees v.rows at index word
    pub link : is_link word ≡ true
    pub to_row : link_row word ≡ row
    pub another : IsAnother v seat
    pub now : w ≡ after_miss v at index word seat
    pub same : ys ≡ xs

  abbrev pub TakesChild : PassView R B E → List (HeldRow R) → Spot → ℕ → Child → PassView R B E → List (HeldRow R) → Type 0
  TakesChild v xs at index Nothing w ys = (word : ℕ) × Sees v.rows at index word × (is_link word ≡ false) × (w ≡ after_look v at index word) × (ys ≡ xs)
  TakesChild v xs at index (Got child) w ys = GetsChild v xs at index child w ys
  TakesChild v xs at index (Busy taken) w ys = MissesChild v xs at index taken.row taken.seat w ys

  pub record IsBarred (zone : Zone) (w : PassView R B E) (taken : Taken) : Type 0 where
    pub another : IsAnother w taken.seat
    pub place : Place
    pub last : LastGrab w.findings taken.row place (held_by taken.seat)
    pub is_below : IsBelow levels zone w.findings taken.row place

  abbrev pub TakesBelow : Zone → Spot → PassView R B E → Option Taken → PassView R B E → Type 0
  TakesBelow zone at v None w = Grew levels zone at v.rows w.rows
  TakesBelow zone at v (Some taken) w = IsBarred zone w taken
