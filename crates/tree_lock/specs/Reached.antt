-- What the looks and grabs of one call tell of the rows that it came to: of a list of findings.
--     LastGrab      the last grab was of this row and found this word; after it there are looks alone
--     FoundNoLink, FoundJust      a look found no link at an entry that the zone meets;  the zone is strict, and a look found a link to a position with just the zone as its span
--     IsReached      the row may be the top of the zone's cover
--     IsGrabbed, IsOnTheWay      a grab took the row;  a descent goes on from the position
--     LedTo      a look at one row found a link to another at an entry that the zone meets
--     IsTaken      a reached row that was taken, or one so many links below it, each taken
--     IsBelow      a row that a row so taken links, that the zone meets, and that is not on the way to the reached row
use Rattle.std.specs.Prelude.{◌≡◌, ℕ, zero, suc, ◌<◌, ◌⊎◌, true, false, List, ◌∷◌, ◌++◌, Some, None, IsSome}
use Rattle.std.specs.List.{Contains}
use Rattle.table_place.specs.declared.Place.{Place}
use Rattle.walk_core.specs.Words.{is_link, link_row}
use Rattle.row_table.specs.declared.view.Finding.{Finding}
use Rattle.row_table.specs.Moves.{finding}
use Rattle.tree_lock.specs.declared.zone.Zone.{Zone}
use Rattle.tree_lock.specs.declared.zone.Zone.TheVariants.{Pages, Space, Directory}
use Rattle.table_place.specs.Place.{entry_place}
use Rattle.tree_lock.specs.Zone.{IsStrict, Meets, HasAll, LiesIn, Spans, MeetsTwo}

pub record LastGrab (fs : List Finding) (row : ℕ) (place : Place) (word : ℕ) : Type 0 where
  pub before : List Finding
  pub after : List Finding
  pub split : fs ≡ before ++ (finding row place None word ∷ after)
  pub looks : (f : Finding) → Contains after f → IsSome f.index

abbrev pub IsGrabbed : List Finding → ℕ → Place → Type 0
IsGrabbed fs row place = Contains fs (finding row place None 0)

-- a position from which a descent goes on, since its span may cover the zone
abbrev pub IsOnTheWay : Zone → Place → Type 0
IsOnTheWay (Pages s f c b) place = Spans (Pages s f c b) place
IsOnTheWay (Space s) place = ⊥
IsOnTheWay Directory place = ⊥

module _ (levels : ℕ) where
  pub record FoundNoLink (zone : Zone) (fs : List Finding) (row : ℕ) (place : Place) : Type 0 where
    pub index : ℕ
    pub inside : index < 512
    pub meets : Meets zone (entry_place levels place index)
    pub word : ℕ
    pub look : Contains fs (finding row place (Some index) word)
    pub none : is_link word ≡ false

  pub record FoundJust (zone : Zone) (fs : List Finding) (row : ℕ) (place : Place) : Type 0 where
    pub strict : IsStrict zone
    pub index : ℕ
    pub inside : index < 512
    pub all : HasAll zone (entry_place levels place index)
    pub just : LiesIn (entry_place levels place index) zone
    pub word : ℕ
    pub look : Contains fs (finding row place (Some index) word)
    pub link : is_link word ≡ true

  abbrev pub IsReached : Zone → List Finding → ℕ → Place → Type 0
  IsReached (Pages s f c b) fs row place =
      Spans (Pages s f c b) place × (MeetsTwo levels (Pages s f c b) place ⊎ (FoundNoLink (Pages s f c b) fs row place ⊎ FoundJust (Pages s f c b) fs row place))
  IsReached (Space s) fs row place = row ≡ 0
  IsReached Directory fs row place = row ≡ 0

  pub record LedTo (zone : Zone) (fs : List Finding) (row : ℕ) (place : Place) (child : ℕ) (place_below : Place) : Type 0 where
    pub index : ℕ
    pub inside : index < 512
    pub is_below : place_below ≡ entry_place levels place index
    pub meets : Meets zone place_below
    pub word : ℕ
    pub look : Contains fs (finding row place (Some index) word)
    pub link : is_link word ≡ true
    pub to_row : link_row word ≡ child

  abbrev pub IsTaken : Zone → List Finding → ℕ → ℕ → Place → Type 0
  IsTaken zone fs zero row place = IsReached zone fs row place × IsGrabbed fs row place
  IsTaken zone fs (suc n) row place = (linker : ℕ) × (above : Place) × IsTaken zone fs n linker above × LedTo zone fs linker above row place × IsGrabbed fs row place

  pub record IsBelow (zone : Zone) (fs : List Finding) (row : ℕ) (place : Place) : Type 0 where
    pub count : ℕ
    pub linker : ℕ
    pub above : Place
    pub taken : IsTaken zone fs count linker above
    pub leads : LedTo zone fs linker above row place
    pub not_on_the_way : ¬ IsOnTheWay zone place
