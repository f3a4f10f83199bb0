-- How far a walk over the entries of a held row has come.
--     Walked      what a walk has done before this entry, from what it began with
--     Going      before this entry each link to a position that the zone meets leads to a held row, and below the later ones none is held
use Rattle.std.specs.Prelude.{◌≡◌, ℕ, ◌<◌, true, List, ◌++◌, slice_index}
use Rattle.std.specs.List.{Contains}
use Rattle.table_place.specs.Place.{entry_place}
use Rattle.walk_core.specs.Words.{is_link, link_row}
use Rattle.row_table.specs.declared.view.PassView.{PassView}
use Rattle.row_table.specs.declared.view.HeldRow.{HeldRow as KnownRow}
use Rattle.tree_lock.specs.declared.zone.Zone.{Zone}
use Rattle.tree_lock.specs.declared.below.Spot.{Spot}
use Rattle.tree_lock.specs.Zone.{Meets}
use Rattle.tree_lock.specs.Covers.{HoldsAt, LinksHeld}
use Rattle.tree_lock.specs.declared.held.HeldRow.{HeldRow}
use Rattle.tree_lock.specs.Tries.{IsSameBut}
use Rattle.tree_lock.specs.Stages.{IsFresh, IsStage}

module _ {R : Type 0} (levels : ℕ) where
  pub record Going (zone : Zone) (at : Spot) (old new : List (KnownRow R)) (first : ℕ) : Type 0 where
    pub more : List (KnownRow R)
    pub rows : new ≡ old ++ more
    pub lower : (h : KnownRow R) → Contains more h → h.place.level < at.place.level
    pub done : (h : KnownRow R) → Contains more h → LinksHeld levels zone new h
    pub so_far : (h : KnownRow R) → Contains old h → h.row ≡ at.row → h.place ≡ at.place → (index : ℕ) → index < first → index < 512 → is_link (slice_index h.words index) ≡ true → Meets zone (entry_place levels h.place index)
        → HoldsAt new (link_row (slice_index h.words index)) (entry_place levels h.place index)
    pub fresh : IsFresh levels new at.place first

module _ {R B E : Type 0} (levels : ℕ) where
  pub record Walked (zone : Zone) (at : Spot) (v : PassView R B E) (xs : List (HeldRow R)) (w : PassView R B E) (ys : List (HeldRow R)) (first : ℕ) : Type 0 where
    pub kept : IsSameBut v w
    pub epoch : w.epoch ≡ v.epoch
    pub stage : (top : KnownRow R) → IsStage levels zone top v xs → IsStage levels zone top w ys
    pub going : Going levels zone at v.rows w.rows first
