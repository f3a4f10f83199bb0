-- What is left of an attempt once the covering row was tried.
--     IsOff      a pass that is outside and holds nothing, and is the same but for that
--     IsCovered      it holds the cover, where page tables have so many levels, and a list of it
--     TakesAll      the answers where the covering row was taken
use Rattle.std.specs.Prelude.{◌≡◌, ℕ, List, [], None}
use Rattle.row_table.specs.declared.view.PassView.{PassView}
use Rattle.tree_lock.specs.declared.zone.Zone.{Zone}
use Rattle.tree_lock.specs.declared.held.HeldRow.{HeldRow}
use Rattle.tree_lock.specs.declared.attempt.Tried.{Tried}
use Rattle.tree_lock.specs.declared.attempt.Tried.TheVariants.{Held, Busy, Stale, Worn}
use Rattle.tree_lock.specs.Covers.{CoversZone, AreInTree, IsListOf}
use Rattle.tree_lock.specs.Tries.{IsSameBut}
use Rattle.tree_lock.specs.Stages.{IsBarred}

module _ {R B E : Type 0} where
  pub record IsOff (v w : PassView R B E) : Type 0 where
    pub same : IsSameBut v w
    pub outside : w.core.stand ≡ None
    pub epoch : w.epoch ≡ v.epoch
    pub holds_none : w.core.held ≡ []
    pub no_rows : w.rows ≡ []

module _ {R B E : Type 0} (levels : ℕ) where
  pub record IsCovered (zone : Zone) (v w : PassView R B E) (list : List (HeldRow R)) : Type 0 where
    pub same : IsSameBut v w
    pub outside : w.core.stand ≡ None
    pub epoch : w.epoch ≡ v.epoch
    pub listed : IsListOf w.core.held w.rows list
    pub covers : CoversZone levels w.layout.rows zone w.rows
    pub in_tree : AreInTree w

  abbrev pub TakesAll : Zone → PassView R B E → Tried → PassView R B E → List (HeldRow R) → Type 0
  TakesAll zone v Held w list = IsCovered zone v w list
  TakesAll zone v (Busy row seat) w list = IsOff v w × IsBarred levels zone w (record { row = row; seat = seat }) × (list ≡ [])
  TakesAll zone v (Stale row) w list = ⊥
  TakesAll zone v Worn w list = ⊥
