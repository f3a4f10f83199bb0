-- What an attempt to cover a zone answers, where page tables have so many levels.
--     during, IsSameBut      a view with another stand, epoch, held rows and findings;  two views differ in these alone
--     IsFree, IsAway      a pass that is outside and holds nothing;  the pass after it came and went with nothing
--     IsPages      a zone of pages
--     OnHeld      a fact where the cover is held
--     Tries      each answer, what the pass knows and the list afterwards
use Rattle.std.specs.Prelude.{◌≡◌, ℕ, ◌+◌, ◌^◌, ◌<◌, ◌⊎◌, List, [], Option, None}
use Rattle.table_place.specs.declared.Place.{Place}
use Rattle.walk_core.specs.declared.pass.Stand.{Stand}
use Rattle.walk_core.specs.Words.{held_by, stale}
use Rattle.row_table.specs.declared.view.PassView.{PassView}
use Rattle.row_table.specs.declared.view.HeldRow.{HeldRow as KnownRow}
use Rattle.row_table.specs.declared.view.Finding.{Finding}
use Rattle.row_table.specs.Known.{IsAnother}
use Rattle.tree_lock.specs.declared.zone.Zone.{Zone}
use Rattle.tree_lock.specs.declared.zone.Zone.TheVariants.{Pages, Space, Directory}
use Rattle.tree_lock.specs.declared.held.HeldRow.{HeldRow}
use Rattle.tree_lock.specs.declared.attempt.Tried.{Tried}
use Rattle.tree_lock.specs.declared.attempt.Tried.TheVariants.{Held, Busy, Stale, Worn}
use Rattle.tree_lock.specs.Reached.{LastGrab, IsReached, IsBelow}
use Rattle.tree_lock.specs.Covers.{CoversZone, AreInTree, IsListOf}

abbrev pub OnHeld : Tried → Type 0 → Type 0
OnHeld Held fact = fact
OnHeld (Busy row seat) fact = Unit {0}
OnHeld (Stale row) fact = Unit {0}
OnHeld Worn fact = Unit {0}

abbrev pub IsPages : Zone → Type 0
IsPages (Pages s f c b) = Unit {0}
IsPages (Space s) = ⊥
IsPages Directory = ⊥

module _ {R B E : Type 0} where
  abbrev pub during : PassView R B E → Option Stand → ℕ → List ℕ → List (KnownRow R) → List Finding → PassView R B E
  during v stand epoch held rows findings = record v { core = record v.core { stand = stand; held = held }; epoch = epoch; rows = rows; findings = findings }

  abbrev pub IsSameBut : PassView R B E → PassView R B E → Type 0
  IsSameBut v w = w ≡ during v w.core.stand w.epoch w.core.held w.rows w.findings

  pub record IsFree (v : PassView R B E) : Type 0 where
    pub outside : v.core.stand ≡ None
    pub holds_none : v.core.held ≡ []

  -- nothing but the epoch and the findings is another
  abbrev pub IsAway : PassView R B E → PassView R B E → Type 0
  IsAway v w = w ≡ record v { epoch = v.epoch + 2; findings = w.findings }

module _ {R B E : Type 0} (levels : ℕ) where
  pub record IsBusy (zone : Zone) (v w : PassView R B E) (row seat : ℕ) : Type 0 where
    pub another : IsAnother v seat
    pub place : Place
    pub last : LastGrab w.findings row place (held_by seat)
    pub where_it_is : IsReached levels zone w.findings row place ⊎ IsBelow levels zone w.findings row place

  pub record IsStale (zone : Zone) (w : PassView R B E) (row : ℕ) : Type 0 where
    pub pages : IsPages zone
    pub place : Place
    pub last : LastGrab w.findings row place stale
    pub reached : IsReached levels zone w.findings row place

  pub record IsHeld (zone : Zone) (v w : PassView R B E) (list : List (HeldRow R)) : Type 0 where
    pub same : IsSameBut v w
    pub outside : w.core.stand ≡ None
    pub twice : w.epoch ≡ v.epoch + 2
    pub listed : IsListOf w.core.held w.rows list
    pub covers : CoversZone levels w.layout.rows zone w.rows
    pub in_tree : AreInTree w

  abbrev pub Tries : Zone → PassView R B E → Tried → PassView R B E → List (HeldRow R) → Type 0
  Tries zone v Held w list = (v.epoch < 2 ^ 62) × IsHeld zone v w list
  Tries zone v (Busy row seat) w list = (v.epoch < 2 ^ 62) × IsAway v w × IsBusy zone v w row seat × (list ≡ [])
  Tries zone v (Stale row) w list = (v.epoch < 2 ^ 62) × IsAway v w × IsStale zone w row × (list ≡ [])
  Tries zone v Worn w list = (v.epoch ≡ 2 ^ 62) × (w ≡ v) × (list ≡ [])
