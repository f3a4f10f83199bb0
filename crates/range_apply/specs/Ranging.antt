-- What the last part of an apply asks of a call that changes pages of one range, and what it leaves.
--     IsRangedIn      it is such a call in a space, of a thread of the machine
--     IsRangeApplicable      the granted rows are linked, and the pages are as before or drawn
--     IsRangeLinked      what a view before becomes once they are
--     MayApplyRange, AppliesRange      there is such a call;  for each one what an apply leaves
use Rattle.std.specs.Prelude.{◌≡◌, ℕ, ◌<◌, true, List, [], Some}
use Rattle.corten_base.specs.declared.calls.Call.{Call}
use Rattle.page_map.specs.Effect.{space_of}
use Rattle.page_map.specs.State.{IsConsistent}
use Rattle.row_cells.specs.declared.Cell.{Cell}
use Rattle.row_table.specs.declared.view.PassView.{PassView}
use Rattle.tree_lock.specs.Release.{HoldsExactly}
use Rattle.machine_plan.specs.declared.kit.Kit.{Kit}
use Rattle.machine_plan.specs.Books.{BookData, state_of}
use Rattle.machine_plan.specs.Held.{AllGiven}
use Rattle.machine_plan.specs.HeldRows.{Row, AreOf}
use Rattle.machine_plan.specs.Kits.{HasRoom}
use Rattle.machine_plan.specs.Whole.{IsBook}
use Rattle.cursor_detach.specs.Left.{IsCommitted}
use Rattle.cursor_apply.specs.Applying.{OnlyRows, Applied}
use Rattle.cursor_apply.specs.Between.{is_ranged}
use Rattle.cursor_apply.specs.Staging.{AreStaged}

pub record IsRangedIn (thread space : ℕ) (c : Call) : Type 0 where
  pub small : thread < 8
  pub ranged : is_ranged c ≡ true
  pub of_space : space_of c ≡ Some space

module _ {B E : Type 0} where
  pub record IsRangeApplicable (a b : BookData) (thread : ℕ) (c : Call) (v : PassView (List Cell) B E) (rows : List Row) (kit : Kit) : Type 0 where
    pub small : thread < 8
    pub ranged : is_ranged c ≡ true
    pub consistent : IsConsistent (state_of a) × IsConsistent (state_of b)
    pub books : IsBook a × IsBook b
    pub exact : HoldsExactly rows v.core.held v.rows
    pub staged : AreStaged a b (state_of b).tables thread c kit v rows
    pub given : AllGiven v
    pub hand : (v.hand ≡ []) × (v.core.granted ≡ [])
    pub one_space : (s : ℕ) → space_of c ≡ Some s → AreOf s rows
    pub answered : Kit
    pub same_kit : kit ≡ record answered { gone = kit.gone }
    pub committed : IsCommitted a b thread c answered
    pub done : kit.done ≡ true
    pub room : HasRoom kit

  abbrev pub IsRangeLinked : BookData → BookData → ℕ → Call → PassView (List Cell) B E → PassView (List Cell) B E → List Row → Kit → Type 0
  IsRangeLinked a b thread c v w rows' kit = OnlyRows v w × IsRangeApplicable a b thread c w rows' kit

  abbrev pub MayApplyRange : PassView (List Cell) B E → List Row → Kit → Type 0
  MayApplyRange v rows kit = (a : BookData) × (b : BookData) × (thread : ℕ) × (c : Call) × IsRangeApplicable a b thread c v rows kit

  abbrev pub AppliesRange : PassView (List Cell) B E → List Row → Kit → PassView (List Cell) B E → List Row → Kit → Type 0
  AppliesRange v rows kit w rows' kit' = (a b : BookData) (thread : ℕ) (c : Call) → IsRangeApplicable a b thread c v rows kit → Applied b thread c v w rows' kit kit'
