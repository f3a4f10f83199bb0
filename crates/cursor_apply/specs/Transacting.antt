-- A transaction: the tables that its operations cut, and the states that they make one after another.
--     IsTxnIn      a transaction of a space
--     MayLinkBy, ReachesBy      the tables that the range of a change cuts may be linked, and are there
--     CanLinkBy, LinksMoreBy      for some call, and for each such call
--     TxnSteps      its changes lead from a state between to the one after it, where some pages show what they came from
use Rattle.std.specs.Prelude.{◌≡◌, ℕ, ◌+◌, ◌^◌, ◌<◌, Bool, List, Option, Some, None}
use Rattle.corten_base.specs.declared.calls.Call.{Call}
use Rattle.corten_base.specs.declared.calls.Call.TheVariants as call
use Rattle.corten_base.specs.declared.calls.TxnOp.{TxnOp}
use Rattle.page_map.specs.Effect.{state_after}
use Rattle.page_map.specs.State.{State, IsConsistent}
use Rattle.page_map.specs.Step.{refusal}
use Rattle.row_cells.specs.declared.Cell.{Cell}
use Rattle.row_table.specs.declared.view.PassView.{PassView}
use Rattle.machine_plan.specs.declared.kit.Kit.{Kit}
use Rattle.machine_plan.specs.Books.{BookData}
use Rattle.machine_plan.specs.HeldRows.{Row}
use Rattle.machine_plan.specs.Uses.{changes_of}
use Rattle.cursor_apply.specs.Between.{IsBetween}
use Rattle.cursor_apply.specs.Changed.{Steps}
use Rattle.cursor_apply.specs.declared.becoming.RangeChange.{RangeChange}
use Rattle.cursor_apply.specs.Linking.{IsLinking, LinkedSoFar, MayLinkCut, ReachesCut}

pub record IsTxnIn (space : ℕ) (c : Call) : Type 0 where
  pub at : ℕ
  pub len : ℕ
  pub ops : List TxnOp
  pub is : c ≡ call.Txn space at len ops

abbrev pub MayLinkBy : BookData → BookData → List Row → ℕ → Option RangeChange → Type 0
MayLinkBy a b rows space None = Unit {0}
MayLinkBy a b rows space (Some change) = MayLinkCut a b rows space change.first change.count × (change.first + change.count < 2 ^ 64)

abbrev pub ReachesBy : ℕ → ℕ → Option RangeChange → List Row → Type 0
ReachesBy levels space None rows = Unit {0}
ReachesBy levels space (Some change) rows = ReachesCut levels space change.first change.count rows

abbrev pub TxnSteps : Type 0
TxnSteps = (old st : State) (thread limbo space : ℕ) (c : Call) (taken : ℕ → Bool) → IsTxnIn space c → IsConsistent old → IsConsistent (state_after old thread c) → refusal old thread c limbo ≡ None → IsBetween old (state_after old thread c) st space taken
    → (end : State) × IsBetween (state_after old thread c) (state_after old thread c) end space taken × Steps (changes_of old thread c) space st end

module _ {B E : Type 0} where
  abbrev pub CanLinkBy : ℕ → ℕ → Kit → ℕ → PassView (List Cell) B E → List Row → ℕ → Option RangeChange → Type 0
  CanLinkBy levels room kit next w rows' space change = (a : BookData) × (b : BookData) × (thread : ℕ) × (c : Call) × (v : PassView (List Cell) B E) × (rows : List Row)
      × IsLinking levels room a b thread c kit v rows × LinkedSoFar a b thread c kit next v rows w rows' × MayLinkBy a b rows space change

  abbrev pub LinksMoreBy : ℕ → ℕ → Kit → ℕ → PassView (List Cell) B E → List Row → ℕ → Option RangeChange → ℕ → PassView (List Cell) B E → List Row → Type 0
  LinksMoreBy levels room kit next w rows' space change done z rows'' = (a b : BookData) (thread : ℕ) (c : Call) (v : PassView (List Cell) B E) (rows : List Row)
      → IsLinking levels room a b thread c kit v rows → LinkedSoFar a b thread c kit next v rows w rows' → MayLinkBy a b rows space change → LinkedSoFar a b thread c kit done v rows z rows''
