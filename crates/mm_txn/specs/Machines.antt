-- What contracts say of a machine. No other crate sees the fields behind these words.
--     MachinePass      a pass of a machine
--     MachineModel, model_of      its table, its greatest limits, how many files it has, and its name
--     IsTable, IsMember, IsReady      its table;  a pass of it;  one that is outside and has nothing, with its kit in place
--     IsWithin      limits that are at most these, with as many levels
--     layout_for      the sizes of a table for these limits
--     IsMade, IsStarted      a new table and its passes;  a machine that stands at its start
use Rattle.std.specs.Prelude.{◌≡◌, ℕ, ◌+◌, ◌≤◌, List, map, Some}
use Rattle.std.specs.List.{All, range_with_len}
use Rattle.corten_base.specs.declared.calls.Entry.{Entry}
use Rattle.corten_base.specs.declared.numbers.Limits.{Limits}
use Rattle.row_cells.specs.declared.Cell.{Cell}
use Rattle.row_layout.specs.declared.places.Layout.{Layout}
use Rattle.row_table.specs.declared.pass.Pass.{Pass}
use Rattle.row_table.specs.declared.table.Iron.{Iron}
use Rattle.row_table.specs.Passes.{TableModel, iron_model, view_of, number_of, kit_of, table_of}
use Rattle.row_table.specs.Close.{IsIdle}
use Rattle.row_table.specs.Rule.{unmoved}
use Rattle.tree_lock.specs.Held.{HeldList}
use Rattle.machine_plan.specs.declared.kit.Kit.{Kit}
use Rattle.machine_plan.specs.Books.{BookData}
use Rattle.page_map.specs.State.{IsWithinLimits}
use Rattle.machine_law.specs.declared.plan.MmPlan.{MmPlan}
use Rattle.machine_law.specs.contracts.plan.MmPlanPlan.TheImpl.{ghosts}
use Rattle.book.specs.Starting.{Starts}
use Rattle.mm_txn.specs.declared.machine.Machine.{Machine}
use Rattle.mm_txn.specs.Starting.{IsReadyKit}

abbrev pub MachinePass : Type 0
MachinePass = Pass MmPlan (List Cell) BookData (Kit × HeldList (List Cell)) Entry ghosts

abbrev pub MachineIron : Type 0
MachineIron = Iron MmPlan (List Cell) BookData (Kit × HeldList (List Cell)) Entry

pub record MachineModel : Type 0 where
  pub table : TableModel BookData
  pub greatest : Limits
  pub files : ℕ
  pub name : ℕ

unfoldable pub model_of : Machine → MachineModel
model_of m = record { table = (iron_model m.iron).table; greatest = m.greatest; files = m.files; name = m.name }

abbrev pub IsTable : Machine → MachineIron → Type 0
IsTable m t = (iron_model t).table ≡ (model_of m).table

abbrev pub IsMember : Machine → MachinePass → Type 0
IsMember m p = table_of p ≡ (model_of m).table

-- what each call asks of a pass, and how it leaves it
abbrev pub IsReady : ℕ → MachinePass → Type 0
IsReady rows p = IsIdle (view_of p) × ((k : Kit × HeldList (List Cell)) × (kit_of p ≡ Some k) × IsReadyKit rows k)

pub record IsWithin (limits greatest : Limits) : Type 0 where
  pub within : IsWithinLimits limits
  pub levels : limits.levels ≡ greatest.levels
  pub frames : limits.frames ≤ greatest.frames
  pub tables : limits.tables ≤ greatest.tables
  pub swap : limits.swap ≤ greatest.swap

abbrev pub layout_for : Limits → ℕ → Layout
layout_for limits passes = record { rows = limits.tables + 1; passes = passes; levels = limits.levels }

-- no pass has an entry or was ever inside, and the book has none
pub record IsMade (limits : Limits) (files : List (List ℕ)) (entries passes : ℕ) (t : TableModel BookData) (ps : List MachinePass) : Type 0 where
  pub origin : BookData
  pub starts : Starts limits (limits.tables + 1) files entries origin
  pub at_start : t.origin ≡ Some origin
  pub layout : t.layout ≡ layout_for limits passes
  pub numbers : map (λ p. number_of p) ps ≡ range_with_len 0 passes
  pub members : All (λ p. table_of p ≡ t) ps
  pub unmoved_yet : All (λ p. view_of p ≡ unmoved (layout_for limits passes) (Some origin) (number_of p)) ps
  pub ready : All (λ p. IsReady (limits.tables + 1) p) ps

abbrev pub IsStarted : Limits → List (List ℕ) → ℕ → ℕ → Machine → List MachinePass → Type 0
IsStarted limits files entries passes m ps = IsMade limits files entries passes (model_of m).table ps
