-- What contracts say of a transaction. No other crate sees the fields behind these words.
--     View, Row      what a pass of a machine knows;  a held row with its cells
--     HeldRange      its machine and its pass, the kit that was taken out of that, the list of the held rows, its space and pages, and the range as it was given
--     TxnModel, txn_of      these, and its operations
--     range_of      the pages of a length in bytes from an address on, if these are user pages
--     range_zone      what is held for pages of a space
--     IsCover, Holds      the pass holds the cover of these pages, and the list is that of its rows;  nothing where there are no pages
--     IsPlainKit      a kit of which nothing is used, with all its room
--     IsOpen      what holds from the beginning to the commit
use Rattle.std.specs.Prelude.{◌≡◌, ℕ, ◌/◌, ◌≤◌, false, cond, List, [], Option, None, Some}
use Rattle.corten_base.specs.Pages.{PageRange}
use Rattle.corten_base.specs.declared.calls.TxnOp.{TxnOp}
use Rattle.row_cells.specs.declared.Cell.{Cell}
use Rattle.row_table.specs.Passes.{view_of, kit_of, table_of}
use Rattle.table_place.specs.Place.{is_page_range, pages_of}
use Rattle.tree_lock.specs.declared.zone.Zone.{Zone}
use Rattle.tree_lock.specs.declared.zone.Zone.TheVariants.{Pages}
use Rattle.tree_lock.specs.Held.{HeldList}
use Rattle.tree_lock.specs.Covers.{IsListOf}
use Rattle.tree_lock.specs.Linked.{ShowsCover}
use Rattle.tree_lock.specs.Release.{MayReleaseAll}
use Rattle.machine_plan.specs.declared.kit.Kit.{Kit}
use Rattle.machine_plan.specs.Kits.{HasRoom, IsUngranted, IsIdle, IsUnplanned}
use Rattle.machine_plan.specs.Cover.{View}
use Rattle.machine_plan.specs.HeldRows.{Row}
use Rattle.machine_plan.specs.Follows.{machine}
use Rattle.mm_txn.specs.declared.txn.Txn.{Txn}
use Rattle.mm_txn.specs.Machines.{MachineModel, MachinePass, model_of}

pub record HeldRange : Type 0 where
  pub machine : MachineModel
  pub pass : MachinePass
  pub kit : Kit
  pub list : HeldList (List Cell)
  pub space : ℕ
  pub range : Option PageRange
  pub at : ℕ
  pub len : ℕ

pub record TxnModel : Type 0 where
  pub held : HeldRange
  pub ops : List TxnOp

unfoldable pub txn_of : Txn → TxnModel
txn_of t = record {
  held = record { machine = model_of t.machine.now; pass = t.pass; kit = t.kit.0; list = t.kit.1; space = t.space; range = t.range; at = t.at; len = t.len };
  ops = t.ops;
}

abbrev pub range_of : ℕ → ℕ → ℕ → Option PageRange
range_of levels at len = cond (is_page_range levels at len) (Some (record { first = at / 4096; count = pages_of len })) None

abbrev pub range_zone : ℕ → PageRange → Zone
range_zone space r = Pages space r.first r.count false

pub record IsCover (space : ℕ) (r : PageRange) (v : View) (rows : List Row) : Type 0 where
  pub listed : IsListOf v.core.held v.rows rows
  pub shows : ShowsCover v.layout (range_zone space r) v

abbrev pub Holds : ℕ → Option PageRange → View → List Row → Type 0
Holds space None v rows = (v.core.held ≡ []) × (rows ≡ [])
Holds space (Some r) v rows = IsCover space r v rows

abbrev pub IsPlainKit : Kit → Type 0
IsPlainKit kit = HasRoom kit × IsUngranted kit × IsIdle kit × IsUnplanned kit

-- the pass is outside and has nothing but the cover, and each row may go back as it is
pub record IsOpen (x : HeldRange) : Type 0 where
  pub member : table_of x.pass ≡ x.machine.table
  pub no_kit : kit_of x.pass ≡ None
  pub outside : (view_of x.pass).core.stand ≡ None
  pub granted : (view_of x.pass).core.granted ≡ []
  pub unlinked : (view_of x.pass).core.unlinked ≡ []
  pub has_not : (view_of x.pass).core.has_book ≡ false
  pub plain : IsPlainKit x.kit
  pub room : x.machine.table.layout.rows ≤ x.list.room
  pub pages : x.range ≡ range_of x.machine.table.layout.levels x.at x.len
  pub holds : Holds x.space x.range (view_of x.pass) x.list.rows
  pub release : MayReleaseAll machine x.list.rows (view_of x.pass)
