-- What the beginning of a transaction answers, and what its end gives back.
--     IsBegun      a transaction of this machine, with this pass, that has no operation
--     Enters, EntersOnce      the number of the own epoch word, where there are pages: it may count on, and has counted on;  by two. Without pages the pass does not enter
--     IsBack      a pass of this machine is given back, ready again
--     Begins      the answers of a beginning that waits
--     Misses      an answer of `try_cover` to a range that has pages
--     Attempts      the answers of one that waits for nobody
--     Abandons      what is given back at the end
use Rattle.std.specs.Prelude.{◌≡◌, ℕ, ◌+◌, ◌^◌, ◌<◌, [], Option, None, Some}
use Rattle.corten_base.specs.Pages.{PageRange}
use Rattle.row_table.specs.Passes.{view_of, table_of}
use Rattle.tree_lock.specs.declared.attempt.Tried.{Tried}
use Rattle.tree_lock.specs.declared.attempt.Tried.TheVariants as tried
use Rattle.tree_lock.specs.Tries.{IsSameBut, Tries}
use Rattle.tree_lock.specs.Waits.{IsWorn}
use Rattle.mm_txn.specs.declared.txn.BeginAnswer.{BeginAnswer}
use Rattle.mm_txn.specs.declared.txn.BeginAnswer.TheVariants as answer
use Rattle.mm_txn.specs.declared.txn.Begun.{Begun}
use Rattle.mm_txn.specs.declared.txn.Begun.TheVariants as begun
use Rattle.mm_txn.specs.Machines.{MachineModel, MachinePass, IsReady}
use Rattle.mm_txn.specs.Txns.{HeldRange, TxnModel, txn_of, range_of, range_zone, IsOpen}

-- of what the pass knows, nothing is another but where it stands, its epoch, the rows that it holds and what it found
pub record IsBegun (m : MachineModel) (p : MachinePass) (space at len : ℕ) (x : TxnModel) : Type 0 where
  pub is_open : IsOpen x.held
  pub machine : x.held.machine ≡ m
  pub same : IsSameBut (view_of p) (view_of x.held.pass)
  pub space_is : x.held.space ≡ space
  pub at_is : x.held.at ≡ at
  pub len_is : x.held.len ≡ len
  pub no_ops : x.ops ≡ []

abbrev pub Enters : Option PageRange → ℕ → ℕ → Type 0
Enters None old new = new ≡ old
Enters (Some r) old new = (old < 2 ^ 62) × (old < new)

abbrev pub EntersOnce : Option PageRange → ℕ → ℕ → Type 0
EntersOnce None old new = new ≡ old
EntersOnce (Some r) old new = (old < 2 ^ 62) × (new ≡ old + 2)

abbrev pub IsBack : MachineModel → MachinePass → Type 0
IsBack m p = (table_of p ≡ m.table) × IsReady m.table.layout.rows p

abbrev pub Begins : MachineModel → MachinePass → ℕ → ℕ → ℕ → BeginAnswer → Type 0
Begins m p space at len (answer.Ready t) = IsBegun m p space at len (txn_of t) × Enters (txn_of t).held.range (view_of p).epoch (view_of (txn_of t).held.pass).epoch
Begins m p space at len (answer.Worn q) = IsBack m q × ((r : PageRange) × (range_of m.table.layout.levels at len ≡ Some r)) × IsWorn (view_of p) (view_of q)

abbrev pub Misses : MachineModel → MachinePass → ℕ → ℕ → ℕ → Tried → MachinePass → Type 0
Misses m p space at len found q =
    IsBack m q × ((r : PageRange) × (range_of m.table.layout.levels at len ≡ Some r) × Tries m.table.layout.levels (range_zone space r) (view_of p) found (view_of q) [])

abbrev pub Attempts : MachineModel → MachinePass → ℕ → ℕ → ℕ → Begun → Type 0
Attempts m p space at len (begun.Ready t) = IsBegun m p space at len (txn_of t) × EntersOnce (txn_of t).held.range (view_of p).epoch (view_of (txn_of t).held.pass).epoch
Attempts m p space at len (begun.Busy q row seat) = Misses m p space at len (tried.Busy row seat) q
Attempts m p space at len (begun.Stale q row) = Misses m p space at len (tried.Stale row) q
Attempts m p space at len (begun.Worn q) = Misses m p space at len tried.Worn q

pub record Abandons (x : HeldRange) (p : MachinePass) : Type 0 where
  pub back : IsBack x.machine p
  pub same : IsSameBut (view_of x.pass) (view_of p)
  pub epoch : (view_of p).epoch ≡ (view_of x.pass).epoch
