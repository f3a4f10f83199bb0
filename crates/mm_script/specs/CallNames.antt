-- The first words of calls and of operations of a transaction.
--     name_word, op_name_word      the word of a name
use Rattle.std.specs.Prelude.{ℕ, List, codes}
use Rattle.mm_script.specs.declared.call_names.CallName.{CallName}
use Rattle.mm_script.specs.declared.call_names.CallName.TheVariants.{Map, Unmap, Protect, Load, Store, Fault, Spawn, Fork, Exit, SwapOut, SwapIn, Txn, DontNeed, Remap}
use Rattle.mm_script.specs.declared.op_names.OpName.{OpName}
use Rattle.mm_script.specs.declared.op_names.OpName.TheVariants as op

abbrev pub name_word : CallName → List ℕ
name_word Map = codes "map"
name_word Unmap = codes "unmap"
name_word Protect = codes "protect"
name_word Load = codes "load"
name_word Store = codes "store"
name_word Fault = codes "fault"
name_word Spawn = codes "spawn"
name_word Fork = codes "fork"
name_word Exit = codes "exit"
name_word SwapOut = codes "out"
name_word SwapIn = codes "in"
name_word Txn = codes "txn"
name_word DontNeed = codes "dontneed"
name_word Remap = codes "remap"

abbrev pub op_name_word : OpName → List ℕ
op_name_word op.Map = codes "map"
op_name_word op.Unmap = codes "unmap"
op_name_word op.Protect = codes "protect"
