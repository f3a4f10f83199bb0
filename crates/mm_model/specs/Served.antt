-- The calls that the plain machine makes.
--     IsServed      whether a call is one of them
use Rattle.std.specs.Prelude.{◌≤◌, length}
use Rattle.corten_base.specs.declared.calls.Call.{Call}
use Rattle.corten_base.specs.declared.calls.Call.TheVariants as call

-- all, where an access is of 1 to 4,096 bytes
abbrev pub IsServed : Call → Type 0
IsServed (call.Map space where_to len perm what) = Unit {0}
IsServed (call.Unmap space at len) = Unit {0}
IsServed (call.Protect space at len perm) = Unit {0}
IsServed (call.Load space at len) = (1 ≤ len) × (len ≤ 4096)
IsServed (call.Store space at bytes) = (1 ≤ length bytes) × (length bytes ≤ 4096)
IsServed (call.Fault space at write) = Unit {0}
IsServed call.Spawn = Unit {0}
IsServed (call.Fork space) = Unit {0}
IsServed (call.Exit space) = Unit {0}
IsServed (call.SwapOut space at len) = Unit {0}
IsServed (call.SwapIn space at len) = Unit {0}
IsServed (call.Txn space at len ops) = Unit {0}
IsServed (call.DontNeed space at len) = Unit {0}
IsServed (call.Remap space at old_len new_len) = Unit {0}
