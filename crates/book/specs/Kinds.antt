-- Calls by what becomes of the references of their pages.
--     kind_of      the kind of a call
use Rattle.corten_base.specs.declared.calls.Call.{Call}
use Rattle.corten_base.specs.declared.calls.Call.TheVariants as call
use Rattle.book.specs.declared.accepting.Kind.{Kind}
use Rattle.book.specs.declared.accepting.Kind.TheVariants as kind

abbrev pub kind_of : Call → Kind
kind_of (call.Map space where_to len perm what) = kind.Plain
kind_of (call.Unmap space at len) = kind.Plain
kind_of (call.Protect space at len perm) = kind.Plain
kind_of (call.Load space at len) = kind.Access
kind_of (call.Store space at bytes) = kind.Access
kind_of (call.Fault space at write) = kind.Access
kind_of call.Spawn = kind.Plain
kind_of (call.Fork space) = kind.Fork
kind_of (call.Exit space) = kind.Plain
kind_of (call.SwapOut space at len) = kind.Move
kind_of (call.SwapIn space at len) = kind.Move
kind_of (call.Txn space at len ops) = kind.Transaction
kind_of (call.DontNeed space at len) = kind.Plain
kind_of (call.Remap space at old_len new_len) = kind.Remap
