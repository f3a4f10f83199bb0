-- The operations of a transaction as changes of a space's pages.
--     effect_of, change_of      what an operation makes of its pages;  with their range
--     first_index      the index of the first page of a mapping in its file
use Rattle.std.specs.Prelude.{ℕ}
use Rattle.corten_base.specs.declared.calls.TxnOp.{TxnOp}
use Rattle.corten_base.specs.declared.calls.TxnOp.TheVariants as op
use Rattle.page_map.specs.Mapping.{op_first, op_pages}
use Rattle.page_runs.specs.declared.change.Change.{Change}
use Rattle.page_runs.specs.declared.change.Effect.{Effect}
use Rattle.page_runs.specs.declared.change.Effect.TheVariants.{Map, Unmap, Protect}
use Rattle.page_runs.specs.Mark.{index_of}

abbrev pub effect_of : TxnOp → Effect
effect_of (op.Map at fresh len perm what) = Map (record { perm = perm; backing = what })
effect_of (op.Unmap at len) = Unmap
effect_of (op.Protect at len perm) = Protect perm

abbrev pub change_of : TxnOp → Change
change_of o = record { first = op_first o; count = op_pages o; effect = effect_of o }

abbrev pub first_index : TxnOp → ℕ
first_index (op.Map at fresh len perm what) = index_of what
first_index (op.Unmap at len) = 0
first_index (op.Protect at len perm) = 0
