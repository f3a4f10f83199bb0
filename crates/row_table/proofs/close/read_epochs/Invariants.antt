use Rattle.std.proofs.Common.{◌≡◌, ℕ, ◌+◌, ◌≤◌, length}
use Rattle.std.specs.Vec.{vec_capacity, vec_len}
use mathlib.Core.Option.{some}
use lib.ListN.{get_elem?}
use Rattle.row_table.proofs.close.read_epochs.Given as goal

abbrev pub invariant-loop-index : goal.invariant-loop-index
invariant-loop-index l = record {
  items : (i : ℕ) (x : ℕ) → get_elem? l.epochs.items i ≡ some x → get_elem? l.words (l.first + i) ≡ some x;
  count : length l.epochs.items ≡ l.index;
  len : vec_len l.epochs ≡ l.index;
  room : l.count ≤ vec_capacity l.epochs;
}
