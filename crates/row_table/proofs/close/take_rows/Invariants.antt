use Rattle.std.proofs.Common.{◌≡◌, ℕ, ◌+◌, ◌<◌, ◌≤◌, false, get_or, length, Some}
use Rattle.std.specs.Vec.{vec_capacity, vec_len}
use Rattle.std.specs.Mem.Slots.{slots_filled, slots_len, slots_items}
use Rattle.std.specs.Mem.Slots.Ownership.{Filled}
use mathlib.Core.Option.{some}
use lib.ListN.{get_elem?}
use Rattle.row_table.specs.declared.plan.Content.TheVariants.{Row}
use Rattle.row_table.proofs.close.take_rows.Given as goal

abbrev pub invariant-loop-row : goal.invariant-loop-row
invariant-loop-row g l = record {
  filled : Filled (slots_filled l.closed.slots) l.row (slots_len l.closed.slots);
  taken : (k : ℕ) → k < l.row → get_or (slots_filled l.closed.slots) k false ≡ false;
  slots : slots_items l.closed.slots ≡ slots_items l.fn.closed.slots;
  wide : slots_len l.closed.slots ≡ l.count + 1;
  rows : (r : ℕ) (x : g.row.P-Row.Denot) → get_elem? l.rows.items r ≡ some x → get_elem? (slots_items l.fn.closed.slots) r ≡ some (Some (Row x));
  count : length l.rows.items ≡ l.row;
  len : vec_len l.rows ≡ l.row;
  room : l.count ≤ vec_capacity l.rows;
}
