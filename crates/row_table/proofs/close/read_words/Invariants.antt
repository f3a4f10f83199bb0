use Rattle.std.proofs.Common.{◌≡◌, ◌≤◌, take}
use Rattle.std.specs.Vec.{vec_capacity, vec_len}
use Rattle.std.specs.Mem.Slots.{slots_items}
use Rattle.row_table.proofs.close.read_words.Given as goal

abbrev pub invariant-loop-place : goal.invariant-loop-place
invariant-loop-place g l = record {
  items : l.words.items ≡ take l.place (slots_items l.closed.words);
  len : vec_len l.words ≡ l.place;
  room : l.count ≤ vec_capacity l.words;
}
