-- The entries so far are legal, and the machine stands where they leave it.
use Rattle.std.proofs.Common.{◌≡◌, take}
use Rattle.page_map.specs.History.{IsLegal, after}
use Rattle.history_text.proofs.checking.first_wrong_entry.Given as goal

abbrev pub invariant-loop-place : goal.invariant-loop-place
invariant-loop-place l = record {
  legal : IsLegal l.fn.plain (take l.place l.entries);
  state : l.plain ≡ after l.fn.plain (take l.place l.entries);
}
