use Rattle.std.proofs.Common.{◌≡◌, ℕ, ◌-◌, ◌<◌, ◌≤◌, false}
use Rattle.std.specs.Prelude.{is_some}
use Rattle.std.specs.FinMap as map
use Rattle.page_map.specs.Mapping.{after_ops}
use Rattle.txn_plan.specs.Covers.{is_as}
use Rattle.txn_plan.proofs.pieces.least_after.Given as goal

-- no page before `next` is one
abbrev pub invariant-loop-next : goal.invariant-loop-next
invariant-loop-next l = record {
  low : l.first ≤ l.next;
  high : l.next ≤ l.end;
  none : (q : ℕ) → l.first ≤ q → q < l.next → is_as l.present (is_some (map.get (after_ops l.ops l.cells) q)) ≡ false;
}

abbrev pub decreases-loop-next : goal.decreases-loop-next
decreases-loop-next l = l.end - l.next
