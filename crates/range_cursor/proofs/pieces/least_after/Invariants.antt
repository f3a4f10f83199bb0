use Rattle.std.proofs.Common.{◌≡◌, ℕ, ◌-◌, ◌<◌, ◌≤◌, false}
use Rattle.machine_plan.specs.HeldRows.{AreAsked, RowsShown}
use Rattle.page_map.specs.State.{State, space_at}
use Rattle.txn_plan.proofs.Leasts.{passes}
use Rattle.range_cursor.proofs.pieces.least_after.Given as goal

-- no page before `next` is one
abbrev pub invariant-loop-next : goal.invariant-loop-next
invariant-loop-next l = record {
  low : l.first ≤ l.next;
  high : l.next ≤ l.end;
  none : (space : ℕ) (st : State) → AreAsked space l.held.rows l.first (l.end - l.first) → RowsShown st l.held.rows → (q : ℕ) → l.first ≤ q → q < l.next → passes l.ops (space_at st space) l.present q ≡ false;
}

abbrev pub decreases-loop-next : goal.decreases-loop-next
decreases-loop-next l = l.end - l.next
