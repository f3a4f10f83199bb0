use Rattle.std.proofs.Common.{◌≡◌, ◌++◌, ℕ, map, take, drop}
use Rattle.counted_pages.specs.Pages.{HasSpare}
use Rattle.machine_plan.specs.Kits.{AreBacked}
use Rattle.machine_plan.specs.Uses.{shown_refs}
use Rattle.book.specs.Balance.{times}
use Rattle.book.specs.Storing.{stored_in}
use Rattle.book.proofs.storing.store.Given as goal

abbrev pub invariant-loop-page : goal.invariant-loop-page
invariant-loop-page l = record {
  counts : l.pool.counts ≡ l.initial.pool.counts;
  spares : (n : ℕ) → times n (shown_refs l.initial.frames) ≡ 0 → HasSpare l.initial.pool n → HasSpare l.pool n;
  backed : AreBacked l.pool (drop l.page-index l.initial.frames);
  done : l.frames ≡ map (stored_in l.at l.bytes) (take l.page-index l.initial.frames) ++ drop l.page-index l.initial.frames;
}
