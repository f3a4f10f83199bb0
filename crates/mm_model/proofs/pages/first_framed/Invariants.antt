use Rattle.std.proofs.Common.{◌≡◌, ◌-◌, ◌^◌, ℕ, ◌<◌, ◌≤◌}
use Rattle.std.specs.Prelude.{None}
use Rattle.mm_model.specs.Pages.{frame_in}
use Rattle.mm_model.proofs.pages.first_framed.Given as goal

-- no page from the first on and before `next` has a frame
abbrev pub invariant-loop-held : goal.invariant-loop-held
invariant-loop-held l = (l.page ≤ l.next) × (l.next ≤ 2 ^ 64 - 1) × ((q : ℕ) → l.page ≤ q → q < l.next → frame_in l.cells q ≡ None)

abbrev pub decreases-loop-held : goal.decreases-loop-held
decreases-loop-held l = 2 ^ 64 - 1 - l.next
