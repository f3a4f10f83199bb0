-- What is found of any call before its references are taken.
--     AnswersPlace      the page to which a mapping without a place of its own goes, or a range that moves
--     AnswersNeeds      how many rows the call needs
use Rattle.std.specs.Prelude.{ℕ, List}
use Rattle.corten_base.specs.declared.calls.Call.{Call}
use Rattle.page_map.specs.State.{State}
use Rattle.held_needs.specs.Calls.{IsHeldFor, IsPlacedAt}
use Rattle.machine_plan.specs.declared.kit.Kit.{Kit}
use Rattle.machine_plan.specs.Books.{BookData}
use Rattle.machine_plan.specs.HeldRows.{Row}
use Rattle.range_cursor.specs.Plans.{IsPlannable, Needs}

-- They are asked of rows whose state is known later.
abbrev pub AnswersPlace : ℕ → ℕ → List Row → Call → ℕ → Type 0
AnswersPlace depth thread rows c to = (st : State) → IsHeldFor depth rows thread c st → IsPlacedAt st thread c to

abbrev pub AnswersNeeds : ℕ → ℕ → List Row → Kit → Call → ℕ → Type 0
AnswersNeeds depth thread rows kit c needed = (b : BookData) (files : List (List ℕ)) → IsPlannable b thread c depth files rows kit → Needs b thread c needed
