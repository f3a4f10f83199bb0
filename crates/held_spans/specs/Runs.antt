-- Pages of a range that go on from one another.
--     IsNext      what stands so many pages behind a page goes on from it
--     IsRunOf      a run of pages up to one that does not go on from them, or to the end of a range
--     AnswersRun      what is told of the run at a page
use Rattle.std.specs.Prelude.{◌≡◌, ℕ, ◌+◌, ◌-◌, ◌<◌, true, false, List}
use Rattle.std.specs.FinMap.{get}
use Rattle.corten_base.specs.declared.numbers.Status.{Status}
use Rattle.page_map.specs.Alike.{continues}
use Rattle.page_map.specs.Cell.{AddressSpace}
use Rattle.page_map.specs.State.{State, space_at}
use Rattle.machine_plan.specs.HeldRows.{Row, RowsShown, AreAsked}
use Rattle.held_spans.specs.declared.runs.Run.{Run}
use Rattle.held_spans.specs.Spans.{StandsAs, further, has_number, base_of}

-- nothing goes on from a page with a frame or a slot
abbrev pub IsNext : Status → ℕ → Status → Type 0
IsNext first pages later = (has_number first ≡ false) × (further first pages ≡ later)

pub record IsRunOf (cells : AddressSpace) (page end : ℕ) (r : Run) : Type 0 where
  pub single : has_number r.status ≡ true → r.count ≡ 1
  pub base : base_of r.status r.origin ≡ r.origin
  pub each : (i : ℕ) → i < r.count → StandsAs r.status r.origin i (get cells (page + i))
  pub parts : page + r.count < end → continues (get cells (page + r.count - 1)) 1 (get cells (page + r.count)) ≡ false

-- It is asked of rows whose state is known later.
abbrev pub AnswersRun : List Row → ℕ → ℕ → Run → Type 0
AnswersRun rows page end r = (space : ℕ) (st : State) → AreAsked space rows page (end - page) → RowsShown st rows → IsRunOf (space_at st space) page end r
