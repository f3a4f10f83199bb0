-- Events with their answers, in the order in which they came.
--     Entry, answered, History      an event with its answer, and all that came so far
--     Is      an entry is this event with this answer
--     Stands      an entry stands, and none after it undoes it
use Rattle.std.specs.Prelude.{◌≡◌, ◌++◌, ◌∷◌, List, All}
use Rattle.tlb_core.specs.declared.events.TlbEvent.{TlbEvent}
use Rattle.tlb_core.specs.declared.events.TlbAnswer.{TlbAnswer}

pub record Entry : Type 0 where
  pub event : TlbEvent
  pub answer : TlbAnswer

abbrev pub answered : TlbEvent → TlbAnswer → Entry
answered event answer = record { event = event; answer = answer }

abbrev pub History : Type 0
History = List Entry

abbrev pub Is : TlbEvent → TlbAnswer → Entry → Type 0
Is event answer x = (x.event ≡ event) × (x.answer ≡ answer)

-- An entry stands in the history that makes something, by what came before it, and none that came later undoes it.
pub record Stands (makes : History → Entry → Type 0) (undoes : Entry → Type 0) (h : History) : Type 0 where
  pub before : History
  pub entry : Entry
  pub later : History
  pub whole : h ≡ before ++ entry ∷ later
  pub made : makes before entry
  pub kept : All (λ x. ¬ undoes x) later
