-- The calls of a pass and the events of the pure core.
--     IsEvent      a pass that knew v and then knows w has done the event, on the word at this place, which held the one number and then the other
--     KeepsLists      the event leaves the book's lists as they are
use Rattle.std.specs.Prelude.{◌≡◌, ℕ, List}
use Rattle.walk_core.specs.declared.event.Event.{Event}
use Rattle.walk_core.specs.declared.lists.PutRow.{PutRow}
use Rattle.walk_core.specs.Events.{pass_of, place_of, number_after, pass_after, free_after, limbo_after}
use Rattle.row_table.specs.declared.view.PassView.{PassView}

pub record IsEvent {R B E : Type 0} (e : Event) (place found number : ℕ) (v w : PassView R B E) : Type 0 where
  pub own : pass_of e ≡ v.number
  pub at : place_of v.layout.rows v.layout.passes e ≡ place
  pub now : number_after e found ≡ number
  pub after : w.core ≡ pass_after v.layout.levels e found v.core

abbrev pub KeepsLists : Event → Type 0
KeepsLists e = (free : List ℕ) (limbo : List PutRow) → (free_after e free ≡ free) × (limbo_after e limbo ≡ limbo)
