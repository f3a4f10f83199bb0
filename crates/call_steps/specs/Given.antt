-- What a commit asks and what the give leaves, for a call that removes no position.
--     RemovesNone      a call that removes no position
--     MayEnter      what a commit asks, and what stands behind it
--     IsSamePass      a pass that stands where it stood
--     HasAnswered      the pass has seen its own entry, at the place of the ticket
--     IsFull      the pass has seen the whole journal, in which there is no place
--     Outcome      one of both
--     HasGiven      what the give leaves
use Rattle.std.specs.Prelude.{◌≡◌, ℕ, ◌+◌, ◌<◌, ◌≤◌, true, false, [], ◌++◌, List, length, Some, Result, Ok, Err}
use Rattle.corten_base.specs.declared.calls.Call.{Call}
use Rattle.corten_base.specs.declared.calls.Entry.{Entry}
use Rattle.book.specs.declared.commit.Answered.{Answered}
use Rattle.book.specs.declared.commit.JournalFull.{JournalFull}
use Rattle.page_map.specs.Effect.{is_given_up}
use Rattle.page_map.specs.History.{IsHistory}
use Rattle.page_map.specs.State.{State}
use Rattle.row_layout.specs.declared.places.Layout.{Layout}
use Rattle.row_table.specs.Books.{Learns, turned}
use Rattle.row_table.specs.Rule.{StartsWith}
use Rattle.table_place.specs.declared.Place.{Place}
use Rattle.machine_plan.specs.declared.kit.Kit.{Kit}
use Rattle.machine_plan.specs.Books.{BookData, RowSum}
use Rattle.machine_plan.specs.Follows.{machine}
use Rattle.machine_plan.specs.HeldRows.{Row}
use Rattle.cursor_apply.specs.Applying.{IsApplicable}
use Rattle.cursor_apply.specs.Linking.{IsLinkable}
use Rattle.call_steps.specs.Ready.{View, IsCovered, IsMadeOf}
use Rattle.call_steps.specs.Planned.{HasPlanned}
use Rattle.call_steps.specs.Steps.{HasEntered}

abbrev pub RemovesNone : Call → Type 0
RemovesNone c = (st : State) (p : Place) → is_given_up st c p ≡ false

-- v: the pass before its turn found the book old, w: with a plan, and with the book m
pub record MayEnter (k : Layout) (thread : ℕ) (c : Call) (v w : View) (m : BookData) (rows' : List Row) (kit' : Kit) : Type 0 where
  pub old : BookData
  pub rows : List Row
  pub kit : Kit
  pub number : v.number ≡ thread
  pub few : thread < 8
  pub layout : v.layout ≡ k
  pub table_rows : k.rows ≤ 1024
  pub levels : old.limits.levels ≡ k.levels
  pub learns : Learns machine k.rows v old
  pub sum : RowSum old
  pub nothing : (v.core.granted ≡ []) × (v.core.unlinked ≡ [])
  pub covered : IsCovered (length old.files) thread c v rows
  pub planned : HasPlanned k thread c (turned machine v old) old rows kit w m rows' kit'
  pub removes : RemovesNone c

pub record IsSamePass (v w : View) : Type 0 where
  pub number : w.number ≡ v.number
  pub layout : w.layout ≡ v.layout
  pub origin : w.origin ≡ v.origin
  pub epoch : w.epoch ≡ v.epoch
  pub stand : w.core.stand ≡ v.core.stand

abbrev pub own_entry : ℕ → Call → Answered → Entry
own_entry thread c answered = record { thread = thread; call = c; reply = answered.reply }

-- what it has seen is a legal history
pub record HasAnswered (thread : ℕ) (c : Call) (v w : View) (answered : Answered) : Type 0 where
  pub entered : HasEntered v w (own_entry thread c answered)
  pub ticket : answered.ticket ≡ length (v.seen ++ entered.others)
  pub place : (first : BookData) → v.origin ≡ Some first → answered.ticket < first.room
  pub legal : (first : BookData) → v.origin ≡ Some first → IsHistory first.limits first.files w.seen

pub record IsFull (v w : View) : Type 0 where
  pub seen : StartsWith w.seen v.seen
  pub mine : w.mine ≡ v.mine
  pub full : (first : BookData) → v.origin ≡ Some first → length w.seen ≡ first.room
  pub legal : (first : BookData) → v.origin ≡ Some first → IsHistory first.limits first.files w.seen

abbrev pub Outcome : ℕ → Call → View → View → Result Answered JournalFull → Type 0
Outcome thread c v w (Ok answered) = HasAnswered thread c v w answered
Outcome thread c v w (Err full) = IsFull v w

-- the book b was committed after a, or is a; g was given
pub record HasGiven (k : Layout) (thread : ℕ) (c : Call) (v w : View) (rows : List Row) (kit : Kit) : Type 0 where
  pub a : BookData
  pub b : BookData
  pub g : BookData
  pub applicable : IsApplicable a b thread c w rows kit
  pub linkable : kit.done ≡ true → IsLinkable a b thread c w rows kit
  pub room : kit.done ≡ true → length rows + length kit.rows.items ≤ k.rows
  pub made : IsMadeOf g b
  pub last : w.last ≡ Some g
  pub same : IsSamePass v w
  pub unlinked : w.core.unlinked ≡ []
