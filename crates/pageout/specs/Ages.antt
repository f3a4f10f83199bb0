-- What is kept of a history.
--     answered      an answered call
--     IsMark      whether a page has this mark by the history: its frame and its last touch, and none where it has no frame
--     AreAgesOf      what is kept is that of a history
--     IsSame      the same is kept
--     IsMade, IsRight      an answered call that the machine makes;  whose reply is the machine's
use Rattle.std.specs.Prelude.{◌≡◌, ℕ, ◌+◌, ◌<◌, ◌≤◌, List, length, Option, Some, None}
use Rattle.corten_base.specs.declared.calls.Call.{Call}
use Rattle.corten_base.specs.declared.calls.Entry.{Entry}
use Rattle.corten_base.specs.declared.calls.Reply.{Reply}
use Rattle.corten_base.specs.declared.numbers.Limits.{Limits}
use Rattle.page_map.specs.State.{State, IsConsistent, linked, start}
use Rattle.page_map.specs.History.{IsHistory, after, entry_step, limbo_of}
use Rattle.mm_model.specs.Served.{IsServed}
use Rattle.mm_model.specs.Pages.{frame_at}
use Rattle.pageout.specs.declared.ages.Ages.{Ages}
use Rattle.pageout.specs.declared.marks.Mark.{Mark}
use Rattle.pageout.specs.Touches.{IsLastTouch}
use Rattle.pageout.specs.Work.{settled}

abbrev pub answered : ℕ → Call → Reply → Entry
answered thread c r = record { thread = thread; call = c; reply = r }

abbrev pub IsMark : State → List Entry → ℕ → ℕ → Option Mark → Type 0
IsMark st es space page None = frame_at (after st es) space page ≡ None
IsMark st es space page (Some mark) = (frame_at (after st es) space page ≡ Some mark.frame) × IsLastTouch st es space page mark.touched

abbrev pub mark_of : Ages → ℕ → ℕ → Option Mark
mark_of ages space page = settled ages.index.marks ages.work ages.plain space page

pub record AreAgesOf (limits : Limits) (files : List (List ℕ)) (es : List Entry) (ages : Ages) : Type 0 where
  pub legal : IsHistory limits files es
  pub state : ages.plain ≡ after (start limits files) es
  pub place : ages.place ≡ length es
  pub facts : IsConsistent ages.plain
  pub marks : (space page : ℕ) → IsMark (start limits files) es space page (mark_of ages space page)

-- the same state, and of each page the same last touch
pub record IsSame (old new : Ages) : Type 0 where
  pub plain : new.plain ≡ old.plain
  pub place : new.place ≡ old.place
  pub marks : (space page : ℕ) → mark_of new space page ≡ mark_of old space page

-- a call that the machine makes: a thread's number is below 8, and an access is of 1 to 4,096 bytes
pub record IsMade (e : Entry) : Type 0 where
  pub thread : e.thread < 8
  pub served : IsServed e.call

-- a reply that is the step's, where no more page tables are linked and in limbo than there are
pub record IsRight (ages : Ages) (e : Entry) : Type 0 where
  pub room : linked ages.plain + limbo_of e.reply ≤ ages.plain.limits.tables
  pub reply : e.reply ≡ (entry_step ages.plain e).0
