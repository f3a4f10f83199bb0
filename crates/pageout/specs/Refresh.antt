-- Marks that are looked at again.
--     kept      the mark of a page, if it has the frame that the mark says
--     is_in      whether a page is one of a span of a space
--     IsNextMark      the least page of a span of a space that has a mark, with its frame
--     HaveFrames      the pages of a span have the frames that their marks say
--     IsKeptAt, AreKept, AreRefreshed      the mark of a page is kept, if it is right;  of the pages of a span the right marks are;  are looked at again
--         (all other marks stay)
--     Refreshes      marks that are looked at again become what they became before
--     ArePartlyKept      the same however they are looked at, where some that are not right are taken
--     SettlesSame, AreSettled      the same of all pages of the work;  all of it is done
use Rattle.std.specs.Prelude.{◌≡◌, ℕ, ◌<◌, ◌≤◌, Bool, true, false, cond, ◌&&◌, nat_eq, Option, Some, None, IfSome}
use Rattle.page_map.specs.State.{State}
use Rattle.mm_model.specs.Pages.{frame_at}
use Rattle.pageout.specs.declared.marks.Mark.{Mark}
use Rattle.pageout.specs.declared.work.Span.{Span}
use Rattle.pageout.specs.declared.work.Work.{Work}
use Rattle.pageout.specs.Index.{Marks, mark_at, key_of}
use Rattle.pageout.specs.Work.{in_span, refreshed, settled}

abbrev pub kept : Option Mark → Option ℕ → Option Mark
kept None frame = None
kept (Some mark) None = None
kept (Some mark) (Some frame) = cond (nat_eq mark.frame frame) (Some mark) None

abbrev pub is_in : ℕ → Span → ℕ → ℕ → Bool
is_in space span s page = nat_eq s space && in_span span page

pub record IsNextMark (marks : Marks) (space first end page frame : ℕ) : Type 0 where
  pub from_there : first ≤ page
  pub before : page < end
  pub mark : Mark
  pub there : mark_at marks (key_of space page) ≡ Some mark
  pub frame_is : frame ≡ mark.frame
  pub least : (q : ℕ) → first ≤ q → q < page → mark_at marks (key_of space q) ≡ None

pub record HaveFrames (st : State) (space : ℕ) (span : Span) (marks : Marks) : Type 0 where
  pub each : (page : ℕ) → in_span span page ≡ true → IfSome (mark_at marks (key_of space page)) (λ mark. frame_at st space page ≡ Some mark.frame)

pub record IsKeptAt (st : State) (space page : ℕ) (old new : Marks) : Type 0 where
  pub each : (s q : ℕ) → mark_at new (key_of s q) ≡ cond (nat_eq s space && nat_eq q page) (kept (mark_at old (key_of s q)) (frame_at st s q)) (mark_at old (key_of s q))

pub record AreKept (st : State) (space : ℕ) (span : Span) (old new : Marks) : Type 0 where
  pub each : (s page : ℕ) → mark_at new (key_of s page) ≡ cond (is_in space span s page) (kept (mark_at old (key_of s page)) (frame_at st s page)) (mark_at old (key_of s page))

pub record AreRefreshed (st : State) (place : ℕ) (is_access : Bool) (space : ℕ) (span : Span) (old new : Marks) : Type 0 where
  pub each : (s page : ℕ) → mark_at new (key_of s page)
      ≡ cond (is_in space span s page) (refreshed place is_access (mark_at old (key_of s page)) (frame_at st s page)) (mark_at old (key_of s page))

pub record Refreshes (st : State) (place : ℕ) (is_access : Bool) (space : ℕ) (span : Span) (old new : Marks) : Type 0 where
  pub inside : (s page : ℕ) → refreshed place is_access (mark_at new (key_of s page)) (frame_at st s page) ≡ refreshed place is_access (mark_at old (key_of s page)) (frame_at st s page)
  pub outside : (s page : ℕ) → is_in space span s page ≡ false → mark_at new (key_of s page) ≡ mark_at old (key_of s page)

pub record ArePartlyKept (st : State) (space : ℕ) (span : Span) (old new : Marks) : Type 0 where
  pub each : (place : ℕ) (is_access : Bool) → Refreshes st place is_access space span old new

pub record SettlesSame (st : State) (w : Work) (old new : Marks) : Type 0 where
  pub each : (s page : ℕ) → settled new w st s page ≡ settled old w st s page

pub record AreSettled (st : State) (w : Work) (old new : Marks) : Type 0 where
  pub each : (s page : ℕ) → mark_at new (key_of s page) ≡ settled old w st s page
