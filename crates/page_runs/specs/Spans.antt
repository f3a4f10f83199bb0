-- Runs of pages by their first pages.
--     mapped, unmapped, protected      what stands at the pages of a space after those of a range changed
--     span_at      the run that starts at a page
--     marks      what the runs say of each page
--     AreRuns      runs that have pages, and none in common
--     IsEdge      no run goes on across a page's beginning
--     EndBy      each run that starts before a page ends by another
--     IsTaken, IsFree      a run has the page;  none has it
--     AreTaken, IsTakenTo, IsGap      a run has each page of a range;  each from a page on up to another;  no run starts there
--     IsLastUpTo, IsFirstFrom      the last run that starts up to a page;  the first that starts in a range
--     HaveNone, IsFirstMarked      no run with marks starts in a range;  the first that does
--     IsRest      what is left of a run from a page on
--     Sets, Changes      one run is set;  the runs that start in a range change
use Rattle.std.specs.Prelude.{◌≡◌, ℕ, ◌+◌, ◌-◌, ◌^◌, ◌<◌, ◌≤◌, ◌≢◌, List, [], ◌∷◌, Option, Some, None}
use Rattle.std.specs.Option.{option_map}
use Rattle.std.specs.Ordering.{nat_cmp}
use Rattle.std.specs.BTreeMap.{BTreeMap, IsOrdered}
use Rattle.std.specs.BTreeMap as tree
use Rattle.std.specs.FinMap.{FinMap, empty, get}
use Rattle.page_map.specs.Change.{change}
use Rattle.page_runs.specs.declared.mark.Mark.{Mark}
use Rattle.page_runs.specs.declared.spans.Span.{Span}
use Rattle.page_runs.specs.declared.spans.Marked.{Marked}
use Rattle.page_runs.specs.Mark.{first_index, goes_on, onward, with_perm}
use Rattle.corten_base.specs.declared.permissions.Perm.{Perm}

abbrev pub Spans : Type 0
Spans = BTreeMap ℕ Span

abbrev pub Marks : Type 0
Marks = FinMap nat_cmp Mark

-- marks that go on from one, in the place of what was there
abbrev pub mapped : Marks → ℕ → ℕ → Mark → Marks
mapped m first count mark = change m first count (λ page _. Some (goes_on mark (page - first)))

-- no marks
abbrev pub unmapped : Marks → ℕ → ℕ → Marks
unmapped m first count = change m first count (λ _ _. None)

-- other permissions where there are marks
abbrev pub protected : Marks → ℕ → ℕ → Perm → Marks
protected m first count perm = change m first count (λ _. option_map (with_perm perm))

-- the run that starts at a page
abbrev pub span_at : Spans → ℕ → Option Span
span_at spans first = tree.get nat_cmp spans first

-- each page of a run has the mark that goes on from the run's first one, or none if the run has no marks
unfoldable pub marks_of : List (ℕ × Span) → Marks
marks_of [] = empty
marks_of (e ∷ es) = change (marks_of es) e.0 e.1.count (λ page _. onward e.1.mark (page - e.0))

abbrev pub marks : Spans → Marks
marks spans = marks_of spans.entries

-- a run has a page, and its pages and their indexes in its file are numbers of 64 bits
pub record IsRun (first : ℕ) (span : Span) : Type 0 where
  pub some : 0 < span.count
  pub pages : first + span.count < 2 ^ 64
  pub indexes : first_index span.mark + span.count < 2 ^ 64

-- no page is in two of them
pub record AreRuns (spans : Spans) : Type 0 where
  pub ordered : IsOrdered nat_cmp spans
  pub whole : (first : ℕ) (span : Span) → span_at spans first ≡ Some span → IsRun first span
  pub apart : (first later : ℕ) (span next : Span) → span_at spans first ≡ Some span → span_at spans later ≡ Some next → first < later → first + span.count ≤ later

-- each run that starts before the page ends before it
abbrev pub IsEdge : ℕ → Spans → Type 0
IsEdge page spans = (first : ℕ) (span : Span) → span_at spans first ≡ Some span → first < page → first + span.count ≤ page

abbrev pub EndBy : ℕ → ℕ → Spans → Type 0
EndBy end page spans = (first : ℕ) (span : Span) → span_at spans first ≡ Some span → first < page → first + span.count ≤ end

pub record IsTaken (spans : Spans) (page : ℕ) : Type 0 where
  pub first : ℕ
  pub span : Span
  pub there : span_at spans first ≡ Some span
  pub low : first ≤ page
  pub high : page < first + span.count

abbrev pub IsFree : Spans → ℕ → Type 0
IsFree spans page = (first : ℕ) (span : Span) → span_at spans first ≡ Some span → first ≤ page → first + span.count ≤ page

abbrev pub AreTaken : Spans → ℕ → ℕ → Type 0
AreTaken spans first end = (page : ℕ) → first ≤ page → page < end → IsTaken spans page

-- no run starts from a page on up to another
pub record IsGap (spans : Spans) (first end : ℕ) : Type 0 where
  pub some : first < end
  pub none : (q : ℕ) → first ≤ q → q < end → span_at spans q ≡ None

pub record IsTakenTo (spans : Spans) (first end : ℕ) : Type 0 where
  pub some : first < end
  pub taken : AreTaken spans first end

pub record IsLastUpTo (spans : Spans) (page first : ℕ) (span : Span) : Type 0 where
  pub near : first ≤ page
  pub there : span_at spans first ≡ Some span
  pub last : (q : ℕ) → first < q → q ≤ page → span_at spans q ≡ None

-- from the page on so many pages go on from one another
pub record IsRest (m : Marks) (page : ℕ) (rest : Marked) : Type 0 where
  pub some : 0 < rest.count
  pub here : get m page ≡ Some rest.mark
  pub there : (i : ℕ) → i < rest.count → get m (page + i) ≡ Some (goes_on rest.mark i)

pub record IsFirstFrom (spans : Spans) (low end first : ℕ) (span : Span) : Type 0 where
  pub from : low ≤ first
  pub before : first < end
  pub there : span_at spans first ≡ Some span
  pub least : (q : ℕ) → low ≤ q → q < first → span_at spans q ≡ None

abbrev pub HaveNone : Spans → ℕ → ℕ → Type 0
HaveNone spans first end = (q : ℕ) (span : Span) → first ≤ q → q < end → span_at spans q ≡ Some span → span.mark ≡ None

pub record IsFirstMarked (spans : Spans) (low end : ℕ) (found : Marked) : Type 0 where
  pub from : low ≤ found.first
  pub before : found.first < end
  pub there : span_at spans found.first ≡ Some (record { count = found.count; mark = Some found.mark })
  pub none : HaveNone spans low found.first

-- what starts at one page is set, and each other page keeps what starts there
pub record Sets (old new : Spans) (first : ℕ) (span : Option Span) : Type 0 where
  pub ordered : IsOrdered nat_cmp new
  pub here : span_at new first ≡ span
  pub others : (q : ℕ) → q ≢ first → span_at new q ≡ span_at old q

-- what starts in a range changes by a function of the page and of what starts there, and all else stays
pub record Changes (f : ℕ → Option Span → Option Span) (first end : ℕ) (old new : Spans) : Type 0 where
  pub ordered : IsOrdered nat_cmp new
  pub below : (q : ℕ) → q < first → span_at new q ≡ span_at old q
  pub changed : (q : ℕ) → first ≤ q → q < end → span_at new q ≡ f q (span_at old q)
  pub above : (q : ℕ) → end ≤ q → span_at new q ≡ span_at old q
