-- Changes of the pages of ranges.
--     made, painted      what an effect makes of a page, and of a run
--     after_change, after_changes      what stands at the pages after a change;  after some in order
--     IsChange      a range within the numbers of 64 bits, whose indexes are too
--     IsWhole      a run has the pages of a range, and no others
--     IsOpen, IsLaid      no run goes across a range's edges, and one has its first page;  one run is in the place of those of the range
--     trimmed, IsTrimmed      a run that ends at a page at the latest;  each run that starts before a page ends there at the latest
--     no_run, IsCleared      nothing, whatever starts at a page;  none starts in a range, and each before it ends there at the latest
--     IsFilled, IsCut      what is done for a change beforehand: runs have all pages that it maps;  none goes across its edges
use Rattle.std.specs.Prelude.{◌≡◌, ℕ, ◌+◌, ◌-◌, ◌^◌, ◌<◌, ◌≤◌, List, Option, Some, None, min}
use Rattle.std.specs.Ordering.{nat_cmp}
use Rattle.std.specs.BTreeMap.{IsOrdered}
use Rattle.std.specs.Option.{option_map}
use Rattle.std.specs.List.{fold}
use Rattle.page_runs.specs.declared.mark.Mark.{Mark}
use Rattle.page_runs.specs.declared.spans.Span.{Span}
use Rattle.page_runs.specs.declared.change.Change.{Change}
use Rattle.page_runs.specs.declared.change.Effect.{Effect}
use Rattle.page_runs.specs.declared.change.Effect.TheVariants.{Map, Unmap, Protect}
use Rattle.page_runs.specs.Mark.{goes_on, index_of, with_perm}
use Rattle.page_runs.specs.Spans.{Spans, Marks, mapped, unmapped, protected, span_at, AreTaken, IsEdge, IsTaken}

-- what an effect makes of a page that stands so many pages after the first one
abbrev pub made : Effect → ℕ → Option Mark → Option Mark
made (Map mark) place old = Some (goes_on mark place)
made Unmap place old = None
made (Protect perm) place old = option_map (with_perm perm) old

abbrev pub after_effect : Effect → ℕ → ℕ → Marks → Marks
after_effect (Map mark) first count m = mapped m first count mark
after_effect Unmap first count m = unmapped m first count
after_effect (Protect perm) first count m = protected m first count perm

abbrev pub after_change : Marks → Change → Marks
after_change m change = after_effect change.effect change.first change.count m

-- each change on what the ones before it left
abbrev pub after_changes : Marks → List Change → Marks
after_changes m changes = fold after_change m changes

abbrev pub index_in : Effect → ℕ
index_in (Map mark) = index_of mark.backing
index_in Unmap = 0
index_in (Protect perm) = 0

pub record IsChange (change : Change) : Type 0 where
  pub pages : change.first + change.count < 2 ^ 64
  pub indexes : index_in change.effect + change.count < 2 ^ 64

-- the same of the run that starts at a page of the range
abbrev pub painted : Change → ℕ → Option Span → Option Span
painted change q = option_map (λ span. record { count = span.count; mark = made change.effect (q - change.first) span.mark })

abbrev pub IsFilled : Spans → Change → Type 0
IsFilled spans change = (mark : Mark) → change.effect ≡ Map mark → AreTaken spans change.first (change.first + change.count)

pub record IsCut (spans : Spans) (change : Change) : Type 0 where
  pub start : IsEdge change.first spans
  pub stop : IsEdge (change.first + change.count) spans

pub record IsWhole (spans : Spans) (first count : ℕ) (span : Span) : Type 0 where
  pub there : span_at spans first ≡ Some span
  pub as_many : span.count ≡ count

pub record IsOpen (spans : Spans) (first end : ℕ) : Type 0 where
  pub start : IsEdge first spans
  pub stop : IsEdge end spans
  pub taken : IsTaken spans first

pub record IsLaid (old new : Spans) (first count : ℕ) (mark : Mark) : Type 0 where
  pub ordered : IsOrdered nat_cmp new
  pub here : span_at new first ≡ Some (record { count = count; mark = Some mark })
  pub inside : (q : ℕ) → first < q → q < first + count → span_at new q ≡ None
  pub below : (q : ℕ) → q < first → span_at new q ≡ span_at old q
  pub above : (q : ℕ) → first + count ≤ q → span_at new q ≡ span_at old q

abbrev pub trimmed : ℕ → ℕ → Option Span → Option Span
trimmed page q = option_map (λ span. record { count = min span.count (page - q); mark = span.mark })

pub record IsTrimmed (old new : Spans) (page : ℕ) : Type 0 where
  pub ordered : IsOrdered nat_cmp new
  pub below : (q : ℕ) → q < page → span_at new q ≡ trimmed page q (span_at old q)
  pub above : (q : ℕ) → page ≤ q → span_at new q ≡ span_at old q

abbrev pub no_run : ℕ → Option Span → Option Span
no_run q span = None

pub record IsCleared (old new : Spans) (first end : ℕ) : Type 0 where
  pub ordered : IsOrdered nat_cmp new
  pub below : (q : ℕ) → q < first → span_at new q ≡ trimmed first q (span_at old q)
  pub inside : (q : ℕ) → first ≤ q → q < end → span_at new q ≡ None
  pub above : (q : ℕ) → end ≤ q → span_at new q ≡ span_at old q
