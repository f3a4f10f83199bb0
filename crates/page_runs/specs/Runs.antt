-- What the runs of a space tell of its pages.
--     IsPart      a run's part in a range: the first pages of the range that have marks, which go on from one another
--     HasNone      no page of a range has a mark
--     AreAlike, IsStretch      so many pages go on from a first one;  how many of a range do
--     IsFullFrom      how many pages of a range have marks before the first that has none
--     is_vacant      whether none has
--     HaveNoGap, AreCrowded      at no page of a range begins a gap of so many;  at none of those that are kept
--     AreKept      what is kept: runs, and pages at which no gap begins
use Rattle.std.specs.Prelude.{◌≡◌, ◌≢◌, ℕ, ◌+◌, ◌<◌, ◌≤◌, Bool, false, is_some, is_none, IsSome, None, Some}
use Rattle.std.specs.Option.{option_map}
use Rattle.std.specs.FinMap.{get}
use Rattle.page_map.specs.Change.{least}
use Rattle.page_runs.specs.declared.runs.Run.{Run}
use Rattle.page_runs.specs.Mark.{goes_on}
use Rattle.page_runs.specs.declared.crowds.Crowd.{Crowd}
use Rattle.page_runs.specs.Spans.{Spans, Marks, AreRuns, marks}

abbrev pub HasNone : Marks → ℕ → ℕ → Type 0
HasNone m first end = (page : ℕ) → first ≤ page → page < end → get m page ≡ None

pub record IsPart (m : Marks) (first end : ℕ) (run : Run) : Type 0 where
  pub from : first ≤ run.first
  pub some : 0 < run.count
  pub within : run.first + run.count ≤ end
  pub none_before : HasNone m first run.first
  pub there : (i : ℕ) → i < run.count → get m (run.first + i) ≡ Some (goes_on run.mark i)

-- all have marks that go on from the first one's, or none has a mark
abbrev pub AreAlike : Marks → ℕ → ℕ → Type 0
AreAlike m first count = (i : ℕ) → i < count → get m (first + i) ≡ option_map (λ mark. goes_on mark i) (get m first)

-- as many pages of a range as go on from its first one
pub record IsStretch (m : Marks) (first end count : ℕ) : Type 0 where
  pub some : 0 < count
  pub within : first + count ≤ end
  pub alike : AreAlike m first count
  pub ends : first + count < end → get m (first + count) ≢ option_map (λ mark. goes_on mark count) (get m first)

pub record IsFullFrom (m : Marks) (first end count : ℕ) : Type 0 where
  pub within : first + count ≤ end
  pub full : (i : ℕ) → i < count → IsSome (get m (first + i))
  pub ends : first + count < end → get m (first + count) ≡ None

-- whether no page of so many has a mark
abbrev pub is_vacant : Marks → ℕ → ℕ → Bool
is_vacant m first count = is_none (least first count (λ page. is_some (get m page)))

abbrev pub HaveNoGap : Marks → ℕ → ℕ → ℕ → Type 0
HaveNoGap m first end count = (start : ℕ) → first ≤ start → start < end → is_vacant m start count ≡ false

abbrev pub AreCrowded : Marks → Crowd → Type 0
AreCrowded m crowd = HaveNoGap m crowd.first crowd.end crowd.count

pub record AreKept (spans : Spans) (crowd : Crowd) : Type 0 where
  pub runs : AreRuns spans
  pub crowded : AreCrowded (marks spans) crowd
