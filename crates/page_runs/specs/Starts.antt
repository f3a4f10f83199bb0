-- Where the pages begin that go on from one another up to a page.
--     IsRunWith      the run that a page is in
--     IsStart      the least page from a first one on from which on the marks go on up to a page
use Rattle.std.specs.Prelude.{◌≡◌, ◌≢◌, ℕ, ◌+◌, ◌-◌, ◌<◌, ◌≤◌, Some, IsSome}
use Rattle.std.specs.Option.{option_map}
use Rattle.std.specs.FinMap.{get}
use Rattle.page_runs.specs.declared.spans.Marked.{Marked}
use Rattle.page_runs.specs.Mark.{goes_on}
use Rattle.page_runs.specs.Spans.{Marks}

pub record IsRunWith (m : Marks) (page : ℕ) (run : Marked) : Type 0 where
  pub near : run.first ≤ page
  pub inside : page < run.first + run.count
  pub there : (i : ℕ) → i < run.count → get m (run.first + i) ≡ Some (goes_on run.mark i)

-- each page goes on from the one before it, and what stands before the first one does not go on into it
pub record IsStart (m : Marks) (low page first : ℕ) : Type 0 where
  pub from : low ≤ first
  pub near : first ≤ page
  pub there : IsSome (get m first)
  pub on : (q : ℕ) → first ≤ q → q < page → get m (q + 1) ≡ option_map (λ mark. goes_on mark 1) (get m q)
  pub begins : low < first → get m first ≢ option_map (λ mark. goes_on mark 1) (get m (first - 1))
