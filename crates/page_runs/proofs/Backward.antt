-- Going back over runs that go on from one another.
--     GoUpTo      from a page on the marks go on up to another one
--     is_run_with, not_with      the run that a page is in
--     one_back      a run that goes on into the first page
--     none_back, other_back      where none does
use Rattle.std.proofs.Common.{◌≡◌, ℕ, ◌+◌, ◌-◌, max, ◌<◌, ◌≤◌, sym, ap, ◌∙◌, arith}
use mathlib.Core.Logic.{inl, inr}
use Rattle.std.specs.Prelude.{Some, None, is_some}
use Rattle.std.specs.Option.{option_map}
use Rattle.std.specs.FinMap.{get}
use Rattle.std.proofs.lemmas.Bool.{cases_lt}
use Rattle.page_runs.specs.declared.mark.Mark.{Mark}
use Rattle.page_runs.specs.declared.spans.Span.{Span}
use Rattle.page_runs.specs.declared.spans.Marked.{Marked}
use Rattle.page_runs.specs.Mark.{goes_on}
use Rattle.page_runs.specs.Spans.{Spans, Marks, marks, AreRuns, IsLastUpTo}
use Rattle.page_runs.specs.Starts.{IsRunWith, IsStart}
use Rattle.page_runs.proofs.Views.{not_some, same_some}
use Rattle.page_runs.proofs.Parts.{run_has}
use Rattle.page_runs.proofs.Split.{goes_on-goes_on}

pub is_run_with : (spans : Spans) (runs : AreRuns spans) (page first : ℕ) (span : Span) (mark : Mark) → IsLastUpTo spans page first span → span.mark ≡ Some mark → page - first < span.count →
    IsRunWith (marks spans) page (record { first = first; count = span.count; mark = mark })
is_run_with spans runs page first span mark at is inside = record {
  near = at.near;
  inside = omega (arith, at.near, inside);
  there = λ i below. run_has spans runs first span at.there i below ∙ ap (option_map (λ m. goes_on m i)) is;
}

module _ (m : Marks) (low page : ℕ) where
  pub record GoUpTo (start : ℕ) (mark : Mark) : Type 0 where
    pub from : low ≤ start
    pub near : start ≤ page
    pub here : get m start ≡ Some mark
    pub on : (q : ℕ) → start ≤ q → q < page → get m (q + 1) ≡ option_map (λ n. goes_on n 1) (get m q)

  module _ (start : ℕ) (mark : Mark) (so_far : GoUpTo start mark) (before : low < start) where
    back : start - 1 + 1 ≡ start
    back = omega (arith, before)

    pub none_back : get m (start - 1) ≡ None → IsStart m low page start
    none_back none = record {
      from = so_far.from;
      near = so_far.near;
      there = ap is_some so_far.here;
      on = so_far.on;
      begins = λ _ same. not_some (sym (same ∙ ap (option_map (λ n. goes_on n 1)) none) ∙ so_far.here);
    }

    module _ (run : Marked) (with : IsRunWith m (start - 1) run) where
      -- a page of the run
      pub run_at : (q : ℕ) → run.first ≤ q → q < start → get m q ≡ Some (goes_on run.mark (q - run.first))
      run_at q from below =
          let at : q ≡ run.first + (q - run.first) = omega (arith, from) in
          ap (get m) at ∙ with.there (q - run.first) (omega (arith, from, below, with.inside, before))

      next_of : (q : ℕ) → run.first ≤ q → q < start → option_map (λ n. goes_on n 1) (get m q) ≡ Some (goes_on run.mark (q + 1 - run.first))
      next_of q from below =
          let sum : q - run.first + 1 ≡ q + 1 - run.first = omega (arith, from) in
          ap (option_map (λ n. goes_on n 1)) (run_at q from below) ∙ ap Some (goes_on-goes_on run.mark (q - run.first) 1 ∙ ap (goes_on run.mark) sum)

      pub other_back : (goes_on run.mark (start - run.first) ≡ mark → ⊥) → IsStart m low page start
      other_back other = record {
        from = so_far.from;
        near = so_far.near;
        there = ap is_some so_far.here;
        on = so_far.on;
        begins = λ _ same.
            let sum : start - 1 + 1 - run.first ≡ start - run.first = omega (arith, before) in
            other (sym (ap (goes_on run.mark) sum) ∙ same_some (sym (next_of (start - 1) with.near (omega (arith, before))) ∙ sym same ∙ so_far.here));
      }

      pub one_back : (new : ℕ) → new ≡ max run.first low → goes_on run.mark (start - run.first) ≡ mark → GoUpTo new (goes_on run.mark (new - run.first))
      one_back new is goes = record {
        from = omega (arith, is);
        near = omega (arith, is, so_far.near, before, with.near);
        here = run_at new (omega (arith, is)) (omega (arith, is, before, with.near));
        on = λ q a b. elim (cases_lt q start) [
          | inr after ↦ so_far.on q after b
          | inl earlier ↦
              let from : run.first ≤ q = omega (arith, is, a) in
              sym (next_of q from earlier ∙ elim (cases_lt (q + 1) start) [
                | inl inner ↦ sym (run_at (q + 1) (omega (arith, from)) inner)
                | inr edge ↦
                    let same : q + 1 ≡ start = omega (arith, edge, earlier) in
                    ap Some (ap (λ k. goes_on run.mark (k - run.first)) same ∙ goes) ∙ sym (ap (get m) same ∙ so_far.here)
              ])
        ];
      }

  pub is_start : (mark : Mark) → GoUpTo low mark → IsStart m low page low
  is_start mark so_far = record { from = so_far.from; near = so_far.near; there = ap is_some so_far.here; on = so_far.on; begins = λ less. absurd (omega (arith, less)) }
