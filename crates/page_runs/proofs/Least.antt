-- The least page of a range with a mark, without one, and from which on so many pages have none.
use Rattle.std.proofs.Common.{◌≡◌, ℕ, zero, suc, ◌+◌, ◌-◌, ◌<◌, ◌≤◌, Bool, true, false, cond, refl, sym, ap, ◌∙◌, arith}
use mathlib.Core.Bool.{true≢false}
use mathlib.Core.Logic.{inl, inr}
use Rattle.std.specs.Prelude.{Option, Some, None, is_some, is_none}
use Rattle.std.specs.FinMap.{get}
use Rattle.std.proofs.lemmas.Bool.{cases_eq}
use Rattle.page_map.specs.Change.{earliest, least}
use Rattle.page_map.proofs.Least.{unanswered}
use Rattle.page_runs.specs.declared.runs.Run.{Run}
use Rattle.page_runs.specs.Mark.{goes_on}
use Rattle.page_runs.specs.Spans.{Marks}
use Rattle.page_runs.specs.Runs.{HasNone, IsPart, is_vacant}

module _ (passes : ℕ → Bool) where
  or_later : Bool → ℕ → Option ℕ → Option ℕ
  or_later b first later = elim (cond b (Some first) None) [ Some n ↦ Some n | None ↦ later ]

  -- one number of the range passes, and none before it
  pub least_is : (first count n : ℕ) → first ≤ n → n < first + count → passes n ≡ true → ((k : ℕ) → first ≤ k → k < n → passes k ≡ false) → least first count passes ≡ Some n
  unfolding earliest or_later
  least_is first zero n low high is none = absurd (omega (arith, low, high))
  least_is first (suc count) n low high is none = elim (cases_eq first n) [
    | inl e ↦ ap (λ b. or_later b first (least (first + 1) count passes)) (ap passes e ∙ is) ∙ ap Some e
    | inr apart ↦
        ap (λ b. or_later b first (least (first + 1) count passes)) (none first (omega arith) (omega (arith, low, apart)))
        ∙ least_is (first + 1) count n (omega (arith, low, apart)) (omega (arith, high)) is (λ k after before. none k (omega (arith, after)) before)
  ]

  -- no number of the range passes
  pub least_none : (first count : ℕ) → ((k : ℕ) → first ≤ k → k < first + count → passes k ≡ false) → least first count passes ≡ None
  unfolding earliest or_later
  least_none first zero none = refl
  least_none first (suc count) none =
      ap (λ b. or_later b first (least (first + 1) count passes)) (none first (omega arith) (omega arith))
      ∙ least_none (first + 1) count (λ k low high. none k (omega (arith, low)) (omega (arith, high)))

  -- a number of the range passes, so there is a least one
  pub least_there : (first count n : ℕ) → first ≤ n → n < first + count → passes n ≡ true → is_none (least first count passes) ≡ false
  least_there first count n low high is = go (least first count passes) refl
    where
      not : (b : Bool) → b ≡ true → ◌≡◌ {A = Option ℕ} (cond b (Some n) None) None → ⊥
      not true e h = cc
      not false e h = true≢false (sym e)

      go : (o : Option ℕ) → least first count passes ≡ o → is_none o ≡ false
      go (Some k) e = refl
      go None e = absurd (not (passes n) is (unanswered (λ k. cond (passes k) (Some k) None) first count e n low high))

module _ (m : Marks) (first end : ℕ) (run : Run) (part : IsPart m first end run) where
  pub at_first : get m run.first ≡ Some (goes_on run.mark 0)
  at_first = ap (get m) (omega arith) ∙ part.there 0 part.some

  -- a page of the part
  pub is_there : (page : ℕ) → run.first ≤ page → page < run.first + run.count → is_some (get m page) ≡ true
  is_there page low high =
      let at : page ≡ run.first + (page - run.first) = omega (arith, low) in
      ap (λ q. is_some (get m q)) at ∙ ap is_some (part.there (page - run.first) (omega (arith, low, high)))

  pub is_no_hole : (page : ℕ) → run.first ≤ page → page < run.first + run.count → is_none (get m page) ≡ false
  is_no_hole page low high =
      let at : page ≡ run.first + (page - run.first) = omega (arith, low) in
      ap (λ q. is_none (get m q)) at ∙ ap is_none (part.there (page - run.first) (omega (arith, low, high)))

  pub is_next : least first (end - first) (λ page. is_some (get m page)) ≡ Some run.first
  is_next = least_is (λ page. is_some (get m page)) first (end - first) run.first part.from (omega (arith, part.from, part.some, part.within))
      (is_there run.first (omega arith) (omega (arith, part.some))) (λ k low high. ap is_some (part.none_before k low high))

module _ (m : Marks) (first end : ℕ) where
  pub is_no_next : first ≤ end → HasNone m first end → least first (end - first) (λ page. is_some (get m page)) ≡ None
  is_no_next low none = least_none (λ page. is_some (get m page)) first (end - first) (λ k from to. ap is_some (none k from (omega (arith, to, low))))

  -- the pages before `next` have marks
  abbrev pub IsFullUpTo : ℕ → Type 0
  IsFullUpTo next = (page : ℕ) → first ≤ page → page < next → is_none (get m page) ≡ false

  pub is_hole : (next : ℕ) → first ≤ next → next < end → IsFullUpTo next → get m next ≡ None → least first (end - first) (λ page. is_none (get m page)) ≡ Some next
  is_hole next low high full none = least_is (λ page. is_none (get m page)) first (end - first) next low (omega (arith, low, high)) (ap is_none none) full

  pub is_no_hole_at_all : first ≤ end → IsFullUpTo end → least first (end - first) (λ page. is_none (get m page)) ≡ None
  is_no_hole_at_all low full = least_none (λ page. is_none (get m page)) first (end - first) (λ k from to. full k from (omega (arith, to, low)))

  module _ (count : ℕ) where
    -- no start before `start` will do
    abbrev pub AreTaken : ℕ → Type 0
    AreTaken start = (s : ℕ) → first ≤ s → s < start → is_vacant m s count ≡ false

    vacant : (start : ℕ) → HasNone m start (start + count) → is_vacant m start count ≡ true
    vacant start none = ap is_none (least_none (λ page. is_some (get m page)) start count (λ k low high. ap is_some (none k low high)))

    pub is_gap : (start : ℕ) → first ≤ start → start + count ≤ end → AreTaken start → HasNone m start (start + count) →
        least first (end + 1 - (first + count)) (λ s. is_vacant m s count) ≡ Some start
    is_gap start low high taken none = least_is (λ s. is_vacant m s count) first (end + 1 - (first + count)) start low (omega (arith, low, high)) (vacant start none) taken

    pub is_no_gap : (start : ℕ) → end < start + count → AreTaken start → least first (end + 1 - (first + count)) (λ s. is_vacant m s count) ≡ None
    is_no_gap start few taken = least_none (λ s. is_vacant m s count) first (end + 1 - (first + count)) (λ s low high. taken s low (omega (arith, few, high)))
