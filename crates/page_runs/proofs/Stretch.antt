-- How far pages go on from a first one, over runs that meet.
use Rattle.std.proofs.Common.{◌≡◌, ◌≢◌, ℕ, ◌+◌, ◌-◌, ◌<◌, ◌≤◌, sym, ap, ◌∙◌, arith}
use mathlib.Core.Logic.{inl, inr}
use Rattle.std.specs.Prelude.{Some}
use Rattle.std.specs.Option.{option_map}
use Rattle.std.specs.FinMap.{get}
use Rattle.std.proofs.lemmas.Bool.{cases_lt}
use Rattle.page_runs.specs.declared.mark.Mark.{Mark}
use Rattle.page_runs.specs.declared.runs.Run.{Run}
use Rattle.page_runs.specs.Mark.{goes_on}
use Rattle.page_runs.specs.Spans.{Marks}
use Rattle.page_runs.specs.Runs.{IsPart, IsStretch}
use Rattle.page_runs.proofs.Views.{same_some, not_some}
use Rattle.page_runs.proofs.Parts.{goes_on-zero}
use Rattle.page_runs.proofs.Split.{goes_on-goes_on}
use Rattle.page_runs.proofs.Least.{at_first}

module _ (m : Marks) (first end : ℕ) where
  -- so many pages have marks that go on from one
  abbrev pub GoFrom : Mark → ℕ → Type 0
  GoFrom mark count = (i : ℕ) → i < count → get m (first + i) ≡ Some (goes_on mark i)

  first_mark : (mark : Mark) (count : ℕ) → 0 < count → GoFrom mark count → get m first ≡ Some mark
  first_mark mark count some go = ap (get m) (omega arith) ∙ go 0 some ∙ ap Some (goes_on-zero mark)

  -- a part that goes on
  pub one_more : (mark : Mark) (count : ℕ) (next : Run) → GoFrom mark count → IsPart m (first + count) end next → next.first ≤ first + count → goes_on mark count ≡ next.mark → GoFrom mark (count + next.count)
  one_more mark count next go part low same i below = elim (cases_lt i count) [
    | inl before ↦ go i before
    | inr after ↦
        let at : first + i ≡ next.first + (i - count) = omega (arith, low, part.from, after) in
        let sum : count + (i - count) ≡ i = omega (arith, after) in
        ap (get m) at ∙ part.there (i - count) (omega (arith, below, after))
        ∙ ap Some (ap (λ n. goes_on n (i - count)) (sym same) ∙ goes_on-goes_on mark count (i - count) ∙ ap (goes_on mark) sum)
  ]

  is_stretch : (mark : Mark) (count : ℕ) → 0 < count → first + count ≤ end → GoFrom mark count → (first + count < end → get m (first + count) ≢ Some (goes_on mark count)) → IsStretch m first end count
  is_stretch mark count some within go stops =
      let here = first_mark mark count some go in
      record {
        some = some;
        within = within;
        alike = λ i below. go i below ∙ sym (ap (option_map (λ n. goes_on n i)) here);
        ends = λ less same. stops less (same ∙ ap (option_map (λ n. goes_on n count)) here);
      }

  -- the next part starts later
  pub stops_before : (mark : Mark) (count : ℕ) (next : Run) → 0 < count → first + count ≤ end → GoFrom mark count → IsPart m (first + count) end next → first + count < next.first → IsStretch m first end count
  stops_before mark count next some within go part less =
      is_stretch mark count some within go (λ short same. not_some (sym (part.none_before (first + count) (omega arith) less) ∙ same))

  -- the next part does not go on
  pub stops_at : (mark : Mark) (count : ℕ) (next : Run) → 0 < count → first + count ≤ end → GoFrom mark count → IsPart m (first + count) end next → next.first ≤ first + count → (goes_on mark count ≡ next.mark → ⊥) →
      IsStretch m first end count
  stops_at mark count next some within go part low other =
      is_stretch mark count some within go (λ short same.
      let at : next.first ≡ first + count = omega (arith, low, part.from) in
      other (sym (sym (goes_on-zero next.mark) ∙ same_some (sym (at_first m (first + count) end next part) ∙ ap (get m) at ∙ same))))
