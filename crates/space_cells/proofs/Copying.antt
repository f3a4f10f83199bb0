-- Held pages of a range that are copied to another place, where none is held.
--     Copies      those before a page are, and nothing else has changed
--     none_copied, copied_more, all_placed      none yet;  one more;  all
use Rattle.std.proofs.Common.{◌≡◌, ℕ, ◌+◌, ◌-◌, ◌<◌, ◌≤◌, true, false, refl, sym, ap, ◌∙◌, arith}
use mathlib.Core.Bool.{true≢false}
use mathlib.Core.Logic.{inl, inr}
use Rattle.std.specs.Prelude.{None}
use Rattle.std.proofs.lemmas.Bool.{cases_eq, cases_lt}
use Rattle.table_place.specs.Range.{within}
use Rattle.table_place.proofs.Tables.{to_range}
use Rattle.space_cells.specs.declared.held.Number.{Number}
use Rattle.space_cells.specs.Held.{HeldPages, held_at, IsFirstHeld, Sets}
use Rattle.space_cells.specs.Moving.{ArePlaced}

pub record Copies (first count to next : ℕ) (old now : HeldPages) : Type 0 where
  pub low : first ≤ next
  pub high : next ≤ first + count
  pub others : (q : ℕ) → within to count q ≡ false → held_at now q ≡ held_at old q
  pub placed : (i : ℕ) → i < next - first → held_at now (to + i) ≡ held_at old (first + i)
  pub vacant : (i : ℕ) → next - first ≤ i → i < count → held_at now (to + i) ≡ None

module _ (first count to : ℕ) (old : HeldPages) (apart : (q : ℕ) → within first count q ≡ true → within to count q ≡ false) where
  pub none_copied : ((q : ℕ) → within to count q ≡ true → held_at old q ≡ None) → Copies first count to first old old
  none_copied free = record {
    low = omega arith;
    high = omega arith;
    others = λ q w. refl;
    placed = λ i low. absurd (omega (arith, low));
    vacant = λ i from low. free (to + i) (to_range to count (to + i) (omega arith) (omega (arith, low)));
  }

  module _ (next : ℕ) (now : HeldPages) (so_far : Copies first count to next old now) where
    -- a page of the range is held as it was
    still : (i : ℕ) → i < count → held_at now (first + i) ≡ held_at old (first + i)
    still i low = so_far.others (first + i) (apart (first + i) (to_range first count (first + i) (omega arith) (omega (arith, low))))

    pub copied_more : (page : ℕ) (number : Number) (new : HeldPages) → IsFirstHeld now next (first + count) page number → Sets now new (to + (page - first)) (held_at now page) → Copies first count to (page + 1) old new
    copied_more page number new at sets = record {
      low = omega (arith, so_far.low, at.from);
      high = omega (arith, at.before);
      others = λ q w.
          sets.others q (λ same. true≢false (sym (to_range to count q (omega (arith, same)) (omega (arith, same, at.before, at.from, so_far.low))) ∙ w)) ∙ so_far.others q w;
      placed = λ i low. elim (cases_eq i (page - first)) [
        | inl same ↦
            let here : page ≡ first + i = omega (arith, same, so_far.low, at.from) in
            ap (λ k. held_at new (to + k)) same ∙ sets.here ∙ ap (held_at now) here ∙ still i (omega (arith, same, so_far.low, at.from, at.before))
        | inr other ↦ sets.others (to + i) (λ same. other (omega (arith, same))) ∙ earlier i (omega (arith, low, other, so_far.low, at.from))
      ];
      vacant = λ i from low. sets.others (to + i) (λ same. absurd (omega (arith, same, from, so_far.low, at.from))) ∙ so_far.vacant i (omega (arith, from, so_far.low, at.from)) low;
    }
      where
        earlier : (i : ℕ) → i < page - first → held_at now (to + i) ≡ held_at old (first + i)
        earlier i low = elim (cases_lt i (next - first)) [
          | inl before ↦ so_far.placed i before
          | inr after ↦
              so_far.vacant i after (omega (arith, low, at.before, so_far.low, at.from))
              ∙ sym (at.least (first + i) (omega (arith, after, so_far.low)) (omega (arith, low, so_far.low, at.from)))
              ∙ still i (omega (arith, low, at.before, so_far.low, at.from))
        ]

    pub all_placed : ((q : ℕ) → next ≤ q → q < first + count → held_at now q ≡ None) → ArePlaced first count to old now
    all_placed none i low = elim (cases_lt i (next - first)) [
      | inl before ↦ so_far.placed i before
      | inr after ↦ so_far.vacant i after low ∙ sym (none (first + i) (omega (arith, after, so_far.low)) (omega (arith, low))) ∙ still i low
    ]
