-- The next page of a space that has a mark.
use Rattle.std.proofs.Common.{◌≡◌, ℕ, ◌<◌, ◌≤◌, false, List, [], ◌∷◌, refl, sym, ap, subst, ◌∙◌, arith}
use mathlib.Core.Bool.{true≢false}
use Rattle.std.specs.Prelude.{Option, Some, None, IsSome, IfSome}
use Rattle.std.specs.List.{slice_get}
use Rattle.std.specs.Ordering.{nat_cmp, ordering_then, is_gt, MatchOrdering}
use Rattle.std.specs.declared.cmp.Ordering.{Ordering}
use Rattle.std.specs.declared.cmp.Ordering.TheVariants.{Less, Equal, Greater}
use Rattle.std.specs.declared.ops.Bound.TheVariants.{Included, Unbounded}
use Rattle.std.specs.BTreeMap.Range.{IsRangeOf, IsEntryInRange}
use Rattle.std.proofs.lemmas.Cmp.{ranked}
use Rattle.std.specs.Cmp.{nat_cmp_is}
use Rattle.pageout.specs.declared.marks.Key.{Key}
use Rattle.pageout.specs.declared.marks.Mark.{Mark}
use Rattle.pageout.specs.Index.{Marks, key_cmp, key_of, mark_at}
use Rattle.pageout.specs.Refresh.{IsNextMark}

-- one page is not behind another
pub record IsUpTo (a b : Key) : Type 0 where
  pub space : a.space ≤ b.space
  pub page : a.space ≡ b.space → a.page ≤ b.page

up_to : (s t p q : ℕ) (a b : Ordering) → MatchOrdering a (s < t) (s ≡ t) (t < s) → MatchOrdering b (p < q) (p ≡ q) (q < p) → is_gt (ordering_then a b) ≡ false → (s ≤ t) × (s ≡ t → p ≤ q)
up_to s t p q Less b h g e = (omega arith, λ same. absurd (omega (arith, h, same)))
up_to s t p q Equal Less h g e = (omega arith, λ same. omega arith)
up_to s t p q Equal Equal h g e = (omega arith, λ same. omega arith)
up_to s t p q Equal Greater h g e = absurd (true≢false e)
up_to s t p q Greater b h g e = absurd (true≢false e)

pub is_up_to : (a b : Key) → is_gt (key_cmp a b) ≡ false → IsUpTo a b
is_up_to a b e =
    let h = up_to a.space b.space a.page b.page (nat_cmp a.space b.space) (nat_cmp a.page b.page) (ranked a.space b.space _ refl) (ranked a.page b.page _ refl) e in
    record { space = h.0; page = h.1 }

-- pages of one space
not_behind : (p q : ℕ) (b : Ordering) → MatchOrdering b (p < q) (p ≡ q) (q < p) → p ≤ q → is_gt b ≡ false
not_behind p q Less g h = refl
not_behind p q Equal g h = refl
not_behind p q Greater g h = absurd (omega (arith, g, h))

pub in_order : (space p q : ℕ) → p ≤ q → is_gt (key_cmp (key_of space p) (key_of space q)) ≡ false
in_order space p q h =
    ap (λ a. is_gt (ordering_then a (nat_cmp p q))) (sym (nat_cmp_is space space Equal refl)) ∙ not_behind p q (nat_cmp p q) (ranked p q _ refl) h

is_none : (o : Option Mark) → (IsSome o → ⊥) → o ≡ None
is_none None h = refl
is_none (Some m) h = absurd (h refl)

module _ (marks : Marks) (space first : ℕ) (found : List (Key × Mark)) (range : IsRangeOf key_cmp (Included (key_of space first)) Unbounded marks.by_page found) where
  pub none_from : found ≡ [] → (q : ℕ) → first ≤ q → mark_at marks (key_of space q) ≡ None
  none_from e q h = range.5 e (key_of space q) (in_order space first q h, tt)

  module _ (key : Key) (mark : Mark) (rest : List (Key × Mark)) (is : found ≡ (key, mark) ∷ rest) where
    at_first : IsEntryInRange key_cmp (Included (key_of space first)) Unbounded marks.by_page (key, mark)
    at_first = subst (λ l. IfSome (slice_get l 0) (IsEntryInRange key_cmp (Included (key_of space first)) Unbounded marks.by_page)) is range.1

    before_others : (q : ℕ) → first ≤ q → IsSome (mark_at marks (key_of space q)) → IsUpTo key (key_of space q)
    before_others q h some =
        let least = range.2 (key_of space q) (in_order space first q h, tt) some in
        is_up_to key (key_of space q) (subst (λ l. IfSome (slice_get l 0) (λ e. is_gt (key_cmp e.0 (key_of space q)) ≡ false)) is least)

    behind_first : IsUpTo (key_of space first) key
    behind_first = is_up_to (key_of space first) key at_first.0.0

    pub is_next : (end : ℕ) → key.space ≡ space → key.page < end → IsNextMark marks space first end key.page mark.frame
    is_next end same before = record {
      from_there = behind_first.page (sym same);
      before = before;
      mark = mark;
      there = ap (λ s. mark_at marks (key_of s key.page)) (sym same) ∙ at_first.1;
      frame_is = refl;
      least = λ q low high. is_none (mark_at marks (key_of space q)) (λ some.
          let late = (before_others q low some).page same in absurd (omega (arith, late, high)));
    }

    pub none_in : (end : ℕ) → (key.space ≡ space → key.page < end → ⊥) → (q : ℕ) → first ≤ q → q < end → mark_at marks (key_of space q) ≡ None
    none_in end other q low high = is_none (mark_at marks (key_of space q)) (λ some.
        let upper = before_others q low some in
        let same : key.space ≡ space = omega (arith, upper.space, behind_first.space) in
        let late = upper.page same in
        other same (omega (arith, late, high)))
