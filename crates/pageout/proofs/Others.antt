-- The owners of one frame, one after the other.
use Rattle.std.proofs.Common.{◌≡◌, ℕ, ◌<◌, ◌≤◌, true, false, List, [], ◌∷◌, refl, sym, ap, subst, ◌∙◌, arith}
use mathlib.Core.Bool.{true≢false}
use Rattle.std.specs.Prelude.{Option, Some, None, IfSome}
use Rattle.std.specs.List.{slice_get}
use Rattle.std.specs.Ordering.{MatchOrdering, nat_cmp, ordering_then, is_gt}
use Rattle.std.specs.Cmp.{nat_cmp_total}
use Rattle.std.specs.BTreeMap.Range.{IsFromStart}
use Rattle.std.specs.BTreeSet.{IsKeyInRange, IsKeyRangeOf}
use Rattle.std.specs.declared.cmp.Ordering.{Ordering}
use Rattle.std.specs.declared.cmp.Ordering.TheVariants.{Less, Equal, Greater}
use Rattle.std.specs.declared.ops.Bound.TheVariants.{Unbounded}
use Rattle.std.specs.BTreeMap.Range.{IsLeBy, IsLtBy}
use Rattle.std.specs.Range.Bound.{IsForward}
use Rattle.std.proofs.lemmas.Bool.{false_from_ne_true}
use Rattle.std.proofs.lemmas.Cmp.{ranked, tied_itself}
use Rattle.pageout.specs.declared.marks.Key.{Key}
use Rattle.pageout.specs.declared.marks.Mark.{Mark}
use Rattle.pageout.specs.declared.marks.Owner.{Owner}
use Rattle.pageout.specs.Index.{Marks, IsBehind, IsNextOwner, IsNextOther, IsOnlyOther, first_behind, key_cmp, has_frame, key_of, mark_at, owner_cmp}
use Rattle.pageout.proofs.Orders.{key_total, key_exact}
use Rattle.pageout.proofs.Owned.{owner_of}

-- ---- the order of the pages

by_order : {A : Type 0} (a b : Key) (r : Ordering) → key_cmp a b ≡ r → is_gt r ≡ false → (b ≡ a → A) → (key_cmp a b ≡ Less → A) → A
by_order a b Less e h f g = g e
by_order a b Equal e h f g = f (sym (key_exact a b e))
by_order a b Greater e h f g = absurd (true≢false h)

less_not_equal : (a b : Key) → key_cmp a b ≡ Less → a ≡ b → ⊥
less_not_equal a b h same = not (sym h ∙ ap (λ k. key_cmp a k) (sym same) ∙ tied_itself key_total a)
  where
    not : Less ≡ Equal → ⊥
    not e = cc

in_frame : (frame : ℕ) (a b : Key) → owner_cmp (owner_of frame a) (owner_of frame b) ≡ key_cmp a b
in_frame frame a b = ap (λ r. ordering_then r (key_cmp a b)) (tied_itself nat_cmp_total frame)

frames_rise : (a b : Owner) → is_gt (owner_cmp a b) ≡ false → a.frame ≤ b.frame
frames_rise a b = go (nat_cmp a.frame b.frame) (ranked a.frame b.frame _ refl)
  where
    go : (r : Ordering) → MatchOrdering r (a.frame < b.frame) (a.frame ≡ b.frame) (b.frame < a.frame) → is_gt (ordering_then r (key_cmp a.key b.key)) ≡ false → a.frame ≤ b.frame
    go Less h e = omega (arith, h)
    go Equal h e = omega (arith, h)
    go Greater h e = absurd (true≢false e)

-- no page stands before the first
from_zero : (n : ℕ) (s : Ordering) → is_gt s ≡ false → is_gt (ordering_then (nat_cmp 0 n) s) ≡ false
from_zero n s h = go (nat_cmp 0 n) (ranked 0 n _ refl)
  where
    go : (r : Ordering) → MatchOrdering r (0 < n) (0 ≡ n) (n < 0) → is_gt (ordering_then r s) ≡ false
    go Less g = refl
    go Equal g = h
    go Greater g = absurd (omega (arith, g))

zero_first : (n : ℕ) → is_gt (nat_cmp 0 n) ≡ false
zero_first n = go (nat_cmp 0 n) (ranked 0 n _ refl)
  where
    go : (r : Ordering) → MatchOrdering r (0 < n) (0 ≡ n) (n < 0) → is_gt r ≡ false
    go Less g = refl
    go Equal g = refl
    go Greater g = absurd (omega (arith, g))

-- ---- the owners of a frame that are behind a page

pub forward : (frame : ℕ) (behind : Option Key) → IsForward (IsLeBy owner_cmp) (IsLtBy owner_cmp) (first_behind frame behind) Unbounded
forward frame None = tt
forward frame (Some key) = tt

into : (frame : ℕ) (behind : Option Key) (q : Key) → IsBehind behind q → IsFromStart owner_cmp (first_behind frame behind) (owner_of frame q)
into frame None q h = ap is_gt (in_frame frame (key_of 0 0) q) ∙ from_zero q.space (nat_cmp 0 q.page) (zero_first q.page)
into frame (Some key) q h = in_frame frame key q ∙ h

out_of : (frame : ℕ) (behind : Option Key) (q : Key) → IsFromStart owner_cmp (first_behind frame behind) (owner_of frame q) → IsBehind behind q
out_of frame None q h = tt
out_of frame (Some key) q h = sym (in_frame frame key q) ∙ h

not_before : (frame : ℕ) (behind : Option Key) (o : Owner) → IsFromStart owner_cmp (first_behind frame behind) o → frame ≤ o.frame
not_before frame None o h = frames_rise (owner_of frame (key_of 0 0)) o h
not_before frame (Some key) o h = frames_rise (owner_of frame key) o (ap is_gt h)

module _ (marks : Marks) (frame : ℕ) (behind : Option Key) (found : List Owner) (range : IsKeyRangeOf owner_cmp (first_behind frame behind) Unbounded marks.by_frame found) where
  pub no_owner : found ≡ [] → (q : Key) → IsBehind behind q → has_frame (mark_at marks q) frame ≡ false
  no_owner e q h = sym (marks.owners.each (owner_of frame q)) ∙ range.5 e (owner_of frame q) (into frame behind q h, tt)

  module _ (o : Owner) (rest : List Owner) (is : found ≡ o ∷ rest) where
    first : IsKeyInRange owner_cmp (first_behind frame behind) Unbounded marks.by_frame o
    first = subst (λ l. IfSome (slice_get l 0) (IsKeyInRange owner_cmp (first_behind frame behind) Unbounded marks.by_frame)) is range.1

    before : (q : Key) → IsBehind behind q → has_frame (mark_at marks q) frame ≡ true → is_gt (owner_cmp o (owner_of frame q)) ≡ false
    before q h has =
        subst (λ l. IfSome (slice_get l 0) (λ k. is_gt (owner_cmp k (owner_of frame q)) ≡ false)) is
        (range.2 (owner_of frame q) (into frame behind q h, tt) (marks.owners.each (owner_of frame q) ∙ has))

    pub next_owner : o.frame ≡ frame → IsNextOwner (mark_at marks) frame behind o.key
    next_owner same =
        let is_o : o ≡ owner_of frame o.key = λ i. owner_of (same i) o.key in
        record {
          there = out_of frame behind o.key (subst (IsFromStart owner_cmp (first_behind frame behind)) is_o first.0.0);
          has = ap (has_frame (mark_at marks o.key)) (sym same) ∙ sym (marks.owners.each o) ∙ first.1;
          least = λ q h has. sym (ap is_gt (ap (λ x. owner_cmp x (owner_of frame q)) is_o ∙ in_frame frame o.key q)) ∙ before q h has;
        }

    pub past_owners : (o.frame ≡ frame → ⊥) → (q : Key) → IsBehind behind q → has_frame (mark_at marks q) frame ≡ false
    past_owners other q h = false_from_ne_true _ (λ has.
        let low = not_before frame behind o first.0.0 in
        let high = frames_rise o (owner_of frame q) (before q h has) in
        other (omega (arith, low, high)))

-- ---- all but one page

module _ (m : Key → Option Mark) (frame : ℕ) (but : Key) where
  pub other_is : (behind : Option Key) (key : Key) → IsNextOwner m frame behind key → (key ≡ but → ⊥) → IsNextOther m frame but behind key
  other_is behind key next apart = record { there = next.there; has = next.has; apart = apart; least = λ q h has _. next.least q h has }

  behind_both : (behind : Option Key) (a b : Key) → IsBehind behind a → key_cmp a b ≡ Less → IsBehind behind b
  behind_both None a b h g = tt
  behind_both (Some k) a b h g = key_total.trans k a b h g

  pub next_other : (behind : Option Key) (found key : Key) → IsNextOwner m frame behind found → found ≡ but → IsNextOwner m frame (Some but) key → IsNextOther m frame but behind key
  next_other behind found key first same next = record {
    there = behind_both behind but key (subst (IsBehind behind) same first.there) next.there;
    has = next.has;
    apart = λ e. less_not_equal but key next.there (sym e);
    least = λ q h has apart. by_order but q (key_cmp but q) refl (subst (λ k. is_gt (key_cmp k q) ≡ false) same (first.least q h has)) (λ e. absurd (apart e)) (λ less. next.least q less has);
  }

  pub then_other : (behind : Option Key) (found : Key) (r : Option Key) → IsNextOwner m frame behind found → found ≡ but → IfSome r (IsNextOwner m frame (Some but)) → IfSome r (IsNextOther m frame but behind)
  then_other behind found None next same h = tt
  then_other behind found (Some key) next same h = next_other behind found key next same h

  pub no_other : (behind : Option Key) (found : Key) → IsNextOwner m frame behind found → found ≡ but → ((q : Key) → IsBehind (Some but) q → has_frame (m q) frame ≡ false) →
      (q : Key) → IsBehind behind q → has_frame (m q) frame ≡ true → q ≡ but
  no_other behind found first same none q h has =
      by_order but q (key_cmp but q) refl (subst (λ k. is_gt (key_cmp k q) ≡ false) same (first.least q h has)) (λ e. e) (λ less. absurd (true≢false (sym has ∙ none q less)))

  pub only_one : (key : Key) → IsNextOther m frame but None key → ((q : Key) → IsBehind (Some key) q → has_frame (m q) frame ≡ true → q ≡ but) → IsOnlyOther m frame but key
  only_one key first none = record {
    has = first.has;
    apart = first.apart;
    only = λ q has apart. by_order key q (key_cmp key q) refl (first.least q tt has apart) (λ e. e) (λ less. absurd (apart (none q less has)));
  }

  pub not_only : (a b : Key) → IsNextOther m frame but None a → IsNextOther m frame but (Some a) b → (q : Key) → IsOnlyOther m frame but q → ⊥
  not_only a b first second q is = less_not_equal a b second.there (is.only a first.has first.apart ∙ sym (is.only b second.has second.apart))
