-- The frames of a store are written one by one. Each has one owner, so no other reference loses its spare.
use Rattle.std.proofs.Common.{◌≡◌, ℕ, ◌+◌, ◌≤◌, Bool, true, false, cond, [], ◌∷◌, ◌++◌, take, drop, refl, sym, ap, subst, ◌∙◌, arith}
use Rattle.std.specs.Prelude.{nat_eq, if◌then◌else◌}
use Rattle.std.specs.Cmp.{nat_eq_equiv}
use Rattle.std.proofs.lemmas.List.{get_or-set_other, take-append-drop}
use Rattle.std.proofs.lemmas.List.Sums.{sum_by-cons}
use Rattle.std.proofs.lemmas.List.Elements.{All-nil, All-cons, All-head, All-tail, All-same, All-drop}
use Rattle.counted_pages.specs.Pages.{PageCounts, CountedPage, HasSpare, without_spare}
use Rattle.shares.specs.Counts.{count_of}
use Rattle.machine_plan.specs.Kits.{Refs, AreBacked}
use Rattle.machine_plan.specs.Uses.{Ref, shown_ref, shown_refs}
use Rattle.book.specs.Balance.{times, AreHeld}
use Rattle.book.specs.Storing.{AreAlone}
use Rattle.book.proofs.Released.{Backed}

pub times_first : (n : ℕ) (r : ℕ × CountedPage) (refs : Refs) → times n (shown_refs (r ∷ refs)) ≡ cond (nat_eq r.1.number n) 1 0 + times n (shown_refs refs)
times_first n r refs = sum_by-cons (λ (x : Ref). cond (nat_eq x.1.0 n) 1 0) (shown_ref r) (shown_refs refs)

times_parts : (n : ℕ) (xs ys : Refs) → times n (shown_refs (xs ++ ys)) ≡ times n (shown_refs xs) + times n (shown_refs ys)
times_parts n [] ys = none_more (times n (shown_refs ys))
  where
    none_more : (a : ℕ) → a ≡ 0 + a
    none_more a = omega arith
times_parts n (x ∷ xs) ys = omega (arith, times_first n x (xs ++ ys), times_first n x xs, times_parts n xs ys)

pub one_itself : (k : ℕ) → ◌≡◌ {A = ℕ} (cond (nat_eq k k) 1 0) 1
one_itself k = ap (λ b. cond b 1 0) (nat_eq_equiv.refl k)

module _ (old now next : PageCounts) (init : Refs) (i : ℕ) (r : ℕ × CountedPage) (rest : Refs) (more : drop i init ≡ r ∷ rest) (next_is : next ≡ (if r.1.body.own then now else (without_spare now r.1.number))) where
  abbrev k : ℕ
  k = r.1.number

  in_all : (n : ℕ) → cond (nat_eq k n) 1 0 + times n (shown_refs rest) ≤ times n (shown_refs init)
  in_all n =
      let whole : times n (shown_refs (take i init ++ drop i init)) ≡ times n (shown_refs init) = ap (λ (rs : Refs). times n (shown_refs rs)) (take-append-drop i init) in
      let behind : times n (shown_refs (drop i init)) ≡ times n (shown_refs (r ∷ rest)) = ap (λ (rs : Refs). times n (shown_refs rs)) more in
      omega (arith, whole, behind, times_parts n (take i init) (drop i init), times_first n r rest)

  pub next_counts : next.counts ≡ now.counts
  next_counts = ap (λ (p : PageCounts). p.counts) next_is ∙ go r.1.body.own
    where
      go : (b : Bool) → (if b then now else (without_spare now k)).counts ≡ now.counts
      go true = refl
      go false = refl

  other_spare : (n : ℕ) → (n ≡ k → ⊥) → HasSpare now n → HasSpare next n
  other_spare n other had = subst (λ (p : PageCounts). HasSpare p n) (sym next_is) (go r.1.body.own)
    where
      go : (b : Bool) → HasSpare (if b then now else (without_spare now k)) n
      go true = had
      go false = get_or-set_other now.spares k n false false other ∙ had

  pub next_spares : (n : ℕ) → times n (shown_refs init) ≡ 0 → HasSpare now n → HasSpare next n
  next_spares n none had = other_spare n (λ same. there n none (ap (λ m. cond (nat_eq k m) 1 0) same ∙ one_itself k)) had
    where
      there : (n : ℕ) → times n (shown_refs init) ≡ 0 → ◌≡◌ {A = ℕ} (cond (nat_eq k n) 1 0) 1 → ⊥
      there n none one = omega (arith, none, one, in_all n)

  apart_from : (refs : Refs) → times k (shown_refs refs) ≡ 0 → AreBacked now refs → AreBacked next refs
  apart_from [] none backed = All-nil (Backed next)
  apart_from (x ∷ refs) none backed =
      All-cons (Backed next) x refs (λ shared. other_spare x.1.number (λ same. apart same) (All-head (Backed now) x refs backed shared))
      (apart_from refs (omega (arith, none, times_first k x refs)) (All-tail (Backed now) x refs backed))
    where
      apart : x.1.number ≡ k → ⊥
      apart same = omega (arith, none, times_first k x refs, ap (λ m. cond (nat_eq m k) 1 0) same ∙ one_itself k)

  pub next_backed : AreAlone old init → AreHeld old (shown_refs init) → AreBacked now (drop i init) → AreBacked next rest
  next_backed alone held backed = apart_from rest (omega (arith, held.each k, one_owner, in_all k, one_itself k)) (All-tail (Backed now) r rest (All-same (Backed now) (r ∷ rest) (drop i init) (sym more) backed))
    where
      one_owner : count_of old.counts k ≡ 1
      one_owner = All-head (λ (x : ℕ × CountedPage). count_of old.counts x.1.number ≡ 1) r rest
          (All-same (λ (x : ℕ × CountedPage). count_of old.counts x.1.number ≡ 1) (r ∷ rest) (drop i init) (sym more) (All-drop (λ (x : ℕ × CountedPage). count_of old.counts x.1.number ≡ 1) i init alone))
