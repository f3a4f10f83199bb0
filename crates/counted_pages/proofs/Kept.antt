-- Lemmas on the spares that are kept for unused numbers.
use Rattle.std.proofs.Common.{◌≡◌, ℕ, ◌<◌, ◌⊎◌, true, false, Some, eqb, List, length, set, replicate, sym, ap, ◌∙◌, ⊎_elim, inl, arith}
use Rattle.std.proofs.lemmas.Bool.{cases_lt, cases_eq}
use Rattle.std.proofs.lemmas.Bool.Decides.{nat_tests}
use Rattle.std.proofs.lemmas.Grind.{get_or-set_at}
use Rattle.std.proofs.lemmas.List.{get_or_past, get_or-replicate, get_or-set_same, get_or-set_other, length-replicate, length-set, set-get_or}
use Rattle.std.proofs.lemmas.List.Quantifiers.{position-Some}
use Rattle.shares.specs.Counts.{count_of, least_unused}
use Rattle.counted_pages.specs.Pages.{PageCounts, HasSpare, KeepsSpares, with_count, with_spare, without_spare}

pub within : (counts : List ℕ) (n : ℕ) → 0 < count_of counts n → n < length counts
within counts n owned =
    ⊎_elim (λ below. below) (λ past. absurd (omega (arith, get_or_past counts n 0 past))) (cases_lt n (length counts))

pub within_spares : (p : PageCounts) (n : ℕ) → KeepsSpares p → 0 < count_of p.counts n → n < length p.spares
within_spares p n kept owned = omega (arith, within p.counts n owned, kept.as_many)

pub KeepsSpares-new : (n : ℕ) → KeepsSpares (record { counts = replicate n 0; spares = replicate n true })
KeepsSpares-new n = record {
  as_many = length-replicate n true ∙ sym (length-replicate {A = ℕ} n 0);
  unused = λ k inside _. get_or-replicate n k true false (omega (arith, inside, length-replicate {A = ℕ} n 0));
}

-- a spare that is kept already
pub with_spare-HasSpare : (p : PageCounts) (n : ℕ) → HasSpare p n → with_spare p n ≡ p
with_spare-HasSpare p n had =
    let same : set p.spares n true ≡ p.spares = ap (λ b. set p.spares n b) (sym had) ∙ set-get_or p.spares n false in
    ap (λ spares. record p { spares = spares }) same

module _ (p : PageCounts) (kept : KeepsSpares p) (n : ℕ) where
  -- the least unused number is there, and has a spare
  pub HasSpare-least : least_unused p.counts ≡ Some n → (n < length p.counts) × HasSpare p n
  HasSpare-least least =
      let found = position-Some (λ count. eqb count 0) p.counts n 0 least in
      (found.0, kept.unused n found.0 (grind (arith, nat_tests, found.1)))

  pub KeepsSpares-with_spare : KeepsSpares (with_spare p n)
  KeepsSpares-with_spare = record {
    as_many = length-set p.spares n true ∙ kept.as_many;
    unused = λ k inside none. ⊎_elim
        (λ same. rw same (get_or-set_same p.spares n true false (omega (arith, kept.as_many, inside, same))))
        (λ other. get_or-set_other p.spares n k true false other ∙ kept.unused k inside none)
        (cases_eq k n);
  }

  pub KeepsSpares-with_count : (count : ℕ) → (0 < count) ⊎ HasSpare p n → KeepsSpares (with_count p n count)
  KeepsSpares-with_count count had = record {
    as_many = kept.as_many ∙ sym (length-set p.counts n count);
    unused = λ k inside none. let there : k < length p.counts = omega (arith, inside, length-set p.counts n count) in ⊎_elim
        (λ same. ⊎_elim
        (λ some. absurd (omega (arith, none, some, get_or-set_at p.counts n k count 0 same (rw same at there))))
        (λ spare. rw same spare)
        had)
        (λ other. kept.unused k there (sym (get_or-set_other p.counts n k count 0 other) ∙ none))
        (cases_eq k n);
  }

  pub KeepsSpares-without_spare : 0 < count_of p.counts n → KeepsSpares (without_spare p n)
  KeepsSpares-without_spare owned = record {
    as_many = length-set p.spares n false ∙ kept.as_many;
    unused = λ k inside none. ⊎_elim
        (λ same. absurd (omega (arith, owned, none, ap (λ m. count_of p.counts m) same)))
        (λ other. get_or-set_other p.spares n k false false other ∙ kept.unused k inside none)
        (cases_eq k n);
  }

pub KeepsSpares-taken : (p : PageCounts) → KeepsSpares p → (n : ℕ) → n < length p.counts → KeepsSpares (without_spare (with_count p n 1) n)
KeepsSpares-taken p kept n inside =
    KeepsSpares-without_spare (with_count p n 1) (KeepsSpares-with_count p kept n 1 (inl (omega arith))) n (omega (arith, get_or-set_same p.counts n 1 0 inside))
