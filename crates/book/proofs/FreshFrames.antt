-- A frame that is taken has zeros, and one owner from then on.
use Rattle.std.proofs.Common.{◌≡◌, ℕ, ◌<◌, true, [], ◌∷◌, ◌++◌, length, get_or, sym, ap, subst, ◌∙◌, arith}
use Rattle.std.specs.Prelude.{Some}
use Rattle.std.specs.List.{All}
use Rattle.std.proofs.lemmas.List.{get_or-set_same, get_or-set_other}
use Rattle.std.proofs.lemmas.List.Elements.{All-weaker, All-push}
use Rattle.std.proofs.lemmas.List.Quantifiers.{position-Some}
use Rattle.std.proofs.lemmas.Bool.{eqb-true}
use Rattle.std.specs.Prelude.{nat_eq}
use Rattle.corten_base.specs.Bytes.{zeros}
use Rattle.counted_pages.specs.Pages.{PageCounts, CountedPage, with_count, without_spare}
use Rattle.shares.specs.Counts.{count_of, least_unused}
use Rattle.machine_plan.specs.Kits.{Refs}
use Rattle.book.specs.Filling.{IsFresh}

pub fresh_same : (now next : PageCounts) (frames more : Refs) → All (IsFresh now) frames → next ≡ now → more ≡ frames → All (IsFresh next) more
fresh_same now next frames more h same e = subst (λ (x : PageCounts × Refs). All (IsFresh x.0) x.1) (λ i. (sym same i, sym e i)) h

module _ (now : PageCounts) (frames : Refs) (page : ℕ) (frame : CountedPage) (least : Some frame.number ≡ least_unused now.counts) where
  abbrev n : ℕ
  n = frame.number

  at_least : (n < length now.counts) × (get_or now.counts n 0 ≡ 0)
  at_least = let found = position-Some (λ count. nat_eq count 0) now.counts n 0 (sym least) in (found.0, eqb-true (get_or now.counts n 0) 0 found.1)

  abbrev then : PageCounts
  then = without_spare (with_count now n 1) n

  others_stay : (r : ℕ × CountedPage) → IsFresh now r → IsFresh then r
  others_stay r h = record { zero = h.zero; one = get_or-set_other now.counts n r.1.number 1 0 (λ same. apart same) ∙ h.one }
    where
      apart : r.1.number ≡ n → ⊥
      apart same = omega (arith, h.one, ap (count_of now.counts) same, at_least.1)

  fresh_more : All (IsFresh now) frames → frame.body ≡ record { bytes = zeros; own = true } → All (IsFresh then) (frames ++ (page, frame) ∷ [])
  fresh_more h zero = All-push (IsFresh then) frames (page, frame) (All-weaker (IsFresh now) (IsFresh then) others_stay frames h) (record { zero = zero; one = get_or-set_same now.counts n 1 0 at_least.0 })

pub fresh_one : (now next : PageCounts) (frames more : Refs) (page : ℕ) (frame : CountedPage) → Some frame.number ≡ least_unused now.counts → All (IsFresh now) frames → frame.body ≡ record { bytes = zeros; own = true } →
    next ≡ without_spare (with_count now frame.number 1) frame.number → more ≡ frames ++ (page, frame) ∷ [] → All (IsFresh next) more
fresh_one now next frames more page frame least h zero same e = fresh_same _ next _ more (fresh_more now frames page frame least h zero) same e
