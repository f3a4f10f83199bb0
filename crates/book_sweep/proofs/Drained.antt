-- A limbo from which every row is taken: a sweep by no numbers, which nobody reads.
use Rattle.std.proofs.Common.{◌≡◌, ℕ, ◌+◌, ◌-◌, ◌<◌, ◌≤◌, not, Bool, true, false, cond, List, [], ◌∷◌, length, map, take, get_or, refl, sym, ap, subst, ◌∙◌, arith}
use Rattle.std.specs.Prelude.{◌||◌}
use Rattle.std.specs.List.{All, filter, range_with_len}
use Rattle.std.specs.FinSet as set
use Rattle.std.proofs.lemmas.List.Elements.{All-nil}
use Rattle.free_numbers.specs.Numbers.{NumbersBelow}
use Rattle.walk_core.specs.Lists.{times, Has, among}
use Rattle.walk_core.proofs.RowLists.{times-filter}
use Rattle.walk_core.proofs.Boot.{times-range_in}
use Rattle.row_layout.specs.declared.limbo.Sampled.{Sampled}
use Rattle.epoch_grace.specs.Sweeping.{is_read, rows_of}
use Rattle.epoch_grace.proofs.Stocked.{IsTidy, few_rows}
use Rattle.epoch_grace.proofs.Swept.{SweptTo}
use Rattle.machine_plan.specs.Books.{BookData, HasBlocker, put_of}
use Rattle.book.specs.Kept.{IsKept, IsTableRow}
use Rattle.book_sweep.specs.Freeing.{AreOnce, AreApart, Frees}
use Rattle.book_sweep.proofs.Kept.{Moves, row_small}

none_read : (xs : List Sampled) → filter (is_read []) xs ≡ []
none_read [] = refl
none_read (x ∷ xs) = none_read xs

pub all_unread : (xs : List Sampled) → filter (λ s. not (is_read [] s)) xs ≡ xs
all_unread [] = refl
all_unread (x ∷ xs) = ap (λ (l : List Sampled). x ∷ l) (all_unread xs)

no_rows : (xs : List Sampled) → map put_of xs ≡ [] → xs ≡ []
no_rows [] none = refl
no_rows (x ∷ xs) none = absurd (omega (arith, ap length none))

-- the invariant at the place that is met next
pub met : (first : List Sampled) (free : NumbersBelow) (count done : ℕ) (limbo : List Sampled) (free' : NumbersBelow) → done < count → SweptTo [] first free (count - done) limbo free' → SweptTo [] first free (count - 1 - done + 1) limbo free'
met first free count done limbo free' less old = subst (λ (p : ℕ). SweptTo [] first free p limbo free') (let e : count - done ≡ count - 1 - done + 1 = omega (arith, less) in e) old

pub ended : (first : List Sampled) (free : NumbersBelow) (count done : ℕ) (limbo : List Sampled) (free' : NumbersBelow) → count ≤ done → SweptTo [] first free (count - done) limbo free' → SweptTo [] first free 0 limbo free'
ended first free count done limbo free' past old = subst (λ (p : ℕ). SweptTo [] first free p limbo free') (let e : count - done ≡ 0 = omega (arith, past) in e) old

pub drained : (first : List Sampled) (free : NumbersBelow) (limbo : List Sampled) (free' : NumbersBelow) → SweptTo [] first free 0 limbo free' → limbo ≡ []
drained first free limbo free' end = end.list ∙ no_rows end.left (end.stay ∙ ap (map put_of) (none_read first))

pub all_freed : (first : List Sampled) (free : NumbersBelow) (limbo : List Sampled) (free' : NumbersBelow) → SweptTo [] first free 0 limbo free' → Frees first free free'
all_freed first free limbo free' end = record {
  limit = end.limit;
  freed = λ row. end.freed row ∙ ap (λ (l : List Sampled). set.contains free.numbers row || among (rows_of l) row) (all_unread first);
}

-- The book

pub apart_of : (b : BookData) (above journal_room limbo_room : ℕ) → IsKept b above journal_room limbo_room → AreOnce b → AreApart b.limbo b.free
apart_of b above journal_room limbo_room is once = record {
  once = λ r. omega (arith, once r);
  apart = λ r has. not_free r has (set.contains b.free.numbers r) refl;
}
  where
    not_free : (r : ℕ) → Has (rows_of b.limbo) r → (free : Bool) → set.contains b.free.numbers r ≡ free → free ≡ false
    not_free r has false here = refl
    not_free r has true here =
        let count = times-filter (set.contains b.free.numbers) r (range_with_len 0 b.free.limit) ∙ ap (λ c. cond c (times r (range_with_len 0 b.free.limit)) 0) here in
        absurd (omega (arith, once r, has, count, times-range_in r 0 b.free.limit (omega arith) (omega (arith, is.below.below r here))))

module _ (b : BookData) (above journal_room limbo_room : ℕ) (is : IsKept b above journal_room limbo_room) (apart : AreApart b.limbo b.free) where
  pub tidy : IsTidy (b.limits.tables + 1) b.limbo b.free
  tidy = record {
    once = apart.once;
    apart = apart.apart;
    there = λ r past. none (times r (rows_of b.limbo)) (λ some. let small = row_small b.limits.tables b.limbo r is.rows some in omega (arith, past, small));
  }
    where
      none : (n : ℕ) → ¬ (1 ≤ n) → n ≡ 0
      none Rattle.std.proofs.Common.zero not_some = refl
      none (Rattle.std.proofs.Common.suc n) not_some = absurd (not_some (omega arith))

  pub few : length b.limbo ≤ b.limits.tables + 1
  few = few_rows (b.limits.tables + 1) b.limbo b.free tidy

  pub moves : (free' : NumbersBelow) (left : List Sampled) → left ≡ [] → Frees b.limbo b.free free' → Moves [] (b.limits.tables + 1) b free' left
  moves free' left none frees = record {
    tidy = tidy;
    limit = frees.limit;
    stay = ap (map put_of) (none ∙ sym (none_read b.limbo));
    freed = λ row. frees.freed row ∙ ap (λ (l : List Sampled). set.contains b.free.numbers row || among (rows_of l) row) (sym (all_unread b.limbo));
    blockers = subst (All HasBlocker) (sym none) (All-nil HasBlocker);
  }
