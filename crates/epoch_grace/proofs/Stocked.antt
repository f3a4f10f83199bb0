-- The lists of the book before a sweep, and what its caller may do afterwards.
use Rattle.std.proofs.Common.{◌≡◌, ℕ, ◌+◌, ◌<◌, ◌≤◌, ◌%◌, ◌&&◌, Bool, true, false, cond, eq-eqb, List, [], ◌∷◌, length, map, get_or, inl, inr, sym, refl, ap, ◌∙◌, arith}
use Rattle.std.specs.List.{Contains, filter}
use Rattle.std.specs.FinSet as set
use Rattle.std.proofs.lemmas.List.{length-map}
use Rattle.std.proofs.lemmas.Simd.{map-map}
use Rattle.std.proofs.lemmas.Option.{same_Some}
use mathlib.Core.Logic.{dite}
use native.Mathlib.Decide.{ℕ_discrete}
use Rattle.free_numbers.specs.Numbers.{NumbersBelow}
use Rattle.walk_core.specs.declared.lists.PutRow.{PutRow}
use Rattle.walk_core.specs.declared.pass.PassCore.{PassCore}
use Rattle.walk_core.specs.Lists.{times, Has}
use Rattle.walk_core.specs.Core.{sample_of}
use Rattle.walk_core.specs.Guards.{put_rows, IsUnread}
use Rattle.walk_core.proofs.RowLists.{times-nil, times-cons_same, times-cons_other, times_minus_same, times_minus_other, among_false, in_head, in_tail, in_map}
use Rattle.walk_core.proofs.Stepped.{length-missing}
use Rattle.row_layout.specs.declared.limbo.Sampled.{Sampled}
use Rattle.row_table.specs.declared.view.PassView.{PassView}
use Rattle.row_table.specs.Plan.{Meaning}
use Rattle.row_table.specs.Blocked.{IsBlocked}
use Rattle.row_table.specs.Sampling.{HasBook}
use Rattle.epoch_grace.specs.Loads.{put_of, Loads}
use Rattle.epoch_grace.specs.Sweeping.{IsStock, is_read, rows_of, swept_rows, IsKept}
use Rattle.epoch_grace.proofs.Loaded.{IsLast}
use Rattle.epoch_grace.proofs.Swept.{read_by}

-- Before

pub rows_put : (limbo : List Sampled) → put_rows (map put_of limbo) ≡ rows_of limbo
rows_put limbo = map-map (λ (k : PutRow). k.row) put_of limbo

-- no row is twice in limbo, none is free too, and all are there
pub record IsTidy (rows : ℕ) (limbo : List Sampled) (free : NumbersBelow) : Type 0 where
  pub once : (r : ℕ) → times r (rows_of limbo) ≤ 1
  pub apart : (r : ℕ) → Has (rows_of limbo) r → set.contains free.numbers r ≡ false
  pub there : (r : ℕ) → rows ≤ r → times r (rows_of limbo) ≡ 0

pub is_tidy : {R B E : Type 0} (M : Meaning R B E) (v : PassView R B E) (x n : ℕ) (limbo : List Sampled) (free : NumbersBelow) → IsStock M v limbo free → HasBook M v x n → IsTidy v.layout.rows limbo free
is_tidy {R} {B} {E} M v x n limbo free stock has =
    let same : stock.book ≡ has.book = same_Some stock.book has.book (sym stock.found ∙ has.found) in
    let rows : (r : ℕ) → times r (put_rows (M.limbo has.book)) ≡ times r (rows_of limbo) = λ r. ap (times r) (ap (λ (b : B). put_rows (M.limbo b)) (sym same) ∙ (ap put_rows stock.in_limbo ∙ rows_put limbo)) in
    let l = has.learns in record {
      once = λ r. let o = l.once r in let e = rows r in omega arith;
      apart = λ r i. let o = l.once r in let e = rows r in
          stock.is_free r ∙ among_false (M.free stock.book) r (ap (λ (b : B). times r (M.free b)) same ∙ (let z : times r (M.free has.book) ≡ 0 = omega arith in z));
      there = λ r past. let t = l.there r past in let e = rows r in omega arith;
    }

pub tidy_by_loads : {R B E : Type 0} (M : Meaning R B E) (v w : PassView R B E) (numbers : List ℕ) (limbo : List Sampled) (free : NumbersBelow) → IsStock M v limbo free → Loads M v numbers w → v.core.has_book ≡ true → 1 ≤ v.layout.passes
    → IsTidy v.layout.rows limbo free
tidy_by_loads M v w numbers limbo free stock loads has some_pass = let all = loads.all in is_tidy M v 0 (get_or numbers 0 0) limbo free stock ((loads.each 0 (omega arith)).with_book has)

pub few_rows : (rows : ℕ) (limbo : List Sampled) (free : NumbersBelow) → IsTidy rows limbo free → length limbo ≤ rows
few_rows rows limbo free tidy =
    let less = length-missing (rows_of limbo) (rows + 1) rows tidy.once (λ q past. tidy.there q (omega arith)) (omega arith) (tidy.there rows (omega arith)) in
    let same : length (rows_of limbo) ≡ length limbo = length-map limbo (λ (s : Sampled). s.row) in omega arith

-- Afterwards

-- a row of the list that nobody reads
abbrev Unread : List ℕ → List Sampled → ℕ → Type 0
Unread numbers limbo row = (s : Sampled) × Contains limbo s × (s.row ≡ row) × (is_read numbers s ≡ false)

unread_step : (numbers : List ℕ) (s : Sampled) (ss : List Sampled) (row : ℕ) (b : Bool) → is_read numbers s ≡ b → Has (rows_of (s ∷ ss)) row → times row (rows_of (cond b (s ∷ filter (is_read numbers) ss) (filter (is_read numbers) ss))) ≡ 0
    → (Has (rows_of ss) row → times row (rows_of (filter (is_read numbers) ss)) ≡ 0 → Unread numbers ss row) → Unread numbers (s ∷ ss) row
unread_step numbers s ss row true is has none later = dite (ℕ_discrete s.row row)
    (λ e. let one = times-cons_same row s.row (rows_of (filter (is_read numbers) ss)) e in absurd (omega arith))
    (λ ne. let a = times-cons_other row s.row (rows_of (filter (is_read numbers) ss)) ne in let b = times-cons_other row s.row (rows_of ss) ne in
    let o = later (omega arith) (omega arith) in (o.0, in_tail s ss o.0 o.1, o.2, o.3))
unread_step numbers s ss row false is has none later = dite (ℕ_discrete s.row row)
    (λ e. (s, in_head s ss, e, is))
    (λ ne. let b = times-cons_other row s.row (rows_of ss) ne in let o = later (omega arith) none in (o.0, in_tail s ss o.0 o.1, o.2, o.3))

unread_one : (numbers : List ℕ) (limbo : List Sampled) (row : ℕ) → Has (rows_of limbo) row → times row (rows_of (filter (is_read numbers) limbo)) ≡ 0 → Unread numbers limbo row
unread_one numbers [] row has none = let z = times-nil row in absurd (omega arith)
unread_one numbers (s ∷ ss) row has none = unread_step numbers s ss row (is_read numbers s) refl has none (λ more rest. unread_one numbers ss row more rest)

module _ (passes : ℕ) (core : PassCore) (numbers : List ℕ) (all : length numbers ≡ passes) (last : (x : ℕ) → x < length numbers → IsLast (sample_of core.samples x) (get_or numbers x 0)) where
  -- a row that was left has a reader
  pub blocked_one : (s : Sampled) → IsKept numbers s → IsBlocked passes core (put_of s)
  blocked_one s kept = let l = last s.blocker kept.there in let there = kept.there in let found = kept.loaded in let same = kept.same in let odd = kept.odd in let high = l.last in record {
    blocker = s.blocker;
    there = omega arith;
    odd = ap (λ (n : ℕ). n % 2) (sym kept.same) ∙ kept.odd;
    bounds = l.bounds;
    sampled = l.is;
    same = inr (omega arith);
  }

  -- and one that was not left is unread
  pub unread : (limbo left : List Sampled) → map put_of left ≡ map put_of (filter (is_read numbers) limbo) → (row : ℕ) → Has (swept_rows limbo left) row → IsUnread passes (map put_of limbo) core row
  unread limbo left stay row has =
      let rows_left : rows_of left ≡ rows_of (filter (is_read numbers) limbo) = sym (rows_put left) ∙ (ap put_rows stay ∙ rows_put (filter (is_read numbers) limbo)) in
      let gone : times row (rows_of left) ≡ 0 = dite (ℕ_discrete (times row (rows_of left)) 0) (λ z. z) (λ nz. let none = times_minus_same (rows_of left) (rows_of limbo) row (omega arith) in absurd (omega arith)) in
      let was = times_minus_other (rows_of left) (rows_of limbo) row gone in
      let o = unread_one numbers limbo row (omega arith) (ap (times row) (sym rows_left) ∙ gone) in record {
        kept = put_of o.0;
        in_limbo = in_map put_of limbo o.0 o.1;
        is = o.2;
        over = λ x less. dite (ℕ_discrete (get_or o.0.samples x 0 % 2) 0) (λ even. inl even)
            (λ odd. let l = last x (omega arith) in let high = l.last in inr (
              l.bounds,
              l.is,
              inr (λ same. let read = read_by numbers o.0 x (omega arith)
                  ((λ i. eq-eqb (get_or o.0.samples x 0 % 2) 1 (omega arith) i && eq-eqb (get_or numbers x 0) (get_or o.0.samples x 0) (omega arith) i)) in
                  let clash : true ≡ false = sym read ∙ o.3 in absurd (cc)),
            ));
      }
