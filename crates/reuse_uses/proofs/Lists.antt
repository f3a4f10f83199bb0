-- What a give may do after a row was taken, put into limbo, or swept.
use Rattle.std.proofs.Common.{◌≡◌, ℕ, ◌+◌, ◌<◌, ◌≤◌, not, Bool, true, false, List, [], ◌∷◌, ◌++◌, map, length, ◌⊎◌, inl, inr, sym, refl, ap, ◌∙◌, subst, ⊎_elim, arith, append-nil}
use Rattle.std.specs.Prelude.{◌||◌}
use Rattle.std.specs.List.{All, filter}
use Rattle.std.specs.FinSet as set
use Rattle.std.proofs.lemmas.List.{map-append}
use Rattle.std.proofs.lemmas.List.Elements.{All-head, All-tail, All-nil, All-cons, All-same, All-map, All-filter}
use mathlib.Core.Logic.{dite}
use native.Mathlib.Decide.{ℕ_discrete}
use Rattle.walk_core.specs.declared.lists.PutRow.{PutRow}
use Rattle.walk_core.specs.Lists.{times, Has, among}
use Rattle.walk_core.specs.Guards.{put_rows, IsMarked, IsSampled, IsUnread}
use Rattle.walk_core.proofs.RowLists.{times-nil, times-append, times-cons_same, times-cons_other, times_one_same, times_one_other, among_has}
use Rattle.row_layout.specs.declared.places.Layout.{Layout}
use Rattle.free_numbers.specs.Numbers.{NumbersBelow}
use Rattle.row_layout.specs.declared.limbo.Sampled.{Sampled}
use Rattle.row_layout.specs.Limbo.{LimboList}
use Rattle.row_table.specs.Books.{book_core, put_list, taken_rows, MayGive}
use Rattle.row_table.specs.Books as books
use Rattle.epoch_grace.specs.Sweeping.{is_read, rows_of, Sweeps}
use Rattle.epoch_grace.specs.Sweeping as sweeping
use Rattle.epoch_grace.proofs.Gives.{filter_all, filter_none, map_filter}
use Rattle.epoch_grace.proofs.Gives as gives
use Rattle.epoch_grace.proofs.Stocked.{rows_put}
use Rattle.reuse_plan.specs.Stock.{StockData, free_list, put_of, store, IsStocked, Draws, deposited}
use Rattle.reuse_plan.proofs.Stocked.{free_once, has_free, free_has, was_there, is_gone, still_there}
use Rattle.reuse_uses.specs.Kept.{View}

abbrev pub IsOnce : StockData → Type 0
IsOnce b = (q : ℕ) → times q (free_list b) + times q (put_rows (map put_of b.limbo.list)) ≤ 1

pub no_entry : (e : Unit {0}) {F : Type 0} → [] ≡ e ∷ [] → F
no_entry e is = let long = ap length is in absurd (omega arith)

abbrev all_kept : PutRow → Bool
all_kept k = true

kept_all : (lo put : List PutRow) → lo ++ put ≡ filter all_kept lo ++ put
kept_all lo put = ap (λ l. l ++ put) (sym (filter_all all_kept lo (λ k i. refl)))

none_dropped : (lo : List PutRow) (q : ℕ) {F : Type 0} → Has (put_rows (filter (λ k. not (all_kept k)) lo)) q → F
none_dropped lo q has = let z = ap (λ (l : List PutRow). times q (put_rows l)) (filter_none (λ k. not (all_kept k)) lo (λ k i. refl)) ∙ times-nil q in absurd (omega arith)

none_fresh : (lo : List PutRow) (q : ℕ) → Has (put_rows []) q → times q (put_rows lo) ≡ 0
none_fresh lo q has = let z = times-nil q in absurd (omega arith)

-- A row was taken

module _ (k : Layout) (v : View) (old new : StockData) (row generation : ℕ) (has : v.core.has_book ≡ true) (once : IsOnce old) (draws : Draws old row generation new) where
  same_limbo : map put_of new.limbo.list ≡ filter all_kept (map put_of old.limbo.list) ++ []
  same_limbo = ap (λ (b : StockData). map put_of b.limbo.list) draws.after ∙ (sym (append-nil (map put_of old.limbo.list)) ∙ kept_all (map put_of old.limbo.list) [])

  same_limit : new.free.limit ≡ old.free.limit
  same_limit = ap (λ (b : StockData). b.free.limit) draws.after

  in_both : (q : ℕ) → Has (free_list new) q → Has (free_list old) q
  in_both q is = has_free old q (was_there old.free.numbers row q (ap (λ (b : StockData). set.contains b.free.numbers q) (sym draws.after) ∙ free_has new q is)) (below q is)
    where
      below : (q : ℕ) → Has (free_list new) q → q < old.free.limit
      below q is = let low = Rattle.reuse_plan.proofs.Stocked.free_below new q is in let same = same_limit in omega arith

  free_from : (q : ℕ) → Has (free_list new) q → Has (free_list old ++ books.swept_rows store old new) q
  free_from q is = let was = in_both q is in let all = times-append q (free_list old) (books.swept_rows store old new) in omega arith

  swept_none : (q : ℕ) {F : Type 0} → Has (books.swept_rows store old new) q → F
  swept_none q is = none_dropped (map put_of old.limbo.list) q (subst (λ (l : List ℕ). Has l q) (gives.swept_is store old new all_kept [] once same_limbo (none_fresh (map put_of old.limbo.list))) is)

  pub draw_put : put_list store old new ≡ []
  draw_put = gives.put_is store old new all_kept [] once same_limbo (none_fresh (map put_of old.limbo.list))

  pub draw_taken : taken_rows store old new ≡ row ∷ []
  draw_taken = gives.taken_one store old new all_kept [] once same_limbo (none_fresh (map put_of old.limbo.list)) (free_once new) free_from row
      (has_free old row draws.least.0 draws.there)
      (dite (ℕ_discrete (times row (free_list new)) 0) (λ z. z)
      (λ nz. let clash : true ≡ false = sym (free_has new row (omega arith)) ∙ (ap (λ (b : StockData). set.contains b.free.numbers row) draws.after ∙ is_gone old.free.numbers row) in absurd (cc)))
      (λ q ne is. dite (ℕ_discrete (times q (free_list old)) 0)
      (λ z. let all = times-append q (free_list old) (books.swept_rows store old new) in swept_none q (omega arith))
      (λ nz. has_free new q (ap (λ (b : StockData). set.contains b.free.numbers q) draws.after ∙ still_there old.free.numbers row q ne (free_has old q (omega arith)))
      (let low = Rattle.reuse_plan.proofs.Stocked.free_below old q (omega arith) in let same = same_limit in omega arith)))

  pub may_draw : MayGive store k v old new
  may_draw = record {
    follows = ((let e = ap (λ (b : StockData). b.next) draws.after in omega arith), inl refl);
    names = λ e is. no_entry e is;
    guard = gives.may store old new all_kept [] once same_limbo (none_fresh (map put_of old.limbo.list)) (free_once new) free_from k v has
        (λ q. let z = times-nil q in omega arith) (λ q is. let z = times-nil q in absurd (omega arith)) tt (λ q is. none_dropped (map put_of old.limbo.list) q is);
    free = gives.free_is store old new all_kept [] once same_limbo (none_fresh (map put_of old.limbo.list)) (free_once new) free_from v.number;
    limbo = gives.limbo_is store old new all_kept [] once same_limbo (none_fresh (map put_of old.limbo.list)) v.number;
    blocked = λ shown. let clash : false ≡ true = shown in absurd (cc);
  }

-- A row was put into limbo

module _ (k : Layout) (v : View) (old new : StockData) (s : Sampled) (has : v.core.has_book ≡ true) (once : IsOnce old) (is : new ≡ deposited old s)
    (apart : times s.row (put_rows (map put_of old.limbo.list)) ≡ 0) where
  more_limbo : map put_of new.limbo.list ≡ filter all_kept (map put_of old.limbo.list) ++ put_of s ∷ []
  more_limbo = ap (λ (b : StockData). map put_of b.limbo.list) is ∙ (map-append put_of old.limbo.list (s ∷ []) ∙ kept_all (map put_of old.limbo.list) (put_of s ∷ []))

  fresh : (q : ℕ) → Has (put_rows (put_of s ∷ [])) q → times q (put_rows (map put_of old.limbo.list)) ≡ 0
  fresh q here = dite (ℕ_discrete s.row q)
      (λ e. subst (λ (r : ℕ). times r (put_rows (map put_of old.limbo.list)) ≡ 0) e apart)
      (λ ne. let z = times_one_other q s.row ne in absurd (omega arith))

  same_free : free_list new ≡ free_list old
  same_free = ap free_list is

  free_from_put : (q : ℕ) → Has (free_list new) q → Has (free_list old ++ books.swept_rows store old new) q
  free_from_put q here = let same = ap (times q) same_free in let all = times-append q (free_list old) (books.swept_rows store old new) in omega arith

  put_swept_none : (q : ℕ) {F : Type 0} → Has (books.swept_rows store old new) q → F
  put_swept_none q here = none_dropped (map put_of old.limbo.list) q (subst (λ (l : List ℕ). Has l q) (gives.swept_is store old new all_kept (put_of s ∷ []) once more_limbo fresh) here)

  pub put_put : put_list store old new ≡ put_of s ∷ []
  put_put = gives.put_is store old new all_kept (put_of s ∷ []) once more_limbo fresh

  pub put_taken : taken_rows store old new ≡ []
  put_taken = gives.taken_none store old new all_kept (put_of s ∷ []) once more_limbo fresh (free_once new) free_from_put
      (λ q here. let same = ap (times q) same_free in let all = times-append q (free_list old) (books.swept_rows store old new) in
      dite (ℕ_discrete (times q (free_list old)) 0) (λ z. put_swept_none q (omega arith)) (λ nz. omega arith))

  pub may_deposit : IsMarked v.core s.row → IsSampled k.passes v.core (put_of s) → MayGive store k v old new
  may_deposit marked sampled = record {
    follows = ((let e = ap (λ (b : StockData). b.next) is in omega arith), inl refl);
    names = λ e same. no_entry e same;
    guard = gives.may store old new all_kept (put_of s ∷ []) once more_limbo fresh (free_once new) free_from_put k v has
        (λ q. dite (ℕ_discrete s.row q) (λ e. let one = times_one_same q s.row e in omega arith) (λ ne. let z = times_one_other q s.row ne in omega arith))
        (λ q here. dite (ℕ_discrete s.row q) (λ e. subst (IsMarked v.core) e marked) (λ ne. let z = times_one_other q s.row ne in absurd (omega arith)))
        (sampled, tt) (λ q here. none_dropped (map put_of old.limbo.list) q here);
    free = gives.free_is store old new all_kept (put_of s ∷ []) once more_limbo fresh (free_once new) free_from_put v.number;
    limbo = gives.limbo_is store old new all_kept (put_of s ∷ []) once more_limbo fresh v.number;
    blocked = λ shown. let clash : false ≡ true = shown in absurd (cc);
  }

-- Rows were swept

-- a row in limbo as the sweep sees it
abbrev of_put : PutRow → Sampled
of_put k = record { row = k.row; samples = k.samples; blocker = 0; blocked_at = 0 }

row_of_some : (limit : ℕ) (xs : List Sampled) (q : ℕ) → All (λ (s : Sampled). s.row < limit) xs → Has (rows_of xs) q → q < limit
row_of_some limit [] q all has = let z = times-nil q in absurd (omega arith)
row_of_some limit (y ∷ ys) q all has = dite (ℕ_discrete y.row q)
    (λ e. let low = All-head (λ (s : Sampled). s.row < limit) y ys all in omega arith)
    (λ ne. let skip = times-cons_other q y.row (rows_of ys) ne in row_of_some limit ys q (All-tail (λ (s : Sampled). s.row < limit) y ys all) (omega arith))

rows_back : (limit : ℕ) (xs : List Sampled) → All (λ (k : PutRow). k.row < limit) (map put_of xs) → All (λ (s : Sampled). s.row < limit) xs
rows_back limit [] all = All-nil (λ (s : Sampled). s.row < limit)
rows_back limit (x ∷ xs) all = All-cons (λ (s : Sampled). s.row < limit) x xs (All-head (λ (k : PutRow). k.row < limit) (put_of x) (map put_of xs) all) (rows_back limit xs (All-tail (λ (k : PutRow). k.row < limit) (put_of x) (map put_of xs) all))

either : (a b : Bool) → (a || b) ≡ true → (a ≡ true) ⊎ (b ≡ true)
either true b is = inl refl
either false b is = inr is

-- each row is still one of so many
pub stocked_swept : (v w : View) (rows : ℕ) (free free' : NumbersBelow) (limbo limbo' : LimboList) → IsStocked rows free limbo → limbo'.room ≡ limbo.room → Sweeps store v limbo.list free w limbo'.list free' → IsStocked rows free' limbo'
stocked_swept v w rows free free' limbo limbo' old room sweeps = record {
  few = old.few;
  limit = sweeps.limit ∙ old.limit;
  room = room ∙ old.room;
  below = λ r is. ⊎_elim (old.below r)
      (λ (left : among (rows_of (filter (λ s. not (is_read sweeps.numbers s)) limbo.list)) r ≡ true). row_of_some rows (filter (λ s. not (is_read sweeps.numbers s)) limbo.list) r
      (All-filter (λ s. not (is_read sweeps.numbers s)) (λ (s : Sampled). s.row < rows) limbo.list old.there) (among_has (rows_of (filter (λ s. not (is_read sweeps.numbers s)) limbo.list)) r left))
      (either (set.contains free.numbers r) (among (rows_of (filter (λ s. not (is_read sweeps.numbers s)) limbo.list)) r) (sym (sweeps.freed r) ∙ is));
  there = rows_back rows limbo'.list (All-same (λ (k : PutRow). k.row < rows) (map put_of limbo'.list) (map put_of (filter (is_read sweeps.numbers) limbo.list)) sweeps.stay
      (All-map (λ (k : PutRow). k.row < rows) put_of (filter (is_read sweeps.numbers) limbo.list) (All-filter (is_read sweeps.numbers) (λ (s : Sampled). s.row < rows) limbo.list old.there)));
}

module _ (k : Layout) (v w : View) (old new : StockData) (rows : ℕ) (has : w.core.has_book ≡ true) (once : IsOnce old) (stocked : IsStocked rows old.free old.limbo) (same_next : new.next ≡ old.next)
    (sweeps : Sweeps store v old.limbo.list old.free w new.limbo.list new.free)
    (unread : (row : ℕ) → Has (sweeping.swept_rows old.limbo.list new.limbo.list) row → IsUnread k.passes (map put_of old.limbo.list) w.core row) where
  abbrev keep : PutRow → Bool
  keep put = is_read sweeps.numbers (of_put put)

  abbrev gone : List Sampled
  gone = filter (λ s. not (is_read sweeps.numbers s)) old.limbo.list

  less_limbo : map put_of new.limbo.list ≡ filter keep (map put_of old.limbo.list) ++ []
  less_limbo = sweeps.stay ∙ (map_filter put_of keep old.limbo.list ∙ sym (append-nil (filter keep (map put_of old.limbo.list))))

  dropped_is : put_rows (filter (λ put. not (keep put)) (map put_of old.limbo.list)) ≡ rows_of gone
  dropped_is = ap put_rows (sym (map_filter put_of (λ put. not (keep put)) old.limbo.list)) ∙ rows_put gone

  swept_are : books.swept_rows store old new ≡ rows_of gone
  swept_are = gives.swept_is store old new keep [] once less_limbo (none_fresh (map put_of old.limbo.list)) ∙ dropped_is

  same_swept : books.swept_rows store old new ≡ sweeping.swept_rows old.limbo.list new.limbo.list
  same_swept = (λ j. Rattle.walk_core.specs.Lists.minus (rows_put new.limbo.list j) (rows_put old.limbo.list j))

  new_limit : new.free.limit ≡ old.free.limit
  new_limit = sweeps.limit

  free_from_sweep : (q : ℕ) → Has (free_list new) q → Has (free_list old ++ books.swept_rows store old new) q
  free_from_sweep q here =
      let all = times-append q (free_list old) (books.swept_rows store old new) in ⊎_elim
      (λ (was : set.contains old.free.numbers q ≡ true). let more = has_free old q was (let low = stocked.below q was in let same = stocked.limit in omega arith) in omega arith)
      (λ (left : among (rows_of gone) q ≡ true). let more = subst (λ (l : List ℕ). Has l q) (sym swept_are) (among_has (rows_of gone) q left) in omega arith)
      (either (set.contains old.free.numbers q) (among (rows_of gone) q) (sym (sweeps.freed q) ∙ free_has new q here))

  pub sweep_put : put_list store old new ≡ []
  sweep_put = gives.put_is store old new keep [] once less_limbo (none_fresh (map put_of old.limbo.list))

  or_first : (a b : Bool) → a ≡ true → (a || b) ≡ true
  or_first true b is = refl
  or_first false b is = absurd (cc)

  or_second : (a b : Bool) → b ≡ true → (a || b) ≡ true
  or_second true b is = refl
  or_second false b is = is

  free_too : (q : ℕ) → Has (free_list old ++ books.swept_rows store old new) q → Has (free_list new) q
  free_too q here = let all = times-append q (free_list old) (books.swept_rows store old new) in dite (ℕ_discrete (times q (free_list old)) 0)
      (λ z. let left : Has (rows_of gone) q = subst (λ (l : List ℕ). Has l q) swept_are (omega arith) in
      has_free new q (sweeps.freed q ∙ or_second (set.contains old.free.numbers q) (among (rows_of gone) q) (Rattle.walk_core.proofs.RowLists.among_true (rows_of gone) q left))
      (let low = row_of_some rows old.limbo.list q stocked.there (in_old q left) in let same = stocked.limit in let e = new_limit in omega arith))
      (λ nz. has_free new q (sweeps.freed q ∙ or_first (set.contains old.free.numbers q) (among (rows_of gone) q) (free_has old q (omega arith)))
      (let low = Rattle.reuse_plan.proofs.Stocked.free_below old q (omega arith) in let e = new_limit in omega arith))
    where
      in_old : (q : ℕ) → Has (rows_of gone) q → Has (rows_of old.limbo.list) q
      in_old q left = let one = subst (λ (l : List ℕ). Has l q) (sym swept_are ∙ same_swept) left in gives.minus_has (rows_of new.limbo.list) (rows_of old.limbo.list) q one

  pub sweep_taken : taken_rows store old new ≡ []
  sweep_taken = gives.taken_none store old new keep [] once less_limbo (none_fresh (map put_of old.limbo.list)) (free_once new) free_from_sweep free_too

  pub may_sweep : MayGive store k w old new
  may_sweep = record {
    follows = (omega arith, inl refl);
    names = λ e is. no_entry e is;
    guard = gives.may store old new keep [] once less_limbo (none_fresh (map put_of old.limbo.list)) (free_once new) free_from_sweep k w has
        (λ q. let z = times-nil q in omega arith) (λ q is. let z = times-nil q in absurd (omega arith)) tt
        (λ q is. unread q (subst (λ (l : List ℕ). Has l q) (sym (gives.swept_is store old new keep [] once less_limbo (none_fresh (map put_of old.limbo.list))) ∙ same_swept) is));
    free = gives.free_is store old new keep [] once less_limbo (none_fresh (map put_of old.limbo.list)) (free_once new) free_from_sweep w.number;
    limbo = gives.limbo_is store old new keep [] once less_limbo (none_fresh (map put_of old.limbo.list)) w.number;
    blocked = λ shown. let clash : false ≡ true = shown in absurd (cc);
  }
