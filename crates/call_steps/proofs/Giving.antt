-- The three lists of a give, after a sweep or none, and a commit.
--     not_swept, swept_by      the book after no sweep, and after one
--     same_taken      the rows that a give takes are those that the commit granted
--     may_give_lists      the guard of a give, and what it makes of free rows and limbo
--     may_give      what a give asks
use Rattle.std.specs.Prelude.{◌≡◌, ℕ, zero, suc, ◌+◌, ◌<◌, ◌≤◌, ◌||◌, not, Bool, true, false, cond, List, [], ◌∷◌, ◌++◌, map, take, drop}
use Rattle.std.specs.List.{Contains, AllByRecursion, filter, range_with_len}
use Rattle.std.specs.FinSet as set
use Rattle.std.proofs.Common.{sym, refl, ◌∙◌, ap, subst, arith, append-nil}
use mathlib.Core.Logic.{dite}
use native.Mathlib.Decide.{ℕ_discrete}
use Rattle.corten_base.specs.declared.calls.Entry.{Entry}
use Rattle.walk_core.specs.declared.lists.PutRow.{PutRow}
use Rattle.walk_core.specs.Guards.{put_rows, AreMarked, MayPut, IsUnread}
use Rattle.walk_core.specs.Lists.{times, Has, among, minus, IsDistinct}
use Rattle.walk_core.proofs.RowLists.{times-nil, times-cons, times-append, times-filter, times_minus_same, times_minus_other, among_has, among_not}
use Rattle.walk_core.proofs.Boot.{times-range_in}
use Rattle.row_layout.specs.declared.limbo.Sampled.{Sampled}
use Rattle.row_layout.specs.declared.places.Layout.{Layout}
use Rattle.row_table.specs.Books.{book_core, give_of, put_list, taken_rows, region, MayGive}
use Rattle.row_table.specs.Books as books
use Rattle.row_table.specs.Blocked.{IsBlocked}
use Rattle.row_table.specs.Rule.{SameRows}
use Rattle.epoch_grace.specs.Sweeping.{is_read, rows_of, Sweeps}
use Rattle.epoch_grace.specs.Sweeping as sweeping
use Rattle.epoch_grace.proofs.Gives.{filter_all, filter_none, map_filter}
use Rattle.epoch_grace.proofs.Gives as gives
use Rattle.epoch_grace.proofs.Stocked.{rows_put}
use Rattle.machine_plan.specs.Books.{BookData, free_list, put_of}
use Rattle.machine_plan.specs.Follows.{machine, Follows}
use Rattle.machine_plan.specs.Limbo.{shows_limbo}
use Rattle.book_sweep.specs.Sweeping.{SweepsBook}
use Rattle.call_steps.specs.Ready.{View}
use Rattle.call_steps.specs.Swept.{IsOnce, IsSweptTo}

-- the rows of those that a test leaves
rows_le : (keep : PutRow → Bool) (lo : List PutRow) (q : ℕ) → times q (put_rows (filter keep lo)) ≤ times q (put_rows lo)
rows_le keep [] q = omega arith
rows_le keep (x ∷ lo) q = go (keep x) (rows_le keep lo q)
  where
    go : (b : Bool) → times q (put_rows (filter keep lo)) ≤ times q (put_rows lo) → times q (put_rows (cond b (x ∷ filter keep lo) (filter keep lo))) ≤ times q (x.row ∷ put_rows lo)
    go true rest = let a = times-cons q x.row (put_rows (filter keep lo)) in let b = times-cons q x.row (put_rows lo) in omega (arith, a, b, rest)
    go false rest = let b = times-cons q x.row (put_rows lo) in omega (arith, b, rest)

abbrev all_kept : PutRow → Bool
all_kept k = true

none_dropped : (lo : List PutRow) → put_rows (filter (λ x. not (all_kept x)) lo) ≡ []
none_dropped lo = ap put_rows (filter_none (λ x. not (all_kept x)) lo (λ x i. refl))

pub not_swept : (k : Layout) (v : View) (old : BookData) → IsSweptTo k v old old
not_swept k v old = record {
  same = refl;
  keep = all_kept;
  limbo = sym (filter_all all_kept (map put_of old.limbo) (λ x i. refl));
  free = λ r. ap (times r) (sym (append-nil (free_list old)) ∙ (λ i. free_list old ++ sym (none_dropped (map put_of old.limbo)) i));
  unread = λ q has. let z = ap (times q) (none_dropped (map put_of old.limbo)) ∙ times-nil q in absurd (omega (arith, has, z));
}

-- a row in limbo as the sweep sees it
abbrev of_put : PutRow → Sampled
of_put k = record { row = k.row; samples = k.samples; blocker = 0; blocked_at = 0 }

module _ (k : Layout) (v w : View) (old m : BookData) (once : IsOnce old) (low : (q : ℕ) → Has (put_rows (map put_of old.limbo)) q → q < old.free.limit) (sweeps : SweepsBook v old w m)
    (unread : (row : ℕ) → Has (sweeping.swept_rows old.limbo m.limbo) row → IsUnread k.passes (map put_of old.limbo) w.core row) where
  abbrev s : Sweeps machine v old.limbo old.free w m.limbo m.free
  s = sweeps.sweeps

  abbrev read : PutRow → Bool
  read x = is_read sweeps.sweeps.numbers (of_put x)

  abbrev lo : List PutRow
  lo = map put_of old.limbo

  abbrev gone : List Sampled
  gone = filter (λ x. not (is_read sweeps.sweeps.numbers x)) old.limbo

  less : map put_of m.limbo ≡ filter read lo
  less = sweeps.sweeps.stay ∙ map_filter put_of read old.limbo

  less_more : map put_of m.limbo ≡ filter read lo ++ []
  less_more = less ∙ sym (append-nil (filter read lo))

  dropped_is : put_rows (filter (λ x. not (read x)) lo) ≡ rows_of gone
  dropped_is = ap put_rows (sym (map_filter put_of (λ x. not (read x)) old.limbo)) ∙ rows_put gone

  no_fresh : (q : ℕ) → Has (put_rows []) q → times q (put_rows lo) ≡ 0
  no_fresh q has = let z = times-nil q in absurd (omega (arith, has, z))

  swept_are : books.swept_rows machine old m ≡ put_rows (filter (λ x. not (read x)) lo)
  swept_are = gives.swept_is machine old m read [] once less_more no_fresh

  same_swept : books.swept_rows machine old m ≡ sweeping.swept_rows old.limbo m.limbo
  same_swept = (λ j. minus (rows_put m.limbo j) (rows_put old.limbo j))

  free_now : (r : ℕ) → times r (free_list m) ≡ times r (free_list old) + times r (put_rows (filter (λ x. not (read x)) lo))
  free_now r = go (set.contains old.free.numbers r) (among (rows_of gone) r) refl refl
    where
      count_m : times r (free_list m) ≡ cond (set.contains m.free.numbers r) (times r (range_with_len 0 m.free.limit)) 0
      count_m = times-filter (set.contains m.free.numbers) r (range_with_len 0 m.free.limit)

      count_old : times r (free_list old) ≡ cond (set.contains old.free.numbers r) (times r (range_with_len 0 old.free.limit)) 0
      count_old = times-filter (set.contains old.free.numbers) r (range_with_len 0 old.free.limit)

      limit : times r (range_with_len 0 m.free.limit) ≡ times r (range_with_len 0 old.free.limit)
      limit = ap (λ (n : ℕ). times r (range_with_len 0 n)) sweeps.sweeps.limit

      inside : Has (put_rows (filter (λ x. not (read x)) lo)) r → times r (range_with_len 0 old.free.limit) ≡ 1
      inside has = let le = rows_le (λ x. not (read x)) lo r in times-range_in r 0 old.free.limit (omega arith) (let l = low r (omega (arith, has, le)) in omega (arith, l))

      go : (a b : Bool) → set.contains old.free.numbers r ≡ a → among (rows_of gone) r ≡ b → times r (free_list m) ≡ times r (free_list old) + times r (put_rows (filter (λ x. not (read x)) lo))
      go true b ea eb =
          let now : set.contains m.free.numbers r ≡ true = sweeps.sweeps.freed r ∙ ap (λ (t : Bool). t || among (rows_of gone) r) ea in
          let cm = count_m ∙ ap (λ (t : Bool). cond t (times r (range_with_len 0 m.free.limit)) 0) now in
          let co = count_old ∙ ap (λ (t : Bool). cond t (times r (range_with_len 0 old.free.limit)) 0) ea in
          let le = rows_le (λ x. not (read x)) lo r in
          let o = once r in
          let l = limit in
          dite (ℕ_discrete (times r (put_rows (filter (λ x. not (read x)) lo))) 0)
          (λ z. omega (arith, cm, co, l, z))
          (λ nz. let i = inside (omega (arith, nz)) in absurd (omega (arith, i, co, le, o, nz)))
      go false true ea eb =
          let now : set.contains m.free.numbers r ≡ true = sweeps.sweeps.freed r ∙ (λ j. ea j || eb j) in
          let cm = count_m ∙ ap (λ (t : Bool). cond t (times r (range_with_len 0 m.free.limit)) 0) now in
          let co = count_old ∙ ap (λ (t : Bool). cond t (times r (range_with_len 0 old.free.limit)) 0) ea in
          let has : Has (put_rows (filter (λ x. not (read x)) lo)) r = subst (λ (l : List ℕ). Has l r) (sym dropped_is) (among_has (rows_of gone) r eb) in
          let i = inside has in
          let le = rows_le (λ x. not (read x)) lo r in
          let o = once r in
          let l = limit in
          omega (arith, cm, co, l, i, has, le, o)
      go false false ea eb =
          let now : set.contains m.free.numbers r ≡ false = sweeps.sweeps.freed r ∙ (λ j. ea j || eb j) in
          let cm = count_m ∙ ap (λ (t : Bool). cond t (times r (range_with_len 0 m.free.limit)) 0) now in
          let co = count_old ∙ ap (λ (t : Bool). cond t (times r (range_with_len 0 old.free.limit)) 0) ea in
          let z = ap (times r) dropped_is ∙ among_not (rows_of gone) r eb in
          omega (arith, cm, co, z)

  pub swept_by : IsSweptTo k w old m
  swept_by = record {
    same = sweeps.same;
    keep = read;
    limbo = less;
    free = λ r. let a = free_now r in let b = times-append r (free_list old) (put_rows (filter (λ x. not (read x)) lo)) in omega (arith, a, b);
    unread = λ q has. unread q (subst (λ (l : List ℕ). Has l q) (sym swept_are ∙ same_swept) has);
  }

-- ---- the give

take_drop : (r n : ℕ) (xs : List ℕ) → times r (take n xs) + times r (drop n xs) ≡ times r xs
take_drop r zero xs = let z = times-nil r in omega (arith, z)
take_drop r (suc n) [] = let z = times-nil r in omega (arith, z)
take_drop r (suc n) (x ∷ xs) = let rest = take_drop r n xs in let a = times-cons r x (take n xs) in let b = times-cons r x xs in omega (arith, rest, a, b)

-- so many of the free rows were granted, and rows of put came into limbo
module _ (k : Layout) (v : View) (old m g : BookData) (swept : IsSweptTo k v old m) (once : IsOnce old) (put : List PutRow) (limbo : map put_of g.limbo ≡ map put_of m.limbo ++ put) (n : ℕ) (free : free_list g ≡ drop n (free_list m))
    (fresh : (q : ℕ) → Has (put_rows put) q → times q (put_rows (map put_of old.limbo)) ≡ 0) where
  abbrev dropped : List ℕ
  dropped = put_rows (filter (λ x. not (swept.keep x)) (map put_of old.limbo))

  limbo_now : map put_of g.limbo ≡ filter swept.keep (map put_of old.limbo) ++ put
  limbo_now = limbo ∙ ap (λ l. l ++ put) swept.limbo

  all_rows : (r : ℕ) → times r (take n (free_list m)) + times r (free_list g) ≡ times r (free_list old) + times r dropped
  all_rows r = let a = take_drop r n (free_list m) in let b = ap (times r) free in let c = swept.free r in let d = times-append r (free_list old) dropped in omega (arith, a, b, c, d)

  at_most : (r : ℕ) → times r (free_list old) + times r dropped ≤ 1
  at_most r = let o = once r in let le = rows_le (λ x. not (swept.keep x)) (map put_of old.limbo) r in omega (arith, o, le)

  free_once : IsDistinct (free_list g)
  free_once r = let a = all_rows r in let b = at_most r in omega (arith, a, b)

  swept_is : books.swept_rows machine old g ≡ dropped
  swept_is = gives.swept_is machine old g swept.keep put once limbo_now fresh

  from : (q : ℕ) → Has (free_list g) q → Has (free_list old ++ books.swept_rows machine old g) q
  from q has = let a = all_rows q in let s = ap (times q) swept_is in let d = times-append q (free_list old) (books.swept_rows machine old g) in omega (arith, a, s, d, has)

  pub same_taken : SameRows (taken_rows machine old g) (take n (free_list m))
  same_taken r =
      let a = all_rows r in
      let b = at_most r in
      let s = ap (times r) swept_is in
      let d = times-append r (free_list old) (books.swept_rows machine old g) in
      dite (ℕ_discrete (times r (free_list g)) 0)
      (λ z. let t = times_minus_other (free_list g) (free_list old ++ books.swept_rows machine old g) r z in omega (arith, a, b, s, d, z, t))
      (λ nz. let t = times_minus_same (free_list g) (free_list old ++ books.swept_rows machine old g) r (omega (arith, nz)) in omega (arith, a, b, s, d, nz, t))

  pub put_is : put_list machine old g ≡ put
  put_is = gives.put_is machine old g swept.keep put once limbo_now fresh

  -- no row that the pass holds is taken
  pub taken_apart : (r : ℕ) → times r (free_list old) + times r (put_rows (map put_of old.limbo)) ≡ 0 → times r (taken_rows machine old g) ≡ 0
  taken_apart r none = let t = same_taken r in let a = all_rows r in let le = rows_le (λ x. not (swept.keep x)) (map put_of old.limbo) r in omega (arith, t, a, le, none)

  pub may_give : v.core.has_book ≡ true → Follows (region v) old g → ((entry : Entry) → g.journal ≡ old.journal ++ entry ∷ [] → entry.thread ≡ v.number)
      → (shows_limbo g ≡ true → (entry : Entry) → g.journal ≡ old.journal ++ entry ∷ [] → (x : PutRow) → Contains (map put_of g.limbo) x → IsBlocked k.passes v.core x)
      → IsDistinct (put_rows put) → AreMarked v.core put → AllByRecursion (MayPut (book_core machine k old) v.core) put → MayGive machine k v old g
  may_give has follows names blocked put_once marked sampled = record {
    follows = follows;
    names = names;
    guard = gives.may machine old g swept.keep put once limbo_now fresh free_once from k v has put_once marked sampled swept.unread;
    free = gives.free_is machine old g swept.keep put once limbo_now fresh free_once from v.number;
    limbo = gives.limbo_is machine old g swept.keep put once limbo_now fresh v.number;
    blocked = blocked;
  }
