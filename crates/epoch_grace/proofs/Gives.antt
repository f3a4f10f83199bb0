-- The three lists of a give, by what became of the book's lists: some rows left limbo, some came into it, and the free rows changed. The layers above may cite this file.
use Rattle.std.proofs.Common.{◌≡◌, ◌≢◌, ℕ, ◌+◌, ◌≤◌, cond, not, Bool, true, false, List, [], ◌∷◌, ◌++◌, map, sym, refl, ap, ◌∙◌, subst, ⊎_elim, arith}
use Rattle.std.specs.List.{Contains, filter, AllByRecursion}
use Rattle.std.proofs.lemmas.List.{map-append}
use Rattle.std.proofs.lemmas.List.Elements.{filter-append}
use mathlib.Core.Logic.{dite}
use native.Mathlib.Decide.{ℕ_discrete}
use Rattle.walk_core.specs.declared.lists.PutRow.{PutRow}
use Rattle.walk_core.specs.Lists.{times, Has, among, minus, IsDistinct}
use Rattle.walk_core.specs.Events.{free_after, limbo_after}
use Rattle.walk_core.specs.Guards.{Guard, put_rows, AreMarked, MayPut, IsUnread}
use Rattle.walk_core.proofs.RowLists.{times-nil, times-cons_same, times-cons_other, times-append, times_one_same, times_one_other, times-filter, times_minus_same, times_minus_other, among_true, among_false, among_has, head_or_later, in_head, in_tail, has_contained, has_part}
use Rattle.row_layout.specs.declared.places.Layout.{Layout}
use Rattle.row_table.specs.declared.view.PassView.{PassView}
use Rattle.row_table.specs.Plan.{Meaning}
use Rattle.row_table.specs.Rule.{SameRows}
use Rattle.row_table.specs.Books.{book_core, swept_rows, put_list, taken_rows, give_of}

-- Lists

pub filter_same : {X : Type 0} (t u : X → Bool) (xs : List X) → ((x : X) → Contains xs x → t x ≡ u x) → filter t xs ≡ filter u xs
filter_same t u [] same = refl
filter_same t u (x ∷ xs) same = let rest = filter_same t u xs (λ y i. same y (in_tail x xs y i)) in λ j. cond (same x (in_head x xs) j) (x ∷ rest j) (rest j)

pub filter_all : {X : Type 0} (t : X → Bool) (xs : List X) → ((x : X) → Contains xs x → t x ≡ true) → filter t xs ≡ xs
filter_all t [] all = refl
filter_all t (x ∷ xs) all = ap (λ (b : Bool). cond b (x ∷ filter t xs) (filter t xs)) (all x (in_head x xs)) ∙ ap (λ l. x ∷ l) (filter_all t xs (λ y i. all y (in_tail x xs y i)))

pub filter_none : {X : Type 0} (t : X → Bool) (xs : List X) → ((x : X) → Contains xs x → t x ≡ false) → filter t xs ≡ []
filter_none t [] none = refl
filter_none t (x ∷ xs) none = ap (λ (b : Bool). cond b (x ∷ filter t xs) (filter t xs)) (none x (in_head x xs)) ∙ filter_none t xs (λ y i. none y (in_tail x xs y i))

pub map_filter : {X Y : Type 0} (f : X → Y) (t : Y → Bool) (xs : List X) → map f (filter (λ x. t (f x)) xs) ≡ filter t (map f xs)
map_filter f t [] = refl
map_filter {X} f t (x ∷ xs) = go (t (f x)) (map_filter f t xs)
  where
    go : (b : Bool) → map f (filter (λ (y : X). t (f y)) xs) ≡ filter t (map f xs) → map f (cond b (x ∷ filter (λ (y : X). t (f y)) xs) (filter (λ (y : X). t (f y)) xs)) ≡ cond b (f x ∷ filter t (map f xs)) (filter t (map f xs))
    go true e = ap (λ l. f x ∷ l) e
    go false e = e

pub minus_has : (ts xs : List ℕ) (r : ℕ) → Has (minus ts xs) r → Has xs r
minus_has ts xs r has = dite (ℕ_discrete (times r ts) 0)
    (λ z. let same = times_minus_other ts xs r z in omega arith)
    (λ nz. let zero = times_minus_same ts xs r (omega arith) in absurd (omega arith))

pub minus_le : (ts xs : List ℕ) (r : ℕ) → times r (minus ts xs) ≤ times r xs
minus_le ts xs r = dite (ℕ_discrete (times r ts) 0)
    (λ z. let same = times_minus_other ts xs r z in omega arith)
    (λ nz. let zero = times_minus_same ts xs r (omega arith) in omega arith)

pub minus_none : (ts xs : List ℕ) → ((x : ℕ) → Has xs x → Has ts x) → minus ts xs ≡ []
minus_none ts xs all = filter_none (λ x. not (among ts x)) xs (λ x i. ap not (among_true ts x (all x (has_contained xs x i))))

none_there : (xs : List ℕ) → ((q : ℕ) → times q xs ≡ 0) → xs ≡ []
none_there [] none = refl
none_there (x ∷ xs) none = let one = times-cons_same x x xs refl in let zero = none x in absurd (omega arith)

-- a list that has one number once, and no other
pub only_one : (xs : List ℕ) (row : ℕ) → times row xs ≡ 1 → ((q : ℕ) → q ≢ row → times q xs ≡ 0) → xs ≡ row ∷ []
only_one [] row one others = let none = times-nil row in absurd (omega arith)
only_one (x ∷ xs) row one others = dite (ℕ_discrete x row)
    (λ e. let here = times-cons_same row x xs e in
    (λ j. e j ∷ none_there xs (λ q. dite (ℕ_discrete q row)
    (λ same. let is = ap (λ (n : ℕ). times n xs) same in omega arith)
    (λ ne. let zero = others q ne in let skip = times-cons_other q x xs (λ z. ne (sym z ∙ e)) in omega arith)) j))
    (λ ne. let zero = others x ne in let here = times-cons_same x x xs refl in absurd (omega arith))

-- the rows of those that a test leaves
rows_le : (keep : PutRow → Bool) (lo : List PutRow) (q : ℕ) → times q (put_rows (filter keep lo)) ≤ times q (put_rows lo)
rows_le keep [] q = omega arith
rows_le keep (k ∷ lo) q = go (keep k) (rows_le keep lo q)
  where
    go : (b : Bool) → times q (put_rows (filter keep lo)) ≤ times q (put_rows lo) → times q (put_rows (cond b (k ∷ filter keep lo) (filter keep lo))) ≤ times q (k.row ∷ put_rows lo)
    go true rest = dite (ℕ_discrete k.row q)
        (λ e. let a = times-cons_same q k.row (put_rows (filter keep lo)) e in let b = times-cons_same q k.row (put_rows lo) e in omega arith)
        (λ ne. let a = times-cons_other q k.row (put_rows (filter keep lo)) ne in let b = times-cons_other q k.row (put_rows lo) ne in omega arith)
    go false rest = dite (ℕ_discrete k.row q)
        (λ e. let b = times-cons_same q k.row (put_rows lo) e in omega arith)
        (λ ne. let b = times-cons_other q k.row (put_rows lo) ne in omega arith)

has_kept : (keep : PutRow → Bool) (lo : List PutRow) (k : PutRow) → Contains lo k → keep k ≡ true → Has (put_rows (filter keep lo)) k.row
has_kept keep [] k i is = let none = i.1 in absurd (omega arith)
has_kept keep (y ∷ lo) k i is = ⊎_elim
    (λ (e : y ≡ k). subst (λ (b : Bool). Has (put_rows (cond b (y ∷ filter keep lo) (filter keep lo))) k.row) (sym (ap keep e ∙ is))
    (let one = times-cons_same k.row y.row (put_rows (filter keep lo)) (ap (λ (z : PutRow). z.row) e) in omega arith))
    (λ (later : Contains lo k). go (keep y) (has_kept keep lo k later is))
    (head_or_later y lo k i)
  where
    go : (b : Bool) → Has (put_rows (filter keep lo)) k.row → Has (put_rows (cond b (y ∷ filter keep lo) (filter keep lo))) k.row
    go true has = dite (ℕ_discrete y.row k.row)
        (λ e. let a = times-cons_same k.row y.row (put_rows (filter keep lo)) e in omega arith)
        (λ ne. let a = times-cons_other k.row y.row (put_rows (filter keep lo)) ne in omega arith)
    go false has = has

-- where each row stands once, one that the test leaves out is out
gone_one : (keep : PutRow → Bool) (lo : List PutRow) (k : PutRow) → Contains lo k → keep k ≡ false → times k.row (put_rows lo) ≤ 1 → times k.row (put_rows (filter keep lo)) ≡ 0
gone_one keep [] k i out once = times-nil k.row
gone_one keep (y ∷ lo) k i out once = ⊎_elim
    (λ (e : y ≡ k). subst (λ (b : Bool). times k.row (put_rows (cond b (y ∷ filter keep lo) (filter keep lo))) ≡ 0) (sym (ap keep e ∙ out))
    (let one = times-cons_same k.row y.row (put_rows lo) (ap (λ (z : PutRow). z.row) e) in let less = rows_le keep lo k.row in omega arith))
    (λ (later : Contains lo k). let has : Has (put_rows lo) k.row = has_part (λ (z : PutRow). z.row) lo k later in dite (ℕ_discrete y.row k.row)
    (λ e. let one = times-cons_same k.row y.row (put_rows lo) e in absurd (omega arith))
    (λ ne. let same = times-cons_other k.row y.row (put_rows lo) ne in go (keep y) ne (gone_one keep lo k later out (omega arith))))
    (head_or_later y lo k i)
  where
    go : (b : Bool) → y.row ≢ k.row → times k.row (put_rows (filter keep lo)) ≡ 0 → times k.row (put_rows (cond b (y ∷ filter keep lo) (filter keep lo))) ≡ 0
    go true ne zero = times-cons_other k.row y.row (put_rows (filter keep lo)) ne ∙ zero
    go false ne zero = zero

-- The rows in limbo of which the test is false left it, and the rows of put came into it
module _ {R B E : Type 0} (M : Meaning R B E) (old new : B) (keep : PutRow → Bool) (put : List PutRow)
    (once : (q : ℕ) → times q (M.free old) + times q (put_rows (M.limbo old)) ≤ 1)
    (limbo : M.limbo new ≡ filter keep (M.limbo old) ++ put)
    (fresh : (q : ℕ) → Has (put_rows put) q → times q (put_rows (M.limbo old)) ≡ 0) where
  abbrev dropped : List PutRow
  dropped = filter (λ k. not (keep k)) (M.limbo old)

  rows_new : put_rows (M.limbo new) ≡ put_rows (filter keep (M.limbo old)) ++ put_rows put
  rows_new = ap put_rows limbo ∙ map-append (λ (k : PutRow). k.row) (filter keep (M.limbo old)) put

  stays_or_not : (k : PutRow) → Contains (M.limbo old) k → among (put_rows (M.limbo new)) k.row ≡ keep k
  stays_or_not k i = go (keep k) refl
    where
      all : times k.row (put_rows (M.limbo new)) ≡ times k.row (put_rows (filter keep (M.limbo old))) + times k.row (put_rows put)
      all = ap (times k.row) rows_new ∙ times-append k.row (put_rows (filter keep (M.limbo old))) (put_rows put)

      here : Has (put_rows (M.limbo old)) k.row
      here = has_part (λ (z : PutRow). z.row) (M.limbo old) k i

      go : (b : Bool) → keep k ≡ b → among (put_rows (M.limbo new)) k.row ≡ b
      go true is = among_true (put_rows (M.limbo new)) k.row (let has = has_kept keep (M.limbo old) k i is in let e = all in omega arith)
      go false is = among_false (put_rows (M.limbo new)) k.row
          (let o = once k.row in let gone = gone_one keep (M.limbo old) k i is (omega arith) in let e = all in let h = here in
          let none : times k.row (put_rows put) ≡ 0 = dite (ℕ_discrete (times k.row (put_rows put)) 0) (λ z. z) (λ nz. let f = fresh k.row (omega arith) in absurd (omega arith)) in omega arith)

  pub swept_is : swept_rows M old new ≡ put_rows dropped
  swept_is = sym (map_filter (λ (k : PutRow). k.row) (λ x. not (among (put_rows (M.limbo new)) x)) (M.limbo old))
      ∙ ap put_rows (filter_same (λ k. not (among (put_rows (M.limbo new)) k.row)) (λ k. not (keep k)) (M.limbo old) (λ k i. ap not (stays_or_not k i)))

  pub put_is : put_list M old new ≡ put
  put_is = ap (filter (λ k. not (among (put_rows (M.limbo old)) k.row))) limbo ∙ (filter-append (λ k. not (among (put_rows (M.limbo old)) k.row)) (filter keep (M.limbo old)) put
      ∙ (λ j. filter_none (λ k. not (among (put_rows (M.limbo old)) k.row)) (filter keep (M.limbo old)) (λ k i. ap not (among_true (put_rows (M.limbo old)) k.row (was_there k i))) j
      ++ filter_all (λ k. not (among (put_rows (M.limbo old)) k.row)) put (λ k i. ap not (among_false (put_rows (M.limbo old)) k.row (fresh k.row (has_part (λ (z : PutRow). z.row) put k i)))) j))
    where
      was_there : (k : PutRow) → Contains (filter keep (M.limbo old)) k → Has (put_rows (M.limbo old)) k.row
      was_there k i = let has = has_part (λ (z : PutRow). z.row) (filter keep (M.limbo old)) k i in let less = rows_le keep (M.limbo old) k.row in omega arith

  swept_le : (q : ℕ) → times q (swept_rows M old new) ≤ times q (put_rows (M.limbo old))
  swept_le q = minus_le (put_rows (M.limbo new)) (put_rows (M.limbo old)) q

  pub limbo_is : (p : ℕ) → M.limbo new ≡ limbo_after (give_of M p old new) (M.limbo old)
  limbo_is p = limbo ∙ (λ j. filter_same keep (λ k. not (among (swept_rows M old new) k.row)) (M.limbo old) (λ k i. sym (swept_or_not k i)) j ++ sym put_is j)
    where
      swept_or_not : (k : PutRow) → Contains (M.limbo old) k → not (among (swept_rows M old new) k.row) ≡ keep k
      swept_or_not k i = go (keep k) refl (stays_or_not k i)
        where
          go : (b : Bool) → keep k ≡ b → among (put_rows (M.limbo new)) k.row ≡ keep k → not (among (swept_rows M old new) k.row) ≡ b
          go true is there = ap not (among_false (swept_rows M old new) k.row (times_minus_same (put_rows (M.limbo new)) (put_rows (M.limbo old)) k.row (among_has (put_rows (M.limbo new)) k.row (there ∙ is))))
          go false is there = ap not (among_true (swept_rows M old new) k.row
              (let none = not_among (there ∙ is) in let same = times_minus_other (put_rows (M.limbo new)) (put_rows (M.limbo old)) k.row none in let here = has_part (λ (z : PutRow). z.row) (M.limbo old) k i in omega arith))
            where
              not_among : among (put_rows (M.limbo new)) k.row ≡ false → times k.row (put_rows (M.limbo new)) ≡ 0
              not_among none = Rattle.walk_core.proofs.RowLists.among_not (put_rows (M.limbo new)) k.row none

  module _ (free_once : IsDistinct (M.free new)) (from : (q : ℕ) → Has (M.free new) q → Has (M.free old ++ swept_rows M old new) q) where
    all_once : (q : ℕ) → times q (M.free old ++ swept_rows M old new) ≤ 1
    all_once q = let all = times-append q (M.free old) (swept_rows M old new) in let o = once q in let less = swept_le q in omega arith

    pub free_is : (p : ℕ) → SameRows (free_after (give_of M p old new) (M.free old)) (M.free new)
    free_is p q = dite (ℕ_discrete (times q (M.free new)) 0)
        (λ z. let taken = times_minus_other (M.free new) (M.free old ++ swept_rows M old new) q z in dite (ℕ_discrete (times q (taken_rows M old new)) 0)
        (λ none. let same = times_minus_other (taken_rows M old new) (M.free old ++ swept_rows M old new) q none in omega arith)
        (λ some_there. let zero = times_minus_same (taken_rows M old new) (M.free old ++ swept_rows M old new) q (omega arith) in omega arith))
        (λ nz. let taken = times_minus_same (M.free new) (M.free old ++ swept_rows M old new) q (omega arith) in
        let same = times_minus_other (taken_rows M old new) (M.free old ++ swept_rows M old new) q taken in
        let has = from q (omega arith) in let most = all_once q in let new_most = free_once q in omega arith)

    -- the guard of the give
    pub may : (k : Layout) (v : PassView R B E) → v.core.has_book ≡ true → IsDistinct (put_rows put) → AreMarked v.core put → AllByRecursion (MayPut (book_core M k old) v.core) put
        → ((q : ℕ) → Has (put_rows dropped) q → IsUnread k.passes (M.limbo old) v.core q) → Guard (book_core M k old) v.core (give_of M v.number old new)
    may k v has put_once marked sampled unread = record {
      has_book = has;
      put_once = λ q. let same = ap (λ l. times q (put_rows l)) put_is in let o = put_once q in omega arith;
      swept_once = λ q. let o = once q in let less = swept_le q in omega arith;
      taken_once = λ q. let o = all_once q in let less = minus_le (M.free new) (M.free old ++ swept_rows M old new) q in omega arith;
      apart = λ q i. let f = fresh q (subst (λ (l : List PutRow). Has (put_rows l) q) put_is i) in let less = swept_le q in omega arith;
      put_marked = subst (AreMarked v.core) (sym put_is) marked;
      put_sampled = subst (AllByRecursion (MayPut (book_core M k old) v.core)) (sym put_is) sampled;
      swept_unread = λ q i. unread q (subst (λ (l : List ℕ). Has l q) swept_is i);
      taken_free = λ q i. minus_has (M.free new) (M.free old ++ swept_rows M old new) q i;
    }

    -- no row is taken
    pub taken_none : ((q : ℕ) → Has (M.free old ++ swept_rows M old new) q → Has (M.free new) q) → taken_rows M old new ≡ []
    taken_none all = minus_none (M.free new) (M.free old ++ swept_rows M old new) all

    -- one row is
    pub taken_one : (row : ℕ) → Has (M.free old) row → times row (M.free new) ≡ 0 → ((q : ℕ) → q ≢ row → Has (M.free old ++ swept_rows M old new) q → Has (M.free new) q) → taken_rows M old new ≡ row ∷ []
    taken_one row has gone others = only_one (taken_rows M old new) row
        (let same = times_minus_other (M.free new) (M.free old ++ swept_rows M old new) row gone in let all = times-append row (M.free old) (swept_rows M old new) in let most = all_once row in omega arith)
        (λ q ne. dite (ℕ_discrete (times q (M.free old ++ swept_rows M old new)) 0)
        (λ z. let less = minus_le (M.free new) (M.free old ++ swept_rows M old new) q in omega arith)
        (λ nz. times_minus_same (M.free new) (M.free old ++ swept_rows M old new) q (others q ne (omega arith))))
