-- What a sweep leaves of the rows that it has met.
use Rattle.std.proofs.Common.{◌≡◌, ◌≢◌, ℕ, zero, suc, ◌+◌, ◌-◌, ◌<◌, ◌≤◌, ◌%◌, ◌==◌, ◌||◌, ◌&&◌, not, Bool, true, false, cond, eqb, eq-eqb, ne_eqb, List, [], ◌∷◌, ◌++◌, length, map, get_or, set, take, drop, remove, slice_get, sym, refl, ap, ◌∙◌, subst, ⊎_elim, arith, Option, Some, None, append-nil}
use Rattle.std.specs.Prelude.{nat_lt}
use Rattle.std.specs.List.{All, filter, range_with_len, list_any}
use Rattle.std.specs.Cmp.{unsigned_tied}
use Rattle.std.specs.FinSet as set
use Rattle.std.proofs.lemmas.Cmp.{nat_cmp_total}
use Rattle.std.proofs.lemmas.Bool.{and_parts}
use Rattle.std.proofs.lemmas.List.{take_more, drop_more, length-take-le, length-map, take-append-drop}
use Rattle.std.proofs.Math.Seq.{take-length, drop-length, set-append_seam}
use Rattle.std.proofs.lemmas.List.Edits.{remove-append_right}
use Rattle.std.proofs.lemmas.List.Elements.{All-nil, All-cons}
use mathlib.Core.Logic.{dite}
use native.Mathlib.Decide.{ℕ_discrete}
use Rattle.free_numbers.specs.Numbers.{NumbersBelow}
use Rattle.free_numbers.specs.FreeNumbers.{with_number}
use Rattle.walk_core.specs.Lists.{times, Has, among}
use Rattle.walk_core.proofs.RowLists.{times-nil, times-cons_same, times-cons_other, times-append, among_true, among_false}
use Rattle.row_layout.specs.declared.limbo.Sampled.{Sampled}
use Rattle.row_layout.specs.Limbo.{blocked}
use Rattle.epoch_grace.specs.Loads.{put_of}
use Rattle.epoch_grace.specs.Sweeping.{reads, is_read, rows_of, IsKept}

-- Tests of the numbers from a on

any_none : (t : ℕ → Bool) (a n : ℕ) → ((x : ℕ) → a ≤ x → x < a + n → t x ≡ false) → list_any t (range_with_len a n) ≡ false
any_none t a zero none = refl
any_none t a (suc n) none = ap (λ (b : Bool). b || list_any t (range_with_len (a + 1) n)) (none a (omega arith) (omega arith)) ∙ any_none t (a + 1) n (λ x low high. none x (omega arith) (omega arith))

any_at : (t : ℕ → Bool) (a n x : ℕ) → a ≤ x → x < a + n → t x ≡ true → list_any t (range_with_len a n) ≡ true
any_at t a zero x low high is = absurd (omega arith)
any_at t a (suc n) x low high is = dite (ℕ_discrete a x)
    (λ e. ap (λ (b : Bool). b || list_any t (range_with_len (a + 1) n)) (ap t e ∙ is))
    (λ ne. ap (λ (b : Bool). t a || b) (any_at t (a + 1) n x (omega arith) (omega arith) is) ∙ or_true (t a))
  where
    or_true : (b : Bool) → (b || true) ≡ true
    or_true true = refl
    or_true false = refl

pub not_read : (numbers : List ℕ) (s : Sampled) → ((x : ℕ) → x < length numbers → reads numbers s x ≡ false) → is_read numbers s ≡ false
not_read numbers s none = any_none (reads numbers s) 0 (length numbers) (λ x _ less. none x (omega arith))

pub read_by : (numbers : List ℕ) (s : Sampled) (x : ℕ) → x < length numbers → reads numbers s x ≡ true → is_read numbers s ≡ true
read_by numbers s x less is = any_at (reads numbers s) 0 (length numbers) x (omega arith) (omega arith) is

-- a reader is kept as the row's blocker
pub kept_by_reader : (numbers : List ℕ) (s : Sampled) (x n : ℕ) → x < length numbers → n ≡ get_or numbers x 0 → reads numbers s x ≡ true → ((y : ℕ) → y < x → reads numbers s y ≡ false) → IsKept numbers (blocked s x n)
kept_by_reader numbers s x n less found is first =
    let both = and_parts (get_or s.samples x 0 % 2 == 1) (get_or numbers x 0 == get_or s.samples x 0) is in
    let odd = eqb_is (get_or s.samples x 0 % 2) 1 both.0 in let same = eqb_is (get_or numbers x 0) (get_or s.samples x 0) both.1 in record {
      there = less;
      loaded = found;
      odd = ap (λ (y : ℕ). y % 2) (found ∙ same) ∙ odd;
      same = found ∙ same;
      first = first;
    }
  where
    eqb_is : (a b : ℕ) → (a == b) ≡ true → a ≡ b
    eqb_is a b e = dite (ℕ_discrete a b) (λ z. z) (λ ne. let clash : true ≡ false = sym e ∙ ne_eqb a b ne in absurd (cc))

-- a filter leaves no row more often
filter_one : (b : Bool) (y : Sampled) (fs ys : List Sampled) (r : ℕ) → times r (rows_of fs) ≤ times r (rows_of ys) → times r (rows_of (cond b (y ∷ fs) fs)) ≤ times r (rows_of (y ∷ ys))
filter_one true y fs ys r rest = dite (ℕ_discrete y.row r)
    (λ e. let a = times-cons_same r y.row (rows_of fs) e in let b = times-cons_same r y.row (rows_of ys) e in omega arith)
    (λ ne. let a = times-cons_other r y.row (rows_of fs) ne in let b = times-cons_other r y.row (rows_of ys) ne in omega arith)
filter_one false y fs ys r rest = dite (ℕ_discrete y.row r)
    (λ e. let b = times-cons_same r y.row (rows_of ys) e in omega arith)
    (λ ne. let b = times-cons_other r y.row (rows_of ys) ne in omega arith)

filtered : (t : Sampled → Bool) (xs : List Sampled) (r : ℕ) → times r (rows_of (filter t xs)) ≤ times r (rows_of xs)
filtered t [] r = omega arith
filtered t (y ∷ ys) r = filter_one (t y) y (filter t ys) ys r (filtered t ys r)

-- The state of a sweep that has met the rows from the place p on

pub record SweptTo (numbers : List ℕ) (first : List Sampled) (free : NumbersBelow) (p : ℕ) (limbo : List Sampled) (free' : NumbersBelow) : Type 0 where
  pub left : List Sampled
  pub list : limbo ≡ take p first ++ left
  pub stay : map put_of left ≡ map put_of (filter (is_read numbers) (drop p first))
  pub kept : All (IsKept numbers) left
  pub limit : free'.limit ≡ free.limit
  pub freed : (row : ℕ) → set.contains free'.numbers row ≡ (set.contains free.numbers row || among (rows_of (filter (λ s. not (is_read numbers s)) (drop p first))) row)

or_false : (b : Bool) → b ≡ (b || false)
or_false true = refl
or_false false = refl

pub swept_none : (numbers : List ℕ) (first : List Sampled) (free : NumbersBelow) → SweptTo numbers first free (length first) first free
swept_none numbers first free = record {
  left = [];
  list = sym (append-nil first) ∙ ap (λ (l : List Sampled). l ++ []) (sym (take-length first));
  stay = ap (λ (l : List Sampled). map put_of (filter (is_read numbers) l)) (sym (drop-length first));
  kept = All-nil (IsKept numbers);
  limit = refl;
  freed = λ row. or_false (set.contains free.numbers row) ∙ ap (λ (b : Bool). set.contains free.numbers row || b) (sym (among_false (rows_of (filter (λ s. not (is_read numbers s)) (drop (length first) first))) row
      (ap (λ (l : List Sampled). times row (rows_of (filter (λ s. not (is_read numbers s)) l))) (drop-length first) ∙ times-nil row)));
}

module _ (numbers : List ℕ) (first : List Sampled) (free : NumbersBelow) (p : ℕ) (less : p < length first) (limbo : List Sampled) (free' : NumbersBelow) (old : SweptTo numbers first free (p + 1) limbo free') (d : Sampled) where
  abbrev x : Sampled
  x = get_or first p d

  -- the row that is met stands between those to come and those that were left
  pub met_at : limbo ≡ take p first ++ x ∷ old.left
  met_at = old.list ∙ (ap (λ (l : List Sampled). l ++ old.left) (take_more first p d less) ∙ append_one (take p first) x old.left)
    where
      append_one : (xs : List Sampled) (y : Sampled) (ys : List Sampled) → (xs ++ y ∷ []) ++ ys ≡ xs ++ y ∷ ys
      append_one [] y ys = refl
      append_one (z ∷ zs) y ys = ap (λ (l : List Sampled). z ∷ l) (append_one zs y ys)

  front : length (take p first) ≡ p
  front = length-take-le p first (omega arith)

  pub met_length : p < length limbo
  met_length = let e = ap length met_at in let all = Rattle.std.proofs.Common.length-append (take p first) (x ∷ old.left) in let f = front in omega arith

  pub met_is : (e : Sampled) → get_or limbo p e ≡ x
  met_is e = ap (λ (l : List Sampled). get_or l p e) met_at ∙ at_seam (take p first) p x old.left e front
    where
      at_seam : (xs : List Sampled) (n : ℕ) (y : Sampled) (ys : List Sampled) (e : Sampled) → length xs ≡ n → get_or (xs ++ y ∷ ys) n e ≡ y
      at_seam [] zero y ys e is = refl
      at_seam [] (suc n) y ys e is = absurd (omega arith)
      at_seam (z ∷ zs) zero y ys e is = absurd (omega arith)
      at_seam (z ∷ zs) (suc n) y ys e is = at_seam zs n y ys e (omega arith)

  back : drop p first ≡ x ∷ drop (p + 1) first
  back = drop_more first p d less

  -- a row that is read stays, with its blocker
  pub sweep_keeps : (b n : ℕ) → b < length numbers → n ≡ get_or numbers b 0 → reads numbers x b ≡ true → ((y : ℕ) → y < b → reads numbers x y ≡ false) → (limbo' : List Sampled) → limbo' ≡ set limbo p (blocked x b n) → SweptTo numbers first free p limbo' free'
  sweep_keeps b n there found is none_before limbo' e =
      let read = read_by numbers x b there is in record {
        left = blocked x b n ∷ old.left;
        list = e ∙ (ap (λ (l : List Sampled). set l p (blocked x b n)) met_at ∙ (ap (λ (i : ℕ). set (take p first ++ x ∷ old.left) i (blocked x b n)) (sym front) ∙ set-append_seam (take p first) x old.left (blocked x b n)));
        stay = ap (λ (l : List _). put_of x ∷ l) old.stay
            ∙ (ap (λ (t : Bool). map put_of (cond t (x ∷ filter (is_read numbers) (drop (p + 1) first)) (filter (is_read numbers) (drop (p + 1) first)))) (sym read)
            ∙ ap (λ (l : List Sampled). map put_of (filter (is_read numbers) l)) (sym back));
        kept = All-cons (IsKept numbers) (blocked x b n) old.left (kept_by_reader numbers x b n there found is none_before) old.kept;
        limit = old.limit;
        freed = λ row. old.freed row ∙ ap (λ (l : List Sampled). set.contains free.numbers row || among (rows_of l) row)
            (ap (λ (t : Bool). cond (not t) (x ∷ filter (λ s. not (is_read numbers s)) (drop (p + 1) first)) (filter (λ s. not (is_read numbers s)) (drop (p + 1) first))) (sym read)
            ∙ ap (filter (λ s. not (is_read numbers s))) (sym back));
      }

  -- a row that nobody reads goes to the free rows
  pub sweep_frees : ((y : ℕ) → y < length numbers → reads numbers x y ≡ false) → (limbo' : List Sampled) → limbo' ≡ remove limbo p → (free'' : NumbersBelow) → free'' ≡ with_number free' x.row
      → SweptTo numbers first free p limbo' free''
  sweep_frees none limbo' e free'' put =
      let unread = not_read numbers x none in let rest : List Sampled = filter (λ s. not (is_read numbers s)) (drop (p + 1) first) in
      let all : filter (λ s. not (is_read numbers s)) (drop p first) ≡ x ∷ rest = ap (filter (λ s. not (is_read numbers s))) back
      ∙ ap (λ (t : Bool). cond (not t) (x ∷ rest) rest) unread in record {
        left = old.left;
        list = e ∙ (ap (λ (l : List Sampled). remove l p) met_at ∙ (remove-append_right (take p first) (x ∷ old.left) p p front (omega arith)
            ∙ ap (λ (i : ℕ). take p first ++ remove (x ∷ old.left) i) (let z : p - p ≡ 0 = omega arith in z)));
        stay = old.stay ∙ (ap (λ (t : Bool). map put_of (cond t (x ∷ filter (is_read numbers) (drop (p + 1) first)) (filter (is_read numbers) (drop (p + 1) first)))) (sym unread)
            ∙ ap (λ (l : List Sampled). map put_of (filter (is_read numbers) l)) (sym back));
        kept = old.kept;
        limit = ap (λ (f : NumbersBelow). f.limit) put ∙ old.limit;
        freed = λ row. ap (λ (f : NumbersBelow). set.contains f.numbers row) put ∙ (set.contains-insert nat_cmp_total free'.numbers x.row row
            ∙ (dite (ℕ_discrete row x.row)
            (λ same. ap (λ (t : Bool). t || set.contains free'.numbers row) (unsigned_tied row x.row ∙ eq-eqb row x.row same)
            ∙ sym (ap (λ (t : Bool). set.contains free.numbers row || t) (ap (λ (l : List Sampled). among (rows_of l) row) all
            ∙ among_true (rows_of (x ∷ rest)) row (let one = times-cons_same row x.row (rows_of rest) (sym same) in omega arith)) ∙ or_true (set.contains free.numbers row)))
            (λ ne. ap (λ (t : Bool). t || set.contains free'.numbers row) (unsigned_tied row x.row ∙ ne_eqb row x.row ne)
            ∙ (old.freed row ∙ ap (λ (t : Bool). set.contains free.numbers row || t) (ap (λ (c : ℕ). nat_lt 0 c) (sym (times-cons_other row x.row (rows_of rest) (λ z. ne (sym z))))
            ∙ ap (λ (l : List Sampled). among (rows_of l) row) (sym all))))));
      }
    where
      or_true : (b : Bool) → (b || true) ≡ true
      or_true true = refl
      or_true false = refl

  -- which is not among them yet, where no row is twice in limbo and none is free too
  pub not_there : ((r : ℕ) → times r (rows_of first) ≤ 1) → ((r : ℕ) → Has (rows_of first) r → set.contains free.numbers r ≡ false) → set.contains free'.numbers x.row ≡ false
  not_there once apart =
      let r : ℕ = x.row in
      let split : rows_of first ≡ rows_of (take p first) ++ x.row ∷ rows_of (drop (p + 1) first) = ap rows_of (sym (take-append-drop p first) ∙ ap (λ (l : List Sampled). take p first ++ l) back)
      ∙ Rattle.std.proofs.lemmas.List.map-append (λ (s : Sampled). s.row) (take p first) (x ∷ drop (p + 1) first) in
      let count = ap (times r) split in let parts = times-append r (rows_of (take p first)) (x.row ∷ rows_of (drop (p + 1) first)) in
      let one = times-cons_same r x.row (rows_of (drop (p + 1) first)) refl in let most = once r in
      let fewer = filtered (λ s. not (is_read numbers s)) (drop (p + 1) first) r in
      old.freed r ∙ (λ i. apart r (omega arith) i || among_false (rows_of (filter (λ s. not (is_read numbers s)) (drop (p + 1) first))) r (omega arith) i)

-- no more rows are left than there were
pub left_few : (numbers : List ℕ) (first : List Sampled) (free : NumbersBelow) (limbo : List Sampled) (free' : NumbersBelow) → SweptTo numbers first free 0 limbo free' → length limbo ≤ length first
left_few numbers first free limbo free' end =
    let a = ap length end.list in let b = ap length end.stay in let c = length-map end.left put_of in let d = length-map (filter (is_read numbers) first) put_of in let e = filter_short (is_read numbers) first in omega arith
  where
    filter_short : (t : Sampled → Bool) (xs : List Sampled) → length (filter t xs) ≤ length xs
    filter_short t [] = omega arith
    filter_short t (x ∷ xs) = go (t x) (filter_short t xs)
      where
        go : (b : Bool) → length (filter t xs) ≤ length xs → length (cond b (x ∷ filter t xs) (filter t xs)) ≤ length (x ∷ xs)
        go true rest = omega arith
        go false rest = omega arith
