-- How the seats are put together again, and what holds of the table that is closed then.
use Rattle.std.proofs.Common.{◌≡◌, ◌≢◌, ℕ, zero, suc, ◌+◌, ◌*◌, ◌%◌, ◌<◌, ◌≤◌, ◌==◌, ◌⊎◌, cond, Bool, true, false, List, [], ◌∷◌, ◌++◌, map, length, get_or, set, sym, refl, ap, ◌∙◌, subst, inl, inr, ⊎_elim, arith, eq-eqb, ne_eqb, Some, take, get_or-set_same, get_or-set_other, length-set}
use Rattle.std.specs.List.{Contains, All, sum_by}
use Rattle.std.proofs.lemmas.List.Sums.{sum_by-cons}
use Rattle.std.proofs.lemmas.List.Elements.{All-contains, Contains-append_right}
use mathlib.Core.Option.{some, some-injective, some-ne-none}
use Rattle.std.proofs.lemmas.List.{get_or_past}
use Rattle.std.proofs.lemmas.Bool.{cases_lt}
use lib.ListN.{get_elem?}
use native.Mathlib.Decide.{ℕ_discrete}
use mathlib.Core.Logic.{dite}
use Rattle.atomic_table.specs.Table.{Final, Seen, Joins, Enters}
use Rattle.atomic_table.proofs.Lists.{at_map, at_set, at_snoc}
use Rattle.walk_core.specs.declared.pass.PassCore.{PassCore}
use Rattle.walk_core.specs.Words.{epoch_at, book_at, stale}
use Rattle.walk_core.specs.Lists.{times, Has}
use Rattle.walk_core.specs.declared.pass.GrantedRow.{GrantedRow}
use Rattle.walk_core.specs.declared.pass.UnlinkedRow.{UnlinkedRow}
use Rattle.walk_core.specs.Core.{Core, word, pass_at, idle, times_in_hand, times_out, IsLinked}
use Rattle.walk_core.specs.Good.{Good, LockSays, says_free, says_held, says_stale}
use Rattle.walk_core.proofs.RowLists.{times-nil, times-cons_other, in_head, in_tail}
use Rattle.walk_core.proofs.Facts.{out-le-one, free_linked}
use Rattle.walk_core.proofs.Keeps.{found_is, found_there}
use Rattle.row_layout.specs.declared.places.Layout.{Layout}
use Rattle.row_table.specs.declared.view.PassView.{PassView}
use Rattle.row_table.specs.declared.plan.Content.TheVariants.{Row, Book}
use Rattle.row_table.specs.Plan.{Meaning}
use Rattle.row_table.specs.Rows.{row_words, place_at, lock_of}
use Rattle.row_table.specs.Rule.{Slot, Table, core_part, core_of, Seats, Holds}
use Rattle.row_layout.specs.Places.{word_count}
use Rattle.row_table.specs.Close.{HasNothing, IsIdle, HasAll, IsReached, times_listed, IsGoodEnd, KnownAtEnd, AtEnd, IsClosed}
use Rattle.row_table.proofs.Known.{held_below}
use Rattle.row_table.proofs.Tree.{reached_linked, linked_reached}
use Rattle.row_table.proofs.Turns.{book_below}

-- an element of two lists put together
at_both : {A : Type 0} (l m : List A) (b : A) (i : ℕ) → get_elem? (l ++ m) i ≡ some b → (get_elem? l i ≡ some b) ⊎ ((k : ℕ) × (i ≡ length l + k) × (get_elem? m k ≡ some b))
at_both [] m b i e = inr (i, omega arith, e)
at_both (x ∷ xs) m b zero e = inl e
at_both (x ∷ xs) m b (suc i) e = ⊎_elim inl (λ t. let f = t.1 in inr (t.0, omega arith, t.2)) (at_both xs m b i e)

-- where the pass that stands at a place stands after the join
abbrev joined : ℕ → ℕ → ℕ → ℕ × ℕ → ℕ × ℕ
joined id other n x = cond (x.0 == other) (id, n + x.1) x

abbrev chosen : Bool → ℕ × ℕ → ℕ × ℕ → ℕ × ℕ
chosen b x y = cond b x y

pub contained_at : {A : Type 0} (xs : List A) (x : A) → Contains xs x → (i : ℕ) × (get_elem? xs i ≡ some x)
contained_at [] x (k, less, is) = absurd (omega arith)
contained_at (y ∷ ys) x (zero, less, is) = (0, ap some is)
contained_at (y ∷ ys) x (suc k, less, is) = let o = contained_at ys x (k, omega arith, is) in (suc o.0, o.1)

-- a sum of nothing
sum_none : {A : Type 0} (f : A → ℕ) (xs : List A) (d : A) → ((i : ℕ) → i < length xs → f (get_or xs i d) ≡ 0) → sum_by f xs ≡ 0
sum_none f [] d none = refl
sum_none f (x ∷ xs) d none = let all = sum_by-cons f x xs in let here = none 0 (omega arith) in let rest = sum_none f xs d (λ i less. none (suc i) (omega arith)) in omega arith

module _ {R B E : Type 0} where
  pub seats_joined : (views : List (List (PassView R B E))) (passes : List (PassView R B E)) (owner : ℕ → ℕ × ℕ) (id other : ℕ) (vs us : List (PassView R B E))
      → Seats views passes owner → get_elem? views id ≡ some vs → other ≢ id → get_elem? views other ≡ some us
      → Seats (set (set views id (vs ++ us)) other []) passes (λ n. joined id other (length vs) (owner n))
  seats_joined views passes owner id other vs us seats me apart them j ws e i u f =
      let J : ℕ × ℕ → ℕ × ℕ = joined id other (length vs) in
      ⊎_elim
      (λ (t : (j ≡ other) × ([] ≡ ws)). let none_there : get_elem? [] i ≡ some u = subst (λ (x : List (PassView R B E)). get_elem? x i ≡ some u) (sym t.1) f in absurd (some-ne-none u (sym none_there)))
      (λ (t : (j ≢ other) × (get_elem? (set views id (vs ++ us)) j ≡ some ws)). ⊎_elim
      (λ (y : (j ≡ id) × (vs ++ us ≡ ws)). ⊎_elim
      (λ (z : get_elem? vs i ≡ some u). let old = seats id vs me i u z in
      (old.0, ap J old.1 ∙ (ap (λ b. chosen b (id, length vs + i) (id, i)) (ne_eqb id other (λ q. apart (sym q))) ∙ (λ k. (sym y.0 k, i)))))
      (λ (z : (k : ℕ) × (i ≡ length vs + k) × (get_elem? us k ≡ some u)). let old = seats other us them z.0 u z.2 in
      (old.0, ap J old.1 ∙ (ap (λ b. chosen b (id, length vs + z.0) (other, z.0)) (eq-eqb other other refl) ∙ (λ k. (sym y.0 k, sym z.1 k)))))
      (at_both vs us u i (subst (λ (x : List (PassView R B E)). get_elem? x i ≡ some u) (sym y.1) f)))
      (λ (y : (j ≢ id) × (get_elem? views j ≡ some ws)). let old = seats j ws y.1 i u f in
      (old.0, ap J old.1 ∙ ap (λ b. chosen b (id, length vs + i) (j, i)) (ne_eqb j other t.0)))
      (at_set views id j (vs ++ us) ws t.1))
      (at_set (set views id (vs ++ us)) other j [] ws e)

  -- a seat that knows nothing
  seats_more : (views : List (List (PassView R B E))) (passes : List (PassView R B E)) (owner : ℕ → ℕ × ℕ) → Seats views passes owner → Seats (views ++ [] ∷ []) passes owner
  seats_more views passes owner seats j ws e i u f = ⊎_elim
      (λ (old : get_elem? views j ≡ some ws). seats j ws old i u f)
      (λ (z : [] ≡ ws). let none_there : get_elem? [] i ≡ some u = subst (λ (x : List (PassView R B E)). get_elem? x i ≡ some u) (sym z) f in absurd (some-ne-none u (sym none_there)))
      (at_snoc views [] ws j e)

  numbered : (vs : List (PassView R B E)) (p : ℕ) → Has (map (λ v. v.number) vs) p → (v : PassView R B E) × Contains vs v × (v.number ≡ p)
  numbered [] p i = let z = times-nil p in absurd (omega arith)
  numbered (x ∷ xs) p i = dite (ℕ_discrete x.number p)
      (λ e. (x, in_head x xs, e))
      (λ ne. let n = times-cons_other p x.number (map (λ v. v.number) xs) ne in let o = numbered xs p (omega arith) in (o.0, in_tail x xs o.0 o.1, o.2))

  module _ (M : Meaning R B E) where
    pub joins : (k : Layout) (first : B) (id other : ℕ) (vs us : List (PassView R B E)) → Joins (Holds M k first) id vs other us (vs ++ us) []
    joins k first id other vs us s h me apart them = record {
      passes = h.passes;
      owner = λ n. joined id other (length vs) (h.owner n);
      book = h.book;
      free = h.free;
      same_free = h.same_free;
      slots = h.slots;
      seats = seats_joined s.views h.passes h.owner id other vs us h.seats me apart (sym (Rattle.atomic_table.proofs.Lists.set_else s.views id other (vs ++ us) apart) ∙ them);
      numbers = h.numbers;
      good = h.good;
      contents = h.contents;
      generations = h.generations;
      fixed = h.fixed;
      knows = h.knows;
    }

    -- a new seat that has no pass
    pub enters : (k : Layout) (first : B) (slots i : ℕ) → Enters (Holds M k first) slots i (λ _ w. w ≡ [])
    enters k first slots i s h long small = (
      [],
      record {
        passes = h.passes;
        owner = h.owner;
        book = h.book;
        free = h.free;
        same_free = h.same_free;
        slots = h.slots;
        seats = seats_more s.views h.passes h.owner h.seats;
        numbers = h.numbers;
        good = h.good;
        contents = h.contents;
        generations = h.generations;
        fixed = h.fixed;
        knows = h.knows;
      },
      refl,
    )

    module _ (k : Layout) (first : B) (s : Table R B E) (id : ℕ) (vs : List (PassView R B E)) (seen : Seen (Holds M k first) id vs s) (all : HasAll k.passes (map (λ v. v.number) vs))
        (still : (v : PassView R B E) → Contains vs v → IsIdle v) where
      abbrev h : Holds M k first s
      h = seen.0

      abbrev c : Core
      c = core_of M k s.words h.passes h.free h.book

      view_there : (v : PassView R B E) → Contains vs v → get_elem? h.passes v.number ≡ some v
      view_there v i = let o = contained_at vs v i in (h.seats id vs seen.1 o.0 v o.1).0

      -- each pass has nothing
      core_still : (p : ℕ) → p < k.passes → (v : PassView R B E) × IsIdle v × (pass_at c p ≡ v.core)
      core_still p less = let o = numbered vs p (all p less) in let at = view_there o.0 o.1 in
          (o.0, still o.0 o.1, ap (pass_at c) (sym o.2) ∙ found_is (map core_part h.passes) o.0.number o.0.core idle (at_map core_part h.passes o.0.number o.0 at))

      nobody_holds : (p r : ℕ) → Has (pass_at c p).held r → ⊥
      nobody_holds p r has = let o = core_still p (held_below c p r h.good has) in let none = ap (times r) (ap (λ (u : PassCore). u.held) o.2 ∙ o.1.held) ∙ times-nil r in omega arith

      locks : (r : ℕ) → r < k.rows → ((lock_of s.words r ≡ 0) ⊎ (lock_of s.words r ≡ stale))
      locks r less = says (lock_of s.words r) refl (h.good.locks.rows.each r less)
        where
          says : (n : ℕ) → n ≡ lock_of s.words r → LockSays c r n → (lock_of s.words r ≡ 0) ⊎ (lock_of s.words r ≡ stale)
          says n is (says_free z t) = inl (sym is ∙ z)
          says n is (says_held p shown has) = absurd (nobody_holds p r has)
          says n is (says_stale z out) = inr (sym is ∙ z)

      row_home : (r : ℕ) → r < k.rows → (x : R) × (get_elem? s.homes r ≡ some (some (Some (Row x))))
      row_home r less = ⊎_elim (λ (z : lock_of s.words r ≡ 0). let t = h.contents.linked r less z in (t.0, t.1)) (λ (z : lock_of s.words r ≡ stale). let t = h.contents.others r less z in (t.0, t.1)) (locks r less)

      book_free : get_or s.words (book_at k.rows k.passes) 0 ≡ 0
      book_free = ⊎_elim (λ (z : word c (book_at k.rows k.passes) ≡ 0). z)
          (λ (o : (p : ℕ) × (word c (book_at k.rows k.passes) ≡ p + 1) × ((pass_at c p).has_book ≡ true)).
          let t = core_still o.0 (book_below c o.0 h.good o.2) in let clash : true ≡ false = sym o.2 ∙ (ap (λ (u : PassCore). u.has_book) t.2 ∙ t.1.has_not) in absurd (cc)) h.good.locks.book.each

      linked_free : (r : ℕ) → IsLinked c r → lock_of s.words r ≡ 0
      linked_free r l = says (lock_of s.words r) refl (h.good.locks.rows.each r l.there)
        where
          says : (n : ℕ) → n ≡ lock_of s.words r → LockSays c r n → lock_of s.words r ≡ 0
          says n is (says_free z t) = sym is ∙ z
          says n is (says_held p shown has) = absurd (nobody_holds p r has)
          says n is (says_stale z out) = let tree = l.in_tree in absurd (omega arith)

      -- no hand has a row, so a row is out of the tree where it is in a list of the book
      no_hand : (r i : ℕ) → i < length c.passes → times_in_hand r (get_or c.passes i idle) ≡ 0
      no_hand r i less =
          let all = h.good.sizes.passes in let o = core_still i (omega arith) in
          let none = ap (times_in_hand r) o.2 in let granted = ap (λ (l : List _). times r (map (λ (g : GrantedRow). g.row) l)) o.1.granted ∙ times-nil r in
          let unlinked = ap (λ (l : List _). times r (map (λ (u : UnlinkedRow). u.row) l)) o.1.unlinked ∙ times-nil r in omega arith

      out_is : (r : ℕ) → times_out c r ≡ times_listed M r h.book
      unfolding times_out
      out_is r = let hands = sum_none (times_in_hand r) c.passes idle (no_hand r) in let same = h.same_free r in omega arith

      good_end : IsGoodEnd M k s.words h.book
      good_end = record {
        core = c;
        good = h.good;
        levels = refl;
        rows = refl;
        count = refl;
        words_same = refl;
        free = h.same_free;
        limbo = refl;
        hands = λ p less. let o = core_still p less in subst HasNothing (sym o.2) o.1;
        once = λ r. let out = out-le-one h.good.states r in let is = out_is r in omega arith;
        there = λ r past. sym (out_is r) ∙ h.good.states.there r past;
        reached = λ r less none. linked_reached h.good r (record { there = less; in_tree = out_is r ∙ none });
        generations = h.generations;
        unlisted = λ r reached. let l = reached_linked h.good r reached in (l.there, sym (out_is r) ∙ l.in_tree);
      }

      pub ended : (xs : List (Slot R B)) → ((j : ℕ) (y : Slot R B) → get_elem? s.homes j ≡ some (some y) → get_elem? xs j ≡ some y) → AtEnd M k vs s.words xs
      ended xs at = record {
        book = h.book;
        book_there = at k.rows (Some (Book h.book)) (h.contents.book_home book_free);
        row_there = λ r less. let t = row_home r less in (t.0, at r (Some (Row t.0)) t.1);
        good = good_end;
        even = λ t less. let o = core_still t less in h.good.stands.parity t less ∙ ap Rattle.walk_core.specs.Good.inside (ap (λ (u : PassCore). u.stand) o.2 ∙ o.1.outside);
        agree = λ r x reached there. let l = reached_linked h.good r reached in let t = h.contents.linked r l.there (linked_free r l) in
            let both = sym (at r (Some (Row t.0)) t.1) ∙ there in let same : t.0 ≡ x = cc in subst (M.agrees h.book (place_at s.words r) (row_words s.words r)) same t.2;
        blank = λ r x less unreached there. ⊎_elim
            (λ (z : lock_of s.words r ≡ 0). absurd (unreached (linked_reached h.good r (free_linked h.good.locks.rows r less z))))
            (λ (z : lock_of s.words r ≡ stale). let t = h.contents.others r less z in let both = sym (at r (Some (Row t.0)) t.1) ∙ there in let same : t.0 ≡ x = cc in subst M.is_blank same t.2)
            (locks r less);
        knows = λ v i. let know = h.knows v.number v (view_there v i) in (know.there, record { same_epoch = know.epoch; fixed = λ b e. let opt = sym know.origin ∙ e in let same : first ≡ b = cc in subst (λ (y : B). M.same_fixed y h.book) same h.fixed; seen = know.seen; mine = know.mine });
      }

    -- the same by the clause of a closed table
    pub at_end : (k : Layout) (first : B) (id : ℕ) (vs : List (PassView R B E)) (ws : List ℕ) (xs : List (Slot R B)) → HasAll k.passes (map (λ v. v.number) vs) → ((v : PassView R B E) → Contains vs v → IsIdle v)
        → Final (Seen (Holds M k first) id vs) ws xs → AtEnd M k vs ws xs
    at_end k first id vs ws xs all still final = subst (λ (us : List ℕ). AtEnd M k vs us xs) final.2 (ended k first final.0 id vs final.1 all still xs final.4)

-- Lists that are read one by one

pub all_of : {A : Type 0} (P : A → Type 0) (ys zs all : List A) (x : A) → ys ++ x ∷ zs ≡ all → All P all → P x
all_of P ys zs all x is every = All-contains P all x every (subst (λ (l : List _). Contains l x) is (Contains-append_right ys (x ∷ zs) x (in_head x zs)))

pub take_next : {A : Type 0} (l : List A) (i : ℕ) (x : A) → get_elem? l i ≡ some x → take (suc i) l ≡ take i l ++ x ∷ []
take_next [] i x e = absurd (some-ne-none x (sym e))
take_next (y ∷ ys) zero x e = ap (λ (z : _). z ∷ []) (some-injective y x e)
take_next (y ∷ ys) (suc i) x e = ap (λ (l : List _). y ∷ l) (take_next ys i x e)

pub take_whole : {A : Type 0} (l : List A) (n : ℕ) → length l ≡ n → take n l ≡ l
take_whole [] zero e = refl
take_whole [] (suc n) e = refl
take_whole (x ∷ xs) zero e = absurd (omega arith)
take_whole (x ∷ xs) (suc n) e = ap (λ (l : List _). x ∷ l) (take_whole xs n (omega arith))

-- the elements so far and one more are those of another list
pub at_more : {A : Type 0} (F : ℕ → A → Type 0) (xs : List A) (x : A) (n : ℕ) → length xs ≡ n → F n x → ((i : ℕ) (y : A) → get_elem? xs i ≡ some y → F i y) → (i : ℕ) (y : A) → get_elem? (xs ++ x ∷ []) i ≡ some y → F i y
at_more F [] x zero all here old zero y e = subst (F 0) (some-injective x y e) here
at_more F [] x zero all here old (suc i) y e = absurd (some-ne-none y (sym e))
at_more F [] x (suc n) all here old i y e = absurd (omega arith)
at_more F (z ∷ zs) x zero all here old i y e = absurd (omega arith)
at_more F (z ∷ zs) x (suc n) all here old zero y e = old zero y e
at_more F (z ∷ zs) x (suc n) all here old (suc i) y e = at_more (λ j. F (suc j)) zs x n (omega arith) here (λ j w g. old (suc j) w g) i y e

pub nothing_left : {A : Type 0} (l : List A) → length l ≡ 0 → l ≡ []
nothing_left [] e = refl
nothing_left (x ∷ xs) e = absurd (omega arith)

-- Which slots are taken out

pub still_filled : (fs : List Bool) (i k n : ℕ) → ((j : ℕ) → i ≤ j → j < n → get_or fs j false ≡ true) → i + 1 ≤ k → k < n → get_or (set fs i false) k false ≡ true
still_filled fs i k n old low high = get_or-set_other fs i k false false (λ e. omega arith) ∙ old k (omega arith) high

pub now_taken : (fs : List Bool) (i k : ℕ) → ((j : ℕ) → j < i → get_or fs j false ≡ false) → k < i + 1 → get_or (set fs i false) k false ≡ false
now_taken fs i k old less = dite (ℕ_discrete k i)
    (λ e. ⊎_elim (λ (h : i < length fs). ap (λ (j : ℕ). get_or (set fs i false) j false) e ∙ get_or-set_same fs i false false h)
    (λ past. get_or_past (set fs i false) k false (let long = length-set fs i false in omega arith)) (cases_lt i (length fs)))
    (λ ne. get_or-set_other fs i k false false ne ∙ old k (omega arith))

there_at : {A : Type 0} (l : List A) (i : ℕ) → i < length l → (a : A) × (get_elem? l i ≡ some a)
there_at [] i h = absurd (omega arith)
there_at (x ∷ xs) zero h = (x, refl)
there_at (x ∷ xs) (suc i) h = there_at xs i (omega arith)

-- what was read out of the closed table
pub closed_is : {R B E : Type 0} (M : Meaning R B E) (k : Layout) (views : List (PassView R B E)) (ws : List ℕ) (xs : List (Slot R B)) (words epochs : List ℕ) (rows : List R) (book : B) (first : ℕ)
    → AtEnd M k views ws xs → words ≡ ws → first ≡ 515 * k.rows → length epochs ≡ k.passes → ((i : ℕ) (x : ℕ) → get_elem? epochs i ≡ some x → get_elem? words (first + i) ≡ some x)
    → length rows ≡ k.rows → ((r : ℕ) (x : R) → get_elem? rows r ≡ some x → get_elem? xs r ≡ some (Some (Row x))) → get_elem? xs k.rows ≡ some (Some (Book book))
    → IsClosed M k views words epochs rows book
closed_is {R} {B} M k views ws xs words epochs rows book first end same at_first all_epochs epochs_from all_rows rows_from book_from =
    let both = sym end.book_there ∙ book_from in let book_is : end.book ≡ book = cc in
    let long : length ws ≡ word_count k = ap length (sym end.good.words_same) ∙ (end.good.good.sizes.words ∙ (λ i. 515 * end.good.rows i + end.good.count i + 1)) in
    let epoch : (t : ℕ) → t < k.passes → get_or epochs t 0 ≡ get_or words (epoch_at k.rows t) 0 = λ t less. (let x = there_at epochs t (omega arith) in
    let at : get_elem? words (epoch_at k.rows t) ≡ some x.0 = ap (λ (n : ℕ). get_elem? words n) (let e : epoch_at k.rows t ≡ first + t = omega arith in e) ∙ epochs_from t x.0 x.1 in
    found_is epochs t x.0 0 x.1 ∙ sym (found_is words (epoch_at k.rows t) x.0 0 at)) in
    let from : (t : ℕ) → get_or words (epoch_at k.rows t) 0 ≡ get_or ws (epoch_at k.rows t) 0 = λ t. ap (λ (l : List ℕ). get_or l (epoch_at k.rows t) 0) same in
    record {
      all_words = ap length same ∙ long;
      all_epochs = all_epochs;
      all_rows = all_rows;
      good = subst (λ (l : List ℕ). IsGoodEnd M k l book) (sym same) (subst (IsGoodEnd M k ws) book_is end.good);
      epochs_are = epoch;
      even = λ t less. ap (λ (n : ℕ). n % 2) (epoch t less ∙ from t) ∙ end.even t less;
      agree = λ r x reached at. subst (λ (l : List ℕ). M.agrees book (place_at l r) (row_words l r) x) (sym same)
          (subst (λ (b : B). M.agrees b (place_at ws r) (row_words ws r) x) book_is (end.agree r x (subst (λ (l : List ℕ). IsReached l r) same reached) (rows_from r x at)));
      blank = λ r x unreached at. end.blank r x (let less = found_there rows r x at in omega arith) (λ reached. unreached (subst (λ (l : List ℕ). IsReached l r) (sym same) reached)) (rows_from r x at);
      knows = λ v i. let o = end.knows v i in let e = (epoch v.number o.0 ∙ from v.number) in (o.0, subst (λ (b : B). KnownAtEnd M (get_or epochs v.number 0) b v) book_is (record { same_epoch = e ∙ o.1.same_epoch; fixed = o.1.fixed; seen = o.1.seen; mine = o.1.mine }));
    }
