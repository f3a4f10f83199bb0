-- Before the first granted row is linked, and after the last.
--     is_granted      what a commit granted
--     is_linking, started      what linking asks, and that none is linked yet
--     no_rows_of      none is left
--     ended      all are
use Rattle.std.specs.Prelude.{◌≡◌, ℕ, zero, suc, ◌+◌, ◌^◌, ◌<◌, ◌≤◌, ◌&&◌, ◌||◌, not, Bool, true, false, cond, List, [], ◌∷◌, map, take, drop, length, slice_index_or, Some, None, Option, is_some}
use Rattle.std.specs.List.{filter, range_with_len, zip}
use Rattle.std.specs.Option.{option_or}
use Rattle.std.specs.FinSet as set
use Rattle.std.specs.FinSet.{contains-difference, contains-union, contains-retain, same_set}
use Rattle.std.proofs.Common.{sym, refl, ◌∙◌, ap, subst, arith, inl, inr}
use Rattle.std.proofs.lemmas.Bool.{true≢false, and_parts, cases_lt}
use Rattle.std.proofs.lemmas.List.{length-map}
use Rattle.corten_base.specs.declared.calls.Call.{Call}
use Rattle.corten_base.specs.declared.calls.Reply.{Reply}
use Rattle.corten_base.specs.declared.numbers.Limits.{Limits}
use Rattle.page_map.specs.Effect.{wanted_tables, is_given_up, state_after}
use Rattle.page_map.specs.State.{State, levels}
use Rattle.page_map.specs.Step.{refusal, pages}
use Rattle.page_map.specs.Tables.{Tables, missing, changed_tables}
use Rattle.page_map.proofs.Evaluate.{alike}
use Rattle.page_map.proofs.Need.{shared, contains_shared}
use Rattle.page_map.proofs.Places.{place_total, place_exact}
use Rattle.page_map.proofs.Steps.{Passed, accepted, passed}
use Rattle.walk_core.proofs.Boot.{times-range_out, times-range_in}
use Rattle.walk_core.specs.declared.pass.GrantedRow.{GrantedRow}
use Rattle.walk_core.specs.Lists.{times}
use Rattle.walk_core.proofs.RowLists.{times-nil, times-cons, times-cons_same, times-filter}
use Rattle.row_cells.specs.declared.Cell.{Cell}
use Rattle.row_cells.specs.declared.Cell.TheVariants.{Invalid, Table, Anon, File, Mapped, Swapped}
use Rattle.row_table.specs.declared.view.PassView.{PassView}
use Rattle.row_table.specs.Rule.{SameRows}
use Rattle.table_place.specs.declared.Place.{Place}
use Rattle.table_place.specs.Place.{parent}
use Rattle.machine_plan.specs.declared.kit.Kit.{Kit}
use Rattle.machine_plan.specs.Agrees.{below, IsTableOf, Shows, Spells}
use Rattle.machine_plan.specs.Books.{BookData, state_of, free_list}
use Rattle.machine_plan.specs.Given.{IsRemoved}
use Rattle.machine_plan.specs.HeldRows.{Row}
use Rattle.machine_plan.specs.Uses.{early_refusal, wants_of}
use Rattle.machine_plan.proofs.Covering.{cell_there}
use Rattle.machine_plan.proofs.Levels.{has_levels}
use Rattle.machine_plan.proofs.Whole.{book_is_consistent}
use Rattle.cursor_detach.specs.Left.{drawn_cell, is_taken, IsCommitted}
use Rattle.cursor_apply.specs.Applying.{hand_row, IsApplicable}
use Rattle.cursor_apply.specs.Linking.{IsLinkable, IsGrantedList, IsLinking, LinkedSoFar}
use Rattle.cursor_apply.specs.Staging.{with_tables, AreStaged, Staged}
use Rattle.cursor_apply.proofs.StagedCells.{none_left}

-- ---- what a commit granted

pub record IsAccepted (a b : BookData) (thread : ℕ) (c : Call) (kit : Kit) : Type 0 where
  pub state : state_of b ≡ state_after (state_of a) thread c
  pub passes : pages (state_of a) c ≡ None
  pub wants : kit.wants.items ≡ wants_of (state_of a) c
  pub same_limits : b.limits ≡ a.limits
  pub count : ℕ
  pub rows : kit.rows.items ≡ zip (take count (free_list a)) (range_with_len a.next_generation count)
  pub generation : b.next_generation ≡ a.next_generation + count

-- a call that is accepted is not refused early
not_early : {st : State} {thread : ℕ} {c : Call} {limbo : ℕ} → Passed st thread c limbo → early_refusal st thread c ≡ None
not_early p = λ i. option_or (p.arguments i) (option_or (p.space i) (option_or (p.spaces i) (option_or (p.place i) (option_or (p.pages i) None))))

module _ {B E : Type 0} (a b : BookData) (thread : ℕ) (c : Call) (v : PassView (List Cell) B E) (rows : List Row) (kit : Kit) (ready : IsApplicable a b thread c v rows kit) (done : kit.done ≡ true) where
  answered_done : ready.answered.done ≡ true
  answered_done = sym (ap (λ (k : Kit). k.done) ready.same_kit) ∙ done

  accepted_so : IsCommitted a b thread c ready.answered → IsAccepted a b thread c kit
  accepted_so committed = go (refusal (state_of a) thread c (length a.limbo)) refl
    where
      go : (o : Option Reply) → refusal (state_of a) thread c (length a.limbo) ≡ o → IsAccepted a b thread c kit
      go (Some r) e =
          let is = committed.commits.refused (ap (λ (x : Option Reply). is_some x) e) in
          let undone = committed.was_filled.ungranted.not_done in
          absurd (true≢false (sym answered_done ∙ (ap (λ (k : Kit). k.done) is.same_kit ∙ undone)))
      go None e =
          let is = committed.commits.accepted (ap (λ (x : Option Reply). is_some x) e) in
          record {
            passes = (passed (state_of a) thread c (length a.limbo) e).pages;
            wants = ap (λ (k : Kit). k.wants.items) ready.same_kit ∙ (committed.commits.same.3 ∙ (committed.was_filled.planned (ap (λ (x : Option Reply). is_some x) (committed.was_filled.early ∙ not_early (passed (state_of a) thread c (length a.limbo) e)))).wants);
            state = ap (λ (x : Reply × State). x.1) (committed.commits.is_step ∙ accepted (state_of a) thread c (length a.limbo) e);
            same_limits = committed.commits.limits.0;
            count = committed.filled.rows_needed;
            rows = ap (λ (k : Kit). k.rows.items) ready.same_kit ∙ is.rows;
            generation = is.generation;
          }

  pub is_accepted : IsAccepted a b thread c kit
  is_accepted = elim ready.committed [
    | inl committed ↦ accepted_so committed
    | inr none ↦ absurd (true≢false (sym answered_done ∙ none.0.ungranted.not_done))
  ]

-- ---- lists

zip_less : (r : ℕ) (xs ys : List ℕ) → times r (map (λ (g : ℕ × ℕ). g.0) (zip xs ys)) ≤ times r xs
zip_less r [] ys = omega arith
zip_less r (x ∷ xs) [] = let none = times-nil r in omega arith
zip_less r (x ∷ xs) (y ∷ ys) =
    let rest = zip_less r xs ys in
    let one = times-cons r x (map (λ (g : ℕ × ℕ). g.0) (zip xs ys)) in
    let other = times-cons r x xs in omega arith

take_less : (r n : ℕ) (xs : List ℕ) → times r (take n xs) ≤ times r xs
take_less r zero xs = let none = times-nil r in omega arith
take_less r (suc n) [] = omega arith
take_less r (suc n) (x ∷ xs) =
    let rest = take_less r n xs in
    let one = times-cons r x (take n xs) in
    let other = times-cons r x xs in omega arith

range_once : (r a n : ℕ) → times r (range_with_len a n) ≤ 1
range_once r a n = elim (cases_lt r a) [
  | inl less ↦ let none = times-range_out r a n (inl less) in omega (arith, none)
  | inr more ↦ elim (cases_lt r (a + n)) [
    | inl inside ↦ let one = times-range_in r a n more inside in omega (arith, one)
    | inr behind ↦ let none = times-range_out r a n (inr behind) in omega (arith, none)
  ]
]

filter_less : (t : ℕ → Bool) (r : ℕ) (xs : List ℕ) → times r (filter t xs) ≤ times r xs
filter_less t r xs = let is = times-filter t r xs in go (t r) (times r xs) (times r (filter t xs)) is
  where
    go : (b : Bool) (n m : ℕ) → m ≡ cond b n 0 → m ≤ n
    go true n m e = omega (arith, e)
    go false n m e = omega (arith, e)

free_once : (b : BookData) (r : ℕ) → times r (free_list b) ≤ 1
free_once b r = let less = filter_less (set.contains b.free.numbers) r (range_with_len 0 b.free.limit) in let one = range_once r 0 b.free.limit in omega (arith, less, one)

zip_from : (xs : List ℕ) (g n k : ℕ) (d : ℕ × ℕ) → k < length (zip xs (range_with_len g n)) → ((slice_index_or (zip xs (range_with_len g n)) k d).1 ≡ g + k) × (k < n)
zip_from [] g n k d h = absurd (omega arith)
zip_from (x ∷ xs) g zero k d h = absurd (omega arith)
zip_from (x ∷ xs) g (suc n) zero d h = (omega arith, omega arith)
zip_from (x ∷ xs) g (suc n) (suc k) d h = let rest = zip_from xs (g + 1) n k d (omega arith) in (rest.0 ∙ omega arith, omega (arith, rest.1))

zip_long : (xs : List ℕ) (g n : ℕ) → length (zip xs (range_with_len g n)) ≤ n
zip_long [] g n = omega arith
zip_long (x ∷ xs) g zero = omega arith
zip_long (x ∷ xs) g (suc n) = let rest = zip_long xs (g + 1) n in omega arith

-- ---- the tables

pub changed : (st : State) (thread : ℕ) (c : Call) → (state_after st thread c).tables ≡ changed_tables (is_given_up st c) (wanted_tables st thread c) st.tables
unfolding state_after
changed st thread c = refl

abbrev pub as_set : List Place → Tables
as_set wanted = set.from_list wanted

-- as many as the book counted are missing
still_missing : (st : State) (given : Place → Bool) (wanted : List Place) (now : Tables) → now ≡ changed_tables given wanted st.tables
    → set.difference now (shared place_total place_exact st.tables now) ≡ missing wanted st.tables
still_missing st given wanted now is = same_set place_total place_exact (set.difference now (shared place_total place_exact st.tables now)) (missing wanted st.tables) (λ z.
    contains-difference place_total now (shared place_total place_exact st.tables now) z
    ∙ (ap (λ t. set.contains now z && not t) (contains_shared place_total place_exact st.tables now z)
    ∙ (by (set.contains st.tables z) (given z) (set.contains (as_set wanted) z) (set.contains now z) (now_is z)
    ∙ sym (contains-difference place_total (as_set wanted) st.tables z))))
  where
    now_is : (z : Place) → set.contains now z ≡ ((set.contains st.tables z && not (given z)) || set.contains (as_set wanted) z)
    now_is z = ap (λ (s : Tables). set.contains s z) is
        ∙ (contains-union place_total (set.retain st.tables (λ p. not (given p))) (as_set wanted) z
        ∙ ap (λ t. t || set.contains (as_set wanted) z) (contains-retain st.tables (λ p. not (given p)) z (alike place_total place_exact (λ p. not (given p)) z)))

    by : (t g w n : Bool) → n ≡ ((t && not g) || w) → (n && not (t && n)) ≡ (w && not t)
    by true true true n e = ap (λ x. x && not x) e
    by true true false n e = ap (λ x. x && not x) e
    by true false w n e = ap (λ x. x && not x) e ∙ sym (never w)
      where
        never : (b : Bool) → (b && false) ≡ false
        never true = refl
        never false = refl
    by false g true n e = ap (λ x. x && true) e
    by false g false n e = ap (λ x. x && true) e

module _ {B E : Type 0} (a b : BookData) (thread : ℕ) (c : Call) (v : PassView (List Cell) B E) (rows : List Row) (kit : Kit) (ready : IsApplicable a b thread c v rows kit) (done : kit.done ≡ true) (further : IsLinkable a b thread c v rows kit) where
  st : IsAccepted a b thread c kit
  st = is_accepted a b thread c v rows kit ready done

  same_levels : levels (state_of b) ≡ levels (state_of a)
  same_levels = has_levels b ∙ (ap (λ (l : Limits). l.levels) st.same_limits ∙ sym (has_levels a))

  most : b.next_generation ≤ 2 ^ 30
  most = let k = ready.books.1 in omega (arith, k.drawn, k.fits, k.places)

  granted_list : IsGrantedList a b kit
  granted_list = record {
    once = λ r.
        let one = zip_less r (take st.count (free_list a)) (range_with_len a.next_generation st.count) in
        let two = take_less r st.count (free_list a) in
        let three = free_once a r in
        let same = ap (λ (l : List (ℕ × ℕ)). times r (map (λ (g : ℕ × ℕ). g.0) l)) st.rows in
        omega (arith, one, two, three, same);
    each = λ k d within.
        subst (λ (l : List (ℕ × ℕ)). (a.next_generation ≤ (slice_index_or l k d).1) × ((slice_index_or l k d).1 < b.next_generation)) (sym st.rows)
        (let is = zip_from (take st.count (free_list a)) a.next_generation st.count k d (subst (λ (l : List (ℕ × ℕ)). k < length l) st.rows within) in
        let next = st.generation in (omega (arith, is.0), omega (arith, is.0, is.1, next)));
    low = most;
    few = (let long = ap length st.rows in let less = zip_long (take st.count (free_list a)) a.next_generation st.count in let next = st.generation in let m = most in omega (arith, long, less, next, m));
  }

  pub is_linking : (count room : ℕ) → count ≡ v.layout.levels → length rows + length kit.rows.items ≤ room → IsLinking count room a b thread c kit v rows
  is_linking count room told enough =
      let layout = ready.same_levels ∙ (sym (has_levels b) ∙ same_levels) in
      record {
        before = book_is_consistent a ready.books.0;
        after = ready.consistent;
        same = same_levels;
        count_is = told ∙ layout;
        layout = layout;
        new = further;
        list = granted_list;
        enough = enough;
      }

  abbrev tables : Tables
  tables = shared place_total place_exact (state_of a).tables (state_of b).tables

  in_both : (p : Place) → set.contains (shared place_total place_exact (state_of a).tables (state_of b).tables) p ≡ true → (set.contains (state_of a).tables p ≡ true) × (set.contains (state_of b).tables p ≡ true)
  in_both p h = and_parts (set.contains (state_of a).tables p) (set.contains (state_of b).tables p) (sym (contains_shared place_total place_exact (state_of a).tables (state_of b).tables p) ∙ h)

  from_both : (p : Place) → set.contains (state_of a).tables p ≡ true → set.contains (state_of b).tables p ≡ true → set.contains (shared place_total place_exact (state_of a).tables (state_of b).tables) p ≡ true
  from_both p one two = contains_shared place_total place_exact (state_of a).tables (state_of b).tables p ∙ ((λ i. one i && set.contains (state_of b).tables p) ∙ two)

  not_both : (p : Place) → set.contains (state_of a).tables p ≡ false → set.contains (shared place_total place_exact (state_of a).tables (state_of b).tables) p ≡ false
  not_both p none = contains_shared place_total place_exact (state_of a).tables (state_of b).tables p ∙ (λ i. none i && set.contains (state_of b).tables p)

  left_shows : (p : Place) (old : Cell) → ¬ IsRemoved (state_of a) (state_of b) p → Shows (state_of a) p old → Shows (with_tables (state_of a) tables) p old
  left_shows p Table stays s = from_both p s (go (set.contains (state_of b).tables p) refl)
    where
      go : (t : Bool) → set.contains (state_of b).tables p ≡ t → set.contains (state_of b).tables p ≡ true
      go true e = e
      go false e = absurd (stays (s, e))
  left_shows p Invalid stays s = (not_both p s.0, s.1)
  left_shows p (Anon perm) stays s = (not_both p s.0, s.1)
  left_shows p (File perm file first) stays s = (not_both p s.0, s.1, s.2)
  left_shows p (Mapped perm origin frame) stays s = (not_both p s.0, s.1, s.2)
  left_shows p (Swapped perm origin slot) stays s = (not_both p s.0, s.1, s.2)

  staged : AreStaged a b tables thread c kit v rows
  staged x has =
      let l = ready.rows_left x has in
      record {
        known = l.known;
        held = l.held;
        same_row = l.same_row;
        same_place = l.same_place;
        linked = l.linked;
        table = table_is x (subst (IsTableOf (state_of a)) l.same_place l.agreed.shown.table) (further.tables x has);
        whole = l.whole;
        cut = l.cut;
        cells = λ i m within stays there.
            let old = cell_there l.old_cells i (subst (λ n. i < n) (sym l.agreed.shown.whole) within) in
            let is : Some m ≡ Some (cond (is_taken (state_of a) thread c kit x.place i) (drawn_cell old.0) old.0) = sym there ∙ l.cell i old.0 within stays old.1 in
            record {
              was = old.0;
              shows = left_shows (below (levels (state_of a)) x.place i) old.0 stays (subst (λ p. Shows (state_of a) (below (levels (state_of a)) p i) old.0) l.same_place (l.agreed.shown.each i old.0 within old.1));
              spells = subst (Spells (state_of a) old.0) (sym (l.word i within stays)) (l.agreed.spelled i old.0 within old.1);
              bytes = l.agreed.kept i old.0 within old.1;
              is = cc;
            };
      }
    where
      table_is : (x : Row) → IsTableOf (state_of a) x.place → IsTableOf (state_of b) x.place → IsTableOf (with_tables (state_of a) tables) x.place
      table_is x (inl top) after = inl top
      table_is x (inr there) (inl top) = inl top
      table_is x (inr there) (inr after) = inr (from_both x.place there after)

  pub started : LinkedSoFar a b thread c kit 0 v rows v rows
  started = record {
    tables = tables;
    view = refl;
    exact = ready.exact;
    staged = staged;
    kept = λ x has. (x, has, refl, refl);
    made = λ p new there. absurd (true≢false (sym (in_both p there).0 ∙ new));
    only = λ y has. inl (y, has, refl);
    left = from_both;
    within = λ p there. (in_both p there).1;
    parents = λ p there lower. let both = in_both p there in
        from_both (parent p) ((book_is_consistent a ready.books.0).parents p both.0 lower) (ready.consistent.parents p both.1 (let same = same_levels in omega (arith, lower, same)));
    missing = (let same = ap set.len (still_missing (state_of a) (is_given_up (state_of a) c) (wanted_tables (state_of a) thread c) (state_of b).tables tables_now) ∙ sym further.all in omega (arith, same));
    count = omega arith;
    hand = further.hand;
    granted = further.granted;
    of_hand = λ x has. has;
    given = ready.given;
    vacant = further.vacant;
  }
    where
      tables_now : (state_of b).tables ≡ changed_tables (is_given_up (state_of a) c) (wanted_tables (state_of a) thread c) (state_of a).tables
      tables_now = ap (λ (s : State). s.tables) st.state ∙ changed (state_of a) thread c

-- ---- all of them

none_of : {X : Type 0} (f : X → ℕ) (xs : List X) → ((r : ℕ) → times r (map f xs) ≡ 0) → xs ≡ []
none_of f [] none = refl
none_of f (x ∷ xs) none = let some = times-cons_same (f x) (f x) (map f xs) refl in let no = none (f x) in absurd (omega (arith, some, no))

-- rows that are those of an empty list
pub no_rows_of : {X : Type 0} (f : X → ℕ) (xs : List X) (ys : List ℕ) → SameRows (map f xs) ys → ys ≡ [] → xs ≡ []
no_rows_of f xs ys same e = none_of f xs (λ r. same r ∙ (ap (times r) e ∙ times-nil r))

drop_all : (xs : List ℕ) (n : ℕ) → n ≡ length xs → drop n xs ≡ []
drop_all [] zero e = refl
drop_all [] (suc n) e = refl
drop_all (x ∷ xs) zero e = absurd (omega arith)
drop_all (x ∷ xs) (suc n) e = drop_all xs n (omega arith)

module _ {B E : Type 0} (a b : BookData) (thread : ℕ) (c : Call) (kit : Kit) (next : ℕ) (v : PassView (List Cell) B E) (rows : List Row) (w : PassView (List Cell) B E) (rows' : List Row) (so : LinkedSoFar a b thread c kit next v rows w rows')
    (all : (p : Place) → set.contains (state_of b).tables p ≡ true → set.contains so.tables p ≡ true) where
  tables_are : so.tables ≡ (state_of b).tables
  tables_are = same_set place_total place_exact so.tables (state_of b).tables (λ p. go p (set.contains so.tables p) (set.contains (state_of b).tables p) refl refl)
    where
      go : (p : Place) (s t : Bool) → set.contains so.tables p ≡ s → set.contains (state_of b).tables p ≡ t → set.contains so.tables p ≡ set.contains (state_of b).tables p
      go p true true e f = e ∙ sym f
      go p false false e f = e ∙ sym f
      go p true false e f = e ∙ sym (so.within p e)
      go p false true e f = all p f ∙ sym f

  none_over : drop next (map (λ (g : ℕ × ℕ). g.0) kit.rows.items) ≡ []
  none_over = drop_all (map (λ (g : ℕ × ℕ). g.0) kit.rows.items) next
      (let m = so.missing in let n = none_left (state_of b).tables so.tables all in let l = length-map kit.rows.items (λ (g : ℕ × ℕ). g.0) in omega (arith, m, n, l))

  no_hand : w.hand ≡ []
  no_hand = none_of hand_row w.hand (λ r. so.hand r ∙ (ap (times r) none_over ∙ times-nil r))

  no_granted : w.core.granted ≡ []
  no_granted = none_of (λ (g : GrantedRow). g.row) w.core.granted (λ r. so.granted r ∙ (ap (times r) none_over ∙ times-nil r))

  pub ended : Staged a b thread c kit v w rows rows'
  ended = record {
    view = so.view ∙ (λ i. record v { core = record v.core { held = w.core.held; granted = no_granted i }; rows = w.rows; hand = no_hand i });
    exact = so.exact;
    given = so.given;
    staged = subst (λ (t : Tables). AreStaged a b t thread c kit w rows') tables_are so.staged;
    kept = so.kept;
    made = λ p before after. so.made p before (all p after);
    only = so.only;
  }
