-- The lowest row that has the page at an edge of a range tells whether the tables above it that are missing are wanted.
--     may_link_end      they may be linked, where the page changes
--     new_there      each new one is in the list afterwards
use Rattle.std.specs.Prelude.{◌≡◌, ℕ, ◌+◌, ◌-◌, ◌*◌, ◌/◌, ◌%◌, ◌^◌, ◌<◌, ◌≤◌, ◌&&◌, Bool, true, false, cond, IsTrue, nat_lt, nat_eq, is_none, List, slice_get, slice_index, slice_index_or, Some}
use Rattle.std.specs.List.{Contains}
use Rattle.std.specs.FinSet as set
use Rattle.std.proofs.Common.{sym, refl, ◌∙◌, ap, subst, arith, inl, inr, ne_eqb}
use Rattle.std.proofs.lemmas.Bool.{true≢false, cases_lt, le-ltb}
use Rattle.std.proofs.lemmas.List.Elements.{Contains-get_or}
use Rattle.std.proofs.lemmas.Nat.{div-add-mod'}
use mathlib.Core.Logic.{dite}
use native.Mathlib.Decide.{ℕ_discrete}
use Rattle.corten_base.specs.declared.calls.Call.{Call}
use Rattle.page_map.specs.State.{State, levels, cell_at}
use Rattle.row_cells.specs.declared.Cell.{Cell}
use Rattle.row_cells.specs.declared.Cell.TheVariants.{Invalid, Table, Anon, File, Mapped, Swapped}
use Rattle.row_table.specs.declared.view.PassView.{PassView}
use Rattle.table_place.specs.declared.Place.{Place}
use Rattle.table_place.specs.Place.{directory, has_page, index_at, place_of, span_first}
use Rattle.table_place.proofs.Entries.{entry_below}
use Rattle.tree_lock.specs.Held.{IsInOrder}
use Rattle.machine_plan.specs.declared.kit.Kit.{Kit}
use Rattle.machine_plan.specs.Agrees.{below, Shows}
use Rattle.machine_plan.specs.Books.{BookData, state_of}
use Rattle.machine_plan.specs.Given.{IsRemoved}
use Rattle.machine_plan.specs.Held.{ListHolds}
use Rattle.machine_plan.specs.HeldRows.{Row}
use Rattle.machine_plan.specs.Uses.{uses_page}
use Rattle.machine_plan.proofs.Covering.{cell_there, further}
use Rattle.machine_plan.proofs.Towers.{closed_up, table_above, tower_has}
use Rattle.cursor_detach.specs.Left.{drawn_cell}
use Rattle.cursor_detach.proofs.Lists.{any_default}
use Rattle.cursor_apply.specs.declared.becoming.RangeChange.{RangeChange}
use Rattle.cursor_apply.specs.Changing.{page_made}
use Rattle.range_apply.specs.Ends.{mark_page, IsLeft, IsLeftAt, IsBroken, IsEndLevel, IsSame, MayLinkEnd, ReachesEnd}
use Rattle.cursor_apply.specs.Linking.{IsLinking, IsLow, IsLowest, LinkedSoFar, MayLinkPage, ReachesPage}
use Rattle.cursor_apply.specs.Staging.{with_tables, IsStagedCell}
use Rattle.cursor_apply.proofs.AboveCuts.{still_whole}
use Rattle.cursor_apply.proofs.AbovePages.{nested, lowest_is, absent_below, reached_table}
use Rattle.range_apply.proofs.EndMarks.{IsMark, left_same, same_left}

no_true : (b : Bool) → b ≡ false → IsTrue b → ⊥
no_true b e t = true≢false (sym t ∙ e)

is_true : (b : Bool) → b ≡ true → IsTrue b
is_true b e = e

not_taken : (e l u : Bool) → l ≡ false → (e && (l && u)) ≡ false
not_taken true true u h = absurd (true≢false h)
not_taken false true u h = refl
not_taken true false u h = refl
not_taken false false u h = refl

-- a page stands so far behind the first one of the span that has it
behind_first : (page s : ℕ) → page - page / s * s ≡ page % s
behind_first page s = let parts = div-add-mod' page s in by (page / s * s) (page % s) parts
  where
    by : (q r : ℕ) → q + r ≡ page → page - q ≡ r
    by q r e = omega (arith, e)

module _ (st : State) (q : Place) (page m : ℕ) (q_is : q ≡ place_of q.space m page) (deep : 1 ≤ m) (has : has_page q q.space page ≡ true) where
  -- what stands there
  marked : (cell : Cell) → (set.contains st.tables q ≡ true → ⊥) → Shows st q cell → IsMark cell × (cell_at st q.space page ≡ mark_page cell (page % 512 ^ m))
  marked Table none shows = absurd (none shows)
  marked Invalid none shows = (tt, shows.1 q.space page has)
  marked (Anon perm) none shows = (tt, shows.1 q.space page has)
  marked (File perm file index) none shows = (tt, shows.1 q.space page has ∙ ap (λ n. mark_page (File perm file index) n) (ap (λ (z : Place). page - span_first z) q_is ∙ behind_first page (512 ^ m)))
  marked (Mapped perm origin frame) none shows = absurd (let zero = shows.1 in let e : q.level ≡ m = ap (λ (z : Place). z.level) q_is in omega (arith, zero, e, deep))
  marked (Swapped perm origin slot) none shows = absurd (let zero = shows.1 in let e : q.level ≡ m = ap (λ (z : Place). z.level) q_is in omega (arith, zero, e, deep))

module _ {B E : Type 0} (a b : BookData) (thread : ℕ) (c : Call) (kit : Kit) (v : PassView (List Cell) B E) (rows : List Row) (count room : ℕ) (ready : IsLinking count room a b thread c kit v rows)
    (next : ℕ) (w : PassView (List Cell) B E) (rows' : List Row) (so : LinkedSoFar a b thread c kit next v rows w rows') (space page edge : ℕ) (change : RangeChange) (may : MayLinkEnd a b rows space page edge change)
    (order : IsInOrder rows') (result : Bool) (left : IsLeftAt space page change rows' result) where
  abbrev L : ℕ
  L = levels (state_of a)

  few : L < 6
  few = let most = ready.before.few_levels in omega arith

  x : Row
  x = slice_index_or rows' left.at may.top.row

  x_is : (d : Row) → slice_index_or rows' left.at d ≡ x
  unfolding x
  x_is d = any_default rows' left.at d may.top.row left.is.inside

  x_there : Contains rows' x
  x_there = subst (Contains rows') (x_is x) (Contains-get_or rows' left.at x left.is.inside)

  level : ℕ
  level = cond (nat_lt L x.place.level) (L + 1) x.place.level

  level_is : level ≡ cond (nat_lt L x.place.level) (L + 1) x.place.level
  unfolding level
  level_is = refl

  lowest : IsLowest L space page level rows'
  lowest = lowest_is a b thread c kit v rows count room ready next w rows' so space page L may.top order left.at left.is level x x_is level_is

  -- the root is held, or no table above the page is missing
  in_tables : level ≤ L
  in_tables = elim (cases_lt L level) [
    | inr low ↦ low
    | inl high ↦
        let top : level - 1 ≡ L = (let h = lowest.high in omega (arith, high, h)) in
        let n = absent_below a b thread c kit v rows count room ready next w rows' so space page L may.top level lowest high in
        let root = so.left (place_of space L page) may.root (may.top.wanted L (omega arith) (omega arith)) in
        absurd (true≢false (sym root ∙ subst (λ k. set.contains so.tables (place_of space k page) ≡ false) top n))
  ]

  same_level : x.place.level ≡ level
  same_level = go (nat_lt L x.place.level) refl
    where
      go : (t : Bool) → nat_lt L x.place.level ≡ t → x.place.level ≡ level
      go false e = sym (level_is ∙ ap (λ t. cond t (L + 1) x.place.level) e)
      go true e = absurd (let over : level ≡ L + 1 = level_is ∙ ap (λ t. cond t (L + 1) x.place.level) e in let low = in_tables in omega (arith, over, low))

  x_has : has_page x.place space page ≡ true
  x_has = ap (λ (y : Row). has_page y.place space page) (sym (x_is x)) ∙ left.is.has x

  x_place : x.place ≡ place_of space level page
  x_place = table_above x.place space page (let e = same_level in let low = in_tables in let f = few in omega (arith, e, low, f)) x_has ∙ ap (λ n. place_of space n page) same_level

  -- where a table above the page is missing
  module _ (k : ℕ) (deep : 1 ≤ k) (high : k < L) (broken : IsBroken edge k) (absent : set.contains so.tables (place_of space k page) ≡ false) where
    below_it : k < level
    below_it = elim (cases_lt k level) [
      | inl less ↦ less
      | inr more ↦
          let reached : ReachesPage space page k rows' = record {
            level = level;
            deep = lowest.deep;
            low_enough = more;
            holds = let l = lowest.holds in (l.0, l.1, l.2 ∙ ap (λ t. cond t directory (place_of space level page)) (le-ltb L level in_tables));
          } in
          let there = reached_table a b thread c kit v rows ready.before.few_levels next w rows' so space page k reached (place_of space k page) (tower_has space k page (let f = few in omega (arith, high, f))) (omega arith) (omega (arith, high)) in
          absurd (true≢false (sym there ∙ absent))
    ]

    m : ℕ
    m = level - 1

    m_is : m + 1 ≡ level
    unfolding m
    m_is = let l = below_it in omega (arith, l)

    m_deep : k ≤ m
    m_deep = let l = below_it in let e = m_is in omega (arith, l, e)

    m_high : m < L
    m_high = let l = in_tables in let e = m_is in omega (arith, l, e)

    m_some : 1 ≤ m
    m_some = let d = m_deep in omega (arith, d, deep)

    q : Place
    q = place_of space m page

    q_is : q ≡ place_of space m page
    unfolding q
    q_is = refl

    i : ℕ
    i = index_at level page

    i_low : i < 512
    unfolding i
    i_low = omega arith

    leads : below L x.place i ≡ q
    unfolding i
    leads = ap (λ (z : Place). below L z (index_at level page)) x_place ∙ (ap (λ n. below L (place_of space n page) (index_at n page)) (sym m_is)
        ∙ (entry_below L space m page (let h = m_high in let f = few in omega (arith, h, f)) ∙ sym q_is))

    q_space : q.space ≡ space
    q_space = ap (λ (z : Place). z.space) q_is

    -- it is no table
    no_table : set.contains so.tables q ≡ true → ⊥
    no_table there =
        let here = ap (set.contains so.tables) (sym q_is) ∙ there in
        let now = so.within (place_of space m page) here in
        let at_m : MayLinkPage a b rows space page m = record {
          row = may.top.row;
          there = may.top.there;
          has = may.top.has;
          deep = m_some;
          high = let h = m_high in omega (arith, h);
          wanted = λ j from to.
              let n = further m j from in
              subst (λ z. set.contains (state_of b).tables (place_of space z page) ≡ true) n.1 (closed_up (state_of b) ready.after space m page n.0 (let e = n.1 in let s = ready.same in omega (arith, e, s, to)) now);
          linked = may.top.linked;
        } in
        let n = absent_below a b thread c kit v rows count room ready next w rows' so space page m at_m level lowest (let e = m_is in omega (arith, e)) in
        true≢false (sym here ∙ subst (λ z. set.contains so.tables (place_of space z page) ≡ false) (by_one level m m_is) n)
      where
        by_one : (n m : ℕ) → m + 1 ≡ n → n - 1 ≡ m
        by_one n m e = omega (arith, e)

    kept : ¬ IsRemoved (state_of a) (state_of b) (below L x.place i)
    kept r = may.stays m m_some m_high (λ whole. broken (still_whole edge k m m_deep whole)) (subst (IsRemoved (state_of a) (state_of b)) (leads ∙ q_is) r)

    cell : (z : Cell) × (slice_get x.content i ≡ Some z)
    cell = cell_there x.content i (let l = (so.staged x x_there).whole in let s = i_low in omega (arith, l, s))

    entry : IsStagedCell a so.tables thread c kit x.place i (slice_index (so.staged x x_there).known.words i) cell.0
    entry = (so.staged x x_there).cells i cell.0 i_low kept cell.1

    plain : cell.0 ≡ entry.was
    plain = entry.is ∙ ap (λ t. cond t (drawn_cell entry.was) entry.was) (not_taken (is_none kit.early) (nat_eq x.place.level 1) (uses_page (state_of a) thread c x.place.space (512 * x.place.prefix + i))
        (ne_eqb x.place.level 1 (λ e. let s = same_level in let f = m_is in let d = m_some in omega (arith, e, s, f, d))))

    shown : IsMark cell.0 × (cell_at (state_of a) space page ≡ mark_page cell.0 (page % 512 ^ m))
    shown =
        let has : has_page q q.space page ≡ true = ap (λ (z : Place). has_page z z.space page) q_is ∙ tower_has space m page (let h = m_high in let f = few in omega (arith, h, f)) in
        let is = marked (with_tables (state_of a) so.tables) q page m (q_is ∙ ap (λ s. place_of s m page) (sym q_space)) m_some has entry.was no_table (subst (λ z. Shows (with_tables (state_of a) so.tables) z entry.was) leads entry.shows) in
        (subst IsMark (sym plain) is.0, ap (λ s. cell_at (state_of a) s page) (sym q_space) ∙ (is.1 ∙ ap (λ z. mark_page z (page % 512 ^ m)) (sym plain)))

    told : (IsTrue result → IsLeft change.making (page - change.first) (page % 512 ^ m) cell.0) × (IsLeft change.making (page - change.first) (page % 512 ^ m) cell.0 → IsTrue result)
    unfolding i
    told =
        let s = same_level in
        let f = few in
        let l = in_tables in
        let d = m_is in
        let t = left.told x x_is (omega (arith, s, d)) (omega (arith, s, l, f)) cell.0 (at_index (sym s) cell.1) in
        let same : 512 ^ (x.place.level - 1) ≡ 512 ^ m = ap (λ n. 512 ^ n) (omega (arith, s, d)) in
        (λ r. subst (λ n. IsLeft change.making (page - change.first) (page % n) cell.0) same (t.0 r), λ h. t.1 (subst (λ n. IsLeft change.making (page - change.first) (page % n) cell.0) (sym same) h))
      where
        at_index : level ≡ x.place.level → slice_get x.content i ≡ Some cell.0 → slice_get x.content (index_at x.place.level page) ≡ Some cell.0
        at_index e there = ap (λ n. slice_get x.content (index_at n page)) (sym e) ∙ there

    left_is : IsTrue result → IsSame a space page change
    left_is r = subst (λ o. page_made change.making (page - change.first) o ≡ o) (sym shown.1) (left_same change.making (page - change.first) (page % 512 ^ m) cell.0 shown.0 (told.0 r))

    is_left : IsSame a space page change → IsTrue result
    is_left same = told.1 (same_left change.making (page - change.first) (page % 512 ^ m) cell.0 shown.0 (subst (λ o. page_made change.making (page - change.first) o ≡ o) shown.1 same))

  -- ---- the page changes

  module _ (other : result ≡ false) (low : ℕ) (is_low : IsLow L edge low) where
    cut_from : (k : ℕ) → low ≤ k → k < L → IsBroken edge k
    cut_from k le high whole = let cut = is_low.cut (omega (arith, le, high)) in let up = nested edge low k le in omega (arith, cut, up, whole)

    deep_from : (k : ℕ) → low ≤ k → 1 ≤ k
    deep_from k le = let d = is_low.deep in omega (arith, d, le)

    wanted : (k : ℕ) → low ≤ k → k ≤ L → set.contains (state_of b).tables (place_of space k page) ≡ true
    wanted k le most = dite (ℕ_discrete k L) (λ e. may.top.wanted k (omega (arith, e)) most) (λ ne. go (strictly k L most ne) (set.contains so.tables (place_of space k page)) refl)
      where
        strictly : (n m : ℕ) → n ≤ m → (n ≡ m → ⊥) → n < m
        strictly n m le ne = omega arith

        new : k < L → set.contains so.tables (place_of space k page) ≡ false → (s t : Bool) → set.contains (state_of a).tables (place_of space k page) ≡ s → set.contains (state_of b).tables (place_of space k page) ≡ t → t ≡ true
        new high absent s true was now = refl
        new high absent true false was now = absurd (may.stays k (deep_from k le) high (cut_from k le high) (was, now))
        new high absent false false was now = absurd (true≢false (sym (may.changes k (deep_from k le) high (cut_from k le high) was (λ same. no_true result other (is_left k (deep_from k le) high (cut_from k le high) absent same))) ∙ now))

        go : k < L → (t : Bool) → set.contains so.tables (place_of space k page) ≡ t → set.contains (state_of b).tables (place_of space k page) ≡ true
        go high true e = so.within (place_of space k page) e
        go high false e = new high e (set.contains (state_of a).tables (place_of space k page)) (set.contains (state_of b).tables (place_of space k page)) refl refl

    pub may_link_end : MayLinkPage a b rows space page low
    may_link_end = record {
      row = may.top.row;
      there = may.top.there;
      has = may.top.has;
      deep = is_low.deep;
      high = is_low.high;
      wanted = wanted;
      linked = may.top.linked;
    }

  -- ---- the page stays, and so no table is new that is not there

  pub new_there : result ≡ true → ReachesEnd a b space page edge rows'
  new_there is k deep high broken was now = go (set.contains so.tables (place_of space k page)) refl
    where
      go : (t : Bool) → set.contains so.tables (place_of space k page) ≡ t → ListHolds rows' (place_of space k page)
      go true e = so.made (place_of space k page) was e
      go false e = absurd (true≢false (sym now ∙ may.leaves k deep high broken was (left_is k deep high broken e (is_true result is))))

-- ---- by the level that the code finds

module _ {B E : Type 0} (a b : BookData) (thread : ℕ) (c : Call) (kit : Kit) (v : PassView (List Cell) B E) (rows : List Row) (count room : ℕ) (ready : IsLinking count room a b thread c kit v rows)
    (next : ℕ) (w : PassView (List Cell) B E) (rows' : List Row) (so : LinkedSoFar a b thread c kit next v rows w rows') (space page edge : ℕ) (change : RangeChange) (may : MayLinkEnd a b rows space page edge change)
    (order : IsInOrder rows') (low : ℕ) (is : IsEndLevel count space page edge change rows' low) where
  pub end_may_link : MayLinkPage a b rows space page low
  end_may_link = go is.result refl
    where
      go : (t : Bool) → is.result ≡ t → MayLinkPage a b rows space page low
      go true e = subst (MayLinkPage a b rows space page) (sym (is.up e ∙ ready.count_is)) may.top
      go false e = may_link_end a b thread c kit v rows count room ready next w rows' so space page edge change may order is.result is.is e low (subst (λ n. IsLow n edge low) ready.count_is (is.down e))

  pub end_reaches : (done : ℕ) (z : PassView (List Cell) B E) (rows'' : List Row) → LinkedSoFar a b thread c kit done v rows z rows'' → ReachesPage space page low rows'' → ((p : Place) → ListHolds rows' p → ListHolds rows'' p) → ReachesEnd a b space page edge rows''
  end_reaches done z rows'' after reached keeps = go is.result refl
    where
      by_level : IsLow (levels (state_of a)) edge low → ReachesEnd a b space page edge rows''
      by_level is_low k deep high broken was now = after.made (place_of space k page) was
          (reached_table a b thread c kit v rows ready.before.few_levels done z rows'' after space page low reached (place_of space k page) (tower_has space k page (let f = ready.before.few_levels in omega (arith, high, f))) least (omega (arith, high)))
        where
          least : low ≤ k
          least = elim (cases_lt k low) [
            | inl less ↦ absurd (broken (is_low.whole k deep less))
            | inr more ↦ more
          ]

      go : (t : Bool) → is.result ≡ t → ReachesEnd a b space page edge rows''
      go true e = λ k deep high broken was now. keeps (place_of space k page) (new_there a b thread c kit v rows count room ready next w rows' so space page edge change may order is.result is.is e k deep high broken was now)
      go false e = by_level (subst (λ n. IsLow n edge low) ready.count_is (is.down e))
