-- The tables that an access lacks are those above its pages that want something.
--     IsAccess, access_is      what a load, a store and a fault ask of their pages
--     are_above, access_above      their missing tables
use Rattle.std.specs.Prelude.{◌≡◌, ℕ, zero, suc, ◌+◌, ◌-◌, ◌<◌, ◌≤◌, ◌⊎◌, ◌&&◌, ◌||◌, not, Bool, true, false, cond, List, [], ◌∷◌, ◌++◌, length, slice_index_or, Option, Some, None}
use Rattle.std.specs.List.{AllByRecursion, Contains, filter, flat_map, range_with_len}
use Rattle.std.specs.Option.{option_map_or}
use Rattle.std.specs.Ordering.{nat_cmp, eq_by_cmp}
use Rattle.std.specs.Cmp.{unsigned_tied}
use Rattle.std.specs.FinMap as fin
use Rattle.std.specs.FinMap.{find, get-entries}
use Rattle.std.specs.FinSet as set
use Rattle.std.specs.FinSet.{contains-union, contains-retain, contains-difference, contains-from_list}
use Rattle.std.proofs.Common.{sym, refl, ◌∙◌, ap, subst, arith, inl, inr}
use Rattle.std.proofs.lemmas.Bool.{true≢false, and_parts, eqb-true, cases_lt}
use Rattle.corten_base.specs.declared.calls.Call.{Call}
use Rattle.corten_base.specs.declared.calls.Call.TheVariants as call
use Rattle.corten_base.specs.declared.numbers.Limits.{Limits}
use Rattle.table_place.specs.declared.Place.{Place}
use Rattle.table_place.specs.Place.{cut_by, place_cmp, place_of, has_page, span_first, span_count}
use Rattle.table_place.specs.Range.{within}
use Rattle.table_place.proofs.Tables.{in_range, to_range}
use Rattle.table_place.proofs.Entries.{page_in_span, span_has_page}
use Rattle.page_map.specs.declared.cell.Cell.{Cell}
use Rattle.page_map.specs.declared.cell.Cell.TheVariants.{Anon, File, Mapped, Swapped}
use Rattle.page_map.specs.Access.{Access, first_page, page_count, refused_access, after_access}
use Rattle.page_map.specs.Alike.{unlike_tables}
use Rattle.page_map.specs.Effect.{access_of, space_of, wanted_tables, is_given_up, frame_grants, state_after}
use Rattle.page_map.specs.State.{State, AddressSpace, IsConsistent, levels, space_at}
use Rattle.page_map.specs.Step.{pages}
use Rattle.page_map.specs.Tables.{Tables, missing, changed_tables}
use Rattle.page_map.proofs.Above.{any_flat}
use Rattle.page_map.proofs.Alike.{has_no_number, number_unlike}
use Rattle.page_map.proofs.Evaluate.{alike}
use Rattle.page_map.proofs.Memory.{touched_cell}
use Rattle.page_map.proofs.NeedOf.{access_lack, cut_parts, cut_from, some_in, some_of}
use Rattle.page_map.proofs.Places.{place_total, place_exact}
use Rattle.page_map.proofs.Wanted.{is_wanted}
use Rattle.walk_core.proofs.RowLists.{head_or_later, in_head, in_tail}
use Rattle.row_cells.specs.declared.Cell.{Cell as RowCell}
use Rattle.row_table.specs.declared.view.PassView.{PassView}
use Rattle.tree_lock.specs.declared.zone.Zone.{Zone}
use Rattle.tree_lock.specs.declared.zone.Zone.TheVariants as zone
use Rattle.tree_lock.specs.Zone.{ZoneHas}
use Rattle.machine_plan.specs.declared.kit.Want.{Want}
use Rattle.machine_plan.specs.Uses.{access_want, wanted_at, wants_in, wants_of, zone_of}
use Rattle.machine_plan.specs.declared.kit.Kit.{Kit}
use Rattle.machine_plan.specs.Books.{BookData, state_of}
use Rattle.machine_plan.specs.HeldRows.{Row}
use Rattle.machine_plan.proofs.Levels.{has_levels}
use Rattle.machine_plan.proofs.Whole.{book_is_consistent}
use Rattle.machine_plan.proofs.Towers.{closed_up, tower_has}
use Rattle.cursor_detach.proofs.Lists.{any_default, still_there}
use Rattle.cursor_apply.specs.Applying.{IsApplicable}
use Rattle.cursor_apply.specs.Linking.{AreAbove, IsAccessIn, IsLinkable, MayLinkPage}
use Rattle.cursor_apply.proofs.StagedStart.{as_set, changed, is_accepted}

-- ---- a call that makes an access

pub record IsAccess (st : State) (thread : ℕ) (c : Call) (space : ℕ) (x : Access) : Type 0 where
  pub wants : wants_of st c ≡ wants_in (space_at st space) (first_page x) (page_count x) (access_want x.write)
  pub zone : zone_of thread c ≡ zone.Pages space (first_page x) (page_count x) false
  pub tables : wanted_tables st thread c ≡ unlike_tables (levels st) space (after_access st.files (frame_grants st c) x (space_at st space))
  pub pages_pass : pages st c ≡ refused_access st.files (space_at st space) x
  pub keeps : (p : Place) → is_given_up st c p ≡ false

-- by call
pub access_is : (st : State) (thread : ℕ) (c : Call) (space : ℕ) (x : Access) → space_of c ≡ Some space → access_of c ≡ Some x → IsAccess st thread c space x
unfolding wants_of
access_is st thread (call.Load s at len) space x e f =
    let a : Access = record { at = at; len = len; write = false; stored = [] } in
    subst (λ n. IsAccess st thread (call.Load s at len) n x) (let h : Some s ≡ Some space = e in cc) (subst (λ y. IsAccess st thread (call.Load s at len) s y) (let h : Some a ≡ Some x = f in cc)
    (record { wants = refl; zone = refl; tables = refl; pages_pass = refl; keeps = λ p. refl }))
access_is st thread (call.Store s at bytes) space x e f =
    let a : Access = record { at = at; len = length bytes; write = true; stored = bytes } in
    subst (λ n. IsAccess st thread (call.Store s at bytes) n x) (let h : Some s ≡ Some space = e in cc) (subst (λ y. IsAccess st thread (call.Store s at bytes) s y) (let h : Some a ≡ Some x = f in cc)
    (record { wants = refl; zone = refl; tables = refl; pages_pass = refl; keeps = λ p. refl }))
access_is st thread (call.Fault s at write) space x e f =
    let a : Access = record { at = at; len = 1; write = write; stored = [] } in
    subst (λ n. IsAccess st thread (call.Fault s at write) n x) (let h : Some s ≡ Some space = e in cc) (subst (λ y. IsAccess st thread (call.Fault s at write) s y) (let h : Some a ≡ Some x = f in cc)
    (record { wants = refl; zone = refl; tables = refl; pages_pass = refl; keeps = λ p. refl }))
access_is st thread (call.Map s where_to len perm what) space x e f = absurd (cc)
access_is st thread (call.Unmap s at len) space x e f = absurd (cc)
access_is st thread (call.Protect s at len perm) space x e f = absurd (cc)
access_is st thread call.Spawn space x e f = absurd (cc)
access_is st thread (call.Fork s) space x e f = absurd (cc)
access_is st thread (call.Exit s) space x e f = absurd (cc)
access_is st thread (call.SwapOut s at len) space x e f = absurd (cc)
access_is st thread (call.SwapIn s at len) space x e f = absurd (cc)
access_is st thread (call.Txn s at len ops) space x e f = absurd (cc)
access_is st thread (call.DontNeed s at len) space x e f = absurd (cc)
access_is st thread (call.Remap s at old_len new_len) space x e f = absurd (cc)

-- ---- the pages that want something

find_in : (es : List (ℕ × Cell)) (q : ℕ) (x : Cell) → find nat_cmp q es ≡ Some x → Contains es (q, x)
find_in [] q x e = absurd (cc)
find_in (e ∷ es) q x found = go (eq_by_cmp nat_cmp q e.0) refl (find_in es q x)
  where
    go : (b : Bool) → eq_by_cmp nat_cmp q e.0 ≡ b → (find nat_cmp q es ≡ Some x → Contains es (q, x)) → Contains (e ∷ es) (q, x)
    go true tied rest =
        let value : Some e.1 ≡ Some x = sym (ap (λ b. cond b (Some e.1) (find nat_cmp q es)) tied) ∙ found in
        let key : e.0 ≡ q = sym (eqb-true q e.0 (sym (unsigned_tied q e.0) ∙ tied)) in
        let same : e.1 ≡ x = cc in
        subst (Contains (e ∷ es)) (λ i. (key i, same i)) (in_head e es)
    go false tied rest = in_tail e es (q, x) (rest (sym (ap (λ b. cond b (Some e.1) (find nat_cmp q es)) tied) ∙ found))

-- a cell that wants something is listed
want_listed : (wants : Cell → Option Want) (es : List (ℕ × Cell)) (q : ℕ) (d : Cell) (w : Want) → wants d ≡ Some w → Contains es (q, d) → Contains (flat_map (wanted_at wants) es) (q, w)
want_listed wants [] q d w is has = let less = has.1 in absurd (omega arith)
want_listed wants (e ∷ es) q d w is has = go (wants e.1) refl (want_listed wants es q d w is) (head_or_later e es (q, d) has)
  where
    go : (o : Option Want) → wants e.1 ≡ o → (Contains es (q, d) → Contains (flat_map (wanted_at wants) es) (q, w)) → (e ≡ (q, d)) ⊎ Contains es (q, d)
        → Contains (option_map_or (λ x. (e.0, x) ∷ []) o [] ++ flat_map (wanted_at wants) es) (q, w)
    go (Some m) told rest (inl same) =
        let one : Some m ≡ Some w = sym told ∙ (ap (λ (p : ℕ × Cell). wants p.1) same ∙ is) in
        let value : m ≡ w = cc in
        subst (Contains ((e.0, m) ∷ flat_map (wanted_at wants) es)) (λ i. ((ap (λ (p : ℕ × Cell). p.0) same) i, value i)) (in_head (e.0, m) (flat_map (wanted_at wants) es))
    go (Some m) told rest (inr later) = in_tail (e.0, m) (flat_map (wanted_at wants) es) (q, w) (rest later)
    go None told rest (inl same) = let clash : Some w ≡ None = sym is ∙ (ap (λ (p : ℕ × Cell). wants p.1) (sym same) ∙ told) in absurd (cc)
    go None told rest (inr later) = rest later

-- each listed page is one of the range
listed_within : (wants : Cell → Option Want) (first count : ℕ) (es : List (ℕ × Cell)) → AllByRecursion (λ (w : ℕ × Want). within first count w.0 ≡ true) (flat_map (wanted_at wants) (filter (λ (e : ℕ × Cell). within first count e.0) es))
listed_within wants first count [] = tt
listed_within wants first count (e ∷ es) = go (within first count e.0) refl (listed_within wants first count es)
  where
    more : (o : Option Want) → within first count e.0 ≡ true → AllByRecursion (λ (w : ℕ × Want). within first count w.0 ≡ true) (flat_map (wanted_at wants) (filter (λ (y : ℕ × Cell). within first count y.0) es))
        → AllByRecursion (λ (w : ℕ × Want). within first count w.0 ≡ true) (option_map_or (λ x. (e.0, x) ∷ []) o [] ++ flat_map (wanted_at wants) (filter (λ (y : ℕ × Cell). within first count y.0) es))
    more None at rest = rest
    more (Some m) at rest = (at, rest)

    go : (b : Bool) → within first count e.0 ≡ b → AllByRecursion (λ (w : ℕ × Want). within first count w.0 ≡ true) (flat_map (wanted_at wants) (filter (λ (y : ℕ × Cell). within first count y.0) es))
        → AllByRecursion (λ (w : ℕ × Want). within first count w.0 ≡ true) (flat_map (wanted_at wants) (cond b (e ∷ filter (λ (y : ℕ × Cell). within first count y.0) es) (filter (λ (y : ℕ × Cell). within first count y.0) es)))
    go true at rest = more (wants e.1) at rest
    go false at rest = rest

at_place : (P : ℕ × Want → Type 0) (ws : List (ℕ × Want)) (k : ℕ) (d : ℕ × Want) → AllByRecursion P ws → k < length ws → P (slice_index_or ws k d)
at_place P [] k d h less = absurd (omega arith)
at_place P (w ∷ ws) zero d h less = h.0
at_place P (w ∷ ws) (suc k) d h less = at_place P ws k d h.1 (omega (arith, less))

-- a page without a want has a number
no_want : (write : Bool) (d : Cell) → access_want write d ≡ None → has_no_number (Some d) ≡ false
no_want write (Anon perm) e = absurd (cc)
no_want write (File perm file index) e = absurd (cc)
no_want write (Mapped perm origin frame bytes) e = refl
no_want write (Swapped perm origin slot bytes) e = absurd (cc)

-- ---- the missing tables

module _ {B E : Type 0} (a b : BookData) (thread : ℕ) (c : Call) (v : PassView (List RowCell) B E) (rows : List Row) (kit : Kit) (further : IsLinkable a b thread c v rows kit) (before : IsConsistent (state_of a)) (after : IsConsistent (state_of b))
    (same : levels (state_of b) ≡ levels (state_of a)) (state : state_of b ≡ state_after (state_of a) thread c) (passes : pages (state_of a) c ≡ None) (wants : kit.wants.items ≡ wants_of (state_of a) c)
    (space : ℕ) (x : Access) (of_space : space_of c ≡ Some space) (accesses : access_of c ≡ Some x) where
  abbrev st : State
  st = state_of a

  abbrev L : ℕ
  L = levels (state_of a)

  abbrev cells : AddressSpace
  cells = space_at (state_of a) space

  is : IsAccess (state_of a) thread c space x
  is = access_is (state_of a) thread c space x of_space accesses

  mapped : (q : ℕ) → within (first_page x) (page_count x) q ≡ true → (d : Cell) × (fin.get (space_at (state_of a) space) q ≡ Some d)
  mapped q w = touched_cell (state_of a).files cells x (sym is.pages_pass ∙ passes) q w

  listed : kit.wants.items ≡ wants_in (space_at (state_of a) space) (first_page x) (page_count x) (access_want x.write)
  listed = wants ∙ is.wants

  page_in : (k : ℕ) (d : ℕ × Want) → k < length kit.wants.items → within (first_page x) (page_count x) (slice_index_or kit.wants.items k d).0 ≡ true
  page_in k d less = at_place (λ w. within (first_page x) (page_count x) w.0 ≡ true) kit.wants.items k d
      (subst (AllByRecursion (λ (w : ℕ × Want). within (first_page x) (page_count x) w.0 ≡ true)) (sym listed) (listed_within (access_want x.write) (first_page x) (page_count x) (fin.entries cells))) less

  some_levels : (4 ≤ levels (state_of a)) × (levels (state_of a) ≤ 5)
  some_levels = (before.some_levels, before.few_levels)

  -- what is missing
  lacks : missing (wanted_tables (state_of a) thread c) (state_of a).tables ≡ missing (flat_map (λ page. cut_by (levels (state_of a)) space page 1) (range_with_len (first_page x) (page_count x))) (state_of a).tables
  lacks = ap (λ l. missing l (state_of a).tables) is.tables
      ∙ access_lack (state_of a) space (frame_grants (state_of a) c) x before (λ q w none. let m = mapped q w in let clash : Some m.0 ≡ None = sym m.1 ∙ none in absurd (cc))

  tables_now : (state_of b).tables ≡ changed_tables (is_given_up (state_of a) c) (wanted_tables (state_of a) thread c) (state_of a).tables
  tables_now = ap (λ (s : State). s.tables) state ∙ changed (state_of a) thread c

  missing_from : (p : Place) → set.contains (state_of a).tables p ≡ false → set.contains (state_of b).tables p ≡ true → set.contains (missing (wanted_tables (state_of a) thread c) (state_of a).tables) p ≡ true
  missing_from p none there =
      contains-difference place_total (as_set (wanted_tables (state_of a) thread c)) (state_of a).tables p
      ∙ by (set.contains (state_of a).tables p) (is_given_up (state_of a) c p) (set.contains (as_set (wanted_tables (state_of a) thread c)) p) none
      (sym (ap (λ (s : Tables). set.contains s p) tables_now
      ∙ (contains-union place_total (set.retain (state_of a).tables (λ q. not (is_given_up (state_of a) c q))) (as_set (wanted_tables (state_of a) thread c)) p
      ∙ ap (λ t. t || set.contains (as_set (wanted_tables (state_of a) thread c)) p) (contains-retain (state_of a).tables (λ q. not (is_given_up (state_of a) c q)) p (alike place_total place_exact (λ q. not (is_given_up (state_of a) c q)) p)))) ∙ there)
    where
      by : (t g w : Bool) → t ≡ false → ((t && not g) || w) ≡ true → (w && not t) ≡ true
      by true g w e h = absurd (true≢false e)
      by false g w e h = ap (λ k. k && true) h ∙ refl

  to_missing : (p : Place) → set.contains (state_of a).tables p ≡ false → is_wanted (flat_map (λ page. cut_by (levels (state_of a)) space page 1) (range_with_len (first_page x) (page_count x))) p ≡ true → set.contains (state_of b).tables p ≡ true
  to_missing p none cut =
      let asked : set.contains (missing (wanted_tables (state_of a) thread c) (state_of a).tables) p ≡ true =
      (ap (λ (s : Tables). set.contains s p) lacks ∙ (contains-difference place_total (as_set (flat_map (λ page. cut_by (levels (state_of a)) space page 1) (range_with_len (first_page x) (page_count x)))) (state_of a).tables p
      ∙ ((λ i. (contains-from_list place_total (flat_map (λ page. cut_by (levels (state_of a)) space page 1) (range_with_len (first_page x) (page_count x))) p ∙ cut) i && not (none i))))) in
      let parts = and_parts (set.contains (as_set (wanted_tables (state_of a) thread c)) p) (not (set.contains (state_of a).tables p)) (sym (contains-difference place_total (as_set (wanted_tables (state_of a) thread c)) (state_of a).tables p) ∙ asked) in
      ap (λ (s : Tables). set.contains s p) tables_now
      ∙ (contains-union place_total (set.retain (state_of a).tables (λ q. not (is_given_up (state_of a) c q))) (as_set (wanted_tables (state_of a) thread c)) p
      ∙ (ap (λ t. set.contains (set.retain (state_of a).tables (λ q. not (is_given_up (state_of a) c q))) p || t) parts.0 ∙ either (set.contains (set.retain (state_of a).tables (λ q. not (is_given_up (state_of a) c q))) p)))
    where
      either : (t : Bool) → (t || true) ≡ true
      either true = refl
      either false = refl

  -- ---- each page of the access

  module _ (q : ℕ) (w : within (first_page x) (page_count x) q ≡ true) where
    abbrev leaf : Place
    leaf = place_of space 1 q

    in_leaf : (span_first (place_of space 1 q) ≤ q) × (q < span_first (place_of space 1 q) + span_count (place_of space 1 q))
    in_leaf = in_range (span_first (place_of space 1 q)) (span_count (place_of space 1 q)) q (page_in_span (place_of space 1 q) space q (omega arith) (tower_has space 1 q (omega arith)))

    leaf_cut : is_wanted (flat_map (λ page. cut_by (levels (state_of a)) space page 1) (range_with_len (first_page x) (page_count x))) (place_of space 1 q) ≡ true
    leaf_cut =
        let at = in_range (first_page x) (page_count x) q w in
        let l = some_levels in
        any_flat (eq_by_cmp place_cmp (place_of space 1 q)) (λ page. cut_by (levels (state_of a)) space page 1) (range_with_len (first_page x) (page_count x))
        ∙ some_in (λ page. is_wanted (cut_by (levels (state_of a)) space page 1) (place_of space 1 q)) (first_page x) (page_count x) q at.0 at.1
        (cut_from (levels (state_of a)) space q 1 (place_of space 1 q) l.1 (record {
          same_space = refl;
          low = omega arith;
          high = omega (arith, l.0);
          page = q;
          within_range = to_range q 1 q (omega arith) (omega arith);
          from = in_leaf.0;
          to = in_leaf.1;
          outside = outside (span_first (place_of space 1 q)) in_leaf.0 in_leaf.1;
        }))
      where
        outside : (n : ℕ) → n ≤ q → q < n + 512 → (n < q) ⊎ (q + 1 < n + 512)
        outside n low high = elim (cases_lt n q) [
          | inl less ↦ inl less
          | inr more ↦ inr (omega (arith, low, more))
        ]

    leaf_there : set.contains (state_of b).tables (place_of space 1 q) ≡ true
    leaf_there = go (set.contains (state_of a).tables (place_of space 1 q)) refl
      where
        stays : (t g w : Bool) → t ≡ true → g ≡ false → ((t && not g) || w) ≡ true
        stays t g w e f = (λ i. (e i && not (f i)) || w)

        go : (t : Bool) → set.contains (state_of a).tables (place_of space 1 q) ≡ t → set.contains (state_of b).tables (place_of space 1 q) ≡ true
        go false e = to_missing (place_of space 1 q) e leaf_cut
        go true e = ap (λ (s : Tables). set.contains s (place_of space 1 q)) tables_now
            ∙ (contains-union place_total (set.retain (state_of a).tables (λ p. not (is_given_up (state_of a) c p))) (as_set (wanted_tables (state_of a) thread c)) (place_of space 1 q)
            ∙ (ap (λ t. t || set.contains (as_set (wanted_tables (state_of a) thread c)) (place_of space 1 q)) (contains-retain (state_of a).tables (λ p. not (is_given_up (state_of a) c p)) (place_of space 1 q) (alike place_total place_exact (λ p. not (is_given_up (state_of a) c p)) (place_of space 1 q)))
            ∙ stays (set.contains (state_of a).tables (place_of space 1 q)) (is_given_up (state_of a) c (place_of space 1 q)) (set.contains (as_set (wanted_tables (state_of a) thread c)) (place_of space 1 q)) e (is.keeps (place_of space 1 q))))

    in_zone : ZoneHas (zone_of thread c) space q
    in_zone = let at = in_range (first_page x) (page_count x) q w in subst (λ (z : Zone). ZoneHas z space q) (sym is.zone) (refl, at.0, at.1)

    may_page : MayLinkPage a b rows space q 1
    may_page =
        let r = further.zone space q in_zone in
        let l = some_levels in
        record {
          row = r.0;
          there = r.1;
          has = r.2;
          deep = omega arith;
          high = omega (arith, l.0);
          wanted = λ k deep high. subst (λ n. set.contains (state_of b).tables (place_of space n q) ≡ true) (plus k deep) (closed_up (state_of b) after space 1 q (k - 1) (omega (arith, deep, high, same)) leaf_there);
          linked = λ y i has inside page was is_now. further.links y i has inside (record { space = space; page = q; of_zone = in_zone; of_span = page }) was is_now;
        }
      where
        plus : (k : ℕ) → 1 ≤ k → 1 + (k - 1) ≡ k
        plus k deep = omega (arith, deep)

  -- ---- each missing table

  above_some : (p : Place) → set.contains (state_of a).tables p ≡ false → set.contains (state_of b).tables p ≡ true → (k : ℕ) × (k < length kit.wants.items) × ((d : ℕ × Want) → has_page p space (slice_index_or kit.wants.items k d).0 ≡ true)
  above_some p none there =
      let asked = ap (λ (s : Tables). set.contains s p) (sym lacks) ∙ missing_from p none there in
      let flat = and_parts (set.contains (as_set (flat_map (λ page. cut_by (levels (state_of a)) space page 1) (range_with_len (first_page x) (page_count x)))) p) (not (set.contains (state_of a).tables p))
      (sym (contains-difference place_total (as_set (flat_map (λ page. cut_by (levels (state_of a)) space page 1) (range_with_len (first_page x) (page_count x)))) (state_of a).tables p) ∙ asked) in
      let each = sym (any_flat (eq_by_cmp place_cmp p) (λ page. cut_by (levels (state_of a)) space page 1) (range_with_len (first_page x) (page_count x)))
      ∙ (sym (contains-from_list place_total (flat_map (λ page. cut_by (levels (state_of a)) space page 1) (range_with_len (first_page x) (page_count x))) p) ∙ flat.0) in
      let at = some_of (λ page. is_wanted (cut_by (levels (state_of a)) space page 1) p) (first_page x) (page_count x) each in
      let l = some_levels in
      let cut = cut_parts (levels (state_of a)) space at.0 1 p l.1 (omega arith) at.2 in
      let one = in_range at.0 1 cut.page cut.within_range in
      let here : cut.page ≡ at.0 = omega (arith, one.0, one.1) in
      let from : span_first p ≤ at.0 = subst (λ n. span_first p ≤ n) here cut.from in
      let to : at.0 < span_first p + span_count p = subst (λ n. n < span_first p + span_count p) here cut.to in
      let d = mapped at.0 at.1 in
      by_want at.0 at.1 d.0 d.1 (access_want x.write d.0) refl (span_has_page p space at.0 (let h = cut.high in omega (arith, h, l.1)) cut.same_space (to_range (span_first p) (span_count p) at.0 from to)) cut.low cut.high cut.same_space from to
    where
      by_want : (q : ℕ) → within (first_page x) (page_count x) q ≡ true → (d : Cell) → fin.get (space_at (state_of a) space) q ≡ Some d → (o : Option Want) → access_want x.write d ≡ o → has_page p space q ≡ true
          → 1 ≤ p.level → p.level < levels (state_of a) → p.space ≡ space → span_first p ≤ q → q < span_first p + span_count p
          → (k : ℕ) × (k < length kit.wants.items) × ((e : ℕ × Want) → has_page p space (slice_index_or kit.wants.items k e).0 ≡ true)
      by_want q w d found (Some m) told has low high of from to =
          let there = subst (λ (l : List (ℕ × Want)). Contains l (q, m)) (sym listed)
          (want_listed (access_want x.write) (filter (λ (e : ℕ × Cell). within (first_page x) (page_count x) e.0) (fin.entries cells)) q d m told
          (still_there (λ (e : ℕ × Cell). within (first_page x) (page_count x) e.0) (fin.entries cells) (q, d) w (find_in (fin.entries cells) q d (sym (get-entries cells q) ∙ found)))) in
          (there.0, there.1, λ e. ap (λ (y : ℕ × Want). has_page p space y.0) (any_default kit.wants.items there.0 e (q, m) there.1 ∙ there.2) ∙ has)
      by_want q w d found None told has low high of from to =
          let odd = number_unlike (space_at (state_of a) p.space) (span_first p) (span_count p) q from to (ap (λ n. has_no_number (fin.get (space_at (state_of a) n) q)) of ∙ (ap has_no_number found ∙ no_want x.write d told)) in
          absurd (true≢false (sym (before.unlike p low high odd) ∙ none))

  pub are_above : AreAbove a b rows kit space
  are_above = record { pages = λ k d less. may_page (slice_index_or kit.wants.items k d).0 (page_in k d less); all = above_some }

-- the same of a call that was applied
pub access_above : {B E : Type 0} (a b : BookData) (thread : ℕ) (c : Call) (v : PassView (List RowCell) B E) (rows : List Row) (kit : Kit) (space : ℕ) → IsApplicable a b thread c v rows kit → kit.done ≡ true → IsLinkable a b thread c v rows kit → IsAccessIn space c → AreAbove a b rows kit space
access_above a b thread c v rows kit space ready done further is =
    let st = is_accepted a b thread c v rows kit ready done in
    let same = has_levels b ∙ (ap (λ (l : Limits). l.levels) st.same_limits ∙ sym (has_levels a)) in
    are_above a b thread c v rows kit further (book_is_consistent a ready.books.0) ready.consistent same st.state st.passes st.wants space is.access is.of_space is.accesses
