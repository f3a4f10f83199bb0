-- The tables of a copy are linked, from those of the source.
--     page_small      the first page below an entry is a number of 64 bits
--     source_row      the row of a table of the source
--     may_link      the tables above the copy of a key may be linked
--     none_own, linked_own      a row without a cell of its own has no key there;  one that has a copy has it for all its keys
--     no_copies, more_copies, same_copies      of no entry;  of one more that leads to a table;  of one more that does not
--     all_copies      of all entries and the table itself
--     is_child      a table below an entry may be copied in its turn
use Rattle.std.specs.Prelude.{◌≡◌, ℕ, ◌+◌, ◌-◌, ◌*◌, ◌^◌, ◌<◌, ◌≤◌, ◌&&◌, Bool, true, false, cond, List, nat_lt, slice_get, slice_index, Option, Some, is_some}
use Rattle.std.specs.List.{Contains}
use Rattle.std.specs.FinSet as set
use Rattle.std.proofs.Common.{sym, refl, ◌∙◌, ap, subst, arith, inl, inr}
use Rattle.std.proofs.Math.Pow.{pow-add}
use Rattle.std.proofs.Math.Nat.{mul-le-mul_right}
use Rattle.std.proofs.lemmas.Bool.{true≢false, false_from_ne_true, and_parts, ltb-true}
use mathlib.Core.Logic.{dite}
use native.Mathlib.Decide.{ℕ_discrete}
use Rattle.corten_base.specs.declared.permissions.Perm.{Perm}
use Rattle.corten_base.specs.declared.calls.Backing.{Backing}
use Rattle.corten_base.specs.declared.calls.Backing.TheVariants as backing
use Rattle.corten_base.specs.declared.calls.Call.{Call}
use Rattle.page_map.specs.declared.cell.Cell.{Cell as PageCell}
use Rattle.page_map.specs.State.{State, IsConsistent, levels}
use Rattle.row_cells.specs.declared.Cell.{Cell}
use Rattle.row_cells.specs.declared.Cell.TheVariants.{Invalid, Table, Anon, File, Mapped, Swapped}
use Rattle.row_table.specs.declared.view.PassView.{PassView}
use Rattle.table_place.specs.declared.Place.{Place}
use Rattle.table_place.specs.Place.{parent, place_of, has_page, index_at, is_place, span_first}
use Rattle.table_place.specs.Range.{within}
use Rattle.table_place.proofs.Entries.{below_is, first_page, level_of, page_parts, page_from}
use Rattle.table_place.proofs.Spans.{span_up}
use Rattle.machine_plan.specs.declared.kit.Kit.{Kit}
use Rattle.machine_plan.specs.Agrees.{below, IsNoTable, IsTableOf, Shows}
use Rattle.machine_plan.specs.Books.{BookData, state_of}
use Rattle.machine_plan.specs.Given.{IsRemoved}
use Rattle.machine_plan.specs.Held.{ListHolds}
use Rattle.machine_plan.specs.HeldRows.{Row, is_table}
use Rattle.machine_plan.proofs.Asked.{next_below}
use Rattle.machine_plan.proofs.Covering.{cell_there}
use Rattle.machine_plan.proofs.Near.{page_up}
use Rattle.machine_plan.proofs.Towers.{closed_up, table_above, tower_has, up_one}
use Rattle.cursor_detach.specs.Left.{came_from, drawn_cell, is_taken}
use Rattle.space_apply.specs.Copying.{CopiesTables, IsKey, is_filled, FilledAt, page_at, copy_at, HasOwn, HasCopiesTo, HasCopies, IsCopying}
use Rattle.cursor_apply.specs.Linking.{IsLinking, LinkedSoFar, MayLinkPage, ReachesPage}
use Rattle.cursor_apply.specs.Staging.{with_tables, IsStagedCell}
use Rattle.cursor_apply.proofs.AbovePages.{reached_table}
use Rattle.cursor_apply.proofs.Marks.{no_table_there}

-- ---- numbers

past : (n : ℕ) → n < 6 → (n ≡ 0 → ⊥) → (n ≡ 1 → ⊥) → (n ≡ 2 → ⊥) → (n ≡ 3 → ⊥) → (n ≡ 4 → ⊥) → (n ≡ 5 → ⊥) → ⊥
past n lt n0 n1 n2 n3 n4 n5 = omega arith

up_to_five : (n : ℕ) → n < 6 → 512 ^ n ≤ 512 ^ 5
up_to_five n lt =
    dite (ℕ_discrete n 0) (λ e. subst (λ m. 512 ^ m ≤ 512 ^ 5) (sym e) (omega arith)) (λ n0.
    dite (ℕ_discrete n 1) (λ e. subst (λ m. 512 ^ m ≤ 512 ^ 5) (sym e) (omega arith)) (λ n1.
    dite (ℕ_discrete n 2) (λ e. subst (λ m. 512 ^ m ≤ 512 ^ 5) (sym e) (omega arith)) (λ n2.
    dite (ℕ_discrete n 3) (λ e. subst (λ m. 512 ^ m ≤ 512 ^ 5) (sym e) (omega arith)) (λ n3.
    dite (ℕ_discrete n 4) (λ e. subst (λ m. 512 ^ m ≤ 512 ^ 5) (sym e) (omega arith)) (λ n4.
    dite (ℕ_discrete n 5) (λ e. subst (λ m. 512 ^ m ≤ 512 ^ 5) (sym e) (omega arith)) (λ n5. absurd (past n lt n0 n1 n2 n3 n4 n5)))))))

module _ (levels : ℕ) (p : Place) (few : levels < 6) (place : is_place levels p ≡ true) (index : ℕ) (inside : index < 512) where
  depth : (1 ≤ p.level) × (p.level ≤ levels)
  depth = level_of levels p place

  prefix_small : p.prefix < 512 ^ (levels - p.level)
  prefix_small = ltb-true p.prefix (512 ^ (levels - p.level)) (and_parts (within 1 levels p.level) (nat_lt p.prefix (512 ^ (levels - p.level))) (and_parts (nat_lt p.space 64) (within 1 levels p.level && nat_lt p.prefix (512 ^ (levels - p.level))) place).1).1

  pub entry_small : 512 * p.prefix + index < 512 ^ (levels - p.level + 1)
  entry_small = let up = span_up (levels - p.level) in let s = prefix_small in omega (arith, up, s, inside)

  most : 512 ^ levels ≤ 512 ^ 5
  most = up_to_five levels few

  pub page_small : (512 * p.prefix + index) * 512 ^ (p.level - 1) ≤ 2 ^ 45
  page_small =
      let less : (512 * p.prefix + index) * 512 ^ (p.level - 1) ≤ 512 ^ (levels - p.level + 1) * 512 ^ (p.level - 1) = mul-le-mul_right (512 ^ (p.level - 1)) (let e = entry_small in omega (arith, e)) in
      let sum : levels - p.level + 1 + (p.level - 1) ≡ levels = (let d = depth in omega (arith, d.0, d.1)) in
      let whole : 512 ^ (levels - p.level + 1) * 512 ^ (p.level - 1) ≡ 512 ^ levels = sym (pow-add 512 (levels - p.level + 1) (p.level - 1)) ∙ ap (λ n. 512 ^ n) sum in
      let m = most in omega (arith, less, whole, m)

  pub prefix_low : 512 * p.prefix + index ≤ 2 ^ 45
  prefix_low =
      let e = entry_small in
      let wide : 512 ^ (levels - p.level + 1) ≤ 512 ^ 5 = up_to_five (levels - p.level + 1) (let d = depth in omega (arith, d.0, d.1, few)) in
      omega (arith, e, wide)

-- ---- cells

came_filled : (origin : Backing) (perm : Perm) → is_filled (came_from origin perm) ≡ true
came_filled backing.Zero perm = refl
came_filled (backing.File file index) perm = refl

came_plain : (origin : Backing) (perm : Perm) → is_table (came_from origin perm) ≡ false
came_plain backing.Zero perm = refl
came_plain (backing.File file index) perm = refl

filled_drawn : (t : Bool) (was : Cell) → is_filled (cond t (drawn_cell was) was) ≡ is_filled was
filled_drawn false was = refl
filled_drawn true Invalid = refl
filled_drawn true Table = refl
filled_drawn true (Anon perm) = refl
filled_drawn true (File perm file index) = refl
filled_drawn true (Mapped perm origin frame) = came_filled origin perm
filled_drawn true (Swapped perm origin slot) = came_filled origin perm

link_drawn : (t : Bool) (was : Cell) → is_table (cond t (drawn_cell was) was) ≡ is_table was
link_drawn false was = refl
link_drawn true Invalid = refl
link_drawn true Table = refl
link_drawn true (Anon perm) = refl
link_drawn true (File perm file index) = refl
link_drawn true (Mapped perm origin frame) = came_plain origin perm
link_drawn true (Swapped perm origin slot) = came_plain origin perm

link_shown : (st : State) (q : Place) (was : Cell) → is_table was ≡ true → Shows st q was → set.contains st.tables q ≡ true
link_shown st q Table t shows = shows
link_shown st q Invalid t shows = absurd (true≢false (sym t))
link_shown st q (Anon perm) t shows = absurd (true≢false (sym t))
link_shown st q (File perm file index) t shows = absurd (true≢false (sym t))
link_shown st q (Mapped perm origin frame) t shows = absurd (true≢false (sym t))
link_shown st q (Swapped perm origin slot) t shows = absurd (true≢false (sym t))

filled_key : (st : State) (q : Place) (was : Cell) (s n : ℕ) → is_filled was ≡ true → Shows st q was → has_page q s n ≡ true → IsKey st s n
filled_key st q Invalid s n filled shows has = absurd (true≢false (sym filled))
filled_key st q Table s n filled shows has = absurd (true≢false (sym filled))
filled_key st q (Anon perm) s n filled shows has = ap (λ (o : Option PageCell). is_some o) (shows.1 s n has)
filled_key st q (File perm file index) s n filled shows has = ap (λ (o : Option PageCell). is_some o) (shows.1 s n has)
filled_key st q (Mapped perm origin frame) s n filled shows has = ap (λ (o : Option PageCell). is_some o) (shows.2 s n has)
filled_key st q (Swapped perm origin slot) s n filled shows has = ap (λ (o : Option PageCell). is_some o) (shows.2 s n has)

key_filled : (st : State) (q : Place) (was : Cell) (s n : ℕ) → is_table was ≡ false → Shows st q was → has_page q s n ≡ true → IsKey st s n → is_filled was ≡ true
key_filled st q Invalid s n plain shows has key = absurd (true≢false (sym key ∙ ap (λ (o : Option PageCell). is_some o) (shows.1 s n has)))
key_filled st q Table s n plain shows has key = absurd (true≢false plain)
key_filled st q (Anon perm) s n plain shows has key = refl
key_filled st q (File perm file index) s n plain shows has key = refl
key_filled st q (Mapped perm origin frame) s n plain shows has key = refl
key_filled st q (Swapped perm origin slot) s n plain shows has key = refl

-- a row that was linked is of a table that is there
pub in_tables : {B E : Type 0} (a b : BookData) (thread : ℕ) (c : Call) (kit : Kit) (next : ℕ) (v : PassView (List Cell) B E) (rows : List Row) (w : PassView (List Cell) B E) (rows' : List Row) (so : LinkedSoFar a b thread c kit next v rows w rows')
    → (p : Place) → p.level < 6 → ListHolds rows' p → set.contains so.tables p ≡ true
in_tables a b thread c kit next v rows w rows' so p low l = by (so.staged l.0 l.1).table
  where
    by : IsTableOf (with_tables (state_of a) so.tables) l.0.place → set.contains so.tables p ≡ true
    by (inl top) = let six : p.level ≡ 6 = ap (λ (q : Place). q.level) (sym l.2 ∙ top) in absurd (omega (arith, six, low))
    by (inr t) = ap (set.contains so.tables) (sym l.2) ∙ t

module _ {B E : Type 0} (count room : ℕ) (a b : BookData) (thread : ℕ) (c : Call) (kit : Kit) (next : ℕ) (v : PassView (List Cell) B E) (rows : List Row) (w : PassView (List Cell) B E) (rows' : List Row) (p : Place) (new : ℕ)
    (is : IsCopying count room a b thread c kit next v rows w rows' p new) where
  abbrev L : ℕ
  L = levels (state_of a)

  before : IsConsistent (state_of a)
  before = is.linking.before

  few : levels (state_of a) < 6
  few = let m = before.few_levels in omega arith

  pub placed : is_place (levels (state_of a)) p ≡ true
  placed = before.places p is.there

  pub placed_so : is_place count p ≡ true
  placed_so = subst (λ n. is_place n p ≡ true) (sym is.linking.count_is) placed

  deep : (1 ≤ p.level) × (p.level ≤ levels (state_of a))
  deep = level_of (levels (state_of a)) p placed

  pub low : p.level < 6
  low = let d = deep in let f = few in omega (arith, d.1, f)

  pub source_row : (x : Row) × Contains rows' x × (x.place ≡ p)
  source_row = let l = is.tables.held p is.there refl in let o = is.so_far.kept l.0 l.1 in (o.0, o.1, o.3 ∙ l.2)

  -- a table of the source
  own_table : (q : Place) → q.space ≡ p.space → set.contains is.so_far.tables q ≡ true → set.contains (state_of a).tables q ≡ true
  own_table q here there = is.tables.others q (is.so_far.within q there) (λ same. is.tables.fresh p is.there (sym here ∙ same))

  still : (q : Place) → ¬ IsRemoved (state_of a) (state_of b) q
  still q r = true≢false (sym (is.tables.stay q r.0) ∙ r.1)

  -- a copy that is there has its row
  copy_row : (q : Place) → q.space ≡ new → set.contains is.so_far.tables q ≡ true → ListHolds rows' q
  copy_row q here there = is.so_far.made q (false_from_ne_true (set.contains (state_of a).tables q) (λ old. is.tables.fresh q old here)) there

  -- ---- an entry of the table's row

  module _ (index : ℕ) (inside : index < 512) where
    abbrev q : Place
    q = below (levels (state_of a)) p index

    form : below (levels (state_of a)) p index ≡ record { space = p.space; level = p.level - 1; prefix = 512 * p.prefix + index }
    form = below_is (levels (state_of a)) p index low

    q_space : (below (levels (state_of a)) p index).space ≡ p.space
    q_space = ap (λ (r : Place). r.space) form

    q_level : (below (levels (state_of a)) p index).level ≡ p.level - 1
    q_level = ap (λ (r : Place). r.level) form

    q_low : (below (levels (state_of a)) p index).level < 6
    q_low = let l = low in let e = q_level in omega (arith, l, e)

    pub up_has : (page : ℕ) → has_page (below (levels (state_of a)) p index) p.space page ≡ true → has_page p p.space page ≡ true
    up_has page has = page_up (levels (state_of a)) p index p.space page deep.0 low inside has

    pub first_has : has_page (below (levels (state_of a)) p index) p.space (page_at p index) ≡ true
    first_has = subst (λ n. has_page (below (levels (state_of a)) p index) p.space n ≡ true) (ap span_first form)
        (subst (λ s. has_page (below (levels (state_of a)) p index) s (span_first (below (levels (state_of a)) p index)) ≡ true) q_space (first_page (below (levels (state_of a)) p index) q_low))

    module _ (x : Row) (has : Contains rows' x) (at : x.place ≡ p) (cell : Cell) (there : slice_get x.content index ≡ Some cell) where
      abbrev mid : State
      mid = with_tables (state_of a) is.so_far.tables

      sc : IsStagedCell a is.so_far.tables thread c kit x.place index (slice_index (is.so_far.staged x has).known.words index) cell
      sc = (is.so_far.staged x has).cells index cell inside (still (below (levels (state_of a)) x.place index)) there

      shows : Shows (with_tables (state_of a) is.so_far.tables) (below (levels (state_of a)) p index) sc.was
      shows = subst (λ r. Shows (with_tables (state_of a) is.so_far.tables) (below (levels (state_of a)) r index) sc.was) at sc.shows

      same_filled : is_filled cell ≡ is_filled sc.was
      same_filled = ap is_filled sc.is ∙ filled_drawn (is_taken (state_of a) thread c kit x.place index) sc.was

      same_table : is_table cell ≡ is_table sc.was
      same_table = ap is_table sc.is ∙ link_drawn (is_taken (state_of a) thread c kit x.place index) sc.was

      pub link_there : is_table cell ≡ true → set.contains (state_of a).tables (below (levels (state_of a)) p index) ≡ true
      link_there t = own_table (below (levels (state_of a)) p index) q_space (link_shown (with_tables (state_of a) is.so_far.tables) (below (levels (state_of a)) p index) sc.was (sym same_table ∙ t) shows)

      pub no_link : is_table cell ≡ false → IsNoTable (state_of a) (below (levels (state_of a)) p index)
      no_link plain = false_from_ne_true (set.contains (state_of a).tables (below (levels (state_of a)) p index)) (λ old.
          true≢false (sym (is.so_far.left (below (levels (state_of a)) p index) old (is.tables.stay (below (levels (state_of a)) p index) old))
          ∙ no_table_there (with_tables (state_of a) is.so_far.tables) (below (levels (state_of a)) p index) sc.was (sym same_table ∙ plain) shows))

      pub filled_is_key : (page : ℕ) → is_filled cell ≡ true → has_page (below (levels (state_of a)) p index) p.space page ≡ true → IsKey (state_of a) p.space page
      filled_is_key page filled h = filled_key (with_tables (state_of a) is.so_far.tables) (below (levels (state_of a)) p index) sc.was p.space page (sym same_filled ∙ filled) shows h

      pub key_is_filled : (page : ℕ) → IsNoTable (state_of a) (below (levels (state_of a)) p index) → has_page (below (levels (state_of a)) p index) p.space page ≡ true → IsKey (state_of a) p.space page → is_filled cell ≡ true
      key_is_filled page lone h key = same_filled ∙ key_filled (with_tables (state_of a) is.so_far.tables) (below (levels (state_of a)) p index) sc.was p.space page
          (false_from_ne_true (is_table sc.was) (λ t. true≢false (sym (link_there (same_table ∙ t)) ∙ lone))) shows h key

  -- ---- a key that is the table's own

  module _ (x : Row) (has : Contains rows' x) (at : x.place ≡ p) (index : ℕ) (inside : index < 512) (filled : FilledAt x.content index) where
    own_key : IsKey (state_of a) p.space (page_at p index)
    own_key = filled_is_key index inside x has at filled.0 filled.1 (page_at p index) filled.2 (first_has index inside)

    page_has : has_page p p.space (page_at p index) ≡ true
    page_has = up_has index inside (page_at p index) (first_has index inside)

    p_is : p ≡ place_of p.space p.level (page_at p index)
    p_is = table_above p p.space (page_at p index) low page_has

    pub may_link : MayLinkPage a b rows new (page_at p index) p.level
    may_link = record {
      row = is.tables.top.0;
      there = is.tables.top.1;
      has = subst (λ (r : Place). has_page r new (page_at p index) ≡ true) (sym is.tables.top.2) refl;
      deep = deep.0;
      high = deep.1;
      wanted = λ k from to. is.tables.wanted (page_at p index) k own_key
          (subst (λ n. set.contains (state_of a).tables (place_of p.space n (page_at p index)) ≡ true) (plus p.level k from)
          (closed_up (state_of a) before p.space p.level (page_at p index) (k - p.level) (within_top p.level k (levels (state_of a)) from to) (ap (set.contains (state_of a).tables) (sym p_is) ∙ is.there)));
      linked = λ y i held within page old now. absurd (is.tables.fresh (below (levels (state_of a)) y.place i) old
          (page_parts (below (levels (state_of a)) y.place i) new (page_at p index) (let d = (level_of (levels (state_of a)) (below (levels (state_of a)) y.place i) (before.places (below (levels (state_of a)) y.place i) old)).1 in let f = few in omega (arith, d, f)) page).0);
    }
      where
        plus : (n k : ℕ) → n ≤ k → n + (k - n) ≡ k
        plus n k le = omega arith

        within_top : (n k m : ℕ) → n ≤ k → k ≤ m → n + (k - n) ≤ m
        within_top n k m from to = omega arith

    pub linked_own : (done : ℕ) (z : PassView (List Cell) B E) (rows'' : List Row) (so : LinkedSoFar a b thread c kit done v rows z rows'') → ReachesPage new (page_at p index) p.level rows'' → HasOwn (state_of a) p new rows''
    linked_own done z rows'' so reached = record {
      each = λ i page within lone h key. so.made (copy_at new p) (false_from_ne_true (set.contains (state_of a).tables (copy_at new p)) (λ old. is.tables.fresh (copy_at new p) old refl))
          (reached_table a b thread c kit v rows before.few_levels done z rows'' so new (page_at p index) p.level reached (copy_at new p)
          (page_from (copy_at new p) new (page_at p index) low refl (page_parts p p.space (page_at p index) low page_has).1) (let d = deep in omega arith) deep.1);
    }

  pub none_own : (x : Row) → Contains rows' x → x.place ≡ p → ((i : ℕ) → i < 512 → FilledAt x.content i → ⊥) → HasOwn (state_of a) p new rows'
  none_own x has at none = record {
    each = λ i page within lone h key.
        let cell = cell_there x.content i (subst (λ n. i < n) (sym (is.so_far.staged x has).whole) within) in
        absurd (none i within (cell.0, cell.1, key_is_filled i within x has at cell.0 cell.1 page lone h key));
  }

  -- ---- the tables below

  -- the table at an entry
  pub is_child : (x : Row) → Contains rows' x → x.place ≡ p → (index : ℕ) → index < 512 → (cell : Cell) → slice_get x.content index ≡ Some cell → is_table cell ≡ true → (child : Place) → child ≡ below (levels (state_of a)) p index
      → IsCopying count room a b thread c kit next v rows w rows' child new
  is_child x has at index inside cell there link child same = record {
    linking = is.linking;
    so_far = is.so_far;
    tables = subst (λ s. CopiesTables a b rows s new) (sym (ap (λ (r : Place). r.space) same ∙ q_space index inside)) is.tables;
    there = ap (set.contains (state_of a).tables) same ∙ link_there index inside x has at cell there link;
  }

  pub more_copies : (index : ℕ) → index < 512 → (child : Place) → child ≡ below (levels (state_of a)) p index → (rows'' : List Row) → ((r : Place) → ListHolds rows' r → ListHolds rows'' r)
      → HasCopiesTo (state_of a) p new index rows' → HasCopies (state_of a) child new rows'' → HasCopiesTo (state_of a) p new (index + 1) rows''
  more_copies index inside child same rows'' kept old all = record {
    each = λ i page level less has key one under there. dite (ℕ_discrete i index)
        (λ e. last i page level e has key one under there)
        (λ ne. kept (place_of new level page) (old.each i page level (fewer i index less ne) has key one under there));
  }
    where
      fewer : (i n : ℕ) → i < n + 1 → (i ≡ n → ⊥) → i < n
      fewer i n less ne = omega arith

      space_is : child.space ≡ p.space
      space_is = ap (λ (r : Place). r.space) same ∙ q_space index inside

      level_is : child.level ≡ p.level - 1
      level_is = ap (λ (r : Place). r.level) same ∙ q_level index inside

      last : (i page level : ℕ) → i ≡ index → has_page (below (levels (state_of a)) p i) p.space page ≡ true → IsKey (state_of a) p.space page → 1 ≤ level → level < p.level → set.contains (state_of a).tables (place_of p.space level page) ≡ true → ListHolds rows'' (place_of new level page)
      last i page level e has key one under there = all.each page level
          (subst (λ s. has_page child s page ≡ true) (sym space_is) (subst (λ r. has_page r p.space page ≡ true) (ap (below (levels (state_of a)) p) e ∙ sym same) has))
          (subst (λ s. IsKey (state_of a) s page) (sym space_is) key) one (let l = level_is in omega (arith, under, l)) (subst (λ s. set.contains (state_of a).tables (place_of s level page) ≡ true) (sym space_is) there)

  pub same_copies : (index : ℕ) → index < 512 → IsNoTable (state_of a) (below (levels (state_of a)) p index) → HasCopiesTo (state_of a) p new index rows' → HasCopiesTo (state_of a) p new (index + 1) rows'
  same_copies index inside lone old = record {
    each = λ i page level less has key one under there. dite (ℕ_discrete i index)
        (λ e. absurd (never page level (subst (λ k. has_page (below (levels (state_of a)) p k) p.space page ≡ true) e has) one under there))
        (λ ne. old.each i page level (fewer i index less ne) has key one under there);
  }
    where
      fewer : (i n : ℕ) → i < n + 1 → (i ≡ n → ⊥) → i < n
      fewer i n less ne = omega arith

      never : (page level : ℕ) → has_page (below (levels (state_of a)) p index) p.space page ≡ true → 1 ≤ level → level < p.level → set.contains (state_of a).tables (place_of p.space level page) ≡ true → ⊥
      never page level has one under there =
          let up = closed_up (state_of a) before p.space level page (p.level - 1 - level) (let d = deep in omega (arith, d.1, under)) there in
          let here : level + (p.level - 1 - level) ≡ (below (levels (state_of a)) p index).level = (let e = q_level index inside in omega (arith, under, e)) in
          let is_q : below (levels (state_of a)) p index ≡ place_of p.space (level + (p.level - 1 - level)) page = table_above (below (levels (state_of a)) p index) p.space page (q_low index inside) has ∙ ap (λ n. place_of p.space n page) (sym here) in
          true≢false (sym (ap (set.contains (state_of a).tables) is_q ∙ up) ∙ lone)

  pub no_copies : HasCopiesTo (state_of a) p new 0 rows'
  no_copies = record { each = λ i page level less has key one under there. absurd (omega (arith, less)) }

  pub all_copies : HasOwn (state_of a) p new rows' → HasCopiesTo (state_of a) p new 512 rows' → HasCopies (state_of a) p new rows'
  all_copies own each = record {
    each = λ page level has key one most there. dite (ℕ_discrete level p.level)
        (λ e. itself page level e has key)
        (λ ne. each.each (index_at p.level page) page level (small p.level page) (entry_has page has) key one (less level p.level most ne) there);
  }
    where
      less : (i n : ℕ) → i ≤ n → (i ≡ n → ⊥) → i < n
      less i n le ne = omega arith

      small : (k page : ℕ) → index_at k page < 512
      small k page = omega arith

      down : (page : ℕ) → has_page p p.space page ≡ true → below (levels (state_of a)) p (index_at p.level page) ≡ place_of p.space (p.level - 1) page
      down page has = next_below (levels (state_of a)) p p.space page deep.0 low has

      entry_has : (page : ℕ) → has_page p p.space page ≡ true → has_page (below (levels (state_of a)) p (index_at p.level page)) p.space page ≡ true
      entry_has page has = subst (λ r. has_page r p.space page ≡ true) (sym (down page has)) (tower_has p.space (p.level - 1) page (let l = low in omega (arith, l)))

      copy_is : (page level : ℕ) → level ≡ p.level → has_page p p.space page ≡ true → place_of new level page ≡ copy_at new p
      copy_is page level e has = ap (λ n. place_of new n page) e ∙ (λ i. record { space = new; level = p.level; prefix = (page_parts p p.space page low has).1 i })

      itself : (page level : ℕ) → level ≡ p.level → has_page p p.space page ≡ true → IsKey (state_of a) p.space page → ListHolds rows' (place_of new level page)
      itself page level e has key = subst (ListHolds rows') (sym (copy_is page level e has)) (go (set.contains (state_of a).tables (below (levels (state_of a)) p (index_at p.level page))) refl)
        where
          go : (t : Bool) → set.contains (state_of a).tables (below (levels (state_of a)) p (index_at p.level page)) ≡ t → ListHolds rows' (copy_at new p)
          go false lone = own.each (index_at p.level page) page (small p.level page) lone (entry_has page has) key
          go true there =
              let there' : set.contains (state_of a).tables (place_of p.space (p.level - 1) page) ≡ true = ap (set.contains (state_of a).tables) (sym (down page has)) ∙ there in
              let d = level_of (levels (state_of a)) (place_of p.space (p.level - 1) page) (before.places (place_of p.space (p.level - 1) page) there') in
              let l = each.each (index_at p.level page) page (p.level - 1) (small p.level page) (entry_has page has) key d.0 (let o = deep in omega (arith, o.0)) there' in
              let lower = in_tables a b thread c kit next v rows w rows' is.so_far (place_of new (p.level - 1) page) (let k = low in omega (arith, k)) l in
              let up = is.so_far.parents (place_of new (p.level - 1) page) lower (let o = deep in omega (arith, o.0, o.1)) in
              let same : parent (place_of new (p.level - 1) page) ≡ copy_at new p = up_one new (p.level - 1) page ∙ copy_is page (p.level - 1 + 1) (let o = deep in omega (arith, o.0)) has in
              copy_row (copy_at new p) refl (ap (set.contains is.so_far.tables) (sym same) ∙ up)

-- ---- from one call to the next

module _ {B E : Type 0} (a b : BookData) (thread : ℕ) (c : Call) (kit : Kit) (v : PassView (List Cell) B E) (rows : List Row) where
  pub going_on : (count room next : ℕ) (w : PassView (List Cell) B E) (rows' : List Row) (p : Place) (new : ℕ) → IsCopying count room a b thread c kit next v rows w rows' p new
      → (room' done : ℕ) (z : PassView (List Cell) B E) (rows'' : List Row) → room' ≡ room → LinkedSoFar a b thread c kit done v rows z rows'' → IsCopying count room' a b thread c kit done v rows z rows'' p new
  going_on count room next w rows' p new is room' done z rows'' same so = record {
    linking = subst (λ n. IsLinking count n a b thread c kit v rows) (sym same) is.linking;
    so_far = so;
    tables = is.tables;
    there = is.there;
  }

  pub so_same : (next next' : ℕ) (w w' : PassView (List Cell) B E) (list list' : List Row) → next' ≡ next → w' ≡ w → list' ≡ list → LinkedSoFar a b thread c kit next v rows w list → LinkedSoFar a b thread c kit next' v rows w' list'
  so_same next next' w w' list list' e f h so =
      subst (λ n. LinkedSoFar a b thread c kit n v rows w' list') (sym e)
      (subst (λ u. LinkedSoFar a b thread c kit next v rows u list') (sym f)
      (subst (λ l. LinkedSoFar a b thread c kit next v rows w l) (sym h) so))

pub own_kept : (st : State) (p : Place) (new : ℕ) (rows rows' : List Row) → ((r : Place) → ListHolds rows r → ListHolds rows' r) → HasOwn st p new rows → HasOwn st p new rows'
own_kept st p new rows rows' kept own = record { each = λ index page inside lone has key. kept (copy_at new p) (own.each index page inside lone has key) }
