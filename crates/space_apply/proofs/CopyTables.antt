-- The tables that a copy of a space wants, and the rows of its source.
--     copies_tables      what is there of them after an accepted copy
--     root_first      the new root may be linked
--     is_copying      then the tables below the root of the source may be copied
--     is_fork      what is known of the copy
--     all_copied      all tables are there, where those of the source that have keys have their copies
use Rattle.std.specs.Prelude.{◌≡◌, ◌≢◌, ℕ, zero, suc, ◌+◌, ◌-◌, ◌*◌, ◌^◌, ◌<◌, ◌≤◌, ◌⊎◌, ◌&&◌, not, Bool, true, false, cond, List, [], map, nat_eq, Option, Some, None, is_some, is_none}
use Rattle.std.specs.Option.{option_map_or}
use Rattle.std.specs.Ordering.{eq_by_cmp, is_eq}
use Rattle.std.specs.Cmp.{tied_itself}
use Rattle.std.specs.FinMap as fin
use Rattle.std.specs.FinSet as set
use Rattle.std.proofs.Common.{sym, refl, ◌∙◌, ap, subst, arith, inl, inr, eq-eqb, ne_eqb}
use Rattle.std.proofs.lemmas.Bool.{true≢false, false_from_ne_true, not-true, or_left, or_right, or_cases, and_from}
use Rattle.corten_base.specs.declared.calls.Call.{Call}
use Rattle.corten_base.specs.declared.calls.Call.TheVariants as call
use Rattle.corten_base.specs.declared.calls.Reply.{Reply}
use Rattle.corten_base.specs.declared.calls.Reply.TheVariants as reply
use Rattle.page_map.specs.declared.cell.Cell.{Cell as PageCell}
use Rattle.page_map.specs.Effect.{wanted_tables, is_given_up}
use Rattle.page_map.specs.Spaces.{copied_tables}
use Rattle.page_map.specs.State.{State, IsConsistent, levels, cell_at, space_at, is_present}
use Rattle.page_map.specs.Step.{no_space, refused_unless}
use Rattle.page_map.specs.Tables.{Tables, changed_tables}
use Rattle.page_map.proofs.Growth as growth
use Rattle.page_map.proofs.Least.{least_passes}
use Rattle.page_map.proofs.NeedOfCopies.{cell_used}
use Rattle.page_map.proofs.Places.{place_total}
use Rattle.page_map.proofs.Spaces.{copied_to, copy_from, copy_to, used, used_is, is_used_one}
use Rattle.page_map.proofs.Steps.{not_none}
use Rattle.page_map.proofs.Unlike.{one_passes, each_key}
use Rattle.page_map.proofs.Wanted.{is_wanted}
use Rattle.page_map.proofs.Wanted as wants
use Rattle.row_cells.specs.declared.Cell.{Cell}
use Rattle.row_table.specs.declared.view.PassView.{PassView}
use Rattle.table_place.specs.declared.Place.{Place}
use Rattle.table_place.specs.Place.{directory, root, parent, place_of, place_cmp, has_page, is_above, span_first}
use Rattle.table_place.proofs.Entries.{first_page, above_has, level_of}
use Rattle.table_place.proofs.Spans.{quotient_low, quotient_high, user_below}
use Rattle.table_place.proofs.Tables.{in_range}
use Rattle.tree_lock.specs.Zone.{Meets, ZoneHas}
use Rattle.machine_plan.specs.declared.kit.Kit.{Kit}
use Rattle.machine_plan.specs.Agrees.{below, IsTableOf}
use Rattle.machine_plan.specs.Books.{BookData, state_of}
use Rattle.machine_plan.specs.Held.{ListHolds}
use Rattle.machine_plan.specs.HeldRows.{Row}
use Rattle.machine_plan.specs.Uses.{uses_page, zone_of}
use Rattle.machine_plan.proofs.Towers.{table_above, tower_has, root_is}
use Rattle.machine_plan.proofs.Whole.{book_is_consistent}
use Rattle.cursor_detach.specs.Cutting.{above_place, above_index}
use Rattle.cursor_detach.proofs.Positions.{leads_there, index_inside}
use Rattle.cursor_apply.specs.Applying.{IsApplicable}
use Rattle.space_apply.specs.Copying.{CopiesSpace, CopiesTables, copy_at, IsKey, HasCopies, IsCopying}
use Rattle.cursor_apply.specs.Linking.{IsLinkable, IsLinking, IsNext, LinkedSoFar}
use Rattle.page_map.proofs.Named.{absent_cell}
use Rattle.cursor_apply.proofs.Begun.{few_frames}
use Rattle.space_apply.proofs.CopyLinks.{in_tables}
use Rattle.space_apply.proofs.ForkCells.{IsFork}
use Rattle.space_apply.proofs.ForkLists.{new_cell, old_cell, fork_lists}
use Rattle.cursor_apply.proofs.Made.{IsMade}
use Rattle.space_apply.proofs.SpacesLeft.{tables_now}
use Rattle.space_apply.proofs.SpacesLeft.{made as was_made}

key_cell : (o : Option PageCell) → is_some o ≡ true → (c : PageCell) × (o ≡ Some c)
key_cell (Some c) h = (c, refl)
key_cell None h = absurd (true≢false (sym h))

-- what is wanted of a copy
module _ (st : State) (space new : ℕ) where
  root_listed : is_wanted (copied_tables st space new) (root (levels st) new) ≡ true
  unfolding copied_tables
  root_listed = or_left (eq_by_cmp place_cmp (root (levels st) new) (root (levels st) new)) (is_wanted (map (copied_to new) (used st space)) (root (levels st) new)) (ap is_eq (tied_itself place_total (root (levels st) new)))

  copy_listed : (q : Place) → is_wanted (used st space) q ≡ true → is_wanted (copied_tables st space new) (copied_to new q) ≡ true
  unfolding copied_tables
  copy_listed q h = or_right (eq_by_cmp place_cmp (copied_to new q) (root (levels st) new)) (is_wanted (map (copied_to new) (used st space)) (copied_to new q)) (copy_to new (used st space) q h)

  -- each is the root, or the copy of a used one
  listed_is : (q : Place) → is_wanted (copied_tables st space new) q ≡ true → (q ≡ root (levels st) new) ⊎ ((p : Place) × (is_wanted (used st space) p ≡ true) × (q ≡ copied_to new p))
  unfolding copied_tables
  listed_is q h = elim (or_cases (eq_by_cmp place_cmp q (root (levels st) new)) (is_wanted (map (copied_to new) (used st space)) q) h) [
    | inl one ↦ inl (wants.root_is (levels st) new q (or_left (eq_by_cmp place_cmp q (root (levels st) new)) false one))
    | inr later ↦ inr (copy_from new (used st space) q later)
  ]

  listed_space : (q : Place) → is_wanted (copied_tables st space new) q ≡ true → q.space ≡ new
  listed_space q h = elim (listed_is q h) [
    | inl top ↦ ap (λ (p : Place). p.space) top
    | inr one ↦ ap (λ (p : Place). p.space) one.2
  ]

module _ {B E : Type 0} (a b : BookData) (thread : ℕ) (c : Call) (v : PassView (List Cell) B E) (rows : List Row) (kit : Kit) (ready : IsApplicable a b thread c v rows kit) (done : kit.done ≡ true) (further : IsLinkable a b thread c v rows kit)
    (space new : ℕ) (copies : CopiesSpace a c rows space new) where
  abbrev st : State
  st = state_of a

  abbrev L : ℕ
  L = levels (state_of a)

  before : IsConsistent (state_of a)
  before = book_is_consistent a ready.books.0

  few : levels (state_of a) < 6
  few = let most = before.few_levels in omega arith

  now : (state_of b).tables ≡ changed_tables (is_given_up (state_of a) c) (wanted_tables (state_of a) thread c) (state_of a).tables
  now = tables_now a b thread c v rows kit ready done

  wanted_is : wanted_tables (state_of a) thread c ≡ copied_tables (state_of a) space new
  wanted_is = ap (wanted_tables (state_of a) thread) copies.forks ∙ ap (λ (o : Option ℕ). option_map_or (copied_tables (state_of a) space) o []) copies.new_space

  keeps : (q : Place) → is_given_up (state_of a) c q ≡ false
  keeps q = ap (λ (x : Call). is_given_up (state_of a) x q) copies.forks

  absent : is_present (state_of a) new ≡ false
  absent = not-true (is_present (state_of a) new) (least_passes 0 64 (λ s. not (is_present (state_of a) s)) new copies.new_space).2

  made : IsMade a b thread c kit
  made = was_made a b thread c v rows kit ready done

  -- a call of a space that is not there is refused
  present : is_present (state_of a) space ≡ true
  present = go (is_present (state_of a) space) refl
    where
      refusal : (t : Bool) → is_present (state_of a) space ≡ t → no_space (state_of a) (call.Fork space) ≡ refused_unless t reply.NoSpace
      refusal t e = ap (λ u. refused_unless u reply.NoSpace) e

      go : (t : Bool) → is_present (state_of a) space ≡ t → is_present (state_of a) space ≡ true
      go true e = e
      go false e = absurd (not_none (sym (refusal false e) ∙ (ap (no_space (state_of a)) (sym copies.forks) ∙ made.ok.space)))

  fresh : (p : Place) → set.contains (state_of a).tables p ≡ true → p.space ≢ new
  fresh p there same = true≢false (sym (before.absent p there) ∙ (ap (is_present (state_of a)) same ∙ absent))

  stay : (p : Place) → set.contains (state_of a).tables p ≡ true → set.contains (state_of b).tables p ≡ true
  stay p there = ap (λ (t : Tables). set.contains t p) now ∙ growth.stays (is_given_up (state_of a) c) (wanted_tables (state_of a) thread c) (state_of a).tables p there (keeps p)

  came : (p : Place) → is_wanted (copied_tables (state_of a) space new) p ≡ true → set.contains (state_of b).tables p ≡ true
  came p listed = ap (λ (t : Tables). set.contains t p) now ∙ growth.comes (is_given_up (state_of a) c) (wanted_tables (state_of a) thread c) (state_of a).tables p (subst (λ (l : List Place). is_wanted l p ≡ true) (sym wanted_is) listed)

  whence : (p : Place) → set.contains (state_of b).tables p ≡ true → (set.contains (state_of a).tables p ≡ true) ⊎ (is_wanted (copied_tables (state_of a) space new) p ≡ true)
  whence p there = elim (growth.whence (is_given_up (state_of a) c) (wanted_tables (state_of a) thread c) (state_of a).tables p (sym (ap (λ (t : Tables). set.contains t p) now) ∙ there)) [
    | inl old ↦ inl old.0
    | inr w ↦ inr (subst (λ (l : List Place). is_wanted l p ≡ true) wanted_is w)
  ]

  others : (p : Place) → set.contains (state_of b).tables p ≡ true → p.space ≢ new → set.contains (state_of a).tables p ≡ true
  others p there apart = elim (whence p there) [
    | inl old ↦ old
    | inr w ↦ absurd (apart (listed_space (state_of a) space new p w))
  ]

  wanted : (page level : ℕ) → IsKey (state_of a) space page → set.contains (state_of a).tables (place_of space level page) ≡ true → set.contains (state_of b).tables (place_of new level page) ≡ true
  wanted page level key there =
      let x = key_cell (cell_at (state_of a) space page) key in
      came (place_of new level page) (copy_listed (state_of a) space new (place_of space level page) (is_used_one (state_of a) space (place_of space level page) there
      (cell_used (state_of a) space before (place_of space level page) page x.0 there refl x.1 (quotient_low page level) (quotient_high page level))))

  -- ---- the rows of the source

  in_zone : (p : Place) → set.contains (state_of a).tables p ≡ true → p.space ≡ space → Meets (zone_of thread c) p
  in_zone p there here = record {
    space = space;
    page = span_first p;
    of_zone = subst (λ (x : Call). ZoneHas (zone_of thread x) space (span_first p)) (sym copies.forks) refl;
    of_span = subst (λ s. has_page p s (span_first p) ≡ true) here (first_page p (let d = (level_of (levels (state_of a)) p (before.places p there)).1 in let f = few in omega (arith, d, f)));
  }

  step_down : (p : Place) → set.contains (state_of a).tables p ≡ true → p.space ≡ space → ListHolds rows (above_place (levels (state_of a)) p) → ListHolds rows p
  step_down p there here up =
      let placed = before.places p there in
      let is : below (levels (state_of a)) up.0.place (above_index (levels (state_of a)) p) ≡ p = ap (λ q. below (levels (state_of a)) q (above_index (levels (state_of a)) p)) up.2 ∙ leads_there (levels (state_of a)) p few placed in
      let l = further.links up.0 (above_index (levels (state_of a)) p) up.1 (index_inside (levels (state_of a)) p placed) (subst (Meets (zone_of thread c)) (sym is) (in_zone p there here))
      (ap (set.contains (state_of a).tables) is ∙ there) (ap (set.contains (state_of b).tables) is ∙ stay p there) in
      (l.0, l.1, l.2 ∙ is)

  held_from : (n : ℕ) (p : Place) → p.level + n ≡ levels (state_of a) → set.contains (state_of a).tables p ≡ true → p.space ≡ space → ListHolds rows p
  held_from zero p e there here =
      step_down p there here (let t = copies.top in (t.0, t.1, t.2 ∙ sym (ap (λ x. cond x directory (parent p)) (eq-eqb p.level (levels (state_of a)) (omega (arith, e))))))
  held_from (suc n) p e there here =
      let l = held_from n (parent p) (more p.level n (levels (state_of a)) e) (before.parents p there (less p.level n (levels (state_of a)) e)) here in
      step_down p there here (l.0, l.1, l.2 ∙ sym (ap (λ x. cond x directory (parent p)) (ne_eqb p.level (levels (state_of a)) (λ same. absurd (omega (arith, same, e))))))
    where
      more : (k n m : ℕ) → k + suc n ≡ m → k + 1 + n ≡ m
      more k n m e = omega arith

      less : (k n m : ℕ) → k + suc n ≡ m → k < m
      less k n m e = omega arith

  held : (p : Place) → set.contains (state_of a).tables p ≡ true → p.space ≡ space → ListHolds rows p
  held p there here =
      let d = (level_of (levels (state_of a)) p (before.places p there)).1 in
      held_from (levels (state_of a) - p.level) p (omega (arith, d)) there here

  pub copies_tables : CopiesTables a b rows space new
  copies_tables = record { fresh = fresh; stay = stay; others = others; wanted = wanted; held = held; top = copies.top }

  -- ---- the new root

  module _ (so : LinkedSoFar a b thread c kit 0 v rows v rows) where
    root_absent : set.contains so.tables (root (levels (state_of a)) new) ≡ false
    root_absent = false_from_ne_true (set.contains so.tables (root (levels (state_of a)) new)) (λ there. none (set.contains (state_of a).tables (root (levels (state_of a)) new)) refl there)
      where
        none : (t : Bool) → set.contains (state_of a).tables (root (levels (state_of a)) new) ≡ t → set.contains so.tables (root (levels (state_of a)) new) ≡ true → ⊥
        none true e there = fresh (root (levels (state_of a)) new) e refl
        none false e there =
            let l = so.made (root (levels (state_of a)) new) e there in
            let is = ready.rows_left l.0 l.1 in
            by l.0.place l.2 (subst (IsTableOf (state_of a)) is.same_place is.agreed.shown.table)
          where
            by : (p : Place) → p ≡ root (levels (state_of a)) new → IsTableOf (state_of a) p → ⊥
            by p same (inl top) = let f = few in let six : 6 ≡ levels (state_of a) = ap (λ (q : Place). q.level) (sym top ∙ same) in absurd (omega (arith, f, six))
            by p same (inr has) = fresh p has (ap (λ (q : Place). q.space) same)

    pub root_first : IsNext a b thread c kit 0 v rows v rows (root (levels (state_of a)) new)
    root_first = record {
      so_far = so;
      wanted = came (root (levels (state_of a)) new) (root_listed (state_of a) space new);
      absent = root_absent;
      up = (copies.top.0, copies.top.1, copies.top.2 ∙ sym (ap (λ t. cond t directory (parent (root (levels (state_of a)) new))) (eq-eqb (levels (state_of a)) (levels (state_of a)) refl)));
    }

  -- the tables below the root of the source may be copied
  pub is_copying : (count room room' : ℕ) → IsLinking count room a b thread c kit v rows → room' ≡ room → (done : ℕ) (w : PassView (List Cell) B E) (rows' : List Row) → LinkedSoFar a b thread c kit done v rows w rows'
      → IsCopying count room' a b thread c kit done v rows w rows' (root count space) new
  is_copying count room room' is same done w rows' so = record {
    linking = subst (λ n. IsLinking count n a b thread c kit v rows) (sym same) is;
    so_far = so;
    tables = copies_tables;
    there = subst (λ n. set.contains (state_of a).tables (root n space) ≡ true) (sym is.count_is) (before.roots space present);
  }

  -- ---- all tables

  -- a used table is above a key
  pub record IsUsedBy (p : Place) : Type 0 where
    pub there : set.contains (state_of a).tables p ≡ true
    pub page : ℕ
    pub key : IsKey (state_of a) space page
    pub is : p ≡ place_of space p.level page
    pub deep : 1 ≤ p.level
    pub high : p.level ≤ levels (state_of a)
    pub small : page < 512 ^ levels (state_of a)

  used_by : (p : Place) → is_wanted (used (state_of a) space) p ≡ true → IsUsedBy p
  used_by p h =
      let was = used_is (state_of a) space p h in
      let one = one_passes (λ q. (x : PageCell) × (fin.get (space_at (state_of a) space) q ≡ Some x)) (λ page. is_above (levels (state_of a)) space page 1 p) (fin.keys (space_at (state_of a) space))
      (each_key (λ q. (x : PageCell) × (fin.get (space_at (state_of a) space) q ≡ Some x)) (space_at (state_of a) space) (λ q x e. (x, e))) was.1 in
      let depth = level_of (levels (state_of a)) p (before.places p was.0) in
      let f = few in
      let page = above_has (levels (state_of a)) space one.0 1 p (omega arith) f one.2 in
      let same : page.0 ≡ one.0 = only one.0 page.0 (in_range one.0 1 page.0 page.1) in
      let user = user_below (levels (state_of a)) one.0 1 (before.pages space one.0 one.1.0 one.1.1) in
      record {
        there = was.0;
        page = one.0;
        key = ap (λ (o : Option PageCell). is_some o) one.1.1;
        is = table_above p space one.0 (omega (arith, depth.1, f)) (subst (λ n. has_page p space n ≡ true) same page.2);
        deep = depth.0;
        high = depth.1;
        small = below_it one.0 (512 ^ levels (state_of a)) user;
      }
    where
      only : (x y : ℕ) → (x ≤ y) × (y < x + 1) → y ≡ x
      only x y h = omega (arith, h.0, h.1)

      below_it : (x n : ℕ) → x + 1 < n → x < n
      below_it x n h = omega (arith, h)

  -- a table of the copy is the copy of one of the source
  source_of : (q : Place) → set.contains (state_of b).tables q ≡ true → q.space ≡ new → set.contains (state_of a).tables (copy_at space q) ≡ true
  source_of q there here = elim (whence q there) [
    | inl old ↦ absurd (fresh q old here)
    | inr listed ↦ (elim (listed_is (state_of a) space new q listed) [
      | inl top ↦ subst (λ (r : Place). set.contains (state_of a).tables (copy_at space r) ≡ true) (sym top) (before.roots space present)
      | inr one ↦ (let u = used_by one.0 one.1 in
          subst (λ (r : Place). set.contains (state_of a).tables (copy_at space r) ≡ true) (sym one.2)
          (subst (λ s. set.contains (state_of a).tables (record { space = s; level = one.0.level; prefix = one.0.prefix }) ≡ true) (ap (λ (r : Place). r.space) u.is) u.there))
    ])
  ]

  is_early : is_none kit.early ≡ true
  is_early = ap (λ (o : Option Reply). is_none o) made.early

  pub is_fork : IsFork a b thread c kit rows space new
  is_fork = record {
    before = before;
    after = ready.consistent;
    same_levels = made.same_levels;
    few = few_frames a ready.books.0;
    tables = copies_tables;
    back = source_of;
    top = came (root (levels (state_of a)) new) (root_listed (state_of a) space new);
    new_cell = new_cell a b thread c v rows kit ready done space new copies;
    old_cell = old_cell a b thread c v rows kit ready done space new copies;
    gone_cell = λ p. absent_cell (state_of a) new p absent;
    lists = fork_lists a b thread c v rows kit ready done space new copies;
    two = λ e. true≢false (sym present ∙ (ap (is_present (state_of a)) e ∙ absent));
    taken = λ x index level here. and_from (is_none kit.early) (nat_eq x.level 1 && uses_page (state_of a) thread c x.space (512 * x.prefix + index)) is_early
        (and_from (nat_eq x.level 1) (uses_page (state_of a) thread c x.space (512 * x.prefix + index)) (eq-eqb x.level 1 level)
        (ap (λ (y : Call). uses_page (state_of a) thread y x.space (512 * x.prefix + index)) copies.forks ∙ eq-eqb x.space space here));
  }

  pub all_copied : (next : ℕ) (w : PassView (List Cell) B E) (rows' : List Row) (so : LinkedSoFar a b thread c kit next v rows w rows') → ListHolds rows' (root (levels (state_of a)) new) → HasCopies (state_of a) (root (levels (state_of a)) space) new rows'
      → (p : Place) → set.contains (state_of b).tables p ≡ true → set.contains so.tables p ≡ true
  all_copied next w rows' so top all p there = elim (whence p there) [
    | inl old ↦ so.left p old there
    | inr listed ↦ (elim (listed_is (state_of a) space new p listed) [
      | inl is ↦ ap (set.contains so.tables) is ∙ in_tables a b thread c kit next v rows w rows' so (root (levels (state_of a)) new) few top
      | inr one ↦ copied one.0 (used_by one.0 one.1) one.2
    ])
  ]
    where
      copied : (q : Place) → IsUsedBy q → p ≡ copied_to new q → set.contains so.tables p ≡ true
      copied q u is =
          let top_is = root_is (levels (state_of a)) space u.page u.small in
          let f = few in
          let has : has_page (root (levels (state_of a)) space) space u.page ≡ true =
          subst (λ (r : Place). has_page r space u.page ≡ true) top_is (tower_has space (levels (state_of a)) u.page f) in
          let l = all.each u.page q.level has u.key u.deep u.high (ap (set.contains (state_of a).tables) (sym u.is) ∙ u.there) in
          let same : p ≡ place_of new q.level u.page = is ∙ (λ i. record { space = new; level = q.level; prefix = ap (λ (r : Place). r.prefix) u.is i }) in
          let high = u.high in
          ap (set.contains so.tables) same ∙ in_tables a b thread c kit next v rows w rows' so (place_of new q.level u.page) (omega (arith, high, f)) l
