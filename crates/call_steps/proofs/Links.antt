-- What an apply asks further of a call that was granted rows.
--     may_link      detach and give leave it
use Rattle.std.specs.Prelude.{◌≡◌, ℕ, ◌<◌, ◌≤◌, Bool, true, false, List, [], map, length, slice_index, None, IsNone}
use Rattle.std.specs.List.{Contains}
use Rattle.std.specs.FinSet as set
use Rattle.std.proofs.Common.{sym, refl, ◌∙◌, ap, subst, arith, inl, inr}
use Rattle.std.proofs.lemmas.Bool.{true≢false, false≢true}
use Rattle.corten_base.specs.declared.calls.Call.{Call}
use Rattle.page_map.specs.State.{State, levels}
use Rattle.page_map.specs.Step.{arguments, refusal}
use Rattle.page_map.specs.Effect.{wanted_tables}
use Rattle.page_map.specs.Tables.{need}
use Rattle.row_cells.specs.declared.Cell.{Cell}
use Rattle.row_cells.specs.declared.Cell.TheVariants.{Invalid, Table, Anon, File, Mapped, Swapped}
use Rattle.row_table.specs.declared.view.HeldRow.{HeldRow as KnownRow}
use Rattle.row_table.specs.Books.{taken_rows, gave}
use Rattle.row_table.specs.Rule.{SameRows}
use Rattle.table_place.specs.declared.Place.{Place}
use Rattle.table_place.specs.Place.{entry_place, has_page}
use Rattle.tree_lock.specs.declared.zone.Zone.{Zone}
use Rattle.tree_lock.specs.declared.zone.Zone.TheVariants.{Pages, Space, Directory}
use Rattle.tree_lock.specs.Covers.{CoversZone, IsTop}
use Rattle.tree_lock.specs.Held.{row_numbers}
use Rattle.tree_lock.specs.Linked.{ShowsCover}
use Rattle.tree_lock.specs.Zone.{Meets, ZoneHas}
use Rattle.walk_core.specs.Lists.{IsDistinct}
use Rattle.walk_core.specs.Words.{is_link}
use Rattle.machine_plan.specs.declared.kit.Kit.{Kit}
use Rattle.machine_plan.specs.Agrees.{below, IsTableOf, Shows, Spells}
use Rattle.machine_plan.specs.Books.{BookData, state_of}
use Rattle.machine_plan.specs.Follows.{machine}
use Rattle.machine_plan.specs.Given.{IsRemoved, Removes}
use Rattle.machine_plan.specs.Held.{ListHolds}
use Rattle.machine_plan.specs.HeldRows.{Row}
use Rattle.machine_plan.specs.Uses.{zone_of}
use Rattle.machine_plan.proofs.Covering.{cell_there}
use Rattle.machine_plan.proofs.Levels.{has_levels}
use Rattle.cursor_detach.specs.Detaching.{IsDetachable, Detached}
use Rattle.cursor_detach.proofs.Changed.{not_refused, steps_removed}
use Rattle.cursor_detach.proofs.Started.{listed, one_known}
use Rattle.cursor_apply.specs.Linking.{IsLinkable}
use Rattle.call_steps.specs.Ready.{View, KeepsRows}
use Rattle.call_steps.proofs.Joined.{hand_same, granted_same, each_granted, vacant_given}

table_is_link : (st : State) (q : Place) (c : Cell) (word : ℕ) → set.contains st.tables q ≡ true → Shows st q c → Spells st c word → is_link word ≡ true
table_is_link st q Table word there f s = s
table_is_link st q Invalid word there f s = absurd (false≢true (sym f.0 ∙ there))
table_is_link st q (Anon perm) word there f s = absurd (false≢true (sym f.0 ∙ there))
table_is_link st q (File perm file index) word there f s = absurd (false≢true (sym f.0 ∙ there))
table_is_link st q (Mapped perm origin frame) word there f s = absurd (false≢true (sym f.0 ∙ there))
table_is_link st q (Swapped perm origin slot) word there f s = absurd (false≢true (sym f.0 ∙ there))

still_table : (st now : State) (p : Place) → (IsRemoved st now p → ⊥) → IsTableOf st p → IsTableOf now p
still_table st now p not_gone (inl top) = inl top
still_table st now p not_gone (inr there) = go (set.contains now.tables p) refl
  where
    go : (t : Bool) → set.contains now.tables p ≡ t → IsTableOf now p
    go true e = inr e
    go false e = absurd (not_gone (there, e))

-- the top of a cover stays, and has each page of the zone
module _ (levels : ℕ) (h : KnownRow (List Cell)) where
  top_stays : (z : Zone) (st now : State) → IsTop levels z h → Removes z st now → IsTableOf st h.place → IsTableOf now h.place
  top_stays (Pages s f c t) st now top removes table = still_table st now h.place (λ gone. removes.no_top h.place gone top.0) table
  top_stays (Space s) st now top removes table = inl top.1
  top_stays Directory st now top removes table = inl top.1

  top_has : (z : Zone) → IsTop levels z h → (s page : ℕ) → ZoneHas z s page → has_page h.place s page ≡ true
  top_has (Pages s f c t) top space page has = top.0.all space page has
  top_has (Space s) top space page has = ap (λ (p : Place). has_page p space page) top.1
  top_has Directory top space page has = absurd has

module _ (m b : BookData) (thread : ℕ) (c : Call) (v d e w : View) (rows rows' : List Row) (kit kit' : Kit) (old g : BookData) (generation : ℕ → ℕ) (ready : IsDetachable m b thread c v rows kit) (detached : Detached m b thread c v d rows rows' kit kit')
    (none : refusal (state_of m) thread c (length m.limbo) ≡ None) (shows : ShowsCover v.layout (zone_of thread c) v) (once : IsDistinct (row_numbers rows)) (once' : IsDistinct (row_numbers rows')) where
  right : IsNone (arguments (state_of m) c)
  right = not_refused m b thread c kit ready.consistent ready.committed none

  removes : Removes (zone_of thread c) (state_of m) (state_of b)
  removes = steps_removed m b thread c kit ready.consistent ready.committed none

  at_row : (k : KnownRow (List Cell)) → Contains d.rows k → ListHolds rows' k.place
  at_row k has =
      let l = listed rows' d detached.exact k has in
      let x = detached.rows_left l.0 l.1 in
      let same = one_known rows' d detached.exact once' x.known k x.held has (x.same_row ∙ l.2) in
      (l.0, l.1, sym x.same_place ∙ ap (λ (y : KnownRow (List Cell)). y.place) same)

  stays : (h : KnownRow (List Cell)) → Contains v.rows h → IsTableOf (state_of b) h.place → ListHolds rows' h.place
  stays h has table =
      let k = detached.leaves.left h has table in
      let at = at_row k.0 k.1 in
      (at.0, at.1, at.2 ∙ k.4)

  table_of : (h : KnownRow (List Cell)) → Contains v.rows h → IsTableOf (state_of m) h.place
  table_of h has =
      let l = listed rows v ready.exact h has in
      let x = ready.rows_left l.0 l.1 in
      let same = one_known rows v ready.exact once x.known h x.held has (x.same_row ∙ l.2) in
      subst (λ (y : KnownRow (List Cell)). IsTableOf (state_of m) y.place) same x.agreed.shown.table

  zone_left : (s page : ℕ) → ZoneHas (zone_of thread c) s page → (x : Row) × Contains rows' x × (has_page x.place s page ≡ true)
  zone_left s page has =
      let covers : CoversZone v.layout.levels v.layout.rows (zone_of thread c) v.rows = shows.covers in
      let at = stays covers.top covers.held (top_stays v.layout.levels covers.top (zone_of thread c) (state_of m) (state_of b) covers.is_top removes (table_of covers.top covers.held)) in
      (at.0, at.1, ap (λ (p : Place). has_page p s page) at.2 ∙ top_has v.layout.levels covers.top (zone_of thread c) covers.is_top s page has)

  links_left : (x : Row) (index : ℕ) → Contains rows' x → index < 512 → Meets (zone_of thread c) (below (levels (state_of m)) x.place index) → set.contains (state_of m).tables (below (levels (state_of m)) x.place index) ≡ true
      → set.contains (state_of b).tables (below (levels (state_of m)) x.place index) ≡ true → ListHolds rows' (below (levels (state_of m)) x.place index)
  links_left x index has inside meets before later =
      let o = detached.from x has in
      let l = ready.rows_left o.0 o.1 in
      let place : l.known.place ≡ x.place = l.same_place ∙ o.3 in
      let lv : v.layout.levels ≡ levels (state_of m) = ready.same_levels ∙ sym (has_levels m) in
      let at : entry_place v.layout.levels l.known.place index ≡ below (levels (state_of m)) x.place index = (λ i. entry_place (lv i) (place i) index) in
      let q : below (levels (state_of m)) l.known.place index ≡ below (levels (state_of m)) x.place index = (λ i. below (levels (state_of m)) (place i) index) in
      let cell = cell_there l.old_cells index (let long = l.agreed.shown.whole in omega (arith, inside, long)) in
      let link_old : is_link (slice_index l.old_words index) ≡ true = table_is_link (state_of m) (below (levels (state_of m)) l.known.place index) cell.0 (slice_index l.old_words index)
      (ap (set.contains (state_of m).tables) q ∙ before) (l.agreed.shown.each index cell.0 inside cell.1) (l.agreed.spelled index cell.0 inside cell.1) in
      let link : is_link (slice_index l.known.words index) ≡ true = ap is_link (l.word index inside (λ removed. true≢false (sym removed.0 ∙ removed.1))) ∙ link_old in
      let child = ready.links right l.known l.held index inside link (subst (Meets (zone_of thread c)) (sym at) meets) in
      let there : child.known.place ≡ below (levels (state_of m)) x.place index = child.same_place ∙ at in
      let left = stays child.known child.held (inr (ap (set.contains (state_of b).tables) there ∙ later)) in
      (left.0, left.1, left.2 ∙ there)

  module _ (keeps : KeepsRows d e) (after : w ≡ gave machine e old g generation) where
    -- no row of the hand before, and none is unlinked any more
    pub may_link : (table_rows : ℕ) → d.hand ≡ [] → d.core.granted ≡ [] → w.core.unlinked ≡ [] → table_rows ≤ 1024 → SameRows (taken_rows machine old g) (map (λ (x : ℕ × ℕ). x.0) kit'.rows.items)
        → ((r : ℕ) → Rattle.walk_core.specs.Lists.Has (taken_rows machine old g) r → generation r < old.next_generation) → ((r : ℕ) → Rattle.walk_core.specs.Lists.Has (taken_rows machine old g) r → r < table_rows)
        → old.next_generation ≡ m.next_generation → g.next_generation ≡ b.next_generation → length kit'.rows.items ≡ need (wanted_tables (state_of m) thread c) (state_of m).tables → IsLinkable m b thread c w rows' kit'
    may_link table_rows no_hand no_granted unlinked few same low there first last all = record {
      hand = hand_same d e w old g generation keeps after (map (λ (x : ℕ × ℕ). x.0) kit'.rows.items) no_hand same;
      granted = granted_same d e w old g generation keeps after (map (λ (x : ℕ × ℕ). x.0) kit'.rows.items) no_granted same;
      unlinked = unlinked;
      each = each_granted d e w old g generation keeps after table_rows m.next_generation b.next_generation no_hand few low there first last;
      vacant = vacant_given d e w old g generation keeps after;
      tables = λ x has. let l = detached.rows_left x has in subst (IsTableOf (state_of b)) l.same_place (detached.leaves.only l.known l.held);
      zone = zone_left;
      links = links_left;
      all = all;
    }
