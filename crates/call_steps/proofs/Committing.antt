-- What stands behind a commit: the pass with a plan, and what the book may become.
--     only_on      of what the pass knows nothing but its samples is new since the turn
--     shows_kept      a pass with the same rows shows the same cover
--     none_gone      where a call removes no position, no row is gone
--     MayBecome      of the free rows so many are taken, the rows still add up, and the book may follow the one that was found
use Rattle.std.specs.Prelude.{◌≡◌, ℕ, ◌+◌, ◌<◌, ◌≤◌, ◌&&◌, Bool, true, false, List, [], ◌∷◌, ◌++◌, map, take, drop, length, Option, Some, None, IsNone, is_some}
use Rattle.std.specs.FinSet as set
use Rattle.std.specs.FinSet.{same_set, len-empty, contains-empty, contains-retain}
use Rattle.std.specs.List.{Contains}
use Rattle.std.proofs.Common.{sym, refl, ◌∙◌, ap, subst, arith, append-nil, inl}
use Rattle.std.proofs.lemmas.Bool.{true≢false}
use Rattle.corten_base.specs.declared.calls.Call.{Call}
use Rattle.corten_base.specs.declared.calls.Reply.{Reply}
use Rattle.corten_base.specs.declared.numbers.Limits.{Limits}
use Rattle.page_map.specs.Effect.{space_of, is_given_up, wanted_tables, state_after}
use Rattle.page_map.specs.State.{State}
use Rattle.page_map.specs.Step.{arguments, refusal, step}
use Rattle.page_map.proofs.Growth.{stays}
use Rattle.page_map.proofs.Evaluate.{alike}
use Rattle.page_map.proofs.Places.{place_total, place_exact}
use Rattle.page_map.proofs.Steps.{accepted, refused, passed}
use Rattle.row_cells.specs.declared.Cell.{Cell}
use Rattle.row_layout.specs.declared.places.Layout.{Layout}
use Rattle.row_table.specs.declared.view.HandRow.{HandRow}
use Rattle.row_table.specs.declared.view.HeldRow.{HeldRow as KnownRow}
use Rattle.row_table.specs.Books.{region, turned}
use Rattle.row_table.specs.Moves.{NotInHand}
use Rattle.row_table.specs.Rule.{row_part, hand_part}
use Rattle.table_place.specs.declared.Place.{Place}
use Rattle.table_place.specs.Place.{place_cmp}
use Rattle.tree_lock.specs.Held.{row_numbers}
use Rattle.tree_lock.specs.Linked.{ShowsCover}
use Rattle.tree_lock.specs.Release.{HoldsExactly}
use Rattle.tree_lock.specs.declared.zone.Zone.{Zone}
use Rattle.walk_core.specs.declared.pass.GrantedRow.{GrantedRow}
use Rattle.walk_core.specs.declared.pass.UnlinkedRow.{UnlinkedRow}
use Rattle.walk_core.specs.Core.{granted_rows, unlinked_rows}
use Rattle.walk_core.specs.Lists.{times, Has, IsDistinct}
use Rattle.machine_plan.specs.declared.kit.Kit.{Kit}
use Rattle.machine_plan.specs.Books.{BookData, state_of, RowSum, free_list}
use Rattle.machine_plan.specs.Cover.{HasCover, HasLevelsOf}
use Rattle.machine_plan.specs.Follows.{machine, Follows}
use Rattle.machine_plan.specs.Given.{IsRemoved, Leaves}
use Rattle.machine_plan.specs.Held.{HeldWith, ListHolds}
use Rattle.machine_plan.specs.HeldRows.{Row, AreOf}
use Rattle.machine_plan.specs.Kits.{IsFilled, Commits}
use Rattle.machine_plan.specs.Uses.{zone_of}
use Rattle.machine_plan.specs.Whole.{IsBook}
use Rattle.machine_plan.proofs.Levels.{has_levels}
use Rattle.book.proofs.AccessSettles.{state_files}
use Rattle.cursor_detach.specs.Left.{IsCommitted}
use Rattle.cursor_detach.specs.Detaching.{IsDetachable}
use Rattle.call_steps.specs.Ready.{View, IsCovered, KeepsRows}
use Rattle.call_steps.specs.Swept.{IsOnce, IsSweptTo}
use Rattle.call_steps.specs.Planned.{HasPlanned}
use Rattle.call_steps.specs.Given.{RemovesNone, MayEnter}
use Rattle.call_steps.proofs.Planned.{cover_then}
use Rattle.call_steps.proofs.Swept.{keeps_turned, keeps_on, state_swept, held_swept}
use Rattle.call_steps.proofs.Prepared.{keeps_only, once_found}
use Rattle.call_steps.proofs.Counting.{sum_accepted, sum_refused, kit_rows}
use Rattle.call_steps.proofs.Follow.{follows_accepted, follows_refused}
use Rattle.call_steps.proofs.Law.{gives_detach}

no_more : (a : Bool) → (a && false) ≡ false
no_more true = refl
no_more false = refl

-- a list of which a map has nothing
none_mapped : {X Y : Type 0} (f : X → Y) (xs : List X) → map f xs ≡ [] → xs ≡ []
none_mapped f [] none = refl
none_mapped f (x ∷ xs) none = cc none

pub shows_kept : (v w : View) (zone : Zone) → KeepsRows v w → ShowsCover v.layout zone v → ShowsCover w.layout zone w
shows_kept v w zone keeps shows = record {
  is_zone = subst (λ (k : Layout). Rattle.tree_lock.specs.Zone.IsZone k.levels zone) (sym keeps.layout) shows.is_zone;
  covers = subst (λ (k : Layout). Rattle.tree_lock.specs.Covers.CoversZone k.levels k.rows zone w.rows) (sym keeps.layout) (subst (λ (l : List (KnownRow (List Cell))). Rattle.tree_lock.specs.Covers.CoversZone v.layout.levels v.layout.rows zone l) (sym keeps.rows) shows.covers);
  in_tree = λ h has. (λ i. times h.row (map (λ (g : GrantedRow). g.row) (keeps.granted i)) + times h.row (keeps.unlinked i)) ∙ shows.in_tree h (subst (λ (l : List (KnownRow (List Cell))). Contains l h) keeps.rows has);
}

-- ---- no position is removed

module _ (m b : BookData) (thread : ℕ) (c : Call) (kit kit' : Kit) (r : Reply) (commits : Commits m thread c kit r b kit') (removes : RemovesNone c) where
  pub none_gone : (p : Place) → ¬ IsRemoved (state_of m) (state_of b) p
  unfolding state_after
  none_gone p gone = go (refusal (state_of m) thread c (length m.limbo)) refl
    where
      next : state_of b ≡ (step (state_of m) thread c (length m.limbo)).1
      next = ap (λ (x : Reply × State). x.1) commits.is_step

      lost : (st : State) → state_of b ≡ st → set.contains st.tables p ≡ true → ⊥
      lost st same there = true≢false (sym there ∙ (ap (λ (s : State). set.contains s.tables p) (sym same) ∙ gone.1))

      go : (o : Option Reply) → refusal (state_of m) thread c (length m.limbo) ≡ o → ⊥
      go None e = lost (state_after (state_of m) thread c) (next ∙ ap (λ (x : Reply × State). x.1) (accepted (state_of m) thread c (length m.limbo) e))
          (stays (is_given_up (state_of m) c) (wanted_tables (state_of m) thread c) (state_of m).tables p gone.0 (removes (state_of m) p))
      go (Some why) e = lost (state_of m) (next ∙ ap (λ (x : Reply × State). x.1) (refused (state_of m) thread c (length m.limbo) why e)) gone.0

-- ---- the pass with a plan

module _ (k : Layout) (thread : ℕ) (c : Call) (v w : View) (m : BookData) (rows : List Row) (kit : Kit) (may : MayEnter k thread c v w m rows kit) where
  abbrev old : BookData
  old = may.old

  abbrev p : HasPlanned k thread c (turned machine v may.old) may.old may.rows may.kit w m rows kit
  p = may.planned

  pub keeps : KeepsRows v w
  keeps = keeps_on v (turned machine v may.old) w (keeps_turned v (turned machine v may.old) may.old refl) (keeps_only (turned machine v may.old) w may.planned.samples)

  pub number_is : w.number ≡ thread
  number_is = ap (λ (u : View). u.number) may.planned.samples.view ∙ may.number

  pub has_book : w.core.has_book ≡ true
  has_book = ap (λ (u : View). u.core.has_book) may.planned.samples.view

  pub found_is : w.found ≡ Some may.old
  found_is = ap (λ (u : View). u.found) may.planned.samples.view

  pub sum_m : RowSum m
  sum_m = may.planned.sum.0 may.sum

  layout_w : w.layout ≡ k
  layout_w = keeps.layout ∙ may.layout

  same_levels_old : v.layout.levels ≡ k.levels
  same_levels_old = ap (λ (x : Layout). x.levels) may.layout

  levels_old : HasLevelsOf may.old w
  levels_old = ap (λ (x : Layout). x.levels) layout_w ∙ sym may.levels

  pub levels_m : HasLevelsOf m w
  levels_m = levels_old ∙ ap (λ (x : BookData). x.limits.levels) (sym may.planned.swept.same)

  pub state_m : state_of m ≡ state_of may.old
  state_m = state_swept may.old m may.planned.swept.same

  back : may.old ≡ record m { free = may.old.free; limbo = may.old.limbo }
  back = sym (λ i. record (may.planned.swept.same i) { free = may.old.free; limbo = may.old.limbo })

  pub held_old : HeldWith may.old w may.rows
  held_old = held_swept m may.old back w may.rows may.planned.held

  pub once_held : IsDistinct v.core.held
  once_held = may.learns.right.once

  pub once_rows : IsDistinct (row_numbers may.rows)
  once_rows r = let e = may.planned.held.exact.held r in let o = once_held r in let same = ap (times r) keeps.held in omega (arith, e, o, same)

  pub few_rows : (kit2 : Kit) → kit2.early ≡ kit.early → length may.rows ≤ 1024
  few_rows kit2 early = may.covered.few_rows

  pub shows : IsNone (arguments (state_of m) c) → ShowsCover w.layout (zone_of thread c) w
  shows none = shows_kept v w (zone_of thread c) keeps (may.covered.covers (state_of m)
      (has_levels m ∙ (ap (λ (x : BookData). x.limits.levels) may.planned.swept.same ∙ (may.levels ∙ sym same_levels_old)))
      (ap length (state_files m ∙ ap (λ (x : BookData). x.files) may.planned.swept.same)) none)

  cover_m : IsNone (arguments (state_of m) c) → HasCover (zone_of thread c) (state_of m) (ListHolds may.rows)
  cover_m none = subst (λ (s : State). HasCover (zone_of thread c) s (ListHolds may.rows)) (sym state_m)
      (cover_then (length may.old.files) k.rows k.levels may.old thread c v may.rows may.planned.books.0 may.levels same_levels_old refl may.covered may.learns (subst (λ (s : State). IsNone (arguments s c)) state_m none))

  pub hand_none : w.hand ≡ []
  hand_none = keeps.hand ∙ none_mapped hand_part v.hand (may.learns.right.hand ∙ ap (map (λ (g : GrantedRow). g.row)) may.nothing.0)

  pub granted_none : w.core.granted ≡ []
  granted_none = keeps.granted ∙ may.nothing.0

  pub unlinked_none : w.core.unlinked ≡ []
  unlinked_none = none_mapped (λ (u : UnlinkedRow). u.row) w.core.unlinked (keeps.unlinked ∙ ap (map (λ (u : UnlinkedRow). u.row)) may.nothing.1)

  pub once_old : IsOnce may.old
  once_old = once_found k.rows v may.old may.learns

  -- ---- after the commit

  pub may_detach_it : (b : BookData) (kit2 : Kit) (r : Reply) → Commits m thread c kit r b kit2 → IsDetachable m b thread c w rows kit2
  may_detach_it b kit2 r commits = gives_detach m b thread c w may.rows rows may.kit kit kit2 may.few may.planned.books.1 levels_m may.planned.held may.planned.plans commits.same.1 may.covered.one_space may.covered.few_rows
      (λ none. (shows none, cover_m none)) (record { filled = kit; was_filled = may.planned.plans.filled; reply = r; commits = commits })

  -- so many of the free rows are taken
  pub record MayBecome (b : BookData) (kit2 : Kit) (d : View) : Type 0 where
    pub n : ℕ
    pub free : free_list b ≡ drop n (free_list m)
    pub rows_are : map (λ (g : ℕ × ℕ). g.0) kit2.rows.items ≡ take n (free_list m)
    pub follows : Follows (region d) may.old b
    pub sum : RowSum b

  module _ (b : BookData) (kit2 : Kit) (r : Reply) (commits : Commits m thread c kit r b kit2) (is_b : IsBook b) (d : View) (leaves : Leaves (state_of b) w d) where
    no_rows_kept : length {A = Rattle.row_layout.specs.declared.limbo.Sampled.Sampled} [] ≡ set.len (set.retain (state_of m).tables (is_given_up (state_of m) c))
    no_rows_kept = sym (ap set.len (λ i. set.retain (state_of m).tables (λ q. may.removes (state_of m) q i)) ∙ none_kept)
      where
        none_kept : set.len (set.retain (state_of m).tables (λ (q : Place). false)) ≡ 0
        none_kept = ap set.len (same_set place_total place_exact _ _ (λ q. contains-retain (state_of m).tables (λ (x : Place). false) q (alike place_total place_exact (λ (x : Place). false) q) ∙ (no_more (set.contains (state_of m).tables q) ∙ sym (contains-empty place_cmp q)))) ∙ len-empty place_cmp

    pub becomes : MayBecome b kit2 d
    becomes = go (refusal (state_of m) thread c (length m.limbo)) refl
      where
        go : (o : Option Reply) → refusal (state_of m) thread c (length m.limbo) ≡ o → MayBecome b kit2 d
        go None e =
            let granted = commits.accepted (ap is_some e) in
            let after = sum_accepted m b thread c kit kit2 r may.planned.books.1 sum_m may.planned.plans.filled commits e b [] (λ i. record b { limbo = sym (append-nil b.limbo) i }) no_rows_kept in
            record {
              n = kit.rows_needed;
              free = granted.free;
              rows_are = kit_rows m b thread c kit kit2 r may.planned.books.1 sum_m may.planned.plans.filled commits e;
              follows = follows_accepted may.old m b b thread c kit kit2 r may.planned.swept.same commits refl w d may.rows may.few may.planned.books.0 is_b.counts levels_old once_rows held_old (shows (ap is_some (passed (state_of m) thread c (length m.limbo) e).arguments)) e leaves may.sum after;
              sum = after;
            }
        go (Some why) e =
            let is = commits.refused (ap is_some e) in
            let after = sum_refused m b thread c kit kit2 r may.planned.books.1 sum_m may.planned.plans.filled commits why e in
            record {
              n = 0;
              free = ap free_list is.book;
              rows_are = ap (λ (x : Kit). map (λ (g : ℕ × ℕ). g.0) x.rows.items) is.same_kit ∙ ap (map (λ (g : ℕ × ℕ). g.0)) may.planned.plans.filled.ungranted.rows;
              follows = follows_refused may.old m b b thread c kit kit2 r may.planned.swept.same commits refl d why e after.1 may.sum after.0;
              sum = after.0;
            }
