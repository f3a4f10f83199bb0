-- What a pass of the plan with a list of positions may give that takes two rows, and what it has after each call of a sowing of both.
use Rattle.std.proofs.Common.{◌≡◌, ◌≢◌, ℕ, ◌<◌, ◌≤◌, eqb, cond, not, Bool, true, false, List, [], ◌∷◌, ◌++◌, map, set, sym, refl, ap, ◌∙◌, subst, ⊎_elim, arith, eq-eqb, ne_eqb, Some, None, Result, Ok, Err, MatchResult, ◌+◌, ◌^◌, ◌||◌, get_or, get_or-set_other}
use Rattle.std.specs.List.{Contains, list_any}
use Rattle.std.proofs.lemmas.Bool.{cases_lt, cases_Bool}
use Rattle.table_place.specs.declared.Place.{Place}
use Rattle.table_place.specs.Place.{entry_place, is_place}
use Rattle.walk_core.specs.declared.pass.GrantedRow.{GrantedRow}
use Rattle.walk_core.specs.Words.{is_link, link_row, link_word}
use Rattle.walk_core.specs.Lists.{times, Has, without}
use Rattle.walk_core.specs.Events.{newly_granted}
use Rattle.walk_core.proofs.RowLists.{times-nil, times-append, times_one_same, times_one_other, times-cons_same, times-cons_other, times_without_other, in_head, in_tail}
use Rattle.walk_core.proofs.Spellings.{link_row-link_word, is_link-link_word}
use Rattle.row_layout.specs.declared.places.Layout.{Layout}
use Rattle.row_table.specs.declared.view.HeldRow.{HeldRow}
use Rattle.row_table.specs.declared.view.HandRow.{HandRow}
use Rattle.row_uses.specs.declared.sowing.Seeds.{Seeds}
use Rattle.row_uses.specs.declared.sowing.Lack.{Lack}
use Rattle.row_table.specs.Vacant.{vacant_entries}
use Rattle.row_table.specs.Moves.{released, Fits, NotInHand}
use Rattle.row_table.specs.Books.{given, taken_rows, turned, Learns, Gives, MayGive, region}
use Rattle.row_table.specs.Openings.{prepared, opened, MaySetUp, IsSetUp}
use Rattle.row_table.specs.Links.{MaySetEntry, Sets}
use Rattle.row_uses.specs.Sown.{sown, lists, View, IsLacking, SameSeeds, same_place, KeepsListed, MaySowBoth, DrawsBoth, AreSown}
use Rattle.row_uses.proofs.SownPlaces.{few_levels, Splits, splits, touched, same_is, same_self}
use Rattle.std.proofs.lemmas.List.Folds.{list_any-append}
use Rattle.row_uses.specs.declared.sowing.Bed.{Bed}
use Rattle.row_table.specs.Plan.{IsUntouched}
use Rattle.row_uses.proofs.SownSteps.{Stage, gave_stage, old_is, keeps_after, may_return, taken_are, may_take_all, done, hand_same, hand_other, granted_same, granted_other, prepared_stage, may_link_it, may_return_it, it_fits, planted}
use Rattle.row_table.proofs.Blank.{is_vacant}

-- Two positions more in the list

module _ (old new : Seeds) (c d : Place) (more : new.listed.items ≡ old.listed.items ++ c ∷ d ∷ []) where
  lists_are : (p : Place) → lists new p ≡ (lists old p || (same_place p c || (same_place p d || false)))
  lists_are p = ap (list_any (same_place p)) more ∙ list_any-append (same_place p) old.listed.items (c ∷ d ∷ [])

  differs : (p q : Place) → p ≢ q → same_place p q ≡ false
  differs p q ne = ⊎_elim (λ (it : same_place p q ≡ true). absurd (ne (same_is p q it))) (λ (no_same : same_place p q ≡ false). no_same) (cases_Bool (same_place p q))

  lists_others : (p : Place) → p ≢ c → p ≢ d → lists new p ≡ lists old p
  lists_others p nc nd = lists_are p ∙ ((λ j. lists old p || (differs p c nc j || (differs p d nd j || false))) ∙ or_false (lists old p))
    where
      or_false : (b : Bool) → (b || (false || (false || false))) ≡ b
      or_false true = refl
      or_false false = refl

  lists_first : lists new c ≡ true
  lists_first = lists_are c ∙ (ap (λ (t : Bool). lists old c || (t || (same_place c d || false))) (same_self c) ∙ or_true (lists old c))
    where
      or_true : (b : Bool) → (b || (true || (same_place c d || false))) ≡ true
      or_true true = refl
      or_true false = refl

  lists_second : lists new d ≡ true
  lists_second = lists_are d ∙ (ap (λ (t : Bool). lists old d || (same_place d c || (t || false))) (same_self d) ∙ or_true (lists old d) (same_place d c))
    where
      or_true : (b t : Bool) → (b || (t || (true || false))) ≡ true
      or_true true t = refl
      or_true false true = refl
      or_true false false = refl

-- The whole sowing

module _ (v0 v1 v2 : View) (book new : Seeds) (row : ℕ) (first second : Bed) (a b : ℕ × ℕ) (rows : ℕ) (may : MaySowBoth v0 row first second) (learns : Learns sown rows v0 book) (few : rows ≤ 1024)
    (e1 : v1 ≡ turned sown v0 book) (draws : DrawsBoth book first.place second.place a b new) where
  abbrev h : HeldRow Bool
  h = may.one.known

  tables : Splits v0.layout.levels h.place
  tables = splits v0.layout.levels h.place first.index (few_levels v0.layout learns.right.levels) (subst (λ (p : Place). is_place v0.layout.levels p ≡ true) may.one.below may.one.is_place)

  free_once : (q : ℕ) → times q book.free.items ≤ 1
  free_once q = let o = learns.once q in omega arith

  had : v1.core.has_book ≡ true
  had = ap (λ (v : View). v.core.has_book) e1

  layout1 : v1.layout ≡ v0.layout
  layout1 = ap (λ (v : View). v.layout) e1

  not_untouched : (index : ℕ) (place : Place) → index < 512 → is_link (get_or h.words index 0) ≡ false → place ≡ entry_place v0.layout.levels h.place index → IsUntouched (region v1) place → ⊥
  not_untouched index place inside none below = subst (λ (p : Place). IsUntouched (region v1) p → ⊥) (ap (λ (y : Layout). entry_place y.levels h.place index) layout1 ∙ sym below)
      (touched v1 h index (ap (λ (v : View). v.rows) e1 ∙ may.one.alone.rows) out inside none (subst (λ (y : Layout). Splits y.levels h.place) (sym layout1) tables))
    where
      out : NotInHand v1 h.row
      out = let x = ap (λ gs. times h.row (map (λ (g : GrantedRow). g.row) gs)) (ap (λ (v : View). v.core.granted) e1 ∙ may.one.alone.granted) in
          let y = ap (λ us. times h.row (map (λ u. u.row) us)) (ap (λ (v : View). v.core.unlinked) e1 ∙ may.one.alone.unlinked) in let n = times-nil h.row in omega arith

  keeps_both : KeepsListed (region v1) book new
  keeps_both p untouched = lists_others book new first.place second.place draws.listed p
      (λ e. not_untouched first.index first.place may.one.inside may.one.no_link may.one.below (subst (λ (q : Place). IsUntouched (region v1) q) e untouched))
      (λ e. not_untouched second.index second.place may.inside may.no_link may.below (subst (λ (q : Place). IsUntouched (region v1) q) e untouched))

  pub may_give_both_drawn : (k : Layout) → MayGive sown k v1 book new
  may_give_both_drawn k = may_take_all k v1 book new (b.0 ∷ a.0 ∷ []) had draws.limbo draws.free free_once (let n = draws.next in omega arith) keeps_both

  -- the rows are there, two, and not held
  taken_there : (r : ℕ) → 1 ≤ times r (b.0 ∷ a.0 ∷ []) → 1 ≤ times r book.free.items
  taken_there r some_times = let x = ap (times r) draws.free in let y = times-append r new.free.items (b.0 ∷ a.0 ∷ []) in omega arith

  has_a : 1 ≤ times a.0 (b.0 ∷ a.0 ∷ [])
  has_a = let x = times-append a.0 (b.0 ∷ []) (a.0 ∷ []) in let y = times_one_same a.0 a.0 refl in omega arith

  has_b : 1 ≤ times b.0 (b.0 ∷ a.0 ∷ [])
  has_b = let x = times-cons_same b.0 b.0 (a.0 ∷ []) refl in omega arith

  pub two_rows : a.0 ≢ b.0
  two_rows e = let x = ap (times b.0) draws.free in let y = times-append b.0 new.free.items (b.0 ∷ a.0 ∷ []) in let z = times-cons_same b.0 b.0 (a.0 ∷ []) refl in let w = times_one_same b.0 a.0 e in let o = free_once b.0 in omega arith

  free_small : (r : ℕ) → 1 ≤ times r book.free.items → r < 1024
  free_small r some_times = ⊎_elim (λ (low : r < 1024). low) (λ (high : 1024 ≤ r). let none = learns.there r (omega arith) in absurd (omega arith)) (cases_lt r 1024)

  free_other : (r : ℕ) → 1 ≤ times r book.free.items → h.row ≢ r
  free_other r some_times e = let one = times_one_same r h.row e in let held = ap (times r) may.one.alone.held in let none = learns.apart r (omega arith) in omega arith

  pub small_a : a.0 < 1024
  small_a = free_small a.0 (taken_there a.0 has_a)

  pub small_b : b.0 < 1024
  small_b = free_small b.0 (taken_there b.0 has_b)

  pub not_linked : (one : ℕ) → one ≡ link_word a.0 a.1 → link_row one ≢ b.0
  not_linked one is e = two_rows (sym (ap link_row is ∙ link_row-link_word a.0 a.1 small_a) ∙ e)

  pub few_a : a.1 < 2 ^ 30
  few_a = let x = draws.few in let y = draws.number in let z = draws.number_after in omega arith

  other_a : h.row ≢ a.0
  other_a = free_other a.0 (taken_there a.0 has_a)

  other_b : h.row ≢ b.0
  other_b = free_other b.0 (taken_there b.0 has_b)

  module _ (g : Gives sown v1 new v2) where
    was : g.old ≡ book
    was = old_is v0 v1 v2 book new e1 g

    taken_both : taken_rows sown g.old new ≡ b.0 ∷ a.0 ∷ []
    taken_both = ap (λ (x : Seeds). taken_rows sown x new) was ∙ taken_are v1.layout v1 book new (b.0 ∷ a.0 ∷ []) had draws.limbo draws.free free_once

    abbrev fresh : ℕ → HandRow
    fresh r = record { row = r; generation = g.grants.generation r; low = g.old.next; high = new.next; place = None }

    abbrev ready_a : HandRow
    ready_a = record (fresh a.0) { place = Some first.place; generation = a.1 }

    abbrev ready_b : HandRow
    ready_b = record (fresh b.0) { place = Some second.place; generation = b.1 }

    stage2 : Stage v2 v0.layout v0.core.stand (given h ∷ []) (h.row ∷ []) (newly_granted b.0 ∷ newly_granted a.0 ∷ []) (fresh b.0 ∷ fresh a.0 ∷ []) (Some new)
    stage2 = gave_stage v0 v1 v2 book new h (b.0 ∷ a.0 ∷ []) rows may.one.alone learns e1 g taken_both

    numbers : (g.old.next ≡ book.next) × (new.next ≡ book.next + 2)
    numbers = (ap (λ (x : Seeds). x.next) was, draws.next)

    above : (r n : ℕ) → 1 ≤ times r (b.0 ∷ a.0 ∷ []) → book.next ≤ n → g.grants.generation r < n
    above r n has more = let lower = g.grants.low r (subst (λ (l : List ℕ). Has l r) (sym taken_both) (omega arith)) in let same = numbers.0 in omega arith

    pub may_prepare_b : MaySetUp v2 b.0 second.place b.1
    may_prepare_b = record {
      known = fresh b.0;
      in_hand = subst (λ (l : List HandRow). Contains l (fresh b.0)) (sym stage2.hand_is) (in_head (fresh b.0) (fresh a.0 ∷ []));
      same_row = refl;
      closed = ap (times b.0) stage2.held_are ∙ times_one_other b.0 h.row other_b;
      is_place = subst (λ (k : Layout). is_place k.levels second.place ≡ true) (sym stage2.layout) may.is_place;
      above = above b.0 b.1 has_b (let n = draws.number_after in omega arith);
      low = (let n = draws.number_after in let same = numbers.0 in omega arith);
      high = (let n = draws.number_after in let same = numbers.1 in omega arith);
    }

    module _ (v3 v4 : View) (e3 : v3 ≡ prepared v2 b.0 second.place b.1) (e4 : v4 ≡ prepared v3 a.0 first.place a.1) where
      stage3 : Stage v3 v0.layout v0.core.stand (given h ∷ []) (h.row ∷ []) (done b.0 ∷ newly_granted a.0 ∷ []) (ready_b ∷ fresh a.0 ∷ []) (Some new)
      stage3 = prepared_stage v2 v3 v0.layout v0.core.stand (given h ∷ []) (h.row ∷ []) (newly_granted b.0 ∷ newly_granted a.0 ∷ []) (done b.0 ∷ newly_granted a.0 ∷ []) (fresh b.0 ∷ fresh a.0 ∷ []) (ready_b ∷ fresh a.0 ∷ []) (Some new)
          b.0 second.place b.1 stage2 e3
          (λ j. granted_same b.0 second.place b.1 j ∷ granted_other b.0 second.place b.1 (newly_granted a.0) two_rows j ∷ [])
          (λ j. hand_same b.0 second.place b.1 (fresh b.0) refl j ∷ hand_other b.0 second.place b.1 (fresh a.0) two_rows j ∷ [])

      pub may_prepare_a : MaySetUp v3 a.0 first.place a.1
      may_prepare_a = record {
        known = fresh a.0;
        in_hand = subst (λ (l : List HandRow). Contains l (fresh a.0)) (sym stage3.hand_is) (in_tail ready_b (fresh a.0 ∷ []) (fresh a.0) (in_head (fresh a.0) []));
        same_row = refl;
        closed = ap (times a.0) stage3.held_are ∙ times_one_other a.0 h.row other_a;
        is_place = subst (λ (k : Layout). is_place k.levels first.place ≡ true) (sym stage3.layout) may.one.is_place;
        above = above a.0 a.1 has_a (let n = draws.number in omega arith);
        low = (let n = draws.number in let same = numbers.0 in omega arith);
        high = (let n = draws.number in let same = numbers.1 in omega arith);
      }

      stage4_both : Stage v4 v0.layout v0.core.stand (given h ∷ []) (h.row ∷ []) (done b.0 ∷ done a.0 ∷ []) (ready_b ∷ ready_a ∷ []) (Some new)
      stage4_both = prepared_stage v3 v4 v0.layout v0.core.stand (given h ∷ []) (h.row ∷ []) (done b.0 ∷ newly_granted a.0 ∷ []) (done b.0 ∷ done a.0 ∷ []) (ready_b ∷ fresh a.0 ∷ []) (ready_b ∷ ready_a ∷ []) (Some new)
          a.0 first.place a.1 stage3 e4
          (λ j. granted_other a.0 first.place a.1 (done b.0) (λ e. two_rows (sym e)) j ∷ granted_same a.0 first.place a.1 j ∷ [])
          (λ j. hand_other a.0 first.place a.1 ready_b (λ e. two_rows (sym e)) j ∷ hand_same a.0 first.place a.1 (fresh a.0) refl j ∷ [])

      out_both : times h.row (map (λ (x : GrantedRow). x.row) (done b.0 ∷ done a.0 ∷ [])) ≡ 0
      out_both = let x = times-cons_other h.row b.0 (a.0 ∷ []) (λ e. other_b (sym e)) in let y = times_one_other h.row a.0 (λ e. other_a (sym e)) in omega arith

      free_entry : Has (vacant_entries h.words) first.index
      free_entry = is_vacant h.words first.index may.one.inside may.one.no_link

      below_a : first.place ≡ entry_place v0.layout.levels (given h).place first.index
      below_a = may.one.below

      module _ (v5 v6 v7 : View) (at : IsSetUp v4 a.0) (e5 : v5 ≡ opened v4 a.0 at.place at.known.generation) (one : ℕ) (is : one ≡ link_word a.0 a.1) where
        pub may_link_a : MaySetEntry v5 row first.index one
        may_link_a = may_link_it v4 v5 v6 v7 v0.layout v0.core.stand (given h) (done b.0 ∷ done a.0 ∷ []) (ready_b ∷ ready_a ∷ []) new stage4_both row first.index first.place a.0 a.1 ready_a may.one.same_row may.one.inside may.one.no_link free_entry
            below_a (in_tail ready_b (ready_a ∷ []) ready_a (in_head ready_a [])) refl refl refl other_a small_a few_a out_both (lists_first book new first.place second.place draws.listed) at e5 one is

        module _ (sets : Sets row first.index one v5 v6) where
          pub may_release_a : NotInHand v6 a.0
          may_release_a = may_return_it v4 v5 v6 v7 v0.layout v0.core.stand (given h) (done b.0 ∷ done a.0 ∷ []) (ready_b ∷ ready_a ∷ []) new stage4_both row first.index first.place a.0 a.1 ready_a may.one.same_row may.one.inside may.one.no_link free_entry
              below_a (in_tail ready_b (ready_a ∷ []) ready_a (in_head ready_a [])) refl refl refl other_a small_a few_a out_both (lists_first book new first.place second.place draws.listed) at e5 one is sets

          pub fits_a : Fits sown v6 a.0 true
          fits_a = it_fits v4 v5 v6 v7 v0.layout v0.core.stand (given h) (done b.0 ∷ done a.0 ∷ []) (ready_b ∷ ready_a ∷ []) new stage4_both row first.index first.place a.0 a.1 ready_a may.one.same_row may.one.inside may.one.no_link free_entry
              below_a (in_tail ready_b (ready_a ∷ []) ready_a (in_head ready_a [])) refl refl refl other_a small_a few_a out_both (lists_first book new first.place second.place draws.listed) at e5 one is sets

          abbrev half : HeldRow Bool
          half = record (given h) { words = set h.words first.index one; vacant = without first.index (vacant_entries h.words) }

          is_a : link_row one ≡ a.0
          is_a = ap link_row is ∙ link_row-link_word a.0 a.1 small_a

          kept_b : eqb b.0 (link_row one) ≡ false
          kept_b = ne_eqb b.0 (link_row one) (λ e. two_rows (sym (e ∙ is_a)))

          gone_a : eqb a.0 (link_row one) ≡ true
          gone_a = eq-eqb a.0 (link_row one) (sym is_a)

          module _ (e7 : v7 ≡ released v6 a.0) where
            stage7 : Stage v7 v0.layout v0.core.stand (half ∷ []) (h.row ∷ []) (done b.0 ∷ []) (ready_b ∷ []) (Some new)
            stage7 = let s = planted v4 v5 v6 v7 v0.layout v0.core.stand (given h) (done b.0 ∷ done a.0 ∷ []) (ready_b ∷ ready_a ∷ []) new stage4_both row first.index first.place a.0 a.1 ready_a may.one.same_row may.one.inside may.one.no_link free_entry
                below_a (in_tail ready_b (ready_a ∷ []) ready_a (in_head ready_a [])) refl refl refl other_a small_a few_a out_both (lists_first book new first.place second.place draws.listed) at e5 one is sets e7 in record {
                  layout = s.layout;
                  stand_is = s.stand_is;
                  rows_are = s.rows_are;
                  held_are = s.held_are;
                  granted = s.granted ∙ (λ j. cond (not (kept_b j)) (done b.0 ∷ cond (not (gone_a j)) (done a.0 ∷ []) []) (cond (not (gone_a j)) (done a.0 ∷ []) []));
                  unlinked = s.unlinked;
                  hand_is = s.hand_is ∙ (λ j. cond (not (kept_b j)) (ready_b ∷ cond (not (gone_a j)) (ready_a ∷ []) []) (cond (not (gone_a j)) (ready_a ∷ []) []));
                  last_is = s.last_is;
                  has_not = s.has_not;
                }

            none_there : is_link (get_or half.words second.index 0) ≡ false
            none_there = ap is_link (get_or-set_other h.words first.index second.index one 0 (λ e. may.apart (sym e))) ∙ may.no_link

            entry_free : Has half.vacant second.index
            entry_free = let same = times_without_other first.index second.index (vacant_entries h.words) (λ e. may.apart (sym e)) in let has = is_vacant h.words second.index may.inside may.no_link in omega arith

            out_b : times h.row (map (λ (x : GrantedRow). x.row) (done b.0 ∷ [])) ≡ 0
            out_b = times_one_other h.row b.0 (λ e. other_b (sym e))

            module _ (v8 v9 v10 : View) (then_at : IsSetUp v7 b.0) (e8 : v8 ≡ opened v7 b.0 then_at.place then_at.known.generation) (two : ℕ) (then_is : two ≡ link_word b.0 b.1) where
              pub may_link_b : MaySetEntry v8 row second.index two
              may_link_b = may_link_it v7 v8 v9 v10 v0.layout v0.core.stand half (done b.0 ∷ []) (ready_b ∷ []) new stage7 row second.index second.place b.0 b.1 ready_b may.one.same_row may.inside none_there entry_free
                  may.below (in_head ready_b []) refl refl refl other_b small_b draws.few out_b (lists_second book new first.place second.place draws.listed) then_at e8 two then_is

              module _ (then_sets : Sets row second.index two v8 v9) where
                pub may_release_b : NotInHand v9 b.0
                may_release_b = may_return_it v7 v8 v9 v10 v0.layout v0.core.stand half (done b.0 ∷ []) (ready_b ∷ []) new stage7 row second.index second.place b.0 b.1 ready_b may.one.same_row may.inside none_there entry_free
                    may.below (in_head ready_b []) refl refl refl other_b small_b draws.few out_b (lists_second book new first.place second.place draws.listed) then_at e8 two then_is then_sets

                pub fits_b : Fits sown v9 b.0 true
                fits_b = it_fits v7 v8 v9 v10 v0.layout v0.core.stand half (done b.0 ∷ []) (ready_b ∷ []) new stage7 row second.index second.place b.0 b.1 ready_b may.one.same_row may.inside none_there entry_free
                    may.below (in_head ready_b []) refl refl refl other_b small_b draws.few out_b (lists_second book new first.place second.place draws.listed) then_at e8 two then_is then_sets

                abbrev full : HeldRow Bool
                full = record half { words = set half.words second.index two; vacant = without second.index half.vacant }

                is_b : link_row two ≡ b.0
                is_b = ap link_row then_is ∙ link_row-link_word b.0 b.1 small_b

                gone_b : eqb b.0 (link_row two) ≡ true
                gone_b = eq-eqb b.0 (link_row two) (sym is_b)

                module _ (e10 : v10 ≡ released v9 b.0) where
                  stage10 : Stage v10 v0.layout v0.core.stand (full ∷ []) (h.row ∷ []) [] [] (Some new)
                  stage10 = let s = planted v7 v8 v9 v10 v0.layout v0.core.stand half (done b.0 ∷ []) (ready_b ∷ []) new stage7 row second.index second.place b.0 b.1 ready_b may.one.same_row may.inside none_there entry_free
                      may.below (in_head ready_b []) refl refl refl other_b small_b draws.few out_b (lists_second book new first.place second.place draws.listed) then_at e8 two then_is then_sets e10 in record {
                        layout = s.layout;
                        stand_is = s.stand_is;
                        rows_are = s.rows_are;
                        held_are = s.held_are;
                        granted = s.granted ∙ (λ j. cond (not (gone_b j)) (done b.0 ∷ []) []);
                        unlinked = s.unlinked;
                        hand_is = s.hand_is ∙ (λ j. cond (not (gone_b j)) (ready_b ∷ []) []);
                        last_is = s.last_is;
                        has_not = s.has_not;
                      }

                  elsewhere : (i : ℕ) (p : Place) → p ≡ entry_place v0.layout.levels h.place i → h.place ≢ p
                  elsewhere i p below e = let less = tables.less i in let level = ap (λ (q : Place). q.level) (e ∙ below) in omega arith

                  pub are_sown : AreSown v0 h first second a.0 b.0 v10
                  are_sown = record {
                    one = one;
                    link = ap is_link is ∙ is_link-link_word a.0 a.1 small_a few_a;
                    to_row = is_a;
                    two = two;
                    link_after = ap is_link then_is ∙ is_link-link_word b.0 b.1 small_b draws.few;
                    to_row_after = is_b;
                    keeps = keeps_after v0 v10 h full book new rows may.one.alone learns stage10 refl refl refl
                        (lists_others book new first.place second.place draws.listed h.place (elsewhere first.index first.place may.one.below) (elsewhere second.index second.place may.below));
                    book = new;
                    last = stage10.last_is;
                    listed = lists_first book new first.place second.place draws.listed;
                    listed_after = lists_second book new first.place second.place draws.listed;
                  }

-- The give of such a sowing, whether the rows were drawn or not
pub may_give_both : (k : Layout) (v0 v1 : View) (book new : Seeds) (row : ℕ) (first second : Bed) (rows : ℕ) (drawn : Result ((ℕ × ℕ) × (ℕ × ℕ)) Lack) → MaySowBoth v0 row first second → Learns sown rows v0 book → rows ≤ 1024 → v1 ≡ turned sown v0 book
    → MatchResult drawn (λ r. DrawsBoth book first.place second.place r.0 r.1 new) (λ lack. IsLacking 2 lack book × SameSeeds book new) → MayGive sown k v1 book new
may_give_both k v0 v1 book new row first second rows (Err lack) may learns few e1 draws = may_return k v1 book new draws.1 (ap (λ (v : View). v.core.has_book) e1) (λ q. let o = learns.once q in omega arith)
may_give_both k v0 v1 book new row first second rows (Ok r) may learns few e1 draws = may_give_both_drawn v0 v1 v1 book new row first second r.0 r.1 rows may learns few e1 draws k
