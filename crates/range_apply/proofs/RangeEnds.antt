-- A call that is one mapping operation: which tables it lacks above the ends of its range.
--     IsOneOp      what the definitions make of it
--     near_end, far_end      the tables above the ends
--     ends_reached      where those are there, all are
use Rattle.std.specs.Prelude.{◌≡◌, ℕ, ◌+◌, ◌-◌, ◌<◌, ◌≤◌, ◌⊎◌, Bool, true, false, List, length, slice_index_or}
use Rattle.std.specs.FinSet as set
use Rattle.std.proofs.Common.{sym, refl, ◌∙◌, ap, subst, arith, inl, inr}
use Rattle.std.proofs.lemmas.Bool.{true≢false, false_from_ne_true, not-true, not_from_false}
use Rattle.corten_base.specs.declared.calls.Call.{Call}
use Rattle.corten_base.specs.declared.calls.TxnOp.{TxnOp}
use Rattle.page_map.specs.Alike.{is_alike, unlike_tables}
use Rattle.page_map.specs.Effect.{is_given_up, wanted_tables}
use Rattle.page_map.specs.Mapping.{op_first, op_pages, after_op}
use Rattle.page_map.specs.State.{State, IsConsistent, levels, space_at, is_present}
use Rattle.page_map.specs.Tables.{Tables, changed_tables}
use Rattle.page_map.proofs.Growth.{stays, comes, whence}
use Rattle.page_map.proofs.Mappings.{op_unlike}
use Rattle.page_map.proofs.NeedOf.{IsCut, cut_parts, missing_alike}
use Rattle.page_map.proofs.TableLaws.{unlike_listed}
use Rattle.page_map.proofs.Unlike.{unlike_is_wanted, wanted_is_unlike}
use Rattle.page_map.proofs.Wanted.{is_wanted}
use Rattle.page_map.proofs.Places.{place_total}
use Rattle.row_cells.specs.declared.Cell.{Cell}
use Rattle.row_table.specs.declared.view.PassView.{PassView}
use Rattle.table_place.specs.declared.Place.{Place}
use Rattle.table_place.specs.Place.{has_page, place_of, root, is_user_range, span_first, span_count}
use Rattle.table_place.specs.Range.{within}
use Rattle.table_place.proofs.Spans.{user_below}
use Rattle.table_place.proofs.Tables.{to_range}
use Rattle.tree_lock.specs.Zone.{ZoneHas}
use Rattle.machine_plan.specs.declared.kit.Change.{Change}
use Rattle.machine_plan.specs.declared.kit.Change.TheVariants.{Op}
use Rattle.machine_plan.specs.declared.kit.Kit.{Kit}
use Rattle.machine_plan.specs.Agrees.{IsTableOf}
use Rattle.machine_plan.specs.Books.{BookData, state_of}
use Rattle.machine_plan.specs.Given.{IsRemoved}
use Rattle.machine_plan.specs.Held.{ListHolds}
use Rattle.machine_plan.specs.HeldRows.{Row}
use Rattle.machine_plan.specs.Uses.{zone_of}
use Rattle.machine_plan.proofs.Towers.{root_is, table_above}
use Rattle.cursor_apply.specs.Changed.{LiesIn, op_change}
use Rattle.cursor_apply.specs.Changing.{IsNearAll}
use Rattle.range_apply.specs.Ends.{IsBroken, MayLinkEnd, ReachesEnd}
use Rattle.cursor_apply.specs.Linking.{IsLinkable, LinkedSoFar}
use Rattle.cursor_apply.specs.Staging.{with_tables}
use Rattle.cursor_apply.proofs.AboveCuts.{AtEnd, at_end}
use Rattle.range_apply.proofs.EndTables.{stays_alike, stays_same, near_is, far_is, in_span}
use Rattle.cursor_apply.proofs.Made.{IsMade}
use Rattle.cursor_apply.proofs.Ranged.{made_inside}
use Rattle.cursor_apply.proofs.StagedStart.{changed}

pub record IsOneOp (a : BookData) (thread : ℕ) (c : Call) (space : ℕ) (kit : Kit) (o : TxnOp) : Type 0 where
  pub wanted : wanted_tables (state_of a) thread c ≡ unlike_tables (levels (state_of a)) space (after_op o (space_at (state_of a) space))
  pub some_change : 0 < length kit.changes.items
  pub change : (d : Change) → slice_index_or kit.changes.items 0 d ≡ Op o
  pub some : 1 ≤ op_pages o
  pub user : is_user_range (levels (state_of a)) (op_first o) (op_pages o) ≡ true
  pub near : IsNearAll (op_change o).making (op_pages o)
  pub given : (p : Place) → is_given_up (state_of a) c p ≡ true → LiesIn p (op_first o) (op_pages o)
  pub top_stays : is_given_up (state_of a) c (root (levels (state_of a)) space) ≡ false
  pub zone : (q : ℕ) → op_first o ≤ q → q < op_first o + op_pages o → ZoneHas (zone_of thread c) space q
  pub present : is_present (state_of a) space ≡ true

module _ {B E : Type 0} (a b : BookData) (thread : ℕ) (c : Call) (v : PassView (List Cell) B E) (rows : List Row) (kit : Kit) (further : IsLinkable a b thread c v rows kit) (before : IsConsistent (state_of a))
    (made : IsMade a b thread c kit) (space : ℕ) (o : TxnOp) (is : IsOneOp a thread c space kit o) where
  abbrev L : ℕ
  L = levels (state_of a)

  abbrev first : ℕ
  first = op_first o

  abbrev count : ℕ
  count = op_pages o

  now_is : (state_of b).tables ≡ changed_tables (is_given_up (state_of a) c) (wanted_tables (state_of a) thread c) (state_of a).tables
  now_is = ap (λ (s : State). s.tables) made.state ∙ changed (state_of a) thread c

  few : L ≤ 5
  few = before.few_levels

  root_there : (q : ℕ) → q < first + count → (set.contains (state_of a).tables (place_of space L q) ≡ true) × (set.contains (state_of b).tables (place_of space L q) ≡ true)
  root_there q less =
      let e = root_is L space q (let end = user_below L first count is.user in omega (arith, end, less)) in
      let old = before.roots space is.present in (
        ap (set.contains (state_of a).tables) e ∙ old,
        ap (set.contains (state_of b).tables) e ∙ (ap (λ (s : Tables). set.contains s (root L space)) now_is ∙ stays (is_given_up (state_of a) c) (wanted_tables (state_of a) thread c) (state_of a).tables (root L space) old is.top_stays),
      )

  -- a cut table stays
  not_removed : (p : Place) → IsCut L space first count p → ¬ IsRemoved (state_of a) (state_of b) p
  not_removed p cut r = go (is_given_up (state_of a) c p) refl
    where
      lies_not : LiesIn p first count → (span_first p < first) ⊎ (first + count < span_first p + span_count p) → ⊥
      lies_not l (inl before_it) = let x = l.0 in omega (arith, x, before_it)
      lies_not l (inr behind) = let x = l.1 in omega (arith, x, behind)

      go : (t : Bool) → is_given_up (state_of a) c p ≡ t → ⊥
      go true e = lies_not (is.given p e) cut.outside
      go false e = true≢false (sym (ap (λ (s : Tables). set.contains s p) now_is ∙ stays (is_given_up (state_of a) c) (wanted_tables (state_of a) thread c) (state_of a).tables p r.0 e) ∙ r.1)

  module _ (p : Place) (cut : IsCut L space first count p) (gone : set.contains (state_of a).tables p ≡ false) where
    comes_so : is_alike (after_op o (space_at (state_of a) space)) (span_first p) (span_count p) ≡ false → set.contains (state_of b).tables p ≡ true
    comes_so unlike = ap (λ (s : Tables). set.contains s p) now_is ∙ comes (is_given_up (state_of a) c) (wanted_tables (state_of a) thread c) (state_of a).tables p
        (ap (λ l. is_wanted l p) is.wanted ∙ unlike_is_wanted L space (after_op o (space_at (state_of a) space)) p few cut.same_space cut.low cut.high (not_from_false _ unlike))

    is_out : is_alike (after_op o (space_at (state_of a) space)) (span_first p) (span_count p) ≡ true → set.contains (state_of b).tables p ≡ false
    is_out alike = false_from_ne_true _ (λ there. elim (whence (is_given_up (state_of a) c) (wanted_tables (state_of a) thread c) (state_of a).tables p (sym (ap (λ (s : Tables). set.contains s p) now_is) ∙ there)) [
      | inl old ↦ absurd (true≢false (sym old.0 ∙ gone))
      | inr new ↦ absurd (true≢false (sym alike ∙ not-true _ (wanted_is_unlike L space (after_op o (space_at (state_of a) space)) p (sym (ap (λ l. is_wanted l p) is.wanted) ∙ new)).1))
    ])

  module _ (page edge : ℕ) (from : first ≤ page) (to : page < first + count) (cut : (k : ℕ) → 1 ≤ k → k < L → IsBroken edge k → IsCut L space first count (place_of space k page)) where
    inside : within first count page ≡ true
    inside = to_range first count page from to

    an_end : MayLinkEnd a b rows space page edge (op_change o)
    an_end =
        let r = further.zone space page (is.zone page from to) in
        let roots = root_there page to in
        record {
          top = record {
            row = r.0;
            there = r.1;
            has = r.2;
            deep = let some = before.some_levels in omega (arith, some);
            high = omega arith;
            wanted = λ k le high. subst (λ n. set.contains (state_of b).tables (place_of space n page) ≡ true) (omega (arith, le, high)) roots.1;
            linked = λ y i has inside_it at was is_now. further.links y i has inside_it (record { space = space; page = page; of_zone = is.zone page from to; of_span = at }) was is_now;
          };
          root = roots.0;
          inside = from;
          near = is.near (page - first) (omega (arith, from, to));
          stays = λ k deep high broken. not_removed (place_of space k page) (cut k deep high broken);
          changes = λ k deep high broken gone other.
              let is_cut = cut k deep high broken in
              let at = in_span L space first count few is.some k deep high page in
              comes_so (place_of space k page) is_cut gone (false_from_ne_true _ (λ alike. other
              (sym (made_inside (Op o) (op_change o) refl (space_at (state_of a) space) page inside) ∙ stays_same (state_of a) space before o (place_of space k page) is_cut gone page inside at.0 at.1 alike)));
          leaves = λ k deep high broken gone same.
              let is_cut = cut k deep high broken in
              let at = in_span L space first count few is.some k deep high page in
              is_out (place_of space k page) is_cut gone (stays_alike (state_of a) space before o (place_of space k page) is_cut gone page inside at.0 at.1
              (made_inside (Op o) (op_change o) refl (space_at (state_of a) space) page inside ∙ same));
        }

  pub near_end : MayLinkEnd a b rows space first first (op_change o)
  near_end = let s = is.some in an_end first first (omega arith) (omega (arith, s)) (λ k deep high broken. near_is L space first count few s k deep high broken)

  pub far_end : MayLinkEnd a b rows space (first + count - 1) (first + count) (op_change o)
  far_end = let s = is.some in an_end (first + count - 1) (first + count) (omega (arith, s)) (omega (arith, s)) (λ k deep high broken. far_is L space first count few s k deep high broken)

  -- ---- all

  -- a missing table is cut
  pub new_cut : (p : Place) → set.contains (state_of a).tables p ≡ false → set.contains (state_of b).tables p ≡ true → IsCut L space first count p
  new_cut p gone there = elim (whence (is_given_up (state_of a) c) (wanted_tables (state_of a) thread c) (state_of a).tables p (sym (ap (λ (s : Tables). set.contains s p) now_is) ∙ there)) [
    | inl old ↦ absurd (true≢false (sym old.0 ∙ gone))
    | inr new ↦ by_unlike (sym (ap (λ l. is_wanted l p) is.wanted) ∙ new)
  ]
    where
      by_unlike : is_wanted (unlike_tables L space (after_op o (space_at (state_of a) space))) p ≡ true → IsCut L space first count p
      by_unlike want =
          let listed = unlike_listed L space (after_op o (space_at (state_of a) space)) p (set.contains-from_list place_total (unlike_tables L space (after_op o (space_at (state_of a) space))) p ∙ want) in
          elim (op_unlike (state_of a) space o (space_at (state_of a) space) p few is.some listed.0 listed.1 listed.2 listed.3) [
            | inl was ↦ absurd (true≢false (sym (missing_alike (state_of a) space before p listed.0 listed.1 listed.2 gone) ∙ not-true _ was))
            | inr cut ↦ cut_parts L space first count p few is.some cut
          ]

  pub ends_reached : (next : ℕ) (w : PassView (List Cell) B E) (rows' : List Row) (so : LinkedSoFar a b thread c kit next v rows w rows') → ReachesEnd a b space first first rows' → ReachesEnd a b space (first + count - 1) (first + count) rows'
      → (p : Place) → set.contains (state_of b).tables p ≡ true → set.contains so.tables p ≡ true
  ends_reached next w rows' so near far p there = go (set.contains (state_of a).tables p) refl
    where
      listed : p.level < 6 → ListHolds rows' p → set.contains so.tables p ≡ true
      listed low l = by l.0 (so.staged l.0 l.1).table l.2
        where
          by : (x : Row) → IsTableOf (with_tables (state_of a) so.tables) x.place → x.place ≡ p → set.contains so.tables p ≡ true
          by x (inl top) e = let six : p.level ≡ 6 = ap (λ (u : Place). u.level) (sym e ∙ top) in absurd (omega (arith, six, low))
          by x (inr t) e = ap (set.contains so.tables) (sym e) ∙ t

      new : set.contains (state_of a).tables p ≡ false → set.contains so.tables p ≡ true
      new gone = by (at_end L space first count few is.some p cut)
        where
          cut : IsCut L space first count p
          cut = new_cut p gone there

          low : p.level < 6
          low = let h = cut.high in let f = few in omega (arith, h, f)

          at : (page edge : ℕ) → has_page p space page ≡ true → IsBroken edge p.level → ReachesEnd a b space page edge rows' → set.contains so.tables p ≡ true
          at page edge has broken reached =
              let same = table_above p space page low has in
              listed low (let l = reached p.level cut.low cut.high broken (ap (set.contains (state_of a).tables) (sym same) ∙ gone) (ap (set.contains (state_of b).tables) (sym same) ∙ there) in (l.0, l.1, l.2 ∙ sym same))

          by : AtEnd L space first count few is.some p cut → set.contains so.tables p ≡ true
          by e = elim e.is [
            | inl n ↦ at e.page e.edge e.has e.broken (subst (λ z. ReachesEnd a b space z e.edge rows') (sym n.0) (subst (λ z. ReachesEnd a b space first z rows') (sym n.1) near))
            | inr f ↦ at e.page e.edge e.has e.broken (subst (λ z. ReachesEnd a b space z e.edge rows') (sym f.0) (subst (λ z. ReachesEnd a b space (first + count - 1) z rows') (sym f.1) far))
          ]

      go : (t : Bool) → set.contains (state_of a).tables p ≡ t → set.contains so.tables p ≡ true
      go true e = so.left p e there
      go false e = new e
