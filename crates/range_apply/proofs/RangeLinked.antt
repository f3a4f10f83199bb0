-- The granted rows of a call of one range are linked.
--     the_op      its operation, where it was granted some
--     ranged_space      each row is of the space
--     IsEnds, ends_of      what is linked above the ends of its range
--     no_items      a list of no length
--     some_changes, no_other      its first change is of a range
--     range_linked, none_linked      all are linked: after both ends, and where none was granted
use Rattle.std.specs.Prelude.{◌≡◌, ℕ, ◌+◌, ◌-◌, ◌^◌, ◌<◌, ◌≤◌, true, List, [], ◌∷◌, length, slice_index_or, Some, None}
use Rattle.std.proofs.Common.{sym, refl, ◌∙◌, ap, subst, arith, inl, inr}
use Rattle.corten_base.specs.declared.calls.Call.{Call}
use Rattle.corten_base.specs.declared.calls.TxnOp.{TxnOp}
use Rattle.page_map.specs.Effect.{space_of}
use Rattle.page_map.specs.Mapping.{op_first, op_pages}
use Rattle.page_map.specs.State.{levels}
use Rattle.page_map.proofs.Mappings.{user_few}
use Rattle.row_cells.specs.declared.Cell.{Cell}
use Rattle.row_table.specs.declared.view.PassView.{PassView}
use Rattle.table_place.specs.declared.Place.{Place}
use Rattle.machine_plan.specs.declared.kit.Change.{Change}
use Rattle.machine_plan.specs.declared.kit.Kit.{Kit}
use Rattle.machine_plan.specs.Books.{BookData, state_of}
use Rattle.machine_plan.specs.HeldRows.{Row, AreOf}
use Rattle.machine_plan.proofs.Whole.{book_is_consistent}
use Rattle.cursor_apply.specs.Applying.{IsApplicable}
use Rattle.cursor_apply.specs.declared.becoming.RangeChange.{RangeChange}
use Rattle.cursor_apply.specs.Changed.{op_change, range_change}
use Rattle.cursor_apply.specs.Changing.{IsNearAll}
use Rattle.range_apply.specs.Ends.{MayLinkEnds, ReachesEnd}
use Rattle.cursor_apply.specs.Linking.{IsLinkable, LinkedSoFar}
use Rattle.range_apply.specs.Ranging.{IsRangedIn, IsRangeLinked}
use Rattle.cursor_apply.specs.Staging.{Staged}
use Rattle.cursor_apply.proofs.Kept.{rows_emptied}
use Rattle.range_apply.proofs.RangeEnds.{IsOneOp, new_cut, near_end, far_end, ends_reached}
use Rattle.range_apply.proofs.RangeOps.{one_op}
use Rattle.range_apply.proofs.RangeReady.{range_ready, unsplit_ready}
use Rattle.cursor_apply.proofs.StagedStart.{ended}
use Rattle.cursor_apply.proofs.TxnCuts.{IsDone, txn_done}

-- what is linked above the ends of its range
pub record IsEnds (a b : BookData) (rows : List Row) (space : ℕ) (change : RangeChange) : Type 0 where
  pub some : 1 ≤ change.count
  pub end : change.first + change.count < 2 ^ 64
  pub near : IsNearAll change.making change.count
  pub ends : MayLinkEnds a b rows space change

pub no_items : (l : List (ℕ × ℕ)) → length l ≡ 0 → l ≡ []
no_items [] e = refl
no_items (x ∷ xs) e = absurd (omega arith)

module _ {B E : Type 0} (a b : BookData) (thread : ℕ) (c : Call) (v : PassView (List Cell) B E) (rows : List Row) (kit : Kit) (space : ℕ) (ready : IsApplicable a b thread c v rows kit) (kit_done : kit.done ≡ true) (further : IsLinkable a b thread c v rows kit) (is : IsRangedIn thread space c) where
  pub call_done : IsDone a b thread c kit
  call_done = txn_done a b thread c v rows kit ready kit_done

  pub the_op : (kit.rows.items ≡ [] → ⊥) → (o : TxnOp) × IsOneOp a thread c space kit o
  the_op some = one_op a thread c space kit (book_is_consistent a ready.books.0) call_done.made.limbo is call_done.made.ok call_done.changes
      (λ none. some (no_items kit.rows.items (further.all ∙ none)))

  pub ranged_space : (kit.rows.items ≡ [] → ⊥) → (w : PassView (List Cell) B E) (rows' : List Row) → Staged a b thread c kit v w rows rows' → (s : ℕ) → space_of c ≡ Some s → AreOf s rows'
  ranged_space some w rows' staged s named y has low = elim (staged.only y has) [
    | inl l ↦ ap (λ (p : Place). p.space) (sym l.2) ∙ ready.one_space s named l.0 l.1 (subst (λ (p : Place). p.level < 6) (sym l.2) low)
    | inr n ↦ (let o = the_op some in (new_cut a b thread c v rows kit further (book_is_consistent a ready.books.0) call_done.made space o.0 o.1 y.place n.0 n.1).same_space ∙ same (sym is.of_space ∙ named))
  ]
    where
      same : Some space ≡ Some s → space ≡ s
      same e = cc

  pub some_changes : (kit.rows.items ≡ [] → ⊥) → 0 < length kit.changes.items
  some_changes some = (the_op some).1.some_change

  module _ (some : kit.rows.items ≡ [] → ⊥) (d : Change) where
    op_is : range_change (slice_index_or kit.changes.items 0 d) ≡ Some (op_change (the_op some).0)
    op_is = ap range_change ((the_op some).1.change d)

    pub no_other : range_change (slice_index_or kit.changes.items 0 d) ≡ None → ⊥
    no_other none = absurd (never (sym op_is ∙ none))
      where
        never : Some (op_change (the_op some).0) ≡ None → ⊥
        never e = absurd (cc)

    module _ (change : RangeChange) (told : range_change (slice_index_or kit.changes.items 0 d) ≡ Some change) where
      same : op_change (the_op some).0 ≡ change
      same = inside (op_change (the_op some).0) (sym op_is ∙ told)
        where
          inside : (r : RangeChange) → Some r ≡ Some change → r ≡ change
          inside r e = cc

      pub ends_of : IsEnds a b rows space change
      ends_of =
          let o = the_op some in
          let before = book_is_consistent a ready.books.0 in
          let few = user_few (levels (state_of a)) (op_first o.0) (op_pages o.0) before.few_levels o.1.user in
          subst (IsEnds a b rows space) same (record {
            some = o.1.some;
            end = omega (arith, few);
            near = o.1.near;
            ends = (near_end a b thread c v rows kit further before call_done.made space o.0 o.1, far_end a b thread c v rows kit further before call_done.made space o.0 o.1);
          })

      module _ (done : ℕ) (w : PassView (List Cell) B E) (rows' : List Row) (so : LinkedSoFar a b thread c kit done v rows w rows')
          (near : ReachesEnd a b space change.first change.first rows') (far : ReachesEnd a b space (change.first + change.count - 1) (change.first + change.count) rows') where
        all_linked : Staged a b thread c kit v w rows rows'
        all_linked =
            let o = the_op some in
            ended a b thread c kit done v rows w rows' so (ends_reached a b thread c v rows kit further (book_is_consistent a ready.books.0) call_done.made space o.0 o.1 done w rows' so
            (subst (λ (r : RangeChange). ReachesEnd a b space r.first r.first rows') (sym same) near)
            (subst (λ (r : RangeChange). ReachesEnd a b space (r.first + r.count - 1) (r.first + r.count) rows') (sym same) far))

        pub range_linked : IsRangeLinked a b thread c v w rows' kit
        range_linked = (rows_emptied v w all_linked.view, range_ready a b thread c v rows kit ready kit_done space is w rows' all_linked (ranged_space some w rows' all_linked))

  pub none_linked : kit.rows.items ≡ [] → IsRangeLinked a b thread c v v rows kit
  none_linked none = (refl, unsplit_ready a b thread c v rows kit ready kit_done space is further none)
