-- A call that gives a range another length, once the tables that it lacked are linked.
--     resizable      what the last part of the apply asks
--     covered      the rows have the cover of the space after the call
use Rattle.std.specs.Prelude.{◌≡◌, ℕ, zero, suc, ◌+◌, ◌-◌, ◌<◌, ◌≤◌, Bool, true, false, cond, List}
use Rattle.std.specs.FinSet as set
use Rattle.std.proofs.Common.{sym, refl, ◌∙◌, ap, subst, arith, inl, inr, ne_eqb}
use Rattle.std.proofs.lemmas.Bool.{true≢false, eq-eqb}
use Rattle.corten_base.specs.declared.calls.Call.{Call}
use Rattle.page_map.specs.Effect.{space_of}
use Rattle.page_map.specs.State.{IsConsistent, levels}
use Rattle.row_cells.specs.declared.Cell.{Cell}
use Rattle.row_table.specs.declared.view.PassView.{PassView}
use Rattle.table_place.specs.declared.Place.{Place}
use Rattle.table_place.specs.Place.{directory, has_page, parent, span_first}
use Rattle.table_place.proofs.Entries.{first_page, level_of}
use Rattle.tree_lock.specs.declared.zone.Zone.TheVariants as zone
use Rattle.tree_lock.specs.Zone.{Meets}
use Rattle.machine_plan.specs.declared.kit.Kit.{Kit}
use Rattle.machine_plan.specs.Agrees.{below}
use Rattle.machine_plan.specs.Books.{BookData, state_of}
use Rattle.machine_plan.specs.Cover.{HasCover}
use Rattle.machine_plan.specs.Held.{ListHolds}
use Rattle.machine_plan.specs.HeldRows.{Row, AreOf}
use Rattle.machine_plan.proofs.Whole.{book_is_consistent}
use Rattle.cursor_detach.specs.Left.{IsCommitted}
use Rattle.cursor_detach.specs.Cutting.{above_place, above_index}
use Rattle.cursor_detach.proofs.Positions.{leads_there, index_inside}
use Rattle.cursor_apply.specs.Applying.{IsApplicable}
use Rattle.cursor_apply.specs.Linking.{IsLinkable}
use Rattle.move_apply.specs.Remapping.{IsRemapIn}
use Rattle.move_apply.specs.Resizing.{IsResizable}
use Rattle.cursor_apply.specs.Staging.{AreStaged, Staged}
use Rattle.move_apply.proofs.RemapLinks.{as_done, linkable, new_of_space}

module _ {B E : Type 0} (a b : BookData) (thread : ℕ) (c : Call) (v : PassView (List Cell) B E) (rows : List Row) (kit : Kit) (space : ℕ) (ready : IsApplicable a b thread c v rows kit) (done : kit.done ≡ true)
    (further : IsLinkable a b thread c v rows kit) (is : IsRemapIn space c) (w : PassView (List Cell) B E) (rows' : List Row) (staged : Staged a b thread c kit v w rows rows') where
  before : IsConsistent (state_of a)
  before = book_is_consistent a ready.books.0

  of_space : AreOf space rows'
  of_space y has low = elim (staged.only y has) [
    | inl l ↦ ap (λ (p : Place). p.space) (sym l.2) ∙ ready.one_space space (ap space_of is.is) l.0 l.1 (subst (λ (p : Place). p.level < 6) (sym l.2) low)
    | inr n ↦ new_of_space a b thread c v rows kit space ready done further is y.place n.0 n.1
  ]

  committed : IsCommitted a b thread c ready.answered
  committed = elim ready.committed [
    | inl made ↦ made
    | inr none ↦ absurd (true≢false (sym done ∙ (ap (λ (k : Kit). k.done) ready.same_kit ∙ none.0.ungranted.not_done)))
  ]

  pub resizable : IsResizable a b thread space is.at is.old_len is.new_len w rows' kit
  resizable = record {
    small = (as_done a b thread c v rows kit space ready done further is).small;
    consistent = (before, ready.consistent);
    books = ready.books;
    exact = staged.exact;
    staged = subst (λ (x : Call). AreStaged a b (state_of b).tables thread x kit w rows') is.is staged.staged;
    given = staged.given;
    hand = (ap (λ (z : PassView (List Cell) B E). z.hand) staged.view, ap (λ (z : PassView (List Cell) B E). z.core.granted) staged.view);
    one_space = of_space;
    answered = ready.answered;
    same_kit = ready.same_kit;
    committed = subst (λ (x : Call). IsCommitted a b thread x ready.answered) is.is committed;
    done = done;
    room = ready.room;
  }

  -- ---- its cover

  few : levels (state_of a) ≤ 5
  few = before.few_levels

  same_levels : levels (state_of b) ≡ levels (state_of a)
  same_levels = (as_done a b thread c v rows kit space ready done further is).call.made.same_levels

  in_zone : (p : Place) → set.contains (state_of a).tables p ≡ true → p.space ≡ space → Meets (zone.Space space) p
  in_zone p there here = record {
    space = space;
    page = span_first p;
    of_zone = refl;
    of_span = subst (λ s. has_page p s (span_first p) ≡ true) here (first_page p (let d = (level_of (levels (state_of a)) p (before.places p there)).1 in let f = few in omega (arith, d, f)));
  }

  step_down : (p : Place) → set.contains (state_of a).tables p ≡ true → set.contains (state_of b).tables p ≡ true → p.space ≡ space → ListHolds rows (above_place (levels (state_of a)) p) → ListHolds rows p
  step_down p was there here up =
      let placed = before.places p was in
      let low : below (levels (state_of a)) up.0.place (above_index (levels (state_of a)) p) ≡ p = ap (λ q. below (levels (state_of a)) q (above_index (levels (state_of a)) p)) up.2 ∙ leads_there (levels (state_of a)) p (let f = few in omega (arith, f)) placed in
      let l = (linkable a b thread c v rows kit space ready done further is).links up.0 (above_index (levels (state_of a)) p) up.1 (index_inside (levels (state_of a)) p placed) (subst (Meets (zone.Space space)) (sym low) (in_zone p was here))
      (ap (set.contains (state_of a).tables) low ∙ was) (ap (set.contains (state_of b).tables) low ∙ there) in
      (l.0, l.1, l.2 ∙ low)

  module _ (top : ListHolds rows directory) where
    held_from : (n : ℕ) (p : Place) → p.level + n ≡ levels (state_of a) → set.contains (state_of a).tables p ≡ true → set.contains (state_of b).tables p ≡ true → p.space ≡ space → ListHolds rows p
    held_from zero p e was there here =
        step_down p was there here (top.0, top.1, top.2 ∙ sym (ap (λ x. cond x directory (parent p)) (eq-eqb p.level (levels (state_of a)) (omega (arith, e)))))
    held_from (suc n) p e was there here =
        let l = held_from n (parent p) (more p.level n (levels (state_of a)) e) (before.parents p was (less p.level n (levels (state_of a)) e)) (ready.consistent.parents p there (let same = same_levels in let low = less p.level n (levels (state_of a)) e in omega (arith, same, low))) here in
        step_down p was there here (l.0, l.1, l.2 ∙ sym (ap (λ x. cond x directory (parent p)) (ne_eqb p.level (levels (state_of a)) (λ same. absurd (omega (arith, same, e))))))
      where
        more : (k n m : ℕ) → k + suc n ≡ m → k + 1 + n ≡ m
        more k n m e = omega arith

        less : (k n m : ℕ) → k + suc n ≡ m → k < m
        less k n m e = omega arith

    kept_there : (p : Place) → ListHolds rows p → ListHolds rows' p
    kept_there p l = let y = staged.kept l.0 l.1 in (y.0, y.1, y.3 ∙ l.2)

    table_there : (p : Place) → set.contains (state_of b).tables p ≡ true → p.space ≡ space → ListHolds rows' p
    table_there p there here = go (set.contains (state_of a).tables p) refl
      where
        go : (t : Bool) → set.contains (state_of a).tables p ≡ t → ListHolds rows' p
        go false gone = staged.made p gone there
        go true was =
            let d = (level_of (levels (state_of a)) p (before.places p was)).1 in
            kept_there p (held_from (levels (state_of a) - p.level) p (omega (arith, d)) was there here)

    pub covered : HasCover (zone.Space space) (state_of b) (ListHolds rows')
    covered p (inl is_top) = kept_there p (top.0, top.1, top.2 ∙ sym is_top)
    covered p (inr both) = table_there p both.0 both.1
