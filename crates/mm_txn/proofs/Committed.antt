-- A transaction as a call whose rows are held.
--     covers      the pass holds what the call must hold
--     prepared      the kit may be planned
--     finished      what is given back
use Rattle.std.proofs.Common.{◌≡◌, ℕ, ◌+◌, ◌/◌, ◌<◌, ◌≤◌, Bool, true, false, cond, List, [], ◌∷◌, length, map, Option, None, Some, sym, refl, ap, ◌∙◌, subst, inl, inr, arith}
use Rattle.std.specs.Prelude.{Result, IsNone}
use Rattle.std.specs.List.{Contains}
use Rattle.std.proofs.lemmas.Bool.{false≢true}
use Rattle.std.proofs.lemmas.List.{length-map}
use mathlib.Core.Logic.{dite}
use native.Mathlib.Decide.{ℕ_discrete}
use Rattle.corten_base.specs.Pages.{PageRange}
use Rattle.corten_base.specs.declared.calls.Call.{Call}
use Rattle.corten_base.specs.declared.calls.Call.TheVariants as call
use Rattle.corten_base.specs.declared.numbers.Limits.{Limits}
use Rattle.book.specs.declared.commit.Answered.{Answered}
use Rattle.page_map.specs.State.{State, levels}
use Rattle.page_map.specs.Step.{arguments}
use Rattle.row_cells.specs.declared.Cell.{Cell}
use Rattle.row_layout.specs.declared.places.Layout.{Layout}
use Rattle.row_layout.specs.Places.{IsLayout}
use Rattle.row_table.specs.declared.view.HeldRow.{HeldRow as KnownRow}
use Rattle.row_table.specs.Close.{IsIdle}
use Rattle.row_table.specs.Known.{IsRight}
use Rattle.row_table.specs.Passes.{TableModel, view_of, kit_of, table_of}
use Rattle.row_table.specs.Rule.{row_part}
use Rattle.row_table.proofs.Views.{row_had}
use Rattle.table_place.specs.declared.Place.{Place}
use Rattle.table_place.specs.Place.{is_page_range, pages_of}
use Rattle.table_place.proofs.Entries.{page_parts}
use Rattle.tree_lock.specs.Held.{HeldList, row_numbers}
use Rattle.tree_lock.specs.Linked.{ShowsCover}
use Rattle.tree_lock.specs.Zone.{IsMet}
use Rattle.walk_core.specs.Lists.{times, Has}
use Rattle.walk_core.proofs.RowLists.{times-nil}
use Rattle.walk_core.proofs.Stepped.{length-missing}
use Rattle.machine_plan.specs.declared.kit.Kit.{Kit}
use Rattle.machine_plan.specs.Books.{BookData}
use Rattle.machine_plan.specs.Cover.{View}
use Rattle.machine_plan.specs.HeldRows.{Row, AreOf}
use Rattle.machine_plan.specs.Kits.{HasRoom, IsIdle as IsIdleKit, IsUngranted, IsUnplanned}
use Rattle.call_steps.specs.Ready.{IsCovered, IsPrepared}
use Rattle.call_steps.specs.Given.{IsSamePass}
use Rattle.call_steps.specs.Transacting.{IsOutside, FitsTable, CoversTable}
use Rattle.mm_txn.specs.declared.committing.Stopped.{Stopped}
use Rattle.mm_txn.specs.Fit.{IsFit}
use Rattle.mm_txn.specs.Machines.{MachinePass}
use Rattle.mm_txn.specs.Txns.{HeldRange, TxnModel, Holds, range_of, range_zone, IsCover, IsOpen}
use Rattle.mm_txn.specs.Committing.{txn_call, Concludes, IsFinished}
use Rattle.mm_txn.proofs.Opening.{layout_known}
use Rattle.mm_txn.proofs.Telling.{range_parts}

nothing_mapped : {X Y : Type 0} (f : X → Y) (xs : List X) → map f xs ≡ [] → xs ≡ []
nothing_mapped f [] none = refl
nothing_mapped f (x ∷ xs) none = cc none

no_pages : (depth at len : ℕ) → range_of depth at len ≡ None → is_page_range depth at len ≡ true → ⊥
no_pages depth at len none is = go (is_page_range depth at len) is none
  where
    go : (b : Bool) → b ≡ true → cond {A = Option PageRange} b (Some (record { first = at / 4096; count = pages_of len })) None ≡ None → ⊥
    go true e h = some_none h
      where
        some_none : {r : PageRange} → ◌≡◌ {A = Option PageRange} (Some r) None → ⊥
        some_none h = cc h
    go false e h = false≢true e

right_range : (b : Bool) (r : Rattle.corten_base.specs.declared.calls.Reply.Reply) → IsNone (cond b None (Some r)) → b ≡ true
right_range true r h = refl
right_range false r h = absurd (false≢true (sym h))

module _ (t : TxnModel) (opened : IsOpen t.held) where
  abbrev x : HeldRange
  x = t.held

  abbrev v : View
  v = view_of t.held.pass

  abbrev c : Call
  c = call.Txn t.held.space t.held.at t.held.len t.ops

  pub outside : IsOutside (view_of t.held.pass)
  outside = record { outside = opened.outside; granted = opened.granted; unlinked = opened.unlinked; has_not = opened.has_not }

  same_layout : v.layout ≡ t.held.machine.table.layout
  same_layout = layout_known t.held.pass ∙ ap (λ (y : TableModel BookData). y.layout) opened.member

  range_is : (st : State) → levels st ≡ v.layout.levels → IsNone (arguments st c) → is_page_range t.held.machine.table.layout.levels t.held.at t.held.len ≡ true
  range_is st same none = ap (λ (n : ℕ). is_page_range n t.held.at t.held.len) (sym (same ∙ ap (λ (k : Layout). k.levels) same_layout)) ∙ right_range (is_page_range (levels st) t.held.at t.held.len) _ none

  covers_none : (files : ℕ) → t.held.range ≡ None → IsRight v → IsCovered files v.number c v t.held.list.rows
  covers_none files none right =
      let empty : (v.core.held ≡ []) × (t.held.list.rows ≡ []) = subst (λ (o : Option PageRange). Holds t.held.space o v t.held.list.rows) none opened.holds in
      let no_known : v.rows ≡ [] = nothing_mapped row_part v.rows (right.rows ∙ empty.0) in
      let no_row : (y : Row) → Contains t.held.list.rows y → ⊥ = λ y has. (let at : Contains {X = Row} [] y = subst (λ (l : List Row). Contains l y) empty.1 has in absurd (omega (arith, at.1))) in
      record {
        listed = record {
          exact = record { held = λ r. ap (λ (l : List Row). times r (row_numbers l)) empty.1 ∙ ap (times r) (sym empty.0); shown = right.rows };
          each = λ y has. absurd (no_row y has);
        };
        in_tree = λ h has. (let at : Contains {X = KnownRow (List Cell)} [] h = subst (λ (l : List (KnownRow (List Cell))). Contains l h) no_known has in absurd (omega (arith, at.1)));
        one_space = λ s e y has. absurd (no_row y has);
        few_rows = (let l = ap length empty.1 in omega (arith, l));
        covers = λ st same long ok. absurd (no_pages t.held.machine.table.layout.levels t.held.at t.held.len (sym opened.pages ∙ none) (range_is st same ok));
      }

  module _ (r : PageRange) (some : t.held.range ≡ Some r) (right : IsRight v) (sizes : IsLayout t.held.machine.table.layout) where
    covered : IsCover t.held.space r v t.held.list.rows
    covered = subst (λ (o : Option PageRange). Holds t.held.space o v t.held.list.rows) some opened.holds

    parts : (is_page_range t.held.machine.table.layout.levels t.held.at t.held.len ≡ true) × (record { first = t.held.at / 4096; count = pages_of t.held.len } ≡ r)
    parts = range_parts t.held.machine.table.layout.levels t.held.at t.held.len r (sym opened.pages ∙ some)

    of_space : AreOf t.held.space t.held.list.rows
    of_space y has low = let l = covered.listed.each y has in go l.known.place (sym l.same_place) (covered.shows.covers.each l.known l.held).met
      where
        go : (p : Place) → y.place ≡ p → IsMet v.layout.levels (range_zone t.held.space r) p → y.place.space ≡ t.held.space
        go p same (inl e) = absurd (omega (arith, low, ap (λ (q : Place). q.level) (same ∙ e)))
        go p same (inr m) = ap (λ (q : Place). q.space) same ∙ ((page_parts p m.1.space m.1.page (omega (arith, low, ap (λ (q : Place). q.level) same)) m.1.of_span).0 ∙ m.1.of_zone.0)

    few_rows : length t.held.list.rows ≤ 1024
    few_rows =
        let few = length-missing (row_numbers t.held.list.rows) (v.layout.rows + 1) v.layout.rows (λ q. let e = covered.listed.exact.held q in let o = right.once q in omega (arith, e, o)) (λ q high. none_from q (omega (arith, high))) (omega arith) (none_from v.layout.rows (omega arith)) in
        let l = length-map t.held.list.rows (λ (y : Row). y.row) in
        let k = ap (λ (y : Layout). y.rows) same_layout in
        let small = sizes.1 in
        omega (arith, few, l, k, small)
      where
        none_from : (q : ℕ) → v.layout.rows ≤ q → times q (row_numbers t.held.list.rows) ≡ 0
        none_from q high = dite (ℕ_discrete (times q (row_numbers t.held.list.rows)) 0) (λ z. z) (λ nz.
            let e = covered.listed.exact.held q in
            let s = ap (times q) covered.listed.exact.shown in
            let at = row_had v.rows q (omega (arith, nz, e, s)) in
            let low = (covered.shows.covers.each at.0 at.1).there in
            absurd (omega (arith, low, at.2, high)))

    covers_some : (files : ℕ) → IsCovered files v.number c v t.held.list.rows
    covers_some files = record {
      listed = covered.listed;
      in_tree = covered.shows.in_tree;
      one_space = λ s e. subst (λ (n : ℕ). AreOf n t.held.list.rows) (Rattle.std.proofs.lemmas.Option.same_Some t.held.space s e) of_space;
      few_rows = few_rows;
      covers = λ st same long ok. subst (λ (q : PageRange). ShowsCover v.layout (range_zone t.held.space q) v) (sym parts.1) covered.shows;
    }

  pub covers : IsLayout t.held.machine.table.layout → CoversTable t.held.machine.table.origin c v t.held.list.rows
  covers sizes first at right = go t.held.range refl
    where
      go : (o : Option PageRange) → t.held.range ≡ o → IsCovered (length first.files) v.number c v t.held.list.rows
      go None e = covers_none (length first.files) e right
      go (Some r) e = covers_some r e right sizes (length first.files)

  pub prepared : IsPrepared v.number c t.held.list.rows t.held.kit
  prepared = record {
    no_copy = refl;
    room = opened.plain.0;
    idle = opened.plain.2;
    ungranted = opened.plain.1;
    lists = tt;
    no_seconds = (opened.plain.3.second_frames, opened.plain.3.second_slots);
    pieces = λ b shown none. opened.plain.3.pieces;
  }

  -- q: the pass after the call, p: with its kit in place again
  pub finished : (q p : MachinePass) (kit : Kit) (list : HeldList (List Cell)) (outcome : Result Answered Stopped) → table_of q ≡ table_of t.held.pass → (list.rows ≡ []) × (list.room ≡ t.held.list.room) → HasRoom kit → IsUngranted kit → IsIdleKit kit → IsUnplanned kit → IsIdle (view_of q)
      → IsSamePass (view_of t.held.pass) (view_of q) → Concludes v.number c v (view_of q) outcome → kit_of p ≡ Some (kit, list) → (view_of p ≡ view_of q) × (table_of p ≡ table_of q) → IsFinished t p outcome
  finished q p kit list outcome table empty room ungranted idle_kit unplanned idle same answer put kept = record {
    back = (
      kept.1 ∙ (table ∙ opened.member),
      (
        subst (λ (u : View). IsIdle u) (sym kept.0) idle,
        ((kit, list), put, (room, ungranted, idle_kit, unplanned, empty.0, subst (λ (n : ℕ). t.held.machine.table.layout.rows ≤ n) (sym empty.1) opened.room)),
      ),
    );
    same = subst (λ (u : View). IsSamePass v u) (sym kept.0) same;
    answer = subst (λ (u : View). Concludes v.number c v u outcome) (sym kept.0) answer;
  }

pub fits_table : (t : TableModel BookData) (greatest : Limits) (files : ℕ) → IsFit t greatest files → (first : BookData) → t.origin ≡ Some first → FitsTable t.layout first
fits_table t greatest files fit first at = record { levels = fit.book_levels first at; sum = fit.sum first at }
