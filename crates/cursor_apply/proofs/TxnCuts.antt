-- The tables that a transaction lacks are those that the ranges of its operations cut.
--     each_of, op_at      what holds of each holds of one;  the change that an operation of a kit is
--     IsDone, is_done, txn_done      a call that was accepted, and the changes of its kit
--     may_link_by, cut_by_some      the tables that an operation cuts may be linked, and each missing one is such
--     new_space      which is of the space
--     all_cut      where all these are there, all of b are
use Rattle.std.specs.Prelude.{◌≡◌, ℕ, zero, suc, ◌+◌, ◌-◌, ◌*◌, ◌/◌, ◌^◌, ◌<◌, ◌≤◌, ◌⊎◌, Bool, true, false, List, [], ◌∷◌, map, length, slice_index_or, Option, Some, None, is_some}
use Rattle.std.specs.List.{AllByRecursion, flat_map, list_any}
use Rattle.std.specs.Option.{option_map}
use Rattle.std.specs.Ordering.{eq_by_cmp}
use Rattle.std.specs.FinSet as set
use Rattle.std.proofs.Common.{sym, refl, ◌∙◌, ap, subst, arith, inl, inr}
use Rattle.std.proofs.lemmas.Bool.{true≢false, false≢true, and_parts, leb-true, or_cases, or_left, or_right}
use Rattle.std.proofs.lemmas.Nat.{div-mul-add}
use mathlib.Core.Logic.{dite}
use native.Mathlib.Decide.{ℕ_discrete}
use Rattle.corten_base.specs.declared.calls.Call.{Call}
use Rattle.corten_base.specs.declared.calls.Call.TheVariants as call
use Rattle.corten_base.specs.declared.calls.Reply.{Reply}
use Rattle.corten_base.specs.declared.calls.Reply.TheVariants as reply
use Rattle.corten_base.specs.declared.calls.TxnOp.{TxnOp}
use Rattle.corten_base.specs.declared.calls.Why.{Why}
use Rattle.page_map.specs.Effect.{cut_by_op, is_given_up, wanted_tables}
use Rattle.page_map.specs.Mapping.{op_first, op_pages, is_right, is_right_within, undone}
use Rattle.page_map.specs.State.{State, IsConsistent, levels, space_at}
use Rattle.page_map.specs.Tables.{Tables, changed_tables}
use Rattle.page_map.proofs.Above.{any_flat}
use Rattle.page_map.proofs.Growth.{stays, comes, whence}
use Rattle.page_map.proofs.Mappings.{IsOver, none_undone, right_over, user_few}
use Rattle.page_map.proofs.NeedOf.{IsCut, cut_parts, cut_from}
use Rattle.page_map.proofs.Unmapped.{held_of}
use Rattle.page_map.proofs.Wanted.{is_wanted}
use Rattle.row_cells.specs.declared.Cell.{Cell}
use Rattle.row_table.specs.declared.view.PassView.{PassView}
use Rattle.table_place.specs.declared.Place.{Place}
use Rattle.table_place.specs.Place.{root, place_of, place_cmp, pages_of, span_first, span_count}
use Rattle.table_place.specs.Range.{lies_in}
use Rattle.table_place.proofs.Entries.{page_in_span}
use Rattle.table_place.proofs.Spans.{span_pos, user_below}
use Rattle.table_place.proofs.Tables.{in_range, to_range}
use Rattle.tree_lock.specs.Zone.{ZoneHas}
use Rattle.machine_plan.specs.declared.kit.Change.{Change}
use Rattle.machine_plan.specs.declared.kit.Change.TheVariants.{Op}
use Rattle.machine_plan.specs.declared.kit.Kit.{Kit}
use Rattle.machine_plan.specs.Books.{BookData, state_of}
use Rattle.machine_plan.specs.Held.{ListHolds}
use Rattle.machine_plan.specs.HeldRows.{Row}
use Rattle.machine_plan.specs.Uses.{changes_of, zone_of}
use Rattle.machine_plan.proofs.Towers.{root_is, tower_has}
use Rattle.machine_plan.proofs.Whole.{book_is_consistent}
use Rattle.cursor_detach.specs.Left.{IsCommitted}
use Rattle.cursor_apply.specs.Applying.{IsApplicable}
use Rattle.cursor_apply.specs.Changed.{range_change}
use Rattle.cursor_apply.specs.Linking.{IsLinkable, IsLow, LinkedSoFar, MayLinkCut, MayLinkPage}
use Rattle.cursor_apply.specs.Transacting.{IsTxnIn, MayLinkBy, ReachesBy}
use Rattle.cursor_apply.proofs.AboveCuts.{cut_there}
use Rattle.cursor_apply.specs.declared.becoming.RangeChange.{RangeChange}
use Rattle.cursor_apply.proofs.AbovePages.{nested, still_reached}
use Rattle.cursor_apply.proofs.Made.{IsMade, is_made}
use Rattle.cursor_apply.proofs.StagedStart.{changed}

-- ---- lists

module _ {X : Type 0} where
  pub each_of : (P : X → Type 0) (xs : List X) (k : ℕ) (d : X) → AllByRecursion P xs → k < length xs → P (slice_index_or xs k d)
  each_of P [] k d h less = absurd (omega arith)
  each_of P (x ∷ xs) zero d h less = h.0
  each_of P (x ∷ xs) (suc k) d h less = each_of P xs k d h.1 (omega (arith, less))

  pub any_at : (t : X → Bool) (xs : List X) (k : ℕ) (d : X) → k < length xs → t (slice_index_or xs k d) ≡ true → list_any t xs ≡ true
  any_at t [] k d less h = absurd (omega arith)
  any_at t (x ∷ xs) zero d less h = or_left (t x) (list_any t xs) h
  any_at t (x ∷ xs) (suc k) d less h = or_right (t x) (list_any t xs) (any_at t xs k d (omega (arith, less)) h)

  pub any_of : (t : X → Bool) (xs : List X) → list_any t xs ≡ true → (k : ℕ) × (k < length xs) × ((d : X) → t (slice_index_or xs k d) ≡ true)
  any_of t [] h = absurd (false≢true h)
  any_of t (x ∷ xs) h = elim (or_cases (t x) (list_any t xs) h) [
    | inl here ↦ (0, omega arith, λ d. here)
    | inr later ↦ (let r = any_of t xs later in (r.0 + 1, omega (arith, r.1), λ d. subst (λ n. t (slice_index_or (x ∷ xs) n d) ≡ true) (next r.0) (r.2 d)))
  ]
    where
      next : (n : ℕ) → suc n ≡ n + 1
      next n = omega arith

-- as many changes as operations
pub ops_long : (ops : List TxnOp) → length (map Op ops) ≡ length ops
ops_long [] = refl
ops_long (o ∷ os) = let rest = ops_long os in omega arith

pub op_at : (ops : List TxnOp) (k : ℕ) (d : Change) (e : TxnOp) → k < length ops → slice_index_or (map Op ops) k d ≡ Op (slice_index_or ops k e)
op_at [] k d e less = absurd (omega arith)
op_at (o ∷ os) zero d e less = refl
op_at (o ∷ os) (suc k) d e less = op_at os k d e (omega (arith, less))

some_op : (ops : List TxnOp) (k : ℕ) → k < length ops → TxnOp
some_op [] k less = absurd (omega arith)
some_op (o ∷ os) k less = o

-- ---- a call that was accepted

pub record IsDone (a b : BookData) (thread : ℕ) (c : Call) (kit : Kit) : Type 0 where
  pub made : IsMade a b thread c kit
  pub changes : kit.changes.items ≡ changes_of (state_of a) thread c

pub is_done : (a b : BookData) (thread : ℕ) (c : Call) (kit answered : Kit) → kit.done ≡ true → kit ≡ record answered { gone = kit.gone } → IsCommitted a b thread c answered → IsDone a b thread c kit
is_done a b thread c kit answered done same committed =
    let made = is_made a b thread c kit answered done same committed in
    let early : committed.filled.early ≡ None = sym (ap (λ (k : Kit). k.early) same ∙ committed.commits.same.1) ∙ made.early in
    record {
      made = made;
      changes = ap (λ (k : Kit). k.changes.items) same ∙ (committed.commits.same.0 ∙ (committed.was_filled.planned (ap (λ (x : Option Reply). is_some x) early)).changes);
    }

pub txn_done : {B E : Type 0} (a b : BookData) (thread : ℕ) (c : Call) (v : PassView (List Cell) B E) (rows : List Row) (kit : Kit) → IsApplicable a b thread c v rows kit → kit.done ≡ true → IsDone a b thread c kit
txn_done a b thread c v rows kit ready done = elim ready.committed [
  | inl committed ↦ is_done a b thread c kit ready.answered done ready.same_kit committed
  | inr none ↦ absurd (true≢false (sym done ∙ (ap (λ (k : Kit). k.done) ready.same_kit ∙ none.0.ungranted.not_done)))
]

-- no operation was refused
pub none_undone_in : (u : Option (ℕ × Why)) → option_map (λ (w : ℕ × Why). reply.Undone w.0 w.1) u ≡ None → u ≡ None
none_undone_in None e = refl
none_undone_in (Some w) e = absurd (cc)

-- ---- one operation

module _ (L space first count : ℕ) (few : L ≤ 5) (some : 1 ≤ count) (k : ℕ) (deep : 1 ≤ k) (high : k < L) where
  small : k < 6
  small = omega (arith, high, few)

  in_near : (page : ℕ) → (span_first (place_of space k page) ≤ page) × (page < span_first (place_of space k page) + span_count (place_of space k page))
  in_near page = in_range (span_first (place_of space k page)) (span_count (place_of space k page)) page (page_in_span (place_of space k page) space page small (tower_has space k page small))

  pub near_cut : (low : ℕ) → IsLow L first low → low ≤ k → IsCut L space first count (place_of space k first)
  near_cut low is le =
      let cut = is.cut (omega (arith, le, high)) in
      let up = nested first low k le in
      let at = in_near first in
      record {
        same_space = refl;
        low = deep;
        high = high;
        page = first;
        within_range = to_range first count first (omega arith) (omega (arith, some));
        from = at.0;
        to = at.1;
        outside = inl (omega (arith, up, cut));
      }

  pub far_cut : (low : ℕ) → IsLow L (first + count) low → low ≤ k → IsCut L space first count (place_of space k (first + count - 1))
  far_cut low is le =
      let at = in_near (first + count - 1) in
      record {
        same_space = refl;
        low = deep;
        high = high;
        page = first + count - 1;
        within_range = to_range first count (first + count - 1) (omega (arith, some)) (omega (arith, some));
        from = at.0;
        to = at.1;
        outside = inr (strictly (first + count) (span_first (place_of space k (first + count - 1)) + span_count (place_of space k (first + count - 1))) (omega (arith, at.1, some)) never);
      }
    where
      strictly : (n m : ℕ) → n ≤ m → (n ≡ m → ⊥) → n < m
      strictly n m le ne = omega arith

      -- no end of a table is at the end of the range
      never : first + count ≡ span_first (place_of space k (first + count - 1)) + span_count (place_of space k (first + count - 1)) → ⊥
      never e =
          let s = 512 ^ k in
          let p = (first + count - 1) / 512 ^ k in
          let cut = is.cut (omega (arith, le, high)) in
          let up = nested (first + count) low k le in
          let end : (p + 1) * 512 ^ k + 0 ≡ first + count = by p (512 ^ k) (sym e) in
          let parts : (first + count) / 512 ^ k ≡ p + 1 = ap (λ n. n / 512 ^ k) (sym end) ∙ div-mul-add (p + 1) (512 ^ k) 0 (span_pos k) in
          let whole : (first + count) / 512 ^ k * 512 ^ k ≡ (p + 1) * 512 ^ k = ap (λ n. n * 512 ^ k) parts in
          omega (arith, whole, end, up, cut)
        where
          by : (p s : ℕ) → p * s + s ≡ first + count → (p + 1) * s + 0 ≡ first + count
          by p s h = plain p s ∙ h
            where
              plain : (p s : ℕ) → (p + 1) * s + 0 ≡ p * s + s
              plain p s = omega arith

module _ {B E : Type 0} (a b : BookData) (thread space at len : ℕ) (ops : List TxnOp) (v : PassView (List Cell) B E) (rows : List Row) (kit : Kit) (further : IsLinkable a b thread (call.Txn space at len ops) v rows kit) (before : IsConsistent (state_of a))
    (done : IsDone a b thread (call.Txn space at len ops) kit) where
  abbrev c : Call
  c = call.Txn space at len ops

  abbrev L : ℕ
  L = levels (state_of a)

  abbrev first : ℕ
  first = at / 4096

  abbrev count : ℕ
  count = pages_of len

  few : L ≤ 5
  few = before.few_levels

  rights : AllByRecursion (λ (o : TxnOp). is_right_within L (state_of a).files first count o ≡ true) ops
  rights = none_undone (is_right_within L (state_of a).files first count) 1 ops (space_at (state_of a) space)
      (none_undone_in (undone (is_right_within L (state_of a).files first count) 1 ops (space_at (state_of a) space)) done.made.ok.pages)

  changes_are : kit.changes.items ≡ map Op ops
  unfolding changes_of
  changes_are = done.changes

  tables_now : (p : Place) → set.contains (state_of b).tables p ≡ true → (set.contains (state_of a).tables p ≡ true) ⊎ (is_wanted (flat_map (cut_by_op (state_of a) space) ops) p ≡ true)
  tables_now p there = elim (whence (is_given_up (state_of a) c) (wanted_tables (state_of a) thread c) (state_of a).tables p (sym (ap (λ (s : Tables). set.contains s p) now_is) ∙ there)) [
    | inl old ↦ inl old.0
    | inr new ↦ inr new
  ]
    where
      now_is : (state_of b).tables ≡ changed_tables (is_given_up (state_of a) c) (wanted_tables (state_of a) thread c) (state_of a).tables
      now_is = ap (λ (s : State). s.tables) done.made.state ∙ changed (state_of a) thread c

  cut_now : (p : Place) → is_wanted (flat_map (cut_by_op (state_of a) space) ops) p ≡ true → set.contains (state_of b).tables p ≡ true
  cut_now p wanted = ap (λ (s : State). set.contains s.tables p) done.made.state ∙ (ap (λ (s : Tables). set.contains s p) (changed (state_of a) thread c) ∙ comes (is_given_up (state_of a) c) (wanted_tables (state_of a) thread c) (state_of a).tables p wanted)

  root_now : set.contains (state_of b).tables (root L space) ≡ true
  root_now = ap (λ (s : State). set.contains s.tables (root L space)) done.made.state ∙ (ap (λ (s : Tables). set.contains s (root L space)) (changed (state_of a) thread c)
      ∙ stays (is_given_up (state_of a) c) (wanted_tables (state_of a) thread c) (state_of a).tables (root L space) (before.roots space (held_of _ _ done.made.ok.space)) refl)

  module _ (o : TxnOp) (right : is_right_within L (state_of a).files first count o ≡ true) where
    both : (is_right L (state_of a).files o ≡ true) × (lies_in (op_first o) (op_pages o) first count ≡ true)
    both = and_parts (is_right L (state_of a).files o) (lies_in (op_first o) (op_pages o) first count) right

    over : IsOver L o
    over = right_over L (state_of a).files o few both.0

    lies : (first ≤ op_first o) × (op_first o + op_pages o ≤ first + count)
    lies = let l = and_parts _ _ both.1 in (leb-true first (op_first o) l.0, leb-true (op_first o + op_pages o) (first + count) l.1)

    pub op_end : op_first o + op_pages o < 2 ^ 44
    op_end = user_few L (op_first o) (op_pages o) few over.user

    module _ (there : (p : Place) → IsCut L space (op_first o) (op_pages o) p → set.contains (state_of b).tables p ≡ true) where
      in_zone : (q : ℕ) → op_first o ≤ q → q < op_first o + op_pages o → ZoneHas (zone_of thread c) space q
      in_zone q from to = (refl, let l = lies.0 in omega (arith, l, from), let l = lies.1 in omega (arith, l, to))

      at_root : (q : ℕ) → q < op_first o + op_pages o → set.contains (state_of b).tables (place_of space L q) ≡ true
      at_root q less = subst (λ (p : Place). set.contains (state_of b).tables p ≡ true) (sym (root_is L space q (let end = user_below L (op_first o) (op_pages o) over.user in omega (arith, end, less)))) root_now

      by_level : (q k low : ℕ) → q < op_first o + op_pages o → 1 ≤ k → k ≤ L → (k < L → IsCut L space (op_first o) (op_pages o) (place_of space k q)) → set.contains (state_of b).tables (place_of space k q) ≡ true
      by_level q k low less deep high cut = dite (ℕ_discrete k L)
          (λ e. subst (λ n. set.contains (state_of b).tables (place_of space n q) ≡ true) (sym e) (at_root q less))
          (λ ne. there (place_of space k q) (cut (strictly k L high ne)))
        where
          strictly : (n m : ℕ) → n ≤ m → (n ≡ m → ⊥) → n < m
          strictly n m le ne = omega arith

      at_page : (edge q low : ℕ) → IsLow L edge low → op_first o ≤ q → q < op_first o + op_pages o → ((k : ℕ) → 1 ≤ k → k < L → low ≤ k → IsCut L space (op_first o) (op_pages o) (place_of space k q)) → MayLinkPage a b rows space q low
      at_page edge q low is from to cut =
          let r = further.zone space q (in_zone q from to) in
          record {
            row = r.0;
            there = r.1;
            has = r.2;
            deep = is.deep;
            high = is.high;
            wanted = λ k le high. by_level q k low to (let d = is.deep in omega (arith, d, le)) high (λ less. cut k (let d = is.deep in omega (arith, d, le)) less le);
            linked = λ y i has inside page was is_now. further.links y i has inside (record { space = space; page = q; of_zone = in_zone q from to; of_span = page }) was is_now;
          }

      pub may_cut : MayLinkCut a b rows space (op_first o) (op_pages o)
      may_cut = let s = over.some in record {
        some = s;
        near = λ low is. at_page (op_first o) (op_first o) low is (omega arith) (omega (arith, s)) (λ k deep high le. near_cut L space (op_first o) (op_pages o) few s k deep high low is le);
        far = λ low is. at_page (op_first o + op_pages o) (op_first o + op_pages o - 1) low is (omega (arith, s)) (omega (arith, s)) (λ k deep high le. far_cut L space (op_first o) (op_pages o) few s k deep high low is le);
      }

  -- ---- each operation of the kit

  module _ (k : ℕ) (less : k < length kit.changes.items) where
    in_ops : k < length ops
    in_ops = let e = ap length changes_are ∙ ops_long ops in omega (arith, e, less)

    the_op : TxnOp
    the_op = slice_index_or ops k (some_op ops k in_ops)

    is_op : (d : Change) → slice_index_or kit.changes.items k d ≡ Op the_op
    unfolding the_op
    is_op d = ap (λ (l : List Change). slice_index_or l k d) changes_are ∙ op_at ops k d (some_op ops k in_ops) in_ops

    op_right : is_right_within L (state_of a).files first count the_op ≡ true
    unfolding the_op
    op_right = each_of (λ (o : TxnOp). is_right_within L (state_of a).files first count o ≡ true) ops k (some_op ops k in_ops) rights in_ops

    op_some : 1 ≤ op_pages the_op
    op_some = (over the_op op_right).some

    op_cut : (p : Place) → IsCut L space (op_first the_op) (op_pages the_op) p → set.contains (state_of b).tables p ≡ true
    unfolding the_op
    op_cut p cut = cut_now p (any_flat (eq_by_cmp place_cmp p) (cut_by_op (state_of a) space) ops
        ∙ any_at (λ (o : TxnOp). is_wanted (cut_by_op (state_of a) space o) p) ops k (some_op ops k in_ops) in_ops (cut_from L space (op_first the_op) (op_pages the_op) p few cut))

    pub may_link_by : (d : Change) → MayLinkBy a b rows space (range_change (slice_index_or kit.changes.items k d))
    may_link_by d = subst (λ (x : Change). MayLinkBy a b rows space (range_change x)) (sym (is_op d)) (may_cut the_op op_right op_cut, let e = op_end the_op op_right in omega (arith, e))

  -- each missing table is cut by one
  cut_by_some : (p : Place) → set.contains (state_of a).tables p ≡ false → set.contains (state_of b).tables p ≡ true → (k : ℕ) × (k < length ops) × ((e : TxnOp) → is_wanted (cut_by_op (state_of a) space (slice_index_or ops k e)) p ≡ true)
  cut_by_some p none there = elim (tables_now p there) [
    | inl old ↦ absurd (true≢false (sym old ∙ none))
    | inr new ↦ any_of (λ (o : TxnOp). is_wanted (cut_by_op (state_of a) space o) p) ops (sym (any_flat (eq_by_cmp place_cmp p) (cut_by_op (state_of a) space) ops) ∙ new)
  ]

  -- so it is of the space
  pub new_space : (p : Place) → set.contains (state_of a).tables p ≡ false → set.contains (state_of b).tables p ≡ true → p.space ≡ space
  new_space p none there =
      let k = cut_by_some p none there in
      let o = slice_index_or ops k.0 (some_op ops k.0 k.1) in
      let right = each_of (λ (o : TxnOp). is_right_within L (state_of a).files first count o ≡ true) ops k.0 (some_op ops k.0 k.1) rights k.1 in
      (cut_parts L space (op_first o) (op_pages o) p few (over o right).some (k.2 (some_op ops k.0 k.1))).same_space

  pub all_cut : (next : ℕ) (w : PassView (List Cell) B E) (rows' : List Row) (so : LinkedSoFar a b thread (call.Txn space at len ops) kit next v rows w rows')
      → ((k : ℕ) (d : Change) → k < length kit.changes.items → ReachesBy L space (range_change (slice_index_or kit.changes.items k d)) rows') → (p : Place) → set.contains (state_of b).tables p ≡ true → set.contains so.tables p ≡ true
  all_cut next w rows' so reached p there = go (set.contains (state_of a).tables p) refl
    where
      new : set.contains (state_of a).tables p ≡ false → set.contains so.tables p ≡ true
      new none =
          let k = cut_by_some p none there in
          let o = slice_index_or ops k.0 (some_op ops k.0 k.1) in
          let right = each_of (λ (o : TxnOp). is_right_within L (state_of a).files first count o ≡ true) ops k.0 (some_op ops k.0 k.1) rights k.1 in
          let long : k.0 < length kit.changes.items = (let e = ap length changes_are ∙ ops_long ops in let l = k.1 in omega (arith, e, l)) in
          let s = (over o right).some in
          let is : slice_index_or kit.changes.items k.0 (Op o) ≡ Op o = ap (λ (l : List Change). slice_index_or l k.0 (Op o)) changes_are ∙ op_at ops k.0 (Op o) (some_op ops k.0 k.1) k.1 in
          cut_there a b thread c kit v rows few next w rows' so space (op_first o) (op_pages o) s
          (subst (λ (x : Change). ReachesBy L space (range_change x) rows') is (reached k.0 (Op o) long)) p (cut_parts L space (op_first o) (op_pages o) p few s (k.2 (some_op ops k.0 k.1)))

      go : (t : Bool) → set.contains (state_of a).tables p ≡ t → set.contains so.tables p ≡ true
      go true e = so.left p e there
      go false e = new e

-- ---- the same of a call that is a transaction

-- what is there stays there
pub still_by : (levels space : ℕ) (change : Option RangeChange) (rows rows' : List Row) → ((p : Place) → ListHolds rows p → ListHolds rows' p) → ReachesBy levels space change rows → ReachesBy levels space change rows'
still_by levels space None rows rows' kept r = tt
still_by levels space (Some change) rows rows' kept r = record {
  near_low = r.near_low;
  near_is = r.near_is;
  near = still_reached space change.first r.near_low rows rows' kept r.near;
  far_low = r.far_low;
  far_is = r.far_is;
  far = still_reached space (change.first + change.count - 1) r.far_low rows rows' kept r.far;
}

module _ {B E : Type 0} (a b : BookData) (thread : ℕ) (c : Call) (v : PassView (List Cell) B E) (rows : List Row) (kit : Kit) (space : ℕ) (ready : IsApplicable a b thread c v rows kit) (done : kit.done ≡ true)
    (further : IsLinkable a b thread c v rows kit) (is : IsTxnIn space c) where
  abbrev t : Call
  t = call.Txn space is.at is.len is.ops

  pub as_txn : IsDone a b thread (call.Txn space is.at is.len is.ops) kit
  as_txn = subst (λ (x : Call). IsDone a b thread x kit) is.is (txn_done a b thread c v rows kit ready done)

  linkable : IsLinkable a b thread t v rows kit
  linkable = subst (λ (x : Call). IsLinkable a b thread x v rows kit) is.is further

  pub txn_space : (p : Place) → set.contains (state_of a).tables p ≡ false → set.contains (state_of b).tables p ≡ true → p.space ≡ space
  txn_space p none there = new_space a b thread space is.at is.len is.ops v rows kit linkable (book_is_consistent a ready.books.0) as_txn p none there

  pub txn_may_link : (k : ℕ) (d : Change) → k < length kit.changes.items → MayLinkBy a b rows space (range_change (slice_index_or kit.changes.items k d))
  txn_may_link k d less = may_link_by a b thread space is.at is.len is.ops v rows kit linkable (book_is_consistent a ready.books.0) as_txn k less d

  pub txn_all_there : (next : ℕ) (w : PassView (List Cell) B E) (rows' : List Row) (so : LinkedSoFar a b thread c kit next v rows w rows')
      → ((k : ℕ) (d : Change) → k < length kit.changes.items → ReachesBy (levels (state_of a)) space (range_change (slice_index_or kit.changes.items k d)) rows') → (p : Place) → set.contains (state_of b).tables p ≡ true → set.contains so.tables p ≡ true
  txn_all_there next w rows' so = go c so is.is
    where
      go : (x : Call) (so : LinkedSoFar a b thread x kit next v rows w rows') → x ≡ call.Txn space is.at is.len is.ops
          → ((k : ℕ) (d : Change) → k < length kit.changes.items → ReachesBy (levels (state_of a)) space (range_change (slice_index_or kit.changes.items k d)) rows') → (p : Place) → set.contains (state_of b).tables p ≡ true → set.contains so.tables p ≡ true
      go x so e reached p there =
          let s = subst (λ (y : Call). (z : LinkedSoFar a b thread y kit next v rows w rows') × (z.tables ≡ so.tables)) e (so, refl) in
          ap (λ (y : Tables). set.contains y p) (sym s.1) ∙ all_cut a b thread space is.at is.len is.ops v rows kit linkable (book_is_consistent a ready.books.0) as_txn next w rows' s.0 reached p there
