-- The tables that a call lacks which gives a range another length are those that the pages cut which it leaves and gets.
--     IsRemapDone, remap_done      such a call that was accepted, and the changes and pieces of its kit
--     CutsFor      each table that pages cut is there after the call
--     AreCut, are_cut      so it is of the pages that the call leaves, and of the pieces of a range that moves; and a new table is such a one
use Rattle.std.specs.Prelude.{◌≡◌, ℕ, zero, suc, ◌+◌, ◌-◌, ◌*◌, ◌^◌, ◌<◌, ◌≤◌, ◌⊎◌, ◌&&◌, ◌||◌, not, Bool, true, false, cond, List, [], ◌∷◌, ◌++◌, length, nat_eq, nat_le, nat_lt, slice_index_or, Option, Some, None, is_none, is_some}
use Rattle.std.specs.List.{AllByRecursion, flat_map}
use Rattle.std.specs.Option.{unwrap_or}
use Rattle.std.specs.Ordering.{eq_by_cmp}
use Rattle.std.specs.FinMap.{get}
use Rattle.std.specs.FinSet as set
use Rattle.std.specs.FinSet.{contains-difference, contains-from_list}
use Rattle.std.proofs.Common.{sym, refl, ◌∙◌, ap, subst, arith, inl, inr, ne_eqb}
use Rattle.std.proofs.Math.Pow.{pow_mono}
use Rattle.std.proofs.lemmas.Bool.{true≢false, false≢true, and_parts, and_from, or_cases, or_left, or_right, eq-eqb, leb-true, le-leb, lt-ltb, le-ltb, ltb-true, false_from_ne_true, cases_order}
use Rattle.corten_base.specs.declared.calls.Backing.TheVariants.{Zero}
use Rattle.corten_base.specs.declared.calls.Call.{Call}
use Rattle.corten_base.specs.declared.calls.Call.TheVariants as call
use Rattle.corten_base.specs.declared.calls.Entry.{Entry}
use Rattle.corten_base.specs.declared.calls.Reply.{Reply}
use Rattle.table_place.specs.declared.Place.{Place}
use Rattle.table_place.specs.Place.{cut_by, is_page_range, is_user_range, place_cmp, root, span_first, span_count}
use Rattle.table_place.specs.Range.{within}
use Rattle.table_place.proofs.Spans.{span_pos}
use Rattle.table_place.proofs.Tables.{in_range, to_range, inside_parts}
use Rattle.page_map.specs.Alike.{unlike_tables}
use Rattle.page_map.specs.Cell.{AddressSpace}
use Rattle.page_map.specs.Cutting.{ArePieces}
use Rattle.page_map.specs.Effect.{is_given_up, wanted_tables}
use Rattle.page_map.specs.Mapping.{gap, hole, is_free, is_length}
use Rattle.page_map.specs.Remap.{Resize, resize_of, has_room, moves, put_at, left_first, left_count, remapped}
use Rattle.page_map.specs.State.{State, IsConsistent, levels, space_at}
use Rattle.page_map.specs.Step.{hole_reply}
use Rattle.page_map.specs.Tables.{Tables, changed_tables, missing}
use Rattle.page_map.proofs.Above.{any_append, any_flat}
use Rattle.page_map.proofs.Gaps.{gap_free}
use Rattle.page_map.proofs.GivenUp.{free_none}
use Rattle.page_map.proofs.Growth.{stays, comes, whence}
use Rattle.page_map.proofs.Least.{unanswered}
use Rattle.page_map.proofs.Mappings.{gap_user, page_range, user_few}
use Rattle.page_map.proofs.NeedOf.{IsCut, cut_parts, cut_from}
use Rattle.page_map.proofs.NeedOfRemap.{shrunk_lack, same_length_lack, grown_lack, moved_lack}
use Rattle.page_map.proofs.Places.{place_total}
use Rattle.page_map.proofs.Remapped.{roomy}
use Rattle.page_map.proofs.Steps.{Passed, not_none}
use Rattle.page_map.proofs.Unmapped.{held_of}
use Rattle.page_map.proofs.Wanted.{is_wanted}
use Rattle.row_cells.specs.declared.Cell.{Cell}
use Rattle.row_table.specs.declared.view.PassView.{PassView}
use Rattle.machine_plan.specs.declared.kit.Change.{Change}
use Rattle.machine_plan.specs.declared.kit.Change.TheVariants.{Move}
use Rattle.machine_plan.specs.declared.kit.Kit.{Kit}
use Rattle.machine_plan.specs.declared.kit.Piece.{Piece}
use Rattle.machine_plan.specs.Books.{BookData, state_of}
use Rattle.machine_plan.specs.HeldRows.{Row}
use Rattle.machine_plan.specs.Moving.{piece_at, HasPieces}
use Rattle.cursor_detach.specs.Left.{IsCommitted}
use Rattle.move_apply.specs.declared.relinking.Pages.{Pages}
use Rattle.cursor_apply.specs.Applying.{IsApplicable}
use Rattle.cursor_apply.specs.Changed.{LiesIn}
use Rattle.move_apply.specs.Remapping.{changed_at, pages_at, pages_of}
use Rattle.move_apply.proofs.Shrunk.{remap_changes}
use Rattle.cursor_apply.proofs.StagedStart.{changed}
use Rattle.cursor_apply.proofs.TxnCuts.{IsDone, is_done, any_at, any_of}

-- ---- a call that was accepted

pub record IsRemapDone (a b : BookData) (thread : ℕ) (c : Call) (kit : Kit) : Type 0 where
  pub call : IsDone a b thread c kit
  pub small : thread < 8
  pub pieces : HasPieces (state_of a) thread c kit.pieces.items

last_of : (xs : List Entry) (x : Entry) → AllByRecursion (λ (e : Entry). e.thread < 8) (xs ++ x ∷ []) → x.thread < 8
last_of [] x h = h.0
last_of (y ∷ ys) x h = last_of ys x h.1

pub remap_done_of : (a b : BookData) (thread : ℕ) (c : Call) (kit answered : Kit) → kit.done ≡ true → kit ≡ record answered { gone = kit.gone } → IsCommitted a b thread c answered → AllByRecursion (λ (e : Entry). e.thread < 8) b.journal → IsRemapDone a b thread c kit
remap_done_of a b thread c kit answered done same committed threads =
    let is : IsDone a b thread c kit = is_done a b thread c kit answered done same committed in
    let early : committed.filled.early ≡ None = sym (ap (λ (k : Kit). k.early) same ∙ committed.commits.same.1) ∙ is.made.early in
    record {
      call = is;
      small = last_of a.journal (record { thread = thread; call = c; reply = committed.reply }) (subst (λ (l : List Entry). AllByRecursion (λ (x : Entry). x.thread < 8) l) committed.commits.journal threads);
      pieces = subst (λ (l : List Piece). HasPieces (state_of a) thread c l) (sym (ap (λ (k : Kit). k.pieces.items) same ∙ committed.commits.same.2))
          (committed.was_filled.planned (ap (λ (x : Option Reply). is_some x) early)).pieces;
    }

pub remap_done : {B E : Type 0} (a b : BookData) (thread : ℕ) (c : Call) (v : PassView (List Cell) B E) (rows : List Row) (kit : Kit) → IsApplicable a b thread c v rows kit → kit.done ≡ true → IsRemapDone a b thread c kit
remap_done a b thread c v rows kit ready done = elim ready.committed [
  | inl committed ↦ remap_done_of a b thread c kit ready.answered done ready.same_kit committed ready.books.1.threads
  | inr none ↦ absurd (true≢false (sym done ∙ (ap (λ (k : Kit). k.done) ready.same_kit ∙ none.0.ungranted.not_done)))
]

-- ---- what it lacks

pub record CutsFor (a b : BookData) (space : ℕ) (x : Pages) : Type 0 where
  pub some : 1 ≤ x.count
  pub user : is_user_range (levels (state_of a)) x.first x.count ≡ true
  pub there : (p : Place) → IsCut (levels (state_of a)) space x.first x.count p → set.contains (state_of b).tables p ≡ true

pub record AreCut (a b : BookData) (space : ℕ) (head : Pages) (to : ℕ) (pieces : List Piece) : Type 0 where
  pub head_end : head.first + head.count < 2 ^ 64
  pub head_cuts : 1 ≤ head.count → CutsFor a b space head
  pub piece_cuts : (k : ℕ) (d : Piece) → k < length pieces → CutsFor a b space (pages_at to (slice_index_or pieces k d))
  pub new_cut : (p : Place) → set.contains (state_of a).tables p ≡ false → set.contains (state_of b).tables p ≡ true
      → ((1 ≤ head.count) × IsCut (levels (state_of a)) space head.first head.count p)
      ⊎ ((k : ℕ) × (k < length pieces) × ((d : Piece) → IsCut (levels (state_of a)) space (to + (slice_index_or pieces k d).first) (slice_index_or pieces k d).count p))

-- a table that is missing and in a list is in each list that lacks the same
wanted_in : (xs ys : List Place) (t : Tables) (p : Place) → missing xs t ≡ missing ys t → set.contains t p ≡ false → is_wanted xs p ≡ true → is_wanted ys p ≡ true
wanted_in xs ys t p same gone h = (and_parts (is_wanted ys p) true (sym (in_missing ys) ∙ (ap (λ (s : Tables). set.contains s p) (sym same) ∙ (in_missing xs ∙ ap (λ b. b && true) h)))).0
  where
    in_missing : (zs : List Place) → set.contains (missing zs t) p ≡ (is_wanted zs p && true)
    in_missing zs = contains-difference place_total (set.from_list zs) t p ∙ (λ i. contains-from_list place_total zs p i && not (gone i))

part_user : (L f n x m : ℕ) → is_user_range L f n ≡ true → f ≤ x → x + m ≤ f + n → is_user_range L x m ≡ true
part_user L f n x m right from to =
    let ends = and_parts (nat_le 16 f) (nat_lt (f + n) (2 ^ (9 * L - 1))) right in
    and_from _ _ (le-leb 16 x (omega (arith, leb-true 16 f ends.0, from))) (lt-ltb (x + m) (2 ^ (9 * L - 1)) (omega (arith, ltb-true (f + n) (2 ^ (9 * L - 1)) ends.1, to)))

-- where a piece lies
pub piece_lies : (to at end : ℕ) (now : AddressSpace) (pieces : List Piece) → ArePieces (piece_at to) (λ p. p.count) now at end pieces → (k : ℕ) (d : Piece) → k < length pieces
    → (at ≤ to + (slice_index_or pieces k d).first) × (to + (slice_index_or pieces k d).first + (slice_index_or pieces k d).count ≤ end) × (1 ≤ (slice_index_or pieces k d).count)
piece_lies to at end now [] parts k d less = absurd (omega arith)
piece_lies to at end now (x ∷ xs) parts zero d less = (omega (arith, parts.0.here), omega (arith, parts.0.here, parts.0.fits), parts.0.some)
piece_lies to at end now (x ∷ xs) parts (suc k) d less = let deeper = piece_lies to (at + x.count) end now xs parts.1 k d (omega (arith, less)) in (omega (arith, deeper.0), deeper.1, deeper.2)

-- a span that reaches out of a range does not lie in it
lies_not : (p : Place) (first count : ℕ) → LiesIn p first count → (span_first p < first) ⊎ (first + count < span_first p + span_count p) → ⊥
lies_not p first count lies (inl before) = let l = lies.0 in omega (arith, l, before)
lies_not p first count lies (inr behind) = let l = lies.1 in omega (arith, l, behind)

module _ (a b : BookData) (thread space at old_len new_len : ℕ) (kit : Kit) (before : IsConsistent (state_of a)) (done : IsRemapDone a b thread (call.Remap space at old_len new_len) kit) where
  abbrev c : Call
  c = call.Remap space at old_len new_len

  abbrev old : State
  old = state_of a

  abbrev L : ℕ
  L = levels (state_of a)

  abbrev r : Resize
  r = resize_of at old_len new_len

  abbrev cells : AddressSpace
  cells = space_at (state_of a) space

  abbrev after : AddressSpace
  after = remapped (levels (state_of a)) thread (resize_of at old_len new_len) (space_at (state_of a) space)

  abbrev to : ℕ
  to = put_at (levels (state_of a)) thread (space_at (state_of a) space) (resize_of at old_len new_len)

  ok : Passed (state_of a) thread (call.Remap space at old_len new_len) done.call.made.limbo
  ok = done.call.made.ok

  pub first_change : (d : Change) → slice_index_or kit.changes.items 0 d ≡ Move r.first r.old to r.new
  first_change d = ap (λ (l : List Change). slice_index_or l 0 d) (done.call.changes ∙ remap_changes old thread space at old_len new_len)

  pub two_changes : length kit.changes.items ≡ 2
  two_changes = ap length (done.call.changes ∙ remap_changes old thread space at old_len new_len)

  pub old_range : (is_user_range L r.first r.old ≡ true) × (1 ≤ r.old)
  old_range = page_range L at old_len (and_parts (is_page_range L at old_len) (is_length L new_len) (held_of _ _ ok.arguments)).0

  pub mapped : (q : ℕ) → within r.first r.old q ≡ true → get cells q ≡ None → ⊥
  mapped q w none =
      let i = in_range r.first r.old q w in
      not_none (ap (λ o. cond (is_none o) (Some q) None) (sym none) ∙ unanswered (λ n. cond (is_none (get cells n)) (Some n) None) r.first r.old (no_hole (hole cells at old_len) ok.pages) q i.0 i.1)
    where
      no_hole : (o : Option ℕ) → hole_reply o ≡ None → o ≡ None
      no_hole None e = refl
      no_hole (Some page) e = absurd (not_none e)

  now_is : (state_of b).tables ≡ changed_tables (is_given_up old c) (wanted_tables old thread c) old.tables
  now_is = ap (λ (s : State). s.tables) done.call.made.state ∙ changed old thread c

  lies : (p : Place) → is_given_up old c p ≡ true → LiesIn p (left_first L cells r) (left_count L cells r)
  lies p e = let parts = inside_parts L space (left_first L cells r) (left_count L cells r) p e in (parts.from, parts.to)

  pub root_now : set.contains (state_of b).tables (root L space) ≡ true
  root_now = ap (λ (s : Tables). set.contains s (root L space)) now_is
      ∙ stays (is_given_up old c) (wanted_tables old thread c) old.tables (root L space) (before.roots space (held_of _ _ ok.space)) (false_from_ne_true _ (λ e. below (inside_parts L space (left_first L cells r) (left_count L cells r) (root L space) e).below))
    where
      below : L < L → ⊥
      below l = omega (arith, l)

  -- ---- by what it lacks

  module _ (wants : List Place) (lack : missing (unlike_tables L space after) old.tables ≡ missing wants old.tables) where
    there_by : (p : Place) → is_wanted wants p ≡ true → (is_given_up old c p ≡ true → ⊥) → set.contains (state_of b).tables p ≡ true
    there_by p want kept = ap (λ (s : Tables). set.contains s p) now_is ∙ go (set.contains old.tables p) refl
      where
        go : (t : Bool) → set.contains old.tables p ≡ t → set.contains (changed_tables (is_given_up old c) (wanted_tables old thread c) old.tables) p ≡ true
        go true e = stays (is_given_up old c) (wanted_tables old thread c) old.tables p e (false_from_ne_true _ kept)
        go false e = comes (is_given_up old c) (wanted_tables old thread c) old.tables p (wanted_in wants (wanted_tables old thread c) old.tables p (sym lack) e want)

    new_by : (p : Place) → set.contains old.tables p ≡ false → set.contains (state_of b).tables p ≡ true → is_wanted wants p ≡ true
    new_by p gone there = elim (whence (is_given_up old c) (wanted_tables old thread c) old.tables p (sym (ap (λ (s : Tables). set.contains s p) now_is) ∙ there)) [
      | inl was ↦ absurd (true≢false (sym was.0 ∙ gone))
      | inr new ↦ wanted_in (wanted_tables old thread c) wants old.tables p lack gone new
    ]

  few : L ≤ 5
  few = before.few_levels

  end_of : (first count : ℕ) → is_user_range L first count ≡ true → first + count < 2 ^ 64
  end_of first count user = let f = user_few L first count few user in omega (arith, f)

  -- ---- a range that stays

  module _ (stay : moves L cells r ≡ false) where
    put_here : to ≡ r.first
    put_here = ap (λ m. cond m (unwrap_or (gap thread cells r.new) 0) r.first) stay

    lies_left : (p : Place) → is_given_up old c p ≡ true → LiesIn p (r.first + r.new) (r.old - r.new)
    lies_left p e = subst (λ n. LiesIn p n (r.old - r.new)) (ap (λ m. cond m r.first (r.first + r.new)) stay) (subst (λ n. LiesIn p (left_first L cells r) n) (ap (λ m. cond m r.old (r.old - r.new)) stay) (lies p e))

    -- one range of pages that it leaves or gets
    one_range : (first count : ℕ) → 1 ≤ count → is_user_range L first count ≡ true → missing (unlike_tables L space after) old.tables ≡ missing (cut_by L space first count) old.tables
        → ((p : Place) → IsCut L space first count p → LiesIn p (r.first + r.new) (r.old - r.new) → ⊥) → AreCut a b space (pages_of first count) to []
    one_range first count some user lack apart = record {
      head_end = end_of first count user;
      head_cuts = λ more. record {
        some = some;
        user = user;
        there = λ p cut. there_by (cut_by L space first count) lack p (cut_from L space first count p few cut) (λ e. apart p cut (lies_left p e));
      };
      piece_cuts = λ k d less. absurd (omega arith);
      new_cut = λ p gone there. inl (some, cut_parts L space first count p few some (new_by (cut_by L space first count) lack p gone there));
    }

    none_cut : r.new ≡ r.old → AreCut a b space (pages_of (r.first + r.new) (r.old - r.new)) to []
    none_cut same = record {
      head_end = (let f = user_few L r.first r.old few old_range.0 in omega (arith, f, same));
      head_cuts = λ more. absurd (omega (arith, more, same));
      piece_cuts = λ k d less. absurd (omega arith);
      new_cut = λ p gone there. absurd (false≢true (new_by [] (same_length_lack old thread space r before old_range.1 mapped same) p gone there));
    }

    user_room : r.old < r.new → (is_user_range L (r.first + r.old) (r.new - r.old) ≡ true) × (is_free cells (r.first + r.old) (r.new - r.old) ≡ true)
    user_room more = and_parts (is_user_range L (r.first + r.old) (r.new - r.old)) (is_free cells (r.first + r.old) (r.new - r.old)) (go (has_room L cells r) (sym (ap (λ t. t && not (has_room L cells r)) (lt-ltb r.old r.new more)) ∙ stay))
      where
        go : (t : Bool) → (true && not t) ≡ false → t ≡ true
        go true e = refl
        go false e = absurd (true≢false e)

    shrunk : r.new < r.old → AreCut a b space (pages_of (r.first + r.new) (r.old - r.new)) to []
    shrunk less = one_range (r.first + r.new) (r.old - r.new) (omega (arith, less)) (part_user L r.first r.old (r.first + r.new) (r.old - r.new) old_range.0 (omega arith) (omega (arith, less)))
        (shrunk_lack old thread space r before old_range.1 mapped less) (λ p cut l. lies_not p (r.first + r.new) (r.old - r.new) l cut.outside)

    grown : r.old < r.new → AreCut a b space (pages_of (r.first + r.old) (r.new - r.old)) to []
    grown more = one_range (r.first + r.old) (r.new - r.old) (omega (arith, more)) (user_room more).0
        (grown_lack old thread space r before old_range.1 mapped more stay (λ q w. free_none cells (r.first + r.old) (r.new - r.old) q (user_room more).1 w))
        (λ p cut l. let low = l.0 in let high = l.1 in let some = span_pos p.level in omega (arith, low, high, some, more))

    not_moved : changed_at r.first r.old to r.new ≡ cond (nat_lt r.old r.new) (pages_of (r.first + r.old) (r.new - r.old)) (pages_of (r.first + r.new) (r.old - r.new))
    not_moved = ap (λ t. cond t (cond (nat_lt r.old r.new) (pages_of (r.first + r.old) (r.new - r.old)) (pages_of (r.first + r.new) (r.old - r.new))) (pages_of r.first r.old)) (eq-eqb to r.first put_here)

    by_length : AreCut a b space (changed_at r.first r.old to r.new) to []
    by_length = elim (cases_order r.new r.old) [
      | inl same ↦ subst (λ (h : Pages). AreCut a b space h to []) (sym (not_moved ∙ behind (omega (arith, same)))) (none_cut same)
      | inr other ↦ (elim other [
        | inl less ↦ subst (λ (h : Pages). AreCut a b space h to []) (sym (not_moved ∙ behind (omega (arith, less)))) (shrunk less)
        | inr more ↦ subst (λ (h : Pages). AreCut a b space h to []) (sym (not_moved ∙ ap (λ t. cond t (pages_of (r.first + r.old) (r.new - r.old)) (pages_of (r.first + r.new) (r.old - r.new))) (lt-ltb r.old r.new more))) (grown more)
      ])
    ]
      where
        behind : r.new ≤ r.old → cond (nat_lt r.old r.new) (pages_of (r.first + r.old) (r.new - r.old)) (pages_of (r.first + r.new) (r.old - r.new)) ≡ pages_of (r.first + r.new) (r.old - r.new)
        behind le = ap (λ t. cond t (pages_of (r.first + r.old) (r.new - r.old)) (pages_of (r.first + r.new) (r.old - r.new))) (le-ltb r.old r.new le)

    stayed_cut : AreCut a b space (changed_at r.first r.old to r.new) to kit.pieces.items
    stayed_cut = subst (λ (l : List Piece). AreCut a b space (changed_at r.first r.old to r.new) to l) (sym (done.pieces.stayed stay)) by_length

  -- ---- a range that moves

  module _ (goes : moves L cells r ≡ true) where
    pub more : r.old < r.new
    more = ltb-true r.old r.new (and_parts (nat_lt r.old r.new) (not (has_room L cells r)) goes).0

    pub found : gap thread cells r.new ≡ Some to
    found = go (gap thread cells r.new) refl
      where
        go : (o : Option ℕ) → gap thread cells r.new ≡ o → gap thread cells r.new ≡ Some to
        go None e = absurd (true≢false (sym (λ i. goes i && is_none (e i)) ∙ (roomy old thread done.call.made.limbo space at old_len new_len ok).0))
        go (Some g) e = e ∙ ap (λ n. Some n) (sym (λ i. cond (goes i) (unwrap_or (e i) 0) r.first))

    pub free : (q : ℕ) → within to r.new q ≡ true → get cells q ≡ None
    free q w = free_none cells to r.new q (gap_free thread cells r.new to found) w

    pub to_user : is_user_range L to r.new ≡ true
    to_user = gap_user L thread cells r.new to before.some_levels done.small found

    -- it is put elsewhere
    pub apart : (q : ℕ) → within r.first r.old q ≡ true → within to r.new q ≡ true → ⊥
    apart q w u = mapped q w (free q u)

    pub elsewhere : nat_eq to r.first ≡ false
    elsewhere = ne_eqb to r.first (λ e. apart to (subst (λ n. within n r.old to ≡ true) e (to_range to r.old to (omega arith) (let s = old_range.1 in omega (arith, s)))) (to_range to r.new to (omega arith) (let m = more in omega (arith, m))))

    pub parts : ArePieces (piece_at to) (λ (p : Piece). p.count) after to (to + r.new) kit.pieces.items
    parts = (done.pieces.moved goes).parts

    abbrev cut_at : Piece → List Place
    cut_at p = cut_by L space (piece_at to p) p.count

    abbrev wants : List Place
    wants = cut_by L space r.first r.old ++ flat_map cut_at kit.pieces.items

    lack : missing (unlike_tables L space after) old.tables ≡ missing wants old.tables
    lack = moved_lack old thread space r before old_range.1 mapped to goes found free (piece_at to) (λ (p : Piece). p.count) kit.pieces.items parts

    lies_old : (p : Place) → is_given_up old c p ≡ true → LiesIn p r.first r.old
    lies_old p e = subst (λ n. LiesIn p n r.old) (ap (λ m. cond m r.first (r.first + r.new)) goes) (subst (λ n. LiesIn p (left_first L cells r) n) (ap (λ m. cond m r.old (r.old - r.new)) goes) (lies p e))

    wanted_is : (p : Place) → is_wanted wants p ≡ (is_wanted (cut_by L space r.first r.old) p || is_wanted (flat_map cut_at kit.pieces.items) p)
    wanted_is p = any_append (eq_by_cmp place_cmp p) (cut_by L space r.first r.old) (flat_map cut_at kit.pieces.items)

    pub head_is_old : changed_at r.first r.old to r.new ≡ pages_of r.first r.old
    head_is_old = ap (λ t. cond t (cond (nat_lt r.old r.new) (pages_of (r.first + r.old) (r.new - r.old)) (pages_of (r.first + r.new) (r.old - r.new))) (pages_of r.first r.old)) elsewhere

    moved_cut : AreCut a b space (changed_at r.first r.old to r.new) to kit.pieces.items
    moved_cut = subst (λ (h : Pages). AreCut a b space h to kit.pieces.items) (sym head_is_old) (record {
      head_end = end_of r.first r.old old_range.0;
      head_cuts = λ some. record {
        some = some;
        user = old_range.0;
        there = λ p cut. there_by wants lack p (wanted_is p ∙ or_left _ (is_wanted (flat_map cut_at kit.pieces.items) p) (cut_from L space r.first r.old p few cut)) (λ e. lies_not p r.first r.old (lies_old p e) cut.outside);
      };
      piece_cuts = λ k d less.
          let x = slice_index_or kit.pieces.items k d in
          let l = piece_lies to to (to + r.new) after kit.pieces.items parts k d less in
          record {
            some = l.2;
            user = part_user L to r.new (to + x.first) x.count to_user l.0 l.1;
            there = λ p cut. there_by wants lack p (wanted_is p ∙ or_right (is_wanted (cut_by L space r.first r.old) p) _ (any_flat (eq_by_cmp place_cmp p) cut_at kit.pieces.items
                ∙ any_at (λ y. is_wanted (cut_at y) p) kit.pieces.items k d less (cut_from L space (to + x.first) x.count p few cut)))
                (λ e. let i = in_range (to + x.first) x.count cut.page cut.within_range in
                let o = lies_old p e in
                let low = o.0 in
                let high = o.1 in
                let from = cut.from in
                let to_end = cut.to in
                apart cut.page (to_range r.first r.old cut.page (omega (arith, low, from)) (omega (arith, high, to_end))) (to_range to r.new cut.page (let s = l.0 in omega (arith, i.0, s)) (let s = l.1 in omega (arith, i.1, s))));
          };
      new_cut = λ p gone there. elim (or_cases (is_wanted (cut_by L space r.first r.old) p) (is_wanted (flat_map cut_at kit.pieces.items) p) (sym (wanted_is p) ∙ new_by wants lack p gone there)) [
        | inl here ↦ inl (old_range.1, cut_parts L space r.first r.old p few old_range.1 here)
        | inr later ↦ (let k = any_of (λ y. is_wanted (cut_at y) p) kit.pieces.items (sym (any_flat (eq_by_cmp place_cmp p) cut_at kit.pieces.items) ∙ later) in
            inr (k.0, k.1, λ d. cut_parts L space (to + (slice_index_or kit.pieces.items k.0 d).first) (slice_index_or kit.pieces.items k.0 d).count p few (piece_lies to to (to + r.new) after kit.pieces.items parts k.0 d k.1).2 (k.2 d)))
      ];
    })

  -- so it stays where it is
  pub not_elsewhere : moves L cells r ≡ false → nat_eq to r.first ≡ true
  not_elsewhere stay = eq-eqb to r.first (put_here stay)

  pub are_cut : AreCut a b space (changed_at r.first r.old to r.new) to kit.pieces.items
  are_cut = go (moves L cells r) refl
    where
      go : (t : Bool) → moves L cells r ≡ t → AreCut a b space (changed_at r.first r.old to r.new) to kit.pieces.items
      go true e = moved_cut e
      go false e = stayed_cut e

  -- a new table is of the space
  pub new_space : (p : Place) → set.contains (state_of a).tables p ≡ false → set.contains (state_of b).tables p ≡ true → p.space ≡ space
  new_space p gone there = elim (are_cut.new_cut p gone there) [
    | inl h ↦ h.1.same_space
    | inr t ↦ (t.2 (record { first = 0; count = 0; perm = record { read = false; write = false; exec = false }; backing = Zero })).same_space
  ]

  pub ends : (r.first + r.old < 2 ^ 64) × (r.first + r.new < 2 ^ 64)
  ends =
      let o = user_few L r.first r.old few old_range.0 in
      let n = new_few L new_len few (and_parts (is_page_range L at old_len) (is_length L new_len) (held_of _ _ ok.arguments)).1 in
      (omega (arith, o), omega (arith, o, n))
    where
      new_few : (l len : ℕ) → l ≤ 5 → is_length l len ≡ true → (resize_of 0 0 len).new ≤ 2 ^ 44
      new_few l len few h =
          let up = leb-true len (2 ^ (9 * l + 11)) (and_parts (nat_lt 0 len) (nat_le len (2 ^ (9 * l + 11))) h).1 in
          omega (arith, up, pow_mono (most l few))
        where
          most : (n : ℕ) → n ≤ 5 → 9 * n + 11 ≤ 56
          most n few = omega arith
