-- The leaf of a page of a space is written into the row that has the page, or no row has it.
--     share_none      no row has it
--     small_frame      its frame has a place in a leaf
--     may_share, is_shared      what the call asks;  what it makes
--     words_shared      it writes words alone
--     row_at      the row that was found
--     next_shared, frame_here, all_shared      pages of a list, one after another
use Rattle.std.specs.Prelude.{◌≡◌, ◌≢◌, ℕ, ◌+◌, ◌-◌, ◌*◌, ◌/◌, ◌%◌, ◌<◌, ◌≤◌, ◌⊎◌, Bool, true, false, cond, List, [], ◌∷◌, ◌++◌, drop, length, nat_eq, slice_get, slice_index, slice_index_or, slice_set, Some, None}
use Rattle.std.specs.List.{Contains}
use Rattle.std.proofs.Common.{sym, refl, ◌∙◌, ap, subst, arith, inl, inr, eq-eqb, ne_eqb, get_or-set_same, get_or-set_other}
use Rattle.std.proofs.lemmas.List.{drop_all, drop_more}
use mathlib.Core.Logic.{dite}
use native.Mathlib.Decide.{ℕ_discrete}
use Rattle.counted_pages.specs.Pages.{CountedPage}
use Rattle.page_map.specs.State.{State, levels}
use Rattle.page_map.proofs.Owners.{same_some}
use Rattle.walk_core.specs.Lists.{IsDistinct}
use Rattle.walk_core.specs.Words.{is_link, is_leaf}
use Rattle.walk_core.proofs.RowLists.{in_map}
use Rattle.row_cells.specs.declared.Cell.{Cell}
use Rattle.row_table.specs.declared.view.HeldRow.{HeldRow as KnownRow}
use Rattle.row_table.specs.Known.{AreWhole}
use Rattle.row_table.specs.Links.{with_word, word_set, link_set, MaySetEntry, Sets}
use Rattle.row_table.specs.Rule.{row_part}
use Rattle.row_table.proofs.Turns.{contained_map, same_parts}
use Rattle.table_place.specs.declared.Place.{Place}
use Rattle.table_place.proofs.Entries.{below_is}
use Rattle.tree_lock.specs.Held.{IsInOrder, row_numbers}
use Rattle.machine_plan.specs.Agrees.{below, IsTableOf}
use Rattle.machine_plan.specs.Books.{BookData, state_of}
use Rattle.machine_plan.specs.HeldRows.{Row}
use Rattle.machine_plan.specs.Kits.{Refs}
use Rattle.cursor_detach.proofs.RowLists.{one_place, one_number}
use Rattle.cursor_apply.specs.Applying.{OnlyWords}
use Rattle.cursor_apply.specs.Putting.{pages_of}
use Rattle.cursor_apply.specs.Sharing.{shared_leaf, leaf_place, IsLeafRow, IsSharingCell, IsSharingRow, AreSharing, IsFrameAt, AreFramesAt, MayShare, Shares}
use Rattle.cursor_apply.proofs.Kept.{word_written}
use Rattle.cursor_apply.proofs.PutRows.{page_below}
use Rattle.cursor_apply.proofs.SharedCells.{leaf_kind, low_frame, share_here, share_other}
use Rattle.cursor_apply.proofs.WrittenRows.{View}
use Rattle.cursor_apply.proofs.Writing.{kind_no_link}

-- ---- one known row

module _ (row index word : ℕ) (h : KnownRow (List Cell)) where
  with_field : {X : Type 0} (f : KnownRow (List Cell) → X) → f (record h { words = slice_set h.words index word }) ≡ f h → f (with_word row index word h) ≡ f h
  with_field f same = go (nat_eq h.row row)
    where
      go : (t : Bool) → f (cond t (record h { words = slice_set h.words index word }) h) ≡ f h
      go true = same
      go false = refl

  words_here : h.row ≡ row → (with_word row index word h).words ≡ slice_set h.words index word
  words_here e = ap (λ t. (cond t (record h { words = slice_set h.words index word }) h).words) (eq-eqb h.row row e)

  words_there : h.row ≢ row → (with_word row index word h).words ≡ h.words
  words_there ne = ap (λ t. (cond t (record h { words = slice_set h.words index word }) h).words) (ne_eqb h.row row ne)

module _ {B E : Type 0} (b : BookData) (space at_page : ℕ) (to_share : List ℕ) (beside : ℕ × List ℕ) (v : View B E) (rows : List Row) (ready : AreSharing b space (at_page ∷ to_share) beside v rows) where
  abbrev L : ℕ
  L = levels (state_of b)

  abbrev index : ℕ
  index = at_page % 512

  -- the entry of the page
  at_leaf : (x : Row) (i : ℕ) → i < 512 → IsTableOf (state_of b) x.place → (below L x.place i).level ≡ 0 → (below L x.place i).space ≡ space → (below L x.place i).prefix ≡ at_page → (x.place ≡ leaf_place space at_page) × (i ≡ index)
  at_leaf x i inside table low here at =
      let p = page_below (state_of b) ready.consistent at_page x.place i inside table low at in
      let is = below_is L x.place i (omega (arith, p.0)) in
      let own : x.place.space ≡ space = ap (λ (q : Place). q.space) (sym is) ∙ here in
      ((λ k. record { space = own k; level = p.0 k; prefix = p.1 k }), p.2)

  other : (q : Place) (word : ℕ) (cell : Cell) → (q.level ≡ 0 → q.space ≡ space → q.prefix ≡ at_page → ⊥) → IsSharingCell b space (at_page ∷ to_share) beside q word cell → IsSharingCell b space to_share beside q word cell
  other = share_other b space at_page to_share beside

  pub nowhere : IsLeafRow space rows at_page None → AreSharing b space to_share beside v rows
  nowhere none = record {
    consistent = ready.consistent;
    few_frames = ready.few_frames;
    exact = ready.exact;
    given = ready.given;
    hand = ready.hand;
    each = λ x has.
        let s = ready.each x has in
        record {
          known = s.known;
          held = s.held;
          same_row = s.same_row;
          same_place = s.same_place;
          linked = s.linked;
          table = s.table;
          whole = s.whole;
          cells = λ i cell inside there. other (below L x.place i) (slice_index s.known.words i) cell
              (λ low here at. none x has (at_leaf x i inside s.table low here at).0)
              (s.cells i cell inside there);
        };
  }

  module _ (order : IsInOrder rows) (once : IsDistinct (row_numbers rows)) (wide : AreWhole v) (frame : ℕ) (right : IsFrameAt (state_of b) space at_page frame) (x : Row) (has : Contains rows x) (leaf : x.place ≡ leaf_place space at_page)
      (cell : Cell) (stands : slice_get x.content index ≡ Some cell) where
    abbrev word : ℕ
    word = shared_leaf cell frame

    abbrev f : KnownRow (List Cell) → KnownRow (List Cell)
    f = with_word x.row index (shared_leaf cell frame)

    inside_row : index < 512
    inside_row = omega arith

    level_one : x.place.level ≡ 1
    level_one = ap (λ (p : Place). p.level) leaf

    form : below L x.place index ≡ record { space = x.place.space; level = x.place.level - 1; prefix = 512 * x.place.prefix + index }
    form = below_is L x.place index (let l = level_one in omega (arith, l))

    here : (old : ℕ) (k : Cell) → slice_get x.content index ≡ Some k → IsSharingCell b space (at_page ∷ to_share) beside (below L x.place index) old k
        → (is_link old ≡ false) × IsSharingCell b space to_share beside (below L x.place index) (shared_leaf cell frame) k
    here old k there s =
        let same : k ≡ cell = same_some (sym there ∙ stands) in
        let r = share_here b space at_page frame ready.consistent ready.few_frames right (below L x.place index) old k
        (ap (λ (p : Place). p.level) form ∙ (let l = level_one in omega (arith, l))) (ap (λ (p : Place). p.space) form ∙ ap (λ (p : Place). p.space) leaf)
        (ap (λ (p : Place). p.prefix) form ∙ (let e = ap (λ (p : Place). p.prefix) leaf in omega (arith, e))) to_share beside s in
        (r.0, subst (λ (j : Cell). IsSharingCell b space to_share beside (below L x.place index) (shared_leaf j frame) k) same r.1)

    cell_here : (h : KnownRow (List Cell)) → Contains v.rows h → h.row ≡ x.row → (i : ℕ) (k : Cell) → i < 512 → slice_get x.content i ≡ Some k
        → IsSharingCell b space (at_page ∷ to_share) beside (below L x.place i) (slice_index h.words i) k → IsSharingCell b space to_share beside (below L x.place i) (slice_index (f h).words i) k
    cell_here h held same i k inside there was = dite (ℕ_discrete i index)
        (λ e.
        let long : index < length h.words = (let w = wide h held in let n = inside_row in omega (arith, w, n)) in
        let now : slice_index (f h).words index ≡ shared_leaf cell frame = ap (λ (ws : List ℕ). slice_index ws index) (words_here x.row index (shared_leaf cell frame) h same) ∙ get_or-set_same h.words index (shared_leaf cell frame) 0 long in
        subst (λ j. IsSharingCell b space to_share beside (below L x.place j) (slice_index (f h).words j) k) (sym e)
        (subst (λ n. IsSharingCell b space to_share beside (below L x.place index) n k) (sym now)
        (here (slice_index h.words index) k (ap (slice_get x.content) (sym e) ∙ there) (subst (λ j. IsSharingCell b space (at_page ∷ to_share) beside (below L x.place j) (slice_index h.words j) k) e was)).1))
        (λ ne.
        let now : slice_index (f h).words i ≡ slice_index h.words i = ap (λ (ws : List ℕ). slice_index ws i) (words_here x.row index (shared_leaf cell frame) h same) ∙ get_or-set_other h.words index i (shared_leaf cell frame) 0 ne in
        subst (λ n. IsSharingCell b space to_share beside (below L x.place i) n k) (sym now)
        (other (below L x.place i) (slice_index h.words i) k (λ low own at. ne (at_leaf x i inside (ready.each x has).table low own at).1) was))

    cell_there : (y : Row) → Contains rows y → (y.row ≡ x.row → ⊥) → (h : KnownRow (List Cell)) → h.row ≡ y.row → (i : ℕ) (k : Cell) → i < 512
        → IsSharingCell b space (at_page ∷ to_share) beside (below L y.place i) (slice_index h.words i) k → IsSharingCell b space to_share beside (below L y.place i) (slice_index (f h).words i) k
    cell_there y hy ne h same i k inside was =
        let now : slice_index (f h).words i ≡ slice_index h.words i = ap (λ (ws : List ℕ). slice_index ws i) (words_there x.row index (shared_leaf cell frame) h (λ e. ne (sym same ∙ e))) in
        subst (λ n. IsSharingCell b space to_share beside (below L y.place i) n k) (sym now)
        (other (below L y.place i) (slice_index h.words i) k
        (λ low own at. ne (ap (λ (z : Row). z.row) (one_place rows y x order hy has ((at_leaf y i inside (ready.each y hy).table low own at).0 ∙ sym leaf)))) was)

    cell_now : (y : Row) (hy : Contains rows y) (i : ℕ) (k : Cell) → i < 512 → slice_get y.content i ≡ Some k → IsSharingCell b space to_share beside (below L y.place i) (slice_index (f (ready.each y hy).known).words i) k
    cell_now y hy i k inside there =
        let s = ready.each y hy in
        dite (ℕ_discrete y.row x.row)
        (λ e.
        let same : x ≡ y = one_number rows x y once has hy (sym e) in
        subst (λ (z : Row). IsSharingCell b space to_share beside (below L z.place i) (slice_index (f s.known).words i) k) same
        (cell_here s.known s.held (s.same_row ∙ e) i k inside (ap (λ (z : Row). slice_get z.content i) same ∙ there)
        (subst (λ (z : Row). IsSharingCell b space (at_page ∷ to_share) beside (below L z.place i) (slice_index s.known.words i) k) (sym same) (s.cells i k inside there))))
        (λ ne. cell_there y hy ne s.known s.same_row i k inside (s.cells i k inside there))

    row_now : (y : Row) → Contains rows y → IsSharingRow b space to_share beside (word_set v x.row index (shared_leaf cell frame)) y
    row_now y hy =
        let s = ready.each y hy in
        record {
          known = f s.known;
          held = in_map f v.rows s.known s.held;
          same_row = with_field x.row index (shared_leaf cell frame) s.known (λ (h : KnownRow (List Cell)). h.row) refl ∙ s.same_row;
          same_place = with_field x.row index (shared_leaf cell frame) s.known (λ (h : KnownRow (List Cell)). h.place) refl ∙ s.same_place;
          linked = s.linked;
          table = s.table;
          whole = s.whole;
          cells = cell_now y hy;
        }

    written : (w : View B E) → w ≡ word_set v x.row index (shared_leaf cell frame) → AreSharing b space to_share beside w rows
    written w now = subst (λ (u : View B E). AreSharing b space to_share beside u rows) (sym now) (record {
      consistent = ready.consistent;
      few_frames = ready.few_frames;
      exact = record { held = ready.exact.held; shown = same_parts f row_part row_part (λ h. with_field x.row index (shared_leaf cell frame) h (λ (k : KnownRow (List Cell)). k.row) refl) v.rows ∙ ready.exact.shown };
      given = λ h held.
          let o = contained_map f v.rows h held in
          subst (λ (k : KnownRow (List Cell)). k.is_given ≡ true) o.2 (with_field x.row index (shared_leaf cell frame) o.0 (λ (k : KnownRow (List Cell)). k.is_given) refl ∙ ready.given o.0 o.1);
      hand = ready.hand;
      each = row_now;
    })

    kind : (shared_leaf cell frame ≡ 0) ⊎ (is_leaf (shared_leaf cell frame) ≡ true)
    kind = leaf_kind cell frame (low_frame b space at_page frame ready.consistent ready.few_frames right)

    pub may_write : MaySetEntry v x.row index (shared_leaf cell frame)
    may_write = let s = ready.each x has in record {
      linker = s.known;
      held = s.held;
      same_row = s.same_row;
      linked = s.linked;
      inside = inside_row;
      old = (here (slice_index s.known.words index) cell stands (s.cells index cell inside_row stands)).0;
      new = elim kind [ inl none ↦ inl none | inr is ↦ inr (inl (is, ap (λ (p : Place). p.level) s.same_place ∙ level_one)) ];
    }

    pub is_written : (w : View B E) → Sets x.row index (shared_leaf cell frame) v w → AreSharing b space to_share beside w rows
    is_written w sets =
        let s = ready.each x has in
        written w (sets s.known s.held s.same_row
        ∙ (ap (λ t. cond t (link_set v s.known index (shared_leaf cell frame)) (word_set v s.known.row index (shared_leaf cell frame))) (kind_no_link (shared_leaf cell frame) kind)
        ∙ ap (λ r. word_set v r index (shared_leaf cell frame)) s.same_row))

-- ---- for some book, and for each

module _ {B E : Type 0} (space at_page frame : ℕ) (v : View B E) (rows : List Row) where
  pub share_none : IsLeafRow space rows at_page None → Shares space (at_page ∷ []) (λ b. IsFrameAt (state_of b) space at_page frame) v v rows
  share_none none b to_share beside ready right = nowhere b space at_page to_share beside v rows ready none

  pub small_frame : MayShare space (at_page ∷ []) (λ b. IsFrameAt (state_of b) space at_page frame) v rows → frame < 4096
  small_frame (b, to_share, beside, ready, right) = low_frame b space at_page frame ready.consistent ready.few_frames right

  module _ (order : IsInOrder rows) (once : IsDistinct (row_numbers rows)) (wide : AreWhole v) (x : Row) (has : Contains rows x) (leaf : x.place ≡ leaf_place space at_page) (cell : Cell) (stands : slice_get x.content (at_page % 512) ≡ Some cell) where
    pub may_share : MayShare space (at_page ∷ []) (λ b. IsFrameAt (state_of b) space at_page frame) v rows → MaySetEntry v x.row (at_page % 512) (shared_leaf cell frame)
    may_share (b, to_share, beside, ready, right) = may_write b space at_page to_share beside v rows ready order once wide frame right x has leaf cell stands

    pub words_shared : MayShare space (at_page ∷ []) (λ b. IsFrameAt (state_of b) space at_page frame) v rows → (w : View B E) → Sets x.row (at_page % 512) (shared_leaf cell frame) v w → OnlyWords v w
    words_shared may w sets = let s = may.3.each x has in word_written v w x.row (at_page % 512) (shared_leaf cell frame) s.known s.held s.same_row (leaf_kind cell frame (small_frame may)) sets

    pub is_shared : (w : View B E) → Sets x.row (at_page % 512) (shared_leaf cell frame) v w → Shares space (at_page ∷ []) (λ b. IsFrameAt (state_of b) space at_page frame) v w rows
    is_shared w sets b to_share beside ready right = is_written b space at_page to_share beside v rows ready order once wide frame right x has leaf cell stands w sets

-- where the row stands that was found
pub row_at : (space : ℕ) (rows found : List Row) (at at_page : ℕ) (x : Row) → x ≡ slice_index_or found at x → found ≡ rows → IsLeafRow space rows at_page (Some at) → Contains rows x × (x.place ≡ leaf_place space at_page)
row_at space rows found at at_page x is same leaf =
    let here : slice_index_or rows at x ≡ x = sym (is ∙ ap (λ (l : List Row). slice_index_or l at x) same) in
    ((at, leaf.0, here), ap (λ (z : Row). z.place) (sym here) ∙ leaf.1 x)

-- ---- pages of a list, one after another

module _ (refs : Refs) (i : ℕ) (r : ℕ × CountedPage) (is : r ≡ slice_index_or refs i r) (within : i < length refs) where
  next_is : pages_of (drop i refs) ≡ r.0 ∷ pages_of (drop (i + 1) refs)
  next_is = ap pages_of (drop_more refs i r within) ∙ ap (λ (z : ℕ × CountedPage). z.0 ∷ pages_of (drop (i + 1) refs)) (sym is)

  pub frame_here : (st : State) (space n : ℕ) → n ≡ r.1.number → AreFramesAt st space refs → IsFrameAt st space r.0 n
  frame_here st space n number each = subst (IsFrameAt st space r.0) (sym number) (subst (λ (z : ℕ × CountedPage). IsFrameAt st space z.0 z.1.number) (sym is) (each i r within))

  pub next_shared : {B E : Type 0} (b : BookData) (space : ℕ) (rest : List ℕ) (beside : ℕ × List ℕ) (v : View B E) (rows : List Row) → AreSharing b space (pages_of (drop i refs) ++ rest) beside v rows → AreSharing b space (r.0 ∷ (pages_of (drop (i + 1) refs) ++ rest)) beside v rows
  next_shared b space rest beside v rows ready = subst (λ (l : List ℕ). AreSharing b space (l ++ rest) beside v rows) next_is ready

pub all_shared : {B E : Type 0} (refs : Refs) (i : ℕ) → length refs ≤ i → (b : BookData) (space : ℕ) (rest : List ℕ) (beside : ℕ × List ℕ) (v : View B E) (rows : List Row) → AreSharing b space (pages_of (drop i refs) ++ rest) beside v rows → AreSharing b space rest beside v rows
all_shared refs i past b space rest beside v rows ready = subst (λ (l : Refs). AreSharing b space (pages_of l ++ rest) beside v rows) (drop_all i refs past) ready
