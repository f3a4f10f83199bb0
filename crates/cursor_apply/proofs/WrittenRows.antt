-- A word is written into the row that has a page.
--     written      the rows of the pass afterwards
--     nowhere      where no row has the page
--     may_write, is_written      what the call asks;  what it makes
use Rattle.std.specs.Prelude.{◌≡◌, ◌≢◌, ℕ, ◌/◌, ◌%◌, ◌<◌, ◌⊎◌, Bool, true, false, cond, List, length, nat_eq, slice_get, slice_index, slice_set, Some, None}
use Rattle.std.specs.List.{Contains}
use Rattle.std.proofs.Common.{sym, refl, ◌∙◌, ap, subst, arith, inl, inr, eq-eqb, ne_eqb, get_or-set_same, get_or-set_other}
use mathlib.Core.Logic.{dite}
use native.Mathlib.Decide.{ℕ_discrete}
use Rattle.corten_base.specs.declared.calls.Call.{Call}
use Rattle.page_map.specs.State.{State, levels}
use Rattle.walk_core.specs.Lists.{IsDistinct}
use Rattle.walk_core.specs.Words.{is_link, is_leaf}
use Rattle.walk_core.proofs.RowLists.{in_map}
use Rattle.row_cells.specs.declared.Cell.{Cell}
use Rattle.row_table.specs.declared.view.PassView.{PassView}
use Rattle.row_table.specs.declared.view.HeldRow.{HeldRow as KnownRow}
use Rattle.row_table.specs.Known.{AreWhole}
use Rattle.row_table.specs.Links.{with_word, word_set, link_set, MaySetEntry, Sets}
use Rattle.row_table.specs.Rule.{row_part}
use Rattle.row_table.proofs.Turns.{contained_map, same_parts}
use Rattle.table_place.specs.declared.Place.{Place}
use Rattle.tree_lock.specs.Held.{IsInOrder, row_numbers}
use Rattle.machine_plan.specs.Agrees.{below}
use Rattle.machine_plan.specs.Books.{BookData, state_of}
use Rattle.machine_plan.specs.HeldRows.{Row}
use Rattle.cursor_detach.proofs.RowLists.{one_place, one_number}
use Rattle.cursor_apply.specs.Putting.{IsLeafOf, IsLeafAt}
use Rattle.cursor_apply.specs.Showing.{IsWritableCell, IsWritableRow, AreWritable}
use Rattle.cursor_apply.proofs.PutRows.{page_below}
use Rattle.cursor_apply.proofs.Writing.{kind_no_link}

abbrev pub View : Type 0 → Type 0 → Type 0
View B E = PassView (List Cell) B E

-- ---- one known row

module _ (row index word : ℕ) (h : KnownRow (List Cell)) where
  with_field : {X : Type 0} (f : KnownRow (List Cell) → X) → f (record h { words = slice_set h.words index word }) ≡ f h → f (with_word row index word h) ≡ f h
  with_field f same = go (nat_eq h.row row)
    where
      go : (t : Bool) → f (cond t (record h { words = slice_set h.words index word }) h) ≡ f h
      go true = same
      go false = refl

  words_here : h.row ≡ row → (with_word row index word h).words ≡ slice_set h.words index word
  words_here e = ap (λ t. (cond t (record h { words = slice_set h.words index word }) h).words) (eq-eqb h.row row e)

  words_there : h.row ≢ row → (with_word row index word h).words ≡ h.words
  words_there ne = ap (λ t. (cond t (record h { words = slice_set h.words index word }) h).words) (ne_eqb h.row row ne)

module _ {B E : Type 0} (b : BookData) (thread : ℕ) (c : Call) (space : ℕ) (frames slots : List ℕ) (page : ℕ) (to_show to_hide show' hide' : List ℕ) (v : View B E) (rows : List Row)
    (ready : AreWritable b thread c space frames slots to_show to_hide v rows)
    (other : (q : Place) (word : ℕ) (cell : Cell) → (q.level ≡ 0 → q.prefix ≡ page → ⊥) → IsWritableCell b thread c frames slots to_show to_hide q word cell → IsWritableCell b thread c frames slots show' hide' q word cell) where
  abbrev st : State
  st = state_of b

  abbrev L : ℕ
  L = levels st

  abbrev index : ℕ
  index = page % 512

  pub nowhere : IsLeafAt rows page None → AreWritable b thread c space frames slots show' hide' v rows
  nowhere none = record {
    consistent = ready.consistent;
    few_frames = ready.few_frames;
    of_space = ready.of_space;
    exact = ready.exact;
    given = ready.given;
    hand = ready.hand;
    each = λ x has.
        let s = ready.each x has in
        record {
          known = s.known;
          held = s.held;
          same_row = s.same_row;
          same_place = s.same_place;
          linked = s.linked;
          table = s.table;
          whole = s.whole;
          cells = λ i cell inside there. other (below L x.place i) (slice_index s.known.words i) cell
              (λ low at. let p = page_below st ready.consistent page x.place i inside s.table low at in none x has (p.0, p.1))
              (s.cells i cell inside there);
        };
  }

  module _ (order : IsInOrder rows) (once : IsDistinct (row_numbers rows)) (wide : AreWhole v) (word : ℕ) (x : Row) (has : Contains rows x) (leaf : IsLeafOf x page)
      (here : (old : ℕ) (cell : Cell) → slice_get x.content index ≡ Some cell → IsWritableCell b thread c frames slots to_show to_hide (below L x.place index) old cell → IsWritableCell b thread c frames slots show' hide' (below L x.place index) word cell) where
    abbrev f : KnownRow (List Cell) → KnownRow (List Cell)
    f = with_word x.row index word

    inside_row : index < 512
    inside_row = omega arith

    cell_here : (h : KnownRow (List Cell)) → Contains v.rows h → h.row ≡ x.row → (i : ℕ) (cell : Cell) → i < 512 → slice_get x.content i ≡ Some cell
        → IsWritableCell b thread c frames slots to_show to_hide (below L x.place i) (slice_index h.words i) cell → IsWritableCell b thread c frames slots show' hide' (below L x.place i) (slice_index (f h).words i) cell
    cell_here h held same i cell inside there was = dite (ℕ_discrete i index)
        (λ e.
        let long : index < length h.words = omega (arith, wide h held, inside_row) in
        let now : slice_index (f h).words index ≡ word = ap (λ (ws : List ℕ). slice_index ws index) (words_here x.row index word h same) ∙ get_or-set_same h.words index word 0 long in
        subst (λ k. IsWritableCell b thread c frames slots show' hide' (below L x.place k) (slice_index (f h).words k) cell) (sym e)
        (subst (λ n. IsWritableCell b thread c frames slots show' hide' (below L x.place index) n cell) (sym now)
        (here (slice_index h.words index) cell (ap (slice_get x.content) (sym e) ∙ there) (subst (λ k. IsWritableCell b thread c frames slots to_show to_hide (below L x.place k) (slice_index h.words k) cell) e was))))
        (λ ne.
        let now : slice_index (f h).words i ≡ slice_index h.words i = ap (λ (ws : List ℕ). slice_index ws i) (words_here x.row index word h same) ∙ get_or-set_other h.words index i word 0 ne in
        subst (λ n. IsWritableCell b thread c frames slots show' hide' (below L x.place i) n cell) (sym now)
        (other (below L x.place i) (slice_index h.words i) cell (λ low at. ne (page_below st ready.consistent page x.place i inside (ready.each x has).table low at).2) was))

    cell_there : (y : Row) → Contains rows y → (y.row ≡ x.row → ⊥) → (h : KnownRow (List Cell)) → h.row ≡ y.row → (i : ℕ) (cell : Cell) → i < 512
        → IsWritableCell b thread c frames slots to_show to_hide (below L y.place i) (slice_index h.words i) cell → IsWritableCell b thread c frames slots show' hide' (below L y.place i) (slice_index (f h).words i) cell
    cell_there y hy ne h same i cell inside was =
        let now : slice_index (f h).words i ≡ slice_index h.words i = ap (λ (ws : List ℕ). slice_index ws i) (words_there x.row index word h (λ e. ne (sym same ∙ e))) in
        subst (λ n. IsWritableCell b thread c frames slots show' hide' (below L y.place i) n cell) (sym now)
        (other (below L y.place i) (slice_index h.words i) cell (λ low at. ne (same_leaf (page_below st ready.consistent page y.place i inside (ready.each y hy).table low at))) was)
      where
        same_leaf : (y.place.level ≡ 1) × (y.place.prefix ≡ page / 512) × (i ≡ page % 512) → y.row ≡ x.row
        same_leaf p =
            let sy = ready.of_space y hy (omega (arith, p.0)) in
            let sx = ready.of_space x has (omega (arith, leaf.0)) in
            ap (λ (z : Row). z.row) (one_place rows y x order hy has (λ k. record { space = (sy ∙ sym sx) k; level = (p.0 ∙ sym leaf.0) k; prefix = (p.1 ∙ sym leaf.1) k }))

    cell_now : (y : Row) (hy : Contains rows y) (i : ℕ) (cell : Cell) → i < 512 → slice_get y.content i ≡ Some cell
        → IsWritableCell b thread c frames slots show' hide' (below L y.place i) (slice_index (f (ready.each y hy).known).words i) cell
    cell_now y hy i cell inside there =
        let s = ready.each y hy in
        dite (ℕ_discrete y.row x.row)
        (λ e.
        let same : x ≡ y = one_number rows x y once has hy (sym e) in
        subst (λ (z : Row). IsWritableCell b thread c frames slots show' hide' (below L z.place i) (slice_index (f s.known).words i) cell) same
        (cell_here s.known s.held (s.same_row ∙ e) i cell inside (ap (λ (z : Row). slice_get z.content i) same ∙ there)
        (subst (λ (z : Row). IsWritableCell b thread c frames slots to_show to_hide (below L z.place i) (slice_index s.known.words i) cell) (sym same) (s.cells i cell inside there))))
        (λ ne. cell_there y hy ne s.known s.same_row i cell inside (s.cells i cell inside there))

    row_now : (y : Row) → Contains rows y → IsWritableRow b thread c frames slots show' hide' (word_set v x.row index word) y
    row_now y hy =
        let s = ready.each y hy in
        record {
          known = f s.known;
          held = in_map f v.rows s.known s.held;
          same_row = with_field x.row index word s.known (λ (h : KnownRow (List Cell)). h.row) refl ∙ s.same_row;
          same_place = with_field x.row index word s.known (λ (h : KnownRow (List Cell)). h.place) refl ∙ s.same_place;
          linked = s.linked;
          table = s.table;
          whole = s.whole;
          cells = cell_now y hy;
        }

    pub written : (w : View B E) → w ≡ word_set v x.row index word → AreWritable b thread c space frames slots show' hide' w rows
    written w now = subst (λ (u : View B E). AreWritable b thread c space frames slots show' hide' u rows) (sym now) (record {
      consistent = ready.consistent;
      few_frames = ready.few_frames;
      of_space = ready.of_space;
      exact = record { held = ready.exact.held; shown = same_parts f row_part row_part (λ h. with_field x.row index word h (λ (k : KnownRow (List Cell)). k.row) refl) v.rows ∙ ready.exact.shown };
      given = λ h held.
          let o = contained_map f v.rows h held in
          subst (λ (k : KnownRow (List Cell)). k.is_given ≡ true) o.2 (with_field x.row index word o.0 (λ (k : KnownRow (List Cell)). k.is_given) refl ∙ ready.given o.0 o.1);
      hand = ready.hand;
      each = row_now;
    })

    module _ (kind : (word ≡ 0) ⊎ (is_leaf word ≡ true)) where
      pub may_write : ((h : KnownRow (List Cell)) → h ≡ (ready.each x has).known → is_link (slice_index h.words index) ≡ false) → MaySetEntry v x.row index word
      may_write old = let s = ready.each x has in record {
        linker = s.known;
        held = s.held;
        same_row = s.same_row;
        linked = s.linked;
        inside = inside_row;
        old = old s.known refl;
        new = elim kind [ inl none ↦ inl none | inr is ↦ inr (inl (is, ap (λ (p : Place). p.level) s.same_place ∙ leaf.0)) ];
      }

      pub is_written : (w : View B E) → Sets x.row index word v w → AreWritable b thread c space frames slots show' hide' w rows
      is_written w sets =
          let s = ready.each x has in
          written w (sets s.known s.held s.same_row
          ∙ (ap (λ t. cond t (link_set v s.known index word) (word_set v s.known.row index word)) (kind_no_link word kind)
          ∙ ap (λ r. word_set v r index word) s.same_row))
