-- A held row gets empty, entry by entry.
--     starts_empty, one_more, same_here, all_empty, none_there      before the first entry;  an entry more;  one at which nothing stands;  after the last;  a row at which nothing stood
--     may_set      an entry of it may be set to 0
use Rattle.std.specs.Prelude.{◌≡◌, ℕ, zero, suc, ◌+◌, ◌<◌, Bool, true, false, cond, List, [], ◌∷◌, map, length, nat_eq, slice_get, slice_index, slice_set, Some}
use Rattle.std.specs.List.{Contains}
use Rattle.std.proofs.Common.{sym, refl, ◌∙◌, ap, subst, arith, inl, eq-eqb}
use Rattle.std.proofs.lemmas.Bool.{eqb-true}
use Rattle.std.proofs.lemmas.List.{length-set}
use Rattle.std.proofs.lemmas.List.Sums.{sum_by-cons}
use mathlib.Core.Logic.{dite}
use native.Mathlib.Decide.{ℕ_discrete}
use Rattle.walk_core.specs.Words.{is_link}
use Rattle.walk_core.proofs.RowLists.{in_map}
use Rattle.walk_core.proofs.Spellings.{zero_no_link}
use Rattle.row_table.specs.declared.view.PassView.{PassView}
use Rattle.row_table.specs.declared.view.HeldRow.{HeldRow as KnownRow}
use Rattle.row_table.specs.Links.{with_word, link_set, word_set, MaySetEntry, Sets}
use Rattle.row_table.specs.Moves.{NotInHand}
use Rattle.row_cells.specs.declared.Cell.{Cell}
use Rattle.row_cells.specs.declared.Cell.TheVariants.{Invalid, Table, Anon, File, Mapped, Swapped}
use Rattle.row_cells.specs.Cells.{is_used, used_count, blank}
use Rattle.cursor_detach.specs.Cutting.{with_words, MayEmpty, Emptying, Empties}
use Rattle.cursor_detach.proofs.Lists.{get_same, get_other, all_of_one, map_same, map_twice, zero_set, zero_beside}

-- what is no used cell is Invalid
unused : (cell : Cell) → is_used cell ≡ false → cell ≡ Invalid
unused Invalid e = refl
unused Table e = absurd (cc)
unused (Anon perm) e = absurd (cc)
unused (File perm file index) e = absurd (cc)
unused (Mapped perm origin frame) e = absurd (cc)
unused (Swapped perm origin slot) e = absurd (cc)

none_used : (cells : List Cell) (i : ℕ) → used_count cells ≡ 0 → i < length cells → slice_get cells i ≡ Some Invalid
none_used [] i none h = absurd (omega arith)
none_used (c ∷ cs) i none h = go (is_used c) refl (none_used cs) i none h
  where
    more : (b : Bool) → is_used c ≡ b → cond {A = ℕ} b 1 0 + used_count cs ≡ used_count (c ∷ cs)
    more b e = ap (λ t. cond {A = ℕ} t 1 0 + used_count cs) (sym e) ∙ sym (sum_by-cons (λ x. cond {A = ℕ} (is_used x) 1 0) c cs)

    go : (b : Bool) → is_used c ≡ b → ((j : ℕ) → used_count cs ≡ 0 → j < length cs → slice_get cs j ≡ Some Invalid) → (i : ℕ) → used_count (c ∷ cs) ≡ 0 → i < length (c ∷ cs) → slice_get (c ∷ cs) i ≡ Some Invalid
    go true e rest i none h = let some = more true e in absurd (omega arith)
    go false e rest zero none h = ap Some (unused c e)
    go false e rest (suc i) none h = rest i (let same = more false e in omega arith) (omega arith)

with_same_words : (row : ℕ) (h : KnownRow (List Cell)) (ws : List ℕ) → (h.row ≡ row → h.words ≡ ws) → with_words row ws h ≡ h
with_same_words row h ws same = go (nat_eq h.row row) refl
  where
    go : (b : Bool) → nat_eq h.row row ≡ b → cond b (record h { words = ws }) h ≡ h
    go true e = ap (λ us. record h { words = us }) (sym (same (eqb-true h.row row e)))
    go false e = refl

-- the words that are put in are the last ones
with_word_more : (row index : ℕ) (ws : List ℕ) (h : KnownRow (List Cell)) → with_word row index 0 (with_words row ws h) ≡ with_words row (slice_set ws index 0) h
with_word_more row index ws h = go (nat_eq h.row row) refl
  where
    go : (b : Bool) → nat_eq h.row row ≡ b → with_word row index 0 (cond b (record h { words = ws }) h) ≡ cond b (record h { words = slice_set ws index 0 }) h
    go true e = ap (λ b. cond b (record h { words = slice_set ws index 0 }) (record h { words = ws })) e
    go false e = ap (λ b. cond b (record h { words = slice_set h.words index 0 }) h) e

abbrev pub View : Type 0 → Type 0 → Type 0
View B E = PassView (List Cell) B E

pub blank_cells : (cells : List Cell) → length cells ≡ 512 → ((i : ℕ) → i < 512 → slice_get cells i ≡ Some Invalid) → cells ≡ blank
unfolding blank
blank_cells cells long each = all_of_one 512 cells Invalid long each

module _ {B E : Type 0} where
  pub starts_empty : (row : ℕ) (cells : List Cell) (v : View B E) → MayEmpty row cells v → Emptying row 0 v cells v
  starts_empty row cells v may = record {
    known = may.known;
    held = may.held;
    same_row = may.same_row;
    linked = may.linked;
    words = may.known.words;
    view = λ i. record v { rows = sym (map_same (with_words row may.known.words) v.rows (λ h is. with_same_words row h may.known.words (λ e. ap (λ (y : KnownRow (List Cell)). y.words) (may.only h is e)))) i };
    whole = may.whole;
    no_links = may.no_links;
    clear = may.clear;
    none = λ index less. absurd (omega arith);
  }

  module _ (row n : ℕ) (v : View B E) (cells : List Cell) (w : View B E) (is : Emptying row n v cells w) where
    abbrev there : KnownRow (List Cell)
    there = record is.known { words = is.words }

    is_there : Contains w.rows there
    is_there = subst (λ (u : View B E). Contains u.rows there) (sym is.view)
        (subst (Contains (map (with_words row is.words) v.rows)) (ap (λ b. cond b there is.known) (eq-eqb is.known.row row is.same_row)) (in_map (with_words row is.words) v.rows is.known is.held))

    pub may_set : n < 512 → MaySetEntry w row n 0
    may_set inside = record {
      linker = there;
      held = is_there;
      same_row = is.same_row;
      linked = subst (λ (u : View B E). NotInHand u row) (sym is.view) is.linked;
      inside = inside;
      old = is.no_links n inside;
      new = inl refl;
    }

    pub one_more : (w' : View B E) (cells' : List Cell) → n < 512 → Sets row n 0 w w' → cells' ≡ slice_set cells n Invalid → Emptying row (n + 1) v cells' w'
    one_more w' cells' inside sets content = record {
      known = is.known;
      held = is.held;
      same_row = is.same_row;
      linked = is.linked;
      words = slice_set is.words n 0;
      view = sets there is_there is.same_row
          ∙ (ap (λ b. cond b (link_set w there n 0) (word_set w is.known.row n 0)) zero_no_link
          ∙ (ap (λ r. word_set w r n 0) is.same_row
          ∙ (ap (λ (u : View B E). record u { rows = map (with_word row n 0) u.rows }) is.view
          ∙ ap (λ rs. record v { rows = rs }) (map_twice (with_words row is.words) (with_word row n 0) (with_words row (slice_set is.words n 0)) v.rows (with_word_more row n is.words)))));
      whole = ap length content ∙ (length-set cells n Invalid ∙ is.whole);
      no_links = λ index less. dite (ℕ_discrete index n)
          (λ e. ap is_link (ap (slice_index (slice_set is.words n 0)) e ∙ zero_set is.words n) ∙ zero_no_link)
          (λ ne. ap is_link (zero_beside is.words n index ne) ∙ is.no_links index less);
      clear = λ index less none. dite (ℕ_discrete index n)
          (λ e. ap (slice_index (slice_set is.words n 0)) e ∙ zero_set is.words n)
          (λ ne. zero_beside is.words n index ne ∙ is.clear index less (sym (ap (λ xs. slice_get xs index) content ∙ get_other cells n index Invalid ne) ∙ none));
      none = λ index less. dite (ℕ_discrete index n)
          (λ e. ap (λ xs. slice_get xs index) content ∙ (ap (slice_get (slice_set cells n Invalid)) e ∙ get_same cells n Invalid (let long = is.whole in omega arith)))
          (λ ne. ap (λ xs. slice_get xs index) content ∙ (get_other cells n index Invalid ne ∙ is.none index (omega arith)));
    }

    pub same_here : (cell : Cell) → slice_get cells n ≡ Some cell → is_used cell ≡ false → Emptying row (n + 1) v cells w
    same_here cell here none = record {
      known = is.known;
      held = is.held;
      same_row = is.same_row;
      linked = is.linked;
      words = is.words;
      view = is.view;
      whole = is.whole;
      no_links = is.no_links;
      clear = is.clear;
      none = λ index less. dite (ℕ_discrete index n)
          (λ e. ap (slice_get cells) e ∙ (here ∙ ap Some (unused cell none)))
          (λ ne. is.none index (omega arith));
    }

  pub all_empty : (row n : ℕ) (v : View B E) (cells : List Cell) (w : View B E) → n ≡ 512 → Emptying row n v cells w → (cells ≡ blank) × Empties row v w
  all_empty row n v cells w all is =
      let each : (i : ℕ) → i < 512 → slice_get cells i ≡ Some Invalid = λ i less. is.none i (omega arith) in
      (blank_cells cells is.whole each, record { words = is.words; view = is.view; none = λ i less. is.clear i less (each i less) })

  pub none_there : (row : ℕ) (v : View B E) (cells : List Cell) → MayEmpty row cells v → used_count cells ≡ 0 → (cells ≡ blank) × Empties row v v
  none_there row v cells may none =
      let each : (i : ℕ) → i < 512 → slice_get cells i ≡ Some Invalid = λ i less. none_used cells i none (let long = may.whole in omega arith) in
      let is = starts_empty row cells v may in
      (blank_cells cells may.whole each, record { words = is.words; view = is.view; none = λ i less. is.clear i less (each i less) })
