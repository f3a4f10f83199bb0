-- The entries of a held row are changed one after another.
--     may_set      an entry of it may have the word of its new cell
--     one_entry      an entry is changed, if it is no link
--     starts, may_next, next      before the first entry;  the next one may be changed;  it is
use Rattle.std.specs.Prelude.{◌≡◌, ℕ, suc, ◌+◌, ◌<◌, ◌≤◌, ◌⊎◌, Bool, true, false, cond, List, map, length, nat_eq, slice_get, slice_index, slice_set, Some}
use Rattle.std.specs.List.{Contains}
use Rattle.std.proofs.Common.{sym, refl, ◌∙◌, ap, subst, arith, inl, inr, eq-eqb, get_or-set_same, get_or-set_other}
use Rattle.std.proofs.lemmas.Bool.{true≢false, false≢true, eqb-true}
use Rattle.std.proofs.lemmas.List.{length-set}
use mathlib.Core.Logic.{dite}
use native.Mathlib.Decide.{ℕ_discrete}
use Rattle.walk_core.specs.Words.{is_link, is_leaf}
use Rattle.walk_core.proofs.RowLists.{in_map}
use Rattle.row_table.specs.declared.view.PassView.{PassView}
use Rattle.row_table.specs.declared.view.HeldRow.{HeldRow as KnownRow}
use Rattle.row_table.specs.Links.{with_word, link_set, word_set, MaySetEntry, LinksHand}
use Rattle.row_table.specs.Moves.{NotInHand}
use Rattle.row_cells.specs.declared.Cell.{Cell}
use Rattle.table_place.specs.declared.Place.{Place}
use Rattle.machine_plan.specs.HeldRows.{is_table}
use Rattle.cursor_detach.specs.Cutting.{with_words}
use Rattle.cursor_detach.proofs.Lists.{get_same, get_other, map_same, map_twice}
use Rattle.cursor_apply.specs.declared.becoming.Making.{Making}
use Rattle.cursor_apply.specs.Changing.{cell_made, word_made, behind_at, IsSmall, SetsWord, MayMakeEntry, MakesEntry, MayMake, Passing, IsMade}
use Rattle.cursor_apply.proofs.Words.{made_small, word_fits, word_no_link}

with_same_words : (row : ℕ) (h : KnownRow (List Cell)) (ws : List ℕ) → (h.row ≡ row → h.words ≡ ws) → with_words row ws h ≡ h
with_same_words row h ws same = go (nat_eq h.row row) refl
  where
    go : (b : Bool) → nat_eq h.row row ≡ b → cond b (record h { words = ws }) h ≡ h
    go true e = ap (λ us. record h { words = us }) (sym (same (eqb-true h.row row e)))
    go false e = refl

-- the words that are put in are the last ones
with_word_more : (row index word : ℕ) (ws : List ℕ) (h : KnownRow (List Cell)) → with_word row index word (with_words row ws h) ≡ with_words row (slice_set ws index word) h
with_word_more row index word ws h = go (nat_eq h.row row) refl
  where
    go : (b : Bool) → nat_eq h.row row ≡ b → with_word row index word (cond b (record h { words = ws }) h) ≡ cond b (record h { words = slice_set ws index word }) h
    go true e = ap (λ b. cond b (record h { words = slice_set ws index word }) (record h { words = ws })) e
    go false e = ap (λ b. cond b (record h { words = slice_set h.words index word }) h) e

-- a cell was read, and found to be no link
pub no_link_there : (cells : List Cell) (index : ℕ) (x y : Cell) (t : Bool) → slice_get cells index ≡ Some x → slice_get cells index ≡ Some y → t ≡ is_table x → t ≡ false → is_table y ≡ false
no_link_there cells index x y t at there is off =
    let same : x ≡ y = (let both : Some x ≡ Some y = sym at ∙ there in cc) in
    ap is_table (sym same) ∙ (sym is ∙ off)

abbrev pub View : Type 0 → Type 0 → Type 0
View B E = PassView (List Cell) B E

module _ {B E : Type 0} where
  -- ---- one entry

  pub may_set : (row level index : ℕ) (cells : List Cell) (v : View B E) → MayMakeEntry row level index cells v → index < 512 → (making : Making) (behind : ℕ) (was : Cell) → slice_get cells index ≡ Some was → is_table was ≡ false
      → level ≡ 1 → MaySetEntry v row index (word_made (cell_made making behind was))
  may_set row level index cells v may inside making behind was there none one = record {
    linker = may.known;
    held = may.held;
    same_row = may.same_row;
    linked = may.linked;
    inside = inside;
    old = (may.free was there none).0;
    new = go (word_fits (cell_made making behind was) (made_small making behind was (may.free was there none).1));
  }
    where
      go : {word : ℕ} → (word ≡ 0) ⊎ (is_leaf word ≡ true) → (word ≡ 0) ⊎ (((is_leaf word ≡ true) × (may.known.place.level ≡ 1)) ⊎ LinksHand v may.known index word)
      go (inl zero) = inl zero
      go (inr leaf) = inr (inl (leaf, may.same_level ∙ one))

  -- ---- a row

  pub starts : (making : Making) (first : ℕ) (place : Place) (row from to : ℕ) (cells : List Cell) (v : View B E) → to ≤ from → MayMake row place cells v → Passing making first place row from to v cells v cells
  starts making first place row from to cells v none may = record {
    may = may;
    words = may.known.words;
    long = may.long;
    view = λ i. record v { rows = sym (map_same (with_words row may.known.words) v.rows (λ h is. with_same_words row h may.known.words (λ e. ap (λ (y : KnownRow (List Cell)). y.words) (may.only h is e)))) i };
    whole = may.whole;
    done = λ index was ge lt inside there. absurd (omega arith);
    kept = λ index inside never. (refl, refl);
  }

  module _ (making : Making) (first : ℕ) (place : Place) (row from n : ℕ) (v : View B E) (old : List Cell) (w : View B E) (cells : List Cell) (is : Passing making first place row from n v old w cells) where
    abbrev there : KnownRow (List Cell)
    there = record is.may.known { words = is.words }

    is_there : Contains w.rows there
    is_there = subst (λ (u : View B E). Contains u.rows there) (sym is.view)
        (subst (Contains (map (with_words row is.words) v.rows)) (ap (λ b. cond b there is.may.known) (eq-eqb is.may.known.row row is.may.same_row)) (in_map (with_words row is.words) v.rows is.may.known is.may.held))

    -- nothing was changed at the next entry
    here : n < 512 → (slice_get cells n ≡ slice_get old n) × (slice_index is.words n ≡ slice_index is.may.known.words n)
    here inside = is.kept n inside (λ ge lt. omega arith)

    pub may_next : n < 512 → MayMakeEntry row place.level n cells w
    may_next inside = record {
      known = there;
      held = is_there;
      same_row = is.may.same_row;
      same_level = ap (λ (p : Place). p.level) is.may.same_place;
      linked = subst (λ (u : View B E). NotInHand u row) (sym is.view) is.may.linked;
      free = λ cell at none. let h = here inside in let f = is.may.free n cell inside (sym h.0 ∙ at) none in (ap is_link h.1 ∙ f.0, f.1);
    }

    -- the words and the view after one entry
    pub record NewWords (was : Cell) (w' : View B E) : Type 0 where
      pub words : List ℕ
      pub long : length words ≡ 512
      pub view : w' ≡ record v { rows = map (with_words row words) v.rows }
      pub others : (index : ℕ) → (index ≡ n → ⊥) → slice_index words index ≡ slice_index is.words index
      pub link : is_table was ≡ true → slice_index words n ≡ slice_index is.words n
      pub leaf : is_table was ≡ false → place.level ≡ 1 → slice_index words n ≡ word_made (cell_made making (behind_at first place n) was)
      pub above : is_table was ≡ false → (place.level ≡ 1 → ⊥) → slice_index words n ≡ slice_index is.words n

    no_words : (was : Cell) (w' : View B E) → w' ≡ w → (is_table was ≡ false → place.level ≡ 1 → ⊥) → NewWords was w'
    no_words was w' same never = record {
      words = is.words;
      long = is.long;
      view = same ∙ is.view;
      others = λ index ne. refl;
      link = λ t. refl;
      leaf = λ t one. absurd (never t one);
      above = λ t up. refl;
    }

    set_words : (was : Cell) (w' : View B E) → n < 512 → is_table was ≡ false → IsSmall was → place.level ≡ 1 → SetsWord place.level row n (word_made (cell_made making (behind_at first place n) was)) w w' → NewWords was w'
    set_words was w' inside none small one sets =
        let word : ℕ = word_made (cell_made making (behind_at first place n) was) in
        let plain : is_link word ≡ false = word_no_link (cell_made making (behind_at first place n) was) (made_small making (behind_at first place n) was small) in
        record {
          words = slice_set is.words n word;
          long = length-set is.words n word ∙ is.long;
          view = sets.leaf one there is_there is.may.same_row
              ∙ (ap (λ b. cond b (link_set w there n word) (word_set w is.may.known.row n word)) plain
              ∙ (ap (λ r. word_set w r n word) is.may.same_row
              ∙ (ap (λ (u : View B E). record u { rows = map (with_word row n word) u.rows }) is.view
              ∙ ap (λ rs. record v { rows = rs }) (map_twice (with_words row is.words) (with_word row n word) (with_words row (slice_set is.words n word)) v.rows (with_word_more row n word is.words)))));
          others = λ index ne. get_or-set_other is.words n index word 0 ne;
          link = λ t. absurd (true≢false (sym t ∙ none));
          leaf = λ t low. get_or-set_same is.words n word 0 (let long = is.long in omega arith);
          above = λ t up. absurd (up one);
        }

    new_words : (was : Cell) (w' : View B E) → n < 512 → (is_table was ≡ true → w' ≡ w) → (is_table was ≡ false → IsSmall was × SetsWord place.level row n (word_made (cell_made making (behind_at first place n) was)) w w') → NewWords was w'
    new_words was w' inside link made = go (is_table was) refl
      where
        go : (t : Bool) → is_table was ≡ t → NewWords was w'
        go true e = no_words was w' (link e) (λ none. absurd (true≢false (sym e ∙ none)))
        go false e = dite (ℕ_discrete place.level 1)
            (λ one. set_words was w' inside e (made e).0 one (made e).1)
            (λ up. no_words was w' ((made e).1.above up) (λ t one. up one))

    -- the cells after one entry
    pub record NewCells (was : Cell) (cells' : List Cell) : Type 0 where
      pub whole : length cells' ≡ 512
      pub others : (index : ℕ) → (index ≡ n → ⊥) → slice_get cells' index ≡ slice_get cells index
      pub link : is_table was ≡ true → slice_get cells' n ≡ Some was
      pub made : is_table was ≡ false → slice_get cells' n ≡ Some (cell_made making (behind_at first place n) was)

    new_cells : (was : Cell) (cells' : List Cell) → n < 512 → slice_get cells n ≡ Some was → (is_table was ≡ true → cells' ≡ cells) → (is_table was ≡ false → cells' ≡ slice_set cells n (cell_made making (behind_at first place n) was)) → NewCells was cells'
    new_cells was cells' inside at link made = go (is_table was) refl
      where
        go : (t : Bool) → is_table was ≡ t → NewCells was cells'
        go true e = record {
          whole = ap length (link e) ∙ is.whole;
          others = λ index ne. ap (λ (l : List Cell). slice_get l index) (link e);
          link = λ t. ap (λ (l : List Cell). slice_get l n) (link e) ∙ at;
          made = λ t. absurd (true≢false (sym e ∙ t));
        }
        go false e =
            let new : Cell = cell_made making (behind_at first place n) was in
            record {
              whole = ap length (made e) ∙ (length-set cells n new ∙ is.whole);
              others = λ index ne. ap (λ (l : List Cell). slice_get l index) (made e) ∙ get_other cells n index new ne;
              link = λ t. absurd (true≢false (sym t ∙ e));
              made = λ t. ap (λ (l : List Cell). slice_get l n) (made e) ∙ get_same cells n new (let long = is.whole in omega arith);
            }

    joined : (was : Cell) (w' : View B E) (cells' : List Cell) → from ≤ n → n < 512 → slice_get old n ≡ Some was → NewCells was cells' → NewWords was w' → Passing making first place row from (n + 1) v old w' cells'
    joined was w' cells' since inside at cs ws = record {
      may = is.may;
      words = ws.words;
      long = ws.long;
      view = ws.view;
      whole = cs.whole;
      done = λ index cell ge lt low there'. dite (ℕ_discrete index n)
          (λ e. at_it index cell e there')
          (λ ne. subst (λ o. IsMade making (behind_at first place index) place.level cell (slice_index is.may.known.words index) o (slice_index ws.words index)) (sym (cs.others index ne))
          (subst (IsMade making (behind_at first place index) place.level cell (slice_index is.may.known.words index) (slice_get cells index)) (sym (ws.others index ne))
          (is.done index cell ge (less index lt ne) low there')));
      kept = λ index low never. dite (ℕ_discrete index n)
          (λ e. absurd (never (omega (arith, since, e)) (omega (arith, e))))
          (λ ne. let k = is.kept index low (λ ge lt. never ge (omega arith)) in (cs.others index ne ∙ k.0, ws.others index ne ∙ k.1));
    }
      where
        less : (index : ℕ) → index < n + 1 → (index ≡ n → ⊥) → index < n
        less index lt ne = omega arith

        made_here : IsMade making (behind_at first place n) place.level was (slice_index is.may.known.words n) (slice_get cells' n) (slice_index ws.words n)
        made_here = let h = here inside in record {
          link = λ t. (cs.link t, ws.link t ∙ h.1);
          made = λ t. cs.made t;
          leaf = λ t one. ws.leaf t one;
          above = λ t up. ws.above t up ∙ h.1;
        }

        at_it : (index : ℕ) (cell : Cell) → index ≡ n → slice_get old index ≡ Some cell → IsMade making (behind_at first place index) place.level cell (slice_index is.may.known.words index) (slice_get cells' index) (slice_index ws.words index)
        at_it index cell e there' =
            let same : was ≡ cell = (let both : Some was ≡ Some cell = sym at ∙ (ap (slice_get old) (sym e) ∙ there') in cc) in
            subst (λ k. IsMade making (behind_at first place k) place.level cell (slice_index is.may.known.words k) (slice_get cells' k) (slice_index ws.words k)) (sym e)
            (subst (λ (x : Cell). IsMade making (behind_at first place n) place.level x (slice_index is.may.known.words n) (slice_get cells' n) (slice_index ws.words n)) same made_here)

    pub next : (w' : View B E) (cells' : List Cell) → from ≤ n → n < 512 → MakesEntry making (behind_at first place n) row place.level n cells w cells' w' → Passing making first place row from (n + 1) v old w' cells'
    next w' cells' ge inside made =
        let h = here inside in
        let at : slice_get old n ≡ Some made.was = sym h.0 ∙ made.there in
        joined made.was w' cells' ge inside at
        (new_cells made.was cells' inside made.there (λ t. (made.link t).0) (λ t. (made.made t).0))
        (new_words made.was w' inside (λ t. (made.link t).1) (λ t. ((is.may.free n made.was inside at t).1, (made.made t).1)))
