-- The rows of a list are changed one after another.
--     begun, may_change, stepped, ended      before the first;  the next one may be changed;  it is;  after the last
use Rattle.std.specs.Prelude.{◌≡◌, ◌≢◌, ℕ, zero, suc, ◌+◌, ◌<◌, ◌≤◌, ◌⊎◌, Bool, true, false, cond, nat_eq, List, [], ◌∷◌, map, length, slice_get, slice_index, slice_index_or, Some}
use Rattle.std.specs.List.{Contains}
use Rattle.std.proofs.Common.{sym, refl, ◌∙◌, ap, subst, arith, inl, inr}
use Rattle.std.proofs.lemmas.Bool.{true≢false, eqb-true}
use Rattle.std.proofs.lemmas.List.{length-map}
use Rattle.std.proofs.lemmas.List.Elements.{Contains-get_or}
use mathlib.Core.Logic.{dite}
use native.Mathlib.Decide.{ℕ_discrete}
use Rattle.page_map.specs.State.{State}
use Rattle.row_cells.specs.declared.Cell.{Cell}
use Rattle.row_table.specs.declared.view.PassView.{PassView}
use Rattle.row_table.specs.declared.view.HeldRow.{HeldRow as KnownRow}
use Rattle.row_table.specs.Known.{AreWhole}
use Rattle.row_table.specs.Moves.{NotInHand}
use Rattle.row_table.specs.Rule.{row_part}
use Rattle.row_table.proofs.Beside.{unique_part}
use Rattle.row_table.proofs.Turns.{contained_map, same_parts}
use Rattle.table_place.specs.declared.Place.{Place}
use Rattle.table_place.proofs.Entries.{level_of}
use Rattle.tree_lock.specs.Held.{row_number, row_numbers, IsInOrder, with_content}
use Rattle.walk_core.specs.Lists.{times, IsDistinct}
use Rattle.walk_core.proofs.RowLists.{in_map}
use Rattle.machine_plan.specs.Agrees.{IsTableOf}
use Rattle.machine_plan.specs.Books.{BookData}
use Rattle.machine_plan.specs.Held.{AllGiven}
use Rattle.machine_plan.specs.HeldRows.{Row, AreOf}
use Rattle.cursor_detach.specs.Cutting.{with_words}
use Rattle.cursor_detach.proofs.Lists.{any_default}
use Rattle.cursor_detach.proofs.RowLists.{one_index, one_number, with_same, with_other, with_length}
use Rattle.cursor_apply.specs.declared.becoming.RangeChange.{RangeChange}
use Rattle.cursor_apply.specs.Changing.{MayMake, Makes, Passing}
use Rattle.cursor_apply.specs.Changed.{IsRowOf, IsChange, clean, Rewrites, RowChange, IsBase, IsReady, AreChanging, AreChanged}
use Rattle.cursor_apply.specs.Putting.{row_place}
use Rattle.cursor_apply.proofs.RowMade.{may_make, row_made}

-- every row keeps its number and its position
pub same_places : (rows : List Row) (k : ℕ) (w : List Cell) → map row_place (with_content rows k w) ≡ map row_place rows
same_places [] k w = refl
same_places (x ∷ xs) zero w = refl
same_places (x ∷ xs) (suc k) w = ap (λ (l : List (ℕ × Place)). row_place x ∷ l) (same_places xs k w)

-- ---- words alone are written

words_parts : (row : ℕ) (ws : List ℕ) (h : KnownRow (List Cell)) → row_part (with_words row ws h) ≡ row_part h
words_parts row ws h = go (nat_eq h.row row)
  where
    go : (t : Bool) → row_part (cond t (record h { words = ws }) h) ≡ row_part h
    go true = refl
    go false = refl

words_given : (row : ℕ) (ws : List ℕ) (h : KnownRow (List Cell)) → (with_words row ws h).is_given ≡ h.is_given
words_given row ws h = go (nat_eq h.row row)
  where
    go : (t : Bool) → (cond t (record h { words = ws }) h).is_given ≡ h.is_given
    go true = refl
    go false = refl

words_other : (row : ℕ) (ws : List ℕ) (h : KnownRow (List Cell)) → h.row ≢ row → with_words row ws h ≡ h
words_other row ws h other = go (nat_eq h.row row) refl
  where
    go : (t : Bool) → nat_eq h.row row ≡ t → cond t (record h { words = ws }) h ≡ h
    go true e = absurd (other (eqb-true h.row row e))
    go false e = refl

module _ {B E : Type 0} where
  pub no_rewrite : (v : PassView (List Cell) B E) → Rewrites v v
  no_rewrite v = record { view = refl; parts = refl; given = λ g. g }

  pub rewrites_more : (u v w : PassView (List Cell) B E) → Rewrites u v → Rewrites v w → Rewrites u w
  rewrites_more u v w a b = record {
    view = b.view ∙ ap (λ (x : PassView (List Cell) B E). record x { rows = w.rows }) a.view;
    parts = b.parts ∙ a.parts;
    given = λ g. b.given (a.given g);
  }

  pub rewrites_row : (row : ℕ) (ws : List ℕ) (v w : PassView (List Cell) B E) → w ≡ record v { rows = map (with_words row ws) v.rows } → Rewrites v w
  rewrites_row row ws v w is = record {
    view = is ∙ ap (λ (l : List (KnownRow (List Cell))). record v { rows = l }) (sym rows_are);
    parts = ap (map row_part) rows_are ∙ same_parts (with_words row ws) row_part row_part (words_parts row ws) v.rows;
    given = λ g h has.
        let m = contained_map (with_words row ws) v.rows h (subst (λ (l : List (KnownRow (List Cell))). Contains l h) rows_are has) in
        ap (λ (k : KnownRow (List Cell)). k.is_given) (sym m.2) ∙ (words_given row ws m.0 ∙ g m.0 m.1);
  }
    where
      rows_are : w.rows ≡ map (with_words row ws) v.rows
      rows_are = ap (λ (x : PassView (List Cell) B E). x.rows) is

  pub long_row : (change : RangeChange) (at : ℕ) (rows rows' : List Row) (v w : PassView (List Cell) B E) → RowChange change at rows v rows' w → length rows' ≡ length rows
  long_row change at rows rows' v w c = ap length c.now ∙ with_length rows at c.content

  -- ---- the rows of a list

  module _ (b : BookData) (st now : State) (space : ℕ) (is_old : ℕ → Bool) (change : RangeChange) (v : PassView (List Cell) B E) (rows0 : List Row)
      (ready : IsReady b st now space is_old change v rows0) (once : IsDistinct (row_numbers rows0)) where
    abbrev Changing : ℕ → PassView (List Cell) B E → List Row → Type 0
    Changing done w rows = AreChanging b st now is_old change done v rows0 w rows

    -- no two rows that the pass knows have one number
    one_known : (w : PassView (List Cell) B E) → Rewrites v w → (h k : KnownRow (List Cell)) → Contains w.rows h → Contains w.rows k → h.row ≡ k.row → h ≡ k
    one_known w rewrites h k ch ck same = unique_part row_part w.rows h k ch ck same
        (let e : times h.row (map row_part w.rows) ≡ times h.row (row_numbers rows0) = ap (times h.row) (rewrites.parts ∙ ready.base.exact.shown) ∙ sym (ready.base.exact.held h.row) in let f = once h.row in omega arith)

    pub begun : Changing 0 v rows0
    begun = record {
      rewrites = no_rewrite v;
      places = refl;
      made = λ at d less inside. absurd (omega arith);
      left = λ at d le inside. ready.base.rows_of (slice_index_or rows0 at d) (Contains-get_or rows0 at d inside);
    }

    module _ (at : ℕ) (w : PassView (List Cell) B E) (rows : List Row) (is : Changing at w rows) where
      pub same_length : length rows ≡ length rows0
      same_length = sym (length-map rows row_place) ∙ (ap length is.places ∙ length-map rows0 row_place)

      -- a row of the list stood in it before
      was_there : (x : Row) → Contains rows x → (y : Row) × Contains rows0 y × (row_place y ≡ row_place x)
      was_there x has = contained_map row_place rows0 (row_place x) (subst (λ (l : List (ℕ × Place)). Contains l (row_place x)) is.places (in_map row_place rows x has))

      x_linked : (x : Row) → Contains rows x → NotInHand w x.row
      x_linked x has =
          let o = was_there x has in
          subst (λ (u : PassView (List Cell) B E). NotInHand u x.row) (sym is.rewrites.view) (subst (NotInHand v) (ap (λ (p : ℕ × Place). p.0) o.2) (ready.base.linked o.0 o.1))

      x_space : (x : Row) → Contains rows x → x.place.level < 6 → x.place.space ≡ space
      x_space x has low =
          let o = was_there x has in
          let same : o.0.place ≡ x.place = ap (λ (p : ℕ × Place). p.1) o.2 in
          ap (λ (p : Place). p.space) (sym same) ∙ ready.base.of_space o.0 o.1 (subst (λ (p : Place). p.level < 6) (sym same) low)

      high : (x : Row) → IsTableOf st x.place → 1 ≤ x.place.level
      high x (inl top) = let e = ap (λ (p : Place). p.level) top in omega arith
      high x (inr there) = (level_of _ x.place (ready.is_change.places x.place there)).0

      module _ (inside : at < length rows0) where
        there : at < length rows
        there = subst (λ n. at < n) (sym same_length) inside

        pub may_change : AreWhole w → (x d : Row) → slice_index_or rows at d ≡ x → (1 ≤ x.place.level) × MayMake x.row x.place x.content w
        may_change whole x d e =
            let r : IsRowOf b st is_old w.rows x = subst (IsRowOf b st is_old w.rows) e (is.left at d (omega arith) there) in
            let has : Contains rows x = subst (Contains rows) e (Contains-get_or rows at d there) in
            (high x r.table, may_make b change space st now ready.is_change is_old w x whole (x_linked x has) (one_known w is.rewrites) r)

        module _ (w' : PassView (List Cell) B E) (rows' : List Row) (c : RowChange change at rows w rows' w') (order : IsInOrder rows) (distinct : IsDistinct (row_numbers rows)) where
          abbrev ws : List ℕ
          ws = c.makes.passing.words

          has_row : Contains rows c.row
          has_row = subst (Contains rows) (c.is c.row) (Contains-get_or rows at c.row there)

          now_length : length rows' ≡ length rows
          now_length = ap length c.now ∙ with_length rows at c.content

          -- another row
          other_row : (s : State) (o : ℕ → Bool) (j : ℕ) (d : Row) → j ≢ at → j < length rows → IsRowOf b s o w.rows (slice_index_or rows j d) → IsRowOf b s o w'.rows (slice_index_or rows' j d)
          other_row s o j d other low r = subst (IsRowOf b s o w'.rows) (sym (ap (λ (l : List Row). slice_index_or l j d) c.now ∙ with_other rows at j c.content d other)) (record {
            row = r.row;
            held = subst (λ (u : PassView (List Cell) B E). Contains u.rows r.row) (sym c.makes.passing.view)
                (subst (Contains (map (with_words c.row.row ws) w.rows)) (words_other c.row.row ws r.row not_it) (in_map (with_words c.row.row ws) w.rows r.row r.held));
            same_row = r.same_row;
            same_place = r.same_place;
            table = r.table;
            whole = r.whole;
            entries = r.entries;
          })
            where
              y : Row
              y = slice_index_or rows j d

              not_it : r.row.row ≢ c.row.row
              not_it e =
                  let same : y ≡ c.row = one_number rows y c.row distinct (Contains-get_or rows j d low) has_row (sym r.same_row ∙ e) in
                  other (one_index rows j at d order low there (ap (λ (z : Row). z.place) (same ∙ sym (c.is d))))

          -- the row itself
          own_row : (j : ℕ) (d : Row) → j ≡ at → IsRowOf b now (clean change.first change.count is_old) w'.rows (slice_index_or rows' j d)
          own_row j d e =
              let r : IsRowOf b st is_old w.rows c.row = subst (IsRowOf b st is_old w.rows) (c.is d) (is.left at d (omega arith) there) in
              let made = row_made b change space st now ready.is_change is_old w w' c.row c.content r c.makes (one_known w is.rewrites) (x_space c.row has_row) in
              subst (IsRowOf b now (clean change.first change.count is_old) w'.rows)
              (sym (ap (λ (l : List Row). slice_index_or l j d) c.now ∙ (ap (λ k. slice_index_or (with_content rows at c.content) k d) e ∙ (with_same rows at c.content d there ∙ ap (λ (z : Row). record z { content = c.content }) (c.is d))))) made

          pub stepped : Changing (at + 1) w' rows'
          stepped = record {
            rewrites = rewrites_more v w w' is.rewrites (rewrites_row c.row.row ws w w' c.makes.passing.view);
            places = ap (map row_place) c.now ∙ (same_places rows at c.content ∙ is.places);
            made = λ j d less low. dite (ℕ_discrete j at)
                (λ e. own_row j d e)
                (λ ne. let inside' : j < length rows = subst (λ n. j < n) now_length low in
                other_row now (clean change.first change.count is_old) j d ne inside' (is.made j d (earlier j less ne) inside'));
            left = λ j d le low.
                let inside' : j < length rows = subst (λ n. j < n) now_length low in
                other_row st is_old j d (λ e. omega arith) inside' (is.left j d (omega arith) inside');
          }
            where
              earlier : (j : ℕ) → j < at + 1 → j ≢ at → j < at
              earlier j less ne = omega arith

    pub ended : (n : ℕ) (w : PassView (List Cell) B E) (rows : List Row) → length rows0 ≤ n → Changing n w rows → AreChanged b now (clean change.first change.count is_old) v rows0 w rows
    ended n w rows all is = record {
      rewrites = is.rewrites;
      places = is.places;
      rows_of = λ x has. subst (IsRowOf b now (clean change.first change.count is_old) w.rows) has.2 (is.made has.0 x (let long = same_length n w rows is in let low = has.1 in omega arith) has.1);
    }

  -- the rows after a change may be changed again
  pub base_after : (b : BookData) (st now : State) (space : ℕ) (is_old is_new : ℕ → Bool) (v : PassView (List Cell) B E) (rows0 : List Row) (w : PassView (List Cell) B E) (rows : List Row)
      → IsBase b st space is_old v rows0 → AreChanged b now is_new v rows0 w rows → IsBase b now space is_new w rows
  base_after b st now space is_old is_new v rows0 w rows base is = record {
    exact = record {
      held = λ r. ap (times r) numbers ∙ (base.exact.held r ∙ ap (λ (u : PassView (List Cell) B E). times r u.core.held) (sym is.rewrites.view));
      shown = is.rewrites.parts ∙ (base.exact.shown ∙ ap (λ (u : PassView (List Cell) B E). u.core.held) (sym is.rewrites.view));
    };
    of_space = λ x has low.
        let o = was x has in
        let same : o.0.place ≡ x.place = ap (λ (p : ℕ × Place). p.1) o.2 in
        ap (λ (p : Place). p.space) (sym same) ∙ base.of_space o.0 o.1 (subst (λ (p : Place). p.level < 6) (sym same) low);
    linked = λ x has.
        let o = was x has in
        subst (λ (u : PassView (List Cell) B E). NotInHand u x.row) (sym is.rewrites.view) (subst (NotInHand v) (ap (λ (p : ℕ × Place). p.0) o.2) (base.linked o.0 o.1));
    rows_of = is.rows_of;
  }
    where
      numbers : row_numbers rows ≡ row_numbers rows0
      numbers = sym (same_parts row_place (λ (p : ℕ × Place). p.0) row_number (λ x. refl) rows) ∙ (ap (map (λ (p : ℕ × Place). p.0)) is.places ∙ same_parts row_place (λ (p : ℕ × Place). p.0) row_number (λ x. refl) rows0)

      was : (x : Row) → Contains rows x → (y : Row) × Contains rows0 y × (row_place y ≡ row_place x)
      was x has = contained_map row_place rows0 (row_place x) (subst (λ (l : List (ℕ × Place)). Contains l (row_place x)) is.places (in_map row_place rows x has))

  -- nothing is changed
  pub none_changed : (b : BookData) (st : State) (space : ℕ) (is_old : ℕ → Bool) (v : PassView (List Cell) B E) (rows : List Row) → IsBase b st space is_old v rows → AreChanged b st is_old v rows v rows
  none_changed b st space is_old v rows base = record { rewrites = no_rewrite v; places = refl; rows_of = base.rows_of }

  -- one change after another
  pub changed_more : (b : BookData) (now : State) (is_old is_new : ℕ → Bool) (mid : State) (u v w : PassView (List Cell) B E) (rows0 rows rows' : List Row)
      → AreChanged b mid is_old u rows0 v rows → AreChanged b now is_new v rows w rows' → AreChanged b now is_new u rows0 w rows'
  changed_more b now is_old is_new mid u v w rows0 rows rows' first second = record {
    rewrites = rewrites_more u v w first.rewrites second.rewrites;
    places = second.places ∙ first.places;
    rows_of = second.rows_of;
  }
