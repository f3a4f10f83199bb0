-- Marks that are copied, one entry after another.
--     starts, next      before the first entry;  one more
--     none_yet, one_more      before the first row;  one more
--     source_there      the source's row is still there
use Rattle.std.specs.Prelude.{◌≡◌, ◌≢◌, ℕ, zero, suc, ◌+◌, ◌<◌, ◌≤◌, List, [], ◌∷◌, length, slice_get, slice_index_or, slice_set, Option, Some}
use Rattle.std.specs.Option.{unwrap_or}
use Rattle.std.proofs.Common.{sym, refl, ◌∙◌, ap, subst, arith, inl, inr}
use Rattle.std.proofs.lemmas.Option.{slice_get_within}
use mathlib.Core.Logic.{dite}
use native.Mathlib.Decide.{ℕ_discrete}
use Rattle.page_map.proofs.Owners.{same_some}
use Rattle.row_cells.specs.declared.Cell.{Cell}
use Rattle.machine_plan.specs.HeldRows.{Row}
use Rattle.cursor_detach.proofs.Lists.{get_same, get_other, any_default}
use Rattle.cursor_detach.proofs.RowLists.{with_same, with_other, with_length}
use Rattle.machine_plan.specs.Held.{ListHolds}
use Rattle.table_place.specs.declared.Place.{Place}
use Rattle.cursor_detach.specs.Cutting.{IsRowAt}
use Rattle.space_apply.specs.Copying.{copy_at}
use Rattle.space_apply.specs.Marking.{mark_of, CopiesMark, IsCopyOf, CopiesRow, CopiesPlace, MarksCopied}

pub starts : (from to : ℕ) (rows : List Row) → to < length rows → CopiesRow from to 0 rows rows
starts from to [] inside = absurd (omega (arith, inside))
starts from to (z ∷ zs) inside = record {
  long = refl;
  others = λ k d ne. refl;
  content = (slice_index_or (z ∷ zs) to z).content;
  is = λ d. ap (λ (x : Row). record (slice_index_or (z ∷ zs) to d) { content = x.content }) (any_default (z ∷ zs) to d z inside);
  copies = λ d. record {
    done = λ i s o less a b. absurd (omega (arith, less));
    left = λ i some. ap (λ (x : Row). slice_get x.content i) (any_default (z ∷ zs) to z d inside);
  };
}

module _ (from to n : ℕ) (rows rows' rows'' : List Row) (two : from ≢ to) (there : to < length rows) (so : CopiesRow from to n rows rows') (step : CopiesMark from to n rows' rows'') where
  source_is : (d : Row) → slice_index_or rows from d ≡ step.source
  source_is d = sym (so.others from d two) ∙ step.is_source d

  -- the entry's cell of the source
  cell_is : (d : Row) (s : Cell) → slice_get (slice_index_or rows from d).content n ≡ Some s → s ≡ step.cell
  cell_is d s e = same_some (sym e ∙ (ap (λ (x : Row). slice_get x.content n) (source_is d) ∙ step.there))

  pub next : CopiesRow from to (n + 1) rows rows''
  next = elim step.put [
    | inl none ↦ record {
      long = ap length none.1 ∙ so.long;
      others = λ k d ne. ap (λ (l : List Row). slice_index_or l k d) none.1 ∙ so.others k d ne;
      content = so.content;
      is = λ d. ap (λ (l : List Row). slice_index_or l to d) none.1 ∙ so.is d;
      copies = λ d. record {
        done = λ i s o less a b. dite (ℕ_discrete i n)
            (λ e.
            let last = cell_is d s (ap (slice_get (slice_index_or rows from d).content) (sym e) ∙ a) in
            (so.copies d).left i (at_least i n e) ∙ (b ∙ ap (λ (m : Option Cell). Some (unwrap_or m o)) (sym (ap mark_of last ∙ none.0))))
            (λ ne. (so.copies d).done i s o (fewer i n less ne) a b);
        left = λ i some. (so.copies d).left i (omega (arith, some));
      };
    }
    | inr put ↦ record {
      long = ap length put.6 ∙ (with_length rows' to (slice_set put.2 n put.0) ∙ so.long);
      others = λ k d ne. ap (λ (l : List Row). slice_index_or l k d) put.6 ∙ (with_other rows' to k (slice_set put.2 n put.0) d ne ∙ so.others k d ne);
      content = slice_set put.2 n put.0;
      is = λ d. ap (λ (l : List Row). slice_index_or l to d) put.6 ∙ (with_same rows' to (slice_set put.2 n put.0) d (let long = so.long in omega (arith, long, there)) ∙ ap (λ (x : Row). record x { content = slice_set put.2 n put.0 }) (so.is d));
      copies = λ d.
          let content_is : put.2 ≡ so.content = sym (put.3 d) ∙ ap (λ (x : Row). x.content) (so.is d) in
          record {
            done = λ i s o less a b. dite (ℕ_discrete i n)
                (λ e.
                let last = cell_is d s (ap (slice_get (slice_index_or rows from d).content) (sym e) ∙ a) in
                ap (slice_get (slice_set put.2 n put.0)) e ∙ (get_same put.2 n put.0 (slice_get_within put.2 n put.4 put.5) ∙ ap (λ (m : Option Cell). Some (unwrap_or m o)) (sym (ap mark_of last ∙ put.1))))
                (λ ne. get_other put.2 n i put.0 ne ∙ (ap (λ (l : List Cell). slice_get l i) content_is ∙ (so.copies d).done i s o (fewer i n less ne) a b));
            left = λ i some. get_other put.2 n i put.0 (λ e. absurd (omega (arith, some, e))) ∙ (ap (λ (l : List Cell). slice_get l i) content_is ∙ (so.copies d).left i (omega (arith, some)));
          };
    }
  ]
    where
      fewer : (i m : ℕ) → i < m + 1 → (i ≡ m → ⊥) → i < m
      fewer i m less ne = omega arith

      at_least : (i m : ℕ) → i ≡ m → m ≤ i
      at_least i m e = omega arith

-- ---- the rows of a list

pub none_yet : (space new : ℕ) (rows : List Row) → MarksCopied space new 0 rows rows
none_yet space new rows = record { long = refl; places = λ k d. refl; left = λ k d never. refl; done = λ k d less inside of_new low. absurd (omega (arith, less)) }

abbrev pub Done : List Row → List Row → ℕ → Row → ℕ → Type 0
Done rows rows'' space d k = (j : ℕ) × (from : IsRowAt (copy_at space (slice_index_or rows k d).place) rows j) × (content : List Cell) × (slice_index_or rows'' k d ≡ record (slice_index_or rows k d) { content = content }) × IsCopyOf from.row.content (slice_index_or rows k d).content 512 content

module _ (space new n : ℕ) (rows rows' : List Row) (two : space ≢ new) (so : MarksCopied space new n rows rows') where
  pub source_there : (p : Place) → ListHolds rows p → ListHolds rows' p
  source_there p l =
      let y = slice_index_or rows' l.1.0 l.0 in
      (y, (l.1.0, (let long = so.long in let inside = l.1.1 in omega (arith, long, inside)), same l.1.0), so.places l.1.0 l.0 ∙ (ap (λ (x : Row). x.place) l.1.2 ∙ l.2))
    where
      same : (k : ℕ) → slice_index_or rows' k (slice_index_or rows' k l.0) ≡ slice_index_or rows' k l.0
      same k = go rows' k
        where
          go : (xs : List Row) (j : ℕ) → slice_index_or xs j (slice_index_or xs j l.0) ≡ slice_index_or xs j l.0
          go [] j = refl
          go (x ∷ xs) zero = refl
          go (x ∷ xs) (suc j) = go xs j

  -- the row that is next is as it was
  pub next_is : (d : Row) → slice_index_or rows' n d ≡ slice_index_or rows n d
  next_is d = so.left n d (λ less of_new low. omega (arith, less))

  module _ (inside : n < length rows) (rows'' : List Row) (step : CopiesPlace space new n rows' rows'') where
    row_is : (d : Row) → slice_index_or rows n d ≡ step.row
    row_is d = sym (next_is d) ∙ step.is_row d

    fewer : (i m : ℕ) → i < m + 1 → (i ≡ m → ⊥) → i < m
    fewer i m less ne = omega arith

    more : (i m : ℕ) → i < m → i < m + 1
    more i m less = omega arith

    next_less : (i m : ℕ) → i ≡ m → i < m + 1
    next_less i m e = omega arith

    kept_all : rows'' ≡ rows' → (step.row.place.space ≡ new → step.row.place.level < 6 → ⊥) → MarksCopied space new (n + 1) rows rows''
    kept_all same never = record {
      long = ap length same ∙ so.long;
      places = λ k d. ap (λ (l : List Row). (slice_index_or l k d).place) same ∙ so.places k d;
      left = λ k d h. ap (λ (l : List Row). slice_index_or l k d) same ∙ so.left k d (λ less. h (more k n less));
      done = λ k d less within of_new low. dite (ℕ_discrete k n)
          (λ e. absurd (never
          (ap (λ (x : Row). x.place.space) (sym (row_is d) ∙ ap (λ j. slice_index_or rows j d) (sym e)) ∙ of_new)
          (subst (λ (x : Row). x.place.level < 6) (ap (λ j. slice_index_or rows j d) e ∙ row_is d) low)))
          (λ ne. let o = so.done k d (fewer k n less ne) within of_new low in (o.0, o.1, o.2, ap (λ (l : List Row). slice_index_or l k d) same ∙ o.3, o.4));
    }

    copied_one : step.row.place.space ≡ new → step.row.place.level < 6 → (from : ℕ) → IsRowAt (copy_at space step.row.place) rows' from → CopiesRow from n 512 rows' rows'' → MarksCopied space new (n + 1) rows rows''
    copied_one of_step low_step from at copies = record {
      long = copies.long ∙ so.long;
      places = λ k d. dite (ℕ_discrete k n)
          (λ e. subst (λ j. (slice_index_or rows'' j d).place ≡ (slice_index_or rows j d).place) (sym e) (ap (λ (x : Row). x.place) (copies.is d) ∙ so.places n d))
          (λ ne. ap (λ (x : Row). x.place) (copies.others k d ne) ∙ so.places k d);
      left = λ k d h. dite (ℕ_discrete k n)
          (λ e. absurd (h (next_less k n e)
          (ap (λ j. (slice_index_or rows j d).place.space) e ∙ (ap (λ (x : Row). x.place.space) (row_is d) ∙ of_step))
          (subst (λ (x : Row). x.place.level < 6) (sym (ap (λ j. slice_index_or rows j d) e ∙ row_is d)) low_step)))
          (λ ne. copies.others k d ne ∙ so.left k d (λ less. h (more k n less)));
      done = λ k d less within of_new low. dite (ℕ_discrete k n)
          (λ e. subst (λ j. Done rows rows'' space d j) (sym e) (mine d))
          (λ ne. let o = so.done k d (fewer k n less ne) within of_new low in (o.0, o.1, o.2, copies.others k d ne ∙ o.3, o.4));
    }
      where
        -- the source's row is none of the copy
        source_is : (d : Row) → slice_index_or rows from d ≡ at.row
        source_is d = sym (so.left from d (λ less of_new low. two (sym (ap (λ (p : Place). p.space) (sym (so.places from d) ∙ (ap (λ (x : Row). x.place) (at.is d) ∙ at.place))) ∙ of_new))) ∙ at.is d

        mine : (d : Row) → Done rows rows'' space d n
        mine d = (
          from,
          record { inside = (let long = so.long in let i = at.inside in omega (arith, long, i)); row = at.row; is = source_is; place = at.place ∙ ap (λ (x : Row). copy_at space x.place) (sym (row_is d)) },
          copies.content,
          copies.is d ∙ ap (λ (x : Row). record x { content = copies.content }) (next_is d),
          subst (λ (x : Row). IsCopyOf at.row.content x.content 512 copies.content) (next_is d) (subst (λ (x : Row). IsCopyOf x.content (slice_index_or rows' n d).content 512 copies.content) (at.is d) (copies.copies d)),
        )

    pub one_more : MarksCopied space new (n + 1) rows rows''
    one_more = elim step.put [
      | inl none ↦ kept_all none.0 none.1
      | inr put ↦ copied_one put.0 put.1 put.2 put.3 put.4
    ]
