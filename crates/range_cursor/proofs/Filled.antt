-- What was taken out of a cell and comes back leaves the rows as they were.
use Rattle.std.specs.Prelude.{◌≡◌, ℕ, zero, suc, ◌%◌, ◌<◌, List, [], ◌∷◌, length, slice_get, slice_set, slice_index_or, Some}
use Rattle.std.specs.List.{Contains}
use Rattle.std.proofs.Common.{sym, refl, ◌∙◌, ap, arith, inl, inr}
use Rattle.std.proofs.lemmas.List.{set-set}
use Rattle.std.proofs.lemmas.Option.{slice_get_within}
use Rattle.page_map.proofs.Owners.{same_some}
use Rattle.corten_base.specs.declared.calls.Backing.TheVariants as backing
use Rattle.row_cells.specs.declared.Cell.{Cell}
use Rattle.row_cells.specs.declared.Cell.TheVariants.{Invalid, Table, Anon, File, Mapped, Swapped}
use Rattle.tree_lock.specs.Held.{with_content}
use Rattle.machine_plan.specs.HeldRows.{Row}
use Rattle.range_cursor.specs.declared.drawing.Drawn.{Drawn}
use Rattle.range_cursor.specs.Drawing.{drawn_cell, drawn_from, filled_cell, leaf_place, IsAtPlace, IsTaken}
use Rattle.range_cursor.proofs.Taken.{get_same, with_same, with_length, any_default}

refilled : (c : Cell) → filled_cell (drawn_cell c) (drawn_from c) ≡ c
refilled Invalid = refl
refilled Table = refl
refilled (Anon perm) = refl
refilled (File perm file index) = refl
refilled (Mapped perm backing.Zero frame) = refl
refilled (Mapped perm (backing.File file index) frame) = refl
refilled (Swapped perm backing.Zero slot) = refl
refilled (Swapped perm (backing.File file index) slot) = refl

set_back : {X : Type 0} (xs : List X) (i : ℕ) (x : X) → slice_get xs i ≡ Some x → slice_set xs i x ≡ xs
set_back [] i x e = refl
set_back (y ∷ ys) zero x e = ap (λ z. z ∷ ys) (sym (same_some e))
set_back (y ∷ ys) (suc i) x e = ap (λ l. y ∷ l) (set_back ys i x e)

twice : (rows : List Row) (k : ℕ) (v w : List Cell) → with_content (with_content rows k v) k w ≡ with_content rows k w
twice [] k v w = refl
twice (x ∷ xs) zero v w = refl
twice (x ∷ xs) (suc k) v w = ap (λ l. x ∷ l) (twice xs k v w)

same_content : (rows : List Row) (k : ℕ) (w : List Cell) → ((d : Row) → (slice_index_or rows k d).content ≡ w) → with_content rows k w ≡ rows
same_content [] k w is = refl
same_content (x ∷ xs) zero w is = ap (λ c. record x { content = c } ∷ xs) (sym (is x))
same_content (x ∷ xs) (suc k) w is = ap (λ l. x ∷ l) (same_content xs k w is)

module _ (space page : ℕ) (rows now : List Row) (taken : Drawn) where
  -- where no row has the page
  pub nothing_back : ((x : Row) → Contains now x → ¬ (x.place ≡ leaf_place space page)) → IsTaken space page rows now taken → now ≡ rows
  nothing_back none (inl (no_row, same, is)) = same
  nothing_back none (inr (at, same, is)) = absurd (none (slice_index_or now at.place x) (at.place, inside, any_default now at.place _ x inside) (ap (λ (y : Row). y.place) now_is ∙ at.is_leaf.here x))
    where
      x : Row
      x = record { row = 0; place = leaf_place space 0; generation = 0; content = [] }

      w : List Cell
      w = slice_set at.content (page % 512) (drawn_cell at.cell)

      inside : at.place < length now
      inside = omega (arith, at.is_leaf.inside, with_length rows at.place w, ap length same)

      now_is : slice_index_or now at.place x ≡ record (slice_index_or rows at.place x) { content = w }
      now_is = ap (λ l. slice_index_or l at.place x) same ∙ with_same rows at.place w x at.is_leaf.inside

  pub put_back : (k : ℕ) (content : List Cell) (cell : Cell) → IsAtPlace now (leaf_place space page) k → ((d : Row) → (slice_index_or now k d).content ≡ content) → slice_get content (page % 512) ≡ Some cell
      → IsTaken space page rows now taken → with_content now k (slice_set content (page % 512) (filled_cell cell taken)) ≡ rows
  put_back k content cell leaf content_is there (inl (no_row, same, is)) =
      absurd (no_row (slice_index_or rows k x) (k, inside, any_default rows k _ x inside) (ap (λ l. (slice_index_or l k x).place) (sym same) ∙ leaf.here x))
    where
      x : Row
      x = record { row = 0; place = leaf_place space 0; generation = 0; content = [] }

      inside : k < length rows
      inside = omega (arith, leaf.inside, ap length same)
  put_back k content cell leaf content_is there (inr (at, same, is)) =
      (λ i. with_content (same i) (k_is i) (slice_set content (page % 512) (filled_cell cell taken)))
      ∙ twice rows at.place w (slice_set content (page % 512) (filled_cell cell taken))
      ∙ ap (with_content rows at.place) new_content ∙ same_content rows at.place at.content at.content_is
    where
      x : Row
      x = record { row = 0; place = leaf_place space 0; generation = 0; content = [] }

      w : List Cell
      w = slice_set at.content (page % 512) (drawn_cell at.cell)

      now_is : slice_index_or now at.place x ≡ record (slice_index_or rows at.place x) { content = w }
      now_is = ap (λ l. slice_index_or l at.place x) same ∙ with_same rows at.place w x at.is_leaf.inside

      k_is : k ≡ at.place
      k_is = sym (leaf.only at.place x (omega (arith, at.is_leaf.inside, with_length rows at.place w, ap length same)) (ap (λ (y : Row). y.place) now_is ∙ at.is_leaf.here x))

      content_now : content ≡ w
      content_now = sym (content_is x) ∙ ap (λ n. (slice_index_or now n x).content) k_is ∙ ap (λ (y : Row). y.content) now_is

      cell_now : cell ≡ drawn_cell at.cell
      cell_now = same_some (sym there ∙ (ap (λ c. slice_get c (page % 512)) content_now ∙ get_same at.content (page % 512) (drawn_cell at.cell) (slice_get_within at.content (page % 512) at.cell at.there)))

      new_content : slice_set content (page % 512) (filled_cell cell taken) ≡ at.content
      new_content =
          (λ i. slice_set (content_now i) (page % 512) (filled_cell (cell_now i) (is i))) ∙ set-set at.content (page % 512) (drawn_cell at.cell) (filled_cell (drawn_cell at.cell) (drawn_from at.cell))
          ∙ ap (slice_set at.content (page % 512)) (refilled at.cell) ∙ set_back at.content (page % 512) at.cell at.there
