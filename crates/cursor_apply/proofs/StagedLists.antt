-- Lists of rows where one row is linked.
--     part_had, times_drop, drop_next      a number of a list comes from one of its elements;  the rest of a list
--     all_rows      what is true of each row of a list
--     inserted_in, inserted_cases      a list with one row more
--     ContentCases, content_cases, content_kept      a list with another content in one row
use Rattle.std.specs.Prelude.{◌≡◌, ℕ, zero, suc, ◌+◌, ◌<◌, ◌≤◌, ◌⊎◌, List, [], ◌∷◌, map, drop, length, slice_index_or}
use Rattle.std.specs.List.{All, Contains}
use Rattle.std.proofs.Common.{sym, ◌∙◌, ap, subst, arith, inl, inr, length-append}
use Rattle.std.proofs.lemmas.List.Elements.{Contains-append_left, Contains-append_right, Contains-append_cases, Contains-get_or}
use mathlib.Core.Logic.{dite}
use native.Mathlib.Decide.{ℕ_discrete}
use Rattle.walk_core.specs.Lists.{times, Has}
use Rattle.walk_core.proofs.RowLists.{times-nil, times-cons_same, times-cons_other, head_or_later, in_head, in_tail}
use Rattle.row_cells.specs.declared.Cell.{Cell}
use Rattle.tree_lock.specs.Held.{IsInOrder, IsInserted, with_content}
use Rattle.machine_plan.specs.HeldRows.{Row}
use Rattle.cursor_detach.proofs.RowLists.{one_index, with_same, with_other, with_length, with_place, with_row}

pub part_had : {X : Type 0} (f : X → ℕ) (xs : List X) (r : ℕ) → Has (map f xs) r → (x : X) × Contains xs x × (f x ≡ r)
part_had f [] r has = let none = times-nil r in absurd (omega arith)
part_had f (x ∷ xs) r has = dite (ℕ_discrete (f x) r)
    (λ e. (x, in_head x xs, e))
    (λ ne. let o = part_had f xs r (let same = times-cons_other r (f x) (map f xs) ne in omega arith) in (o.0, in_tail x xs o.0 o.1, o.2))

pub times_drop : (r k : ℕ) (xs : List ℕ) → times r (drop k xs) ≤ times r xs
times_drop r zero xs = omega arith
times_drop r (suc k) [] = omega arith
times_drop r (suc k) (x ∷ xs) = dite (ℕ_discrete x r)
    (λ e. let more = times-cons_same r x xs e in let rest = times_drop r k xs in omega arith)
    (λ ne. let more = times-cons_other r x xs ne in let rest = times_drop r k xs in omega arith)

pub drop_next : (xs : List (ℕ × ℕ)) (k : ℕ) (g : ℕ × ℕ) → k < length xs → ((d : ℕ × ℕ) → slice_index_or xs k d ≡ g) → drop k (map (λ (x : ℕ × ℕ). x.0) xs) ≡ g.0 ∷ drop (suc k) (map (λ (x : ℕ × ℕ). x.0) xs)
drop_next [] k g inside is = absurd (omega arith)
drop_next (x ∷ xs) zero g inside is = ap (λ (y : ℕ × ℕ). y.0 ∷ map (λ (x : ℕ × ℕ). x.0) xs) (is x)
drop_next (x ∷ xs) (suc k) g inside is = drop_next xs k g (omega arith) is

pub all_rows : (P : Row → Type 0) (rows : List Row) → ((x : Row) → Contains rows x → P x) → All P rows
all_rows P rows each k d within = each (slice_index_or rows k d) (Contains-get_or rows k d within)

-- ---- a row more

module _ (x : Row) (old new : List Row) (is : IsInserted x old new) where
  pub inserted_here : Contains new x
  inserted_here = subst (λ (l : List Row). Contains l x) (sym is.is) (Contains-append_right is.before (x ∷ is.after) x (in_head x is.after))

  pub inserted_in : (y : Row) → Contains old y → Contains new y
  inserted_in y has = subst (λ (l : List Row). Contains l y) (sym is.is) (elim (Contains-append_cases is.before is.after y (subst (λ (l : List Row). Contains l y) is.was has)) [
    | inl b ↦ Contains-append_left is.before (x ∷ is.after) y b
    | inr b ↦ Contains-append_right is.before (x ∷ is.after) y (in_tail x is.after y b)
  ])

  pub inserted_cases : (y : Row) → Contains new y → (x ≡ y) ⊎ Contains old y
  inserted_cases y has = elim (Contains-append_cases is.before (x ∷ is.after) y (subst (λ (l : List Row). Contains l y) is.is has)) [
    | inl b ↦ inr (subst (λ (l : List Row). Contains l y) (sym is.was) (Contains-append_left is.before is.after y b))
    | inr b ↦ elim (head_or_later x is.after y b) [
      | inl e ↦ inl e
      | inr l ↦ inr (subst (λ (l : List Row). Contains l y) (sym is.was) (Contains-append_right is.before is.after y l))
    ]
  ]

  pub inserted_length : length new ≡ length old + 1
  inserted_length = let a = ap length is.is in let b = ap length is.was in let c = length-append is.before (x ∷ is.after) in let d = length-append is.before is.after in omega arith

-- ---- another content

module _ (rows : List Row) (at : ℕ) (up : Row) (content : List Cell) (inside : at < length rows) (here : (d : Row) → slice_index_or rows at d ≡ up) where
  pub content_here : Contains (with_content rows at content) (record up { content = content })
  content_here = subst (Contains (with_content rows at content)) (with_same rows at content up inside ∙ ap (λ (x : Row). record x { content = content }) (here up))
      (Contains-get_or (with_content rows at content) at up (let same = with_length rows at content in omega arith))

  pub content_cases : IsInOrder rows → (y : Row) → Contains (with_content rows at content) y → (y ≡ record up { content = content }) ⊎ (Contains rows y × (y.place ≡ up.place → ⊥))
  content_cases order y has = dite (ℕ_discrete has.0 at)
      (λ e. inl (sym has.2 ∙ (ap (λ k. slice_index_or (with_content rows at content) k y) e ∙ (with_same rows at content y inside ∙ ap (λ (x : Row). record x { content = content }) (here y)))))
      (λ ne.
      let within : has.0 < length rows = (let same = with_length rows at content in let h = has.1 in omega arith) in
      let is : slice_index_or rows has.0 y ≡ y = sym (with_other rows at has.0 content y ne) ∙ has.2 in
      inr (
        subst (Contains rows) is (Contains-get_or rows has.0 y within),
        λ same. ne (one_index rows has.0 at y order within inside (ap (λ (x : Row). x.place) is ∙ (same ∙ ap (λ (x : Row). x.place) (sym (here y))))),
      )
      )

  -- each row keeps its number and its position
  pub content_kept : (y : Row) → Contains rows y → (z : Row) × Contains (with_content rows at content) z × (z.row ≡ y.row) × (z.place ≡ y.place)
  content_kept y has =
      let z : Row = slice_index_or (with_content rows at content) has.0 y in (
        z,
        Contains-get_or (with_content rows at content) has.0 y (let same = with_length rows at content in let h = has.1 in omega arith),
        with_row rows at has.0 content y inside ∙ ap (λ (x : Row). x.row) has.2,
        with_place rows at has.0 content y inside ∙ ap (λ (x : Row). x.place) has.2,
      )

  pub content_was : (y : Row) → Contains (with_content rows at content) y → (z : Row) × Contains rows z × (z.row ≡ y.row) × (z.place ≡ y.place)
  content_was y has =
      let z : Row = slice_index_or rows has.0 y in (
        z,
        Contains-get_or rows has.0 y (let same = with_length rows at content in let h = has.1 in omega arith),
        sym (with_row rows at has.0 content y inside) ∙ ap (λ (x : Row). x.row) has.2,
        sym (with_place rows at has.0 content y inside) ∙ ap (λ (x : Row). x.place) has.2,
      )
