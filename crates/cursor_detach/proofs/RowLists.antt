-- Lists of held rows: which row is which, and a list without one row or with another content in one.
use Rattle.std.specs.Prelude.{◌≡◌, ℕ, zero, suc, ◌+◌, ◌<◌, ◌≤◌, Bool, cond, List, [], ◌∷◌, ◌++◌, length, slice_index_or}
use Rattle.std.specs.List.{Contains}
use Rattle.std.proofs.Common.{sym, refl, ◌∙◌, ap, subst, arith, inl, inr, length-append, ne_eqb, eq-eqb, ◌==◌}
use Rattle.std.proofs.lemmas.Bool.{cases_lt}
use mathlib.Core.Logic.{dite}
use native.Mathlib.Decide.{ℕ_discrete}
use Rattle.walk_core.specs.Lists.{times, without, IsDistinct}
use Rattle.walk_core.proofs.RowLists.{times_without_same, times_without_other}
use Rattle.row_table.proofs.Beside.{unique_part}
use Rattle.row_cells.specs.declared.Cell.{Cell}
use Rattle.table_place.specs.declared.Place.{Place}
use Rattle.tree_lock.specs.Held.{row_number, row_numbers, IsInOrder, IsRemoved, with_content}
use Rattle.tree_lock.specs.Order.{IsBefore}
use Rattle.tree_lock.proofs.Positions.{before_same}
use Rattle.tree_lock.proofs.Rows.{numbers_inserted}
use Rattle.machine_plan.specs.HeldRows.{Row}
use Rattle.cursor_detach.proofs.Lists.{any_default}

-- two rows of a list in order at one position are one
pub one_place : (rows : List Row) (x y : Row) → IsInOrder rows → Contains rows x → Contains rows y → x.place ≡ y.place → x ≡ y
one_place rows x y order cx cy same = dite (ℕ_discrete cx.0 cy.0)
    (λ e. sym cx.2 ∙ (any_default rows cx.0 x y cx.1 ∙ (ap (λ k. slice_index_or rows k y) e ∙ cy.2)))
    (λ ne. elim (cases_lt cx.0 cy.0) [
      | inl less ↦ absurd (not_before x.place y.place (both x y (order cx.0 cy.0 x less cy.1) cx.2 (any_default rows cy.0 x y cy.1 ∙ cy.2)) same)
      | inr more ↦ absurd (not_before y.place x.place (both y x (order cy.0 cx.0 x (larger cy.0 cx.0 more (λ e. ne (sym e))) cx.1) (any_default rows cy.0 x y cy.1 ∙ cy.2) cx.2) (sym same))
    ])
  where
    larger : (a b : ℕ) → a ≤ b → (a ≡ b → ⊥) → a < b
    larger a b le ne = omega arith

    both : {p q : Row} (a b : Row) → IsBefore p.place q.place → p ≡ a → q ≡ b → IsBefore a.place b.place
    both {p} a b before e f = subst (λ (u : Row). IsBefore u.place b.place) e (subst (λ (u : Row). IsBefore p.place u.place) f before)

    not_before : (p q : Place) → IsBefore p q → p ≡ q → ⊥
    not_before p q before e = before_same q (subst (λ (u : Place). IsBefore u q) e before)

-- and stand at one place
pub one_index : (rows : List Row) (i j : ℕ) (d : Row) → IsInOrder rows → i < length rows → j < length rows → (slice_index_or rows i d).place ≡ (slice_index_or rows j d).place → i ≡ j
one_index rows i j d order a b same = dite (ℕ_discrete i j)
    (λ e. e)
    (λ ne. elim (cases_lt i j) [
      | inl less ↦ absurd (not_before _ _ (order i j d less b) same)
      | inr more ↦ absurd (not_before _ _ (order j i d (larger j i more (λ e. ne (sym e))) a) (sym same))
    ])
  where
    larger : (a b : ℕ) → a ≤ b → (a ≡ b → ⊥) → a < b
    larger a b le ne = omega arith

    not_before : (p q : Place) → IsBefore p q → p ≡ q → ⊥
    not_before p q before e = before_same q (subst (λ (u : Place). IsBefore u q) e before)

-- and of one number
pub one_number : (rows : List Row) (x y : Row) → IsDistinct (row_numbers rows) → Contains rows x → Contains rows y → x.row ≡ y.row → x ≡ y
one_number rows x y once cx cy same = unique_part row_number rows x y cx cy same (once x.row)

-- where a row stands that comes before another
pub is_behind : (rows : List Row) (k : ℕ) (x y : Row) → IsInOrder rows → k < length rows → ((d : Row) → slice_index_or rows k d ≡ x) → (c : Contains rows y) → IsBefore x.place y.place → (IsBefore y.place x.place → ⊥) → k < c.0
is_behind rows k x y order inside at c before never = dite (ℕ_discrete c.0 k)
    (λ e. let same : y ≡ x = sym c.2 ∙ (ap (λ n. slice_index_or rows n y) e ∙ at y) in absurd (before_same x.place (subst (λ (u : Row). IsBefore x.place u.place) same before)))
    (λ ne. elim (cases_lt k c.0) [
      | inl less ↦ less
      | inr more ↦ absurd (never (subst (λ (u : Row). IsBefore u.place x.place) c.2 (subst (λ (u : Row). IsBefore (slice_index_or rows c.0 y).place u.place) (at y) (order c.0 k y (smaller c.0 k more ne) inside))))
    ])
  where
    smaller : (a b : ℕ) → a ≤ b → (a ≡ b → ⊥) → a < b
    smaller a b le ne = omega arith

-- ---- another content

pub with_same : (rows : List Row) (k : ℕ) (w : List Cell) (d : Row) → k < length rows → slice_index_or (with_content rows k w) k d ≡ record (slice_index_or rows k d) { content = w }
with_same [] k w d h = absurd (omega arith)
with_same (x ∷ xs) zero w d h = refl
with_same (x ∷ xs) (suc k) w d h = with_same xs k w d (omega (arith, h))

pub with_other : (rows : List Row) (k j : ℕ) (w : List Cell) (d : Row) → (j ≡ k → ⊥) → slice_index_or (with_content rows k w) j d ≡ slice_index_or rows j d
with_other [] k j w d other = refl
with_other (x ∷ xs) zero zero w d other = absurd (other refl)
with_other (x ∷ xs) zero (suc j) w d other = refl
with_other (x ∷ xs) (suc k) zero w d other = refl
with_other (x ∷ xs) (suc k) (suc j) w d other = with_other xs k j w d (λ e. other (ap suc e))

pub with_length : (rows : List Row) (k : ℕ) (w : List Cell) → length (with_content rows k w) ≡ length rows
with_length [] k w = refl
with_length (x ∷ xs) zero w = refl
with_length (x ∷ xs) (suc k) w = ap suc (with_length xs k w)

pub with_numbers : (rows : List Row) (k : ℕ) (w : List Cell) → row_numbers (with_content rows k w) ≡ row_numbers rows
with_numbers [] k w = refl
with_numbers (x ∷ xs) zero w = refl
with_numbers (x ∷ xs) (suc k) w = ap (λ (l : List ℕ). x.row ∷ l) (with_numbers xs k w)

-- each row has its number and its position
pub with_place : (rows : List Row) (k j : ℕ) (w : List Cell) (d : Row) → k < length rows → (slice_index_or (with_content rows k w) j d).place ≡ (slice_index_or rows j d).place
with_place rows k j w d inside = dite (ℕ_discrete j k)
    (λ e. ap (λ n. (slice_index_or (with_content rows k w) n d).place) e ∙ (ap (λ (x : Row). x.place) (with_same rows k w d inside) ∙ ap (λ n. (slice_index_or rows n d).place) (sym e)))
    (λ ne. ap (λ (x : Row). x.place) (with_other rows k j w d ne))

pub with_row : (rows : List Row) (k j : ℕ) (w : List Cell) (d : Row) → k < length rows → (slice_index_or (with_content rows k w) j d).row ≡ (slice_index_or rows j d).row
with_row rows k j w d inside = dite (ℕ_discrete j k)
    (λ e. ap (λ n. (slice_index_or (with_content rows k w) n d).row) e ∙ (ap (λ (x : Row). x.row) (with_same rows k w d inside) ∙ ap (λ n. (slice_index_or rows n d).row) (sym e)))
    (λ ne. ap (λ (x : Row). x.row) (with_other rows k j w d ne))

-- ---- a row less

module _ (at : ℕ) (r : Row) (old left : List Row) (removed : IsRemoved at r old left) where
  counted : (q : ℕ) → times q (row_numbers old) ≡ cond (r.row == q) 1 0 + times q (row_numbers left)
  counted q = numbers_inserted r left old (record { before = removed.before; after = removed.after; was = removed.is; is = removed.was }) q

  pub one_less : length left + 1 ≡ length old
  one_less = let a = ap length removed.was in let b = ap length removed.is in let f = length-append removed.before (r ∷ removed.after) in let k = length-append removed.before removed.after in omega arith

  pub taken_out : IsDistinct (row_numbers old) → times r.row (row_numbers left) ≡ 0
  taken_out once = let all = counted r.row in let one : cond {A = ℕ} (r.row == r.row) 1 0 ≡ 1 = ap (λ (b : Bool). cond {A = ℕ} b 1 0) (eq-eqb r.row r.row refl) in let most = once r.row in omega arith

  pub numbers_left : IsDistinct (row_numbers old) → (held : List ℕ) → ((q : ℕ) → times q (row_numbers old) ≡ times q held) → (q : ℕ) → times q (row_numbers left) ≡ times q (without r.row held)
  numbers_left once held same q = dite (ℕ_discrete q r.row)
      (λ e. subst (λ (n : ℕ). times n (row_numbers left) ≡ times n (without r.row held)) (sym e) (taken_out once ∙ sym (times_without_same r.row r.row held refl)))
      (λ ne. let all = counted q in let no : cond {A = ℕ} (r.row == q) 1 0 ≡ 0 = ap (λ (b : Bool). cond {A = ℕ} b 1 0) (ne_eqb r.row q (λ e. ne (sym e))) in
      let was = same q in let other = times_without_other r.row q held ne in omega arith)

  pub before_it : (k : ℕ) (d : Row) → k < at → slice_index_or left k d ≡ slice_index_or old k d
  before_it k d less =
      ap (λ (l : List Row). slice_index_or l k d) removed.is
      ∙ (front removed.before removed.after (r ∷ removed.after) k (subst (λ n. k < n) (sym removed.at) less)
      ∙ ap (λ (l : List Row). slice_index_or l k d) (sym removed.was))
    where
      front : (before a b : List Row) (k : ℕ) → k < length before → slice_index_or (before ++ a) k d ≡ slice_index_or (before ++ b) k d
      front [] a b k h = absurd (omega arith)
      front (x ∷ xs) a b zero h = refl
      front (x ∷ xs) a b (suc k) h = front xs a b k (omega arith)

  pub behind_it : (k : ℕ) (d : Row) → at ≤ k → slice_index_or left k d ≡ slice_index_or old (k + 1) d
  behind_it k d less =
      ap (λ (l : List Row). slice_index_or l k d) removed.is
      ∙ (back removed.before removed.after k (subst (λ n. n ≤ k) (sym removed.at) less)
      ∙ ap (λ (l : List Row). slice_index_or l (k + 1) d) (sym removed.was))
    where
      back : (before after : List Row) (k : ℕ) → length before ≤ k → slice_index_or (before ++ after) k d ≡ slice_index_or (before ++ r ∷ after) (k + 1) d
      back [] after k h = ap (λ n. slice_index_or (r ∷ after) n d) (plus k)
        where
          plus : (k : ℕ) → suc k ≡ k + 1
          plus k = omega arith
      back (x ∷ xs) after zero h = absurd (omega arith)
      back (x ∷ xs) after (suc k) h = back xs after k (omega arith) ∙ ap (λ n. slice_index_or (x ∷ xs ++ r ∷ after) n d) (plus k)
        where
          plus : (k : ℕ) → suc (k + 1) ≡ suc k + 1
          plus k = omega arith

  -- the others keep their order
  pub left_order : IsInOrder old → IsInOrder left
  left_order order i j d less inside = elim (cases_lt j at) [
    | inl b ↦ both (slice_index_or old i d) (slice_index_or old j d) (before_it i d (omega arith)) (before_it j d b) (order i j d less (let n = one_less in omega arith))
    | inr b ↦ elim (cases_lt i at) [
      | inl c ↦ both (slice_index_or old i d) (slice_index_or old (j + 1) d) (before_it i d c) (behind_it j d b) (order i (j + 1) d (omega arith) (let n = one_less in omega arith))
      | inr c ↦ both (slice_index_or old (i + 1) d) (slice_index_or old (j + 1) d) (behind_it i d c) (behind_it j d b) (order (i + 1) (j + 1) d (omega arith) (let n = one_less in omega arith))
    ]
  ]
    where
      both : (p q : Row) → slice_index_or left i d ≡ p → slice_index_or left j d ≡ q → IsBefore p.place q.place → IsBefore (slice_index_or left i d).place (slice_index_or left j d).place
      both p q e f before = subst (λ (u : Row). IsBefore u.place (slice_index_or left j d).place) (sym e) (subst (λ (u : Row). IsBefore p.place u.place) (sym f) before)
