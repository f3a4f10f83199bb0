-- Rows without frames and slots have few of them.
--     one_more      one cell more has none
--     few_of      the rows have no references
use Rattle.std.specs.Prelude.{◌≡◌, ℕ, zero, suc, ◌+◌, ◌%◌, ◌<◌, false, List, [], ◌∷◌, ◌++◌, length, slice_get, slice_index_or, Some}
use Rattle.std.proofs.Common.{sym, refl, ◌∙◌, ap, subst, arith, inl, inr}
use Rattle.std.proofs.lemmas.Bool.{cases_lt}
use Rattle.counted_pages.specs.Pages.{CountedPage}
use Rattle.row_cells.specs.declared.Cell.{Cell}
use Rattle.row_cells.specs.declared.Cell.TheVariants.{Invalid, Table, Anon, File, Mapped, Swapped}
use Rattle.machine_plan.specs.HeldRows.{Row}
use Rattle.range_cursor.specs.Drawing.{CellOf, IsPartOf, ArePartsOf, frame_part, slot_part}
use Rattle.range_cursor.specs.Ranges.{HasFewRefs}
use Rattle.plan_tests.specs.References.{is_reference, HasNone}

abbrev pub NoneBelow : ℕ → List Cell → Type 0
NoneBelow end cells = (index : ℕ) (c : Cell) → index < end → slice_get cells index ≡ Some c → is_reference c ≡ false

same_some : {A : Type 0} {x y : A} → Some x ≡ Some y → x ≡ y
same_some e = cc e

pub one_more : (cells : List Cell) (n : ℕ) (c : Cell) → slice_get cells n ≡ Some c → is_reference c ≡ false → NoneBelow n cells → NoneBelow (n + 1) cells
one_more cells n c there plain before index x small at = elim (cases_lt index n) [
  | inl low ↦ before index x low at
  | inr high ↦ ap is_reference (same_some (sym at ∙ ap (slice_get cells) (omega (arith, small, high)) ∙ there)) ∙ plain
]

frame_none : (page : ℕ) (c : Cell) → is_reference c ≡ false → frame_part page c ≡ []
frame_none page Invalid plain = refl
frame_none page Table plain = refl
frame_none page (Anon perm) plain = refl
frame_none page (File perm file index) plain = refl
frame_none page (Mapped perm origin frame) plain = absurd (cc plain)
frame_none page (Swapped perm origin slot) plain = refl

slot_none : (page : ℕ) (c : Cell) → is_reference c ≡ false → slot_part page c ≡ []
slot_none page Invalid plain = refl
slot_none page Table plain = refl
slot_none page (Anon perm) plain = refl
slot_none page (File perm file index) plain = refl
slot_none page (Mapped perm origin frame) plain = refl
slot_none page (Swapped perm origin slot) plain = absurd (cc plain)

module _ (rows : List Row) (none : (k : ℕ) (d : Row) → k < length rows → HasNone (slice_index_or rows k d).content) where
  some_row : (xs : List Row) (k : ℕ) → k < length xs → Row
  some_row [] k h = absurd (omega (arith, h))
  some_row (x ∷ xs) k h = x

  cell_plain : (space page : ℕ) (at : CellOf space page rows) → is_reference at.cell ≡ false
  cell_plain space page at =
      let d : Row = some_row rows at.place at.is_leaf.inside in
      none at.place d at.is_leaf.inside (page % 512) at.cell (omega arith) (subst (λ cells. slice_get cells (page % 512) ≡ Some at.cell) (sym (at.content_is d)) at.there)

  module _ (part : ℕ → Cell → List (ℕ × CountedPage)) (part_none : (page : ℕ) (c : Cell) → is_reference c ≡ false → part page c ≡ []) (space : ℕ) where
    here_none : (page : ℕ) (refs : List (ℕ × CountedPage)) → IsPartOf part space rows page refs → refs ≡ []
    here_none page refs (inl (nowhere, is)) = is
    here_none page refs (inr (at, is)) = is ∙ part_none page at.cell (cell_plain space page at)

    parts_none : (first n : ℕ) (refs : List (ℕ × CountedPage)) → ArePartsOf part space rows first n refs → refs ≡ []
    parts_none first zero refs is = is
    parts_none first (suc n) refs (before, was, more) = more.refs_are ∙ (λ i. parts_none first n before was i ++ here_none (first + n) more.here more.is_part i)

  pub few_of : HasFewRefs rows
  few_of = record {
    frames = λ space first count refs are. omega (arith, ap length (parts_none frame_part frame_none space first count refs are));
    slots = λ space first count refs are. omega (arith, ap length (parts_none slot_part slot_none space first count refs are));
  }
