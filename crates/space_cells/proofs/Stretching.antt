-- How far the cells of pages go on from a first one, by their marks and by what is held over them.
--     alike_unheld      pages whose marks go on from one another, and of which none is held
--     stops_after      what stands behind them does not go on, where it is held or its mark does not
--     held_first      a page that is held stands alone
--     is_piece      so many pages of a range as its first piece has
use Rattle.std.proofs.Common.{◌≡◌, ℕ, ◌+◌, ◌-◌, min, max, ◌<◌, ◌≤◌, true, false, refl, sym, ap, ◌∙◌, arith}
use mathlib.Core.Logic.{inl, inr}
use Rattle.std.specs.Prelude.{Option, Some, None, is_some}
use Rattle.std.specs.Option.{option_map}
use Rattle.std.specs.FinMap.{get}
use Rattle.std.proofs.lemmas.Bool.{cases_eq, cases_lt, false_from_ne_true}
use Rattle.page_map.specs.declared.cell.Cell.{Cell}
use Rattle.page_map.specs.declared.cell.Cell.TheVariants.{Anon, File, Mapped, Swapped}
use Rattle.page_map.specs.Alike.{continues, is_alike}
use Rattle.page_map.specs.Cell.{backing_of, perm_of}
use Rattle.page_map.specs.Cutting.{IsPiece}
use Rattle.page_map.specs.State.{AddressSpace}
use Rattle.page_map.proofs.Alike.{alike_from, backed_unnumbered, continues_from, continues_is, has_no_number, onward, onward_twice}
use Rattle.page_runs.specs.declared.mark.Mark.{Mark}
use Rattle.page_runs.specs.Mark.{goes_on}
use Rattle.page_runs.specs.Runs.{IsStretch}
use Rattle.page_runs.specs.Spans.{Marks}
use Rattle.space_cells.specs.declared.held.Number.{Number}
use Rattle.space_cells.specs.declared.held.Number.TheVariants.{Frame, Slot}
use Rattle.space_cells.specs.declared.held.HeldPage.{HeldPage}
use Rattle.space_cells.specs.Held.{HeldPages, held_at, IsFirstHeld}
use Rattle.space_cells.specs.Cells.{HaveMarks, cell_of, cells_of}
use Rattle.space_cells.proofs.Seen.{backing_of_cell, get_cells, over, perm_of_cell}
use Rattle.space_cells.proofs.Moved.{onward_cell, some_none}

pub plain : (o : Option Mark) → has_no_number (over None o) ≡ true
plain None = refl
plain (Some mark) = backed_unnumbered mark.backing mark.perm 0

-- the cells of pages that are not held tell their marks
pub same_marks : (o p : Option Mark) → over None o ≡ over None p → o ≡ p
same_marks None None e = refl
same_marks None (Some m) e = absurd (none e)
  where
    none : {c : Cell} → ◌≡◌ {A = Option Cell} None (Some c) → ⊥
    none h = cc
same_marks (Some m) None e = absurd (none e)
  where
    none : {c : Cell} → ◌≡◌ {A = Option Cell} (Some c) None → ⊥
    none h = cc
same_marks (Some m) (Some n) e = ap Some (λ i. record {
  perm = (sym (perm_of_cell m None) ∙ ap perm_of (one e) ∙ perm_of_cell n None) i;
  backing = (sym (backing_of_cell m None) ∙ ap backing_of (one e) ∙ backing_of_cell n None) i;
})
  where
    one : {c d : Cell} → ◌≡◌ {A = Option Cell} (Some c) (Some d) → c ≡ d
    one h = cc

-- a page with a frame or a slot goes on from none
pub no_start : (o : Option Cell) (mark : Mark) (held : HeldPage) → continues o 1 (Some (cell_of mark (Some held))) ≡ false
no_start o mark held = go o held.number
  where
    go : (o : Option Cell) (number : Number) → continues o 1 (Some (cell_of mark (Some (record { number = number; bytes = held.bytes })))) ≡ false
    go None (Frame frame) = refl
    go None (Slot slot) = refl
    go (Some (Anon perm)) (Frame frame) = refl
    go (Some (Anon perm)) (Slot slot) = refl
    go (Some (File perm file index)) (Frame frame) = refl
    go (Some (File perm file index)) (Slot slot) = refl
    go (Some (Mapped perm origin frame bytes)) (Frame other) = refl
    go (Some (Mapped perm origin frame bytes)) (Slot slot) = refl
    go (Some (Swapped perm origin slot bytes)) (Frame frame) = refl
    go (Some (Swapped perm origin slot bytes)) (Slot other) = refl

-- and none goes on from it
pub no_end : (mark : Mark) (held : HeldPage) (later : Option Cell) → continues (Some (cell_of mark (Some held))) 1 later ≡ false
no_end mark held later = go held.number later
  where
    go : (number : Number) (later : Option Cell) → continues (Some (cell_of mark (Some (record { number = number; bytes = held.bytes })))) 1 later ≡ false
    go (Frame frame) later = refl
    go (Slot slot) later = refl

module _ (marks : Marks) (pages : HeldPages) (have : HaveMarks marks pages) (first end n : ℕ) (stretch : IsStretch marks first end n) where
  abbrev cells : AddressSpace
  cells = cells_of marks pages

  unheld_cell : (q : ℕ) → held_at pages q ≡ None → get cells q ≡ over None (get marks q)
  unheld_cell q none = get_cells marks pages q ∙ ap (λ h. over h (get marks q)) none

  -- a page so many pages further, as the marks go on
  goes : (i : ℕ) → i < n → held_at pages first ≡ None → held_at pages (first + i) ≡ None → get cells (first + i) ≡ onward i (get cells first)
  goes i low none here =
      unheld_cell (first + i) here ∙ ap (over None) (stretch.alike i low) ∙ onward_cell i None (get marks first) ∙ ap (onward i) (sym (unheld_cell first none))

  pub alike_unheld : (k : ℕ) → k ≤ n → ((q : ℕ) → first ≤ q → q < first + k → held_at pages q ≡ None) → is_alike cells first k ≡ true
  alike_unheld k few none = alike_from cells first k (λ q a b.
      let at : first + (q - first) ≡ q = omega (arith, a) in
      let start = none first (omega arith) (omega (arith, a, b)) in
      continues_from (get cells first) (q - first) (get cells q) (ap has_no_number (unheld_cell first start) ∙ plain (get marks first))
      (ap (get cells) (sym at) ∙ goes (q - first) (omega (arith, a, b, few)) start (ap (held_at pages) at ∙ none q a b)))

  pub stops_after : first + n < end → ((q : ℕ) → first ≤ q → q < first + n + 1 → held_at pages q ≡ None) → continues (get cells (first + n - 1)) 1 (get cells (first + n)) ≡ false
  stops_after more none = false_from_ne_true _ (λ next.
      let last : first + (n - 1) ≡ first + n - 1 = omega (arith, stretch.some) in
      let start = none first (omega arith) (omega arith) in
      let sum : n - 1 + 1 ≡ n = omega (arith, stretch.some) in
      let is : get cells (first + n) ≡ onward n (get cells first) =
      continues_is (get cells (first + n - 1)) 1 (get cells (first + n)) next
      ∙ ap (onward 1) (ap (get cells) (sym last) ∙ goes (n - 1) (omega (arith, stretch.some)) start (none (first + (n - 1)) (omega arith) (omega arith)))
      ∙ onward_twice (get cells first) (n - 1) 1 n sum in
      stretch.ends more (same_marks (get marks (first + n)) (option_map (λ mark. goes_on mark n) (get marks first))
      (sym (unheld_cell (first + n) (none (first + n) (omega arith) (omega arith))) ∙ is ∙ ap (onward n) (unheld_cell first start) ∙ sym (onward_cell n None (get marks first)))))

  held_cell : (page : ℕ) (number : Number) → option_map (λ held. held.number) (held_at pages page) ≡ Some number → (mark : Mark) × (held : HeldPage) × (get cells page ≡ Some (cell_of mark (Some held)))
  held_cell page number e = go (held_at pages page) refl e (get marks page) refl
    where
      go : (h : Option HeldPage) → held_at pages page ≡ h → option_map (λ held. held.number) h ≡ Some number → (o : Option Mark) → get marks page ≡ o → (mark : Mark) × (held : HeldPage) × (get cells page ≡ Some (cell_of mark (Some held)))
      go None is e o m = absurd (none e)
        where
          none : ◌≡◌ {A = Option Number} None (Some number) → ⊥
          none h = cc
      go (Some held) is e None m = absurd (some_none (have page (ap is_some is)) m)
      go (Some held) is e (Some mark) m = (mark, held, get_cells marks pages page ∙ (λ i. over (is i) (m i)))

  -- no page of the range is held
  pub no_held : ((q : ℕ) → first ≤ q → q < end → held_at pages q ≡ None) → IsPiece (λ count. first) (λ (count : ℕ). count) cells first end n
  no_held none = record {
    here = refl;
    some = stretch.some;
    fits = stretch.within;
    whole = inl (alike_unheld n (omega arith) (λ q a b. none q a (omega (arith, b, stretch.within))));
    parts = λ more. stops_after more (λ q a b. none q a (omega (arith, b, more)));
  }

  -- the first held page is this one
  pub some_held : (page : ℕ) (number : Number) → IsFirstHeld pages first end page number → (k : ℕ) → k ≡ min n (max (page - first) 1) → IsPiece (λ count. first) (λ (count : ℕ). count) cells first end k
  some_held page number at k is = elim (cases_eq page first) [
    | inl same ↦
        let one : k ≡ 1 = omega (arith, is, same, stretch.some) in
        let held = held_cell page number at.there in
        record {
          here = refl;
          some = omega (arith, one);
          fits = omega (arith, one, stretch.some, stretch.within);
          whole = inr one;
          parts = λ more.
              let front : first + k - 1 ≡ page = omega (arith, one, same) in
              ap (λ o. continues o 1 (get cells (first + k))) (ap (get cells) front ∙ held.2) ∙ no_end held.0 held.1 (get cells (first + k));
        }
    | inr other ↦ (elim (cases_lt n (page - first)) [
      | inl short ↦
          let all : k ≡ n = omega (arith, is, short) in
          record {
            here = refl;
            some = omega (arith, all, stretch.some);
            fits = omega (arith, all, stretch.within);
            whole = inl (alike_unheld k (omega (arith, all)) (λ q a b. at.least q a (omega (arith, b, all, short))));
            parts = λ more. ap (λ j. continues (get cells (first + j - 1)) 1 (get cells (first + j))) all
                ∙ stops_after (omega (arith, more, all)) (λ q a b. at.least q a (omega (arith, b, short)));
          }
      | inr long ↦
          let up_to : k ≡ page - first = omega (arith, is, long, other, at.from) in
          let held = held_cell page number at.there in
          record {
            here = refl;
            some = omega (arith, up_to, other, at.from);
            fits = omega (arith, up_to, at.from, at.before);
            whole = inl (alike_unheld k (omega (arith, up_to, long)) (λ q a b. at.least q a (omega (arith, b, up_to))));
            parts = λ more.
                let front : first + k ≡ page = omega (arith, up_to, at.from) in
                ap (continues (get cells (first + k - 1)) 1) (ap (get cells) front ∙ held.2) ∙ no_start (get cells (first + k - 1)) held.0 held.1;
          }
    ])
  ]
