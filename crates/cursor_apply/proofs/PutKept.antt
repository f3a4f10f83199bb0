-- References come back one after another.
--     Left, left_first, left_more, left_none      what was put back so far;  nothing yet;  one more;  all
use Rattle.std.specs.Prelude.{◌≡◌, ℕ, ◌/◌, ◌%◌, ◌⊎◌, List, [], ◌∷◌, ◌++◌, map}
use Rattle.std.specs.List.{Contains}
use Rattle.std.proofs.Common.{sym, refl, ◌∙◌, ap, subst, arith, inl, inr}
use Rattle.std.proofs.lemmas.List.{append_assoc, append-nil}
use Rattle.counted_pages.specs.Pages.{CountedPage}
use Rattle.row_cells.specs.declared.Cell.{Cell}
use Rattle.row_cells.specs.declared.Cell.TheVariants.{Invalid, Table, Anon, File, Mapped, Swapped}
use Rattle.table_place.specs.declared.Place.{Place}
use Rattle.walk_core.proofs.RowLists.{head_or_later, in_head, in_tail}
use Rattle.machine_plan.specs.HeldRows.{Row, AreOf}
use Rattle.machine_plan.specs.Kits.{Refs}
use Rattle.cursor_apply.specs.declared.putting.Reference.{Reference}
use Rattle.cursor_apply.specs.declared.putting.Reference.TheVariants as reference
use Rattle.cursor_apply.specs.Putting.{filled_cell, IsLeafOf, IsPut, row_place}
use Rattle.cursor_apply.specs.Returning.{IsPageAt, IsRefAt, IsBackCell, ArePutBack, PutsBack}
use Rattle.cursor_apply.proofs.Backs.{of_space_still}
use Rattle.cursor_apply.proofs.PutRows.{CellCame, came}

-- a cell with a reference takes no other
pub filled_twice : (cell : Cell) (r s : Reference) → filled_cell (filled_cell cell r) s ≡ filled_cell cell r
filled_twice Invalid r s = refl
filled_twice Table r s = refl
filled_twice (Anon perm) (reference.Frame f) s = refl
filled_twice (Anon perm) (reference.Slot f) s = refl
filled_twice (File perm file index) (reference.Frame f) s = refl
filled_twice (File perm file index) (reference.Slot f) s = refl
filled_twice (Mapped perm origin frame) r s = refl
filled_twice (Swapped perm origin slot) r s = refl

module _ (to : CountedPage → Reference) (done : Refs) (page : ℕ) (r : CountedPage) where
  abbrev more : Refs
  more = (page, r) ∷ done

  cell_more : (x y : Row) (i : ℕ) (now : Cell) → x.place ≡ y.place → (o : CellCame page (to r) y i now) → IsBackCell to done x i o.was → IsBackCell to more x i now
  cell_more x y i now places o was = record { was = was.was; there = was.there; is = go o.is was.is }
    where
      off : ((IsLeafOf y page × (i ≡ page % 512)) → ⊥) → IsPageAt x i page → ⊥
      off never at = never (subst (λ (p : Place). (p.level ≡ 1) × (p.prefix ≡ page / 512)) places at.0, at.1)

      none : ((IsLeafOf y page × (i ≡ page % 512)) → ⊥) → ((s : ℕ × CountedPage) → Contains done s → IsPageAt x i s.0 → ⊥) → (s : ℕ × CountedPage) → Contains more s → IsPageAt x i s.0 → ⊥
      none never others s has here = elim (head_or_later (page, r) done s has) [
        | inl same ↦ off never (subst (λ (z : ℕ × CountedPage). IsPageAt x i z.0) (sym same) here)
        | inr later ↦ others s later here
      ]

      go : ((now ≡ o.was) × ((IsLeafOf y page × (i ≡ page % 512)) → ⊥)) ⊎ ((now ≡ filled_cell o.was (to r)) × IsLeafOf y page × (i ≡ page % 512))
          → ((o.was ≡ was.was) × ((s : ℕ × CountedPage) → Contains done s → IsPageAt x i s.0 → ⊥)) ⊎ IsRefAt to done x i was.was o.was
          → ((now ≡ was.was) × ((s : ℕ × CountedPage) → Contains more s → IsPageAt x i s.0 → ⊥)) ⊎ IsRefAt to more x i was.was now
      go (inl same) (inl plain) = inl (same.0 ∙ plain.0, none same.1 plain.1)
      go (inl same) (inr back) = inr (back.0, in_tail (page, r) done back.0 back.1, back.2, same.0 ∙ back.3)
      go (inr fill) (inl plain) =
          inr ((page, r), in_head (page, r) done, (subst (λ (p : Place). (p.level ≡ 1) × (p.prefix ≡ page / 512)) (sym places) fill.1, fill.2), fill.0 ∙ ap (λ (z : Cell). filled_cell z (to r)) plain.0)
      go (inr fill) (inr back) =
          inr (back.0, in_tail (page, r) done back.0 back.1, back.2, fill.0 ∙ (ap (λ (z : Cell). filled_cell z (to r)) back.3 ∙ filled_twice was.was (to back.0.1) (to r)))

  put_more : (space : ℕ) (rows rows1 rows2 : List Row) → AreOf space rows1 → ArePutBack to done rows rows1 → IsPut page (to r) rows1 rows2 → ArePutBack to more rows rows2
  put_more space rows rows1 rows2 of_space so put y has =
      let o = came page space (to r) rows1 rows2 put of_space y has in
      let b = so o.was o.held in
      record {
        was = b.was;
        held = b.held;
        same_row = b.same_row ∙ o.same_row;
        same_place = b.same_place ∙ o.same_place;
        whole = o.whole ∙ b.whole;
        cells = λ i cell there. let k = o.cells i cell there in cell_more b.was o.was i cell b.same_place k (b.cells i k.was k.there);
      }

-- of the references so many are left
pub record Left (to : CountedPage → Reference) (refs left : Refs) (rows rows' : List Row) : Type 0 where
  pub done : Refs
  pub split : refs ≡ left ++ done
  pub back : PutsBack to done rows rows'

pub left_first : (to : CountedPage → Reference) (refs : Refs) (rows : List Row) → Left to refs refs rows rows
left_first to refs rows = record {
  done = [];
  split = sym (append-nil refs);
  back = λ space of_space y has. record {
    was = y;
    held = has;
    same_row = refl;
    same_place = refl;
    whole = refl;
    cells = λ i cell there. record { was = cell; there = there; is = inl (refl, λ r none at. let less = none.1 in absurd (omega arith)) };
  };
}

pub left_more : (to : CountedPage → Reference) (refs left left' : Refs) (rows rows1 rows2 : List Row) (page : ℕ) (r : CountedPage) → left ≡ left' ++ (page, r) ∷ [] → map row_place rows1 ≡ map row_place rows → Left to refs left rows rows1 → IsPut page (to r) rows1 rows2 → Left to refs left' rows rows2
left_more to refs left left' rows rows1 rows2 page r is places so put = record {
  done = (page, r) ∷ so.done;
  split = so.split ∙ (ap (λ (l : Refs). l ++ so.done) is ∙ append_assoc left' ((page, r) ∷ []) so.done);
  back = λ space of_space. put_more to so.done page r space rows rows1 rows2 (of_space_still space rows rows1 places of_space) (so.back space of_space) put;
}

pub left_none : (to : CountedPage → Reference) (refs left : Refs) (rows rows' : List Row) → left ≡ [] → Left to refs left rows rows' → PutsBack to refs rows rows'
left_none to refs left rows rows' none so = subst (λ (l : Refs). PutsBack to l rows rows') (sym (so.split ∙ ap (λ (l : Refs). l ++ so.done) none)) so.back
