-- Rows that are changed to the state of a book agree with it, where no word is left as it was.
--     agreed
use Rattle.std.specs.Prelude.{◌≡◌, ℕ, ◌⊎◌, Bool, false, List}
use Rattle.std.proofs.Common.{sym, ◌∙◌, subst, inl, inr}
use Rattle.std.proofs.lemmas.Bool.{false≢true}
use Rattle.page_map.specs.State.{State, levels}
use Rattle.row_cells.specs.declared.Cell.{Cell}
use Rattle.row_table.specs.declared.view.PassView.{PassView}
use Rattle.table_place.specs.declared.Place.{Place}
use Rattle.machine_plan.specs.Agrees.{below, IsTableOf, Shows, Spells}
use Rattle.machine_plan.specs.Books.{BookData, state_of}
use Rattle.machine_plan.specs.Held.{HeldWith}
use Rattle.machine_plan.specs.HeldRows.{Row}
use Rattle.cursor_apply.specs.Changed.{IsEntryOf, IsBase, AreChanged}
use Rattle.cursor_apply.proofs.RowsMade.{base_after}

module _ (b : BookData) (is_new : ℕ → Bool) (none : (page : ℕ) → is_new page ≡ false) where
  spelled : (q : Place) (word : ℕ) (cell : Cell) → IsEntryOf b (state_of b) is_new q word cell → Spells (state_of b) cell word
  spelled q word cell is = elim is.spells [ inl spells ↦ spells | inr old ↦ absurd (false≢true (sym (none q.prefix) ∙ old.old)) ]

  pub agreed : {B E : Type 0} (st : State) (space : ℕ) (is_old : ℕ → Bool) (v : PassView (List Cell) B E) (rows0 : List Row) (w : PassView (List Cell) B E) (rows : List Row)
      → IsBase b st space is_old v rows0 → AreChanged b (state_of b) is_new v rows0 w rows → HeldWith b w rows
  agreed st space is_old v rows0 w rows base is =
      let still = base_after b st (state_of b) space is_old is_new v rows0 w rows base is in
      record {
        exact = still.exact;
        each = λ x has.
            let r = is.rows_of x has in
            record {
              known = r.row;
              held = r.held;
              same_row = r.same_row;
              same_place = r.same_place;
              linked = still.linked x has;
              agrees = record {
                shown = record {
                  table = subst (IsTableOf (state_of b)) (sym r.same_place) r.table;
                  whole = r.whole;
                  each = λ index cell inside there. subst (λ p. Shows (state_of b) (below (levels (state_of b)) p index) cell) (sym r.same_place) (r.entries index cell inside there).shows;
                };
                spelled = λ index cell inside there. spelled _ _ cell (r.entries index cell inside there);
                kept = λ index cell inside there. (r.entries index cell inside there).kept;
              };
            };
      }
