-- The changes of a call are made one after another.
--     StepsLeft      some of them are made, and these are left
--     next_left, none_left      the next change;  behind the last there is none
--     steps_begun, steps_base, steps_next, steps_ended      before the first;  the next one may be made;  it is;  after the last
use Rattle.std.specs.Prelude.{◌≡◌, ℕ, zero, suc, ◌+◌, ◌<◌, ◌≤◌, Bool, List, [], ◌∷◌, drop, length, slice_index_or, Option, Some, None}
use Rattle.std.proofs.Common.{sym, refl, ◌∙◌, ap, subst, arith}
use Rattle.std.proofs.lemmas.List.{drop_more}
use Rattle.page_map.specs.State.{State}
use Rattle.row_cells.specs.declared.Cell.{Cell}
use Rattle.row_table.specs.declared.view.PassView.{PassView}
use Rattle.machine_plan.specs.declared.kit.Change.{Change}
use Rattle.machine_plan.specs.Books.{BookData}
use Rattle.machine_plan.specs.HeldRows.{Row}
use Rattle.cursor_apply.specs.Changed.{clean_by, all_clean, range_change, IsBase, StepsBy, Steps, AreChanged}
use Rattle.cursor_apply.proofs.RowsMade.{base_after, none_changed, changed_more}

-- the changes that are left, and the next of them
pub next_left : (changes : List Change) (i : ℕ) (d : Change) → i < length changes → drop i changes ≡ slice_index_or changes i d ∷ drop (i + 1) changes
next_left changes i d inside = drop_more changes i d inside

pub none_left : (changes : List Change) (i : ℕ) → length changes ≤ i → drop i changes ≡ []
none_left [] zero all = refl
none_left [] (suc i) all = refl
none_left (c ∷ cs) zero all = absurd (omega arith)
none_left (c ∷ cs) (suc i) all = none_left cs i (omega arith)

module _ {B E : Type 0} (b : BookData) (st now : State) (space : ℕ) (is_old : ℕ → Bool) (changes : List Change) (v : PassView (List Cell) B E) (rows0 : List Row) where
  pub record StepsLeft (left : List Change) (w : PassView (List Cell) B E) (rows : List Row) : Type 0 where
    pub mid : State
    pub old : ℕ → Bool
    pub steps : Steps left space mid now
    pub clean : all_clean left old ≡ all_clean changes is_old
    pub changed : AreChanged b mid old v rows0 w rows

  pub steps_begun : IsBase b st space is_old v rows0 → Steps changes space st now → StepsLeft changes v rows0
  steps_begun base steps = record { mid = st; old = is_old; steps = steps; clean = refl; changed = none_changed b st space is_old v rows0 base }

  module _ (base : IsBase b st space is_old v rows0) (w : PassView (List Cell) B E) (rows : List Row) where
    pub steps_base : (left : List Change) (is : StepsLeft left w rows) → IsBase b is.mid space is.old w rows
    steps_base left is = base_after b st is.mid space is_old is.old v rows0 w rows base is.changed

    module _ (c : Change) (left : List Change) (is : StepsLeft (c ∷ left) w rows) where
      pub steps_next : (w' : PassView (List Cell) B E) (rows' : List Row) → AreChanged b is.steps.0 (clean_by (range_change c) is.old) w rows w' rows' → StepsLeft left w' rows'
      steps_next w' rows' changed = record {
        mid = is.steps.0;
        old = clean_by (range_change c) is.old;
        steps = is.steps.2;
        clean = is.clean;
        changed = changed_more b is.steps.0 is.old (clean_by (range_change c) is.old) is.mid v w w' rows0 rows rows' is.changed changed;
      }

    pub steps_ended : StepsLeft [] w rows → AreChanged b now (all_clean changes is_old) v rows0 w rows
    steps_ended is = subst (λ (s : State). AreChanged b s (all_clean changes is_old) v rows0 w rows) (sym is.steps)
        (subst (λ (o : ℕ → Bool). AreChanged b is.mid o v rows0 w rows) is.clean is.changed)
