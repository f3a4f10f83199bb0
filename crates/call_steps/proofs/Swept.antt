-- What a turn, a sweep and samples leave as it was.
--     keeps_turned, keeps_loaded, keeps_on      a pass has the same rows after a turn, after samples, and after one behind the other
--     held_kept      then its rows agree with the same book
--     state_swept, held_swept      a sweep changes the book's free rows and its limbo, and the rows agree with it as before
use Rattle.std.specs.Prelude.{◌≡◌, ℕ, ◌+◌, ◌<◌, List, map, Some}
use Rattle.std.specs.List.{Contains}
use Rattle.std.proofs.Common.{sym, refl, ◌∙◌, ap, subst}
use Rattle.row_cells.specs.declared.Cell.{Cell}
use Rattle.row_cells.specs.declared.Cell.TheVariants.{Invalid, Table, Anon, File, Mapped, Swapped}
use Rattle.row_table.specs.declared.view.HeldRow.{HeldRow as KnownRow}
use Rattle.row_table.specs.Books.{turned}
use Rattle.row_table.specs.Rule.{row_part}
use Rattle.table_place.specs.declared.Place.{Place}
use Rattle.walk_core.specs.declared.pass.GrantedRow.{GrantedRow}
use Rattle.walk_core.specs.Core.{unlinked_rows}
use Rattle.walk_core.specs.Lists.{times}
use Rattle.epoch_grace.specs.Loads.{Loads}
use Rattle.epoch_grace.proofs.Loaded.{loaded_same}
use Rattle.machine_plan.specs.Agrees.{Agrees, Shown, HasBytes}
use Rattle.machine_plan.specs.Books.{BookData, state_of}
use Rattle.machine_plan.specs.Follows.{machine}
use Rattle.machine_plan.specs.Held.{HeldWith}
use Rattle.machine_plan.specs.HeldRows.{Row}
use Rattle.page_map.specs.State.{State}
use Rattle.call_steps.specs.Ready.{View, KeepsRows}

pub keeps_turned : (v w : View) (a : BookData) → w ≡ turned machine v a → KeepsRows v w
keeps_turned v w a e = record {
  number = ap (λ (u : View). u.number) e;
  layout = ap (λ (u : View). u.layout) e;
  rows = ap (λ (u : View). u.rows) e;
  held = ap (λ (u : View). u.core.held) e;
  hand = ap (λ (u : View). u.hand) e;
  granted = ap (λ (u : View). u.core.granted) e;
  unlinked = ap (λ (u : View). unlinked_rows u.core) e;
}

pub keeps_loaded : (v w : View) (numbers : List ℕ) → Loads machine v numbers w → KeepsRows v w
keeps_loaded v w numbers loads = let s = loaded_same 0 numbers v in let e = loads.after ∙ s.after in record {
  number = ap (λ (u : View). u.number) e;
  layout = ap (λ (u : View). u.layout) e;
  rows = ap (λ (u : View). u.rows) e;
  held = ap (λ (u : View). u.core.held) e;
  hand = ap (λ (u : View). u.hand) e;
  granted = ap (λ (u : View). u.core.granted) e;
  unlinked = ap (λ (u : View). unlinked_rows u.core) e ∙ s.rows;
}

pub keeps_on : (u v w : View) → KeepsRows u v → KeepsRows v w → KeepsRows u w
keeps_on u v w a b = record {
  number = b.number ∙ a.number;
  layout = b.layout ∙ a.layout;
  rows = b.rows ∙ a.rows;
  held = b.held ∙ a.held;
  hand = b.hand ∙ a.hand;
  granted = b.granted ∙ a.granted;
  unlinked = b.unlinked ∙ a.unlinked;
}

pub held_kept : (a : BookData) (v w : View) (rows : List Row) → KeepsRows v w → HeldWith a v rows → HeldWith a w rows
held_kept a v w rows k h = record {
  exact = record { held = λ r. h.exact.held r ∙ ap (times r) (sym k.held); shown = ap (λ (l : List (KnownRow (List Cell))). map row_part l) k.rows ∙ (h.exact.shown ∙ sym k.held) };
  each = λ x has. let o = h.each x has in record {
    known = o.known;
    held = subst (λ (l : List (KnownRow (List Cell))). Contains l o.known) (sym k.rows) o.held;
    same_row = o.same_row;
    same_place = o.same_place;
    linked = (λ i. times x.row (map (λ (g : GrantedRow). g.row) (k.granted i)) + times x.row (k.unlinked i)) ∙ o.linked;
    agrees = o.agrees;
  };
}

module _ (a m : BookData) (same : m ≡ record a { free = m.free; limbo = m.limbo }) where
  state_with : (f : _) (l : _) → state_of (record a { free = f; limbo = l }) ≡ state_of a
  unfolding state_of
  state_with f l = refl

  pub state_swept : state_of m ≡ state_of a
  state_swept = ap state_of same ∙ state_with m.free m.limbo

  bytes_swept : (cell : Cell) → HasBytes a cell → HasBytes m cell
  bytes_swept Invalid h = h
  bytes_swept Table h = h
  bytes_swept (Anon perm) h = h
  bytes_swept (File perm file index) h = h
  bytes_swept (Mapped perm origin frame) h = λ shared. subst (λ (x : BookData). Rattle.counted_pages.specs.Pages.HasSpare x.frames frame.number) (sym same) (h shared)
  bytes_swept (Swapped perm origin slot) h = λ shared. subst (λ (x : BookData). Rattle.counted_pages.specs.Pages.HasSpare x.slots slot.number) (sym same) (h shared)

  pub agrees_swept : (p : Place) (words : List ℕ) (cells : List Cell) → Agrees a p words cells → Agrees m p words cells
  agrees_swept p words cells h = record {
    shown = subst (λ (s : State). Shown s p cells) (sym state_swept) h.shown;
    spelled = λ index cell inside there. subst (λ (s : State). Rattle.machine_plan.specs.Agrees.Spells s cell (Rattle.std.specs.Prelude.slice_index words index)) (sym state_swept) (h.spelled index cell inside there);
    kept = λ index cell inside there. bytes_swept cell (h.kept index cell inside there);
  }

  pub held_swept : (v : View) (rows : List Row) → HeldWith a v rows → HeldWith m v rows
  held_swept v rows h = record {
    exact = h.exact;
    each = λ x has. let o = h.each x has in record {
      known = o.known;
      held = o.held;
      same_row = o.same_row;
      same_place = o.same_place;
      linked = o.linked;
      agrees = agrees_swept o.known.place o.known.words x.content o.agrees;
    };
  }
