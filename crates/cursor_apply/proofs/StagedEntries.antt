-- What an entry of a row says once all granted rows are linked.
--     staged_link      at a table of the book after the call there is a link
--     StagedPage, staged_page      at any other position, where no table was either, what was there before
use Rattle.std.specs.Prelude.{◌≡◌, ℕ, ◌<◌, true, false, Bool, cond, slice_get, slice_index, Some}
use Rattle.std.specs.FinSet as set
use Rattle.std.proofs.Common.{sym, refl, ◌∙◌, ap, subst, List}
use Rattle.std.proofs.lemmas.Bool.{true≢false}
use Rattle.corten_base.specs.declared.calls.Call.{Call}
use Rattle.page_map.specs.State.{State, levels}
use Rattle.page_map.specs.Tables.{Tables}
use Rattle.row_cells.specs.declared.Cell.{Cell}
use Rattle.row_cells.specs.declared.Cell.TheVariants.{Invalid, Table, Anon, File, Mapped, Swapped}
use Rattle.row_table.specs.declared.view.PassView.{PassView}
use Rattle.table_place.specs.declared.Place.{Place}
use Rattle.walk_core.specs.Words.{is_link}
use Rattle.machine_plan.specs.declared.kit.Kit.{Kit}
use Rattle.machine_plan.specs.Agrees.{below, HasBytes, Shows, Spells}
use Rattle.machine_plan.specs.Books.{BookData, state_of}
use Rattle.machine_plan.specs.HeldRows.{Row}
use Rattle.cursor_detach.specs.Left.{drawn_cell, is_taken}
use Rattle.cursor_apply.specs.Staging.{with_tables, IsStaged}

-- a cell at a table of a state is a link
link_at : (st : State) (ts : Tables) (q : Place) (was : Cell) → set.contains ts q ≡ true → Shows (with_tables st ts) q was → was ≡ Table
link_at st ts q Table there s = refl
link_at st ts q Invalid there s = absurd (true≢false (sym there ∙ s.0))
link_at st ts q (Anon perm) there s = absurd (true≢false (sym there ∙ s.0))
link_at st ts q (File perm file first) there s = absurd (true≢false (sym there ∙ s.0))
link_at st ts q (Mapped perm origin frame) there s = absurd (true≢false (sym there ∙ s.0))
link_at st ts q (Swapped perm origin slot) there s = absurd (true≢false (sym there ∙ s.0))

-- a cell at no table says of a state with other tables what it said, where that has no table there either
same_page : (st : State) (ts : Tables) (q : Place) (was : Cell) → set.contains ts q ≡ false → set.contains st.tables q ≡ false → Shows (with_tables st ts) q was → Shows st q was
same_page st ts q Table none before s = absurd (true≢false (sym s ∙ none))
same_page st ts q Invalid none before s = (before, s.1)
same_page st ts q (Anon perm) none before s = (before, s.1)
same_page st ts q (File perm file first) none before s = (before, s.1, s.2)
same_page st ts q (Mapped perm origin frame) none before s = (before, s.1, s.2)
same_page st ts q (Swapped perm origin slot) none before s = (before, s.1, s.2)

pub record StagedPage (a : BookData) (thread : ℕ) (c : Call) (kit : Kit) (p : Place) (index word : ℕ) (cell : Cell) : Type 0 where
  pub old : Cell
  pub shows : Shows (state_of a) (below (levels (state_of a)) p index) old
  pub spells : Spells (state_of a) old word
  pub bytes : HasBytes a old
  pub is : cell ≡ cond (is_taken (state_of a) thread c kit p index) (drawn_cell old) old

module _ {B E : Type 0} (a b : BookData) (thread : ℕ) (c : Call) (kit : Kit) (w : PassView (List Cell) B E) (x : Row) (st : IsStaged a b (state_of b).tables thread c kit w x) (i : ℕ) (cell : Cell) (inside : i < 512) (there : slice_get x.content i ≡ Some cell) where
  abbrev q : Place
  q = below (levels (state_of a)) x.place i

  pub staged_link : set.contains (state_of b).tables (below (levels (state_of a)) x.place i) ≡ true → (cell ≡ Table) × (is_link (slice_index st.known.words i) ≡ true)
  staged_link now =
      let s = st.cells i cell inside (λ gone. true≢false (sym now ∙ gone.1)) there in
      let table = link_at (state_of a) (state_of b).tables q s.was now s.shows in (
        s.is ∙ (ap (λ (m : Cell). cond (is_taken (state_of a) thread c kit x.place i) (drawn_cell m) m) table ∙ plain (is_taken (state_of a) thread c kit x.place i)),
        subst (λ (m : Cell). Spells (state_of a) m (slice_index st.known.words i)) table s.spells,
      )
    where
      plain : (t : Bool) → cond t Table Table ≡ Table
      plain true = refl
      plain false = refl

  pub staged_page : set.contains (state_of b).tables (below (levels (state_of a)) x.place i) ≡ false → set.contains (state_of a).tables (below (levels (state_of a)) x.place i) ≡ false → StagedPage a thread c kit x.place i (slice_index st.known.words i) cell
  staged_page now before =
      let s = st.cells i cell inside (λ gone. true≢false (sym gone.0 ∙ before)) there in
      record {
        old = s.was;
        shows = same_page (state_of a) (state_of b).tables q s.was now before s.shows;
        spells = s.spells;
        bytes = s.bytes;
        is = s.is;
      }
