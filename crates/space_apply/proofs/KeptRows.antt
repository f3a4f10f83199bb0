-- The rows between, where the call leaves each page below their entries: they agree with the book after it.
--     IsCommit      what a commit keeps of the numbers
--     spells_on, bytes_on      a page that the call does not use keeps its word and its spare
--     LeavesEntry      the pages below an entry stay, and where its table is gone there are none
--     held_with      so the rows agree
--     applied      which is all that is asked of such a call
use Rattle.std.specs.Prelude.{◌≡◌, ℕ, ◌<◌, Bool, true, false, cond, List, [], slice_get, slice_index, Some, None}
use Rattle.std.specs.List.{Contains}
use Rattle.std.specs.FinSet as set
use Rattle.std.proofs.Common.{sym, refl, ◌∙◌, ap, subst}
use Rattle.std.proofs.lemmas.Bool.{true≢false}
use Rattle.corten_base.specs.declared.calls.Call.{Call}
use Rattle.page_map.specs.declared.cell.Cell.TheVariants as page
use Rattle.page_map.specs.Cell.{frame_of, slot_of}
use Rattle.page_map.specs.State.{State, levels, cell_at}
use Rattle.row_cells.specs.declared.Cell.{Cell}
use Rattle.row_cells.specs.declared.Cell.TheVariants.{Invalid, Table, Anon, File, Mapped, Swapped}
use Rattle.row_table.specs.declared.view.PassView.{PassView}
use Rattle.table_place.specs.declared.Place.{Place}
use Rattle.table_place.specs.Place.{has_page}
use Rattle.machine_plan.specs.declared.kit.Kit.{Kit}
use Rattle.machine_plan.specs.Agrees.{below, HasBytes, IsNoTable, IsTableOf, Shows, Spells}
use Rattle.machine_plan.specs.Books.{BookData, state_of}
use Rattle.machine_plan.specs.Given.{IsRemoved}
use Rattle.machine_plan.specs.Held.{IsHeldWith, HeldWith}
use Rattle.machine_plan.specs.HeldRows.{Row}
use Rattle.machine_plan.specs.Kits.{HasRoom, IsIdle, IsUngranted, IsUsed, KeepsOthers}
use Rattle.machine_plan.specs.Local.{CountsAre}
use Rattle.machine_plan.specs.Uses.{uses_page}
use Rattle.machine_plan.proofs.Following.{sole_stays, spare_stays}
use Rattle.machine_plan.proofs.Pages.{own_page}
use Rattle.cursor_detach.specs.Left.{drawn_cell, is_taken}
use Rattle.cursor_apply.specs.Applying.{is_store, Applied}
use Rattle.cursor_apply.specs.Staging.{with_tables, IsStaged, Staged}
use Rattle.cursor_apply.proofs.Kept.{rows_emptied}
use Rattle.cursor_apply.proofs.Marks.{no_table_there, shows_same}

pub record IsCommit (a b : BookData) (thread : ℕ) (c : Call) : Type 0 where
  pub same_levels : levels (state_of b) ≡ levels (state_of a)
  pub before : CountsAre a
  pub after : CountsAre b
  pub frames : KeepsOthers a.frames b.frames (IsUsed (state_of a) thread c frame_of)
  pub slots : KeepsOthers a.slots b.slots (IsUsed (state_of a) thread c slot_of)

module _ (a b : BookData) (thread : ℕ) (c : Call) (is : IsCommit a b thread c) (q : Place) where
  abbrev mid : State
  mid = with_tables (state_of a) (state_of b).tables

  module _ (free : q.level ≡ 0 → uses_page (state_of a) thread c q.space q.prefix ≡ false) where
    pub spells_on : (cell : Cell) (word : ℕ) → Shows mid q cell → Spells (state_of a) cell word → Spells (state_of b) cell word
    spells_on Invalid word shows s = s
    spells_on Table word shows s = s
    spells_on (Anon perm) word shows s = s
    spells_on (File perm file index) word shows s = s
    spells_on (Swapped perm origin slot) word shows s = s
    spells_on (Mapped perm origin frame) word shows s = record {
      unread = s.unread;
      read = λ r. let g = s.read r in (
        g.0,
        g.1,
        λ write. let two = g.2 write in (
          two.0,
          sole_stays frame_of a b thread c a.frames b.frames is.before.frames is.frames q.space q.prefix (free shows.1) (page.Mapped perm origin frame.number frame.body.bytes) frame.number (shows.2 q.space q.prefix (own_page q shows.1)) refl is.after.frames two.1,
        ),
      );
    }

    pub bytes_on : (cell : Cell) → Shows mid q cell → HasBytes a cell → HasBytes b cell
    bytes_on Invalid shows k = tt
    bytes_on Table shows k = tt
    bytes_on (Anon perm) shows k = tt
    bytes_on (File perm file index) shows k = tt
    bytes_on (Mapped perm origin frame) shows k = λ shared.
        spare_stays frame_of a b thread c a.frames b.frames is.before.frames is.frames q.space q.prefix (free shows.1) (page.Mapped perm origin frame.number frame.body.bytes) frame.number (shows.2 q.space q.prefix (own_page q shows.1)) refl (k shared)
    bytes_on (Swapped perm origin slot) shows k = λ shared.
        spare_stays slot_of a b thread c a.slots b.slots is.before.slots is.slots q.space q.prefix (free shows.1) (page.Swapped perm origin slot.number slot.body.bytes) slot.number (shows.2 q.space q.prefix (own_page q shows.1)) refl (k shared)

-- the call leaves each page below the entry at which the position is
pub record LeavesEntry (a b : BookData) (thread : ℕ) (c : Call) (q : Place) : Type 0 where
  pub free : q.level ≡ 0 → uses_page (state_of a) thread c q.space q.prefix ≡ false
  pub same : ¬ IsRemoved (state_of a) (state_of b) q → IsNoTable (state_of b) q → (s p : ℕ) → has_page q s p ≡ true → cell_at (state_of b) s p ≡ cell_at (state_of a) s p
  pub gone : IsRemoved (state_of a) (state_of b) q → (s p : ℕ) → has_page q s p ≡ true → cell_at (state_of b) s p ≡ None

module _ (a b : BookData) (thread : ℕ) (c : Call) (kit : Kit) (is : IsCommit a b thread c) where
  -- what stands at an entry
  record IsSaid (q : Place) (word : ℕ) (cell : Cell) : Type 0 where
    pub shows : Shows (state_of b) q cell
    pub spells : Spells (state_of b) cell word
    pub bytes : HasBytes b cell

  module _ {B E : Type 0} (w : PassView (List Cell) B E) (x : Row) (staged : IsStaged a b (state_of b).tables thread c kit w x) (index : ℕ) (inside : index < 512)
      (untaken : is_taken (state_of a) thread c kit x.place index ≡ false) (leaves : LeavesEntry a b thread c (below (levels (state_of a)) x.place index)) (cell : Cell) (there : slice_get x.content index ≡ Some cell) where
    abbrev q : Place
    q = below (levels (state_of a)) x.place index

    cut : IsRemoved (state_of a) (state_of b) q → IsSaid q (slice_index staged.known.words index) cell
    cut gone =
        let k = staged.cut index inside gone in
        let invalid : Invalid ≡ cell = (let both : Some Invalid ≡ Some cell = sym k.0 ∙ there in cc) in
        subst (IsSaid q (slice_index staged.known.words index)) invalid (record { shows = (gone.1, leaves.gone gone); spells = k.1; bytes = tt })

    stays : ¬ IsRemoved (state_of a) (state_of b) q → IsSaid q (slice_index staged.known.words index) cell
    stays still =
        let k = staged.cells index cell inside still there in
        let same : k.was ≡ cell = sym (k.is ∙ ap (λ t. cond t (drawn_cell k.was) k.was) untaken) in
        subst (IsSaid q (slice_index staged.known.words index)) same (record {
          shows = shows_same (with_tables (state_of a) (state_of b).tables) (state_of b) q refl k.was (λ plain s p has. leaves.same still (no_table_there (with_tables (state_of a) (state_of b).tables) q k.was plain k.shows) s p has) k.shows;
          spells = spells_on a b thread c is q leaves.free k.was (slice_index staged.known.words index) k.shows k.spells;
          bytes = bytes_on a b thread c is q leaves.free k.was k.shows k.bytes;
        })

    said : IsSaid q (slice_index staged.known.words index) cell
    said = go (set.contains (state_of a).tables q) refl (set.contains (state_of b).tables q) refl
      where
        go : (t : Bool) → set.contains (state_of a).tables q ≡ t → (u : Bool) → set.contains (state_of b).tables q ≡ u → IsSaid q (slice_index staged.known.words index) cell
        go true e false f = cut (e, f)
        go false e u f = stays (λ r. true≢false (sym r.0 ∙ e))
        go true e true f = stays (λ r. true≢false (sym f ∙ r.1))

  module _ {B E : Type 0} (w : PassView (List Cell) B E) (x : Row) (staged : IsStaged a b (state_of b).tables thread c kit w x)
      (untaken : (index : ℕ) → index < 512 → is_taken (state_of a) thread c kit x.place index ≡ false) (leaves : (index : ℕ) → index < 512 → LeavesEntry a b thread c (below (levels (state_of a)) x.place index)) where
    here : (index : ℕ) (cell : Cell) → index < 512 → slice_get x.content index ≡ Some cell → IsSaid (below (levels (state_of b)) staged.known.place index) (slice_index staged.known.words index) cell
    here index cell inside there =
        subst (λ n. IsSaid (below n staged.known.place index) (slice_index staged.known.words index) cell) (sym is.same_levels)
        (subst (λ (p : Place). IsSaid (below (levels (state_of a)) p index) (slice_index staged.known.words index) cell) (sym staged.same_place)
        (said w x staged index inside (untaken index inside) (leaves index inside) cell there))

    pub row_held : IsHeldWith b w x
    row_held = record {
      known = staged.known;
      held = staged.held;
      same_row = staged.same_row;
      same_place = staged.same_place;
      linked = staged.linked;
      agrees = record {
        shown = record {
          table = subst (IsTableOf (state_of b)) (sym staged.same_place) staged.table;
          whole = staged.whole;
          each = λ index cell inside there. (here index cell inside there).shows;
        };
        spelled = λ index cell inside there. (here index cell inside there).spells;
        kept = λ index cell inside there. (here index cell inside there).bytes;
      };
    }

  module _ {B E : Type 0} (v w : PassView (List Cell) B E) (rows rows' : List Row) (staged : Staged a b thread c kit v w rows rows')
      (untaken : (x : Row) (index : ℕ) → Contains rows' x → index < 512 → is_taken (state_of a) thread c kit x.place index ≡ false)
      (leaves : (x : Row) (index : ℕ) → Contains rows' x → index < 512 → LeavesEntry a b thread c (below (levels (state_of a)) x.place index)) where
    pub held_with : HeldWith b w rows'
    held_with = record { exact = staged.exact; each = λ x has. row_held w x (staged.staged x has) (λ index inside. untaken x index has inside) (λ index inside. leaves x index has inside) }

    pub applied : (kit' : Kit) → is_store c ≡ false → HasRoom kit' → IsIdle kit' → IsUngranted kit' → (kit'.second_frames.items ≡ []) × (kit'.second_slots.items ≡ []) → Applied b thread c v w rows' kit kit'
    applied kit' reads room idle ungranted seconds = record {
      view = rows_emptied v w staged.view;
      held = held_with;
      given = staged.given;
      hand = (ap (λ (u : PassView (List Cell) B E). u.hand) staged.view, ap (λ (u : PassView (List Cell) B E). u.core.granted) staged.view);
      stored = λ done h index cell has low inside stores uses at may_read may_write. absurd (true≢false (sym stores ∙ reads));
      room = room;
      idle = idle;
      ungranted = ungranted;
      seconds = seconds;
    }
