-- Rows of one space whose references come to their pages.
--     PlacesFrames, PlacesSlots      what putting them there does
--     frames_at      a page of a list of references has its frame
--     short_top      no reference is lacking below the directory
--     is_rejoined      what is left once all are at their pages
use Rattle.std.specs.Prelude.{◌≡◌, ℕ, ◌<◌, false, List, [], ◌++◌, map}
use Rattle.std.specs.List.{Contains}
use Rattle.std.proofs.Common.{sym, refl, ◌∙◌, ap, subst, arith, inl, inr}
use Rattle.std.proofs.lemmas.Bool.{true≢false}
use mathlib.Core.Logic.{dite}
use native.Mathlib.Decide.{ℕ_discrete}
use Rattle.corten_base.specs.declared.calls.Call.{Call}
use Rattle.page_map.specs.Cell.{frame_of, slot_of}
use Rattle.page_map.specs.State.{State, IsConsistent, levels}
use Rattle.row_cells.specs.declared.Cell.{Cell}
use Rattle.row_cells.specs.declared.Cell.TheVariants.{Invalid, Table, Anon, File, Mapped, Swapped}
use Rattle.row_table.specs.declared.view.PassView.{PassView}
use Rattle.row_table.specs.declared.view.HeldRow.{HeldRow as KnownRow}
use Rattle.row_table.specs.Moves.{NotInHand}
use Rattle.row_table.proofs.Turns.{contained_map, same_parts}
use Rattle.table_place.specs.declared.Place.{Place}
use Rattle.table_place.proofs.Entries.{level_of}
use Rattle.tree_lock.specs.Held.{row_number, row_numbers}
use Rattle.walk_core.specs.Lists.{times}
use Rattle.walk_core.proofs.RowLists.{in_map}
use Rattle.machine_plan.specs.declared.kit.Kit.{Kit}
use Rattle.machine_plan.specs.Agrees.{below, IsTableOf, Shows}
use Rattle.machine_plan.specs.Books.{BookData, state_of}
use Rattle.machine_plan.specs.HeldRows.{Row}
use Rattle.machine_plan.specs.Kits.{HasRoom, IsIdle, IsUngranted, Refs, AreBacked}
use Rattle.cursor_apply.specs.Applying.{is_store, Applied, OnlyRows}
use Rattle.cursor_apply.specs.Placing.{AreShortIn}
use Rattle.cursor_apply.specs.Putting.{AreRefs, AreShort, IsLacking, IsShort, pages_of, row_place}
use Rattle.cursor_apply.specs.Sharing.{AreFramesAt, AreSharing}
use Rattle.cursor_apply.proofs.Backs.{all_agree}

abbrev pub PlacesFrames : ℕ → Refs → List Row → List Row → Type 0
PlacesFrames space refs old new = (b : BookData) (known : List (KnownRow (List Cell))) (more slots : List ℕ) (rest : List ℕ × List ℕ)
    → IsConsistent (state_of b) → AreRefs (state_of b) space frame_of refs → AreBacked b.frames refs → AreShortIn b known space (more ++ pages_of refs) slots rest old → AreShortIn b known space more slots rest new

abbrev pub PlacesSlots : ℕ → Refs → List Row → List Row → Type 0
PlacesSlots space refs old new = (b : BookData) (known : List (KnownRow (List Cell))) (more frames : List ℕ) (rest : List ℕ × List ℕ)
    → IsConsistent (state_of b) → AreRefs (state_of b) space slot_of refs → AreBacked b.slots refs → AreShortIn b known space frames (more ++ pages_of refs) rest old → AreShortIn b known space frames more rest new

pub frames_at : (st : State) (s : ℕ) (refs : Refs) → AreRefs st s frame_of refs → AreFramesAt st s refs
frames_at st s refs are = λ k d within. let t = are k d within in record { cell = t.cell; there = t.there; carries = t.carries }

pub short_top : (b : BookData) → IsConsistent (state_of b) → (known : List (KnownRow (List Cell))) (fs ss : List ℕ) (x : Row) → (x.place.level < 6 → ⊥) → IsShort b known fs ss x → IsShort b known [] [] x
short_top b is known fs ss x high s = record {
  row = s.row;
  held = s.held;
  same_row = s.same_row;
  same_place = s.same_place;
  table = s.table;
  whole = s.whole;
  cells = λ i cell inside there. let k = s.cells i cell inside there in record { was = k.was; shows = k.shows; spells = k.spells; is = elim k.is [ inl whole ↦ inl whole | inr lacks ↦ absurd (never i k.was cell k.shows lacks) ] };
}
  where
    no_page : (i : ℕ) → (below (levels (state_of b)) x.place i).level ≡ 0 → ⊥
    no_page i zero = go s.table
      where
        go : IsTableOf (state_of b) x.place → ⊥
        go (inl top) = let e : levels (state_of b) ≡ 0 = ap (λ (r : Place). (below (levels (state_of b)) r i).level) (sym top) ∙ zero in let some = is.some_levels in absurd (omega (arith, e, some))
        go (inr there) = high (let d = (level_of (levels (state_of b)) x.place (is.places x.place there)).1 in let f = is.few_levels in omega (arith, d, f))

    never : (i : ℕ) (was cell : Cell) → Shows (state_of b) (below (levels (state_of b)) x.place i) was → IsLacking fs ss (below (levels (state_of b)) x.place i) was cell → ⊥
    never i (Mapped perm origin frame) cell shows lacks = no_page i shows.1
    never i (Swapped perm origin slot) cell shows lacks = no_page i shows.1
    never i Invalid cell shows lacks = lacks
    never i Table cell shows lacks = lacks
    never i (Anon perm) cell shows lacks = lacks
    never i (File perm file index) cell shows lacks = lacks

all_short : (b : BookData) (space : ℕ) (known : List (KnownRow (List Cell))) (rows : List Row) → AreShortIn b known space [] [] ([], []) rows → AreShort b known [] [] rows
all_short b space known rows short x has = dite (ℕ_discrete x.place.space space) (λ e. (short x has).0 e) (λ ne. (short x has).1 ne)

pub is_rejoined : {B E : Type 0} (b : BookData) (thread : ℕ) (c : Call) (space : ℕ) (v w : PassView (List Cell) B E) (rows rows' : List Row) (kit kit' : Kit) → OnlyRows v w → AreSharing b space [] (0, []) w rows → is_store c ≡ false
    → AreShortIn b w.rows space [] [] ([], []) rows' → map row_place rows' ≡ map row_place rows → HasRoom kit' → IsIdle kit' → IsUngranted kit' → (kit'.second_frames.items ≡ []) × (kit'.second_slots.items ≡ []) → Applied b thread c v w rows' kit kit'
is_rejoined b thread c space v w rows rows' kit kit' view are reads short places room idle ungranted seconds = record {
  view = view;
  held = record {
    exact = record { held = λ r. ap (times r) numbers ∙ are.exact.held r; shown = are.exact.shown };
    each = λ x has.
        let g = all_agree b w.rows rows' (all_short b space w.rows rows' short) x has in
        let o = contained_map row_place rows (row_place x) (subst (λ (l : List (ℕ × Place)). Contains l (row_place x)) places (in_map row_place rows' x has)) in
        record {
          known = g.row;
          held = g.held;
          same_row = g.same_row;
          same_place = g.same_place;
          linked = subst (NotInHand w) (ap (λ (p : ℕ × Place). p.0) o.2) (are.each o.0 o.1).linked;
          agrees = g.agrees;
        };
  };
  given = are.given;
  hand = are.hand;
  stored = λ done h index cell has low inside stores uses at may_read may_write. absurd (true≢false (sym stores ∙ reads));
  room = room;
  idle = idle;
  ungranted = ungranted;
  seconds = seconds;
}
  where
    numbers : row_numbers rows' ≡ row_numbers rows
    numbers = sym (same_parts row_place (λ (p : ℕ × Place). p.0) row_number (λ x. refl) rows') ∙ (ap (map (λ (p : ℕ × Place). p.0)) places ∙ same_parts row_place (λ (p : ℕ × Place). p.0) row_number (λ x. refl) rows)
