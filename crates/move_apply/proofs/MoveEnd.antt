-- A call that moves a range, from the cleared old pages to the end.
--     makes_is, clears_is, two      what is read from its kit
--     may_share      the leaves of its new pages may be written
--     applied      what is left once its references are at the new pages
use Rattle.std.specs.Prelude.{◌≡◌, ℕ, ◌-◌, ◌<◌, ◌⊎◌, Bool, true, List, [], ◌++◌, map, length, slice_get, slice_index, slice_index_or, Some}
use Rattle.std.specs.List.{Contains, filter}
use Rattle.std.specs.FinMap as fin
use Rattle.std.specs.FinSet as set
use Rattle.std.specs.FinSet.{FinSet}
use Rattle.std.proofs.Common.{sym, refl, ◌∙◌, ap, subst, arith, inl, inr}
use Rattle.std.proofs.lemmas.Bool.{or_right}
use Rattle.corten_base.specs.declared.calls.Call.{Call}
use Rattle.corten_base.specs.declared.calls.Call.TheVariants as call
use Rattle.page_map.specs.declared.cell.Cell.{Cell as PageCell}
use Rattle.page_map.specs.Cell.{frame_of, slot_of}
use Rattle.page_map.specs.Effect.{frame_grants, slot_grants}
use Rattle.page_map.specs.Remap.{Resize, resize_of, put_at, left_first, left_count}
use Rattle.page_map.specs.State.{State, IsConsistent, levels, space_at, cell_at}
use Rattle.row_cells.specs.declared.Cell.{Cell}
use Rattle.row_table.specs.declared.view.PassView.{PassView}
use Rattle.table_place.specs.declared.Place.{Place}
use Rattle.table_place.specs.Place.{place_cmp, root}
use Rattle.table_place.specs.Range.{within}
use Rattle.table_place.proofs.Entries.{below_is, level_of}
use Rattle.machine_plan.specs.declared.kit.Change.{Change}
use Rattle.machine_plan.specs.declared.kit.Change.TheVariants.{GiveUp}
use Rattle.machine_plan.specs.declared.kit.Piece.{Piece}
use Rattle.machine_plan.specs.declared.kit.Kit.{Kit}
use Rattle.machine_plan.specs.Agrees.{below, IsTableOf}
use Rattle.machine_plan.specs.Books.{BookData, state_of}
use Rattle.machine_plan.specs.Held.{AllGiven}
use Rattle.machine_plan.specs.HeldRows.{Row}
use Rattle.machine_plan.specs.Kits.{HasRoom, IsIdle, IsUngranted, AreBacked}
use Rattle.machine_plan.specs.Uses.{refs_of, shown_refs, uses_page}
use Rattle.cursor_apply.specs.Applying.{Applied, OnlyWords}
use Rattle.cursor_apply.specs.Changed.{IsBase, IsEntryOf, ChangesBy, MakesAll, all_clean, clean}
use Rattle.move_apply.specs.Pieces.{pieces_changes}
use Rattle.cursor_apply.specs.Placing.{AreShortIn}
use Rattle.cursor_apply.specs.Putting.{AreRefs, IsShort, pages_of, row_place}
use Rattle.move_apply.specs.Relocating.{IsMoving}
use Rattle.move_apply.specs.Remapping.{new_place}
use Rattle.move_apply.specs.Resizing.{clearing}
use Rattle.cursor_apply.specs.Sharing.{AreFramesAt, AreSharing, MayShare, Shares}
use Rattle.cursor_apply.proofs.Begun.{few_frames}
use Rattle.cursor_apply.proofs.KitLists.{ref_listed, refs_now, stayed}
use Rattle.cursor_apply.proofs.Kept.{rows_of_words, words_more}
use Rattle.move_apply.proofs.MoveBase as move
use Rattle.move_apply.proofs.Rejoined.{PlacesFrames, PlacesSlots, frames_at, is_rejoined, short_top}
use Rattle.move_apply.proofs.Shrunk.{first_change, second_change, two_changes}
use Rattle.move_apply.proofs.MoveCells.{IsMovedCell, moved_at, sharing_cell, short_cell}

module _ {B E : Type 0} (a b : BookData) (thread space at old_len new_len : ℕ) (v : PassView (List Cell) B E) (rows : List Row) (kit : Kit) (m : IsMoving a b thread space at old_len new_len v rows kit) where
  abbrev c : Call
  c = call.Remap space at old_len new_len

  abbrev old : State
  old = state_of a

  abbrev now : State
  now = state_of b

  abbrev r : Resize
  r = resize_of at old_len new_len

  abbrev to : ℕ
  to = put_at (levels (state_of a)) thread (space_at (state_of a) space) (resize_of at old_len new_len)

  abbrev uses : ℕ → Bool
  uses = uses_page (state_of a) thread (call.Remap space at old_len new_len) space

  abbrev given_up : ℕ × ℕ
  given_up = (left_first (levels (state_of a)) (space_at (state_of a) space) (resize_of at old_len new_len), left_count (levels (state_of a)) (space_at (state_of a) space) (resize_of at old_len new_len))

  ok : IsConsistent (state_of b)
  ok = m.resizable.consistent.1

  -- ---- what is read from its kit

  pub makes_is : (found : Change) → found ≡ slice_index_or kit.changes.items 0 found → (n : ℕ) → n ≡ new_place found → (pieces : List Piece) → pieces ≡ kit.pieces.items → pieces_changes n pieces ≡ pieces_changes to kit.pieces.items
  makes_is found e n is pieces same = λ i. pieces_changes ((is ∙ ap new_place (e ∙ first_change a b thread space at old_len new_len v rows kit m.resizable found)) i) (same i)

  pub clears_is : (found : Change) → found ≡ slice_index_or kit.changes.items 1 found → found ≡ GiveUp given_up.0 given_up.1
  clears_is found e = e ∙ second_change a b thread space at old_len new_len v rows kit m.resizable found

  pub two : length kit.changes.items ≡ 2
  two = two_changes a b thread space at old_len new_len v rows kit m.resizable

  -- ---- the references of its kit

  own_frames_are : shown_refs kit.own_frames.items ≡ refs_of frame_of (filter (λ (e : ℕ × PageCell). stayed (frame_grants old c) e.0) (filter (λ (e : ℕ × PageCell). uses e.0) (fin.entries (space_at now space))))
  own_frames_are = let made = (move.was_done a b thread space at old_len new_len v rows kit m).call.made in ap (λ (k : Kit). shown_refs k.own_frames.items) made.same ∙ made.granted.own_frames

  own_slots_are : shown_refs kit.own_slots.items ≡ refs_of slot_of (filter (λ (e : ℕ × PageCell). stayed (slot_grants old c) e.0) (filter (λ (e : ℕ × PageCell). uses e.0) (fin.entries (space_at now space))))
  own_slots_are = let made = (move.was_done a b thread space at old_len new_len v rows kit m).call.made in ap (λ (k : Kit). shown_refs k.own_slots.items) made.same ∙ made.granted.own_slots

  frames_are : AreRefs now space frame_of kit.own_frames.items
  frames_are = refs_now now uses (stayed (frame_grants old c)) space frame_of kit.own_frames.items own_frames_are

  slots_are : AreRefs now space slot_of kit.own_slots.items
  slots_are = refs_now now uses (stayed (slot_grants old c)) space slot_of kit.own_slots.items own_slots_are

  backed : AreBacked b.frames kit.own_frames.items × AreBacked b.frames kit.frames.items × AreBacked b.slots kit.own_slots.items × AreBacked b.slots kit.slots.items
  backed = let made = (move.was_done a b thread space at old_len new_len v rows kit m).call.made in
      subst (λ (k : Kit). AreBacked b.frames k.own_frames.items × AreBacked b.frames k.frames.items × AreBacked b.slots k.own_slots.items × AreBacked b.slots k.slots.items) (sym made.same) made.granted.backed

  used_new : (q : ℕ) → within to r.new q ≡ true → uses q ≡ true
  used_new q w = move.taken_is a b thread space at old_len new_len v rows kit m q ∙ or_right (within r.first r.old q) (within to r.new q) w

  in_frames : (q : ℕ) (x : PageCell) (n : ℕ) → within to r.new q ≡ true → cell_at now space q ≡ Some x → frame_of x ≡ Some n → Contains (pages_of kit.own_frames.items) q
  in_frames q x n w there carries = ref_listed now uses (stayed (frame_grants old c)) space frame_of kit.own_frames.items own_frames_are q x n there carries (used_new q w) refl

  in_slots : (q : ℕ) (x : PageCell) (n : ℕ) → within to r.new q ≡ true → cell_at now space q ≡ Some x → slot_of x ≡ Some n → Contains (pages_of kit.own_slots.items) q
  in_slots q x n w there carries = ref_listed now uses (stayed (slot_grants old c)) space slot_of kit.own_slots.items own_slots_are q x n there carries (used_new q w) refl

  -- ---- its rows

  module _ (w1 : PassView (List Cell) B E) (rows1 : List Row) (makes : MakesAll (pieces_changes to kit.pieces.items) v rows w1 rows1) (w2 : PassView (List Cell) B E) (rows2 : List Row) (changes : ChangesBy (clearing (GiveUp given_up.0 given_up.1)) w1 rows1 w2 rows2) where
    abbrev end : State
    end = move.end a b thread space at old_len new_len v rows kit m

    last : move.IsLast now (move.end a b thread space at old_len new_len v rows kit m) space to r.new
    last = move.last_is a b thread space at old_len new_len v rows kit m

    abbrev is_old : ℕ → Bool
    is_old = clean r.first r.old (all_clean (pieces_changes to kit.pieces.items) uses)

    base : IsBase b (move.end a b thread space at old_len new_len v rows kit m) space is_old w2 rows2
    base = move.base2 a b thread space at old_len new_len v rows kit m w1 rows1 makes w2 rows2 changes

    top : set.contains now.tables (root (levels now) space) ≡ true
    top = subst (λ n. set.contains now.tables (root n space) ≡ true) (sym (move.same_levels a b thread space at old_len new_len v rows kit m)) (move.own a b thread space at old_len new_len v rows kit m).top

    table_now : (p : Place) → IsTableOf (move.end a b thread space at old_len new_len v rows kit m) p → IsTableOf now p
    table_now p (inl is) = inl is
    table_now p (inr there) = inr (ap (λ (t : FinSet place_cmp). set.contains t p) (sym last.same_tables) ∙ there)

    -- an entry leads to a root, or below one
    leads : (p : Place) (i : ℕ) → IsTableOf now p → ((below (levels now) p i).level < levels now) ⊎ ((s : ℕ) × (below (levels now) p i ≡ root (levels now) s))
    leads p i (inl is) = inr (i, ap (λ (x : Place). below (levels now) x i) is)
    leads p i (inr there) =
        let d = level_of (levels now) p (ok.places p there) in
        let few = ok.few_levels in
        let e : (below (levels now) p i).level ≡ p.level - 1 = ap (λ (x : Place). x.level) (below_is (levels now) p i (let h = d.1 in omega (arith, h, few))) in
        inl (omega (arith, e, d.0, d.1))

    moved : (x : Row) (has : Contains rows2 x) (i : ℕ) (cell : Cell) → i < 512 → slice_get x.content i ≡ Some cell
        → IsMovedCell b space (pages_of kit.own_frames.items) (pages_of kit.own_slots.items) (below (levels now) x.place i) (slice_index (base.rows_of x has).row.words i) cell
    moved x has i cell inside there =
        let row = base.rows_of x has in
        moved_at b ok (move.end a b thread space at old_len new_len v rows kit m) space to r.new last top (pages_of kit.own_frames.items) (pages_of kit.own_slots.items) in_frames in_slots is_old (move.none_old a b thread space at old_len new_len v rows kit m)
        (below (levels now) x.place i) (slice_index row.row.words i) cell
        (subst (λ n. IsEntryOf b (move.end a b thread space at old_len new_len v rows kit m) is_old (below n x.place i) (slice_index row.row.words i) cell) last.same_levels (row.entries i cell inside there))
        (leads x.place i (table_now x.place row.table))

    view_is : (w2.hand ≡ []) × (w2.core.granted ≡ []) × AllGiven w2
    view_is =
        let one = move.changed1 a b thread space at old_len new_len v rows kit m w1 rows1 makes in
        let two = move.changed2 a b thread space at old_len new_len v rows kit m w1 rows1 makes w2 rows2 changes in (
          ap (λ (u : PassView (List Cell) B E). u.hand) two.rewrites.view ∙ (ap (λ (u : PassView (List Cell) B E). u.hand) one.rewrites.view ∙ m.resizable.hand.0),
          ap (λ (u : PassView (List Cell) B E). u.core.granted) two.rewrites.view ∙ (ap (λ (u : PassView (List Cell) B E). u.core.granted) one.rewrites.view ∙ m.resizable.hand.1),
          two.rewrites.given (one.rewrites.given m.resizable.given),
        )

    sharing : AreSharing b space (pages_of kit.own_frames.items ++ []) (0, []) w2 rows2
    sharing = record {
      consistent = ok;
      few_frames = few_frames b m.resizable.books.1;
      exact = base.exact;
      given = view_is.2;
      hand = (view_is.0, view_is.1);
      each = λ x has. let row = base.rows_of x has in record {
        known = row.row;
        held = row.held;
        same_row = row.same_row;
        same_place = row.same_place;
        linked = base.linked x has;
        table = table_now x.place row.table;
        whole = row.whole;
        cells = λ i cell inside there. sharing_cell b space (pages_of kit.own_frames.items) (pages_of kit.own_slots.items) (below (levels now) x.place i) (slice_index row.row.words i) cell (moved x has i cell inside there) 0;
      };
    }

    pub may_share : MayShare space (pages_of kit.own_frames.items) (λ (k : BookData). AreFramesAt (state_of k) space kit.own_frames.items) w2 rows2
    may_share = (b, [], (0, []), sharing, frames_at now space kit.own_frames.items frames_are)

    module _ (w3 : PassView (List Cell) B E) (shares : Shares space (pages_of kit.own_frames.items) (λ (k : BookData). AreFramesAt (state_of k) space kit.own_frames.items) w2 w3 rows2) where
      shared : AreSharing b space [] (0, []) w3 rows2
      shared = shares b [] (0, []) sharing (frames_at now space kit.own_frames.items frames_are)

      row_short : (x : Row) → Contains rows2 x → IsShort b w3.rows (pages_of kit.own_frames.items) (pages_of kit.own_slots.items) x
      row_short x has = let row = shared.each x has in record {
        row = row.known;
        held = row.held;
        same_row = row.same_row;
        same_place = row.same_place;
        table = row.table;
        whole = row.whole;
        cells = λ i cell inside there. short_cell b space 0 (pages_of kit.own_frames.items) (pages_of kit.own_slots.items) (below (levels now) x.place i) (slice_index (base.rows_of x has).row.words i) (slice_index row.known.words i) cell
            (moved x has i cell inside there) (row.cells i cell inside there);
      }

      short : AreShortIn b w3.rows space (pages_of kit.own_frames.items) (pages_of kit.own_slots.items) ([], []) rows2
      short x has = (
        λ own. row_short x has,
        λ apart. short_top b ok w3.rows (pages_of kit.own_frames.items) (pages_of kit.own_slots.items) x (λ low. apart (base.of_space x has low)) (row_short x has),
      )

      pub applied : OnlyWords w2 w3 → (rows3 rows4 : List Row) → PlacesFrames space kit.own_frames.items rows2 rows3 → PlacesSlots space kit.own_slots.items rows3 rows4 → map row_place rows3 ≡ map row_place rows2 → map row_place rows4 ≡ map row_place rows3
          → (kit' : Kit) → HasRoom kit' → IsIdle kit' → IsUngranted kit' → (kit'.second_frames.items ≡ []) × (kit'.second_slots.items ≡ []) → Applied b thread (call.Remap space at old_len new_len) v w3 rows4 kit kit'
      applied words rows3 rows4 one two e3 e4 kit' room idle ungranted seconds =
          let third = one b w3.rows [] (pages_of kit.own_slots.items) ([], []) ok frames_are backed.0 short in
          let fourth = two b w3.rows [] [] ([], []) ok slots_are backed.2 third in
          let first = move.changed1 a b thread space at old_len new_len v rows kit m w1 rows1 makes in
          let second = move.changed2 a b thread space at old_len new_len v rows kit m w1 rows1 makes w2 rows2 changes in
          let view = rows_of_words v w3 (words_more v w2 w3 (words_more v w1 w2 first.rewrites.view second.rewrites.view) words) in
          is_rejoined b thread (call.Remap space at old_len new_len) space v w3 rows2 rows4 kit kit' view shared refl fourth (e4 ∙ e3) room idle ungranted seconds
