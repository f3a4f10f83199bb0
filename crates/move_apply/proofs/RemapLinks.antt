-- The tables that a call lacks which gives a range another length may be linked, those that its pages cut one after another.
--     may_cut      those that pages cut, where each is there after the call
--     IsFound, IsPlaced      the change and its pages, as they are read from the kit;  and the new place
--     goes_is      whether its range moves
--     head_may, piece_may      the tables that its pages cut may be linked
--     still_pages, all_there      what is there stays there;  where all that its pages cut are, each table after the call is
--     new_of_space      a new table is of the space
use Rattle.std.specs.Prelude.{◌≡◌, ℕ, ◌+◌, ◌-◌, ◌^◌, ◌<◌, ◌≤◌, true, false, not, Bool, List, length, nat_eq, slice_index_or}
use Rattle.std.specs.FinSet as set
use Rattle.std.proofs.Common.{sym, refl, ◌∙◌, ap, subst, arith, inl, inr}
use mathlib.Core.Logic.{dite}
use native.Mathlib.Decide.{ℕ_discrete}
use Rattle.corten_base.specs.declared.calls.Backing.TheVariants.{Zero}
use Rattle.corten_base.specs.declared.calls.Call.{Call}
use Rattle.corten_base.specs.declared.calls.Call.TheVariants as call
use Rattle.table_place.specs.declared.Place.{Place}
use Rattle.table_place.specs.Place.{place_of, root}
use Rattle.table_place.proofs.Spans.{user_below}
use Rattle.page_map.specs.Remap.{Resize, resize_of, moves, put_at}
use Rattle.page_map.specs.State.{IsConsistent, levels, space_at}
use Rattle.page_map.proofs.Mappings.{user_few}
use Rattle.page_map.proofs.NeedOf.{IsCut}
use Rattle.row_cells.specs.declared.Cell.{Cell}
use Rattle.row_table.specs.declared.view.PassView.{PassView}
use Rattle.machine_plan.specs.declared.kit.Change.{Change}
use Rattle.machine_plan.specs.declared.kit.Change.TheVariants.{Move}
use Rattle.machine_plan.specs.declared.kit.Kit.{Kit}
use Rattle.machine_plan.specs.declared.kit.Piece.{Piece}
use Rattle.machine_plan.specs.Books.{BookData, state_of}
use Rattle.machine_plan.specs.Held.{ListHolds}
use Rattle.machine_plan.specs.HeldRows.{Row}
use Rattle.machine_plan.proofs.Towers.{root_is}
use Rattle.machine_plan.proofs.Whole.{book_is_consistent}
use Rattle.move_apply.specs.declared.relinking.Pages.{Pages}
use Rattle.cursor_apply.specs.Applying.{IsApplicable}
use Rattle.cursor_apply.specs.Linking.{IsLinkable, IsLow, LinkedSoFar, MayLinkCut, MayLinkPage}
use Rattle.move_apply.specs.Remapping.{changed_at, changed_pages, goes_elsewhere, new_place, pages_at, HasEnds, IsRemapIn, MayLinkPages, ReachesPages}
use Rattle.cursor_apply.proofs.AboveCuts.{cut_there}
use Rattle.cursor_apply.proofs.AbovePages.{still_reached}
use Rattle.move_apply.proofs.RemapCuts.{AreCut, CutsFor, IsRemapDone, are_cut, elsewhere, ends, first_change, not_elsewhere, new_space, remap_done, root_now, two_changes}
use Rattle.cursor_apply.proofs.TxnCuts.{near_cut, far_cut}

-- ---- pages

module _ {B E : Type 0} (a b : BookData) (thread space at old_len new_len : ℕ) (v : PassView (List Cell) B E) (rows : List Row) (kit : Kit) (further : IsLinkable a b thread (call.Remap space at old_len new_len) v rows kit) (before : IsConsistent (state_of a))
    (top : set.contains (state_of b).tables (root (levels (state_of a)) space) ≡ true) (x : Pages) (cuts : CutsFor a b space x) where
  abbrev L : ℕ
  L = levels (state_of a)

  few : L ≤ 5
  few = before.few_levels

  at_root : (q : ℕ) → q < x.first + x.count → set.contains (state_of b).tables (place_of space L q) ≡ true
  at_root q less = subst (λ (p : Place). set.contains (state_of b).tables p ≡ true) (sym (root_is L space q (let end = user_below L x.first x.count cuts.user in omega (arith, end, less)))) top

  by_level : (q k : ℕ) → q < x.first + x.count → k ≤ L → (k < L → IsCut L space x.first x.count (place_of space k q)) → set.contains (state_of b).tables (place_of space k q) ≡ true
  by_level q k less high cut = dite (ℕ_discrete k L)
      (λ e. subst (λ n. set.contains (state_of b).tables (place_of space n q) ≡ true) (sym e) (at_root q less))
      (λ ne. cuts.there (place_of space k q) (cut (strictly k L high ne)))
    where
      strictly : (n m : ℕ) → n ≤ m → (n ≡ m → ⊥) → n < m
      strictly n m le ne = omega arith

  at_page : (edge q low : ℕ) → IsLow L edge low → q < x.first + x.count → ((k : ℕ) → 1 ≤ k → k < L → low ≤ k → IsCut L space x.first x.count (place_of space k q)) → MayLinkPage a b rows space q low
  at_page edge q low is to cut =
      let r = further.zone space q refl in
      record {
        row = r.0;
        there = r.1;
        has = r.2;
        deep = is.deep;
        high = is.high;
        wanted = λ k le high. by_level q k to high (λ less. cut k (let d = is.deep in omega (arith, d, le)) less le);
        linked = λ y i has inside page was is_now. further.links y i has inside (record { space = space; page = q; of_zone = refl; of_span = page }) was is_now;
      }

  pub may_cut : MayLinkCut a b rows space x.first x.count
  may_cut = let s = cuts.some in record {
    some = s;
    near = λ low is. at_page x.first x.first low is (omega (arith, s)) (λ k deep high le. near_cut L space x.first x.count few s k deep high low is le);
    far = λ low is. at_page (x.first + x.count) (x.first + x.count - 1) low is (omega (arith, s)) (λ k deep high le. far_cut L space x.first x.count few s k deep high low is le);
  }

pub still_pages : (levels space : ℕ) (x : Pages) (rows rows' : List Row) → ((p : Place) → ListHolds rows p → ListHolds rows' p) → ReachesPages levels space x rows → ReachesPages levels space x rows'
still_pages levels space x rows rows' kept reached some = let r = reached some in record {
  near_low = r.near_low;
  near_is = r.near_is;
  near = still_reached space x.first r.near_low rows rows' kept r.near;
  far_low = r.far_low;
  far_is = r.far_is;
  far = still_reached space (x.first + x.count - 1) r.far_low rows rows' kept r.far;
}

-- ---- a call

abbrev pub IsFound : Kit → Change → Pages → Type 0
IsFound kit found pages = (found ≡ slice_index_or kit.changes.items 0 found) × (pages ≡ changed_pages found)

abbrev pub IsPlaced : Kit → Change → Pages → ℕ → Type 0
IsPlaced kit found pages place = (found ≡ slice_index_or kit.changes.items 0 found) × (pages ≡ changed_pages found) × (place ≡ new_place found)

no_piece : Piece
no_piece = record { first = 0; count = 0; perm = record { read = false; write = false; exec = false }; backing = Zero }

module _ {B E : Type 0} (a b : BookData) (thread : ℕ) (c : Call) (v : PassView (List Cell) B E) (rows : List Row) (kit : Kit) (space : ℕ) (ready : IsApplicable a b thread c v rows kit) (done : kit.done ≡ true)
    (further : IsLinkable a b thread c v rows kit) (is : IsRemapIn space c) where
  abbrev r : Resize
  r = resize_of is.at is.old_len is.new_len

  abbrev to : ℕ
  to = put_at (levels (state_of a)) thread (space_at (state_of a) space) (resize_of is.at is.old_len is.new_len)

  before : IsConsistent (state_of a)
  before = book_is_consistent a ready.books.0

  pub as_done : IsRemapDone a b thread (call.Remap space is.at is.old_len is.new_len) kit
  as_done = subst (λ (y : Call). IsRemapDone a b thread y kit) is.is (remap_done a b thread c v rows kit ready done)

  pub linkable : IsLinkable a b thread (call.Remap space is.at is.old_len is.new_len) v rows kit
  linkable = subst (λ (y : Call). IsLinkable a b thread y v rows kit) is.is further

  cuts : AreCut a b space (changed_at r.first r.old to r.new) to kit.pieces.items
  cuts = are_cut a b thread space is.at is.old_len is.new_len kit before as_done

  top : set.contains (state_of b).tables (root (levels (state_of a)) space) ≡ true
  top = root_now a b thread space is.at is.old_len is.new_len kit before as_done

  pub some_change : 1 ≤ length kit.changes.items
  some_change = let two = two_changes a b thread space is.at is.old_len is.new_len kit before as_done in omega (arith, two)

  pub found_is : (found : Change) → found ≡ slice_index_or kit.changes.items 0 found → found ≡ Move r.first r.old to r.new
  found_is found e = e ∙ first_change a b thread space is.at is.old_len is.new_len kit before as_done found

  -- whether it goes elsewhere
  pub goes_is : (found : Change) → found ≡ slice_index_or kit.changes.items 0 found → goes_elsewhere found ≡ moves (levels (state_of a)) (space_at (state_of a) space) r
  goes_is found e = ap goes_elsewhere (found_is found e) ∙ go (moves (levels (state_of a)) (space_at (state_of a) space) r) refl
    where
      go : (t : Bool) → moves (levels (state_of a)) (space_at (state_of a) space) r ≡ t → not (nat_eq to r.first) ≡ moves (levels (state_of a)) (space_at (state_of a) space) r
      go true f = ap not (elsewhere a b thread space is.at is.old_len is.new_len kit before as_done f) ∙ sym f
      go false f = ap not (not_elsewhere a b thread space is.at is.old_len is.new_len kit before as_done f) ∙ sym f

  pub has_ends : (found : Change) → found ≡ slice_index_or kit.changes.items 0 found → HasEnds found
  has_ends found e = subst HasEnds (sym (found_is found e)) (ends a b thread space is.at is.old_len is.new_len kit before as_done)

  pub head_is : (found : Change) (pages : Pages) → IsFound kit found pages → pages ≡ changed_at r.first r.old to r.new
  head_is found pages f = f.1 ∙ ap changed_pages (found_is found f.0)

  pub place_is : (found : Change) (pages : Pages) (place : ℕ) → IsPlaced kit found pages place → place ≡ to
  place_is found pages place f = f.2 ∙ ap new_place (found_is found f.0)

  pub head_may : (found : Change) (pages : Pages) → IsFound kit found pages → MayLinkPages a b rows space pages
  head_may found pages f = subst (MayLinkPages a b rows space) (sym (head_is found pages f))
      (λ some. may_cut a b thread space is.at is.old_len is.new_len v rows kit linkable before top (changed_at r.first r.old to r.new) (cuts.head_cuts some), cuts.head_end)

  -- a piece
  module _ (found : Change) (pages : Pages) (place : ℕ) (f : IsPlaced kit found pages place) (k : ℕ) (less : k < length kit.pieces.items) (piece : Piece) (it : piece ≡ slice_index_or kit.pieces.items k piece) where
    own : CutsFor a b space (pages_at place piece)
    own = subst (λ n. CutsFor a b space (pages_at n piece)) (sym (place_is found pages place f)) (subst (λ (p : Piece). CutsFor a b space (pages_at to p)) (sym it) (cuts.piece_cuts k piece less))

    pub piece_end : place + piece.first + piece.count < 2 ^ 44
    piece_end = user_few (levels (state_of a)) (place + piece.first) piece.count before.few_levels own.user

    pub piece_may : MayLinkPages a b rows space (pages_at place piece)
    piece_may = (λ some. may_cut a b thread space is.at is.old_len is.new_len v rows kit linkable before top (pages_at place piece) own, let e = piece_end in omega (arith, e))

  pub new_of_space : (p : Place) → set.contains (state_of a).tables p ≡ false → set.contains (state_of b).tables p ≡ true → p.space ≡ space
  new_of_space p gone there = new_space a b thread space is.at is.old_len is.new_len kit before as_done p gone there

  pub all_there : (found : Change) (pages : Pages) (place : ℕ) → IsPlaced kit found pages place → (next : ℕ) (w : PassView (List Cell) B E) (rows' : List Row) (so : LinkedSoFar a b thread c kit next v rows w rows')
      → ReachesPages (levels (state_of a)) space pages rows' → ((k : ℕ) (d : Piece) → k < length kit.pieces.items → ReachesPages (levels (state_of a)) space (pages_at place (slice_index_or kit.pieces.items k d)) rows')
      → (p : Place) → set.contains (state_of b).tables p ≡ true → set.contains so.tables p ≡ true
  all_there found pages place f next w rows' so head each p there = go (set.contains (state_of a).tables p) refl
    where
      by : (x : Pages) → 1 ≤ x.count → ReachesPages (levels (state_of a)) space x rows' → IsCut (levels (state_of a)) space x.first x.count p → set.contains so.tables p ≡ true
      by x some reached cut = cut_there a b thread c kit v rows before.few_levels next w rows' so space x.first x.count some (reached some) p cut

      new : set.contains (state_of a).tables p ≡ false → set.contains so.tables p ≡ true
      new gone = elim (cuts.new_cut p gone there) [
        | inl h ↦ by (changed_at r.first r.old to r.new) h.0 (subst (λ (x : Pages). ReachesPages (levels (state_of a)) space x rows') (head_is found pages (f.0, f.1)) head) h.1
        | inr t ↦ by (pages_at to (slice_index_or kit.pieces.items t.0 no_piece)) (cuts.piece_cuts t.0 no_piece t.1).some
            (subst (λ n. ReachesPages (levels (state_of a)) space (pages_at n (slice_index_or kit.pieces.items t.0 no_piece)) rows') (place_is found pages place f) (each t.0 no_piece t.1)) (t.2 no_piece)
      ]

      go : (t : Bool) → set.contains (state_of a).tables p ≡ t → set.contains so.tables p ≡ true
      go true e = so.left p e there
      go false e = new e
