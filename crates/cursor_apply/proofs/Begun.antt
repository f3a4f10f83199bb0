-- An access or a move was accepted: its rows and its kit before anything is written.
--     move_space      it names a space
--     begun      the rows may be written
--     new_sole, own_sole      the frames that were granted have one owner each, and where the call writes those that stayed too
--     new_slots      the pages of the slots that were granted are in swap
--     link_is, was_committed, linked_here      the rows, where the call wanted no table
use Rattle.std.specs.Prelude.{◌≡◌, ℕ, ◌<◌, ◌≤◌, ◌⊎◌, ◌++◌, Bool, true, false, cond, List, [], ◌∷◌, map, slice_get, slice_index, Option, Some, None}
use Rattle.std.specs.List.{Contains}
use Rattle.std.specs.FinSet as set
use Rattle.std.proofs.Common.{sym, refl, ◌∙◌, ap, subst, arith, inl, inr}
use Rattle.std.proofs.lemmas.Bool.{true≢false, not-true}
use Rattle.corten_base.specs.declared.calls.Call.{Call}
use Rattle.corten_base.specs.declared.calls.Call.TheVariants as call
use Rattle.corten_base.specs.declared.numbers.Limits.{Limits}
use Rattle.page_map.specs.declared.cell.Cell.{Cell as PageCell}
use Rattle.page_map.specs.Cell.{frame_of, slot_of}
use Rattle.page_map.specs.Effect.{space_of, frame_grants, slot_grants, is_given_up, wanted_tables}
use Rattle.page_map.specs.State.{State, IsConsistent, start, levels, cell_at, frame_owners}
use Rattle.page_map.specs.Tables.{Tables}
use Rattle.page_map.proofs.Growth as growth
use Rattle.page_map.proofs.Owners.{same_some}
use Rattle.page_map.proofs.OwnCalls.{limits_along}
use Rattle.page_map.proofs.Steps.{not_none}
use Rattle.row_cells.specs.declared.Cell.{Cell}
use Rattle.row_cells.specs.declared.Cell.TheVariants.{Invalid, Table, Anon, File, Mapped, Swapped}
use Rattle.row_table.specs.declared.view.PassView.{PassView}
use Rattle.table_place.specs.declared.Place.{Place}
use Rattle.table_place.specs.Place.{directory}
use Rattle.table_place.proofs.Entries.{level_of}
use Rattle.walk_core.specs.Words.{is_link}
use Rattle.walk_core.specs.declared.pass.GrantedRow.{GrantedRow}
use Rattle.machine_plan.specs.declared.kit.Kit.{Kit}
use Rattle.machine_plan.specs.Agrees.{below, HasBytes, IsTableOf, Shows, Spells}
use Rattle.machine_plan.specs.Books.{BookData, state_of}
use Rattle.machine_plan.specs.Given.{IsRemoved}
use Rattle.machine_plan.specs.HeldRows.{Row}
use Rattle.machine_plan.specs.Kits.{AreBacked}
use Rattle.machine_plan.specs.Local.{CountsAre}
use Rattle.machine_plan.specs.Uses.{uses_page}
use Rattle.machine_plan.specs.Whole.{IsBook}
use Rattle.machine_plan.proofs.Covering.{cell_there}
use Rattle.machine_plan.proofs.Whole.{book_is_consistent}
use Rattle.cursor_detach.specs.Left.{drawn_cell, is_taken, IsCommitted}
use Rattle.cursor_apply.specs.Applying.{hand_row, is_store, IsApplicable}
use Rattle.cursor_apply.specs.Moving.{IsMove, IsLinkedEntry, IsLinkedRow, AreLinked, GotNoTable}
use Rattle.cursor_apply.specs.Putting.{pages_of}
use Rattle.cursor_apply.specs.Showing.{IsWholeCell, IsWritableCell, AreWritable, AreSole, AreSlots, own_pages}
use Rattle.cursor_apply.proofs.UsedEntries.{entry}
use Rattle.cursor_apply.proofs.KitLists.{fresh, stayed, each_ref, frames_of, slots_of, own_frames_of}
use Rattle.cursor_apply.proofs.Made.{IsMade, is_made, as_changed, kept_count, came_count, came, still_none}
use Rattle.cursor_apply.proofs.Outcomes.{gets}
use Rattle.cursor_apply.proofs.StagedStart.{no_rows_of}

pub move_space : (c : Call) → IsMove c → (s : ℕ) × (space_of c ≡ Some s)
move_space (call.Load space at len) move = (space, refl)
move_space (call.Store space at bytes) move = (space, refl)
move_space (call.Fault space at write) move = (space, refl)
move_space (call.SwapOut space at len) move = (space, refl)
move_space (call.SwapIn space at len) move = (space, refl)
move_space (call.Map space where_to len perm what) move = absurd move
move_space (call.Unmap space at len) move = absurd move
move_space (call.Protect space at len perm) move = absurd move
move_space call.Spawn move = absurd move
move_space (call.Fork space) move = absurd move
move_space (call.Exit space) move = absurd move
move_space (call.Txn space at len ops) move = absurd move
move_space (call.DontNeed space at len) move = absurd move
move_space (call.Remap space at old_len new_len) move = absurd move

pub gives_none : (st : State) (c : Call) (p : Place) → IsMove c → is_given_up st c p ≡ false
gives_none st (call.Load space at len) p move = refl
gives_none st (call.Store space at bytes) p move = refl
gives_none st (call.Fault space at write) p move = refl
gives_none st (call.SwapOut space at len) p move = refl
gives_none st (call.SwapIn space at len) p move = refl
gives_none st (call.Map space where_to len perm what) p move = absurd move
gives_none st (call.Unmap space at len) p move = absurd move
gives_none st (call.Protect space at len perm) p move = absurd move
gives_none st call.Spawn p move = absurd move
gives_none st (call.Fork space) p move = absurd move
gives_none st (call.Exit space) p move = absurd move
gives_none st (call.Txn space at len ops) p move = absurd move
gives_none st (call.DontNeed space at len) p move = absurd move
gives_none st (call.Remap space at old_len new_len) p move = absurd move

start_limits : (limits : Limits) (files : List (List ℕ)) → (start limits files).limits ≡ limits
unfolding start
start_limits limits files = refl

pub few_frames : (b : BookData) → IsBook b → (state_of b).limits.frames ≤ 4096
unfolding state_of
few_frames b is = subst (λ (l : Limits). l.frames ≤ 4096) (sym (limits_along (start b.limits b.files) b.journal ∙ start_limits b.limits b.files)) is.within.frames

module _ {B E : Type 0} (a b : BookData) (thread : ℕ) (c : Call) (v : PassView (List Cell) B E) (rows : List Row) (kit : Kit) (ready : AreLinked a b thread c v rows kit) (move : IsMove c) where
  abbrev st : State
  st = state_of a

  abbrev now : State
  now = state_of b

  pub made : IsMade a b thread c kit
  made = is_made a b thread c kit ready.answered ready.done ready.same_kit ready.committed

  before : IsConsistent st
  before = book_is_consistent a ready.books.0

  counts : CountsAre a × CountsAre b
  counts = (ready.books.0.counts, ready.books.1.counts)

  pub backed : AreBacked b.frames kit.own_frames.items × AreBacked b.frames kit.frames.items × AreBacked b.slots kit.own_slots.items × AreBacked b.slots kit.slots.items
  backed = subst (λ (k : Kit). AreBacked b.frames k.own_frames.items × AreBacked b.frames k.frames.items × AreBacked b.slots k.own_slots.items × AreBacked b.slots k.slots.items) (sym made.same) made.granted.backed

  pub seconds : (kit.second_frames.items ≡ []) × (kit.second_slots.items ≡ [])
  seconds = subst (λ (k : Kit). (k.second_frames.items ≡ []) × (k.second_slots.items ≡ [])) (sym made.same) made.granted.seconds

  module _ (s : ℕ) (here : space_of c ≡ Some s) where
    -- tables stay
    grown : (q : Place) → set.contains now.tables q ≡ false → set.contains st.tables q ≡ true → ⊥
    grown q lone there =
        let tables = ap (λ (t : State). set.contains t.tables q) (made.state ∙ as_changed st thread c s move here) in
        true≢false (sym (growth.stays (is_given_up st c) (wanted_tables st thread c) st.tables q there (gives_none st c q move)) ∙ (sym tables ∙ lone))

    -- an entry that links a table
    link_entry : (q : Place) (word : ℕ) (cell : Cell) → set.contains now.tables q ≡ true → cell ≡ Table → Spells now Table word → IsWholeCell b thread c q word cell
    link_entry q word cell there is link = record {
      shows = subst (Shows now q) (sym is) there;
      spells = subst (λ (k : Cell). Spells now k word) (sym is) link;
      bytes = subst (λ (k : Cell). HasBytes b k) (sym is) tt;
      unused = λ stores low uses. let depth = level_of (levels now) q (ready.consistent.places q there) in absurd (omega (arith, depth.0, low));
    }

    entry_of : (x : Row) (has : Contains rows x) (i : ℕ) (cell : Cell) → i < 512 → slice_get x.content i ≡ Some cell
        → IsWritableCell b thread c (pages_of kit.own_frames.items ++ pages_of kit.frames.items) (pages_of kit.own_slots.items ++ pages_of kit.slots.items) (pages_of kit.frames.items ++ own_pages (is_store c) kit.own_frames.items) (pages_of kit.slots.items)
        (below (levels now) x.place i) (slice_index (ready.each x has).known.words i) cell
    entry_of x has i cell inside there = by (set.contains now.tables (below (levels now) x.place i)) refl
      where
        at_old : (t : Bool) → set.contains now.tables (below (levels now) x.place i) ≡ t → set.contains now.tables (below (levels st) x.place i) ≡ t
        at_old t e = subst (λ n. set.contains now.tables (below n x.place i) ≡ t) made.same_levels e

        by : (t : Bool) → set.contains now.tables (below (levels now) x.place i) ≡ t
            → IsWritableCell b thread c (pages_of kit.own_frames.items ++ pages_of kit.frames.items) (pages_of kit.own_slots.items ++ pages_of kit.slots.items) (pages_of kit.frames.items ++ own_pages (is_store c) kit.own_frames.items) (pages_of kit.slots.items)
            (below (levels now) x.place i) (slice_index (ready.each x has).known.words i) cell
        by true e = let l = (ready.each x has).links i cell inside there (at_old true e) in inl (link_entry (below (levels now) x.place i) (slice_index (ready.each x has).known.words i) cell e l.0 l.1)
        by false e =
            let l = (ready.each x has).pages i cell inside there (at_old false e) in
            entry a b thread c kit made move ready.consistent before counts (few_frames a ready.books.0) s here x.place (ready.each x has).table (ready.one_space s here x has) i inside e (grown (below (levels now) x.place i) e)
            l.old cell (slice_index (ready.each x has).known.words i) (subst (λ n. Shows st (below n x.place i) l.old) (sym made.same_levels) l.shows) l.spells l.bytes l.is

    pub begun : AreWritable b thread c s (pages_of kit.own_frames.items ++ pages_of kit.frames.items) (pages_of kit.own_slots.items ++ pages_of kit.slots.items) (pages_of kit.frames.items ++ own_pages (is_store c) kit.own_frames.items) (pages_of kit.slots.items) v rows
    begun = record {
      consistent = ready.consistent;
      few_frames = few_frames b ready.books.1;
      of_space = ready.one_space s here;
      exact = ready.exact;
      given = ready.given;
      hand = ready.hand;
      each = λ x has.
          let l = ready.each x has in
          record { known = l.known; held = l.held; same_row = l.same_row; same_place = l.same_place; linked = l.linked; table = l.table; whole = l.whole; cells = entry_of x has };
    }

    -- ---- the references

    -- what became of a used page with a frame
    frame_one : (p n : ℕ) (d : PageCell) → cell_at now s p ≡ Some d → frame_of d ≡ Some n → uses_page st thread c s p ≡ true → (gets (frame_grants st c) p ≡ true) ⊎ ((gets (frame_grants st c) p ≡ false) × (is_store c ≡ true)) → frame_owners now n ≡ 1
    frame_one p n d is_d has uses which = by (cell_at st s p) refl
      where
        by : (o : Option PageCell) → cell_at st s p ≡ o → frame_owners now n ≡ 1
        by None none = absurd (not_none (sym is_d ∙ still_none a b thread c kit made move ready.consistent before counts s p uses none))
        by (Some e) was =
            let o = came a b thread c kit made move ready.consistent before counts s p uses e was in
            let same : o.0 ≡ d = (let both : Some o.0 ≡ Some d = sym o.1 ∙ is_d in cc) in
            elim (o.2.frame n (ap frame_of same ∙ has)) [
              | inl got ↦ came_count a b thread c kit made move ready.consistent before counts s here p p n e d was got.1 is_d has
              | inr kept ↦ kept_count a b thread c kit made move ready.consistent before counts s here p p n e d was kept.1 is_d has ∙ kept.2 (stores kept.0)
            ]
          where
            stores : gets (frame_grants st c) p ≡ false → is_store c ≡ true
            stores none = elim which [ inl got ↦ absurd (true≢false (sym got ∙ none)) | inr w ↦ w.1 ]

    pub new_sole : AreSole now s kit.frames.items
    new_sole = λ k d within.
        let r = each_ref now (λ p. uses_page st thread c s p) (fresh (frame_grants st c)) s frame_of kit.frames.items (frames_of a b thread c kit made move s here) k d within in
        record { cell = r.cell; there = r.there; carries = r.carries; one = frame_one _ _ r.cell r.there r.carries r.used (inl r.passed) }

    pub own_sole : is_store c ≡ true → AreSole now s kit.own_frames.items
    own_sole stores = λ k d within.
        let r = each_ref now (λ p. uses_page st thread c s p) (stayed (frame_grants st c)) s frame_of kit.own_frames.items (own_frames_of a b thread c kit made move s here) k d within in
        record { cell = r.cell; there = r.there; carries = r.carries; one = frame_one _ _ r.cell r.there r.carries r.used (inr (not-true _ r.passed, stores)) }

    pub new_slots : AreSlots now s kit.slots.items
    new_slots = λ k d within.
        let r = each_ref now (λ p. uses_page st thread c s p) (fresh (slot_grants st c)) s slot_of kit.slots.items (slots_of a b thread c kit made move s here) k d within in
        record { cell = r.cell; there = r.there; slot = _; carries = r.carries }

-- ---- a call that wanted no table

-- what a link is beside
pub link_is : (shown spelt : State) (q : Place) (word : ℕ) (cell : Cell) (t : Bool) (k : Cell) → Shows shown q k → Spells spelt k word → cell ≡ cond t (drawn_cell k) k → set.contains shown.tables q ≡ true → (cell ≡ Table) × (is_link word ≡ true)
link_is shown spelt q word cell t Table shows spells is there = (is ∙ either t, spells)
  where
    either : (t : Bool) → cond t Table Table ≡ Table
    either true = refl
    either false = refl
link_is shown spelt q word cell t Invalid shows spells is there = absurd (true≢false (sym there ∙ shows.0))
link_is shown spelt q word cell t (Anon perm) shows spells is there = absurd (true≢false (sym there ∙ shows.0))
link_is shown spelt q word cell t (File perm file index) shows spells is there = absurd (true≢false (sym there ∙ shows.0))
link_is shown spelt q word cell t (Mapped perm origin frame) shows spells is there = absurd (true≢false (sym there ∙ shows.0))
link_is shown spelt q word cell t (Swapped perm origin slot) shows spells is there = absurd (true≢false (sym there ∙ shows.0))

pub was_committed : {B E : Type 0} (a b : BookData) (thread : ℕ) (c : Call) (v : PassView (List Cell) B E) (rows : List Row) (kit : Kit) (ready : IsApplicable a b thread c v rows kit) → kit.done ≡ true → IsCommitted a b thread c ready.answered
was_committed a b thread c v rows kit ready done = elim ready.committed [
  | inl is ↦ is
  | inr idle ↦ absurd (true≢false (sym done ∙ (ap (λ (k : Kit). k.done) ready.same_kit ∙ idle.0.ungranted.not_done)))
]

module _ {B E : Type 0} (a b : BookData) (thread : ℕ) (c : Call) (v : PassView (List Cell) B E) (rows : List Row) (kit : Kit) (ready : IsApplicable a b thread c v rows kit) (got : GotNoTable a b kit) where
  abbrev L : ℕ
  L = levels (state_of a)

  still : (p : Place) → ¬ IsRemoved (state_of a) (state_of b) p
  still p r = true≢false (sym r.0 ∙ (ap (λ (t : Tables). set.contains t p) (sym got.tables) ∙ r.1))

  entry_left : (x : Row) (has : Contains rows x) (i : ℕ) (cell : Cell) → i < 512 → slice_get x.content i ≡ Some cell → IsLinkedEntry a thread c kit x.place i (slice_index (ready.rows_left x has).known.words i) cell
  entry_left x has i cell inside there =
      let l = ready.rows_left x has in
      let old = cell_there l.old_cells i (subst (λ n. i < n) (sym l.agreed.shown.whole) inside) in
      let is : Some cell ≡ Some (cond (is_taken (state_of a) thread c kit x.place i) (drawn_cell old.0) old.0) = sym there ∙ l.cell i old.0 inside (still (below L x.place i)) old.1 in
      record {
        old = old.0;
        shows = subst (λ p. Shows (state_of a) (below L p i) old.0) l.same_place (l.agreed.shown.each i old.0 inside old.1);
        spells = subst (Spells (state_of a) old.0) (sym (l.word i inside (still (below L x.place i)))) (l.agreed.spelled i old.0 inside old.1);
        bytes = l.agreed.kept i old.0 inside old.1;
        is = same_some is;
      }

  row_linked : (x : Row) → Contains rows x → IsLinkedRow a b thread c kit v x
  row_linked x has =
      let l = ready.rows_left x has in
      record {
        known = l.known;
        held = l.held;
        same_row = l.same_row;
        same_place = l.same_place;
        linked = l.linked;
        table = subst (λ (t : Tables). (x.place ≡ directory) ⊎ (set.contains t x.place ≡ true)) (sym got.tables) (subst (IsTableOf (state_of a)) l.same_place l.agreed.shown.table);
        whole = l.whole;
        links = λ i cell inside there table.
            let k = entry_left x has i cell inside there in
            link_is (state_of a) (state_of a) (below L x.place i) (slice_index l.known.words i) cell (is_taken (state_of a) thread c kit x.place i) k.old k.shows k.spells k.is (ap (λ (t : Tables). set.contains t (below L x.place i)) (sym got.tables) ∙ table);
        pages = λ i cell inside there lone. entry_left x has i cell inside there;
      }

  pub linked_here : AreLinked a b thread c v rows kit
  linked_here = record {
    exact = ready.exact;
    each = row_linked;
    given = ready.given;
    consistent = ready.consistent;
    books = ready.books;
    one_space = ready.one_space;
    answered = ready.answered;
    same_kit = ready.same_kit;
    committed = was_committed a b thread c v rows kit ready got.done;
    done = got.done;
    hand = (no_rows_of hand_row v.hand (map (λ (g : ℕ × ℕ). g.0) kit.rows.items) ready.hand (ap (map (λ (g : ℕ × ℕ). g.0)) got.rows), no_rows_of (λ (g : GrantedRow). g.row) v.core.granted (map (λ (g : ℕ × ℕ). g.0) kit.rows.items) ready.granted (ap (map (λ (g : ℕ × ℕ). g.0)) got.rows));
    room = ready.room;
  }
