-- A call that was refused, or that found no place in the journal: everything comes back.
--     is_undone      the book and the kit are as the plan left them
--     is_returnable      the references of the kit may come back
--     is_applied      what is left
use Rattle.std.specs.Prelude.{◌≡◌, ℕ, ◌+◌, ◌-◌, ◌*◌, ◌<◌, ◌⊎◌, ◌&&◌, Bool, true, false, cond, nat_eq, is_none, List, [], ◌∷◌, map, length, slice_index, Option, Some, None, is_some, IsSome, IsNone}
use Rattle.std.specs.List.{Contains}
use Rattle.std.specs.FinSet as set
use Rattle.std.proofs.Common.{sym, refl, ◌∙◌, ap, subst, arith, inl, inr}
use Rattle.std.proofs.lemmas.Bool.{true≢false, false≢true, eqb-true, and_parts}
use Rattle.corten_base.specs.declared.calls.Call.{Call}
use Rattle.corten_base.specs.declared.calls.Call.TheVariants as call
use Rattle.corten_base.specs.declared.calls.Reply.{Reply}
use Rattle.counted_pages.specs.Pages.{PageCounts}
use Rattle.page_map.specs.declared.cell.Cell.{Cell as PageCell}
use Rattle.page_map.specs.declared.cell.Cell.TheVariants as page
use Rattle.page_map.specs.Cell.{frame_of, slot_of}
use Rattle.page_map.specs.Effect.{space_of}
use Rattle.page_map.specs.State.{State, levels, cell_at}
use Rattle.page_map.specs.Step.{refusal}
use Rattle.page_map.proofs.Steps.{refused}
use Rattle.walk_core.specs.declared.pass.GrantedRow.{GrantedRow}
use Rattle.walk_core.specs.Lists.{times}
use Rattle.walk_core.proofs.RowLists.{in_map}
use Rattle.row_cells.specs.declared.Cell.{Cell}
use Rattle.row_cells.specs.declared.Cell.TheVariants.{Invalid, Table, Anon, File, Mapped, Swapped}
use Rattle.row_table.specs.declared.view.PassView.{PassView}
use Rattle.row_table.specs.Moves.{NotInHand}
use Rattle.row_table.proofs.Turns.{contained_map, same_parts}
use Rattle.table_place.specs.declared.Place.{Place}
use Rattle.table_place.proofs.Entries.{below_is}
use Rattle.tree_lock.specs.Held.{row_number, row_numbers}
use Rattle.machine_plan.specs.declared.kit.Kit.{Kit}
use Rattle.machine_plan.specs.Agrees.{below, EachPage, HasBytes, HasSpareFor, Shows, Spells, IsTableOf}
use Rattle.machine_plan.specs.Books.{BookData, state_of}
use Rattle.machine_plan.specs.Given.{IsRemoved}
use Rattle.machine_plan.specs.HeldRows.{Row, AreOf}
use Rattle.machine_plan.specs.Kits.{Refs, Seconds, HasRoom, IsIdle, IsUngranted, IsFilled, IsPlanned, AreReady}
use Rattle.machine_plan.specs.Uses.{uses_page, shown_refs, refs_of, used_cells}
use Rattle.machine_plan.proofs.Covering.{cell_there}
use Rattle.machine_plan.proofs.Pages.{own_page}
use Rattle.cursor_detach.specs.Left.{drawn_cell, is_taken, IsCommitted}
use Rattle.cursor_apply.specs.Applying.{hand_row, IsApplicable, Applied}
use Rattle.cursor_apply.specs.Putting.{AreRefs, AreBackable, IsLacking, IsShortCell, AreShort, AreAgreed, IsReturnable, pages_of, row_place}
use Rattle.cursor_apply.proofs.StagedStart.{no_rows_of}
use Rattle.cursor_apply.proofs.Returned.{are_refs, none_listed, is_listed}

pub record IsUndone (a b : BookData) (thread : ℕ) (c : Call) (kit : Kit) : Type 0 where
  pub filled : Kit
  pub was_filled : IsFilled a thread c filled
  pub same : kit ≡ record filled { gone = kit.gone }
  pub state : state_of b ≡ state_of a
  pub frames : b.frames ≡ a.frames
  pub slots : b.slots ≡ a.slots

committed_so : (a b : BookData) (thread : ℕ) (c : Call) (kit answered : Kit) → kit.done ≡ false → kit ≡ record answered { gone = kit.gone } → IsCommitted a b thread c answered → IsUndone a b thread c kit
committed_so a b thread c kit answered undone same committed = go (refusal (state_of a) thread c (length a.limbo)) refl
  where
    go : (o : Option Reply) → refusal (state_of a) thread c (length a.limbo) ≡ o → IsUndone a b thread c kit
    go None e =
        let done = (committed.commits.accepted (ap (λ (x : Option Reply). is_some x) e)).done in
        absurd (true≢false (sym done ∙ (sym (ap (λ (k : Kit). k.done) same) ∙ undone)))
    go (Some r) e =
        let is = committed.commits.refused (ap (λ (x : Option Reply). is_some x) e) in
        record {
          filled = committed.filled;
          was_filled = committed.was_filled;
          same = same ∙ ap (λ (k : Kit). record k { gone = kit.gone }) is.same_kit;
          state = ap (λ (x : Reply × State). x.1) (committed.commits.is_step ∙ refused (state_of a) thread c (length a.limbo) r e);
          frames = ap (λ (x : BookData). x.frames) is.book;
          slots = ap (λ (x : BookData). x.slots) is.book;
        }

pub is_undone : {B E : Type 0} (a b : BookData) (thread : ℕ) (c : Call) (v : PassView (List Cell) B E) (rows : List Row) (kit : Kit) → kit.done ≡ false → IsApplicable a b thread c v rows kit → IsUndone a b thread c kit
is_undone a b thread c v rows kit undone ready = elim ready.committed [
  | inl committed ↦ committed_so a b thread c kit ready.answered undone ready.same_kit committed
  | inr none ↦ record {
    filled = ready.answered;
    was_filled = none.0;
    same = ready.same_kit;
    state = ap state_of none.1;
    frames = ap (λ (x : BookData). x.frames) none.1;
    slots = ap (λ (x : BookData). x.slots) none.1;
  }
]

to_backable : (c : Call) (counts : PageCounts) (refs : Refs) (seconds : Seconds) → AreReady c counts refs seconds → AreBackable counts refs seconds
to_backable (call.Fork space) counts refs seconds r = inr r
to_backable (call.Map space where_to len perm what) counts refs seconds r = inl r
to_backable (call.Unmap space at len) counts refs seconds r = inl r
to_backable (call.Protect space at len perm) counts refs seconds r = inl r
to_backable (call.Load space at len) counts refs seconds r = inl r
to_backable (call.Store space at bytes) counts refs seconds r = inl r
to_backable (call.Fault space at write) counts refs seconds r = inl r
to_backable call.Spawn counts refs seconds r = inl r
to_backable (call.Exit space) counts refs seconds r = inl r
to_backable (call.SwapOut space at len) counts refs seconds r = inl r
to_backable (call.SwapIn space at len) counts refs seconds r = inl r
to_backable (call.Txn space at len ops) counts refs seconds r = inl r
to_backable (call.DontNeed space at len) counts refs seconds r = inl r
to_backable (call.Remap space at old_len new_len) counts refs seconds r = inl r

-- a call that names no space uses no page
no_page : (st : State) (thread : ℕ) (c : Call) (s p : ℕ) → space_of c ≡ None → uses_page st thread c s p ≡ true → ⊥
no_page st thread call.Spawn s p e uses = true≢false (sym uses)
no_page st thread (call.Fork space) s p e uses = absurd (cc)
no_page st thread (call.Map space where_to len perm what) s p e uses = absurd (cc)
no_page st thread (call.Unmap space at len) s p e uses = absurd (cc)
no_page st thread (call.Protect space at len perm) s p e uses = absurd (cc)
no_page st thread (call.Load space at len) s p e uses = absurd (cc)
no_page st thread (call.Store space at bytes) s p e uses = absurd (cc)
no_page st thread (call.Fault space at write) s p e uses = absurd (cc)
no_page st thread (call.Exit space) s p e uses = absurd (cc)
no_page st thread (call.SwapOut space at len) s p e uses = absurd (cc)
no_page st thread (call.SwapIn space at len) s p e uses = absurd (cc)
no_page st thread (call.Txn space at len ops) s p e uses = absurd (cc)
no_page st thread (call.DontNeed space at len) s p e uses = absurd (cc)
no_page st thread (call.Remap space at old_len new_len) s p e uses = absurd (cc)

module _ {B E : Type 0} (a b : BookData) (thread : ℕ) (c : Call) (v : PassView (List Cell) B E) (rows : List Row) (kit : Kit) (ready : IsApplicable a b thread c v rows kit) (u : IsUndone a b thread c kit) where
  abbrev st : State
  st = state_of a

  abbrev L : ℕ
  L = levels st

  abbrev frames : List ℕ
  frames = pages_of kit.own_frames.items

  abbrev slots : List ℕ
  slots = pages_of kit.own_slots.items

  planned : IsNone kit.early → IsPlanned a thread c u.filled
  planned early = u.was_filled.planned (ap (λ (k : Kit). is_some k.early) (sym u.same) ∙ early)

  frames_are : kit.own_frames.items ≡ u.filled.own_frames.items
  frames_are = ap (λ (k : Kit). k.own_frames.items) u.same

  slots_are : kit.own_slots.items ≡ u.filled.own_slots.items
  slots_are = ap (λ (k : Kit). k.own_slots.items) u.same

  not_early : is_none kit.early ≡ true → IsNone kit.early
  not_early e = go kit.early e
    where
      go : (o : Option Reply) → is_none o ≡ true → IsNone o
      go None e = refl
      go (Some r) e = absurd (false≢true e)

  -- ---- the rows lack the references of the kit alone

  module _ (x : Row) (has : Contains rows x) (i : ℕ) (inside : i < 512) where
    abbrev q : Place
    q = below L x.place i

    lacks : (old : Cell) → is_taken st thread c kit x.place i ≡ true → Shows st q old → IsLacking frames slots q old (drawn_cell old) ⊎ (drawn_cell old ≡ old)
    lacks old taken shows = go old shows
      where
        first : (is_none kit.early ≡ true) × ((nat_eq x.place.level 1 && uses_page st thread c x.place.space (512 * x.place.prefix + i)) ≡ true)
        first = and_parts (is_none kit.early) (nat_eq x.place.level 1 && uses_page st thread c x.place.space (512 * x.place.prefix + i)) taken

        second : (nat_eq x.place.level 1 ≡ true) × (uses_page st thread c x.place.space (512 * x.place.prefix + i) ≡ true)
        second = and_parts (nat_eq x.place.level 1) (uses_page st thread c x.place.space (512 * x.place.prefix + i)) first.1

        level : x.place.level ≡ 1
        level = eqb-true x.place.level 1 second.0

        is_below : q ≡ record { space = x.place.space; level = x.place.level - 1; prefix = 512 * x.place.prefix + i }
        is_below = below_is L x.place i (let one = level in omega arith)

        there : (d : PageCell) → q.level ≡ 0 → EachPage st q (λ _. Some d) → cell_at st x.place.space q.prefix ≡ Some d
        there d low each = subst (λ s. cell_at st s q.prefix ≡ Some d) (ap (λ (p : Place). p.space) is_below) (each q.space q.prefix (own_page q low))

        uses : uses_page st thread c x.place.space q.prefix ≡ true
        uses = subst (λ n. uses_page st thread c x.place.space n ≡ true) (sym (ap (λ (p : Place). p.prefix) is_below)) second.1

        in_space : (P : Type 0) → ((s : ℕ) → space_of c ≡ Some s → s ≡ x.place.space → P) → P
        in_space P yes_it = by (space_of c) refl
          where
            by : (o : Option ℕ) → space_of c ≡ o → P
            by None e = absurd (no_page st thread c x.place.space q.prefix e uses)
            by (Some s) e = yes_it s e (sym (ready.one_space s e x has (let one = level in omega arith)))

        go : (old : Cell) → Shows st q old → IsLacking frames slots q old (drawn_cell old) ⊎ (drawn_cell old ≡ old)
        go (Mapped perm origin f) shows = inl (
          refl,
          in_space (Contains frames q.prefix) (λ s e same.
              subst (λ (l : Refs). Contains (pages_of l) q.prefix) (sym frames_are)
              (is_listed st thread c frame_of u.filled.own_frames.items (planned (not_early first.0)).frames s q.prefix (page.Mapped perm origin f.number f.body.bytes) f.number e
              (subst (λ n. cell_at st n q.prefix ≡ Some (page.Mapped perm origin f.number f.body.bytes)) (sym same) (there (page.Mapped perm origin f.number f.body.bytes) shows.1 shows.2)) refl
              (subst (λ n. uses_page st thread c n q.prefix ≡ true) (sym same) uses))),
        )
        go (Swapped perm origin f) shows = inl (
          refl,
          in_space (Contains slots q.prefix) (λ s e same.
              subst (λ (l : Refs). Contains (pages_of l) q.prefix) (sym slots_are)
              (is_listed st thread c slot_of u.filled.own_slots.items (planned (not_early first.0)).slots s q.prefix (page.Swapped perm origin f.number f.body.bytes) f.number e
              (subst (λ n. cell_at st n q.prefix ≡ Some (page.Swapped perm origin f.number f.body.bytes)) (sym same) (there (page.Swapped perm origin f.number f.body.bytes) shows.1 shows.2)) refl
              (subst (λ n. uses_page st thread c n q.prefix ≡ true) (sym same) uses))),
        )
        go Invalid shows = inr refl
        go Table shows = inr refl
        go (Anon perm) shows = inr refl
        go (File perm file index) shows = inr refl

    bytes_too : (old : Cell) → HasBytes a old → HasBytes b old
    bytes_too Invalid h = tt
    bytes_too Table h = tt
    bytes_too (Anon perm) h = tt
    bytes_too (File perm file index) h = tt
    bytes_too (Mapped perm origin f) h = subst (λ (n : PageCounts). HasSpareFor n f) (sym u.frames) h
    bytes_too (Swapped perm origin f) h = subst (λ (n : PageCounts). HasSpareFor n f) (sym u.slots) h

    short_cell : (old cell : Cell) (word : ℕ) → Shows st q old → Spells st old word → HasBytes a old → cell ≡ cond (is_taken st thread c kit x.place i) (drawn_cell old) old → IsShortCell b frames slots (below (levels (state_of b)) x.place i) word cell
    short_cell old cell word shows spells bytes is = record {
      was = old;
      shows = subst (λ (s : State). Shows s (below (levels s) x.place i) old) (sym u.state) shows;
      spells = subst (λ (s : State). Spells s old word) (sym u.state) spells;
      is = subst (λ (s : State). ((cell ≡ old) × HasBytes b old) ⊎ IsLacking frames slots (below (levels s) x.place i) old cell) (sym u.state) (go (is_taken st thread c kit x.place i) refl);
    }
      where
        go : (t : Bool) → is_taken st thread c kit x.place i ≡ t → ((cell ≡ old) × HasBytes b old) ⊎ IsLacking frames slots q old cell
        go false e = inl (is ∙ ap (λ t. cond t (drawn_cell old) old) e, bytes_too old bytes)
        go true e =
            let drawn : cell ≡ drawn_cell old = is ∙ ap (λ t. cond t (drawn_cell old) old) e in
            elim (lacks old e shows) [
              | inl l ↦ inr (subst (IsLacking frames slots q old) (sym drawn) l)
              | inr same ↦ inl (drawn ∙ same, bytes_too old bytes)
            ]

  still : (p : Place) → ¬ IsRemoved (state_of a) (state_of b) p
  still p r = true≢false (sym r.0 ∙ (ap (λ (s : State). set.contains s.tables p) (sym u.state) ∙ r.1))

  short : AreShort b v.rows frames slots rows
  short x has =
      let l = ready.rows_left x has in
      record {
        row = l.known;
        held = l.held;
        same_row = l.same_row;
        same_place = l.same_place;
        table = subst (λ (s : State). IsTableOf s x.place) (sym u.state) (subst (IsTableOf st) l.same_place l.agreed.shown.table);
        whole = l.whole;
        cells = λ i cell inside there.
            let old = cell_there l.old_cells i (subst (λ n. i < n) (sym l.agreed.shown.whole) inside) in
            let is = sym there ∙ l.cell i old.0 inside (still (below L x.place i)) old.1 in
            short_cell x has i inside old.0 cell (slice_index l.known.words i)
            (subst (λ p. Shows st (below L p i) old.0) l.same_place (l.agreed.shown.each i old.0 inside old.1))
            (subst (Spells st old.0) (sym (l.word i inside (still (below L x.place i)))) (l.agreed.spelled i old.0 inside old.1))
            (l.agreed.kept i old.0 inside old.1) (cc);
      }

  -- ---- the references

  -- where nothing was planned there are none
  no_frames : IsSome kit.early → kit.own_frames.items ≡ []
  no_frames e = frames_are ∙ (u.was_filled.refused (ap (λ (k : Kit). is_some k.early) (sym u.same) ∙ e)).frames

  no_slots : IsSome kit.early → kit.own_slots.items ≡ []
  no_slots e = slots_are ∙ (u.was_filled.refused (ap (λ (k : Kit). is_some k.early) (sym u.same) ∙ e)).slots

  none_there : {P : Type 0} (refs : Refs) → refs ≡ [] → 0 < length refs → P
  none_there refs e some = let none = ap length e in absurd (omega arith)

  returnable : (s : ℕ) → ((n : ℕ) → space_of c ≡ Some n → s ≡ n) → IsReturnable b s v.rows rows kit
  returnable s is_s = record {
    consistent = ready.consistent;
    frames = by_early (AreRefs (state_of b) s frame_of kit.own_frames.items) (λ e. nothing frame_of kit.own_frames.items (no_frames e)) (λ e. listed frame_of kit.own_frames.items (subst (λ (l : Refs). shown_refs l ≡ refs_of frame_of (used_cells st st thread c)) (sym frames_are) (planned e).frames));
    slots = by_early (AreRefs (state_of b) s slot_of kit.own_slots.items) (λ e. nothing slot_of kit.own_slots.items (no_slots e)) (λ e. listed slot_of kit.own_slots.items (subst (λ (l : Refs). shown_refs l ≡ refs_of slot_of (used_cells st st thread c)) (sym slots_are) (planned e).slots));
    frames_backable = λ some. by_early (AreBackable b.frames kit.own_frames.items kit.second_frames.items) (λ e. none_there kit.own_frames.items (no_frames e) some)
        (λ e. subst (λ (n : PageCounts). AreBackable n kit.own_frames.items kit.second_frames.items) (sym u.frames)
        (subst (λ (k : Kit). AreBackable a.frames k.own_frames.items k.second_frames.items) (sym u.same) (to_backable c a.frames u.filled.own_frames.items u.filled.second_frames.items (planned e).frames_ready)));
    slots_backable = λ some. by_early (AreBackable b.slots kit.own_slots.items kit.second_slots.items) (λ e. none_there kit.own_slots.items (no_slots e) some)
        (λ e. subst (λ (n : PageCounts). AreBackable n kit.own_slots.items kit.second_slots.items) (sym u.slots)
        (subst (λ (k : Kit). AreBackable a.slots k.own_slots.items k.second_slots.items) (sym u.same) (to_backable c a.slots u.filled.own_slots.items u.filled.second_slots.items (planned e).slots_ready)));
    frames_of_space = λ some. by_early (AreOf s rows) (λ e. none_there kit.own_frames.items (no_frames e) some)
        (λ e. of_space frame_of kit.own_frames.items (subst (λ (l : Refs). shown_refs l ≡ refs_of frame_of (used_cells st st thread c)) (sym frames_are) (planned e).frames) some);
    slots_of_space = λ some. by_early (AreOf s rows) (λ e. none_there kit.own_slots.items (no_slots e) some)
        (λ e. of_space slot_of kit.own_slots.items (subst (λ (l : Refs). shown_refs l ≡ refs_of slot_of (used_cells st st thread c)) (sym slots_are) (planned e).slots) some);
    short = short;
  }
    where
      by_early : (P : Type 0) → (IsSome kit.early → P) → (IsNone kit.early → P) → P
      by_early P early late = go kit.early refl
        where
          go : (o : Option Reply) → kit.early ≡ o → P
          go None e = late (ap (λ (x : Option Reply). is_some x) e)
          go (Some r) e = early (ap (λ (x : Option Reply). is_some x) e)

      nothing : (number_of : PageCell → Option ℕ) (refs : Refs) → refs ≡ [] → AreRefs (state_of b) s number_of refs
      nothing number_of refs e = subst (λ (l : Refs). AreRefs (state_of b) s number_of l) (sym e) (λ k d within. absurd (omega arith))

      listed : (number_of : PageCell → Option ℕ) (refs : Refs) → shown_refs refs ≡ refs_of number_of (used_cells st st thread c) → AreRefs (state_of b) s number_of refs
      listed number_of refs shown = go (space_of c) refl
        where
          go : (o : Option ℕ) → space_of c ≡ o → AreRefs (state_of b) s number_of refs
          go None e = nothing number_of refs (none_listed st thread c number_of refs shown e)
          go (Some n) e = subst (λ (x : State). AreRefs x s number_of refs) (sym u.state) (subst (λ m. AreRefs st m number_of refs) (sym (is_s n e)) (are_refs st thread c number_of refs shown n e))

      of_space : (number_of : PageCell → Option ℕ) (refs : Refs) → shown_refs refs ≡ refs_of number_of (used_cells st st thread c) → 0 < length refs → AreOf s rows
      of_space number_of refs shown some = go (space_of c) refl
        where
          go : (o : Option ℕ) → space_of c ≡ o → AreOf s rows
          go None e = none_there refs (none_listed st thread c number_of refs shown e) some
          go (Some n) e = subst (λ m. AreOf m rows) (sym (is_s n e)) (ready.one_space n e)

  pub is_returnable : (s : ℕ) × IsReturnable b s v.rows rows kit
  is_returnable = go (space_of c) refl
    where
      go : (o : Option ℕ) → space_of c ≡ o → (s : ℕ) × IsReturnable b s v.rows rows kit
      go None e = (0, returnable 0 (λ n f. let clash : None ≡ Some n = sym e ∙ f in absurd (cc)))
      go (Some m) e = (m, returnable m (λ n f. let same : Some m ≡ Some n = sym e ∙ f in cc))

  -- ---- what is left

  pub is_applied : (rows' : List Row) (kit' : Kit) → kit.done ≡ false → AreAgreed b v.rows rows' → map row_place rows' ≡ map row_place rows → HasRoom kit' → IsIdle kit' → IsUngranted kit' → (kit'.second_frames.items ≡ []) × (kit'.second_slots.items ≡ [])
      → Applied b thread c v v rows' kit kit'
  is_applied rows' kit' undone agreed places room idle ungranted seconds = record {
    view = refl;
    held = record {
      exact = record { held = λ r. ap (times r) numbers ∙ ready.exact.held r; shown = ready.exact.shown };
      each = λ x has.
          let g = agreed x has in
          let o = contained_map row_place rows (row_place x) (subst (λ (l : List (ℕ × Place)). Contains l (row_place x)) places (in_map row_place rows' x has)) in
          record {
            known = g.row;
            held = g.held;
            same_row = g.same_row;
            same_place = g.same_place;
            linked = subst (NotInHand v) (ap (λ (p : ℕ × Place). p.0) o.2) (ready.rows_left o.0 o.1).linked;
            agrees = g.agrees;
          };
    };
    given = ready.given;
    hand = (no_rows_of hand_row v.hand (map (λ (g : ℕ × ℕ). g.0) kit.rows.items) ready.hand (ap (map (λ (g : ℕ × ℕ). g.0)) no_rows), no_rows_of (λ (g : GrantedRow). g.row) v.core.granted (map (λ (g : ℕ × ℕ). g.0) kit.rows.items) ready.granted (ap (map (λ (g : ℕ × ℕ). g.0)) no_rows));
    stored = λ done. absurd (true≢false (sym done ∙ undone));
    room = room;
    idle = idle;
    ungranted = ungranted;
    seconds = seconds;
  }
    where
      numbers : row_numbers rows' ≡ row_numbers rows
      numbers = sym (same_parts row_place (λ (p : ℕ × Place). p.0) row_number (λ x. refl) rows') ∙ (ap (map (λ (p : ℕ × Place). p.0)) places ∙ same_parts row_place (λ (p : ℕ × Place). p.0) row_number (λ x. refl) rows)

      no_rows : kit.rows.items ≡ []
      no_rows = ap (λ (k : Kit). k.rows.items) u.same ∙ u.was_filled.ungranted.rows
