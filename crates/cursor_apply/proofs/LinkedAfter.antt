-- The granted rows of an access or a move are linked.
--     access_moves      a load, a store or a fault is such a call
--     linked_after      so all its tables are
use Rattle.std.specs.Prelude.{◌≡◌, ℕ, ◌<◌, true, false, List, slice_index, Some}
use Rattle.std.specs.List.{Contains}
use Rattle.std.specs.FinSet as set
use Rattle.std.specs.FinSet.{contains-from_list}
use Rattle.std.proofs.Common.{sym, ◌∙◌, ap, subst, inl, inr}
use Rattle.std.proofs.lemmas.Bool.{true≢false, false_from_ne_true}
use Rattle.corten_base.specs.declared.calls.Call.{Call}
use Rattle.corten_base.specs.declared.calls.Call.TheVariants as call
use Rattle.page_map.specs.Alike.{unlike_tables}
use Rattle.page_map.specs.Effect.{space_of, cells_after, wanted_tables, is_given_up}
use Rattle.page_map.specs.State.{State, levels}
use Rattle.page_map.proofs.Growth as growth
use Rattle.page_map.proofs.Places.{place_total}
use Rattle.page_map.proofs.Steps.{not_none}
use Rattle.page_map.proofs.Wanted.{is_wanted}
use Rattle.page_map.proofs.TableLaws.{unlike_listed}
use Rattle.row_cells.specs.declared.Cell.{Cell}
use Rattle.row_cells.specs.declared.Cell.TheVariants.{Invalid, Table, Anon, File, Mapped, Swapped}
use Rattle.row_table.specs.declared.view.PassView.{PassView}
use Rattle.table_place.specs.declared.Place.{Place}
use Rattle.machine_plan.specs.declared.kit.Kit.{Kit}
use Rattle.machine_plan.specs.Agrees.{below, Shows}
use Rattle.machine_plan.specs.Books.{BookData, state_of}
use Rattle.machine_plan.specs.Given.{IsRemoved}
use Rattle.machine_plan.specs.HeldRows.{Row, AreOf}
use Rattle.cursor_detach.specs.Left.{is_taken, IsCommitted}
use Rattle.cursor_apply.specs.Applying.{IsApplicable}
use Rattle.cursor_apply.specs.Linking.{IsAccessIn}
use Rattle.cursor_apply.specs.Moving.{IsMove, IsLinkedRow, AreLinked}
use Rattle.cursor_apply.specs.Staging.{with_tables, Staged}
use Rattle.cursor_apply.proofs.Begun.{gives_none, link_is, was_committed}
use Rattle.cursor_apply.proofs.Made.{IsMade, is_made, as_changed}

-- a load, a store or a fault
pub access_moves : (space : ℕ) (c : Call) → IsAccessIn space c → IsMove c
access_moves space (call.Load s at len) is = tt
access_moves space (call.Store s at bytes) is = tt
access_moves space (call.Fault s at write) is = tt
access_moves space (call.SwapOut s at len) is = tt
access_moves space (call.SwapIn s at len) is = tt
access_moves space (call.Map s where_to len perm what) is = absurd (not_none (sym is.accesses))
access_moves space (call.Unmap s at len) is = absurd (not_none (sym is.accesses))
access_moves space (call.Protect s at len perm) is = absurd (not_none (sym is.accesses))
access_moves space call.Spawn is = absurd (not_none (sym is.accesses))
access_moves space (call.Fork s) is = absurd (not_none (sym is.accesses))
access_moves space (call.Exit s) is = absurd (not_none (sym is.accesses))
access_moves space (call.Txn s at len ops) is = absurd (not_none (sym is.accesses))
access_moves space (call.DontNeed s at len) is = absurd (not_none (sym is.accesses))
access_moves space (call.Remap s at old_len new_len) is = absurd (not_none (sym is.accesses))

wanted_are : (st : State) (thread : ℕ) (c : Call) (s : ℕ) → IsMove c → space_of c ≡ Some s → wanted_tables st thread c ≡ unlike_tables (levels st) s (cells_after st thread c)
wanted_are st thread (call.Load space at len) s move is = let same : space ≡ s = cc in ap (λ k. unlike_tables (levels st) k (cells_after st thread (call.Load space at len))) same
wanted_are st thread (call.Store space at bytes) s move is = let same : space ≡ s = cc in ap (λ k. unlike_tables (levels st) k (cells_after st thread (call.Store space at bytes))) same
wanted_are st thread (call.Fault space at write) s move is = let same : space ≡ s = cc in ap (λ k. unlike_tables (levels st) k (cells_after st thread (call.Fault space at write))) same
wanted_are st thread (call.SwapOut space at len) s move is = let same : space ≡ s = cc in ap (λ k. unlike_tables (levels st) k (cells_after st thread (call.SwapOut space at len))) same
wanted_are st thread (call.SwapIn space at len) s move is = let same : space ≡ s = cc in ap (λ k. unlike_tables (levels st) k (cells_after st thread (call.SwapIn space at len))) same
wanted_are st thread (call.Map space where_to len perm what) s move is = absurd move
wanted_are st thread (call.Unmap space at len) s move is = absurd move
wanted_are st thread (call.Protect space at len perm) s move is = absurd move
wanted_are st thread call.Spawn s move is = absurd move
wanted_are st thread (call.Fork space) s move is = absurd move
wanted_are st thread (call.Exit space) s move is = absurd move
wanted_are st thread (call.Txn space at len ops) s move is = absurd move
wanted_are st thread (call.DontNeed space at len) s move is = absurd move
wanted_are st thread (call.Remap space at old_len new_len) s move is = absurd move

module _ {B E : Type 0} (a b : BookData) (thread : ℕ) (c : Call) (v w : PassView (List Cell) B E) (rows rows' : List Row) (kit : Kit) (ready : IsApplicable a b thread c v rows kit) (done : kit.done ≡ true) (move : IsMove c) (s : ℕ) (here : space_of c ≡ Some s)
    (staged : Staged a b thread c kit v w rows rows') where
  abbrev st : State
  st = state_of a

  abbrev now : State
  now = state_of b

  committed : IsCommitted a b thread c ready.answered
  committed = was_committed a b thread c v rows kit ready done

  made : IsMade a b thread c kit
  made = is_made a b thread c kit ready.answered done ready.same_kit committed

  -- tables stay
  grown : (q : Place) → set.contains st.tables q ≡ true → set.contains now.tables q ≡ true
  grown q there = ap (λ (t : State). set.contains t.tables q) (made.state ∙ as_changed st thread c s move here) ∙ growth.stays (is_given_up st c) (wanted_tables st thread c) st.tables q there (gives_none st c q move)

  still : (q : Place) → ¬ IsRemoved st now q
  still q r = true≢false (sym (grown q r.0) ∙ r.1)

  -- and those that came are of the space
  came_here : (q : Place) → set.contains st.tables q ≡ false → set.contains now.tables q ≡ true → q.space ≡ s
  came_here q lone there = elim (growth.whence (is_given_up st c) (wanted_tables st thread c) st.tables q (sym (ap (λ (t : State). set.contains t.tables q) (made.state ∙ as_changed st thread c s move here)) ∙ there)) [
    | inl old ↦ absurd (true≢false (sym old.0 ∙ lone))
    | inr new ↦ (unlike_listed (levels st) s (cells_after st thread c) q (contains-from_list place_total (unlike_tables (levels st) s (cells_after st thread c)) q
        ∙ subst (λ (l : List Place). is_wanted l q ≡ true) (wanted_are st thread c s move here) new)).0
  ]

  of_space : AreOf s rows'
  of_space y has low = elim (staged.only y has) [
    | inl old ↦ ap (λ (p : Place). p.space) (sym old.2) ∙ ready.one_space s here old.0 old.1 (subst (λ (p : Place). p.level < 6) (sym old.2) low)
    | inr new ↦ came_here y.place new.0 new.1
  ]

  -- what stands at an entry that leads to no table
  shows_old : (q : Place) (k : Cell) → set.contains now.tables q ≡ false → Shows (with_tables st now.tables) q k → Shows st q k
  shows_old q k lone shows = go k shows
    where
      none : set.contains st.tables q ≡ false
      none = false_from_ne_true (set.contains st.tables q) (λ there. true≢false (sym (grown q there) ∙ lone))

      go : (k : Cell) → Shows (with_tables st now.tables) q k → Shows st q k
      go Table shows = absurd (true≢false (sym shows ∙ lone))
      go Invalid shows = (none, shows.1)
      go (Anon perm) shows = (none, shows.1)
      go (File perm file index) shows = (none, shows.1, shows.2)
      go (Mapped perm origin frame) shows = (none, shows.1, shows.2)
      go (Swapped perm origin slot) shows = (none, shows.1, shows.2)

  row_linked : (x : Row) → Contains rows' x → IsLinkedRow a b thread c kit w x
  row_linked x has =
      let l = staged.staged x has in
      record {
        known = l.known;
        held = l.held;
        same_row = l.same_row;
        same_place = l.same_place;
        linked = l.linked;
        table = l.table;
        whole = l.whole;
        links = λ i cell inside there table.
            let q = below (levels st) x.place i in
            let k = l.cells i cell inside (still q) there in
            link_is (with_tables st now.tables) st q (slice_index l.known.words i) cell (is_taken st thread c kit x.place i) k.was k.shows k.spells k.is table;
        pages = λ i cell inside there lone.
            let q = below (levels st) x.place i in
            let k = l.cells i cell inside (still q) there in
            record { old = k.was; shows = shows_old q k.was lone k.shows; spells = k.spells; bytes = k.bytes; is = k.is };
      }

  pub linked_after : AreLinked a b thread c w rows' kit
  linked_after = record {
    exact = staged.exact;
    each = row_linked;
    given = staged.given;
    consistent = ready.consistent;
    books = ready.books;
    one_space = λ t is. let same : s ≡ t = (let both : Some s ≡ Some t = sym here ∙ is in cc) in subst (λ n. AreOf n rows') same of_space;
    answered = ready.answered;
    same_kit = ready.same_kit;
    committed = committed;
    done = done;
    hand = (ap (λ (u : PassView (List Cell) B E). u.hand) staged.view, ap (λ (u : PassView (List Cell) B E). u.core.granted) staged.view);
    room = ready.room;
  }
