-- A space that is made, and one that is removed: the rows agree when the granted row is linked.
--     is_commit      what was committed keeps the numbers
--     spawned      a new space has no pages
--     exits      of a space that is removed no row is left
--     exited      so nothing is below the directory's entry for it
use Rattle.std.specs.Prelude.{◌≡◌, ℕ, ◌+◌, ◌*◌, ◌<◌, ◌&&◌, Bool, true, false, List, [], nat_eq, is_none, None}
use Rattle.std.specs.List.{Contains}
use Rattle.std.specs.FinSet as set
use Rattle.std.proofs.Common.{sym, refl, ◌∙◌, ap, subst, arith, inl, inr, eq-eqb}
use Rattle.std.proofs.lemmas.Bool.{true≢false, false_from_ne_true, and_parts, eqb-true}
use Rattle.corten_base.specs.declared.calls.Call.{Call}
use Rattle.corten_base.specs.declared.calls.Call.TheVariants as call
use Rattle.page_map.specs.Effect.{space_of, wanted_tables, is_given_up}
use Rattle.page_map.specs.Memory.{names_key}
use Rattle.page_map.specs.State.{State, levels, cell_at, is_present}
use Rattle.page_map.specs.Tables.{changed_tables}
use Rattle.page_map.proofs.Growth as growth
use Rattle.page_map.proofs.Named.{absent_cell, after_unnamed}
use Rattle.page_map.proofs.Wanted.{is_wanted}
use Rattle.row_cells.specs.declared.Cell.{Cell}
use Rattle.row_table.specs.declared.view.PassView.{PassView}
use Rattle.table_place.specs.declared.Place.{Place}
use Rattle.table_place.specs.Place.{directory, has_page, root}
use Rattle.table_place.proofs.Entries.{page_parts, level_of}
use Rattle.machine_plan.specs.declared.kit.Kit.{Kit}
use Rattle.machine_plan.specs.Agrees.{below, IsNoTable, IsTableOf}
use Rattle.machine_plan.specs.Books.{BookData, state_of}
use Rattle.machine_plan.specs.Given.{IsRemoved}
use Rattle.machine_plan.specs.HeldRows.{Row}
use Rattle.machine_plan.specs.Kits.{HasRoom, IsIdle, IsUngranted}
use Rattle.machine_plan.specs.Uses.{uses_page}
use Rattle.machine_plan.proofs.Whole.{book_is_consistent}
use Rattle.cursor_detach.specs.Left.{is_taken}
use Rattle.cursor_apply.specs.Applying.{is_store, IsApplicable, Applied}
use Rattle.cursor_apply.specs.Linking.{IsLinkable, LinkedSoFar}
use Rattle.cursor_apply.specs.Staging.{Staged}
use Rattle.cursor_apply.proofs.Begun.{was_committed}
use Rattle.space_apply.proofs.KeptRows.{IsCommit, LeavesEntry, applied}
use Rattle.cursor_apply.proofs.Made.{IsMade, is_made}
use Rattle.cursor_apply.proofs.StagedStart.{changed, ended, started}

module _ {B E : Type 0} (a b : BookData) (thread : ℕ) (c : Call) (v : PassView (List Cell) B E) (rows : List Row) (kit : Kit) (ready : IsApplicable a b thread c v rows kit) (done : kit.done ≡ true) where
  pub made : IsMade a b thread c kit
  made = is_made a b thread c kit ready.answered done ready.same_kit (was_committed a b thread c v rows kit ready done)

  pub is_commit : IsCommit a b thread c
  is_commit = record {
    same_levels = made.same_levels;
    before = ready.books.0.counts;
    after = ready.books.1.counts;
    frames = made.granted.frames_kept;
    slots = made.granted.slots_kept;
  }

  -- what a call does not use is not taken
  pub unused_untaken : (p : Place) (index : ℕ) → uses_page (state_of a) thread c p.space (512 * p.prefix + index) ≡ false → is_taken (state_of a) thread c kit p index ≡ false
  unused_untaken p index unused = false_from_ne_true (is_taken (state_of a) thread c kit p index) (λ taken.
      let one = and_parts (is_none kit.early) (nat_eq p.level 1 && uses_page (state_of a) thread c p.space (512 * p.prefix + index)) taken in
      let two = and_parts (nat_eq p.level 1) (uses_page (state_of a) thread c p.space (512 * p.prefix + index)) one.1 in
      true≢false (sym two.1 ∙ unused))

  pub high_untaken : (p : Place) (index : ℕ) → 1 < p.level → is_taken (state_of a) thread c kit p index ≡ false
  high_untaken p index high = false_from_ne_true (is_taken (state_of a) thread c kit p index) (λ taken.
      let one = and_parts (is_none kit.early) (nat_eq p.level 1 && uses_page (state_of a) thread c p.space (512 * p.prefix + index)) taken in
      let two = and_parts (nat_eq p.level 1) (uses_page (state_of a) thread c p.space (512 * p.prefix + index)) one.1 in
      let low = eqb-true p.level 1 two.0 in
      absurd (omega (arith, high, low)))

  pub tables_now : (state_of b).tables ≡ changed_tables (is_given_up (state_of a) c) (wanted_tables (state_of a) thread c) (state_of a).tables
  tables_now = ap (λ (s : State). s.tables) made.state ∙ changed (state_of a) thread c

  -- ---- a new space

  module _ (spawns : c ≡ call.Spawn) where
    unused : (s p : ℕ) → uses_page (state_of a) thread c s p ≡ false
    unused s p = ap (λ (x : Call). uses_page (state_of a) thread x s p) spawns

    same_cell : (s p : ℕ) → cell_at (state_of b) s p ≡ cell_at (state_of a) s p
    same_cell s p = ap (λ (t : State). cell_at t s p) made.state ∙ after_unnamed (state_of a) thread made.limbo s p c (ap (λ (x : Call). names_key (state_of a) thread x s p) spawns) made.ok

    stay : (q : Place) → ¬ IsRemoved (state_of a) (state_of b) q
    stay q gone = true≢false (sym (ap (λ t. set.contains t q) tables_now ∙ growth.stays (is_given_up (state_of a) c) (wanted_tables (state_of a) thread c) (state_of a).tables q gone.0 (ap (λ (x : Call). is_given_up (state_of a) x q) spawns)) ∙ gone.1)

    pub spawned : (w : PassView (List Cell) B E) (rows' : List Row) → Staged a b thread c kit v w rows rows' → (kit' : Kit) → HasRoom kit' → IsIdle kit' → IsUngranted kit' → (kit'.second_frames.items ≡ []) × (kit'.second_slots.items ≡ []) → Applied b thread c v w rows' kit kit'
    spawned w rows' staged kit' room idle ungranted seconds = applied a b thread c kit is_commit v w rows rows' staged
        (λ x index has inside. unused_untaken x.place index (unused x.place.space (512 * x.place.prefix + index)))
        (λ x index has inside. record { free = λ low. unused _ _; same = λ still lone s p has_it. same_cell s p; gone = λ is. absurd (stay _ is) })
        kit' (ap is_store spawns) room idle ungranted seconds

  -- ---- a space that is removed

  module _ (space : ℕ) (exits : c ≡ call.Exit space) (further : IsLinkable a b thread c v rows kit) where
    wanted_none : wanted_tables (state_of a) thread c ≡ []
    wanted_none = ap (wanted_tables (state_of a) thread) exits

    given_up : (q : Place) → is_given_up (state_of a) c q ≡ nat_eq q.space space
    given_up q = ap (λ (x : Call). is_given_up (state_of a) x q) exits

    -- each table was one, of another space
    left : (q : Place) → set.contains (state_of b).tables q ≡ true → (set.contains (state_of a).tables q ≡ true) × (nat_eq q.space space ≡ false)
    left q there = elim (growth.whence (is_given_up (state_of a) c) (wanted_tables (state_of a) thread c) (state_of a).tables q (sym (ap (λ t. set.contains t q) tables_now) ∙ there)) [
      | inl old ↦ (old.0, sym (given_up q) ∙ old.1)
      | inr new ↦ absurd (true≢false (sym (subst (λ (l : List Place). is_wanted l q ≡ true) wanted_none new)))
    ]

    removed_here : (q : Place) → IsRemoved (state_of a) (state_of b) q → q.space ≡ space
    removed_here q gone = go (nat_eq q.space space) refl
      where
        go : (t : Bool) → nat_eq q.space space ≡ t → q.space ≡ space
        go true e = eqb-true q.space space e
        go false e = absurd (true≢false (sym (ap (λ t. set.contains t q) tables_now ∙ growth.stays (is_given_up (state_of a) c) (wanted_tables (state_of a) thread c) (state_of a).tables q gone.0 (given_up q ∙ e)) ∙ gone.1))

    -- the rows but the directory are of the space, which has none
    pub only_directory : (x : Row) → Contains rows x → x.place ≡ directory
    only_directory x has = go (further.tables x has)
      where
        go : IsTableOf (state_of b) x.place → x.place ≡ directory
        go (inl top) = top
        go (inr there) =
            let low = level_of (levels (state_of b)) x.place (ready.consistent.places x.place there) in
            let few = ready.consistent.few_levels in
            let own = ready.one_space space (ap space_of exits) x has (omega (arith, low.1, few)) in
            absurd (true≢false (sym (eq-eqb x.place.space space own) ∙ (left x.place there).1))

    none_here : (p : ℕ) → cell_at (state_of b) space p ≡ None
    none_here p = absent_cell (state_of b) space p (false_from_ne_true (is_present (state_of b) space) (λ there.
        let r = left (root (levels (state_of b)) space) (ready.consistent.roots space there) in true≢false (sym (eq-eqb space space refl) ∙ r.1)))

    other_cell : (s p : ℕ) → nat_eq s space ≡ false → cell_at (state_of b) s p ≡ cell_at (state_of a) s p
    other_cell s p apart = ap (λ (t : State). cell_at t s p) made.state ∙ after_unnamed (state_of a) thread made.limbo s p c (ap (λ (x : Call). names_key (state_of a) thread x s p) exits ∙ apart) made.ok

    abbrev q : ℕ → Place
    q index = root (levels (state_of a)) index

    entry_space : (index s p : ℕ) → has_page (root (levels (state_of a)) index) s p ≡ true → index ≡ s
    entry_space index s p has = (page_parts (root (levels (state_of a)) index) s p (let few = (book_is_consistent a ready.books.0).few_levels in omega (arith, few)) has).0

    leaves : (index : ℕ) → LeavesEntry a b thread c (root (levels (state_of a)) index)
    leaves index = record {
      free = λ low. absurd (let some = (book_is_consistent a ready.books.0).some_levels in omega (arith, low, some));
      same = λ still lone s p has. by s p (entry_space index s p has) still lone (nat_eq s space) refl;
      gone = λ gone s p has. let here : space ≡ s = sym (removed_here (root (levels (state_of a)) index) gone) ∙ entry_space index s p has in subst (λ t. cell_at (state_of b) t p ≡ None) here (none_here p);
    }
      where
        -- the space was not there
        absent : ¬ IsRemoved (state_of a) (state_of b) (root (levels (state_of a)) index) → IsNoTable (state_of b) (root (levels (state_of a)) index) → is_present (state_of a) index ≡ false
        absent still lone = false_from_ne_true (is_present (state_of a) index) (λ there. still ((book_is_consistent a ready.books.0).roots index there, lone))

        by : (s p : ℕ) → index ≡ s → ¬ IsRemoved (state_of a) (state_of b) (root (levels (state_of a)) index) → IsNoTable (state_of b) (root (levels (state_of a)) index) → (t : Bool) → nat_eq s space ≡ t → cell_at (state_of b) s p ≡ cell_at (state_of a) s p
        by s p at still lone false e = other_cell s p e
        by s p at still lone true e =
            let here : space ≡ s = sym (eqb-true s space e) in
            subst (λ t. cell_at (state_of b) t p ≡ None) here (none_here p) ∙ sym (subst (λ t. cell_at (state_of a) t p ≡ None) at (absent_cell (state_of a) index p (absent still lone)))

    at_directory : (x : Row) (index : ℕ) → Contains rows x → LeavesEntry a b thread c (below (levels (state_of a)) x.place index)
    at_directory x index has = subst (λ (p : Place). LeavesEntry a b thread c (below (levels (state_of a)) p index)) (sym (only_directory x has)) (leaves index)

    so : LinkedSoFar a b thread c kit 0 v rows v rows
    so = started a b thread c v rows kit ready done further

    staged : Staged a b thread c kit v v rows rows
    staged = ended a b thread c kit 0 v rows v rows so (λ q there. so.left q (left q there).0 there)

    pub exited : (kit' : Kit) → HasRoom kit' → IsIdle kit' → IsUngranted kit' → (kit'.second_frames.items ≡ []) × (kit'.second_slots.items ≡ []) → Applied b thread c v v rows kit kit'
    exited kit' room idle ungranted seconds = applied a b thread c kit is_commit v v rows rows staged
        (λ x index has inside. high_untaken x.place index (let top = ap (λ (p : Place). p.level) (only_directory x has) in omega (arith, top)))
        (λ x index has inside. at_directory x index has)
        kit' (ap is_store exits) room idle ungranted seconds
