-- A plan of an access, in the page map's words.
use Rattle.std.specs.Prelude.{◌≡◌, ℕ, suc, ◌<◌, ◌&&◌, Bool, true, false, List, [], ◌∷◌, length, slice_index_or, is_some, IsNone, Option, Some, None}
use Rattle.std.specs.Option.{option_map_or, option_or}
use Rattle.std.specs.List.{AllZip, filter}
use Rattle.std.specs.FinMap as fin
use Rattle.std.proofs.Common.{sym, refl, ◌∙◌, ap, subst, arith}
use Rattle.std.proofs.lemmas.Bool.{eq-eqb}
use Rattle.corten_base.specs.declared.calls.Call.{Call}
use Rattle.corten_base.specs.declared.calls.Call.TheVariants as call
use Rattle.corten_base.specs.declared.calls.Reply.{Reply}
use Rattle.corten_base.specs.declared.calls.Reply.TheVariants as reply
use Rattle.counted_pages.specs.Pages.{PageCounts}
use Rattle.page_map.specs.Access.{first_page, page_count, outside_user_pages, refused_access}
use Rattle.page_map.specs.Cell.{frame_of, slot_of}
use Rattle.page_map.specs.Effect.{space_of, access_of as access_in}
use Rattle.page_map.specs.State.{State, levels, space_at, is_present}
use Rattle.page_map.specs.Step.{arguments, refused_unless}
use Rattle.page_map.proofs.Owners.{same_some}
use Rattle.table_place.specs.Range.{within}
use Rattle.machine_plan.specs.declared.kit.Kit.{Kit}
use Rattle.machine_plan.specs.Books.{BookData, state_of}
use Rattle.machine_plan.specs.Cover.{HasCover}
use Rattle.machine_plan.specs.Held.{ListHolds}
use Rattle.machine_plan.specs.HeldRows.{Row, AreAsked}
use Rattle.machine_plan.specs.Kits.{HasLists, IsServed, IsPlanned, Seconds, Refs, AreBacked, AreReady}
use Rattle.machine_plan.specs.Moving.{HasPieces}
use Rattle.machine_plan.specs.Uses.{access_want, wants_in, wants_of, uses_page, used_cells, refs_of, changes_of, early_refusal, zone_of}
use Rattle.range_cursor.specs.Reach.{Reach, IsReach, access_of, reach_of, touched, Sees, early_of, early_at}
use Rattle.range_cursor.specs.Drawing.{reaches, IsDrawnRow}
use Rattle.range_cursor.specs.Plans.{PlansAccess, is_fork, IsPlannable, Needs, Plans}
use Rattle.range_cursor.proofs.Refusals.{are_asked}
use Rattle.range_cursor.proofs.Wanting.{frames_shown, slots_shown, frames_backed, slots_backed}

-- what the page map makes of an access
pub record IsAccess (thread : ℕ) (c : Call) (r : Reach) : Type 0 where
  pub space_is : space_of c ≡ Some r.space
  pub arguments_are : (st : State) → levels st ≡ r.levels → arguments st c ≡ outside_user_pages r.levels (access_of r)
  pub early_is : (st : State) → levels st ≡ r.levels → early_refusal st thread c ≡ early_of st r
  pub zone_is : zone_of thread c ≡ touched r
  pub uses : (st : State) (s page : ℕ) → uses_page st thread c s page ≡ reaches r.space (first_page (access_of r)) (page_count (access_of r)) s page
  pub wants : (st : State) → wants_of st c ≡ wants_in (space_at st r.space) (first_page (access_of r)) (page_count (access_of r)) (access_want r.write)
  pub changes : (st : State) → changes_of st thread c ≡ []
  pub ready : (counts : PageCounts) (refs : Refs) (seconds : Seconds) → AreBacked counts refs → seconds ≡ [] → AreReady c counts refs seconds
  pub no_fork : is_fork c ≡ false
  pub same_lists : (kit kit' : Kit) → kit'.bytes ≡ kit.bytes → kit'.copy ≡ kit.copy → HasLists c kit → HasLists c kit'

module _ (thread depth : ℕ) where
  load_is : (space at len : ℕ) → IsAccess thread (call.Load space at len) (record { levels = depth; space = space; at = at; len = len; write = false })
  unfolding wants_of changes_of
  load_is space at len = record {
    space_is = refl;
    arguments_are = λ st same. ap (λ l. outside_user_pages l (record { at = at; len = len; write = false; stored = [] })) same;
    early_is = λ st same. ap (λ l. early_at l (record { levels = depth; space = space; at = at; len = len; write = false }) st) same;
    zone_is = refl;
    uses = λ st s page. refl;
    wants = λ st. refl;
    changes = λ st. refl;
    ready = λ counts refs seconds backed none. (backed, none);
    no_fork = refl;
    same_lists = λ kit kit' bytes copy lists. ((lists.0.0, bytes ∙ lists.0.1, lists.0.2), (lists.1.0, copy ∙ lists.1.1, lists.1.2));
  }

  store_is : (space at : ℕ) (bytes : List ℕ) → IsAccess thread (call.Store space at bytes) (record { levels = depth; space = space; at = at; len = length bytes; write = true })
  unfolding wants_of changes_of
  store_is space at bytes = record {
    space_is = refl;
    arguments_are = λ st same. ap (λ l. outside_user_pages l (record { at = at; len = length bytes; write = true; stored = bytes })) same;
    early_is = λ st same. ap (λ l. early_at l (record { levels = depth; space = space; at = at; len = length bytes; write = true }) st) same;
    zone_is = refl;
    uses = λ st s page. refl;
    wants = λ st. refl;
    changes = λ st. refl;
    ready = λ counts refs seconds backed none. (backed, none);
    no_fork = refl;
    same_lists = λ kit kit' bytes copy lists. tt;
  }

  fault_is : (space at : ℕ) (write : Bool) → IsAccess thread (call.Fault space at write) (record { levels = depth; space = space; at = at; len = 1; write = write })
  unfolding wants_of changes_of
  fault_is space at write = record {
    space_is = refl;
    arguments_are = λ st same. ap (λ l. outside_user_pages l (record { at = at; len = 1; write = write; stored = [] })) same;
    early_is = λ st same. ap (λ l. early_at l (record { levels = depth; space = space; at = at; len = 1; write = write }) st) same;
    zone_is = refl;
    uses = λ st s page. refl;
    wants = λ st. refl;
    changes = λ st. refl;
    ready = λ counts refs seconds backed none. (backed, none);
    no_fork = refl;
    same_lists = λ kit kit' bytes copy lists. tt;
  }

  pub access_is : (c : Call) (r : Reach) → Some r ≡ reach_of depth c → IsAccess thread c r
  access_is (call.Load space at len) r e = subst (IsAccess thread (call.Load space at len)) (sym (same_some e)) (load_is space at len)
  access_is (call.Store space at bytes) r e = subst (IsAccess thread (call.Store space at bytes)) (sym (same_some e)) (store_is space at bytes)
  access_is (call.Fault space at write) r e = subst (IsAccess thread (call.Fault space at write)) (sym (same_some e)) (fault_is space at write)
  access_is (call.Map space where_to len perm what) r e = absurd (cc e)
  access_is (call.Unmap space at len) r e = absurd (cc e)
  access_is (call.Protect space at len perm) r e = absurd (cc e)
  access_is call.Spawn r e = absurd (cc e)
  access_is (call.Fork space) r e = absurd (cc e)
  access_is (call.Exit space) r e = absurd (cc e)
  access_is (call.SwapOut space at len) r e = absurd (cc e)
  access_is (call.SwapIn space at len) r e = absurd (cc e)
  access_is (call.Txn space at len ops) r e = absurd (cc e)
  access_is (call.DontNeed space at len) r e = absurd (cc e)
  access_is (call.Remap space at old_len new_len) r e = absurd (cc e)

  pub reach_levels : (c : Call) (r : Reach) → Some r ≡ reach_of depth c → r.levels ≡ depth
  reach_levels (call.Load space at len) r e = ap (λ (x : Reach). x.levels) (same_some e)
  reach_levels (call.Store space at bytes) r e = ap (λ (x : Reach). x.levels) (same_some e)
  reach_levels (call.Fault space at write) r e = ap (λ (x : Reach). x.levels) (same_some e)
  reach_levels (call.Map space where_to len perm what) r e = absurd (cc e)
  reach_levels (call.Unmap space at len) r e = absurd (cc e)
  reach_levels (call.Protect space at len perm) r e = absurd (cc e)
  reach_levels call.Spawn r e = absurd (cc e)
  reach_levels (call.Fork space) r e = absurd (cc e)
  reach_levels (call.Exit space) r e = absurd (cc e)
  reach_levels (call.SwapOut space at len) r e = absurd (cc e)
  reach_levels (call.SwapIn space at len) r e = absurd (cc e)
  reach_levels (call.Txn space at len ops) r e = absurd (cc e)
  reach_levels (call.DontNeed space at len) r e = absurd (cc e)
  reach_levels (call.Remap space at old_len new_len) r e = absurd (cc e)

  -- a call has a reach where it makes an access
  pub reach_none : (c : Call) → None ≡ reach_of depth c → access_in c ≡ None
  reach_none (call.Load space at len) e = absurd (cc e)
  reach_none (call.Store space at bytes) e = absurd (cc e)
  reach_none (call.Fault space at write) e = absurd (cc e)
  reach_none (call.Map space where_to len perm what) e = refl
  reach_none (call.Unmap space at len) e = refl
  reach_none (call.Protect space at len perm) e = refl
  reach_none call.Spawn e = refl
  reach_none (call.Fork space) e = refl
  reach_none (call.Exit space) e = refl
  reach_none (call.SwapOut space at len) e = refl
  reach_none (call.SwapIn space at len) e = refl
  reach_none (call.Txn space at len ops) e = refl
  reach_none (call.DontNeed space at len) e = refl
  reach_none (call.Remap space at old_len new_len) e = refl

  pub reach_some : (c : Call) (r : Reach) → Some r ≡ reach_of depth c → is_some (access_in c) ≡ true
  reach_some (call.Load space at len) r e = refl
  reach_some (call.Store space at bytes) r e = refl
  reach_some (call.Fault space at write) r e = refl
  reach_some (call.Map space where_to len perm what) r e = absurd (cc e)
  reach_some (call.Unmap space at len) r e = absurd (cc e)
  reach_some (call.Protect space at len perm) r e = absurd (cc e)
  reach_some call.Spawn r e = absurd (cc e)
  reach_some (call.Fork space) r e = absurd (cc e)
  reach_some (call.Exit space) r e = absurd (cc e)
  reach_some (call.SwapOut space at len) r e = absurd (cc e)
  reach_some (call.SwapIn space at len) r e = absurd (cc e)
  reach_some (call.Txn space at len ops) r e = absurd (cc e)
  reach_some (call.DontNeed space at len) r e = absurd (cc e)
  reach_some (call.Remap space at old_len new_len) r e = absurd (cc e)

-- where nothing refuses early, the pages are user pages and the space is there
first_none : (st : State) (r : Reach) → early_of st r ≡ None → outside_user_pages r.levels (access_of r) ≡ None
first_none st r e = go (outside_user_pages r.levels (access_of r)) refl e
  where
    rest : Option Reply
    rest = option_or (refused_unless (is_present st r.space) reply.NoSpace) (option_or None (option_or None (option_or (refused_access st.files (space_at st r.space) (access_of r)) None)))

    go : (o : Option Reply) → outside_user_pages r.levels (access_of r) ≡ o → option_or o rest ≡ None → o ≡ None
    go None is e = refl
    go (Some x) is e = absurd (cc e)

space_there : (st : State) (r : Reach) → early_of st r ≡ None → is_present st r.space ≡ true
space_there st r e = go (is_present st r.space) refl (sym (ap (λ o. option_or o rest) (first_none st r e)) ∙ e)
  where
    rest : Option Reply
    rest = option_or (refused_unless (is_present st r.space) reply.NoSpace) (option_or None (option_or None (option_or (refused_access st.files (space_at st r.space) (access_of r)) None)))

    last : Option Reply
    last = option_or None (option_or None (option_or (refused_access st.files (space_at st r.space) (access_of r)) None))

    go : (p : Bool) → is_present st r.space ≡ p → option_or None rest ≡ None → is_present st r.space ≡ true
    go true is h = is
    go false is h = absurd (not_none (sym (ap (λ b. option_or (refused_unless b reply.NoSpace) last) is) ∙ h))
      where
        not_none : ◌≡◌ {A = Option Reply} (Some reply.NoSpace) None → ⊥
        not_none e = cc e

none_of : {A : Type 0} (o : Option A) → IsNone o → o ≡ None
none_of None h = refl
none_of (Some x) h = absurd (cc h)

pub zip_of : (R : Row → Row → Type 0) (xs ys : List Row) → length ys ≡ length xs → ((k : ℕ) (d : Row) → k < length xs → R (slice_index_or xs k d) (slice_index_or ys k d)) → AllZip R xs ys
zip_of R [] [] e each = tt
zip_of R [] (y ∷ ys) e each = absurd (omega (arith, e))
zip_of R (x ∷ xs) [] e each = absurd (omega (arith, e))
zip_of R (x ∷ xs) (y ∷ ys) e each = (each 0 x (omega arith), zip_of R xs ys (omega (arith, e)) (λ k d h. each (suc k) d (omega (arith, h))))

module _ (b : BookData) (thread : ℕ) (c : Call) (r : Reach) (needed depth : ℕ) (reach : IsReach r) (is : IsAccess thread c r) (deep : r.levels ≡ depth) (served : IsServed c) (files : List (List ℕ)) (rows rows' : List Row) (kit kit' : Kit)
    (may : IsPlannable b thread c depth files rows kit) (needs : Needs b thread c needed) (did : PlansAccess r needed files rows kit rows' kit') where
  st : State
  st = state_of b

  same : levels (state_of b) ≡ r.levels
  same = may.same_levels ∙ sym deep

  sees : Sees (state_of b) r rows
  sees = record {
    consistent = may.consistent;
    same_levels = same;
    shown = may.shown;
    cover = λ none. subst (λ z. HasCover z (state_of b) (ListHolds rows)) is.zone_is (may.cover (ap is_some (is.arguments_are (state_of b) same) ∙ none));
    one_space = may.one_space r.space is.space_is;
  }

  early : kit'.early ≡ early_of (state_of b) r
  early = did.early (state_of b) sees may.same_files

  early_page_map : kit'.early ≡ early_refusal (state_of b) thread c
  early_page_map = early ∙ sym (is.early_is (state_of b) same)

  asked : IsNone kit'.early → AreAsked r.space rows (first_page (access_of r)) (page_count (access_of r))
  asked none =
      let no : early_of (state_of b) r ≡ None = sym early ∙ none_of kit'.early none in
      are_asked (state_of b) r rows sees reach (first_none (state_of b) r no) (space_there (state_of b) r no)

  used : used_cells (state_of b) (state_of b) thread c ≡ filter (λ e. within (first_page (access_of r)) (page_count (access_of r)) e.0) (fin.entries (space_at (state_of b) r.space))
  used =
      ap (λ o. option_map_or (λ s. filter (λ e. uses_page (state_of b) thread c s e.0) (fin.entries (space_at (state_of b) s))) o []) is.space_is
      ∙ (λ i. filter (λ e. (is.uses (state_of b) r.space e.0 ∙ ap (λ t. t && within (first_page (access_of r)) (page_count (access_of r)) e.0) (eq-eqb r.space r.space refl)) i) (fin.entries (space_at (state_of b) r.space)))

  planned : IsNone kit'.early → IsPlanned b thread c kit'
  planned none =
      let draws = did.draws none in
      let backed = may.backed is.no_fork in
      let no_seconds = may.no_seconds is.no_fork in
      record {
        rows = ap (λ (k : Kit). k.rows_needed) did.kit_is ∙ needs (ap is_some (sym early_page_map) ∙ none);
        wants = did.wants none (state_of b) (asked none) may.shown ∙ sym (is.wants (state_of b));
        frames = frames_shown (state_of b) may.consistent r.space rows may.shown _ _ _ (asked none) draws.frames_are ∙ ap (refs_of frame_of) (sym used);
        slots = slots_shown (state_of b) may.consistent r.space rows may.shown _ _ _ (asked none) draws.slots_are ∙ ap (refs_of slot_of) (sym used);
        frames_ready = is.ready b.frames _ _ (frames_backed b r.space rows backed _ _ _ draws.frames_are) (ap (λ (k : Kit). k.second_frames.items) did.kit_is ∙ no_seconds.0);
        slots_ready = is.ready b.slots _ _ (slots_backed b r.space rows backed _ _ _ draws.slots_are) (ap (λ (k : Kit). k.second_slots.items) did.kit_is ∙ no_seconds.1);
        changes = did.changes none ∙ sym (is.changes (state_of b));
        pieces = subst (HasPieces (state_of b) thread c) (sym (did.kept none)) (may.pieces (ap is_some (sym early_page_map) ∙ none));
      }

  pub plans : Plans b thread c rows kit rows' kit'
  plans = record {
    filled = record {
      room = did.room;
      few = did.few;
      ungranted = record {
        frames = ap (λ (k : Kit). k.frames.items) did.kit_is ∙ may.ungranted.frames;
        slots = ap (λ (k : Kit). k.slots.items) did.kit_is ∙ may.ungranted.slots;
        rows = ap (λ (k : Kit). k.rows.items) did.kit_is ∙ may.ungranted.rows;
        gone = ap (λ (k : Kit). k.gone.items) did.kit_is ∙ may.ungranted.gone;
        not_done = ap (λ (k : Kit). k.done) did.kit_is ∙ may.ungranted.not_done;
      };
      served = served;
      lists = is.same_lists kit kit' (ap (λ (k : Kit). k.bytes) did.kit_is) (ap (λ (k : Kit). k.copy) did.kit_is) may.lists;
      early = early_page_map;
      planned = planned;
      refused = did.idle;
      unmoved = did.unmoved;
    };
    drawn = λ none.
        let draws = did.draws none in
        subst (λ (uses : ℕ → ℕ → Bool). AllZip (IsDrawnRow uses) rows rows') (λ i s page. sym (is.uses (state_of b) s page) i)
        (zip_of (IsDrawnRow (reaches r.space (first_page (access_of r)) (page_count (access_of r)))) rows rows' draws.drawn.as_many draws.drawn.each);
    untouched = did.untouched;
  }
