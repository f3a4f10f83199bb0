-- An access to a space that is present: what it may rely on, and what it leaves.
use Rattle.std.proofs.Common.{◌≡◌, ℕ, ◌<◌, ◌≤◌, Bool, true, List, [], length, refl, sym, ap, subst, ◌∙◌, arith}
use Rattle.std.specs.Prelude.{Some, None, Result, IfOk, IfSome, IsSome, is_some, slice_index}
use Rattle.std.specs.declared.alloc.AllocError.{AllocError}
use Rattle.std.specs.Option.{unwrap_or}
use Rattle.std.specs.FinMap as fin
use Rattle.std.specs.FinMap.{get}
use Rattle.std.specs.FinSet as set
use Rattle.corten_base.specs.declared.calls.Call.{Call}
use Rattle.corten_base.specs.declared.calls.Reply.{Reply}
use Rattle.corten_base.specs.declared.calls.Reply.TheVariants as reply
use Rattle.page_map.specs.declared.cell.Cell.{Cell}
use Rattle.page_map.specs.declared.cell.Cell.TheVariants.{Anon, File, Mapped, Swapped}
use Rattle.page_map.specs.Change.{keys_in}
use Rattle.table_place.specs.declared.Place.{Place}
use Rattle.page_map.specs.Alike.{unlike_tables}
use Rattle.page_map.specs.State.{State, AddressSpace, IsConsistent, frame_owners, is_present, levels, space_at, unused_frames}
use Rattle.page_map.specs.Tables.{Tables, missing}
use Rattle.page_map.specs.Takes.{grant}
use Rattle.page_map.specs.Access.{Access, first_page, page_count, outside_user_pages, refused_access, wants_frame, wanting_frames, after_access, loaded}
use Rattle.page_map.specs.Effect.{answer}
use Rattle.page_map.specs.Step.{step}
use Rattle.page_map.proofs.NeedOf.{access_lack}
use Rattle.page_map.proofs.Places.{place_total, place_exact}
use Rattle.page_map.proofs.StepKeeps.{step_keeps}
use Rattle.plain_counts.specs.declared.counts.Counts.{Counts}
use Rattle.plain_counts.specs.Owners.{unused_of}
use Rattle.plain_counts.proofs.Missing.{all_there}
use Rattle.plain_spaces.specs.Reach.{above_pages, making, wants, wanting, last_page, IsResident, Makes}
use Rattle.plain_spaces.specs.Wants.{refusal_of, IsPlan}
use Rattle.plain_spaces.specs.declared.access.Stop.{Stop}
use Rattle.plain_spaces.specs.declared.access.Stop.TheVariants.{Refused, NoMemory}
use Rattle.plain_spaces.specs.declared.plan.Plan.{Plan}
use Rattle.plain_spaces.proofs.Made.{brought_after, brought_resident, loaded_brought}
use Rattle.plain_spaces.proofs.Reach.{here_first, here_last}
use Rattle.mm_model.specs.Accesses.{IsAccess, IsAllowed, IsReady, after_reach, reached_cells}
use Rattle.mm_model.specs.Steps.{IsStepBeside, Refuses}
use Rattle.mm_model.specs.Lacking.{stopped, tables_lack}
use Rattle.mm_model.specs.Plain.{IsSound}
use Rattle.mm_model.proofs.AccessSteps.{page_there, pages_there, none_lacked, refused_pages, refused_tables, refused_frames, step_made, step_refused}
use Rattle.mm_model.proofs.Full.{full_stays, change_stays}
use Rattle.mm_model.proofs.Kept.{frames_are, free_frames, cells_here, whole_here, stays_sound}
use Rattle.mm_model.proofs.NewSpaces.{get_inserted}

-- a page wants a frame by the owners of frames
same_wants : (st : State) (write : Bool) (c : Cell) → wants (frame_owners st) write c ≡ wants_frame st write c
same_wants st write (Anon perm) = refl
same_wants st write (File perm file index) = refl
same_wants st write (Mapped perm origin frame bytes) = refl
same_wants st write (Swapped perm origin slot bytes) = refl

module _ (st : State) (counts : Counts) (fronts : List ℕ) (sound : IsSound st counts fronts) (space : ℕ) (cells : AddressSpace) (here : get st.spaces space ≡ Some cells) where
  wanting_is : (a : Access) → wanting (slice_index counts.frames) cells a ≡ wanting_frames st (space_at st space) a
  wanting_is a =
      (λ i. wanting (frames_are st counts fronts sound i) (sym (cells_here st counts fronts sound space cells here) i) a)
      ∙ (λ i. keys_in (space_at st space) (first_page a) (page_count a) (λ c. same_wants st a.write c i))

  module _ (a : Access) (user : outside_user_pages (levels st) a ≡ None) where
    pages_are : refused_access st.files cells a ≡ refused_access st.files (space_at st space) a
    pages_are = ap (λ m. refused_access st.files m a) (sym (cells_here st counts fronts sound space cells here))

    -- where its pages want no frame, no table above them is missing
    pub none_missing : refused_access st.files cells a ≡ None → length (wanting (slice_index counts.frames) cells a) ≡ 0 → missing (above_pages (levels st) space a) st.tables ≡ set.empty
    none_missing pass none =
        none_lacked st space a (slice_index counts.frames) sound.state (sym pages_are ∙ pass)
        (ap (λ m. length (wanting (slice_index counts.frames) m a)) (cells_here st counts fronts sound space cells here) ∙ none)

    pub stops_pages : (r : Reply) → refused_access st.files cells a ≡ Some r → (limbo : ℕ) (stored : List ℕ) (c : Call) → IsAccess st c space (making a stored) → Refuses st limbo c r
    stops_pages r e limbo stored c is = refused_pages st c space (making a stored) is limbo user (ap is_some here) r (sym pages_are ∙ e)

    pub stops_tables : refused_access st.files cells a ≡ None → (limbo : ℕ) (r : Reply) → tables_lack st (above_pages (levels st) space a) limbo ≡ Some r →
        (stored : List ℕ) (c : Call) → IsAccess st c space (making a stored) → Refuses st limbo c r
    stops_tables pass limbo r e stored c is = refused_tables st c space (making a stored) is limbo user (ap is_some here) sound.state (sym pages_are ∙ pass) r e

    module _ (pass : refused_access st.files cells a ≡ None) (free need : ℕ) (free_is : free ≡ length (unused_of counts.frames)) (need_is : need ≡ length (wanting (slice_index counts.frames) cells a)) where
      free_here : free ≡ length (unused_frames st)
      free_here = free_is ∙ ap length (free_frames st counts fronts sound)

      need_here : need ≡ length (wanting_frames st (space_at st space) a)
      need_here = need_is ∙ ap length (wanting_is a)

      module _ (limbo : ℕ) (room : tables_lack st (above_pages (levels st) space a) limbo ≡ None) where
        pub stops_frames : free < need → (stored : List ℕ) (c : Call) → IsAccess st c space (making a stored) → Refuses st limbo c (reply.NoFrames free need)
        stops_frames less stored c is =
            subst (Refuses st limbo c) (λ i. reply.NoFrames (sym free_here i) (sym need_here i))
            (refused_frames st c space (making a stored) is limbo user (ap is_some here) sound.state (sym pages_are ∙ pass) room (omega (arith, less, free_here, need_here)))

        pub is_allowed : need ≤ free → IsAllowed st space limbo a
        is_allowed enough = record {
          facts = sound.state;
          user = user;
          present = ap is_some here;
          pages = sym pages_are ∙ pass;
          tables = room;
          frames = omega (arith, enough, free_here, need_here);
        }

  -- what a plan says by the counts and by the state
  pub plan_is : (plan : Plan) → IsPlan st.files cells (slice_index counts.frames) plan → IsPlan st.files (space_at st space) (frame_owners st) plan
  plan_is plan h = subst (λ (x : AddressSpace × (ℕ → ℕ)). IsPlan st.files x.0 x.1 plan) (λ i. (sym (cells_here st counts fronts sound space cells here) i, frames_are st counts fronts sound i)) h

  module _ (limbo : ℕ) (plan : Plan) (lacked : List Place) (ready : IsReady st space limbo plan lacked) where
    pub planned_here : IsPlan st.files cells (slice_index counts.frames) plan
    planned_here = subst (λ (x : AddressSpace × (ℕ → ℕ)). IsPlan st.files x.0 x.1 plan) (λ i. (cells_here st counts fronts sound space cells here i, sym (frames_are st counts fronts sound) i)) ready.planned

    pub enough_here : length (wanting (slice_index counts.frames) cells plan.access) ≤ length (unused_of counts.frames)
    enough_here = omega (arith, ready.allowed.frames, ap length (wanting_is plan.access), ap length (free_frames st counts fronts sound))

    module _ (stored : List ℕ) (cells' : AddressSpace) (counts' : Counts) (m : Makes st.files (making plan.access stored) cells cells' counts counts') where
      abbrev a : Access
      a = making plan.access stored

      same_cells : cells' ≡ reached_cells st space a
      same_cells = m.cells_are ∙ (λ i. after_access st.files (grant (wanting_is a i) (free_frames st counts fronts sound i)) a (sym (cells_here st counts fronts sound space cells here) i))

      -- the tables that come are those that are wanted
      come : set.union st.tables (set.from_list lacked) ≡ set.union st.tables (set.from_list (unlike_tables (levels st) space (reached_cells st space a)))
      come =
          ap (set.union st.tables) (ready.lists.same ∙ sym (access_lack st space (grant (wanting_frames st (space_at st space) a) (unused_frames st)) a sound.state (pages_there st space plan.access ready.allowed.pages)))
          ∙ all_there place_total place_exact st.tables (unlike_tables (levels st) space (reached_cells st space a))

      module _ (tables' : Tables) (put : tables' ≡ set.union st.tables (set.from_list lacked)) where
        abbrev next : State
        next = record st { spaces = fin.insert st.spaces space cells'; tables = tables' }

        pub reached : next ≡ after_reach st space a
        reached = λ i. record st { spaces = fin.insert st.spaces space (same_cells i); tables = (put ∙ come) i }

      pages_stay : (q : ℕ) → IsSome (get cells q) → IsSome (get cells' q)
      unfolding after_access
      pages_stay q there = subst (λ new. IsSome (get new q)) (sym m.cells_are) (change_stays cells (first_page a) (page_count a) _ (λ _ _. refl) q there)

      -- some call makes the access
      pub reach_sound : (tables' : Tables) → tables' ≡ set.union st.tables (set.from_list lacked) → (c : Call) → IsAccess st c space a → IsSound (record st { spaces = fin.insert st.spaces space cells'; tables = tables' }) counts' fronts
      reach_sound tables' put c is =
          let allowed : IsAllowed st space limbo a =
          record { facts = ready.allowed.facts; user = ready.allowed.user; present = ready.allowed.present; pages = ready.allowed.pages; tables = ready.allowed.tables; frames = ready.allowed.frames } in
          let made = step_made st c space a is 0 limbo allowed (next tables' put) (reached tables' put) (answer st 0 c) refl in
          stays_sound st counts fronts sound space cells here cells' tables' counts' fronts m.counts_follow
          (subst IsConsistent (sym (ap (λ p. p.1) made)) (step_keeps st 0 limbo c (omega arith) sound.state))
          (full_stays st space cells cells' tables' fronts here pages_stay sound.full)

      -- where nothing is stored, the pages have frames afterwards
      pub reach_resident : stored ≡ [] → IsResident cells' plan.access
      reach_resident none =
          let grants = grant (wanting (slice_index counts.frames) cells a) (unused_of counts.frames) in
          let some = planned_here.user.some in
          let few = planned_here.user.few in
          let there = page_there st.files cells plan.access (ap (λ n. refused_access st.files n plan.access) (sym (cells_here st counts fronts sound space cells here)) ∙ ready.allowed.pages) in
          subst (λ n. IsResident n plan.access) (brought_after st.files cells a grants none ∙ sym m.cells_are)
          (brought_resident st.files cells plan.access grants some few (whole_here st counts fronts sound space cells here)
          (there (first_page plan.access) (here_first plan.access some few)) (λ _. there (last_page plan.access) (here_last plan.access some few)))

-- nothing is stored, and the bytes stay
pub loaded_stays : (st : State) (space : ℕ) (a : Access) → a.stored ≡ [] → loaded st.files (space_at (after_reach st space a) space) a ≡ loaded st.files (space_at st space) a
loaded_stays st space a none =
    let grants = grant (wanting_frames st (space_at st space) a) (unused_frames st) in
    ap (λ o. loaded st.files (unwrap_or o fin.empty) a) (get_inserted st.spaces space (after_access st.files grants a (space_at st space)))
    ∙ ap (λ m. loaded st.files m a) (sym (brought_after st.files (space_at st space) a grants none))
    ∙ loaded_brought st.files (space_at st space) a grants

-- the space is there afterwards
pub reach_present : (st : State) (space : ℕ) (a : Access) → is_present (after_reach st space a) space ≡ true
reach_present st space a =
    ap is_some (get_inserted st.spaces space (after_access st.files (grant (wanting_frames st (space_at st space) a) (unused_frames st)) a (space_at st space)))

-- The step of a call that makes an access, under its own name.
module _ (st st' : State) (limbo : ℕ) (c named : Call) (name : c ≡ named) (space : ℕ) (a : Access) (is : IsAccess st c space a) where
  pub made_named : IsAllowed st space limbo a → st' ≡ after_reach st space a → (r : Reply) → ((thread : ℕ) → r ≡ answer st thread c) → IsStepBeside limbo st st' named r
  made_named allowed after r says thread = step_made st c space a is thread limbo allowed st' after r (says thread) ∙ ap (λ c. step st thread c limbo) name

  -- without memory there is none
  pub stopped_named : (stop : Stop) → IfSome (refusal_of stop) (λ r. (c : Call) → IsAccess st c space a → Refuses st limbo c r) → st' ≡ st → (outcome : Result Reply AllocError) → outcome ≡ stopped stop →
      IfOk outcome (IsStepBeside limbo st st' named)
  stopped_named stop h same outcome outcome_is = subst (λ o. IfOk o (IsStepBeside limbo st st' named)) (sym outcome_is) (go stop h)
    where
      go : (stop : Stop) → IfSome (refusal_of stop) (λ r. (c : Call) → IsAccess st c space a → Refuses st limbo c r) → IfOk (stopped stop) (IsStepBeside limbo st st' named)
      go (Refused r) h = λ thread. step_refused st c space a is thread limbo r (h c is) st' same ∙ ap (λ c. step st thread c limbo) name
      go NoMemory h = tt
