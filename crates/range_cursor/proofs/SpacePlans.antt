-- Plans of calls that make, copy or remove a space.
--     user_within      the user pages
--     space_knows, space_asked      what the rows of a space tell
--     exit_refused, exit_granted      a space that is removed
--     fork_absent, fork_full, fork_granted      one that is copied
--     spawn_full, spawn_granted      one that is made
use Rattle.std.specs.Prelude.{◌≡◌, ℕ, ◌+◌, ◌-◌, ◌*◌, ◌^◌, ◌≤◌, ◌&&◌, cond, Bool, true, false, List, [], ◌∷◌, length, nat_eq, is_some, Option, Some, None}
use Rattle.std.specs.Option.{option_or, unwrap_or}
use Rattle.std.specs.List.{AllZip, filter}
use Rattle.std.specs.FinMap as fin
use Rattle.std.proofs.Common.{sym, refl, ◌∙◌, ap, subst, arith, pow_mono, inl}
use Rattle.std.proofs.lemmas.Bool.{eq-eqb, false≢true, and_from, le-leb, lt-ltb}
use Rattle.corten_base.specs.declared.calls.Call.TheVariants as call
use Rattle.corten_base.specs.declared.calls.Reply.{Reply}
use Rattle.corten_base.specs.declared.calls.Reply.TheVariants as reply
use Rattle.page_map.specs.declared.cell.Cell.{Cell}
use Rattle.page_map.specs.State.{State, IsConsistent, levels, space_at, cell_at, is_present}
use Rattle.page_map.specs.Spaces.{least_absent}
use Rattle.page_map.specs.Step.{refused_unless}
use Rattle.page_map.proofs.Range.{inside}
use Rattle.table_place.specs.Place.{is_user_page, directory}
use Rattle.table_place.specs.Range.{within}
use Rattle.table_place.proofs.Spans.{user_first, user_end}
use Rattle.tree_lock.specs.declared.zone.Zone.TheVariants as zone
use Rattle.machine_plan.specs.declared.kit.Kit.{Kit}
use Rattle.machine_plan.specs.declared.kit.Change.TheVariants as change
use Rattle.machine_plan.specs.Books.{BookData, state_of}
use Rattle.machine_plan.specs.Cover.{HasCover}
use Rattle.machine_plan.specs.Held.{ListHolds}
use Rattle.machine_plan.specs.HeldRows.{Row, AreAsked, RowsShown, AreOf}
use Rattle.machine_plan.specs.Kits.{HasRoom, AreSeconds}
use Rattle.machine_plan.specs.Uses.{wants_of, changes_of, early_refusal}
use Rattle.machine_plan.proofs.Telling.{cover_is_asked}
use Rattle.range_cursor.specs.Drawing.{DrawsPages, IsDrawnRow, AreDrawn, reaches}
use Rattle.range_cursor.specs.Plans.{IsPlannable, Needs, Plans, IsFilledBy}
use Rattle.range_cursor.specs.Ranges.{HasFewRefs}
use Rattle.range_cursor.specs.Reach.{KnowsRoot}
use Rattle.range_cursor.specs.Spaces.{KnowsSpaces, user_count}
use Rattle.range_cursor.proofs.Granted.{plan_refused, plan_drawn, frames_are_ready, slots_are_ready}
use Rattle.range_cursor.proofs.Present.{root_there}
use Rattle.range_cursor.proofs.Ranges.{reached_page}
use Rattle.range_cursor.proofs.Refusals.{is_within}
use Rattle.range_cursor.proofs.Planned.{zip_of}
use Rattle.range_cursor.proofs.Taken.{none_drawn}
use Rattle.range_cursor.proofs.Wider.{used_same, drawn_wider}

-- the user pages
many : (depth : ℕ) → 4 ≤ depth → 17 ≤ 2 ^ (9 * depth - 1)
many depth h = omega (arith, pow_mono (less depth h))
  where
    less : (n : ℕ) → 4 ≤ n → 35 ≤ 9 * n - 1
    less n h = omega (arith, h)

pub user_within : (depth page : ℕ) → is_user_page depth page ≡ true → within 16 (user_count depth) page ≡ true
user_within depth page user = is_within 16 (user_count depth) page (user_first depth page 1 user) (omega (arith, user_first depth page 1 user, user_end depth page 1 user))

pub within_user : (depth page : ℕ) → 4 ≤ depth → within 16 (user_count depth) page ≡ true → is_user_page depth page ≡ true
within_user depth page some h =
    and_from _ _ (le-leb 16 page (inside 16 (user_count depth) page h).0) (lt-ltb (page + 1) (2 ^ (9 * depth - 1)) (omega (arith, many depth some, (inside 16 (user_count depth) page h).1)))

or_none : (o : Option Reply) → option_or o None ≡ o
or_none None = refl
or_none (Some r) = refl

-- all pages of a space that has cells
module _ (st : State) (is : IsConsistent st) (space : ℕ) where
  whole : ℕ → ℕ → Bool
  whole t page = nat_eq t space

  more : (t page : ℕ) → reaches space 16 (user_count (levels st)) t page ≡ true → nat_eq t space ≡ true
  more t page h = eq-eqb t space (reached_page space 16 (user_count (levels st)) t page h).0

  of_cell : (t page : ℕ) (c : Cell) → cell_at st t page ≡ Some c → nat_eq t space ≡ true → reaches space 16 (user_count (levels st)) t page ≡ true
  of_cell t page c there e = λ i. e i && user_within (levels st) page (is.pages t page c there) i

  less : (t page : ℕ) → nat_eq t space ≡ true → reaches space 16 (user_count (levels st)) t page ≡ false → cell_at st t page ≡ None
  less t page e f = go (cell_at st t page) refl
    where
      go : (o : Option Cell) → cell_at st t page ≡ o → cell_at st t page ≡ None
      go None there = there
      go (Some c) there = absurd (false≢true (sym f ∙ of_cell t page c there e))

  pub whole_used : filter (λ (e : ℕ × Cell). nat_eq space space) (fin.entries (space_at st space)) ≡ filter (λ e. within 16 (user_count (levels st)) e.0) (fin.entries (space_at st space))
  whole_used =
      used_same (space_at st space) 16 (user_count (levels st)) (λ page. nat_eq space space) (λ page h. eq-eqb space space refl)
      (λ page c there e. user_within (levels st) page (is.pages space page c there))

  pub whole_drawn : (rows rows' : List Row) → RowsShown st rows → AreDrawn (reaches space 16 (user_count (levels st))) rows rows' → AllZip (IsDrawnRow (λ t page. nat_eq t space)) rows rows'
  whole_drawn rows rows' shown drawn = drawn_wider st is rows shown space 16 (user_count (levels st)) (λ t page. nat_eq t space) more less rows' drawn

  pub whole_asked : (rows : List Row) → RowsShown st rows → AreOf space rows → HasCover (zone.Space space) st (ListHolds rows) → is_present st space ≡ true → AreAsked space rows 16 (user_count (levels st))
  whole_asked rows shown one_space cover there page h =
      cover_is_asked (zone.Space space) st rows space page is shown one_space cover (root_there st space is ∙ there) (within_user (levels st) page is.some_levels h) refl

pub knows_by : (st : State) (space : ℕ) (rows : List Row) → KnowsSpaces st rows → KnowsRoot st space rows
knows_by st space rows knows = record { consistent = knows.consistent; shown = knows.shown; top = λ lone. knows.top }

module _ (b : BookData) (thread depth space needed : ℕ) (files : List (List ℕ)) (rows : List Row) (kit : Kit) where
  exit_early : early_refusal (state_of b) thread (call.Exit space) ≡ refused_unless (is_present (state_of b) space) reply.NoSpace
  exit_early = or_none _

  pub exit_knows : IsPlannable b thread (call.Exit space) depth files rows kit → KnowsSpaces (state_of b) rows
  exit_knows may = record { consistent = may.consistent; shown = may.shown; top = may.cover refl directory (inl refl) }

  pub exit_refused : (kit' : Kit) → IsPlannable b thread (call.Exit space) depth files rows kit → is_present (state_of b) space ≡ false → kit' ≡ record kit { early = Some reply.NoSpace; pieces = kit'.pieces } → kit'.pieces.items ≡ [] → Plans b thread (call.Exit space) rows kit rows kit'
  exit_refused kit' may absent done none = plan_refused b thread (call.Exit space) depth files rows kit may tt reply.NoSpace rows kit' done none (exit_early ∙ ap (λ p. refused_unless p reply.NoSpace) absent) refl

  pub exit_granted : (rows' : List Row) (kit' : Kit) → IsPlannable b thread (call.Exit space) depth files rows kit → Needs b thread (call.Exit space) needed → HasFewRefs rows → is_present (state_of b) space ≡ true → IsFilledBy needed kit kit' → HasRoom kit'
      → DrawsPages space 16 (user_count depth) rows rows' kit'.own_frames.items kit'.own_slots.items → kit'.wants.items ≡ [] → kit'.changes.items ≡ change.Exit ∷ [] → Plans b thread (call.Exit space) rows kit rows' kit'
  unfolding wants_of changes_of
  exit_granted rows' kit' may needs few there done room draws wants changes =
      let n = ap user_count (sym may.same_levels) in
      let draws' = subst (λ m. DrawsPages space 16 m rows rows' kit'.own_frames.items kit'.own_slots.items) n draws in
      let used = whole_used (state_of b) may.consistent space in
      plan_drawn b thread (call.Exit space) depth files rows kit may tt space 16 (user_count (levels (state_of b))) needed few used needs rows' kit' draws' done
      (whole_drawn (state_of b) may.consistent space rows rows' may.shown draws'.drawn)
      (frames_are_ready b thread (call.Exit space) depth files rows kit may tt space 16 (user_count (levels (state_of b))) needed few used needs rows' kit' draws' done refl)
      (slots_are_ready b thread (call.Exit space) depth files rows kit may tt space 16 (user_count (levels (state_of b))) needed few used needs rows' kit' draws' done refl)
      (exit_early ∙ ap (λ p. refused_unless p reply.NoSpace) there)
      (whole_asked (state_of b) may.consistent space rows may.shown (may.one_space space refl) (may.cover refl) there) room (omega (arith, ap length wants)) wants changes

-- a copy, and a new space
module _ (b : BookData) (thread depth space needed : ℕ) (files : List (List ℕ)) (rows : List Row) (kit : Kit) where
  fork_early : early_refusal (state_of b) thread (call.Fork space) ≡ option_or (refused_unless (is_present (state_of b) space) reply.NoSpace) (refused_unless (is_some (least_absent (state_of b))) reply.NoSpaces)
  fork_early = ap (option_or (refused_unless (is_present (state_of b) space) reply.NoSpace)) (or_none (refused_unless (is_some (least_absent (state_of b))) reply.NoSpaces))

  pub fork_knows : IsPlannable b thread (call.Fork space) depth files rows kit → KnowsSpaces (state_of b) rows
  fork_knows may = record { consistent = may.consistent; shown = may.shown; top = may.cover refl directory (inl refl) }

  pub fork_absent : (kit' : Kit) → IsPlannable b thread (call.Fork space) depth files rows kit → is_present (state_of b) space ≡ false → kit' ≡ record kit { early = Some reply.NoSpace; pieces = kit'.pieces } → kit'.pieces.items ≡ [] → Plans b thread (call.Fork space) rows kit rows kit'
  fork_absent kit' may absent done none =
      plan_refused b thread (call.Fork space) depth files rows kit may tt reply.NoSpace rows kit' done none
      (fork_early ∙ ap (λ p. option_or (refused_unless p reply.NoSpace) (refused_unless (is_some (least_absent (state_of b))) reply.NoSpaces)) absent) refl

  pub fork_full : (kit' : Kit) → IsPlannable b thread (call.Fork space) depth files rows kit → is_present (state_of b) space ≡ true → least_absent (state_of b) ≡ None → kit' ≡ record kit { early = Some reply.NoSpaces; pieces = kit'.pieces } → kit'.pieces.items ≡ []
      → Plans b thread (call.Fork space) rows kit rows kit'
  fork_full kit' may there full done none =
      plan_refused b thread (call.Fork space) depth files rows kit may tt reply.NoSpaces rows kit' done none
      (fork_early ∙ (λ i. option_or (refused_unless (there i) reply.NoSpace) (refused_unless (is_some (full i)) reply.NoSpaces))) refl

  pub fork_granted : (new : ℕ) (rows' : List Row) (kit' : Kit) → IsPlannable b thread (call.Fork space) depth files rows kit → Needs b thread (call.Fork space) needed → HasFewRefs rows → is_present (state_of b) space ≡ true → least_absent (state_of b) ≡ Some new
      → IsFilledBy needed kit kit' → HasRoom kit' → DrawsPages space 16 (user_count depth) rows rows' kit'.own_frames.items kit'.own_slots.items → kit'.wants.items ≡ [] → kit'.changes.items ≡ change.Fork new ∷ []
      → Plans b thread (call.Fork space) rows kit rows' kit'
  unfolding wants_of changes_of
  fork_granted new rows' kit' may needs few there free done room draws wants changes =
      let n = ap user_count (sym may.same_levels) in
      let draws' = subst (λ m. DrawsPages space 16 m rows rows' kit'.own_frames.items kit'.own_slots.items) n draws in
      let used = whole_used (state_of b) may.consistent space in
      let seconds = may.seconds space refl in
      plan_drawn b thread (call.Fork space) depth files rows kit may tt space 16 (user_count (levels (state_of b))) needed few used needs rows' kit' draws' done
      (whole_drawn (state_of b) may.consistent space rows rows' may.shown draws'.drawn)
      (subst (AreSeconds b.frames kit'.own_frames.items) (sym (ap (λ (k : Kit). k.second_frames.items) done)) (seconds.frames kit'.own_frames.items draws.frames_are))
      (subst (AreSeconds b.slots kit'.own_slots.items) (sym (ap (λ (k : Kit). k.second_slots.items) done)) (seconds.slots kit'.own_slots.items draws.slots_are))
      (fork_early ∙ (λ i. option_or (refused_unless (there i) reply.NoSpace) (refused_unless (is_some (free i)) reply.NoSpaces)))
      (whole_asked (state_of b) may.consistent space rows may.shown (may.one_space space refl) (may.cover refl) there) room (omega (arith, ap length wants)) wants
      (changes ∙ ap (λ o. change.Fork (unwrap_or o 0) ∷ []) (sym free))

module _ (b : BookData) (thread depth needed : ℕ) (files : List (List ℕ)) (rows : List Row) (kit : Kit) where
  spawn_early : early_refusal (state_of b) thread call.Spawn ≡ refused_unless (is_some (least_absent (state_of b))) reply.NoSpaces
  spawn_early = or_none _

  pub spawn_knows : IsPlannable b thread call.Spawn depth files rows kit → KnowsSpaces (state_of b) rows
  spawn_knows may = record { consistent = may.consistent; shown = may.shown; top = may.cover refl directory refl }

  pub spawn_full : (kit' : Kit) → IsPlannable b thread call.Spawn depth files rows kit → least_absent (state_of b) ≡ None → kit' ≡ record kit { early = Some reply.NoSpaces; pieces = kit'.pieces } → kit'.pieces.items ≡ [] → Plans b thread call.Spawn rows kit rows kit'
  spawn_full kit' may full done none = plan_refused b thread call.Spawn depth files rows kit may tt reply.NoSpaces rows kit' done none (spawn_early ∙ ap (λ o. refused_unless (is_some o) reply.NoSpaces) full) refl

  no_page : (page : ℕ) → within 0 0 page ≡ true → ⊥
  no_page page h = omega (arith, inside 0 0 page h)

  nothing : (s page : ℕ) → reaches 0 0 0 s page ≡ false
  nothing s page = go (nat_eq s 0) (within 0 0 page) refl
    where
      go : (a b : Bool) → within 0 0 page ≡ b → (a && b) ≡ false
      go true true e = absurd (no_page page e)
      go true false e = refl
      go false b e = refl

  none_used : (es : List (ℕ × Cell)) → [] ≡ filter (λ e. within 0 0 e.0) es
  none_used [] = refl
  none_used (e ∷ es) = none_used es ∙ ap (λ t. cond t (e ∷ filter (λ e. within 0 0 e.0) es) (filter (λ e. within 0 0 e.0) es)) (sym (never (within 0 0 e.0) refl))
    where
      never : (t : Bool) → within 0 0 e.0 ≡ t → within 0 0 e.0 ≡ false
      never false h = h
      never true h = absurd (omega (arith, inside 0 0 e.0 h))

  pub spawn_granted : (new : ℕ) (kit' : Kit) → IsPlannable b thread call.Spawn depth files rows kit → Needs b thread call.Spawn needed → HasFewRefs rows → least_absent (state_of b) ≡ Some new → IsFilledBy needed kit kit' → HasRoom kit'
      → kit'.own_frames.items ≡ [] → kit'.own_slots.items ≡ [] → kit'.wants.items ≡ [] → kit'.changes.items ≡ change.Spawn new ∷ [] → Plans b thread call.Spawn rows kit rows kit'
  unfolding wants_of changes_of
  spawn_granted new kit' may needs few free done room frames slots wants changes =
      let draws : DrawsPages 0 0 0 rows rows kit'.own_frames.items kit'.own_slots.items = record { drawn = none_drawn 0 0 rows; frames_are = frames; slots_are = slots } in
      let used = none_used (fin.entries (space_at (state_of b) 0)) in
      plan_drawn b thread call.Spawn depth files rows kit may tt 0 0 0 needed few used needs rows kit' draws done
      (subst (λ (u : ℕ → ℕ → Bool). AllZip (IsDrawnRow u) rows rows) (λ i s page. nothing s page i) (zip_of (IsDrawnRow (reaches 0 0 0)) rows rows refl draws.drawn.each))
      (frames_are_ready b thread call.Spawn depth files rows kit may tt 0 0 0 needed few used needs rows kit' draws done refl)
      (slots_are_ready b thread call.Spawn depth files rows kit may tt 0 0 0 needed few used needs rows kit' draws done refl)
      (spawn_early ∙ ap (λ o. refused_unless (is_some o) reply.NoSpaces) free) (λ page h. absurd (no_page page h)) room (omega (arith, ap length wants)) wants
      (changes ∙ ap (λ o. change.Spawn (unwrap_or o 0) ∷ []) (sym free))
