-- The step of a call that makes a space or removes one.
use Rattle.std.proofs.Common.{◌≡◌, ℕ, ◌<◌, ◌≤◌, true, false, cond, not, List, [], ◌∷◌, length, refl, sym, ap, subst, ◌∙◌, arith}
use mathlib.Core.Bool.{true≢false}
use Rattle.std.specs.Prelude.{Option, Some, None, Result, Ok, Err, IfOk, OnOk, is_some, nat_lt}
use Rattle.std.specs.Option.{option_or, option_map_or, unwrap_or}
use Rattle.std.specs.List.{count_by}
use Rattle.std.specs.Ordering.{nat_cmp}
use Rattle.std.proofs.lemmas.Bool.{le-ltb}
use Rattle.std.specs.declared.alloc.AllocError.{AllocError}
use Rattle.std.specs.FinMap as fin
use Rattle.std.specs.FinMap.{get, get-empty}
use Rattle.std.specs.FinSet as set
use Rattle.corten_base.specs.declared.calls.Call.{Call}
use Rattle.corten_base.specs.declared.calls.Call.TheVariants as call
use Rattle.corten_base.specs.declared.calls.Reply.{Reply}
use Rattle.corten_base.specs.declared.calls.Reply.TheVariants as reply
use Rattle.table_place.specs.declared.Place.{Place}
use Rattle.table_place.specs.Place.{place_cmp, root}
use Rattle.page_map.specs.declared.cell.Cell.{Cell}
use Rattle.page_map.specs.Cell.{frame_of, slot_of}
use Rattle.page_map.specs.Spaces.{copied_tables, least_absent}
use Rattle.page_map.specs.State.{State, AddressSpace, IsConsistent, SharersAgree, levels, is_present, space_at, carries, owners, unused_frames, unused_slots}
use Rattle.page_map.specs.Effect.{wanted_tables, is_given_up, spaces_after, state_after, answer}
use Rattle.page_map.specs.Step.{step, refusal, first_refusal, refused_unless, arguments, no_space, no_spaces, no_place, pages, no_tables, no_frames, no_swap}
use Rattle.page_map.proofs.Few.{owners_few}
use Rattle.page_map.proofs.Growth.{all_stay}
use Rattle.page_map.proofs.Least.{least_passes}
use Rattle.page_map.proofs.Mappings.{user_few}
use Rattle.page_map.proofs.Owners.{one_weight}
use Rattle.page_map.proofs.Steps.{accepted, refused, not_none}
use Rattle.page_map.proofs.StepKeeps.{step_keeps}
use Rattle.plain_spaces.specs.Copies.{AreLow}
use Rattle.plain_counts.specs.Counts.{carried}
use Rattle.plain_counts.specs.Levels.{Lists}
use Rattle.plain_spaces.proofs.Released.{nothing_carried}
use Rattle.mm_model.specs.Lacking.{tables_lack}
use Rattle.mm_model.specs.Steps.{IsStepBeside}
use Rattle.mm_model.specs.NewSpaces.{with_space, AreOwned, MayMake}
use Rattle.mm_model.proofs.Lacks.{apart}
use Rattle.mm_model.proofs.NewSpaces.{root_listed, copies_listed}

or_none : {A : Type 0} (o : Option A) → option_or o None ≡ o
or_none None = refl
or_none (Some x) = refl

none_short : (free : ℕ) (r : ℕ → Reply) → cond (nat_lt free 0) (Some (r 0)) None ≡ None
none_short free r = ap (λ b. cond b (Some (r 0)) None) (le-ltb free 0 (omega arith))

-- what the definitions say of a call that makes a space with these cells
pub record IsBirth (st : State) (c : Call) (cells : AddressSpace) (tables : ℕ → List Place) : Type 0 where
  pub arguments_are : arguments st c ≡ None
  pub spaces_left : no_spaces st c ≡ refused_unless (is_some (least_absent st)) reply.NoSpaces
  pub no_mapping : (thread : ℕ) → no_place st thread c ≡ None
  pub pages_are : pages st c ≡ None
  pub wanted_are : (thread new : ℕ) → least_absent st ≡ Some new → wanted_tables st thread c ≡ tables new
  pub none_left : (p : Place) → is_given_up st c p ≡ false
  pub no_frames_wanted : no_frames st c ≡ None
  pub no_slots_wanted : no_swap st c ≡ None
  pub spaces_are : (thread new : ℕ) → least_absent st ≡ Some new → spaces_after st thread c ≡ fin.insert st.spaces new cells
  pub answer_is : (thread new : ℕ) → least_absent st ≡ Some new → answer st thread c ≡ reply.Space new

pub spawn_birth : (st : State) → IsBirth st call.Spawn fin.empty (λ new. root (levels st) new ∷ [])
unfolding answer
spawn_birth st = record {
  arguments_are = refl;
  spaces_left = refl;
  no_mapping = λ _. refl;
  pages_are = refl;
  wanted_are = λ _ new e. ap (λ o. option_map_or (λ new. root (levels st) new ∷ []) o []) e;
  none_left = λ _. refl;
  no_frames_wanted = none_short (length (unused_frames st)) (reply.NoFrames (length (unused_frames st)));
  no_slots_wanted = none_short (length (unused_slots st)) (reply.NoSwap (length (unused_slots st)));
  spaces_are = λ _ new e. ap (λ (o : Option ℕ). fin.insert st.spaces (unwrap_or o 0) fin.empty) e;
  answer_is = λ _ new e. ap (λ (o : Option ℕ). reply.Space (unwrap_or o 0)) e;
}

pub fork_birth : (st : State) (space : ℕ) → IsBirth st (call.Fork space) (space_at st space) (copied_tables st space)
unfolding answer
fork_birth st space = record {
  arguments_are = refl;
  spaces_left = refl;
  no_mapping = λ _. refl;
  pages_are = refl;
  wanted_are = λ _ new e. ap (λ o. option_map_or (copied_tables st space) o []) e;
  none_left = λ _. refl;
  no_frames_wanted = none_short (length (unused_frames st)) (reply.NoFrames (length (unused_frames st)));
  no_slots_wanted = none_short (length (unused_slots st)) (reply.NoSwap (length (unused_slots st)));
  spaces_are = λ _ new e. ap (λ (o : Option ℕ). fin.insert st.spaces (unwrap_or o 0) (space_at st space)) e;
  answer_is = λ _ new e. ap (λ (o : Option ℕ). reply.Space (unwrap_or o 0)) e;
}

module _ (st : State) (c : Call) (cells : AddressSpace) (tables : ℕ → List Place) (is : IsBirth st c cells tables) (thread limbo : ℕ) where
  refusal_is : refusal st thread c limbo ≡ option_or (no_space st c) (option_or (refused_unless (is_some (least_absent st)) reply.NoSpaces) (no_tables st thread c limbo))
  unfolding refusal
  refusal_is =
      (λ i. first_refusal (is.arguments_are i ∷ no_space st c ∷ is.spaces_left i ∷ is.no_mapping thread i ∷ is.pages_are i ∷ no_tables st thread c limbo ∷ is.no_frames_wanted i ∷ is.no_slots_wanted i ∷ []))
      ∙ ap (λ o. option_or (no_space st c) (option_or (refused_unless (is_some (least_absent st)) reply.NoSpaces) o)) (or_none (no_tables st thread c limbo))

  pub no_parent : (r : Reply) → no_space st c ≡ Some r → (r, st) ≡ step st thread c limbo
  no_parent r e = sym (refused st thread c limbo r (refusal_is ∙ ap (λ o. option_or o (option_or (refused_unless (is_some (least_absent st)) reply.NoSpaces) (no_tables st thread c limbo))) e))

  module _ (there : no_space st c ≡ None) where
    pub all_present : least_absent st ≡ None → (reply.NoSpaces, st) ≡ step st thread c limbo
    all_present e = sym (refused st thread c limbo reply.NoSpaces (refusal_is ∙ (λ i. option_or (there i) (option_or (refused_unless (is_some (e i)) reply.NoSpaces) (no_tables st thread c limbo)))))

    module _ (new : ℕ) (least : least_absent st ≡ Some new) where
      decided : refusal st thread c limbo ≡ tables_lack st (tables new) limbo
      decided =
          refusal_is ∙ (λ i. option_or (there i) (option_or (refused_unless (is_some (least i)) reply.NoSpaces) (no_tables st thread c limbo)))
          ∙ ap (λ wanted. tables_lack st wanted limbo) (is.wanted_are thread new least)

      after_is : with_space st new cells (tables new) ≡ state_after st thread c
      unfolding state_after
      after_is = sym (λ i. record st {
        spaces = is.spaces_are thread new least i;
        tables = set.union (all_stay (is_given_up st c) is.none_left [] st.tables i) (set.from_list (is.wanted_are thread new least i));
      })

      pub born : tables_lack st (tables new) limbo ≡ None → (reply.Space new, with_space st new cells (tables new)) ≡ step st thread c limbo
      born e = (λ i. (sym (is.answer_is thread new least) i, after_is i)) ∙ sym (accepted st thread c limbo (decided ∙ e))

      pub too_few_tables : (r : Reply) → tables_lack st (tables new) limbo ≡ Some r → (r, st) ≡ step st thread c limbo
      too_few_tables r e = sym (refused st thread c limbo r (decided ∙ e))

      pub keeps : thread < 8 → IsConsistent st → tables_lack st (tables new) limbo ≡ None → IsConsistent (with_space st new cells (tables new))
      keeps few ok enough = subst IsConsistent (sym (ap (λ p. p.1) (born enough))) (step_keeps st thread limbo c few ok)

-- ---- what `make` asks for

pub least_is_absent : (st : State) (new : ℕ) → least_absent st ≡ Some new → get st.spaces new ≡ None
least_is_absent st new e = go (get st.spaces new) (least_passes 0 64 (λ s. not (is_present st s)) new e).2
  where
    go : (o : Option AddressSpace) → not (is_some o) ≡ true → o ≡ None
    go None h = refl
    go (Some cells) h = absurd (true≢false (sym h))

pub empty_owned : (number_of : Cell → Option ℕ) (st : State) → IsConsistent st → SharersAgree number_of st → AreOwned number_of (owners number_of st) fin.empty
empty_owned number_of st ok shared = record {
  owned = λ n. omega (arith, nothing_carried number_of n);
  few = λ n. omega (arith, nothing_carried number_of n, owners_few number_of n st ok shared);
}

pub copy_owned : (number_of : Cell → Option ℕ) (st : State) (space : ℕ) (cells : AddressSpace) → IsConsistent st → SharersAgree number_of st → get st.spaces space ≡ Some cells → AreOwned number_of (owners number_of st) cells
unfolding owners
copy_owned number_of st space cells ok shared here =
    let some : (n : ℕ) → carried number_of n cells ≤ owners number_of st n = λ n. one_weight (λ cells. count_by (carries number_of n) (fin.values cells)) st.spaces space cells here in
    record {
      owned = some;
      few = λ n. omega (arith, some n, owners_few number_of n st ok shared);
    }

-- the same state with the tables of a list
same_tables : (st : State) (new : ℕ) (cells : AddressSpace) (wanted found : List Place) → set.from_list {R = place_cmp} found ≡ set.from_list wanted → with_space st new cells found ≡ with_space st new cells wanted
same_tables st new cells wanted found e = λ i. record st { spaces = fin.insert st.spaces new cells; tables = set.union st.tables (e i) }

pub may_spawn : (st : State) (new limbo : ℕ) → IsConsistent st → least_absent st ≡ Some new → tables_lack st (root (levels st) new ∷ []) limbo ≡ None → MayMake st new fin.empty (root (levels st) new ∷ [])
may_spawn st new limbo ok least enough = record {
  absent = least_is_absent st new least;
  apart = apart st.tables (root (levels st) new ∷ []) (root (levels st) new ∷ []) (root_listed st new (root (levels st) new ∷ []) ok (least_is_absent st new least) refl);
  low = λ page cell e. absurd (not_none (sym e ∙ get-empty nat_cmp page));
  frames = empty_owned frame_of st ok ok.shared_frames;
  slots = empty_owned slot_of st ok ok.shared_slots;
  keeps = keeps st call.Spawn fin.empty (λ new. root (levels st) new ∷ []) (spawn_birth st) 0 limbo refl new least (omega arith) ok enough;
}

pub cells_low : (st : State) (space : ℕ) (cells : AddressSpace) → IsConsistent st → get st.spaces space ≡ Some cells → AreLow cells
cells_low st space cells ok here page cell e =
    let user = ok.pages space page cell (ap (λ o. get (unwrap_or o fin.empty) page) here ∙ e) in
    omega (arith, user_few (levels st) page 1 ok.few_levels user)

pub may_fork : (st : State) (space new limbo : ℕ) (cells : AddressSpace) (found : List Place) → IsConsistent st → get st.spaces space ≡ Some cells → least_absent st ≡ Some new → Lists (set.from_list (copied_tables st space new)) found →
    tables_lack st (copied_tables st space new) limbo ≡ None → MayMake st new cells found
may_fork st space new limbo cells found ok here least lists enough =
    let copied : space_at st space ≡ cells = ap (λ o. unwrap_or o fin.empty) here in
    let absent = least_is_absent st new least in
    record {
      absent = absent;
      apart = apart st.tables (copied_tables st space new) found (copies_listed st space new found ok absent lists);
      low = cells_low st space cells ok here;
      frames = copy_owned frame_of st space cells ok ok.shared_frames here;
      slots = copy_owned slot_of st space cells ok ok.shared_slots here;
      keeps = subst IsConsistent (ap (λ m. with_space st new m (copied_tables st space new)) copied ∙ sym (same_tables st new cells (copied_tables st space new) found lists.same))
          (keeps st (call.Fork space) (space_at st space) (copied_tables st space) (fork_birth st space) 0 limbo (ap (λ o. refused_unless (is_some o) reply.NoSpace) here) new least (omega arith) ok enough);
    }

pub forked : (st : State) (space new limbo thread : ℕ) (cells : AddressSpace) (found : List Place) → get st.spaces space ≡ Some cells → least_absent st ≡ Some new → set.from_list {R = place_cmp} found ≡ set.from_list (copied_tables st space new) →
    tables_lack st (copied_tables st space new) limbo ≡ None → (reply.Space new, with_space st new cells found) ≡ step st thread (call.Fork space) limbo
forked st space new limbo thread cells found here least same enough =
    (λ i. (reply.Space new, (same_tables st new cells (copied_tables st space new) found same ∙ ap (λ m. with_space st new m (copied_tables st space new)) (sym (ap (λ o. unwrap_or o fin.empty) here))) i))
    ∙ born st (call.Fork space) (space_at st space) (copied_tables st space) (fork_birth st space) thread limbo (ap (λ o. refused_unless (is_some o) reply.NoSpace) here) new least enough

pub fork_refused : (st : State) (space new limbo thread : ℕ) (cells : AddressSpace) (r : Reply) → get st.spaces space ≡ Some cells → least_absent st ≡ Some new → tables_lack st (copied_tables st space new) limbo ≡ Some r →
    (r, st) ≡ step st thread (call.Fork space) limbo
fork_refused st space new limbo thread cells r here least lack =
    too_few_tables st (call.Fork space) (space_at st space) (copied_tables st space) (fork_birth st space) thread limbo (ap (λ o. refused_unless (is_some o) reply.NoSpace) here) new least r lack

-- what follows from an outcome
pub if_ok : {A E : Type 0} {P Q : A → Type 0} (r : Result A E) → IfOk r P → ((x : A) → P x → Q x) → IfOk r Q
if_ok (Ok x) h f = f x h
if_ok (Err e) h f = tt

-- a space that was made
pub made_ok : (st st' : State) (new : ℕ) (cells : AddressSpace) (tables : List Place) (limbo : ℕ) (c : Call) (outcome : Result Reply AllocError) → IfOk outcome (λ r. r ≡ reply.Space new) → OnOk outcome (st' ≡ with_space st new cells tables) →
    {next : State} → with_space st new cells tables ≡ next → ((thread : ℕ) → (reply.Space new, next) ≡ step st thread c limbo) → IfOk outcome (IsStepBeside limbo st st' c)
made_ok st st' new cells tables limbo c (Ok r) is made same h = λ thread. (λ i. (is i, (made ∙ same) i)) ∙ h thread
made_ok st st' new cells tables limbo c (Err e) is made same h = tt
