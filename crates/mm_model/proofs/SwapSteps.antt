-- The step of a call that moves pages to swap or back.
use Rattle.std.proofs.Common.{◌≡◌, ℕ, ◌+◌, ◌/◌, ◌<◌, ◌≤◌, Bool, true, false, cond, List, [], ◌∷◌, length, refl, sym, ap, subst, ◌∙◌, arith}
use mathlib.Core.Bool.{true≢false}
use Rattle.std.specs.Prelude.{Option, Some, None, IsSome, is_some, nat_eq, nat_lt}
use Rattle.std.specs.Option.{option_or, option_map}
use Rattle.std.proofs.lemmas.Bool.{le-ltb, lt-ltb}
use Rattle.std.specs.FinMap as fin
use Rattle.std.specs.FinMap.{get}
use Rattle.corten_base.specs.declared.calls.Call.{Call}
use Rattle.corten_base.specs.declared.calls.Call.TheVariants as call
use Rattle.corten_base.specs.declared.calls.Reply.{Reply}
use Rattle.corten_base.specs.declared.calls.Reply.TheVariants as reply
use Rattle.table_place.specs.declared.Place.{Place}
use Rattle.table_place.specs.Place.{is_page_range, pages_of}
use Rattle.page_map.specs.declared.cell.Cell.{Cell}
use Rattle.page_map.specs.declared.cell.Cell.TheVariants.{Anon, File, Mapped, Swapped}
use Rattle.page_map.specs.Change.{keys_in}
use Rattle.page_map.specs.Cell.{frame_of, slot_of}
use Rattle.page_map.specs.State.{State, AddressSpace, IsConsistent, levels, linked, is_present, space_at, unused_frames, unused_slots}
use Rattle.page_map.specs.Swap.{goes_out, comes_in, moved, moved_to}
use Rattle.page_map.specs.Takes.{Grant, grant, granted}
use Rattle.page_map.specs.Tables.{need}
use Rattle.page_map.specs.Effect.{wanted_tables, is_given_up, spaces_after, state_after, answer}
use Rattle.page_map.specs.Step.{step, refusal, first_refusal, refused_unless, arguments, no_space, no_spaces, no_place, pages, no_tables, no_frames, no_swap}
use Rattle.page_map.proofs.Steps.{accepted, refused}
use Rattle.page_map.proofs.NeedLaws.{out_none, in_none}
use Rattle.page_map.proofs.StepKeeps.{step_keeps}
use Rattle.plain_counts.specs.Owners.{unused_of}
use Rattle.plain_counts.specs.declared.counts.Counts.{Counts}
use Rattle.plain_counts.specs.Counts.{Follow}
use Rattle.plain_spaces.specs.Swapping.{passes, taken, to}
use Rattle.plain_spaces.specs.declared.swap.Move.{Move}
use Rattle.plain_spaces.specs.declared.swap.Move.TheVariants.{Out, In}
use Rattle.mm_model.specs.Moves.{move_call, too_few}
use Rattle.mm_model.specs.Plain.{IsSound}
use Rattle.page_map.proofs.Bounds.{few_pass}
use Rattle.mm_model.proofs.AccessSteps.{same_wanted}
use Rattle.mm_model.proofs.Full.{full_stays, change_stays}
use Rattle.mm_model.proofs.Kept.{frames_are, free_frames, free_slots, cells_here, cell_here, stays_sound}

-- what the definitions say of a call that moves pages of a range of this space, where so many numbers are wanted
pub record IsMove (st : State) (c : Call) (space at len : ℕ) (lack : Option Reply) (after : AddressSpace) (says : Reply) : Type 0 where
  pub arguments_are : arguments st c ≡ refused_unless (is_page_range (levels st) at len) reply.Einval
  pub space_is : no_space st c ≡ refused_unless (is_present st space) reply.NoSpace
  pub no_new : no_spaces st c ≡ None
  pub no_mapping : (thread : ℕ) → no_place st thread c ≡ None
  pub pages_are : pages st c ≡ None
  pub none_wanted : (thread : ℕ) → need (wanted_tables st thread c) st.tables ≡ 0
  pub none_left : (p : Place) → is_given_up st c p ≡ false
  pub lack_is : option_or (no_frames st c) (option_or (no_swap st c) None) ≡ lack
  pub spaces_are : (thread : ℕ) → spaces_after st thread c ≡ fin.insert st.spaces space after
  pub answer_is : (thread : ℕ) → answer st thread c ≡ says

or_none : {A : Type 0} (o : Option A) → option_or o None ≡ o
or_none None = refl
or_none (Some x) = refl

none_short : (free : ℕ) (r : ℕ → Reply) → cond (nat_lt free 0) (Some (r 0)) None ≡ None
none_short free r = ap (λ b. cond b (Some (r 0)) None) (le-ltb free 0 (omega arith))

-- the pages that move, and the numbers that they move to
abbrev pub moving_of : State → Move → Cell → Bool
moving_of st Out = goes_out st
moving_of st In = comes_in

abbrev pub free_of : State → Move → List ℕ
free_of st Out = unused_slots st
free_of st In = unused_frames st

module _ (st : State) (way : Move) (space at len : ℕ) where
  abbrev pub keys_of : List ℕ
  keys_of = keys_in (space_at st space) (at / 4096) (pages_of len) (moving_of st way)

  abbrev pub lack_of : Option Reply
  lack_of = cond (nat_lt (length (free_of st way)) (length keys_of)) (Some (too_few way (length (free_of st way)) (length keys_of))) None

  abbrev pub moved_cells : AddressSpace
  moved_cells = moved_to (to way) (grant keys_of (free_of st way)) (at / 4096) (pages_of len) (space_at st space)

pub is_move : (st : State) (way : Move) (space at len : ℕ) → IsConsistent st → IsMove st (move_call way space at len) space at len (lack_of st way space at len) (moved_cells st way space at len) (reply.Moved (length (keys_of st way space at len)))
unfolding answer
is_move st Out space at len ok = record {
  arguments_are = refl;
  space_is = refl;
  no_new = refl;
  no_mapping = λ _. refl;
  pages_are = refl;
  none_wanted = λ thread. out_none st thread space at len ok;
  none_left = λ _. refl;
  lack_is = ap (λ o. option_or o (option_or (no_swap st (call.SwapOut space at len)) None)) (none_short (length (unused_frames st)) (reply.NoFrames (length (unused_frames st)))) ∙ or_none (no_swap st (call.SwapOut space at len));
  spaces_are = λ _. refl;
  answer_is = λ _. refl;
}
is_move st In space at len ok = record {
  arguments_are = refl;
  space_is = refl;
  no_new = refl;
  no_mapping = λ _. refl;
  pages_are = refl;
  none_wanted = λ thread. in_none st thread space at len ok;
  none_left = λ _. refl;
  lack_is = ap (λ o. option_or (no_frames st (call.SwapIn space at len)) (option_or o None)) (none_short (length (unused_slots st)) (reply.NoSwap (length (unused_slots st)))) ∙ or_none (no_frames st (call.SwapIn space at len));
  spaces_are = λ _. refl;
  answer_is = λ _. refl;
}

module _ (st : State) (c : Call) (space at len : ℕ) (lack : Option Reply) (after : AddressSpace) (says : Reply) (is : IsMove st c space at len lack after says) where
  module _ (thread limbo : ℕ) (legal : linked st + limbo ≤ st.limits.tables) where
    no_tables_wanted : no_tables st thread c limbo ≡ None
    no_tables_wanted =
        let n = need (wanted_tables st thread c) st.tables in
        let none : n ≡ 0 = is.none_wanted thread in
        ap (λ b. cond b (Some (reply.NoTables (linked st) limbo n)) None) (le-ltb st.limits.tables (linked st + n + limbo) (omega (arith, legal, none)))

    refusal_is : refusal st thread c limbo ≡ option_or (refused_unless (is_page_range (levels st) at len) reply.Einval) (option_or (refused_unless (is_present st space) reply.NoSpace) lack)
    unfolding refusal
    refusal_is =
        (λ i. first_refusal (is.arguments_are i ∷ is.space_is i ∷ is.no_new i ∷ is.no_mapping thread i ∷ is.pages_are i ∷ no_tables_wanted i ∷ no_frames st c ∷ no_swap st c ∷ []))
        ∙ ap (λ o. option_or (refused_unless (is_page_range (levels st) at len) reply.Einval) (option_or (refused_unless (is_present st space) reply.NoSpace) o)) is.lack_is

    pub wrong : is_page_range (levels st) at len ≡ false → (reply.Einval, st) ≡ step st thread c limbo
    wrong e = sym (refused st thread c limbo reply.Einval (refusal_is ∙ ap (λ b. option_or (refused_unless b reply.Einval) (option_or (refused_unless (is_present st space) reply.NoSpace) lack)) e))

    module _ (right : is_page_range (levels st) at len ≡ true) where
      pub absent : get st.spaces space ≡ None → (reply.NoSpace, st) ≡ step st thread c limbo
      absent none = sym (refused st thread c limbo reply.NoSpace (refusal_is ∙ (λ i. option_or (refused_unless (right i) reply.Einval) (option_or (refused_unless (is_some (none i)) reply.NoSpace) lack))))

      module _ (cells : AddressSpace) (here : get st.spaces space ≡ Some cells) where
        decided : refusal st thread c limbo ≡ lack
        decided = refusal_is ∙ (λ i. option_or (refused_unless (right i) reply.Einval) (option_or (refused_unless (is_some (here i)) reply.NoSpace) lack))

        pub stopped : (r : Reply) → lack ≡ Some r → (r, st) ≡ step st thread c limbo
        stopped r e = sym (refused st thread c limbo r (decided ∙ e))

        module _ (enough : lack ≡ None) (cells' : AddressSpace) (cells_are : cells' ≡ after) (r : Reply) (reply_is : r ≡ says) where
          after_is : record st { spaces = fin.insert st.spaces space cells' } ≡ state_after st thread c
          unfolding state_after
          after_is = sym (λ i. record st {
            spaces = (is.spaces_are thread ∙ ap (fin.insert st.spaces space) (sym cells_are)) i;
            tables = same_wanted (is_given_up st c) is.none_left (wanted_tables st thread c) st.tables (is.none_wanted thread) i;
          })

          pub step_is : (r, record st { spaces = fin.insert st.spaces space cells' }) ≡ step st thread c limbo
          step_is = (λ i. ((reply_is ∙ sym (is.answer_is thread)) i, after_is i)) ∙ sym (accepted st thread c limbo (decided ∙ enough))

  module _ (right : is_page_range (levels st) at len ≡ true) (cells : AddressSpace) (here : get st.spaces space ≡ Some cells) (enough : lack ≡ None) (cells' : AddressSpace) (cells_are : cells' ≡ after) where
    pub move_sound : (counts : Counts) (fronts : List ℕ) (counts' : Counts) → IsSound st counts fronts → Follow counts counts' cells cells' →
        ((q : ℕ) → IsSome (get cells q) → IsSome (get cells' q)) → IsSound (record st { spaces = fin.insert st.spaces space cells' }) counts' fronts
    move_sound counts fronts counts' sound follow stay =
        let no_limbo : linked st + 0 ≤ st.limits.tables = omega (arith, sound.state.tables) in
        stays_sound st counts fronts sound space cells here cells' st.tables counts' fronts follow
        (subst IsConsistent (sym (ap (λ p. p.1) (step_is 0 0 no_limbo right cells here enough cells' cells_are says refl))) (step_keeps st 0 0 c (omega arith) sound.state))
        (full_stays st space cells cells' st.tables fronts here stay sound.full)

-- pages that move stay mapped
moved_stay : (to : ℕ → Cell → Cell) (grants : Grant) (first count : ℕ) (cells : AddressSpace) (q : ℕ) → IsSome (get cells q) → IsSome (get (moved_to to grants first count cells) q)
unfolding moved_to
moved_stay to grants first count cells q there = change_stays cells first count (λ page. option_map (moved to (granted grants page))) (λ _ _. refl) q there

-- a page moves by the counts as by the owners
module _ (st : State) (counts : Counts) (fronts : List ℕ) (sound : IsSound st counts fronts) where
  passes_is : (way : Move) (c : Cell) → passes way counts c ≡ moving_of st way c
  passes_is Out (Anon perm) = refl
  passes_is Out (File perm file index) = refl
  passes_is Out (Mapped perm origin frame bytes) = ap (λ f. nat_eq (f frame) 1) (frames_are st counts fronts sound)
  passes_is Out (Swapped perm origin slot bytes) = refl
  passes_is In (Anon perm) = refl
  passes_is In (File perm file index) = refl
  passes_is In (Mapped perm origin frame bytes) = refl
  passes_is In (Swapped perm origin slot bytes) = refl

  unused_is : (way : Move) → unused_of (taken way counts) ≡ free_of st way
  unused_is Out = free_slots st counts fronts sound
  unused_is In = free_frames st counts fronts sound

  module _ (space : ℕ) (cells : AddressSpace) (here : get st.spaces space ≡ Some cells) where
    -- at most as many pages move as there are numbers
    pub few_move : (way : Move) (low n : ℕ) → length (keys_in cells low n (passes way counts)) ≤ 4096
    few_move Out low n =
        omega (arith, few_pass frame_of st.limits.frames low n (passes Out counts) st space cells here sound.state.shared_frames numbered, sound.limits.frames)
      where
        numbered : (q : ℕ) (c : Cell) → get cells q ≡ Some c → passes Out counts c ≡ true → (m : ℕ) × (frame_of c ≡ Some m) × (m < st.limits.frames)
        numbered q (Mapped perm origin frame bytes) e h = (frame, refl, sound.state.frames space q frame (Mapped perm origin frame bytes) (cell_here st counts fronts sound space cells here q (Mapped perm origin frame bytes) e) refl)
        numbered q (Anon perm) e h = absurd (true≢false (sym h))
        numbered q (File perm file index) e h = absurd (true≢false (sym h))
        numbered q (Swapped perm origin slot bytes) e h = absurd (true≢false (sym h))
    few_move In low n =
        omega (arith, few_pass slot_of st.limits.swap low n (passes In counts) st space cells here sound.state.shared_slots numbered, sound.limits.swap)
      where
        numbered : (q : ℕ) (c : Cell) → get cells q ≡ Some c → passes In counts c ≡ true → (m : ℕ) × (slot_of c ≡ Some m) × (m < st.limits.swap)
        numbered q (Swapped perm origin slot bytes) e h = (slot, refl, sound.state.slots space q slot (Swapped perm origin slot bytes) (cell_here st counts fronts sound space cells here q (Swapped perm origin slot bytes) e) refl)
        numbered q (Anon perm) e h = absurd (true≢false (sym h))
        numbered q (File perm file index) e h = absurd (true≢false (sym h))
        numbered q (Mapped perm origin frame bytes) e h = absurd (true≢false (sym h))

    -- what was counted of a range, in the words of the definitions
    module _ (way : Move) (at len first count free need : ℕ) (right : is_page_range (levels st) at len ≡ true) (first_is : first ≡ at / 4096) (count_is : count ≡ pages_of len)
        (free_is : free ≡ length (unused_of (taken way counts))) (need_is : need ≡ length (keys_in cells first count (passes way counts))) where
      keys_are : keys_in cells first count (passes way counts) ≡ keys_of st way space at len
      keys_are = (λ i. keys_in (sym (cells_here st counts fronts sound space cells here) i) (first_is i) (count_is i) (λ c. passes_is way c i))

      free_here : free ≡ length (free_of st way)
      free_here = free_is ∙ ap length (unused_is way)

      need_here : need ≡ length (keys_of st way space at len)
      need_here = need_is ∙ ap length keys_are

      lack_here : (b : Bool) → nat_lt (length (free_of st way)) (length (keys_of st way space at len)) ≡ b → lack_of st way space at len ≡ cond b (Some (too_few way free need)) None
      lack_here b e = (λ i. cond (e i) (Some (too_few way (sym free_here i) (sym need_here i))) None)

      pub move_stopped : free < need → (thread limbo : ℕ) → linked st + limbo ≤ st.limits.tables → (too_few way free need, st) ≡ step st thread (move_call way space at len) limbo
      move_stopped less thread limbo legal =
          stopped st (move_call way space at len) space at len _ _ _ (is_move st way space at len sound.state) thread limbo legal right cells here (too_few way free need)
          (lack_here true (lt-ltb (length (free_of st way)) (length (keys_of st way space at len)) (omega (arith, less, free_here, need_here))))

      module _ (fits : need ≤ free) (cells' : AddressSpace) (cells_are : cells' ≡ moved_to (to way) (grant (keys_in cells first count (passes way counts)) (unused_of (taken way counts))) first count cells) where
        enough : lack_of st way space at len ≡ None
        enough = lack_here false (le-ltb (length (free_of st way)) (length (keys_of st way space at len)) (omega (arith, fits, free_here, need_here)))

        same_cells : cells' ≡ moved_cells st way space at len
        same_cells = cells_are ∙ (λ i. moved_to (to way) (grant (keys_are i) (unused_is way i)) (first_is i) (count_is i) (sym (cells_here st counts fronts sound space cells here) i))

        pub move_made : (thread limbo : ℕ) → linked st + limbo ≤ st.limits.tables → (reply.Moved need, record st { spaces = fin.insert st.spaces space cells' }) ≡ step st thread (move_call way space at len) limbo
        move_made thread limbo legal =
            step_is st (move_call way space at len) space at len _ _ _ (is_move st way space at len sound.state) thread limbo legal right cells here enough cells' same_cells (reply.Moved need) (ap reply.Moved need_here)

        pub move_stays_sound : (counts' : Counts) → Follow counts counts' cells cells' → IsSound (record st { spaces = fin.insert st.spaces space cells' }) counts' fronts
        move_stays_sound counts' follow =
            move_sound st (move_call way space at len) space at len _ _ _ (is_move st way space at len sound.state) right cells here enough cells' same_cells counts fronts counts' sound follow
            (λ q there. subst (λ m. IsSome (get m q)) (sym cells_are) (moved_stay (to way) _ first count cells q there))
