-- The refusals of a call by a kit and the counts.
use Rattle.std.proofs.Common.{◌≡◌, ℕ, ◌+◌, ◌-◌, ◌<◌, ◌≤◌, Bool, true, false, cond, not, List, [], ◌∷◌, ◌++◌, length, refl, sym, ap, subst, ◌∙◌, arith}
use mathlib.Core.Bool.{true≢false}
use Rattle.std.proofs.lemmas.Bool.{ltb-true, lt-ltb}
use Rattle.std.specs.Prelude.{Option, Some, None, is_some, nat_eq, nat_lt}
use Rattle.std.specs.List.{All}
use Rattle.std.specs.Option.{option_or}
use Rattle.corten_base.specs.declared.numbers.Limits.{Limits}
use Rattle.corten_base.specs.declared.calls.Call.{Call}
use Rattle.corten_base.specs.declared.calls.Reply.{Reply}
use Rattle.corten_base.specs.declared.calls.Reply.TheVariants as reply
use Rattle.page_map.specs.State.{State, linked}
use Rattle.page_map.specs.Step.{refusal, first_refusal, arguments, no_space, no_spaces, no_place, pages, no_tables, no_frames, no_swap}
use Rattle.page_map.specs.Effect.{wanting_frames_of, wanting_slots_of, wanted_tables}
use Rattle.page_map.specs.History.{limbo_of}
use Rattle.page_map.specs.Memory.{is_refusal}
use Rattle.page_map.specs.Tables.{need}
use Rattle.page_map.proofs.Steps.{not_none}
use Rattle.page_map.proofs.Owners.{same_some}
use Rattle.page_map.proofs.Replies.{refusal_refuses}
use Rattle.machine_plan.specs.declared.kit.Want.{Want}
use Rattle.machine_plan.specs.declared.kit.Want.TheVariants as want
use Rattle.machine_plan.specs.declared.kit.Kit.{Kit}
use Rattle.machine_plan.specs.Books.{BookData, state_of, free_rows_within, RowSum, HasBlocker}
use Rattle.machine_plan.specs.Whole.{IsBook}
use Rattle.machine_plan.specs.Kits.{IsPlanned, IsFilled, IsSwept}
use Rattle.machine_plan.specs.Uses.{early_refusal, wants_of}
use Rattle.machine_plan.specs.Wanting.{takes_frame as state_takes_frame, takes_slot as state_takes_slot}
use Rattle.machine_plan.proofs.Wanting.{wants_take}
use Rattle.book.specs.Taking.{takes_frame, takes_slot, wanting, tables_lack, frames_lack, slots_lack, lack_of}
use Rattle.book.proofs.Counted.{state_limits, free_frames, free_slots}
use Rattle.book.proofs.Shown.{early_shows, late_shows}

-- The first refusals

first_append : (rs ss : List (Option Reply)) → first_refusal (rs ++ ss) ≡ option_or (first_refusal rs) (first_refusal ss)
first_append [] ss = refl
first_append (None ∷ rs) ss = first_append rs ss
first_append (Some r ∷ rs) ss = refl

module _ (st : State) (thread : ℕ) (c : Call) where
  abbrev late : ℕ → Option Reply
  late limbo = first_refusal (no_tables st thread c limbo ∷ no_frames st c ∷ no_swap st c ∷ [])

  pub in_parts : (limbo : ℕ) → refusal st thread c limbo ≡ option_or (early_refusal st thread c) (late limbo)
  unfolding refusal
  in_parts limbo = first_append (arguments st c ∷ no_space st c ∷ no_spaces st c ∷ no_place st thread c ∷ pages st c ∷ []) (no_tables st thread c limbo ∷ no_frames st c ∷ no_swap st c ∷ [])

  pub early_is : (limbo : ℕ) (r : Reply) → early_refusal st thread c ≡ Some r → refusal st thread c limbo ≡ Some r
  early_is limbo r e = in_parts limbo ∙ ap (λ o. option_or o (late limbo)) e

  pub late_is : (limbo : ℕ) → early_refusal st thread c ≡ None → refusal st thread c limbo ≡ late limbo
  late_is limbo e = in_parts limbo ∙ ap (λ o. option_or o (late limbo)) e

  pub early_refuses : (r : Reply) → early_refusal st thread c ≡ Some r → is_refusal r ≡ true
  early_refuses r e = refusal_refuses st thread 0 c r (early_is 0 r e)

  -- What a reply shows of the limbo is enough to refuse the call once more.
  pub record Again (limbo : ℕ) (r : Reply) : Type 0 where
    pub few : limbo_of r ≤ limbo
    pub again : refusal st thread c (limbo_of r) ≡ Some r

  late_parts : (limbo : ℕ) → late limbo ≡ option_or (no_tables st thread c limbo) (first_refusal (no_frames st c ∷ no_swap st c ∷ []))
  late_parts limbo = refl

  pub no_tables_fewer : (limbo : ℕ) → no_tables st thread c limbo ≡ None → no_tables st thread c 0 ≡ None
  no_tables_fewer limbo e = go (nat_lt st.limits.tables (linked st + need (wanted_tables st thread c) st.tables + limbo)) (nat_lt st.limits.tables (linked st + need (wanted_tables st thread c) st.tables + 0)) refl refl e
    where
      go : (a b : Bool) → nat_lt st.limits.tables (linked st + need (wanted_tables st thread c) st.tables + limbo) ≡ a → nat_lt st.limits.tables (linked st + need (wanted_tables st thread c) st.tables + 0) ≡ b →
          cond a (Some (reply.NoTables (linked st) limbo (need (wanted_tables st thread c) st.tables))) None ≡ None → cond b (Some (reply.NoTables (linked st) 0 (need (wanted_tables st thread c) st.tables))) None ≡ None
      go a false x y h = refl
      go true true x y h = absurd (not_none h)
      go false true x y h = absurd (true≢false (sym (lt-ltb _ _ (omega (arith, ltb-true _ _ y))) ∙ x))

  pub refused_again : (limbo : ℕ) (r : Reply) → refusal st thread c limbo ≡ Some r → Again limbo r
  refused_again limbo r e = go (early_refusal st thread c) refl (sym (in_parts limbo) ∙ e)
    where
      go : (o : Option Reply) → early_refusal st thread c ≡ o → option_or o (late limbo) ≡ Some r → Again limbo r
      go (Some s) is h =
          let shows = early_shows st thread c r (is ∙ h) in
          record { few = omega (arith, shows); again = early_is (limbo_of r) r (is ∙ h) }
      go None is h = tables (no_tables st thread c limbo) refl h
        where
          tables : (t : Option Reply) → no_tables st thread c limbo ≡ t → option_or t (first_refusal (no_frames st c ∷ no_swap st c ∷ [])) ≡ Some r → Again limbo r
          tables (Some s) t g =
              let shows : limbo_of r ≡ limbo = ap limbo_of (sym (same_some g)) ∙ shown (nat_lt st.limits.tables (linked st + need (wanted_tables st thread c) st.tables + limbo)) t in
              record {
                few = omega (arith, shows);
                again = late_is (limbo_of r) is ∙ ap late shows ∙ ap (λ o. option_or o (first_refusal (no_frames st c ∷ no_swap st c ∷ []))) t ∙ g;
              }
            where
              shown : (b : Bool) → cond b (Some (reply.NoTables (linked st) limbo (need (wanted_tables st thread c) st.tables))) None ≡ Some s → limbo_of s ≡ limbo
              shown true h = ap limbo_of (sym (same_some h))
              shown false h = absurd (not_none (sym h))
          tables None t g =
              let shows = late_shows st thread c r g in
              record {
                few = omega (arith, shows);
                again = late_is (limbo_of r) is ∙ ap late shows ∙ ap (λ o. option_or o (first_refusal (no_frames st c ∷ no_swap st c ∷ []))) (no_tables_fewer limbo t) ∙ g;
              }

-- The refusals by rows and numbers are those of the state

module _ (b : BookData) (is : IsBook b) where
  frame_taken : (w : Want) → takes_frame b.frames.counts w ≡ state_takes_frame (state_of b) w
  frame_taken (want.Fresh what) = refl
  frame_taken (want.Copy frame) = ap (λ n. not (nat_eq n 1)) (is.counts.frames frame)
  frame_taken (want.Out frame) = refl
  frame_taken (want.Back slot) = refl

  slot_taken : (w : Want) → takes_slot b.frames.counts w ≡ state_takes_slot (state_of b) w
  slot_taken (want.Fresh what) = refl
  slot_taken (want.Copy frame) = refl
  slot_taken (want.Out frame) = ap (λ n. nat_eq n 1) (is.counts.frames frame)
  slot_taken (want.Back slot) = refl

  pub frame_pages : (c : Call) → wanting (takes_frame b.frames.counts) (wants_of (state_of b) c) ≡ wanting_frames_of (state_of b) c
  frame_pages c = (λ i. wanting (λ w. frame_taken w i) (wants_of (state_of b) c)) ∙ (wants_take (state_of b) c).0

  pub slot_pages : (c : Call) → wanting (takes_slot b.frames.counts) (wants_of (state_of b) c) ≡ wanting_slots_of (state_of b) c
  slot_pages c = (λ i. wanting (λ w. slot_taken w i) (wants_of (state_of b) c)) ∙ (wants_take (state_of b) c).1

  module _ (thread : ℕ) (c : Call) (sum : RowSum b) (kit : Kit) (planned : IsPlanned b thread c kit) where
    abbrev st : State
    st = state_of b

    tables_is : tables_lack b kit.rows_needed ≡ no_tables st thread c (length b.limbo)
    tables_is =
        let rows = planned.rows in
        let limits : b.limits.tables ≡ st.limits.tables = sym (ap (λ (l : Limits). l.tables) (state_limits b)) in
        let link : b.limits.tables - length b.limbo - free_rows_within b ≡ linked st = omega (arith, sum) in
        λ i. cond (same_test (free_rows_within b) (length b.limbo) (linked st) b.limits.tables st.limits.tables kit.rows_needed (need (wanted_tables st thread c) st.tables) sum limits rows i) (Some (reply.NoTables (link i) (length b.limbo) (rows i))) None
      where
        same_test : (free limbo link tables tables' n m : ℕ) → free + limbo + link ≡ tables → tables ≡ tables' → n ≡ m → nat_lt free n ≡ nat_lt tables' (link + m + limbo)
        same_test free limbo link tables tables' n m s t r = go (nat_lt free n) (nat_lt tables' (link + m + limbo)) refl refl
          where
            go : (x y : Bool) → nat_lt free n ≡ x → nat_lt tables' (link + m + limbo) ≡ y → nat_lt free n ≡ nat_lt tables' (link + m + limbo)
            go true y a b = a ∙ sym (lt-ltb _ _ (omega (arith, ltb-true _ _ a, s, t, r)))
            go false true a b = absurd (true≢false (sym (lt-ltb _ _ (omega (arith, ltb-true _ _ b, s, t, r))) ∙ a))
            go false false a b = a ∙ sym b

    frames_is : frames_lack b kit.wants.items ≡ no_frames st c
    frames_is =
        let free = free_frames b is in
        let wanted : length (wanting (takes_frame b.frames.counts) kit.wants.items) ≡ length (wanting_frames_of st c) = ap (λ ws. length (wanting (takes_frame b.frames.counts) ws)) planned.wants ∙ ap length (frame_pages c) in
        λ i. cond (nat_lt (free i) (wanted i)) (Some (reply.NoFrames (free i) (wanted i))) None

    slots_is : slots_lack b kit.wants.items ≡ no_swap st c
    slots_is =
        let free = free_slots b is in
        let wanted : length (wanting (takes_slot b.frames.counts) kit.wants.items) ≡ length (wanting_slots_of st c) = ap (λ ws. length (wanting (takes_slot b.frames.counts) ws)) planned.wants ∙ ap length (slot_pages c) in
        λ i. cond (nat_lt (free i) (wanted i)) (Some (reply.NoSwap (free i) (wanted i))) None

    pub lack_is : lack_of b kit.rows_needed kit.wants.items ≡ late st thread c (length b.limbo)
    lack_is = (λ i. option_or (tables_is i) (option_or (frames_is i) (slots_is i))) ∙ ap (λ o. option_or (no_tables st thread c (length b.limbo)) (option_or (no_frames st c) o)) (last (no_swap st c))
      where
        last : (o : Option Reply) → o ≡ option_or o None
        last None = refl
        last (Some r) = refl

-- a kit that was filled refuses as the state does
pub refused_late : (b now : BookData) → b ≡ now → IsBook b → RowSum now → (thread : ℕ) (c : Call) (kit : Kit) → IsFilled now thread c kit → kit.early ≡ None → lack_of now kit.rows_needed kit.wants.items ≡ refusal (state_of now) thread c (length now.limbo)
refused_late b now same is sum thread c kit filled none =
    let is_now : IsBook now = subst (λ (x : BookData). IsBook x) same is in
    lack_is now is_now thread c sum kit (filled.planned (ap is_some none)) ∙ sym (late_is (state_of now) thread c (length now.limbo) (sym filled.early ∙ none))

-- A refusal that shows rows in limbo tells that tables are wanting
module _ (b : BookData) (is : IsBook b) (sum : RowSum b) (thread : ℕ) (c : Call) (kit : Kit) (filled : IsFilled b thread c kit) (swept : IsSwept b kit) (r : Reply) (shown : 0 < limbo_of r) where
  lacking_blocked : (s : Reply) → tables_lack b kit.rows_needed ≡ Some s → All HasBlocker b.limbo
  lacking_blocked s e = go (nat_lt (free_rows_within b) kit.rows_needed) refl e
    where
      go : (x : Bool) → nat_lt (free_rows_within b) kit.rows_needed ≡ x → cond x (Some (reply.NoTables (b.limits.tables - length b.limbo - free_rows_within b) (length b.limbo) kit.rows_needed)) None ≡ Some s → All HasBlocker b.limbo
      go true less h = swept (ltb-true _ _ less)
      go false less h = absurd (not_none (sym h))

  late_blocked : IsPlanned b thread c kit → late (state_of b) thread c (length b.limbo) ≡ Some r → All HasBlocker b.limbo
  late_blocked planned e = go (no_tables (state_of b) thread c (length b.limbo)) refl e
    where
      go : (t : Option Reply) → no_tables (state_of b) thread c (length b.limbo) ≡ t → option_or t (first_refusal (no_frames (state_of b) c ∷ no_swap (state_of b) c ∷ [])) ≡ Some r → All HasBlocker b.limbo
      go (Some s) at h = lacking_blocked s (tables_is b is thread c sum kit planned ∙ at)
      go None at h = absurd (omega (arith, shown, late_shows (state_of b) thread c r h))

  all_blocked : refusal (state_of b) thread c (length b.limbo) ≡ Some r → All HasBlocker b.limbo
  all_blocked refuses = go (early_refusal (state_of b) thread c) refl (sym (in_parts (state_of b) thread c (length b.limbo)) ∙ refuses)
    where
      go : (o : Option Reply) → early_refusal (state_of b) thread c ≡ o → option_or o (late (state_of b) thread c (length b.limbo)) ≡ Some r → All HasBlocker b.limbo
      go (Some s) at h = absurd (omega (arith, shown, early_shows (state_of b) thread c r (at ∙ h)))
      go None at h = late_blocked (filled.planned (ap is_some (filled.early ∙ at))) h

pub shown_blocked : (b now : BookData) → b ≡ now → IsBook b → RowSum now → (thread : ℕ) (c : Call) (kit : Kit) → IsFilled now thread c kit → IsSwept now kit → (r : Reply) → refusal (state_of now) thread c (length now.limbo) ≡ Some r → 0 < limbo_of r → All HasBlocker now.limbo
shown_blocked b now same is sum thread c kit filled swept r refuses shown = all_blocked now (subst (λ (x : BookData). IsBook x) same is) sum thread c kit filled swept r shown refuses
