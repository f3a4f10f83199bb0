-- What is found of any call before its references are taken.
--     gap_is, gap_wrong, gap_none      a mapping that names no place goes to the least gap;  one that is refused goes nowhere
--     resized_is, resize_none      a range that gets another length;  one that is refused
--     needs_by      how many rows a call needs
use Rattle.std.specs.Prelude.{◌≡◌, ℕ, ◌<◌, true, false, cond, List, is_some, Option, Some, None, IsNone}
use Rattle.std.specs.Option.{option_or, unwrap_or}
use Rattle.std.proofs.Common.{sym, refl, ◌∙◌, ap}
use Rattle.corten_base.specs.declared.calls.Backing.{Backing}
use Rattle.corten_base.specs.declared.calls.Call.{Call}
use Rattle.corten_base.specs.declared.calls.Call.TheVariants as call
use Rattle.corten_base.specs.declared.calls.MapPlace.TheVariants as place
use Rattle.corten_base.specs.declared.calls.Reply.{Reply}
use Rattle.corten_base.specs.declared.calls.Reply.TheVariants as reply
use Rattle.corten_base.specs.declared.permissions.Perm.{Perm}
use Rattle.page_map.specs.Mapping.{is_mappable, gap}
use Rattle.page_map.specs.Remap.{Resize, resize_of, put_at}
use Rattle.page_map.specs.State.{State, AddressSpace, levels, space_at, is_present}
use Rattle.page_map.specs.Step.{arguments, refused_unless}
use Rattle.table_place.specs.Place.{pages_of}
use Rattle.held_needs.specs.Calls.{IsHeldFor, AnswersNeed}
use Rattle.held_spans.specs.declared.resizing.Placing.{Placing}
use Rattle.held_spans.specs.declared.resizing.Placing.TheVariants.{Stays, Moves}
use Rattle.held_spans.specs.Resizing.{IsPlaced}
use Rattle.machine_plan.specs.declared.kit.Kit.{Kit}
use Rattle.machine_plan.specs.Books.{BookData, state_of}
use Rattle.machine_plan.specs.HeldRows.{Row}
use Rattle.machine_plan.specs.Uses.{early_refusal}
use Rattle.range_cursor.specs.Arena.{SeesArena, place_refusal, RefusesPlace, GivesPlace}
use Rattle.range_cursor.specs.Joined.{AnswersPlace, AnswersNeeds}
use Rattle.range_cursor.specs.Plans.{IsPlannable}
use Rattle.range_cursor.specs.Resized.{SeesResize, RefusesResize, GivesPlacing, placed_by}

none_some : {A B : Type 0} {a : Option A} {x : A} → a ≡ None → a ≡ Some x → B
none_some e f = absurd (apart (sym e ∙ f))
  where
    apart : {A : Type 0} {x : A} → ◌≡◌ {A = Option A} None (Some x) → ⊥
    apart e = cc e

none_is : {A : Type 0} (o : Option A) → IsNone o → o ≡ None
none_is None h = refl
none_is (Some x) h = absurd (apart h)
  where
    apart : true ≡ false → ⊥
    apart e = cc e

first_none : {A : Type 0} (a b : Option A) → option_or a b ≡ None → a ≡ None
first_none None b e = refl
first_none (Some x) b e = none_some e refl

-- the refusals of a mapping that names no place
parts_none : (a p q : Option Reply) → option_or a (option_or p (option_or None (option_or q (option_or None None)))) ≡ None → option_or p q ≡ None
parts_none None None None e = refl
parts_none None None (Some y) e = none_some e refl
parts_none None (Some x) q e = none_some e refl
parts_none (Some x) p q e = none_some e refl

module _ (depth thread : ℕ) (rows : List Row) where
  module _ (space len : ℕ) (perm : Perm) (what : Backing) where
    abbrev mapping : Call
    mapping = call.Map space place.Any len perm what

    sees_arena : (st : State) → IsHeldFor depth rows thread mapping st → SeesArena st depth thread space rows
    sees_arena st held = record {
      consistent = held.state.consistent;
      same_levels = held.state.same_levels;
      shown = held.state.shown;
      cover = held.cover;
      one_space = held.one_space space refl;
    }

    pub gap_is : (page count : ℕ) → count ≡ pages_of len → GivesPlace depth thread space count rows page → AnswersPlace depth thread rows mapping page
    gap_is page count e given st held = ap (gap thread (space_at st space)) (sym e) ∙ (given st (sees_arena st held)).1

    pub gap_none : (r : Reply) (count to : ℕ) → count ≡ pages_of len → RefusesPlace depth thread space count rows r → AnswersPlace depth thread rows mapping to
    gap_none r count to e refused st held =
        none_some (parts_none (refused_unless (is_mappable (levels st) st.files len what) reply.Einval) (refused_unless (is_present st space) reply.NoSpace) (refused_unless (is_some (gap thread (space_at st space) (pages_of len))) reply.NoRoom) held.passed)
        (ap (place_refusal st thread space) (sym e) ∙ refused st (sees_arena st held))

    -- a length of 0 is refused
    pub gap_wrong : (to : ℕ) → len ≡ 0 → AnswersPlace depth thread rows mapping to
    gap_wrong to e st held = absurd (not_passed held.passed)
      where
        not_passed : early_refusal st thread mapping ≡ None → ⊥
        not_passed h = none_some (first_none (refused_unless (is_mappable (levels st) st.files len what) reply.Einval) _ h) (ap (λ n. refused_unless (is_mappable (levels st) st.files n what) reply.Einval) e)

  module _ (space at old_len new_len : ℕ) where
    abbrev resizing : Call
    resizing = call.Remap space at old_len new_len

    sees_resize : (st : State) → IsHeldFor depth rows thread resizing st → SeesResize st depth space at old_len new_len rows
    sees_resize st held = record {
      consistent = held.state.consistent;
      same_levels = held.state.same_levels;
      shown = held.state.shown;
      cover = λ a b. held.cover;
      one_space = held.one_space space refl;
    }

    put_is : (number : ℕ) (cells : AddressSpace) (r : Resize) (p : Placing) → IsPlaced number thread cells r (Some p) → put_at number thread cells r ≡ placed_by r p
    put_is number cells r Stays is = ap (λ b. cond b (unwrap_or (gap thread cells r.new) 0) r.first) is.1
    put_is number cells r (Moves to) is = (λ i. cond (is.1 i) (unwrap_or (is.2 i) 0) r.first)

    pub resized_is : (r : Resize) (p : Placing) (to : ℕ) → r ≡ resize_of at old_len new_len → to ≡ placed_by r p → GivesPlacing depth thread space at old_len new_len rows p → AnswersPlace depth thread rows resizing to
    resized_is r p to same is given st held =
        ap (λ l. put_at l thread (space_at st space) (resize_of at old_len new_len)) held.state.same_levels
        ∙ put_is depth (space_at st space) (resize_of at old_len new_len) p (given st (sees_resize st held)).1
        ∙ ap (λ x. placed_by x p) (sym same) ∙ sym is

    pub resize_none : (r : Reply) (to : ℕ) → RefusesResize depth thread space at old_len new_len rows r → AnswersPlace depth thread rows resizing to
    resize_none r to refused st held = none_some held.passed (refused st (sees_resize st held))

  module _ (c : Call) (kit : Kit) where
    held_for : (b : BookData) (files : List (List ℕ)) → thread < 8 → IsPlannable b thread c depth files rows kit → early_refusal (state_of b) thread c ≡ None → IsHeldFor depth rows thread c (state_of b)
    held_for b files small may passed = record {
      state = record { consistent = may.consistent; same_levels = may.same_levels; shown = may.shown };
      known = small;
      cover = may.cover (ap is_some (first_none (arguments (state_of b) c) _ passed));
      one_space = may.one_space;
      passed = passed;
    }

    pub needs_by : (to needed : ℕ) → thread < 8 → AnswersPlace depth thread rows c to → AnswersNeed depth rows c to kit.pieces.items needed → AnswersNeeds depth thread rows kit c needed
    needs_by to needed small placed needs b files may none =
        let passed = none_is (early_refusal (state_of b) thread c) none in
        let held = held_for b files small may passed in
        sym (needs thread (state_of b) held (placed (state_of b) held) (may.pieces none))
