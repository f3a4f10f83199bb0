-- Plans of moves to swap and back.
--     out_refused, out_granted      a move to swap slots
--     in_refused, in_granted      one back to frames
use Rattle.std.specs.Prelude.{◌≡◌, ℕ, ◌/◌, ◌≤◌, Bool, false, List, [], map, length, Option, Some, None}
use Rattle.std.specs.Option.{option_or}
use Rattle.std.specs.List.{filter}
use Rattle.std.specs.Vec.{vec_capacity}
use Rattle.std.specs.FinMap as fin
use Rattle.std.proofs.Common.{sym, refl, ◌∙◌, ap, subst, arith}
use Rattle.std.proofs.lemmas.List.{length-map}
use Rattle.corten_base.specs.declared.calls.Call.TheVariants as call
use Rattle.corten_base.specs.declared.calls.Reply.{Reply}
use Rattle.page_map.specs.State.{State, levels, space_at}
use Rattle.table_place.specs.Place.{pages_of}
use Rattle.table_place.specs.Range.{within}
use Rattle.machine_plan.specs.declared.kit.Kit.{Kit}
use Rattle.machine_plan.specs.Books.{BookData, state_of}
use Rattle.machine_plan.specs.HeldRows.{Row}
use Rattle.machine_plan.specs.Kits.{HasRoom}
use Rattle.machine_plan.specs.Uses.{wants_of, changes_of, early_refusal}
use Rattle.range_cursor.specs.Drawing.{DrawsPages}
use Rattle.range_cursor.specs.Moves.{want_out, want_back}
use Rattle.range_cursor.specs.PageRanges.{SeesRange, range_refusal}
use Rattle.range_cursor.specs.Plans.{IsPlannable, Needs, Plans}
use Rattle.range_cursor.specs.Ranges.{HasFewRefs}
use Rattle.range_cursor.proofs.Asking.{range_asked, range_both}
use Rattle.range_cursor.proofs.Granted.{plan_refused, plan_granted}
use Rattle.range_cursor.proofs.Moves.{wants_out, wants_back}
use Rattle.range_cursor.proofs.RangeCalls.{range_sees, out_is, in_is}
use Rattle.range_cursor.proofs.Wanting.{frames_shown, slots_shown}

or_none : (o : Option Reply) → option_or o None ≡ o
or_none None = refl
or_none (Some r) = refl

-- a call that only its range and its space can refuse
pub two_only : (a b : Option Reply) → option_or a (option_or b (option_or None (option_or None (option_or None None)))) ≡ option_or a b
two_only a b = ap (option_or a) (or_none b)

-- other wants, with as much room
pub wants_room : (kit kit' : Kit) → kit' ≡ record kit { wants = kit'.wants } → HasRoom kit → 4096 ≤ vec_capacity kit'.wants → HasRoom kit'
wants_room kit kit' is room wants = subst HasRoom (sym is) (record {
  wants = wants;
  own_frames = room.own_frames;
  own_slots = room.own_slots;
  second_frames = room.second_frames;
  second_slots = room.second_slots;
  frames = room.frames;
  slots = room.slots;
  rows = room.rows;
  gone = room.gone;
  changes = room.changes;
})

module _ (b : BookData) (thread depth space at len needed : ℕ) (files : List (List ℕ)) (rows rows' : List Row) (kit kit' : Kit) where
  out_early : (st : State) → levels st ≡ depth → early_refusal st thread (call.SwapOut space at len) ≡ range_refusal st depth space at len
  out_early st same = two_only _ _ ∙ ap (λ l. range_refusal st l space at len) same

  in_early : (st : State) → levels st ≡ depth → early_refusal st thread (call.SwapIn space at len) ≡ range_refusal st depth space at len
  in_early st same = two_only _ _ ∙ ap (λ l. range_refusal st l space at len) same

  pub out_refused : (reply : Reply) → ((st : State) (strict : Bool) → SeesRange st depth space at len strict rows → range_refusal st depth space at len ≡ Some reply) → kit' ≡ record kit { early = Some reply; pieces = kit'.pieces } → kit'.pieces.items ≡ [] → rows' ≡ rows
      → IsPlannable b thread (call.SwapOut space at len) depth files rows kit → Plans b thread (call.SwapOut space at len) rows kit rows' kit'
  out_refused reply because is none same may =
      plan_refused b thread (call.SwapOut space at len) depth files rows kit may tt reply rows' kit' is none
      (out_early (state_of b) may.same_levels ∙ because (state_of b) false (range_sees b thread (call.SwapOut space at len) depth space at len false files rows kit (out_is (state_of b) thread space at len) may)) same

  pub in_refused : (reply : Reply) → ((st : State) (strict : Bool) → SeesRange st depth space at len strict rows → range_refusal st depth space at len ≡ Some reply) → kit' ≡ record kit { early = Some reply; pieces = kit'.pieces } → kit'.pieces.items ≡ [] → rows' ≡ rows
      → IsPlannable b thread (call.SwapIn space at len) depth files rows kit → Plans b thread (call.SwapIn space at len) rows kit rows' kit'
  in_refused reply because is none same may =
      plan_refused b thread (call.SwapIn space at len) depth files rows kit may tt reply rows' kit' is none
      (in_early (state_of b) may.same_levels ∙ because (state_of b) false (range_sees b thread (call.SwapIn space at len) depth space at len false files rows kit (in_is (state_of b) thread space at len) may)) same

  module _ (few : HasFewRefs rows) (granted : (st : State) (strict : Bool) → SeesRange st depth space at len strict rows → range_refusal st depth space at len ≡ None)
      (draws : DrawsPages space (at / 4096) (pages_of len) rows rows' kit'.own_frames.items kit'.own_slots.items) (room : HasRoom kit')
      (is : kit' ≡ record kit { early = None; rows_needed = needed; wants = kit'.wants; own_frames = kit'.own_frames; own_slots = kit'.own_slots; changes = kit'.changes }) (no_changes : kit'.changes.items ≡ kit.changes.items) where
    pub out_granted : kit'.wants.items ≡ map want_out kit'.own_frames.items → IsPlannable b thread (call.SwapOut space at len) depth files rows kit → Needs b thread (call.SwapOut space at len) needed → Plans b thread (call.SwapOut space at len) rows kit rows' kit'
    unfolding wants_of changes_of
    out_granted wants may needs =
        let sees = range_sees b thread (call.SwapOut space at len) depth space at len false files rows kit (out_is (state_of b) thread space at len) may in
        let none = granted (state_of b) false sees in
        let both = range_both (state_of b) depth space at len none in
        let asked = range_asked (state_of b) depth space at len false rows sees both.0 both.1 in
        plan_granted b thread (call.SwapOut space at len) depth files rows kit may tt space (at / 4096) (pages_of len) needed few refl refl (λ s page. refl) needs rows' kit' draws is (out_early (state_of b) may.same_levels ∙ none) asked room
        (omega (arith, ap length wants, length-map kit'.own_frames.items want_out, few.frames space (at / 4096) (pages_of len) _ draws.frames_are))
        (wants ∙ wants_out kit'.own_frames.items (filter (λ e. within (at / 4096) (pages_of len) e.0) (fin.entries (space_at (state_of b) space))) (frames_shown (state_of b) may.consistent space rows may.shown _ _ _ asked draws.frames_are))
        (no_changes ∙ may.idle.changes)

    pub in_granted : kit'.wants.items ≡ map want_back kit'.own_slots.items → IsPlannable b thread (call.SwapIn space at len) depth files rows kit → Needs b thread (call.SwapIn space at len) needed → Plans b thread (call.SwapIn space at len) rows kit rows' kit'
    unfolding wants_of changes_of
    in_granted wants may needs =
        let sees = range_sees b thread (call.SwapIn space at len) depth space at len false files rows kit (in_is (state_of b) thread space at len) may in
        let none = granted (state_of b) false sees in
        let both = range_both (state_of b) depth space at len none in
        let asked = range_asked (state_of b) depth space at len false rows sees both.0 both.1 in
        plan_granted b thread (call.SwapIn space at len) depth files rows kit may tt space (at / 4096) (pages_of len) needed few refl refl (λ s page. refl) needs rows' kit' draws is (in_early (state_of b) may.same_levels ∙ none) asked room
        (omega (arith, ap length wants, length-map kit'.own_slots.items want_back, few.slots space (at / 4096) (pages_of len) _ draws.slots_are))
        (wants ∙ wants_back kit'.own_slots.items (filter (λ e. within (at / 4096) (pages_of len) e.0) (fin.entries (space_at (state_of b) space))) (slots_shown (state_of b) may.consistent space rows may.shown _ _ _ asked draws.slots_are))
        (no_changes ∙ may.idle.changes)
