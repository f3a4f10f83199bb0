-- Mappings that name no place.
--     arena_right, as_range      a thread's arena is a range of user pages
--     not_there, no_gap, gap_given      an absent space, no gap, and a gap, as the rows tell it
--     any_refused, any_granted      the plan of one that is refused;  of one that is not
use Rattle.std.specs.Prelude.{◌≡◌, ℕ, ◌+◌, ◌*◌, ◌/◌, ◌%◌, ◌-◌, ◌^◌, ◌<◌, ◌≤◌, ◌&&◌, Bool, true, false, List, [], ◌∷◌, length, nat_eq, nat_le, nat_lt, is_some, Option, Some, None}
use Rattle.std.specs.Option.{option_or, unwrap_or}
use Rattle.std.proofs.Common.{sym, refl, ◌∙◌, ap, subst, arith, pow_mono}
use Rattle.std.proofs.lemmas.Bool.{and_from, and_parts, le-leb, lt-ltb, ltb-true, eq-eqb}
use Rattle.corten_base.specs.declared.calls.Backing.{Backing}
use Rattle.corten_base.specs.declared.calls.Call.{Call}
use Rattle.corten_base.specs.declared.calls.Call.TheVariants as call
use Rattle.corten_base.specs.declared.calls.MapPlace.{MapPlace}
use Rattle.corten_base.specs.declared.calls.MapPlace.TheVariants as place
use Rattle.corten_base.specs.declared.calls.Reply.{Reply}
use Rattle.corten_base.specs.declared.calls.Reply.TheVariants as reply
use Rattle.corten_base.specs.declared.calls.TxnOp.TheVariants as op
use Rattle.corten_base.specs.declared.permissions.Perm.{Perm}
use Rattle.page_map.specs.Mapping.{is_backing, is_length, is_mappable, arena_first, gap}
use Rattle.page_map.specs.State.{State, levels, space_at, is_present}
use Rattle.page_map.specs.Step.{refused_unless}
use Rattle.page_map.proofs.Range.{inside as inside_range}
use Rattle.table_place.specs.Place.{is_page_range, is_user_page, pages_of}
use Rattle.table_place.specs.Range.{within}
use Rattle.tree_lock.specs.declared.zone.Zone.TheVariants as zone
use Rattle.machine_plan.specs.declared.kit.Kit.{Kit}
use Rattle.machine_plan.specs.declared.kit.Change.TheVariants as change
use Rattle.machine_plan.specs.Books.{BookData, state_of}
use Rattle.machine_plan.specs.Cover.{HasCover}
use Rattle.machine_plan.specs.Held.{ListHolds}
use Rattle.machine_plan.specs.HeldRows.{Row, AreAsked, AnswersGap}
use Rattle.machine_plan.specs.Kits.{HasRoom}
use Rattle.machine_plan.specs.Uses.{early_refusal, uses_page, wants_of, changes_of}
use Rattle.machine_plan.proofs.Telling.{cover_is_asked}
use Rattle.held_spans.specs.Gaps.{IsWithin}
use Rattle.range_cursor.specs.Arena.{SeesArena, place_refusal, RefusesPlace, GivesPlace}
use Rattle.range_cursor.specs.Drawing.{DrawsPages, reaches}
use Rattle.range_cursor.specs.PageRanges.{SeesRange, range_refusal, AnswersRange}
use Rattle.range_cursor.specs.Plans.{IsPlannable, Needs, Plans, IsFilledBy}
use Rattle.range_cursor.specs.Ranges.{HasFewRefs}
use Rattle.range_cursor.proofs.Asking.{range_asked, page_is_user, range_is_user, first_two_and}
use Rattle.range_cursor.proofs.Granted.{plan_refused, plan_granted}
use Rattle.range_cursor.proofs.MapPlans.{fixed_wrong}
use Rattle.range_cursor.proofs.Present.{root_there}

module _ (depth thread at len : ℕ) (deep : 4 ≤ depth) (few : thread < 8) (start : at ≡ (thread + 1) * 2 ^ 39) (bytes : len ≡ 2 ^ 39) where
  pub first_is : at / 4096 ≡ arena_first thread
  first_is = omega (arith, start)

  pub count_is : pages_of len ≡ 2 ^ 27
  count_is = ap pages_of bytes

  pub arena_right : is_page_range depth at len ≡ true
  arena_right =
      and_from _ _ (and_from _ _ (eq-eqb (at % 4096) 0 (omega (arith, start))) (lt-ltb 0 len (omega (arith, bytes))))
      (and_from _ _ (le-leb 16 (at / 4096) (omega (arith, start))) (lt-ltb (at / 4096 + pages_of len) (2 ^ (9 * depth - 1)) (omega (arith, start, bytes, few, pow_mono (wide depth deep)))))
    where
      wide : (n : ℕ) → 4 ≤ n → 35 ≤ 9 * n - 1
      wide n deep = omega (arith, deep)

  module _ (space count : ℕ) (rows : List Row) where
    as_range : (st : State) → SeesArena st depth thread space rows → SeesRange st depth space at len false rows
    as_range st sees = record {
      consistent = sees.consistent;
      same_levels = sees.same_levels;
      shown = sees.shown;
      cover = λ right. subst (λ f. HasCover (zone.Pages space f (pages_of len) false) st (ListHolds rows)) (sym first_is)
          (subst (λ n. HasCover (zone.Pages space (arena_first thread) n false) st (ListHolds rows)) (sym count_is) sees.cover);
      one_space = sees.one_space;
    }

    refusal_is : (st : State) → range_refusal st depth space at len ≡ refused_unless (is_present st space) reply.NoSpace
    refusal_is st = ap (λ b. option_or (refused_unless b reply.Einval) (refused_unless (is_present st space) reply.NoSpace)) arena_right

    pub not_there : (r : Reply) → AnswersRange depth space at len rows (Some r) → RefusesPlace depth thread space count rows r
    not_there r refused st sees =
        ap (λ o. option_or o (refused_unless (is_some (gap thread (space_at st space) count)) reply.NoRoom)) (sym (refusal_is st) ∙ refused st false (as_range st sees))

    -- the space is there, and the arena's rows tell of its least gap
    module _ (first n : ℕ) (o : Option ℕ) (granted : AnswersRange depth space at len rows None) (a : first ≡ at / 4096) (b : n ≡ pages_of len) (answers : AnswersGap rows first n count o) where
      there : (st : State) → SeesArena st depth thread space rows → is_present st space ≡ true
      there st sees = go (is_present st space) refl (sym (refusal_is st) ∙ granted st false (as_range st sees))
        where
          not_none : ◌≡◌ {A = Option Reply} (Some reply.NoSpace) None → ⊥
          not_none e = cc e

          go : (p : Bool) → is_present st space ≡ p → refused_unless (is_present st space) reply.NoSpace ≡ None → is_present st space ≡ true
          go true e h = e
          go false e h = absurd (not_none (sym (ap (λ p. refused_unless p reply.NoSpace) e) ∙ h))

      gap_told : (st : State) → SeesArena st depth thread space rows → gap thread (space_at st space) count ≡ o
      unfolding gap
      gap_told st sees =
          sym (subst (λ x. AnswersGap rows (arena_first thread) x count o) (b ∙ count_is) (subst (λ x. AnswersGap rows x n count o) (a ∙ first_is) answers) space st
          (subst (λ x. AreAsked space rows (arena_first thread) x) count_is
          (subst (λ x. AreAsked space rows x (pages_of len)) first_is (range_asked st depth space at len false rows (as_range st sees) arena_right (there st sees)))) sees.shown)

      pub no_gap : o ≡ None → RefusesPlace depth thread space count rows reply.NoRoom
      no_gap none st sees =
          (λ i. option_or (refused_unless (there st sees i) reply.NoSpace) (refused_unless (is_some ((gap_told st sees ∙ none) i)) reply.NoRoom))

      pub gap_given : (page : ℕ) → o ≡ Some page → GivesPlace depth thread space count rows page
      gap_given page some st sees = (there st sees, gap_told st sees ∙ some)

-- a length of which a mapping may be
pub some_pages : (depth len : ℕ) (files : List (List ℕ)) (what : Backing) → is_mappable depth files len what ≡ true → 0 < len
some_pages depth len files what right = ltb-true 0 len (and_parts (nat_lt 0 len) (nat_le len (2 ^ (9 * depth + 11))) (and_parts (is_length depth len) (is_backing files what) right).0).0

-- a mapping whose length and backing are wrong
module _ (st : State) (thread space len : ℕ) (perm : Perm) (what : Backing) where
  pub place_wrong : (where_to : MapPlace) → is_mappable (levels st) st.files len what ≡ false → early_refusal st thread (call.Map space where_to len perm what) ≡ Some reply.Einval
  place_wrong place.Any wrong =
      ap (λ m. option_or (refused_unless m reply.Einval) (option_or (refused_unless (is_present st space) reply.NoSpace) (option_or None (option_or (refused_unless (is_some (gap thread (space_at st space) (pages_of len))) reply.NoRoom) (option_or None None))))) wrong
  place_wrong (place.At at) wrong = fixed_wrong st thread space at len perm what false wrong
  place_wrong (place.New at) wrong = fixed_wrong st thread space at len perm what true wrong

  pub any_early : is_mappable (levels st) st.files len what ≡ true → early_refusal st thread (call.Map space place.Any len perm what) ≡ place_refusal st thread space (pages_of len)
  any_early right =
      ap (λ m. option_or (refused_unless m reply.Einval) (option_or (refused_unless (is_present st space) reply.NoSpace) (option_or None (option_or (refused_unless (is_some (gap thread (space_at st space) (pages_of len))) reply.NoRoom) (option_or None None))))) right
      ∙ first_two_and None (refused_unless (is_present st space) reply.NoSpace) (refused_unless (is_some (gap thread (space_at st space) (pages_of len))) reply.NoRoom)

module _ (b : BookData) (thread depth space len : ℕ) (perm : Perm) (what : Backing) (files : List (List ℕ)) (rows : List Row) (kit : Kit) (right : is_mappable depth files len what ≡ true)
    (may : IsPlannable b thread (call.Map space place.Any len perm what) depth files rows kit) where
  abbrev this : Call
  this = call.Map space place.Any len perm what

  right_here : is_mappable (levels (state_of b)) (state_of b).files len what ≡ true
  right_here = (λ i. is_mappable (may.same_levels i) (may.same_files i) len what) ∙ right

  sees : SeesArena (state_of b) depth thread space rows
  sees = record {
    consistent = may.consistent;
    same_levels = may.same_levels;
    shown = may.shown;
    cover = may.cover (ap (λ m. is_some (refused_unless m reply.Einval)) right_here);
    one_space = may.one_space space refl;
  }

  pub any_refused : (answer : Reply) (kit' : Kit) → RefusesPlace depth thread space (pages_of len) rows answer → kit' ≡ record kit { early = Some answer; pieces = kit'.pieces } → kit'.pieces.items ≡ [] → Plans b thread this rows kit rows kit'
  any_refused answer kit' because done none =
      plan_refused b thread this depth files rows kit may tt answer rows kit' done none (any_early (state_of b) thread space len perm what right_here ∙ because (state_of b) sees) refl

  module _ (page : ℕ) (given : GivesPlace depth thread space (pages_of len) rows page) where
    is_there : is_present (state_of b) space ≡ true
    is_there = (given (state_of b) sees).0

    gap_is : gap thread (space_at (state_of b) space) (pages_of len) ≡ Some page
    gap_is = (given (state_of b) sees).1

    any_uses : (s p : ℕ) → uses_page (state_of b) thread this s p ≡ reaches space page (pages_of len) s p
    any_uses s p = (λ i. nat_eq s space && within (4096 * unwrap_or (gap_is i) 0 / 4096) (pages_of len) p) ∙ ap (λ f. nat_eq s space && within f (pages_of len) p) (whole page)
      where
        whole : (n : ℕ) → 4096 * n / 4096 ≡ n
        whole n = omega arith

    any_asked : thread < 8 → IsWithin (arena_first thread) (2 ^ 27) (pages_of len) page → AreAsked space rows page (pages_of len)
    any_asked few inside p h =
        let bounds = inside_range page (pages_of len) p h in
        let user = range_is_user depth ((thread + 1) * 2 ^ 39) (2 ^ 39) (arena_right depth thread ((thread + 1) * 2 ^ 39) (2 ^ 39) (deep may.consistent.some_levels may.same_levels) few refl refl) in
        cover_is_asked (zone.Pages space (arena_first thread) (2 ^ 27) false) (state_of b) rows space p may.consistent may.shown sees.one_space sees.cover (root_there (state_of b) space may.consistent ∙ is_there)
        (ap (λ l. is_user_page l p) may.same_levels ∙ page_is_user depth (((thread + 1) * 2 ^ 39) / 4096) (pages_of (2 ^ 39)) p user (omega (arith, bounds.0, inside.0)) (omega (arith, bounds.1, inside.1)))
        (refl, omega (arith, bounds.0, inside.0), omega (arith, bounds.1, inside.1))
      where
        deep : {l : ℕ} → 4 ≤ l → l ≡ depth → 4 ≤ depth
        deep h e = omega (arith, h, e)

    pub any_granted : (needed : ℕ) (rows' : List Row) (kit' : Kit) → thread < 8 → IsWithin (arena_first thread) (2 ^ 27) (pages_of len) page → Needs b thread this needed → HasFewRefs rows → IsFilledBy needed kit kit' → HasRoom kit'
        → DrawsPages space page (pages_of len) rows rows' kit'.own_frames.items kit'.own_slots.items → kit'.wants.items ≡ [] → kit'.changes.items ≡ change.Op (op.Map (4096 * page) false len perm what) ∷ [] → Plans b thread this rows kit rows' kit'
    unfolding wants_of changes_of
    any_granted needed rows' kit' small inside needs few done room draws wants changes =
        plan_granted b thread this depth files rows kit may tt space page (pages_of len) needed few refl refl any_uses needs rows' kit' draws done
        (any_early (state_of b) thread space len perm what right_here ∙ (λ i. option_or (refused_unless (is_there i) reply.NoSpace) (refused_unless (is_some (gap_is i)) reply.NoRoom)))
        (any_asked small inside) room (omega (arith, ap length wants)) wants
        (changes ∙ ap (λ o. change.Op (op.Map (4096 * unwrap_or o 0) false len perm what) ∷ []) (sym gap_is))
