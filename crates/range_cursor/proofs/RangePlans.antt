-- Plans of calls on a range of pages.
--     begun_by, taken_by, changed_by      what was done to a kit one step after another
--     draws_kept      a change in the kit leaves its references
--     first_refused, rest_refused      a call that is refused for its range or its space, or for what else refuses it
--     hole_told      what a hole of a range is told as
--     range_granted, still_granted      one that is not refused, with the references of its range, or without
use Rattle.std.specs.Prelude.{◌≡◌, ℕ, ◌/◌, ◌≤◌, ◌&&◌, Bool, true, false, List, [], length, nat_eq, is_none, Option, Some, None}
use Rattle.std.specs.Option.{option_or}
use Rattle.std.proofs.Common.{sym, refl, ◌∙◌, ap, subst, arith}
use Rattle.corten_base.specs.declared.calls.Call.{Call}
use Rattle.corten_base.specs.declared.calls.Reply.{Reply}
use Rattle.counted_pages.specs.Pages.{CountedPage}
use Rattle.page_map.specs.Change.{least}
use Rattle.page_map.specs.Mapping.{hole}
use Rattle.page_map.specs.State.{State, levels, space_at, cell_at}
use Rattle.page_map.specs.Step.{hole_reply}
use Rattle.page_map.proofs.Range.{inside as inside_range}
use Rattle.table_place.specs.Place.{pages_of}
use Rattle.table_place.specs.Range.{within}
use Rattle.machine_plan.specs.declared.kit.Kit.{Kit}
use Rattle.machine_plan.specs.Books.{BookData, state_of}
use Rattle.machine_plan.specs.HeldRows.{Row, AreAsked, RowsShown}
use Rattle.machine_plan.specs.Kits.{HasRoom}
use Rattle.machine_plan.specs.Uses.{wants_of, uses_page, changes_of, early_refusal}
use Rattle.range_cursor.specs.Drawing.{DrawsPages, reaches}
use Rattle.range_cursor.specs.PageRanges.{SeesRange, range_refusal, AnswersRange}
use Rattle.range_cursor.specs.Plans.{IsPlannable, Needs, Plans, IsFilledBy}
use Rattle.range_cursor.specs.Ranges.{HasFewRefs}
use Rattle.range_cursor.proofs.Asking.{range_asked, range_both}
use Rattle.range_cursor.proofs.Granted.{plan_refused, plan_granted}
use Rattle.range_cursor.proofs.RangeCalls.{IsRangeCall, range_sees}
use Rattle.range_cursor.proofs.Taken.{none_drawn}

pub begun_by : (needed : ℕ) (k0 k1 : Kit) → k1 ≡ record k0 { early = None; rows_needed = needed } → IsFilledBy needed k0 k1
begun_by needed k0 k1 is = ap (λ (k : Kit). record k { wants = k1.wants; own_frames = k1.own_frames; own_slots = k1.own_slots; changes = k1.changes }) is

pub taken_by : (needed : ℕ) (k0 k1 : Kit) → k1 ≡ record k0 { early = None; rows_needed = needed; own_frames = k1.own_frames; own_slots = k1.own_slots } → IsFilledBy needed k0 k1
taken_by needed k0 k1 is = ap (λ (k : Kit). record k { wants = k1.wants; own_frames = k1.own_frames; own_slots = k1.own_slots; changes = k1.changes }) is

pub changed_by : (needed : ℕ) (k0 k1 k2 : Kit) → IsFilledBy needed k0 k1 → k2 ≡ record k1 { changes = k2.changes } → IsFilledBy needed k0 k2
changed_by needed k0 k1 k2 was is =
    ap (λ (k : Kit). record k { wants = k2.wants; own_frames = k2.own_frames; own_slots = k2.own_slots; changes = k2.changes }) (is ∙ ap (λ (k : Kit). record k { changes = k2.changes }) was)

pub draws_kept : (space first n : ℕ) (rows rows' : List Row) (k1 k2 : Kit) → k2 ≡ record k1 { changes = k2.changes } → DrawsPages space first n rows rows' k1.own_frames.items k1.own_slots.items → DrawsPages space first n rows rows' k2.own_frames.items k2.own_slots.items
draws_kept space first n rows rows' k1 k2 is draws =
    subst (λ (fs : List (ℕ × CountedPage)). DrawsPages space first n rows rows' fs k2.own_slots.items) (sym (ap (λ (k : Kit). k.own_frames.items) is))
    (subst (λ (ss : List (ℕ × CountedPage)). DrawsPages space first n rows rows' k1.own_frames.items ss) (sym (ap (λ (k : Kit). k.own_slots.items) is)) draws)

module _ (b : BookData) (thread : ℕ) (c : Call) (depth space at len : ℕ) (strict : Bool) (files : List (List ℕ)) (rows : List Row) (kit : Kit) (is : IsRangeCall (state_of b) thread c space at len strict) (rest : Option Reply)
    (early : early_refusal (state_of b) thread c ≡ option_or (range_refusal (state_of b) (levels (state_of b)) space at len) rest) (may : IsPlannable b thread c depth files rows kit) where
  pub sees : SeesRange (state_of b) depth space at len strict rows
  sees = range_sees b thread c depth space at len strict files rows kit is may

  early_depth : early_refusal (state_of b) thread c ≡ option_or (range_refusal (state_of b) depth space at len) rest
  early_depth = early ∙ ap (λ l. option_or (range_refusal (state_of b) l space at len) rest) may.same_levels

  pub first_refused : (reply : Reply) (kit' : Kit) → AnswersRange depth space at len rows (Some reply) → kit' ≡ record kit { early = Some reply; pieces = kit'.pieces } → kit'.pieces.items ≡ [] → Plans b thread c rows kit rows kit'
  first_refused reply kit' because done none =
      plan_refused b thread c depth files rows kit may is.served reply rows kit' done none (early_depth ∙ ap (λ o. option_or o rest) (because (state_of b) strict sees)) refl

  module _ (granted : AnswersRange depth space at len rows None) where
    pub asked : AreAsked space rows (at / 4096) (pages_of len)
    asked = let both = range_both (state_of b) depth space at len (granted (state_of b) strict sees) in range_asked (state_of b) depth space at len strict rows sees both.0 both.1

    pub early_rest : early_refusal (state_of b) thread c ≡ rest
    early_rest = early_depth ∙ ap (λ o. option_or o rest) (granted (state_of b) strict sees)

    pub rest_refused : (reply : Reply) (kit' : Kit) → rest ≡ Some reply → kit' ≡ record kit { early = Some reply; pieces = kit'.pieces } → kit'.pieces.items ≡ [] → Plans b thread c rows kit rows kit'
    rest_refused reply kit' because done none = plan_refused b thread c depth files rows kit may is.served reply rows kit' done none (early_rest ∙ because) refl

    module _ (needed : ℕ) (needs : Needs b thread c needed) (few : HasFewRefs rows) (allowed : rest ≡ None) (kit' : Kit) (done : IsFilledBy needed kit kit') (room : HasRoom kit') (changes : kit'.changes.items ≡ changes_of (state_of b) thread c) where
      pub range_granted : (rows' : List Row) → ((s page : ℕ) → uses_page (state_of b) thread c s page ≡ reaches space (at / 4096) (pages_of len) s page) → DrawsPages space (at / 4096) (pages_of len) rows rows' kit'.own_frames.items kit'.own_slots.items
          → kit'.wants.items ≡ wants_of (state_of b) c → length kit'.wants.items ≤ 4096 → Plans b thread c rows kit rows' kit'
      range_granted rows' uses draws wants few_wants =
          plan_granted b thread c depth files rows kit may is.served space (at / 4096) (pages_of len) needed few is.no_fork is.space_is uses needs rows' kit' draws done (early_rest ∙ allowed) asked room few_wants wants changes

      -- no page is used
      pub still_granted : ((s page : ℕ) → uses_page (state_of b) thread c s page ≡ false) → kit'.wants.items ≡ [] → kit'.own_frames.items ≡ [] → kit'.own_slots.items ≡ [] → wants_of (state_of b) c ≡ [] → Plans b thread c rows kit rows kit'
      still_granted uses wants frames slots none =
          plan_granted b thread c depth files rows kit may is.served space (at / 4096) 0 needed few is.no_fork is.space_is (λ s page. uses s page ∙ sym (nothing s page)) needs rows kit'
          (record { drawn = none_drawn space (at / 4096) rows; frames_are = frames; slots_are = slots }) done (early_rest ∙ allowed) (λ page h. absurd (no_page page h)) room (omega (arith, ap length wants)) (wants ∙ sym none) changes
        where
          no_page : (page : ℕ) → within (at / 4096) 0 page ≡ true → ⊥
          no_page page h = omega (arith, inside_range (at / 4096) 0 page h)

          nothing : (s page : ℕ) → reaches space (at / 4096) 0 s page ≡ false
          nothing s page = go (nat_eq s space) (within (at / 4096) 0 page) refl
            where
              go : (a b : Bool) → within (at / 4096) 0 page ≡ b → (a && b) ≡ false
              go true true e = absurd (no_page page e)
              go true false e = refl
              go false b e = refl

-- what a hole of a range is told as
pub hole_told : (st : State) (rows : List Row) (space at len first n : ℕ) (o : Option Reply) → first ≡ at / 4096 → n ≡ pages_of len
    → ((s : State) (t : ℕ) → AreAsked t rows first n → RowsShown s rows → o ≡ hole_reply (least first n (λ page. is_none (cell_at s t page)))) → AreAsked space rows (at / 4096) (pages_of len) → RowsShown st rows
    → hole_reply (hole (space_at st space) at len) ≡ o
hole_told st rows space at len first n o a b answers asked shown =
    sym (subst (λ x. ((s : State) (t : ℕ) → AreAsked t rows (at / 4096) x → RowsShown s rows → o ≡ hole_reply (least (at / 4096) x (λ page. is_none (cell_at s t page))))) b
    (subst (λ x. ((s : State) (t : ℕ) → AreAsked t rows x n → RowsShown s rows → o ≡ hole_reply (least x n (λ page. is_none (cell_at s t page))))) a answers) st space asked shown)
