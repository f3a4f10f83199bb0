-- A plan of a call, from what was done to the kit and the rows.
--     lists_same, ready      what a call asks of its lists and its references, where it makes no copy of a space
--     plan_refused      nothing but the reply, where the call is refused
--     plan_drawn, plan_granted      the references of a range, where it is not
use Rattle.std.specs.Prelude.{◌≡◌, ℕ, ◌≤◌, ◌&&◌, Bool, false, List, [], length, is_some, Some, None}
use Rattle.std.specs.Option.{option_map_or}
use Rattle.std.specs.List.{AllZip, filter}
use Rattle.std.specs.FinMap as fin
use Rattle.std.proofs.Common.{sym, refl, ◌∙◌, ap, subst, arith}
use Rattle.std.proofs.lemmas.Bool.{eq-eqb, false≢true}
use Rattle.corten_base.specs.declared.calls.Call.{Call}
use Rattle.corten_base.specs.declared.calls.Call.TheVariants as call
use Rattle.corten_base.specs.declared.calls.Reply.{Reply}
use Rattle.counted_pages.specs.Pages.{PageCounts}
use Rattle.page_map.specs.Cell.{frame_of, slot_of}
use Rattle.page_map.specs.Effect.{space_of}
use Rattle.page_map.specs.State.{space_at}
use Rattle.table_place.specs.Range.{within}
use Rattle.machine_plan.specs.declared.kit.Kit.{Kit}
use Rattle.machine_plan.specs.Books.{BookData, state_of}
use Rattle.machine_plan.specs.HeldRows.{Row, AreAsked}
use Rattle.machine_plan.specs.Kits.{HasRoom, HasFew, HasLists, IsServed, IsIdle, Seconds, Refs, AreBacked, AreReady}
use Rattle.machine_plan.specs.Moving.{HasPieces}
use Rattle.machine_plan.specs.Uses.{wants_of, uses_page, used_cells, refs_of, changes_of, early_refusal}
use Rattle.range_cursor.specs.Drawing.{reaches, IsDrawnRow, DrawsPages}
use Rattle.range_cursor.specs.Plans.{is_fork, IsPlannable, Needs, Plans}
use Rattle.range_cursor.specs.Ranges.{HasFewRefs}
use Rattle.range_cursor.proofs.Planned.{zip_of}
use Rattle.range_cursor.proofs.Wanting.{frames_shown, slots_shown, frames_backed, slots_backed}

pub lists_same : (c : Call) (kit kit' : Kit) → kit'.bytes ≡ kit.bytes → kit'.copy ≡ kit.copy → HasLists c kit → HasLists c kit'
lists_same (call.Load space at len) kit kit' bytes copy lists = ((lists.0.0, bytes ∙ lists.0.1, lists.0.2), (lists.1.0, copy ∙ lists.1.1, lists.1.2))
lists_same (call.Store space at b) kit kit' bytes copy lists = tt
lists_same (call.Fault space at write) kit kit' bytes copy lists = tt
lists_same (call.Map space where_to len perm what) kit kit' bytes copy lists = tt
lists_same (call.Unmap space at len) kit kit' bytes copy lists = tt
lists_same (call.Protect space at len perm) kit kit' bytes copy lists = tt
lists_same call.Spawn kit kit' bytes copy lists = tt
lists_same (call.Fork space) kit kit' bytes copy lists = tt
lists_same (call.Exit space) kit kit' bytes copy lists = tt
lists_same (call.SwapOut space at len) kit kit' bytes copy lists = tt
lists_same (call.SwapIn space at len) kit kit' bytes copy lists = tt
lists_same (call.Txn space at len ops) kit kit' bytes copy lists = tt
lists_same (call.DontNeed space at len) kit kit' bytes copy lists = tt
lists_same (call.Remap space at old_len new_len) kit kit' bytes copy lists = tt

pub ready : (c : Call) → is_fork c ≡ false → (counts : PageCounts) (refs : Refs) (seconds : Seconds) → AreBacked counts refs → seconds ≡ [] → AreReady c counts refs seconds
ready (call.Load space at len) e counts refs seconds backed none = (backed, none)
ready (call.Store space at b) e counts refs seconds backed none = (backed, none)
ready (call.Fault space at write) e counts refs seconds backed none = (backed, none)
ready (call.Map space where_to len perm what) e counts refs seconds backed none = (backed, none)
ready (call.Unmap space at len) e counts refs seconds backed none = (backed, none)
ready (call.Protect space at len perm) e counts refs seconds backed none = (backed, none)
ready call.Spawn e counts refs seconds backed none = (backed, none)
ready (call.Fork space) e counts refs seconds backed none = absurd (false≢true (sym e))
ready (call.Exit space) e counts refs seconds backed none = (backed, none)
ready (call.SwapOut space at len) e counts refs seconds backed none = (backed, none)
ready (call.SwapIn space at len) e counts refs seconds backed none = (backed, none)
ready (call.Txn space at len ops) e counts refs seconds backed none = (backed, none)
ready (call.DontNeed space at len) e counts refs seconds backed none = (backed, none)
ready (call.Remap space at old_len new_len) e counts refs seconds backed none = (backed, none)

module _ (b : BookData) (thread : ℕ) (c : Call) (depth : ℕ) (files : List (List ℕ)) (rows : List Row) (kit : Kit) (may : IsPlannable b thread c depth files rows kit) (served : IsServed c) where
  few_none : (kit' : Kit) → IsIdle kit' → HasFew kit'
  few_none kit' idle = record { wants = omega (arith, ap length idle.wants); frames = omega (arith, ap length idle.frames); slots = omega (arith, ap length idle.slots) }

  idle_kept : (kit' : Kit) → kit'.wants.items ≡ kit.wants.items → kit'.own_frames.items ≡ kit.own_frames.items → kit'.own_slots.items ≡ kit.own_slots.items → kit'.changes.items ≡ kit.changes.items → IsIdle kit'
  idle_kept kit' w f s ch = record { wants = w ∙ may.idle.wants; frames = f ∙ may.idle.frames; slots = s ∙ may.idle.slots; changes = ch ∙ may.idle.changes }

  pub plan_refused : (reply : Reply) (rows' : List Row) (kit' : Kit) → kit' ≡ record kit { early = Some reply; pieces = kit'.pieces } → kit'.pieces.items ≡ [] → early_refusal (state_of b) thread c ≡ Some reply → rows' ≡ rows
      → Plans b thread c rows kit rows' kit'
  unfolding few_none idle_kept
  plan_refused reply rows' kit' is none early untouched = record {
    filled = record {
      room = subst HasRoom (sym is) (record {
        wants = may.room.wants;
        own_frames = may.room.own_frames;
        own_slots = may.room.own_slots;
        second_frames = may.room.second_frames;
        second_slots = may.room.second_slots;
        frames = may.room.frames;
        slots = may.room.slots;
        rows = may.room.rows;
        gone = may.room.gone;
        changes = may.room.changes;
      });
      few = few_none kit' idle;
      ungranted = record {
        frames = ap (λ (k : Kit). k.frames.items) is ∙ may.ungranted.frames;
        slots = ap (λ (k : Kit). k.slots.items) is ∙ may.ungranted.slots;
        rows = ap (λ (k : Kit). k.rows.items) is ∙ may.ungranted.rows;
        gone = ap (λ (k : Kit). k.gone.items) is ∙ may.ungranted.gone;
        not_done = ap (λ (k : Kit). k.done) is ∙ may.ungranted.not_done;
      };
      served = served;
      lists = lists_same c kit kit' (ap (λ (k : Kit). k.bytes) is) (ap (λ (k : Kit). k.copy) is) may.lists;
      early = early_is ∙ sym early;
      planned = λ no. absurd (false≢true (sym no ∙ ap is_some early_is));
      refused = λ some. idle;
      unmoved = λ some. none;
    };
    drawn = λ no. absurd (false≢true (sym no ∙ ap is_some early_is));
    untouched = λ some. untouched;
  }
    where
      early_is : kit'.early ≡ Some reply
      early_is = ap (λ (k : Kit). k.early) is

      idle : IsIdle kit'
      idle = idle_kept kit' (ap (λ (k : Kit). k.wants.items) is) (ap (λ (k : Kit). k.own_frames.items) is) (ap (λ (k : Kit). k.own_slots.items) is) (ap (λ (k : Kit). k.changes.items) is)

  -- the references of so many pages from the first one on, which are all that the call uses
  module _ (space first n needed : ℕ) (few : HasFewRefs rows) (used : used_cells (state_of b) (state_of b) thread c ≡ filter (λ e. within first n e.0) (fin.entries (space_at (state_of b) space))) (needs : Needs b thread c needed)
      (rows' : List Row) (kit' : Kit) (draws : DrawsPages space first n rows rows' kit'.own_frames.items kit'.own_slots.items)
      (is : kit' ≡ record kit { early = None; rows_needed = needed; wants = kit'.wants; own_frames = kit'.own_frames; own_slots = kit'.own_slots; changes = kit'.changes }) where
    pub plan_drawn : AllZip (IsDrawnRow (uses_page (state_of b) thread c)) rows rows' → AreReady c b.frames kit'.own_frames.items kit'.second_frames.items → AreReady c b.slots kit'.own_slots.items kit'.second_slots.items
        → early_refusal (state_of b) thread c ≡ None → AreAsked space rows first n → HasRoom kit' → length kit'.wants.items ≤ 4096 → kit'.wants.items ≡ wants_of (state_of b) c → kit'.changes.items ≡ changes_of (state_of b) thread c
        → Plans b thread c rows kit rows' kit'
    plan_drawn drawn frames_ready slots_ready early asked room few_wants wants changes = record {
      filled = record {
        room = room;
        few = record { wants = few_wants; frames = few.frames space first n _ draws.frames_are; slots = few.slots space first n _ draws.slots_are };
        ungranted = record {
          frames = ap (λ (k : Kit). k.frames.items) is ∙ may.ungranted.frames;
          slots = ap (λ (k : Kit). k.slots.items) is ∙ may.ungranted.slots;
          rows = ap (λ (k : Kit). k.rows.items) is ∙ may.ungranted.rows;
          gone = ap (λ (k : Kit). k.gone.items) is ∙ may.ungranted.gone;
          not_done = ap (λ (k : Kit). k.done) is ∙ may.ungranted.not_done;
        };
        served = served;
        lists = lists_same c kit kit' (ap (λ (k : Kit). k.bytes) is) (ap (λ (k : Kit). k.copy) is) may.lists;
        early = ap (λ (k : Kit). k.early) is ∙ sym early;
        planned = λ none. record {
          rows = ap (λ (k : Kit). k.rows_needed) is ∙ needs (ap is_some early);
          wants = wants;
          frames = frames_shown (state_of b) may.consistent space rows may.shown _ _ _ asked draws.frames_are ∙ ap (refs_of frame_of) (sym used);
          slots = slots_shown (state_of b) may.consistent space rows may.shown _ _ _ asked draws.slots_are ∙ ap (refs_of slot_of) (sym used);
          frames_ready = frames_ready;
          slots_ready = slots_ready;
          changes = changes;
          pieces = subst (HasPieces (state_of b) thread c) (sym (ap (λ (k : Kit). k.pieces.items) is)) (may.pieces (ap is_some early));
        };
        refused = λ some. absurd (false≢true (ap is_some (sym (ap (λ (k : Kit). k.early) is)) ∙ some));
        unmoved = λ some. absurd (false≢true (ap is_some (sym (ap (λ (k : Kit). k.early) is)) ∙ some));
      };
      drawn = λ none. drawn;
      untouched = λ some. absurd (false≢true (ap is_some (sym (ap (λ (k : Kit). k.early) is)) ∙ some));
    }

    pub frames_are_ready : is_fork c ≡ false → AreReady c b.frames kit'.own_frames.items kit'.second_frames.items
    frames_are_ready no_fork = ready c no_fork b.frames _ _ (frames_backed b space rows (may.backed no_fork) _ _ _ draws.frames_are) (ap (λ (k : Kit). k.second_frames.items) is ∙ (may.no_seconds no_fork).0)

    pub slots_are_ready : is_fork c ≡ false → AreReady c b.slots kit'.own_slots.items kit'.second_slots.items
    slots_are_ready no_fork = ready c no_fork b.slots _ _ (slots_backed b space rows (may.backed no_fork) _ _ _ draws.slots_are) (ap (λ (k : Kit). k.second_slots.items) is ∙ (may.no_seconds no_fork).1)

  -- the same where the call uses the pages of the range and no others
  module _ (space first n needed : ℕ) (few : HasFewRefs rows) (no_fork : is_fork c ≡ false) (space_is : space_of c ≡ Some space) (uses : (s page : ℕ) → uses_page (state_of b) thread c s page ≡ reaches space first n s page) (needs : Needs b thread c needed)
      (rows' : List Row) (kit' : Kit) (draws : DrawsPages space first n rows rows' kit'.own_frames.items kit'.own_slots.items)
      (is : kit' ≡ record kit { early = None; rows_needed = needed; wants = kit'.wants; own_frames = kit'.own_frames; own_slots = kit'.own_slots; changes = kit'.changes }) where
    used_range : used_cells (state_of b) (state_of b) thread c ≡ filter (λ e. within first n e.0) (fin.entries (space_at (state_of b) space))
    used_range =
        ap (λ o. option_map_or (λ s. filter (λ e. uses_page (state_of b) thread c s e.0) (fin.entries (space_at (state_of b) s))) o []) space_is
        ∙ (λ i. filter (λ e. (uses space e.0 ∙ ap (λ t. t && within first n e.0) (eq-eqb space space refl)) i) (fin.entries (space_at (state_of b) space)))

    pub plan_granted : early_refusal (state_of b) thread c ≡ None → AreAsked space rows first n → HasRoom kit' → length kit'.wants.items ≤ 4096 → kit'.wants.items ≡ wants_of (state_of b) c → kit'.changes.items ≡ changes_of (state_of b) thread c
        → Plans b thread c rows kit rows' kit'
    plan_granted =
        plan_drawn space first n needed few used_range needs rows' kit' draws is
        (subst (λ (u : ℕ → ℕ → Bool). AllZip (IsDrawnRow u) rows rows') (λ i s page. sym (uses s page) i) (zip_of (IsDrawnRow (reaches space first n)) rows rows' draws.drawn.as_many draws.drawn.each))
        (frames_are_ready space first n needed few used_range needs rows' kit' draws is no_fork) (slots_are_ready space first n needed few used_range needs rows' kit' draws is no_fork)
