-- A copied space: its pages, and the lists of the kit.
--     fork_cell      the cells of the state after it
--     ForkLists      each reference is that of its page, and each page with a number has one
--     fork_lists      so it is after a commit
use Rattle.std.specs.Prelude.{◌≡◌, ◌≢◌, ℕ, not, Bool, true, cond, List, [], ◌∷◌, nat_eq, Option, Some}
use Rattle.std.specs.List.{Contains, filter}
use Rattle.std.specs.Option.{unwrap_or, option_map_or}
use Rattle.std.specs.FinMap as fin
use Rattle.std.proofs.Common.{sym, refl, ◌∙◌, ap, subst, eq-eqb, ne_eqb}
use Rattle.corten_base.specs.declared.calls.Call.{Call}
use Rattle.corten_base.specs.declared.calls.Call.TheVariants as call
use Rattle.page_map.specs.declared.cell.Cell.{Cell as PageCell}
use Rattle.page_map.specs.Cell.{frame_of, slot_of}
use Rattle.page_map.specs.Effect.{space_of, state_after, frame_grants, slot_grants}
use Rattle.page_map.specs.Spaces.{least_absent}
use Rattle.page_map.specs.State.{State, space_at, cell_at}
use Rattle.page_map.specs.Takes.{Grant}
use Rattle.page_map.proofs.Cells.{cell_changed}
use Rattle.row_cells.specs.declared.Cell.{Cell}
use Rattle.row_table.specs.declared.view.PassView.{PassView}
use Rattle.machine_plan.specs.declared.kit.Kit.{Kit}
use Rattle.machine_plan.specs.Books.{BookData, state_of}
use Rattle.machine_plan.specs.HeldRows.{Row}
use Rattle.machine_plan.specs.Kits.{Refs, AreBacked, is_granted, new_cells, kept_cells}
use Rattle.machine_plan.specs.Uses.{refs_of, shown_refs, uses_page, used_cells}
use Rattle.cursor_apply.specs.Applying.{IsApplicable}
use Rattle.space_apply.specs.Copying.{CopiesSpace}
use Rattle.cursor_apply.specs.Putting.{AreRefs, pages_of}
use Rattle.cursor_apply.specs.Sharing.{AreFramesAt}
use Rattle.cursor_apply.proofs.KitLists.{refs_now, ref_listed, stayed}
use Rattle.cursor_apply.proofs.Made.{IsMade}
use Rattle.space_apply.proofs.SpacesLeft.{made as was_made}

pub fork_cell : (st : State) (thread space s p : ℕ) → cell_at (state_after st thread (call.Fork space)) s p ≡ cond (nat_eq s (unwrap_or (least_absent st) 0)) (cell_at st space p) (cell_at st s p)
unfolding state_after
fork_cell st thread space s p = cell_changed st (unwrap_or (least_absent st) 0) (space_at st space) st.tables s p

all_pass : (es : List (ℕ × PageCell)) → filter (λ (e : ℕ × PageCell). true) es ≡ es
all_pass [] = refl
all_pass (e ∷ es) = ap (λ (l : List (ℕ × PageCell)). e ∷ l) (all_pass es)

abbrev pub Lists : State → ℕ → (PageCell → Option ℕ) → Refs → Type 0
Lists st s number_of refs = (q : ℕ) (x : PageCell) (n : ℕ) → cell_at st s q ≡ Some x → number_of x ≡ Some n → Contains (pages_of refs) q

pub record ForkLists (b : BookData) (space new : ℕ) (kit : Kit) : Type 0 where
  pub own_frames : AreRefs (state_of b) space frame_of kit.own_frames.items
  pub own_slots : AreRefs (state_of b) space slot_of kit.own_slots.items
  pub frames : AreRefs (state_of b) new frame_of kit.frames.items
  pub slots : AreRefs (state_of b) new slot_of kit.slots.items
  pub own_frames_listed : Lists (state_of b) space frame_of kit.own_frames.items
  pub own_slots_listed : Lists (state_of b) space slot_of kit.own_slots.items
  pub frames_listed : Lists (state_of b) new frame_of kit.frames.items
  pub slots_listed : Lists (state_of b) new slot_of kit.slots.items
  pub backed : AreBacked b.frames kit.own_frames.items × AreBacked b.frames kit.frames.items × AreBacked b.slots kit.own_slots.items × AreBacked b.slots kit.slots.items
  pub seconds : (kit.second_frames.items ≡ []) × (kit.second_slots.items ≡ [])

-- a page of the list has its frame
pub frames_at : (st : State) (s : ℕ) (refs : Refs) → AreRefs st s frame_of refs → AreFramesAt st s refs
frames_at st s refs are = λ k d within. let t = are k d within in record { cell = t.cell; there = t.there; carries = t.carries }

module _ {B E : Type 0} (a b : BookData) (thread : ℕ) (c : Call) (v : PassView (List Cell) B E) (rows : List Row) (kit : Kit) (ready : IsApplicable a b thread c v rows kit) (done : kit.done ≡ true)
    (space new : ℕ) (copies : CopiesSpace a c rows space new) where
  made : IsMade a b thread c kit
  made = was_made a b thread c v rows kit ready done

  cell_now : (s p : ℕ) → cell_at (state_of b) s p ≡ cond (nat_eq s new) (cell_at (state_of a) space p) (cell_at (state_of a) s p)
  cell_now s p =
      ap (λ (t : State). cell_at t s p) made.state
      ∙ (ap (λ (x : Call). cell_at (state_after (state_of a) thread x) s p) copies.forks
      ∙ (fork_cell (state_of a) thread space s p
      ∙ ap (λ (o : Option ℕ). cond (nat_eq s (unwrap_or o 0)) (cell_at (state_of a) space p) (cell_at (state_of a) s p)) copies.new_space))

  pub new_cell : (p : ℕ) → cell_at (state_of b) new p ≡ cell_at (state_of a) space p
  new_cell p = cell_now new p ∙ ap (λ t. cond t (cell_at (state_of a) space p) (cell_at (state_of a) new p)) (eq-eqb new new refl)

  pub old_cell : (s p : ℕ) → s ≢ new → cell_at (state_of b) s p ≡ cell_at (state_of a) s p
  old_cell s p apart = cell_now s p ∙ ap (λ t. cond t (cell_at (state_of a) space p) (cell_at (state_of a) s p)) (ne_eqb s new apart)

  abbrev uses : ℕ → Bool
  uses p = uses_page (state_of a) thread c space p

  all_used : (q : ℕ) → uses_page (state_of a) thread c space q ≡ true
  all_used q = ap (λ (x : Call). uses_page (state_of a) thread x space q) copies.forks ∙ eq-eqb space space refl

  used_is : used_cells (state_of a) (state_of b) thread c ≡ filter (λ (e : ℕ × PageCell). uses e.0) (fin.entries (space_at (state_of b) space))
  used_is = ap (λ (o : Option ℕ). option_map_or (λ s. filter (λ (e : ℕ × PageCell). uses_page (state_of a) thread c s e.0) (fin.entries (space_at (state_of b) s))) o []) (ap space_of copies.forks)

  kept_is : (grants : Grant) → kept_cells (state_of a) (state_of b) thread c grants ≡ filter (λ (e : ℕ × PageCell). stayed grants e.0) (filter (λ (e : ℕ × PageCell). uses e.0) (fin.entries (space_at (state_of b) space)))
  kept_is grants = ap (filter (λ (e : ℕ × PageCell). not (is_granted grants e))) used_is

  new_is : (grants : Grant) → new_cells (state_of a) (state_of b) thread c grants ≡ filter (λ (e : ℕ × PageCell). true) (filter (λ (e : ℕ × PageCell). true) (fin.entries (space_at (state_of b) new)))
  new_is grants =
      ap (λ (x : Call). new_cells (state_of a) (state_of b) thread x grants) copies.forks
      ∙ (ap (λ (o : Option ℕ). fin.entries (space_at (state_of b) (unwrap_or o 0))) copies.new_space
      ∙ sym (all_pass (filter (λ (e : ℕ × PageCell). true) (fin.entries (space_at (state_of b) new))) ∙ all_pass (fin.entries (space_at (state_of b) new))))

  frames_stay : (q : ℕ) → stayed (frame_grants (state_of a) c) q ≡ true
  frames_stay q = ap (λ (x : Call). stayed (frame_grants (state_of a) x) q) copies.forks

  slots_stay : (q : ℕ) → stayed (slot_grants (state_of a) c) q ≡ true
  slots_stay q = ap (λ (x : Call). stayed (slot_grants (state_of a) x) q) copies.forks

  own_frames_are : shown_refs kit.own_frames.items ≡ refs_of frame_of (filter (λ (e : ℕ × PageCell). stayed (frame_grants (state_of a) c) e.0) (filter (λ (e : ℕ × PageCell). uses e.0) (fin.entries (space_at (state_of b) space))))
  own_frames_are = ap (λ (k : Kit). shown_refs k.own_frames.items) made.same ∙ (made.granted.own_frames ∙ ap (refs_of frame_of) (kept_is (frame_grants (state_of a) c)))

  own_slots_are : shown_refs kit.own_slots.items ≡ refs_of slot_of (filter (λ (e : ℕ × PageCell). stayed (slot_grants (state_of a) c) e.0) (filter (λ (e : ℕ × PageCell). uses e.0) (fin.entries (space_at (state_of b) space))))
  own_slots_are = ap (λ (k : Kit). shown_refs k.own_slots.items) made.same ∙ (made.granted.own_slots ∙ ap (refs_of slot_of) (kept_is (slot_grants (state_of a) c)))

  frames_are : shown_refs kit.frames.items ≡ refs_of frame_of (filter (λ (e : ℕ × PageCell). true) (filter (λ (e : ℕ × PageCell). true) (fin.entries (space_at (state_of b) new))))
  frames_are = ap (λ (k : Kit). shown_refs k.frames.items) made.same ∙ (made.granted.frames ∙ ap (refs_of frame_of) (new_is (frame_grants (state_of a) c)))

  slots_are : shown_refs kit.slots.items ≡ refs_of slot_of (filter (λ (e : ℕ × PageCell). true) (filter (λ (e : ℕ × PageCell). true) (fin.entries (space_at (state_of b) new))))
  slots_are = ap (λ (k : Kit). shown_refs k.slots.items) made.same ∙ (made.granted.slots ∙ ap (refs_of slot_of) (new_is (slot_grants (state_of a) c)))

  pub fork_lists : ForkLists b space new kit
  fork_lists = record {
    own_frames = refs_now (state_of b) uses (stayed (frame_grants (state_of a) c)) space frame_of kit.own_frames.items own_frames_are;
    own_slots = refs_now (state_of b) uses (stayed (slot_grants (state_of a) c)) space slot_of kit.own_slots.items own_slots_are;
    frames = refs_now (state_of b) (λ p. true) (λ p. true) new frame_of kit.frames.items frames_are;
    slots = refs_now (state_of b) (λ p. true) (λ p. true) new slot_of kit.slots.items slots_are;
    own_frames_listed = λ q x n there carries. ref_listed (state_of b) uses (stayed (frame_grants (state_of a) c)) space frame_of kit.own_frames.items own_frames_are q x n there carries (all_used q) (frames_stay q);
    own_slots_listed = λ q x n there carries. ref_listed (state_of b) uses (stayed (slot_grants (state_of a) c)) space slot_of kit.own_slots.items own_slots_are q x n there carries (all_used q) (slots_stay q);
    frames_listed = λ q x n there carries. ref_listed (state_of b) (λ p. true) (λ p. true) new frame_of kit.frames.items frames_are q x n there carries refl refl;
    slots_listed = λ q x n there carries. ref_listed (state_of b) (λ p. true) (λ p. true) new slot_of kit.slots.items slots_are q x n there carries refl refl;
    backed = subst (λ (k : Kit). AreBacked b.frames k.own_frames.items × AreBacked b.frames k.frames.items × AreBacked b.slots k.own_slots.items × AreBacked b.slots k.slots.items) (sym made.same) made.granted.backed;
    seconds = subst (λ (k : Kit). (k.second_frames.items ≡ []) × (k.second_slots.items ≡ [])) (sym made.same) made.granted.seconds;
  }
