-- The references of a kit after a commit: those that stayed, and those that were granted.
--     HasRef      what a reference tells of its page
--     each_ref      each of a list does
--     ref_listed      each used page with a number has one
--     frames_of, own_frames_of, slots_of, own_slots_of      the lists of a kit
use Rattle.std.specs.Prelude.{◌≡◌, ℕ, Bool, true, false, not, cond, List, [], ◌∷◌, map, Option, Some}
use Rattle.std.specs.List.{All, AllByRecursion, Contains, filter}
use Rattle.std.specs.Option.{option_map_or}
use Rattle.std.specs.FinMap as fin
use Rattle.std.specs.FinMap.{get-entries}
use Rattle.std.proofs.Common.{sym, refl, ◌∙◌, ap, subst}
use Rattle.corten_base.specs.declared.calls.Call.{Call}
use Rattle.corten_base.specs.declared.calls.Call.TheVariants as call
use Rattle.counted_pages.specs.Pages.{CountedPage}
use Rattle.page_map.specs.declared.cell.Cell.{Cell as PageCell}
use Rattle.page_map.specs.Cell.{contents, frame_of, slot_of}
use Rattle.page_map.specs.Effect.{space_of, frame_grants, slot_grants}
use Rattle.page_map.specs.State.{State, space_at, cell_at}
use Rattle.page_map.specs.Takes.{Grant}
use Rattle.page_map.proofs.Few.{each_entry}
use Rattle.machine_plan.specs.declared.kit.Kit.{Kit}
use Rattle.machine_plan.specs.Books.{BookData, state_of}
use Rattle.machine_plan.specs.Kits.{Refs, is_granted, new_cells, kept_cells}
use Rattle.machine_plan.specs.Uses.{Ref, refs_of, shown_ref, shown_refs, uses_page, used_cells}
use Rattle.cursor_detach.proofs.Lists.{still_there}
use Rattle.cursor_apply.specs.Moving.{IsMove}
use Rattle.cursor_apply.specs.Putting.{AreRefs, pages_of}
use Rattle.cursor_apply.proofs.Made.{IsMade}
use Rattle.cursor_apply.proofs.Outcomes.{gets}
use Rattle.cursor_apply.proofs.Returned.{refs_each, shown_each, find_in, listed, same_pages}

filtered_passes : (P : ℕ × PageCell → Type 0) (t : ℕ × PageCell → Bool) (es : List (ℕ × PageCell)) → AllByRecursion P es → AllByRecursion (λ (e : ℕ × PageCell). P e × (t e ≡ true)) (filter t es)
filtered_passes P t [] h = tt
filtered_passes P t (e ∷ es) h = go (t e) refl (filtered_passes P t es h.1)
  where
    go : (b : Bool) → t e ≡ b → AllByRecursion (λ (e : ℕ × PageCell). P e × (t e ≡ true)) (filter t es) → AllByRecursion (λ (e : ℕ × PageCell). P e × (t e ≡ true)) (cond b (e ∷ filter t es) (filter t es))
    go true is rest = ((h.0, is), rest)
    go false is rest = rest

-- the page of a reference: its cell in a state, its number and its bytes, and that it passes
pub record HasRef (now : State) (uses : ℕ → Bool) (passes : ℕ → Bool) (s : ℕ) (number_of : PageCell → Option ℕ) (r : Ref) : Type 0 where
  pub cell : PageCell
  pub there : cell_at now s r.0 ≡ Some cell
  pub carries : number_of cell ≡ Some r.1.0
  pub bytes : contents [] cell ≡ r.1.1
  pub used : uses r.0 ≡ true
  pub passed : passes r.0 ≡ true

module _ (now : State) (uses : ℕ → Bool) (passes : ℕ → Bool) (s : ℕ) (number_of : PageCell → Option ℕ) (refs : Refs)
    (shown : shown_refs refs ≡ refs_of number_of (filter (λ (e : ℕ × PageCell). passes e.0) (filter (λ (e : ℕ × PageCell). uses e.0) (fin.entries (space_at now s))))) where
  abbrev entries : List (ℕ × PageCell)
  entries = fin.entries (space_at now s)

  abbrev used : List (ℕ × PageCell)
  used = filter (λ (e : ℕ × PageCell). uses e.0) entries

  pub each_ref : All (λ (r : ℕ × CountedPage). HasRef now uses passes s number_of (shown_ref r)) refs
  each_ref = shown_each (HasRef now uses passes s number_of) refs (subst (AllByRecursion (HasRef now uses passes s number_of)) (sym shown)
      (refs_each (HasRef now uses passes s number_of) number_of (filter (λ (e : ℕ × PageCell). passes e.0) used)
      (all_entries (filter (λ (e : ℕ × PageCell). passes e.0) used)
      (filtered_passes (λ (e : ℕ × PageCell). (cell_at now s e.0 ≡ Some e.1) × (uses e.0 ≡ true)) (λ (e : ℕ × PageCell). passes e.0) used
      (filtered_passes (λ (e : ℕ × PageCell). cell_at now s e.0 ≡ Some e.1) (λ (e : ℕ × PageCell). uses e.0) entries
      (each_entry (λ q x. cell_at now s q ≡ Some x) (space_at now s) (λ q x found. found)))))))
    where
      all_entries : (es : List (ℕ × PageCell)) → AllByRecursion (λ (e : ℕ × PageCell). ((cell_at now s e.0 ≡ Some e.1) × (uses e.0 ≡ true)) × (passes e.0 ≡ true)) es
          → AllByRecursion (λ (e : ℕ × PageCell). (n : ℕ) → number_of e.1 ≡ Some n → HasRef now uses passes s number_of (e.0, (n, contents [] e.1))) es
      all_entries [] h = tt
      all_entries (e ∷ es) h = (λ n is. record { cell = e.1; there = h.0.0.0; carries = is; bytes = refl; used = h.0.0.1; passed = h.0.1 }, all_entries es h.1)

  pub ref_listed : (q : ℕ) (x : PageCell) (n : ℕ) → cell_at now s q ≡ Some x → number_of x ≡ Some n → uses q ≡ true → passes q ≡ true → Contains (pages_of refs) q
  ref_listed q x n there carries is_used is_passed =
      subst (λ (l : List ℕ). Contains l q) (ap (map (λ (r : Ref). r.0)) (sym shown) ∙ same_pages refs)
      (listed number_of (filter (λ (e : ℕ × PageCell). passes e.0) used) q x n carries
      (still_there (λ (e : ℕ × PageCell). passes e.0) used (q, x) is_passed
      (still_there (λ (e : ℕ × PageCell). uses e.0) entries (q, x) is_used (find_in entries q x (sym (get-entries (space_at now s) q) ∙ there)))))

  pub refs_now : AreRefs now s number_of refs
  refs_now = λ k d within. let t = each_ref k d within in record { cell = t.cell; there = t.there; carries = t.carries; bytes = t.bytes }

-- ---- the lists of a kit

abbrev pub fresh : Grant → ℕ → Bool
fresh grants p = gets grants p

abbrev pub stayed : Grant → ℕ → Bool
stayed grants p = not (gets grants p)

new_are : (st now : State) (thread : ℕ) (c : Call) (grants : Grant) → IsMove c → new_cells st now thread c grants ≡ filter (is_granted grants) (used_cells st now thread c)
new_are st now thread (call.Load space at len) grants move = refl
new_are st now thread (call.Store space at bytes) grants move = refl
new_are st now thread (call.Fault space at write) grants move = refl
new_are st now thread (call.SwapOut space at len) grants move = refl
new_are st now thread (call.SwapIn space at len) grants move = refl
new_are st now thread (call.Map space where_to len perm what) grants move = absurd move
new_are st now thread (call.Unmap space at len) grants move = absurd move
new_are st now thread (call.Protect space at len perm) grants move = absurd move
new_are st now thread call.Spawn grants move = absurd move
new_are st now thread (call.Fork space) grants move = absurd move
new_are st now thread (call.Exit space) grants move = absurd move
new_are st now thread (call.Txn space at len ops) grants move = absurd move
new_are st now thread (call.DontNeed space at len) grants move = absurd move
new_are st now thread (call.Remap space at old_len new_len) grants move = absurd move

module _ (a b : BookData) (thread : ℕ) (c : Call) (kit : Kit) (made : IsMade a b thread c kit) (move : IsMove c) (s : ℕ) (here : space_of c ≡ Some s) where
  abbrev st : State
  st = state_of a

  abbrev now : State
  now = state_of b

  abbrev uses : ℕ → Bool
  uses p = uses_page st thread c s p

  abbrev the_used : List (ℕ × PageCell)
  the_used = filter (λ (e : ℕ × PageCell). uses e.0) (fin.entries (space_at now s))

  used_is : used_cells st now thread c ≡ the_used
  used_is = ap (λ (o : Option ℕ). option_map_or (λ s. filter (λ (e : ℕ × PageCell). uses_page st thread c s e.0) (fin.entries (space_at now s))) o []) here

  new_is : (grants : Grant) → new_cells st now thread c grants ≡ filter (λ (e : ℕ × PageCell). fresh grants e.0) the_used
  new_is grants = new_are st now thread c grants move ∙ ap (filter (is_granted grants)) used_is

  kept_is : (grants : Grant) → kept_cells st now thread c grants ≡ filter (λ (e : ℕ × PageCell). stayed grants e.0) the_used
  kept_is grants = ap (filter (λ (e : ℕ × PageCell). not (is_granted grants e))) used_is

  pub frames_of : shown_refs kit.frames.items ≡ refs_of frame_of (filter (λ (e : ℕ × PageCell). fresh (frame_grants st c) e.0) the_used)
  frames_of = ap (λ (k : Kit). shown_refs k.frames.items) made.same ∙ (made.granted.frames ∙ ap (refs_of frame_of) (new_is (frame_grants st c)))

  pub slots_of : shown_refs kit.slots.items ≡ refs_of slot_of (filter (λ (e : ℕ × PageCell). fresh (slot_grants st c) e.0) the_used)
  slots_of = ap (λ (k : Kit). shown_refs k.slots.items) made.same ∙ (made.granted.slots ∙ ap (refs_of slot_of) (new_is (slot_grants st c)))

  pub own_frames_of : shown_refs kit.own_frames.items ≡ refs_of frame_of (filter (λ (e : ℕ × PageCell). stayed (frame_grants st c) e.0) the_used)
  own_frames_of = ap (λ (k : Kit). shown_refs k.own_frames.items) made.same ∙ (made.granted.own_frames ∙ ap (refs_of frame_of) (kept_is (frame_grants st c)))

  pub own_slots_of : shown_refs kit.own_slots.items ≡ refs_of slot_of (filter (λ (e : ℕ × PageCell). stayed (slot_grants st c) e.0) the_used)
  own_slots_of = ap (λ (k : Kit). shown_refs k.own_slots.items) made.same ∙ (made.granted.own_slots ∙ ap (refs_of slot_of) (kept_is (slot_grants st c)))
