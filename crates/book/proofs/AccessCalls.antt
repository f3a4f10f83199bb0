-- Loads, stores and page faults as calls of one form: their pages, what these want, and the references afterwards.
use Rattle.std.proofs.Common.{◌≡◌, ℕ, ◌≤◌, Bool, true, false, cond, not, ◌&&◌, List, [], ◌∷◌, length, refl, sym, ap, subst, ◌∙◌, arith}
use Rattle.std.specs.Prelude.{Some, None, T, is_some, nat_eq, nat_lt, map}
use Rattle.std.specs.List.{AllByRecursion, filter, flat_map, zip}
use Rattle.std.specs.Ordering.{nat_cmp}
use Rattle.std.specs.Cmp.{nat_eq_equiv}
use Rattle.std.specs.FinMap as fin
use Rattle.std.specs.FinMap.{is_sorted, entries_sorted}
use Rattle.std.specs.FinMap.Entries.{where_key, is_sorted-where_key}
use Rattle.corten_base.specs.declared.calls.Call.{Call}
use Rattle.corten_base.specs.declared.calls.Call.TheVariants as call
use Rattle.corten_base.specs.declared.calls.Reply.TheVariants as reply
use Rattle.counted_pages.specs.Pages.{PageCounts}
use Rattle.table_place.specs.Range.{within}
use Rattle.page_map.specs.declared.cell.Cell.{Cell}
use Rattle.page_map.specs.declared.cell.Cell.TheVariants.{Anon, File, Mapped, Swapped}
use Rattle.page_map.specs.Access.{Access, first_page, page_count, touched, wants_frame, wanting_frames, refused_access, outside_user_pages}
use Rattle.page_map.specs.Cell.{frame_of, slot_of, contents, written}
use Rattle.page_map.specs.Effect.{state_after, frame_grants, wanting_frames_of}
use Rattle.page_map.specs.State.{State, AddressSpace, levels, space_at, unused_frames}
use Rattle.page_map.specs.Step.{arguments, pages, no_frames}
use Rattle.page_map.specs.Takes.{Grant, granted}
use Rattle.page_map.proofs.Few.{each_entry}
use Rattle.page_map.proofs.Grants.{granted_each, key_chosen}
use Rattle.page_map.proofs.Steps.{not_none}
use Rattle.machine_plan.specs.Kits.{Refs, Seconds, AreReady, AreBacked, is_granted, new_cells, kept_cells}
use Rattle.machine_plan.specs.Uses.{Ref, refs_of, used_cells, access_want, wanted_at, wants_in, wants_of}
use Rattle.book.proofs.SameKeys.{with_values}
use Rattle.book.proofs.References.{with_bytes}
use Rattle.book.proofs.UsedAfter.{in_range_only, after_load, after_store, after_fault}
use Rattle.book.proofs.CameRefs.{pages_of_list}
use Rattle.book.proofs.AccessRefs.{picked_ones, each_one, kept_refs, new_refs, slots_none}

-- the cells that an access touches
abbrev pub touched_in : AddressSpace → Access → List (ℕ × Cell)
touched_in cells a = filter (λ e. within (first_page a) (page_count a) e.0) (fin.entries cells)

pub record IsAccessCall (st : State) (thread : ℕ) (c : Call) (space : ℕ) (a : Access) : Type 0 where
  pub used : (now : State) → used_cells st now thread c ≡ filter (λ e. nat_eq space space && within (first_page a) (page_count a) e.0) (fin.entries (space_at now space))
  pub after : used_cells st (state_after st thread c) thread c ≡ with_values (in_range_only (first_page a) (page_count a) (touched st.files (frame_grants st c) a)) (used_cells st st thread c)
  pub wants : wants_of st c ≡ wants_in (space_at st space) (first_page a) (page_count a) (access_want a.write)
  pub frames : wanting_frames_of st c ≡ wanting_frames st (space_at st space) a
  pub new : (now : State) (grants : Grant) → new_cells st now thread c grants ≡ filter (is_granted grants) (used_cells st now thread c)
  pub ready : (counts : PageCounts) (refs : Refs) (seconds : Seconds) → AreReady c counts refs seconds → AreBacked counts refs × (seconds ≡ [])
  pub arguments : arguments st c ≡ outside_user_pages (levels st) a
  pub pages : pages st c ≡ refused_access st.files (space_at st space) a

pub load_call : (st : State) (thread space at len : ℕ) → IsAccessCall st thread (call.Load space at len) space (record { at = at; len = len; write = false; stored = [] })
unfolding wants_of
load_call st thread space at len = record {
  used = λ now. refl;
  after = after_load st thread space at len;
  wants = refl;
  frames = refl;
  new = λ now grants. refl;
  ready = λ counts refs seconds r. r;
  arguments = refl;
  pages = refl;
}

pub store_call : (st : State) (thread space at : ℕ) (bytes : List ℕ) → IsAccessCall st thread (call.Store space at bytes) space (record { at = at; len = length bytes; write = true; stored = bytes })
unfolding wants_of
store_call st thread space at bytes = record {
  used = λ now. refl;
  after = after_store st thread space at bytes;
  wants = refl;
  frames = refl;
  new = λ now grants. refl;
  ready = λ counts refs seconds r. r;
  arguments = refl;
  pages = refl;
}

pub fault_call : (st : State) (thread space at : ℕ) (write : Bool) → IsAccessCall st thread (call.Fault space at write) space (record { at = at; len = 1; write = write; stored = [] })
unfolding wants_of
fault_call st thread space at write = record {
  used = λ now. refl;
  after = after_fault st thread space at write;
  wants = refl;
  frames = refl;
  new = λ now grants. refl;
  ready = λ counts refs seconds r. r;
  arguments = refl;
  pages = refl;
}

-- Lists of entries in order

where_is : {X : Type 0} (p : ℕ → Bool) (es : List (ℕ × X)) → where_key nat_cmp p es ≡ filter (λ e. p e.0) es
where_is p [] = refl
where_is p (e ∷ es) = ap (λ fs. cond (p e.0) (e ∷ fs) fs) (where_is p es)

pub picked_sorted : {X : Type 0} (p : ℕ → Bool) (es : List (ℕ × X)) → T (is_sorted nat_cmp es) → T (is_sorted nat_cmp (filter (λ e. p e.0) es))
picked_sorted p es sorted = subst (λ fs. T (is_sorted nat_cmp fs)) (where_is p es) (is_sorted-where_key nat_cmp p es sorted)

picked_twice : {X : Type 0} (p : ℕ → Bool) (q : X → Bool) (es : List (ℕ × X)) → filter (λ e. p e.0 && q e.1) es ≡ filter (λ e. q e.1) (filter (λ e. p e.0) es)
picked_twice p q [] = refl
picked_twice p q (e ∷ es) = go (p e.0) (picked_twice p q es)
  where
    go : (b : Bool) → filter (λ e. p e.0 && q e.1) es ≡ filter (λ e. q e.1) (filter (λ e. p e.0) es) →
        cond (b && q e.1) (e ∷ filter (λ e. p e.0 && q e.1) es) (filter (λ e. p e.0 && q e.1) es) ≡ filter (λ e. q e.1) (cond b (e ∷ filter (λ e. p e.0) es) (filter (λ e. p e.0) es))
    go true rest = ap (λ fs. cond (q e.1) (e ∷ fs) fs) rest
    go false rest = rest

in_range_values : (first count : ℕ) (f : ℕ → Cell → Cell) (es : List (ℕ × Cell)) → AllByRecursion (λ (e : ℕ × Cell). within first count e.0 ≡ true) es → with_values (in_range_only first count f) es ≡ with_values f es
in_range_values first count f [] h = refl
in_range_values first count f (e ∷ es) h = λ i. (e.0, cond (h.0 i) (f e.0 e.1) e.1) ∷ in_range_values first count f es h.1 i

wants_lone : (st : State) (write : Bool) (c : Cell) → frame_of c ≡ None → wants_frame st write c ≡ true
wants_lone st write (Anon perm) h = refl
wants_lone st write (File perm file index) h = refl
wants_lone st write (Swapped perm origin slot bytes) h = refl
wants_lone st write (Mapped perm origin frame bytes) h = absurd (not_none h)

module _ (st : State) (thread : ℕ) (c : Call) (space : ℕ) (a : Access) (x : IsAccessCall st thread c space a) where
  abbrev pub cells : AddressSpace
  cells = space_at st space

  abbrev pub used_list : List (ℕ × Cell)
  used_list = touched_in cells a

  pub used_is : used_cells st st thread c ≡ used_list
  used_is = x.used st ∙ ap (λ b. filter (λ e. b && within (first_page a) (page_count a) e.0) (fin.entries cells)) (nat_eq_equiv.refl space)

  pub list_sorted : T (is_sorted nat_cmp used_list)
  list_sorted = picked_sorted (within (first_page a) (page_count a)) (fin.entries cells) (entries_sorted cells)

  pub list_inside : AllByRecursion (λ (e : ℕ × Cell). within (first_page a) (page_count a) e.0 ≡ true) used_list
  list_inside = picked_ones (λ (e : ℕ × Cell). within (first_page a) (page_count a) e.0 ≡ true) (λ e. within (first_page a) (page_count a) e.0) (fin.entries cells)
      (each_one (λ (e : ℕ × Cell). within (first_page a) (page_count a) e.0 ≡ true → within (first_page a) (page_count a) e.0 ≡ true) (λ e w. w) (fin.entries cells))

  -- what holds of each touched page and its cell
  pub list_each : (P : ℕ → Cell → Type 0) → ((k : ℕ) (d : Cell) → fin.get cells k ≡ Some d → within (first_page a) (page_count a) k ≡ true → P k d) → AllByRecursion (λ (e : ℕ × Cell). P e.0 e.1) used_list
  list_each P each = picked_ones (λ (e : ℕ × Cell). P e.0 e.1) (λ e. within (first_page a) (page_count a) e.0) (fin.entries cells) (each_entry (λ k d. within (first_page a) (page_count a) k ≡ true → P k d) cells each)

  pub wants_are : wants_of st c ≡ flat_map (wanted_at (access_want a.write)) used_list
  wants_are = x.wants

  abbrev wanted : Cell → Bool
  wanted = wants_frame st a.write

  pub pages_are : wanting_frames_of st c ≡ pages_of_list wanted used_list
  pages_are = x.frames ∙ ap (map (λ (e : ℕ × Cell). e.0)) (picked_twice (within (first_page a) (page_count a)) wanted (fin.entries cells))

  pub grants_are : frame_grants st c ≡ zip (pages_of_list wanted used_list) (unused_frames st)
  grants_are = ap (λ (ps : List ℕ). zip ps (unused_frames st)) pages_are

  module _ (fits : no_frames st c ≡ None) where
    pub pages_enough : length (wanting_frames_of st c) ≤ length (unused_frames st)
    pages_enough = go (nat_lt (length (unused_frames st)) (length (wanting_frames_of st c))) refl fits
      where
        at_most : {m n : ℕ} → nat_lt m n ≡ false → n ≤ m
        at_most e = grind (arith, Rattle.std.proofs.lemmas.Bool.Decides.nat_tests, e)

        go : (b : Bool) → nat_lt (length (unused_frames st)) (length (wanting_frames_of st c)) ≡ b → cond b (Some (reply.NoFrames (length (unused_frames st)) (length (wanting_frames_of st c)))) None ≡ None →
            length (wanting_frames_of st c) ≤ length (unused_frames st)
        go true e g = absurd (not_none g)
        go false e g = at_most e

    pub lone_granted : AllByRecursion (λ (e : ℕ × Cell). frame_of e.1 ≡ None → is_some (granted (frame_grants st c) e.0) ≡ true) used_list
    lone_granted = list_each (λ k d. frame_of d ≡ None → is_some (granted (frame_grants st c) k) ≡ true)
        (λ k d found w lone. granted_each k (wanting_frames_of st c) (unused_frames st) pages_enough
        (subst (λ (ps : List ℕ). Rattle.std.specs.List.list_any (Rattle.std.specs.Ordering.eq_by_cmp nat_cmp k) ps ≡ true) (sym x.frames) (key_chosen (first_page a) (page_count a) wanted cells k d found w (wants_lone st a.write d lone))))

    -- a page that wants a frame gets one
    pub wanted_granted : AllByRecursion (λ (e : ℕ × Cell). wanted e.1 ≡ true → is_some (granted (frame_grants st c) e.0) ≡ true) used_list
    wanted_granted = list_each (λ k d. wanted d ≡ true → is_some (granted (frame_grants st c) k) ≡ true)
        (λ k d found w wants. granted_each k (wanting_frames_of st c) (unused_frames st) pages_enough
        (subst (λ (ps : List ℕ). Rattle.std.specs.List.list_any (Rattle.std.specs.Ordering.eq_by_cmp nat_cmp k) ps ≡ true) (sym x.frames) (key_chosen (first_page a) (page_count a) wanted cells k d found w wants)))

    abbrev now : State
    now = state_after st thread c

    abbrev grants : Grant
    grants = frame_grants st c

    after_is : used_cells st now thread c ≡ with_values (touched st.files grants a) used_list
    after_is = x.after ∙ ap (with_values (in_range_only (first_page a) (page_count a) (touched st.files grants a))) used_is ∙ in_range_values (first_page a) (page_count a) (touched st.files grants a) used_list list_inside

    pub kept_are : refs_of frame_of (kept_cells st now thread c grants) ≡ map (with_bytes (written a.at a.stored)) (filter (λ (r : Ref). not (is_some (granted grants r.0))) (refs_of frame_of used_list))
    kept_are = ap (λ (es : List (ℕ × Cell)). refs_of frame_of (filter (λ e. not (is_granted grants e)) es)) after_is ∙ kept_refs st.files grants a used_list lone_granted

    pub new_are : (bytes : ℕ → List ℕ) → AllByRecursion (λ (e : ℕ × Cell). contents st.files e.1 ≡ bytes e.0) used_list → refs_of frame_of (new_cells st now thread c grants) ≡ map (λ g. (g.0, (g.1, written a.at a.stored g.0 (bytes g.0)))) grants
    new_are bytes same =
        ap (refs_of frame_of) (x.new now grants ∙ ap (filter (is_granted grants)) after_is ∙ (λ i. filter (is_granted (grants_are i)) (with_values (touched st.files (grants_are i) a) used_list)))
        ∙ new_refs st.files a wanted used_list (unused_frames st) list_sorted (subst (λ (ps : List ℕ). length ps ≤ length (unused_frames st)) pages_are pages_enough) bytes same
        ∙ ap (map (λ g. (g.0, (g.1, written a.at a.stored g.0 (bytes g.0))))) (sym grants_are)

    pub kept_slots : (g : Grant) → refs_of slot_of (kept_cells st now thread c g) ≡ []
    kept_slots g = ap (λ (es : List (ℕ × Cell)). refs_of slot_of (filter (λ e. not (is_granted g e)) es)) after_is ∙ slots_none st.files grants a (λ k. not (is_some (granted g k))) used_list

    pub new_slots : (g : Grant) → refs_of slot_of (new_cells st now thread c g) ≡ []
    new_slots g = ap (refs_of slot_of) (x.new now g ∙ ap (filter (is_granted g)) after_is) ∙ slots_none st.files grants a (λ k. is_some (granted g k)) used_list
