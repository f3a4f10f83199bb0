-- The frames that the pages of an access have now: their bytes may be read, and written where it is a store.
use Rattle.std.proofs.Common.{◌≡◌, ℕ, zero, suc, ◌+◌, ◌-◌, ◌*◌, ◌/◌, ◌<◌, ◌≤◌, ◌^◌, Bool, true, false, cond, not, ◌&&◌, List, [], ◌∷◌, ◌++◌, length, get_or, refl, sym, ap, subst, ◌∙◌, arith}
use mathlib.Core.Bool.{true≢false}
use Rattle.std.specs.Prelude.{Option, Some, None, is_some, nat_eq, map}
use Rattle.std.specs.List.{All, AllByRecursion, filter, zip}
use Rattle.std.specs.Option.{option_map_or}
use Rattle.std.specs.Vec.{vec_capacity}
use Rattle.std.proofs.lemmas.Bool.{eqb-true}
use Rattle.std.proofs.lemmas.List.Elements.{All-nil, All-cons, All-head, All-tail, All-weaker, All-map}
use Rattle.corten_base.specs.declared.calls.Call.{Call}
use Rattle.counted_pages.specs.Pages.{PageCounts, CountedPage}
use Rattle.shares.specs.Counts.{count_of}
use Rattle.table_place.specs.Place.{is_user_page}
use Rattle.table_place.specs.Range.{within}
use Rattle.table_place.proofs.Tables.{in_range}
use Rattle.page_map.specs.declared.cell.Cell.{Cell}
use Rattle.page_map.specs.declared.cell.Cell.TheVariants.{Anon, File, Mapped, Swapped}
use Rattle.page_map.specs.Access.{Access, first_page, page_count, wants_frame}
use Rattle.page_map.specs.Cell.{frame_of, contents, written}
use Rattle.page_map.specs.Effect.{frame_grants}
use Rattle.page_map.specs.State.{State, IsConsistent, levels, space_at, frame_owners, unused_frames}
use Rattle.page_map.specs.Step.{refusal}
use Rattle.page_map.specs.Takes.{Grant, granted}
use Rattle.page_map.proofs.Bytes.{written_nothing}
use Rattle.page_map.proofs.Mappings.{user_few}
use Rattle.page_map.proofs.Owners.{same_some}
use Rattle.page_map.proofs.Steps.{not_none}
use Rattle.machine_plan.specs.declared.kit.Kit.{Kit}
use Rattle.machine_plan.specs.Books.{BookData, state_of, RowSum}
use Rattle.machine_plan.specs.Kits.{Refs, AreBacked, IsFilled}
use Rattle.machine_plan.specs.Uses.{Ref, refs_of, shown_ref, shown_refs}
use Rattle.machine_plan.specs.Whole.{IsBook}
use Rattle.machine_plan.proofs.Whole.{book_is_consistent}
use Rattle.book.specs.Balance.{times}
use Rattle.book.specs.Filling.{IsSole}
use Rattle.book.specs.Settling.{Settles}
use Rattle.book.specs.Storing.{IsTouched, AreTouched, AreAlone, AreWhole, stored_in}
use Rattle.book.specs.Touching.{Fills, MayStore, StoresAll}
use Rattle.book.proofs.AccessCalls.{IsAccessCall, touched_in, list_each, wanted_granted, grants_are}
use Rattle.book.proofs.AccessRefs.{picked_ones}
use Rattle.book.proofs.AccessSettles.{pass, frames_shown, left_shown, none_taken, fewer_left, settles_at, taken_times}
use Rattle.book.proofs.CameRefs.{pages_of_list}
use Rattle.book.proofs.Ending.{held_frames}
use Rattle.book.proofs.Overwritten.{times_first, one_itself}
use Rattle.book.proofs.References.{with_bytes}
use Rattle.book.proofs.Released.{Backed}

-- What holds of cells holds of references

refs_each : (P : Ref → Type 0) (number_of : Cell → Option ℕ) (es : List (ℕ × Cell)) → AllByRecursion (λ (e : ℕ × Cell). (n : ℕ) → number_of e.1 ≡ Some n → P (e.0, (n, contents [] e.1))) es → AllByRecursion P (refs_of number_of es)
refs_each P number_of [] h = tt
refs_each P number_of (e ∷ es) h = go (number_of e.1) refl (refs_each P number_of es h.1)
  where
    go : (o : Option ℕ) → number_of e.1 ≡ o → AllByRecursion P (refs_of number_of es) → AllByRecursion P (option_map_or (λ n. (e.0, (n, contents [] e.1)) ∷ []) o [] ++ refs_of number_of es)
    go None is rest = rest
    go (Some n) is rest = (h.0 n is, rest)

shown_each : (P : Ref → Type 0) (refs : Refs) → AllByRecursion P (shown_refs refs) → All (λ r. P (shown_ref r)) refs
shown_each P [] h = All-nil (λ r. P (shown_ref r))
shown_each P (r ∷ refs) h = All-cons (λ r. P (shown_ref r)) r refs h.0 (shown_each P refs h.1)

pages_each : (P : ℕ → Type 0) (q : Cell → Bool) (es : List (ℕ × Cell)) (ns : List ℕ) → AllByRecursion (λ (e : ℕ × Cell). P e.0) es → AllByRecursion (λ (g : ℕ × ℕ). P g.0) (zip (pages_of_list q es) ns)
pages_each P q es ns h = zipped (pages_of_list q es) ns (named es h)
  where
    named : (es : List (ℕ × Cell)) → AllByRecursion (λ (e : ℕ × Cell). P e.0) es → AllByRecursion P (pages_of_list q es)
    named [] h = tt
    named (e ∷ es) h = go (q e.1) (named es h.1)
      where
        go : (b : Bool) → AllByRecursion P (pages_of_list q es) → AllByRecursion P (map (λ (e : ℕ × Cell). e.0) (cond b (e ∷ filter (λ e. q e.1) es) (filter (λ e. q e.1) es)))
        go true rest = (h.0, rest)
        go false rest = rest

    zipped : (ps ns : List ℕ) → AllByRecursion P ps → AllByRecursion (λ (g : ℕ × ℕ). P g.0) (zip ps ns)
    zipped [] ns h = tt
    zipped (p ∷ ps) [] h = tt
    zipped (p ∷ ps) (n ∷ ns) h = (h.0, zipped ps ns h.1)

given_each : (P : ℕ → Type 0) (bytes : ℕ → List ℕ) (gs : List (ℕ × ℕ)) → AllByRecursion (λ (g : ℕ × ℕ). P g.0) gs → AllByRecursion (λ (s : Ref). P s.0) (map (λ (g : ℕ × ℕ). (g.0, (g.1, bytes g.0))) gs)
given_each P bytes [] h = tt
given_each P bytes (g ∷ gs) h = (h.0, given_each P bytes gs h.1)

-- each reference of a list counts there
counts_there : (refs : Refs) → All (λ r. 1 ≤ times r.1.number (shown_refs refs)) refs
counts_there refs = go refs
  where
    go : (refs : Refs) (k : ℕ) (d : ℕ × CountedPage) → k < length refs → 1 ≤ times (get_or refs k d).1.number (shown_refs refs)
    go [] k d lt = absurd (omega (arith, lt))
    go (r ∷ refs) zero d lt = omega (arith, times_first r.1.number r refs, one_itself r.1.number)
    go (r ∷ refs) (suc k) d lt = omega (arith, times_first (get_or refs k d).1.number r refs, go refs k d (omega (arith, lt)))

none_alone : (counts : PageCounts) (n : ℕ) → 2 ≤ count_of counts.counts n → (refs : Refs) → AreAlone counts refs → times n (shown_refs refs) ≡ 0
none_alone counts n many [] h = refl
none_alone counts n many (r ∷ refs) h = omega (arith, times_first n r refs, none_alone counts n many refs (All-tail (λ r. count_of counts.counts r.1.number ≡ 1) r refs h), apart (nat_eq r.1.number n) refl)
  where
    apart : (b : Bool) → nat_eq r.1.number n ≡ b → ◌≡◌ {A = ℕ} (cond (nat_eq r.1.number n) 1 0) 0
    apart false e = ap (λ b. cond b 1 0) e
    apart true e = absurd (omega (arith, many, All-head (λ r. count_of counts.counts r.1.number ≡ 1) r refs h, ap (count_of counts.counts) (eqb-true r.1.number n e)))

own_backed : (counts : PageCounts) (refs : Refs) → All (λ r. r.1.body.own ≡ true) refs → AreBacked counts refs
own_backed counts refs h = All-weaker (λ r. r.1.body.own ≡ true) (Backed counts) (λ r own shared. absurd (true≢false (sym own ∙ shared))) refs h

stored_own : (at : ℕ) (stored : List ℕ) (refs : Refs) → All (λ r. r.1.body.own ≡ true) (map (stored_in at stored) refs)
stored_own at stored refs = All-map (λ r. r.1.body.own ≡ true) (stored_in at stored) refs (λ k d lt. refl)

stored_shown : (at : ℕ) (stored : List ℕ) (refs : Refs) → shown_refs (map (stored_in at stored) refs) ≡ map (with_bytes (written at stored)) (shown_refs refs)
stored_shown at stored [] = refl
stored_shown at stored (r ∷ refs) = ap (λ (rs : List Ref). (r.0, (r.1.number, written at stored r.0 r.1.body.bytes)) ∷ rs) (stored_shown at stored refs)

nothing_shown : (at : ℕ) (refs : List Ref) → refs ≡ map (with_bytes (written at [])) refs
nothing_shown at [] = refl
nothing_shown at (r ∷ refs) = λ i. (r.0, (r.1.0, sym (written_nothing at r.0 r.1.1) i)) ∷ nothing_shown at refs i

pub framed : (files : List (List ℕ)) (d : Cell) (n : ℕ) → frame_of d ≡ Some n → contents [] d ≡ contents files d
framed files (Mapped perm origin frame bytes) n e = refl
framed files (Anon perm) n e = absurd (not_none (sym e))
framed files (File perm file index) n e = absurd (not_none (sym e))
framed files (Swapped perm origin slot bytes) n e = absurd (not_none (sym e))

few_pages : (levels page : ℕ) → 4 ≤ levels → levels ≤ 5 → is_user_page levels page ≡ true → page < 2 ^ 44
few_pages levels page some few h = omega (arith, user_few levels page 1 few h)

module _ (a : BookData) (thread : ℕ) (c : Call) (kit : Kit) (is : IsBook a) (sum : RowSum a) (filled : IsFilled a thread c kit) (none : refusal (state_of a) thread c (length a.limbo) ≡ None) (space : ℕ) (acc : Access) (x : IsAccessCall (state_of a) thread c space acc)
    (some : 1 ≤ acc.len) (pool area : PageCounts) (mid : Kit) (f : Fills a.files a.frames a.slots kit pool area mid) where
  abbrev st : State
  st = state_of a

  ok : IsConsistent st
  ok = book_is_consistent a is

  abbrev used : List (ℕ × Cell)
  used = touched_in (space_at st space) acc

  abbrev grants : Grant
  grants = frame_grants st c

  touched_page : (k : ℕ) → within (first_page acc) (page_count acc) k ≡ true → k < 2 ^ 44 → IsTouched acc.at acc.len k
  touched_page k w small =
      let r = in_range (first_page acc) (page_count acc) k w in
      record { begins = begin acc.at k r.0; ends = ending acc.at acc.len k some r.1; fits = fit k small }
    where
      begin : (at k : ℕ) → at / 4096 ≤ k → at < 4096 * k + 4096
      begin at k h = omega (arith, h)

      ending : (at len k : ℕ) → 1 ≤ len → k < at / 4096 + ((at + len - 1) / 4096 + 1 - at / 4096) → 4096 * k < at + len
      ending at len k some h = omega (arith, some, h)

      fit : (k : ℕ) → k < 2 ^ 44 → 4096 * k < 2 ^ 64
      fit k h = omega (arith, h)

  list_touched : AllByRecursion (λ (e : ℕ × Cell). IsTouched acc.at acc.len e.0) used
  list_touched = list_each st thread c space acc x (λ k d. IsTouched acc.at acc.len k) (λ k d found w. touched_page k w (few_pages (levels st) k ok.some_levels ok.few_levels (ok.pages space k d found)))

  -- what holds of each page that kept its frame
  own_each : (P : Ref → Type 0) → AllByRecursion (λ (e : ℕ × Cell). (n : ℕ) → frame_of e.1 ≡ Some n → not (is_some (granted grants e.0)) ≡ true → P (e.0, (n, contents [] e.1))) used → All (λ r. P (shown_ref r)) mid.own_frames.items
  own_each P h =
      shown_each P mid.own_frames.items (subst (λ (rs : List Ref). AllByRecursion P rs) (sym (left_shown a thread c kit is sum filled none space acc x pool area mid f))
      (picked_ones P (λ (r : Ref). not (is_some (granted grants r.0))) (refs_of frame_of used) (refs_each (λ s. not (is_some (granted grants s.0)) ≡ true → P s) frame_of used h)))

  came_each : (P : ℕ → Type 0) → AllByRecursion (λ (e : ℕ × Cell). P e.0) used → All (λ r. P r.0) mid.frames.items
  came_each P h =
      shown_each (λ s. P s.0) mid.frames.items (subst (λ (rs : List Ref). AllByRecursion (λ (s : Ref). P s.0) rs) (sym (frames_shown a thread c kit is sum filled none space acc x pool area mid f))
      (given_each P _ grants (subst (λ (gs : Grant). AllByRecursion (λ (g : ℕ × ℕ). P g.0) gs) (sym (grants_are st thread c space acc x)) (pages_each P (wants_frame st acc.write) used (unused_frames st) h))))

  weaken : {X : Type 0} (P Q : X → Type 0) → ((x : X) → P x → Q x) → (xs : List X) → AllByRecursion P xs → AllByRecursion Q xs
  weaken P Q h [] all = tt
  weaken P Q h (x ∷ xs) all = (h x all.0, weaken P Q h xs all.1)

  pub own_touched : AreTouched acc.at acc.len mid.own_frames.items
  own_touched = own_each (λ s. IsTouched acc.at acc.len s.0) (weaken (λ (e : ℕ × Cell). IsTouched acc.at acc.len e.0) (λ (e : ℕ × Cell). (n : ℕ) → frame_of e.1 ≡ Some n → not (is_some (granted grants e.0)) ≡ true → IsTouched acc.at acc.len e.0) (λ e t n carries stays. t) used list_touched)

  pub came_touched : AreTouched acc.at acc.len mid.frames.items
  came_touched = came_each (IsTouched acc.at acc.len) list_touched

  own_whole : AreWhole mid.own_frames.items
  own_whole = own_each (λ s. length s.1.1 ≡ 4096) (list_each st thread c space acc x (λ k d. (n : ℕ) → frame_of d ≡ Some n → not (is_some (granted grants k)) ≡ true → length (contents [] d) ≡ 4096)
      (λ k d found w n carries stays. ap length (framed st.files d n carries) ∙ ok.bytes space k d found))

  abbrev settled : Kit → PageCounts → Type 0
  settled last pool' = Settles a thread c kit pool' area last

  -- where nothing is stored
  pub settles_unstored : acc.stored ≡ [] → (last : Kit) → last ≡ record mid { bytes = last.bytes; copy = last.copy } → Settles a thread c kit pool area last
  settles_unstored nothing last same =
      settles_at a thread c kit is sum filled none space acc x pool area mid f pool last
      (ap (λ (k : Kit). shown_refs k.own_frames.items) same ∙ unwritten (shown_refs mid.own_frames.items)) (ap (λ (k : Kit). shown_refs k.frames.items) same ∙ unwritten (shown_refs mid.frames.items)) refl (λ n o m had. had) (λ n many had. had)
      (subst (λ (refs : Refs). AreBacked pool refs) (sym (ap (λ (k : Kit). k.own_frames.items) same)) f.frames.backed)
      (subst (λ (refs : Refs). AreBacked pool refs) (sym (ap (λ (k : Kit). k.frames.items) same)) (own_backed pool mid.frames.items (All-weaker (IsSole f.mid) (λ r. r.1.body.own ≡ true) (λ r s. s.own) mid.frames.items f.sole)))
      (omega (arith, ap (λ (k : Kit). vec_capacity k.own_frames) same)) (omega (arith, ap (λ (k : Kit). vec_capacity k.frames) same))
      (same ∙ (λ i. record mid { bytes = last.bytes; copy = last.copy; own_frames = sym (ap (λ (k : Kit). k.own_frames) same) i; frames = sym (ap (λ (k : Kit). k.frames) same) i }))
    where
      unwritten : (refs : List Ref) → refs ≡ map (with_bytes (written acc.at acc.stored)) refs
      unwritten refs = nothing_shown acc.at refs ∙ ap (λ (l : List ℕ). map (with_bytes (written acc.at l)) refs) (sym nothing)

  -- where bytes are stored
  module _ (write : acc.write ≡ true) (same_len : acc.len ≡ length acc.stored) (few : length acc.stored ≤ 4096) where
    owner_one : (d : Cell) (n : ℕ) → frame_of d ≡ Some n → (wants_frame st acc.write d ≡ true → ⊥) → frame_owners st n ≡ 1
    owner_one (Mapped perm origin frame bytes) n e unwanted = subst (λ m. frame_owners st m ≡ 1) (same_some e) (go (nat_eq (frame_owners st frame) 1) refl)
      where
        go : (b : Bool) → nat_eq (frame_owners st frame) 1 ≡ b → frame_owners st frame ≡ 1
        go true h = eqb-true (frame_owners st frame) 1 h
        go false h = absurd (unwanted (λ i. write i && not (h i)))
    owner_one (Anon perm) n e unwanted = absurd (not_none (sym e))
    owner_one (File perm file index) n e unwanted = absurd (not_none (sym e))
    owner_one (Swapped perm origin slot bytes) n e unwanted = absurd (not_none (sym e))

    alone_before : AreAlone a.frames mid.own_frames.items
    alone_before = own_each (λ s. count_of a.frames.counts s.1.0 ≡ 1)
        (weaken (λ (e : ℕ × Cell). wants_frame st acc.write e.1 ≡ true → is_some (granted grants e.0) ≡ true) (λ (e : ℕ × Cell). (n : ℕ) → frame_of e.1 ≡ Some n → not (is_some (granted grants e.0)) ≡ true → count_of a.frames.counts n ≡ 1)
        (λ e gets n carries stays. is.counts.frames n ∙ owner_one e.1 n carries (λ wants. true≢false (sym stays ∙ ap not (gets wants)))) used (wanted_granted st thread c space acc x (pass a thread c kit is sum filled none space acc x).frames))

    own_alone : AreAlone pool mid.own_frames.items
    own_alone k d lt =
        let n = (get_or mid.own_frames.items k d).1.number in
        one n (alone_before k d lt) (counts_there mid.own_frames.items k d lt) (f.frames.balance.counts n) (f.frames.held.each n) (f.takes.owned n) (fewer_left a thread c kit is sum filled none space acc x pool area mid f n)
      where
        one : (n : ℕ) → count_of a.frames.counts n ≡ 1 → 1 ≤ times n (shown_refs mid.own_frames.items) → count_of pool.counts n + times n (shown_refs kit.own_frames.items) ≡ count_of f.mid.counts n + times n (shown_refs mid.own_frames.items) + times n [] →
            times n (shown_refs mid.own_frames.items) ≤ count_of pool.counts n → (1 ≤ count_of a.frames.counts n → count_of f.mid.counts n ≡ count_of a.frames.counts n) → times n (shown_refs mid.own_frames.items) ≤ times n (shown_refs kit.own_frames.items) → count_of pool.counts n ≡ 1
        one n alone there balance held owned fewer = omega (arith, alone, there, balance, held, owned (omega (arith, alone)), fewer)

    came_counted : (n : ℕ) → times n (shown_refs mid.frames.items) ≤ count_of pool.counts n
    came_counted n =
        omega (arith, f.takes.balance.counts n, taken_times a thread c kit is sum filled none space acc x pool area mid f n, (held_frames a thread c kit is sum filled none).each n, f.frames.balance.counts n)

    came_alone : AreAlone pool mid.frames.items
    came_alone k d lt =
        let n = (get_or mid.frames.items k d).1.number in
        one n (f.sole k d lt).one (counts_there mid.frames.items k d lt) (f.takes.balance.counts n) (taken_times a thread c kit is sum filled none space acc x pool area mid f n) ((held_frames a thread c kit is sum filled none).each n)
        (f.frames.balance.counts n) (fewer_left a thread c kit is sum filled none space acc x pool area mid f n)
      where
        one : (n : ℕ) → count_of f.mid.counts n ≡ 1 → 1 ≤ times n (shown_refs mid.frames.items) → count_of f.mid.counts n + times n [] ≡ count_of a.frames.counts n + times n [] + times n (shown_refs f.taken) →
            times n (shown_refs mid.frames.items) ≡ times n (shown_refs f.taken) → times n (shown_refs kit.own_frames.items) ≤ count_of a.frames.counts n →
            count_of pool.counts n + times n (shown_refs kit.own_frames.items) ≡ count_of f.mid.counts n + times n (shown_refs mid.own_frames.items) + times n [] → times n (shown_refs mid.own_frames.items) ≤ times n (shown_refs kit.own_frames.items) → count_of pool.counts n ≡ 1
        one n single there takes same held gives fewer = omega (arith, single, there, takes, same, held, gives, fewer)

    pub may_store : MayStore acc.at acc.stored pool mid
    may_store = record {
      few = few;
      own_touched = subst (λ n. AreTouched acc.at n mid.own_frames.items) same_len own_touched;
      own_alone = own_alone;
      own_whole = own_whole;
      own_held = f.frames.held;
      own_backed = f.frames.backed;
      came_touched = subst (λ n. AreTouched acc.at n mid.frames.items) same_len came_touched;
      came_alone = came_alone;
      came_whole = All-weaker (IsSole f.mid) (λ r. length r.1.body.bytes ≡ 4096) (λ r s. s.whole) mid.frames.items f.sole;
      came_held = record { each = came_counted };
      came_bodies = All-weaker (IsSole f.mid) (λ r. r.1.body.own ≡ true) (λ r s. s.own) mid.frames.items f.sole;
    }

    pub settles_stored : (pool' : PageCounts) (last : Kit) → StoresAll acc.at acc.stored pool mid pool' last → Settles a thread c kit pool' area last
    settles_stored pool' last stores =
        settles_at a thread c kit is sum filled none space acc x pool area mid f pool' last
        (ap shown_refs stores.own ∙ stored_shown acc.at acc.stored mid.own_frames.items) (ap shown_refs stores.came ∙ stored_shown acc.at acc.stored mid.frames.items) stores.counts stores.spares
        (λ n many had. stores.spares n (none_alone a.frames n many mid.own_frames.items alone_before) (none_taken a thread c kit is sum filled none space acc x pool area mid f n (omega (arith, many))) had)
        (own_backed pool' last.own_frames.items (subst (λ (refs : Refs). All (λ r. r.1.body.own ≡ true) refs) (sym stores.own) (stored_own acc.at acc.stored mid.own_frames.items)))
        (own_backed pool' last.frames.items (subst (λ (refs : Refs). All (λ r. r.1.body.own ≡ true) refs) (sym stores.came) (stored_own acc.at acc.stored mid.frames.items)))
        (omega (arith, stores.own_room)) (omega (arith, stores.came_room))
        (stores.same_kit ∙ (λ i. record mid { bytes = sym (ap (λ (k : Kit). k.bytes) stores.same_kit) i; copy = sym (ap (λ (k : Kit). k.copy) stores.same_kit) i; own_frames = last.own_frames; frames = last.frames }))
