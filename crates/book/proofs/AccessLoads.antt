-- A load reads what stood there.
use Rattle.std.proofs.Common.{◌≡◌, ℕ, ◌+◌, ◌-◌, ◌/◌, ◌%◌, ◌<◌, ◌≤◌, Bool, true, false, cond, not, List, [], ◌∷◌, length, get_or, refl, sym, ap, subst, ◌∙◌, arith}
use mathlib.Core.Bool.{true≢false}
use Rattle.std.specs.Prelude.{Option, Some, None, is_some, map}
use Rattle.std.specs.List.{AllByRecursion, filter}
use Rattle.std.specs.Option.{option_map, option_map_or, option_and_then}
use Rattle.std.specs.Ordering.{nat_cmp, eq_by_cmp}
use Rattle.std.specs.Cmp.{unsigned_tied}
use Rattle.std.specs.FinMap as fin
use Rattle.std.specs.FinMap.{find, get-entries}
use Rattle.std.proofs.lemmas.Bool.{eqb-true}
use Rattle.corten_base.specs.declared.calls.Call.{Call}
use Rattle.counted_pages.specs.Pages.{PageCounts}
use Rattle.table_place.specs.Range.{within}
use Rattle.table_place.proofs.Tables.{to_range}
use Rattle.page_map.specs.declared.cell.Cell.{Cell}
use Rattle.page_map.specs.Access.{Access, first_page, page_count, loaded, refused_access}
use Rattle.page_map.specs.Cell.{frame_of, contents}
use Rattle.page_map.specs.Effect.{frame_grants}
use Rattle.page_map.specs.Memory.{byte_at}
use Rattle.page_map.specs.State.{State, IsConsistent, space_at}
use Rattle.page_map.specs.Step.{refusal}
use Rattle.page_map.specs.Takes.{Grant, granted}
use Rattle.page_map.proofs.Memory.{touched_cell, loaded_is}
use Rattle.page_map.proofs.Steps.{not_none}
use Rattle.page_map.proofs.Written.{is_mapped}
use Rattle.machine_plan.specs.declared.kit.Kit.{Kit}
use Rattle.machine_plan.specs.Books.{BookData, state_of, RowSum}
use Rattle.machine_plan.specs.Kits.{IsFilled}
use Rattle.machine_plan.specs.Uses.{Ref, refs_of}
use Rattle.machine_plan.specs.Whole.{IsBook}
use Rattle.machine_plan.proofs.Whole.{book_is_consistent}
use Rattle.book.specs.Filling.{Sources, bytes_at, bytes_of}
use Rattle.book.specs.Storing.{byte_from}
use Rattle.book.specs.Touching.{Fills}
use Rattle.book.proofs.AccessCalls.{IsAccessCall, touched_in, list_sorted, lone_granted}
use Rattle.book.proofs.AccessSettles.{pass, bytes, bytes_are, frames_shown, left_shown}
use Rattle.book.proofs.CameRefs.{find_some}
use Rattle.book.proofs.FilledBytes.{value_of, shown_sources, cell_sources}
use Rattle.book.proofs.AccessStores.{framed}

tie_is : (k x : ℕ) → eq_by_cmp nat_cmp k x ≡ true → k ≡ x
tie_is k x t = eqb-true k x (sym (unsigned_tied k x) ∙ t)

-- the bytes of a page that was given a number
find_given : (bytes : ℕ → List ℕ) (gs : List (ℕ × ℕ)) (p : ℕ) → find nat_cmp p (map (λ (s : Ref). (s.0, s.1.1)) (map (λ (g : ℕ × ℕ). (g.0, (g.1, bytes g.0))) gs)) ≡ option_map (λ n. bytes p) (find nat_cmp p gs)
find_given bytes [] p = refl
find_given bytes (g ∷ gs) p = go (eq_by_cmp nat_cmp p g.0) refl (find_given bytes gs p)
  where
    go : (b : Bool) → eq_by_cmp nat_cmp p g.0 ≡ b → find nat_cmp p (map (λ (s : Ref). (s.0, s.1.1)) (map (λ (g : ℕ × ℕ). (g.0, (g.1, bytes g.0))) gs)) ≡ option_map (λ n. bytes p) (find nat_cmp p gs) →
        cond b (Some (bytes g.0)) (find nat_cmp p (map (λ (s : Ref). (s.0, s.1.1)) (map (λ (g : ℕ × ℕ). (g.0, (g.1, bytes g.0))) gs))) ≡ option_map (λ n. bytes p) (cond b (Some g.1) (find nat_cmp p gs))
    go true tied rest = ap (λ n. Some (bytes n)) (sym (tie_is p g.0 tied))
    go false tied rest = rest

find_picked : {X : Type 0} (q : ℕ → Bool) (es : List (ℕ × X)) (p : ℕ) → q p ≡ true → find nat_cmp p (filter (λ e. q e.0) es) ≡ find nat_cmp p es
find_picked q [] p is = refl
find_picked q (e ∷ es) p is = go (eq_by_cmp nat_cmp p e.0) refl (q e.0) refl (find_picked q es p is)
  where
    go : (t : Bool) → eq_by_cmp nat_cmp p e.0 ≡ t → (b : Bool) → q e.0 ≡ b → find nat_cmp p (filter (λ e. q e.0) es) ≡ find nat_cmp p es →
        find nat_cmp p (cond b (e ∷ filter (λ e. q e.0) es) (filter (λ e. q e.0) es)) ≡ cond t (Some e.1) (find nat_cmp p es)
    go t tied true h rest = (λ i. cond (tied i) (Some e.1) (rest i))
    go true tied false h rest = absurd (true≢false (sym is ∙ ap q (tie_is p e.0 tied) ∙ h))
    go false tied false h rest = rest

picked_sources : (q : ℕ → Bool) (refs : List Ref) → map (λ (s : Ref). (s.0, s.1.1)) (filter (λ (r : Ref). q r.0) refs) ≡ filter (λ (s : ℕ × List ℕ). q s.0) (map (λ (s : Ref). (s.0, s.1.1)) refs)
picked_sources q [] = refl
picked_sources q (r ∷ refs) = go (q r.0) (picked_sources q refs)
  where
    go : (b : Bool) → map (λ (s : Ref). (s.0, s.1.1)) (filter (λ (r : Ref). q r.0) refs) ≡ filter (λ (s : ℕ × List ℕ). q s.0) (map (λ (s : Ref). (s.0, s.1.1)) refs) →
        map (λ (s : Ref). (s.0, s.1.1)) (cond b (r ∷ filter (λ (r : Ref). q r.0) refs) (filter (λ (r : Ref). q r.0) refs))
        ≡ cond b ((r.0, r.1.1) ∷ filter (λ (s : ℕ × List ℕ). q s.0) (map (λ (s : Ref). (s.0, s.1.1)) refs)) (filter (λ (s : ℕ × List ℕ). q s.0) (map (λ (s : Ref). (s.0, s.1.1)) refs))
    go true h = ap (λ (ss : Sources). (r.0, r.1.1) ∷ ss) h
    go false h = h

-- what holds of each entry holds of the one that is found
found_in : {X : Type 0} (P : ℕ → X → Type 0) (es : List (ℕ × X)) (p : ℕ) (d : X) → AllByRecursion (λ (e : ℕ × X). P e.0 e.1) es → find nat_cmp p es ≡ Some d → P p d
found_in P [] p d h e = absurd (not_none (sym e))
found_in {X} P (x ∷ es) p d h e = go (eq_by_cmp nat_cmp p x.0) refl e (found_in P es p d h.1)
  where
    go : (b : Bool) → eq_by_cmp nat_cmp p x.0 ≡ b → cond b (Some x.1) (find nat_cmp p es) ≡ Some d → (find nat_cmp p es ≡ Some d → P p d) → P p d
    go true tied found rest = subst (λ (y : ℕ × X). P y.0 y.1) (λ i. (sym (tie_is p x.0 tied) i, Rattle.page_map.proofs.Owners.same_some found i)) h.0
    go false tied found rest = rest found

module _ (a : BookData) (thread : ℕ) (c : Call) (kit : Kit) (is : IsBook a) (sum : RowSum a) (filled : IsFilled a thread c kit) (none : refusal (state_of a) thread c (length a.limbo) ≡ None) (space : ℕ) (acc : Access) (x : IsAccessCall (state_of a) thread c space acc)
    (some : 1 ≤ acc.len) (pool area : PageCounts) (mid : Kit) (f : Fills a.files a.frames a.slots kit pool area mid) where
  abbrev st : State
  st = state_of a

  ok : IsConsistent st
  ok = book_is_consistent a is

  abbrev used : List (ℕ × Cell)
  used = touched_in (space_at st space) acc

  abbrev grants : Grant
  grants = frame_grants st c

  abbrev came : Sources
  came = bytes_of mid.frames.items

  abbrev own : Sources
  own = bytes_of mid.own_frames.items

  passes : refused_access st.files (space_at st space) acc ≡ None
  passes = sym x.pages ∙ (pass a thread c kit is sum filled none space acc x).pages

  in_came : (p : ℕ) → bytes_at came p ≡ option_map (λ n. bytes a thread c kit is sum filled none space acc x p) (granted grants p)
  in_came p =
      ap (λ (ss : Sources). find nat_cmp p ss) (shown_sources mid.frames.items ∙ ap (map (λ (s : Ref). (s.0, s.1.1))) (frames_shown a thread c kit is sum filled none space acc x pool area mid f))
      ∙ find_given (bytes a thread c kit is sum filled none space acc x) grants p

  in_own : (p : ℕ) → not (is_some (granted grants p)) ≡ true → bytes_at own p ≡ option_and_then (value_of frame_of) (find nat_cmp p used)
  in_own p stays =
      ap (λ (ss : Sources). find nat_cmp p ss)
      (shown_sources mid.own_frames.items ∙ ap (map (λ (s : Ref). (s.0, s.1.1))) (left_shown a thread c kit is sum filled none space acc x pool area mid f) ∙ picked_sources (λ k. not (is_some (granted grants k))) (refs_of frame_of used))
      ∙ find_picked (λ k. not (is_some (granted grants k))) (map (λ (s : Ref). (s.0, s.1.1)) (refs_of frame_of used)) p stays
      ∙ ap (λ (ss : Sources). find nat_cmp p ss) (cell_sources frame_of used)
      ∙ find_some (value_of frame_of) p used (list_sorted st thread c space acc x)

  -- the byte at an address of the access
  byte_there : (z address p : ℕ) (d : Cell) → p ≡ address / 4096 → fin.get (space_at st space) p ≡ Some d → within (first_page acc) (page_count acc) p ≡ true → (o : Option ℕ) → granted grants p ≡ o →
      byte_from came (byte_from own z address) address ≡ get_or (contents st.files d) (address % 4096) 0
  byte_there z address p d e found w (Some n) given =
      ap (λ k. option_map_or (λ (l : List ℕ). get_or l (address % 4096) 0) (bytes_at came k) (byte_from own z address)) (sym e)
      ∙ ap (λ (o : Option (List ℕ)). option_map_or (λ (l : List ℕ). get_or l (address % 4096) 0) o (byte_from own z address)) (in_came p ∙ ap (option_map (λ n. bytes a thread c kit is sum filled none space acc x p)) given)
      ∙ ap (λ (l : List ℕ). get_or l (address % 4096) 0) (sym (found_in (λ k y. contents st.files y ≡ bytes a thread c kit is sum filled none space acc x k) used p d (bytes_are a thread c kit is sum filled none space acc x) (there w)))
    where
      there : within (first_page acc) (page_count acc) p ≡ true → find nat_cmp p used ≡ Some d
      there w = find_picked (within (first_page acc) (page_count acc)) (fin.entries (space_at st space)) p w ∙ sym (get-entries (space_at st space) p) ∙ found
  byte_there z address p d e found w None given =
      ap (λ k. option_map_or (λ (l : List ℕ). get_or l (address % 4096) 0) (bytes_at came k) (byte_from own z address)) (sym e)
      ∙ ap (λ (o : Option (List ℕ)). option_map_or (λ (l : List ℕ). get_or l (address % 4096) 0) o (byte_from own z address)) (in_came p ∙ ap (option_map (λ n. bytes a thread c kit is sum filled none space acc x p)) given)
      ∙ ap (λ k. option_map_or (λ (l : List ℕ). get_or l (address % 4096) 0) (bytes_at own k) z) (sym e)
      ∙ ap (λ (o : Option (List ℕ)). option_map_or (λ (l : List ℕ). get_or l (address % 4096) 0) o z) (in_own p (ap (λ (o : Option ℕ). not (is_some o)) given) ∙ ap (option_and_then (value_of frame_of)) there)
      ∙ of_frame (frame_of d) refl
    where
      there : find nat_cmp p used ≡ Some d
      there = find_picked (within (first_page acc) (page_count acc)) (fin.entries (space_at st space)) p w ∙ sym (get-entries (space_at st space) p) ∙ found

      of_frame : (o : Option ℕ) → frame_of d ≡ o → option_map_or (λ (l : List ℕ). get_or l (address % 4096) 0) (option_map (λ n. contents [] d) (frame_of d)) z ≡ get_or (contents st.files d) (address % 4096) 0
      of_frame (Some n) h = ap (λ (o : Option ℕ). option_map_or (λ (l : List ℕ). get_or l (address % 4096) 0) (option_map (λ n. contents [] d) o) z) h ∙ ap (λ (l : List ℕ). get_or l (address % 4096) 0) (framed st.files d n h)
      of_frame None h =
          absurd (true≢false (sym (found_in (λ k y. frame_of y ≡ None → is_some (granted grants k) ≡ true) used p d (lone_granted st thread c space acc x (pass a thread c kit is sum filled none space acc x).frames) there h) ∙ ap is_some given))

  each_byte : (list : List ℕ) → length list ≡ acc.len → (i : ℕ) → i < acc.len → byte_from came (byte_from own (get_or list i 0) (acc.at + i)) (acc.at + i) ≡ byte_at st space (acc.at + i)
  each_byte list long i lt =
      let p = (acc.at + i) / 4096 in
      let w = to_range (first_page acc) (page_count acc) p (low acc.at i) (high acc.at acc.len i lt) in
      let at = touched_cell st.files (space_at st space) acc passes p w in
      byte_there (get_or list i 0) (acc.at + i) p at.0 refl at.1 w (granted grants p) refl
      ∙ ap (λ (o : Option Cell). get_or (option_map_or (contents st.files) o []) ((acc.at + i) % 4096) 0) (sym at.1)
    where
      low : (at i : ℕ) → at / 4096 ≤ (at + i) / 4096
      low at i = omega arith

      high : (at len i : ℕ) → i < len → (at + i) / 4096 < at / 4096 + ((at + len - 1) / 4096 + 1 - at / 4096)
      high at len i h = omega arith

  pub read_is : (list result : List ℕ) → length list ≡ acc.len → length result ≡ length list → ((i : ℕ) → i < length list → get_or result i 0 ≡ byte_from came (byte_from own (get_or list i 0) (acc.at + i)) (acc.at + i)) →
      result ≡ loaded st.files (space_at st space) acc
  read_is list result long same each =
      is_mapped (byte_at st space) result acc.at acc.len (same ∙ long) (λ i lt. each i (subst (λ n. i < n) (sym long) lt) ∙ each_byte list long i lt)
      ∙ sym (loaded_is st ok space acc passes)
