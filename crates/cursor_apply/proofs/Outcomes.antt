-- What accesses, and moves to and from swap, make of the cell of a page that they use.
--     Outcome      the cell before and after
--     outcome, none_after      a page with a cell;  one without
use Rattle.std.specs.Prelude.{◌≡◌, ℕ, ◌/◌, ◌≤◌, ◌⊎◌, ◌&&◌, ◌||◌, Bool, true, false, not, cond, List, [], ◌∷◌, map, length, nat_eq, Option, Some, None, is_some}
use Rattle.std.specs.Option.{unwrap_or, option_map}
use Rattle.std.specs.List.{AllByRecursion, filter, list_any}
use Rattle.std.specs.Ordering.{nat_cmp, eq_by_cmp}
use Rattle.std.specs.Cmp.{unsigned_tied}
use Rattle.std.specs.FinMap as fin
use Rattle.std.proofs.Common.{sym, refl, ◌∙◌, ap, subst, inl, inr}
use Rattle.std.proofs.lemmas.Bool.{true≢false, and_parts, or_cases, eqb-true, false_from_ne_true}
use Rattle.corten_base.specs.declared.calls.Call.{Call}
use Rattle.corten_base.specs.declared.calls.Call.TheVariants as call
use Rattle.page_map.specs.declared.cell.Cell.{Cell}
use Rattle.page_map.specs.declared.cell.Cell.TheVariants.{Anon, File, Mapped, Swapped}
use Rattle.page_map.specs.Access.{Access, first_page, page_count, touched, wants_frame, wanting_frames, after_access}
use Rattle.page_map.specs.Cell.{AddressSpace, backing_of, frame_of, perm_of, slot_of}
use Rattle.page_map.specs.Change.{keys_in}
use Rattle.page_map.specs.Effect.{frame_grants, slot_grants, state_after, wanting_frames_of}
use Rattle.page_map.specs.State.{State, cell_at, space_at, frame_owners, unused_frames}
use Rattle.page_map.specs.Swap.{comes_in, in_to, out_to, moved, moved_to}
use Rattle.page_map.specs.Takes.{Grant, grant, granted}
use Rattle.page_map.proofs.Cells.{changed, cell_changed}
use Rattle.page_map.proofs.Few.{each_entry}
use Rattle.page_map.proofs.Grants.{granted_unused, granted_each, key_chosen}
use Rattle.page_map.proofs.Keeps.{enough_frames}
use Rattle.page_map.proofs.Range.{get-change}
use Rattle.page_map.proofs.Steps.{Passed, not_none}
use Rattle.table_place.specs.Place.{pages_of}
use Rattle.table_place.specs.Range.{within}
use Rattle.machine_plan.specs.Uses.{uses_page}
use Rattle.cursor_apply.specs.Applying.{is_store}
use Rattle.cursor_apply.specs.Moving.{IsMove}

abbrev pub gets : Grant → ℕ → Bool
gets grants p = is_some (granted grants p)

-- a number that the page has was granted, and nobody had it, or the page had it before. A page that is written has its frame for itself.
pub record Outcome (st : State) (c : Call) (p : ℕ) (e d : Cell) : Type 0 where
  pub perm : perm_of d ≡ perm_of e
  pub origin : backing_of d ≡ backing_of e
  pub frame : (n : ℕ) → frame_of d ≡ Some n
      → ((gets (frame_grants st c) p ≡ true) × (frame_owners st n ≡ 0)) ⊎ ((gets (frame_grants st c) p ≡ false) × (frame_of e ≡ Some n) × (is_store c ≡ true → frame_owners st n ≡ 1))
  pub slot : (n : ℕ) → slot_of d ≡ Some n → (is_store c ≡ false) × ((gets (slot_grants st c) p ≡ true) ⊎ ((gets (slot_grants st c) p ≡ false) × (slot_of e ≡ Some n)))
  pub plain : frame_of d ≡ None → slot_of d ≡ None → d ≡ e
  pub written : is_store c ≡ true → (n : ℕ) × (frame_of d ≡ Some n)

-- ---- numbers that pages get

granted_wanted : (p m : ℕ) (pages numbers : List ℕ) → granted (grant pages numbers) p ≡ Some m → list_any (eq_by_cmp nat_cmp p) pages ≡ true
granted_wanted p m [] numbers e = absurd (not_none (sym e))
granted_wanted p m (x ∷ pages) [] e = absurd (not_none (sym e))
granted_wanted p m (x ∷ pages) (k ∷ numbers) e = go (eq_by_cmp nat_cmp p x) (granted_wanted p m pages numbers) e
  where
    go : (t : Bool) → (granted (grant pages numbers) p ≡ Some m → list_any (eq_by_cmp nat_cmp p) pages ≡ true) → cond t (Some k) (granted (grant pages numbers) p) ≡ Some m → (t || list_any (eq_by_cmp nat_cmp p) pages) ≡ true
    go true rest e = refl
    go false rest e = rest e

module _ (first count : ℕ) (passes : Cell → Bool) (m : AddressSpace) (p : ℕ) (x : Cell) (there : fin.get m p ≡ Some x) where
  listed_passes : (es : List (ℕ × Cell)) → AllByRecursion (λ (e : ℕ × Cell). fin.get m e.0 ≡ Some e.1) es
      → list_any (eq_by_cmp nat_cmp p) (map (λ (e : ℕ × Cell). e.0) (filter (λ (e : ℕ × Cell). within first count e.0 && passes e.1) es)) ≡ true → passes x ≡ true
  listed_passes [] all h = absurd (true≢false (sym h))
  listed_passes (e ∷ es) all h = go (within first count e.0 && passes e.1) refl (listed_passes es all.1) h
    where
      one : eq_by_cmp nat_cmp p e.0 ≡ true → e.1 ≡ x
      one tied =
          let key : p ≡ e.0 = eqb-true p e.0 (sym (unsigned_tied p e.0) ∙ tied) in
          let both : Some e.1 ≡ Some x = sym all.0 ∙ (ap (fin.get m) (sym key) ∙ there) in
          cc

      go : (t : Bool) → (within first count e.0 && passes e.1) ≡ t
          → (list_any (eq_by_cmp nat_cmp p) (map (λ (e : ℕ × Cell). e.0) (filter (λ (e : ℕ × Cell). within first count e.0 && passes e.1) es)) ≡ true → passes x ≡ true)
          → list_any (eq_by_cmp nat_cmp p) (map (λ (e : ℕ × Cell). e.0) (cond t (e ∷ filter (λ (e : ℕ × Cell). within first count e.0 && passes e.1) es) (filter (λ (e : ℕ × Cell). within first count e.0 && passes e.1) es))) ≡ true
          → passes x ≡ true
      go false is rest h = rest h
      go true is rest h = elim (or_cases (eq_by_cmp nat_cmp p e.0) (list_any (eq_by_cmp nat_cmp p) (map (λ (e : ℕ × Cell). e.0) (filter (λ (e : ℕ × Cell). within first count e.0 && passes e.1) es))) h) [
        | inl tied ↦ ap passes (sym (one tied)) ∙ (and_parts (within first count e.0) (passes e.1) is).1
        | inr later ↦ rest later
      ]

  wanted_passes : list_any (eq_by_cmp nat_cmp p) (keys_in m first count passes) ≡ true → passes x ≡ true
  wanted_passes h = listed_passes (fin.entries m) (each_entry (λ k y. fin.get m k ≡ Some y) m (λ k y found. found)) h

-- ---- an access

unwanted : (st : State) (write : Bool) (e : Cell) → wants_frame st write e ≡ false → (f : ℕ) × (frame_of e ≡ Some f) × (write ≡ true → frame_owners st f ≡ 1)
unwanted st write (Anon perm) h = absurd (true≢false h)
unwanted st write (File perm file index) h = absurd (true≢false h)
unwanted st write (Swapped perm origin slot bytes) h = absurd (true≢false h)
unwanted st write (Mapped perm origin f bytes) h = (f, refl, λ w. go (nat_eq (frame_owners st f) 1) refl (ap (λ t. t && not (nat_eq (frame_owners st f) 1)) (sym w) ∙ h))
  where
    go : (t : Bool) → nat_eq (frame_owners st f) 1 ≡ t → not t ≡ false → frame_owners st f ≡ 1
    go true e n = eqb-true (frame_owners st f) 1 e
    go false e n = absurd (true≢false n)

module _ (st : State) (space : ℕ) (a : Access) (enough : length (wanting_frames st (space_at st space) a) ≤ length (unused_frames st)) (p : ℕ) (here : within (first_page a) (page_count a) p ≡ true) where
  abbrev grants : Grant
  grants = grant (wanting_frames st (space_at st space) a) (unused_frames st)

  abbrev after : AddressSpace
  after = after_access st.files grants a (space_at st space)

  touched_cell : fin.get after p ≡ option_map (touched st.files grants a p) (cell_at st space p)
  unfolding after_access
  touched_cell = get-change (space_at st space) (first_page a) (page_count a) (λ page. option_map (touched st.files grants a page)) p
      ∙ ap (λ t. cond t (option_map (touched st.files grants a p) (cell_at st space p)) (cell_at st space p)) here

  frame_is : (e : Cell) → cell_at st space p ≡ Some e → (o : Option ℕ) → granted grants p ≡ o → (n : ℕ) → Some (unwrap_or o (unwrap_or (frame_of e) 0)) ≡ Some n
      → ((gets grants p ≡ true) × (frame_owners st n ≡ 0)) ⊎ ((gets grants p ≡ false) × (frame_of e ≡ Some n) × (a.write ≡ true → frame_owners st n ≡ 1))
  frame_is e there (Some m) got n is =
      let same : m ≡ n = cc in
      inl (ap (λ (o : Option ℕ). is_some o) got, subst (λ k. frame_owners st k ≡ 0) same (granted_unused (frame_owners st) st.limits.frames (wanting_frames st (space_at st space) a) p m got).1)
  frame_is e there None got n is =
      let no : gets grants p ≡ false = ap (λ (o : Option ℕ). is_some o) got in
      let u = unwanted st a.write e (false_from_ne_true (wants_frame st a.write e) (λ wants.
      true≢false (sym (granted_each p (wanting_frames st (space_at st space) a) (unused_frames st) enough (key_chosen (first_page a) (page_count a) (wants_frame st a.write) (space_at st space) p e there here wants)) ∙ no))) in
      let number : Some (unwrap_or (frame_of e) 0) ≡ Some u.0 = ap (λ (o : Option ℕ). Some (unwrap_or o 0)) u.1 in
      let same : u.0 ≡ n = (let both : Some u.0 ≡ Some n = sym number ∙ is in cc) in
      inr (no, u.1 ∙ ap Some same, λ w. subst (λ k. frame_owners st k ≡ 1) same (u.2 w))

-- ---- a move to or from swap

module _ (st : State) (space first count p : ℕ) (here : within first count p ≡ true) (to : ℕ → Cell → Cell) (grants : Grant) where
  moved_cell : fin.get (moved_to to grants first count (space_at st space)) p ≡ option_map (moved to (granted grants p)) (cell_at st space p)
  unfolding moved_to
  moved_cell = get-change (space_at st space) first count (λ page. option_map (moved to (granted grants page))) p
      ∙ ap (λ t. cond t (option_map (moved to (granted grants p)) (cell_at st space p)) (cell_at st space p)) here

never_store : {P : Type 0} → false ≡ true → P
never_store e = absurd (true≢false (sym e))

module _ (st : State) (space at len p : ℕ) where
  abbrev out : Call
  out = call.SwapOut space at len

  went_out : (o : Option ℕ) → granted (slot_grants st out) p ≡ o → (e : Cell) → Outcome st out p e (moved out_to o e)
  went_out None got e = record {
    perm = refl;
    origin = refl;
    frame = λ n is. inr (refl, is, λ w. never_store w);
    slot = λ n is. (refl, inr (ap (λ (o : Option ℕ). is_some o) got, is));
    plain = λ f s. refl;
    written = λ w. never_store w;
  }
  went_out (Some m) got (Mapped perm origin f bytes) = record {
    perm = refl;
    origin = refl;
    frame = λ n is. absurd (not_none (sym is));
    slot = λ n is. (refl, inl (ap (λ (o : Option ℕ). is_some o) got));
    plain = λ f s. absurd (not_none s);
    written = λ w. never_store w;
  }
  went_out (Some m) got (Anon perm) = record {
    perm = refl;
    origin = refl;
    frame = λ n is. absurd (not_none (sym is));
    slot = λ n is. absurd (not_none (sym is));
    plain = λ f s. refl;
    written = λ w. never_store w;
  }
  went_out (Some m) got (File perm file index) = record {
    perm = refl;
    origin = refl;
    frame = λ n is. absurd (not_none (sym is));
    slot = λ n is. absurd (not_none (sym is));
    plain = λ f s. refl;
    written = λ w. never_store w;
  }
  went_out (Some m) got (Swapped perm origin s bytes) = record {
    perm = refl;
    origin = refl;
    frame = λ n is. absurd (not_none (sym is));
    slot = λ n is. (refl, inl (ap (λ (o : Option ℕ). is_some o) got));
    plain = λ f s. refl;
    written = λ w. never_store w;
  }

  abbrev into : Call
  into = call.SwapIn space at len

  came_in : (e : Cell) → cell_at st space p ≡ Some e → (o : Option ℕ) → granted (frame_grants st into) p ≡ o → Outcome st into p e (moved in_to o e)
  came_in e there None got = record {
    perm = refl;
    origin = refl;
    frame = λ n is. inr (ap (λ (o : Option ℕ). is_some o) got, is, λ w. never_store w);
    slot = λ n is. (refl, inr (refl, is));
    plain = λ f s. refl;
    written = λ w. never_store w;
  }
  came_in (Swapped perm origin s bytes) there (Some m) got = record {
    perm = refl;
    origin = refl;
    frame = λ n is.
        let same : m ≡ n = cc in
        inl (ap (λ (o : Option ℕ). is_some o) got, subst (λ k. frame_owners st k ≡ 0) same (granted_unused (frame_owners st) st.limits.frames (wanting_frames_of st into) p m got).1);
    slot = λ n is. absurd (not_none (sym is));
    plain = λ f s. absurd (not_none f);
    written = λ w. never_store w;
  }
  came_in (Mapped perm origin f bytes) there (Some m) got =
      absurd (true≢false (sym (wanted_passes (at / 4096) (pages_of len) comes_in (space_at st space) p (Mapped perm origin f bytes) there (granted_wanted p m (wanting_frames_of st into) (unused_frames st) got))))
  came_in (Anon perm) there (Some m) got = record {
    perm = refl;
    origin = refl;
    frame = λ n is. absurd (not_none (sym is));
    slot = λ n is. absurd (not_none (sym is));
    plain = λ f s. refl;
    written = λ w. never_store w;
  }
  came_in (File perm file index) there (Some m) got = record {
    perm = refl;
    origin = refl;
    frame = λ n is. absurd (not_none (sym is));
    slot = λ n is. absurd (not_none (sym is));
    plain = λ f s. refl;
    written = λ w. never_store w;
  }

-- ---- each call

abbrev Has : State → State → Call → ℕ → ℕ → Type 0
Has st now c s p = ((e : Cell) → cell_at st s p ≡ Some e → (d : Cell) × (cell_at now s p ≡ Some d) × Outcome st c p e d) × (cell_at st s p ≡ None → cell_at now s p ≡ None)

module _ (st : State) (thread limbo s p : ℕ) where
  -- the page as the changed space has it
  here_now : (space : ℕ) (cells : AddressSpace) (named : Bool) → (nat_eq s space && named) ≡ true → (named ≡ true) × (s ≡ space) × (fin.get cells p ≡ cell_at (changed st space cells st.tables) s p)
  here_now space cells named h =
      let both = and_parts (nat_eq s space) named h in
      (both.1, eqb-true s space both.0, sym (cell_changed st space cells st.tables s p ∙ ap (λ t. cond t (fin.get cells p) (cell_at st s p)) both.0))

  of_access : (c : Call) (space : ℕ) (a : Access) → (named : Bool) → named ≡ within (first_page a) (page_count a) p → (nat_eq s space && named) ≡ true → a.write ≡ is_store c
      → frame_grants st c ≡ grant (wanting_frames st (space_at st space) a) (unused_frames st) → length (wanting_frames st (space_at st space) a) ≤ length (unused_frames st)
      → Has st (changed st space (after_access st.files (grant (wanting_frames st (space_at st space) a) (unused_frames st)) a (space_at st space)) st.tables) c s p
  of_access c space a named is h stores same_grants enough =
      let cells = after_access st.files (grant (wanting_frames st (space_at st space) a) (unused_frames st)) a (space_at st space) in
      let at = here_now space cells named h in
      let inside = sym is ∙ at.0 in
      let now = touched_cell st space a enough p inside in (
        λ e there.
            let there' = ap (λ t. cell_at st t p) (sym at.1) ∙ there in (
              touched st.files (grant (wanting_frames st (space_at st space) a) (unused_frames st)) a p e,
              sym at.2 ∙ (now ∙ ap (option_map (touched st.files (grant (wanting_frames st (space_at st space) a) (unused_frames st)) a p)) there'),
              record {
                perm = refl;
                origin = refl;
                frame = λ n is_n.
                    let k = frame_is st space a enough p inside e there' (granted (grant (wanting_frames st (space_at st space) a) (unused_frames st)) p) refl n is_n in
                    subst (λ (g : Grant). ((gets g p ≡ true) × (frame_owners st n ≡ 0)) ⊎ ((gets g p ≡ false) × (frame_of e ≡ Some n) × (is_store c ≡ true → frame_owners st n ≡ 1))) (sym same_grants)
                    (elim k [ inl new ↦ inl new | inr old ↦ inr (old.0, old.1, λ w. old.2 (stores ∙ w)) ]);
                slot = λ n is_n. absurd (not_none (sym is_n));
                plain = λ f s. absurd (not_none f);
                written = λ w. (unwrap_or (granted (grant (wanting_frames st (space_at st space) a) (unused_frames st)) p) (unwrap_or (frame_of e) 0), refl);
              },
            ),
        λ none. sym at.2 ∙ (now ∙ ap (option_map (touched st.files (grant (wanting_frames st (space_at st space) a) (unused_frames st)) a p)) (ap (λ t. cell_at st t p) (sym at.1) ∙ none)),
      )

  of_move : (c : Call) (space first count : ℕ) (to : ℕ → Cell → Cell) (grants : Grant) → (nat_eq s space && within first count p) ≡ true
      → ((e : Cell) → cell_at st space p ≡ Some e → Outcome st c p e (moved to (granted grants p) e)) → Has st (changed st space (moved_to to grants first count (space_at st space)) st.tables) c s p
  of_move c space first count to grants h each =
      let at = here_now space (moved_to to grants first count (space_at st space)) (within first count p) h in
      let now = moved_cell st space first count p at.0 to grants in (
        λ e there.
            let there' = ap (λ t. cell_at st t p) (sym at.1) ∙ there in
            (moved to (granted grants p) e, sym at.2 ∙ (now ∙ ap (option_map (moved to (granted grants p))) there'), each e there'),
        λ none. sym at.2 ∙ (now ∙ ap (option_map (moved to (granted grants p))) (ap (λ t. cell_at st t p) (sym at.1) ∙ none)),
      )

  pub outcome : (c : Call) → IsMove c → Passed st thread c limbo → uses_page st thread c s p ≡ true → Has st (state_after st thread c) c s p
  unfolding state_after
  outcome (call.Load space at len) move ok uses = of_access (call.Load space at len) space (record { at = at; len = len; write = false; stored = [] }) _ refl uses refl refl (enough_frames st thread (call.Load space at len) limbo ok)
  outcome (call.Store space at bytes) move ok uses = of_access (call.Store space at bytes) space (record { at = at; len = length bytes; write = true; stored = bytes }) _ refl uses refl refl (enough_frames st thread (call.Store space at bytes) limbo ok)
  outcome (call.Fault space at write) move ok uses = of_access (call.Fault space at write) space (record { at = at; len = 1; write = write; stored = [] }) _ refl uses refl refl (enough_frames st thread (call.Fault space at write) limbo ok)
  outcome (call.SwapOut space at len) move ok uses = of_move (call.SwapOut space at len) space (at / 4096) (pages_of len) out_to (slot_grants st (call.SwapOut space at len)) uses (λ e there. went_out st space at len p (granted (slot_grants st (call.SwapOut space at len)) p) refl e)
  outcome (call.SwapIn space at len) move ok uses = of_move (call.SwapIn space at len) space (at / 4096) (pages_of len) in_to (frame_grants st (call.SwapIn space at len)) uses (λ e there. came_in st space at len p e there (granted (frame_grants st (call.SwapIn space at len)) p) refl)
  outcome (call.Map space where_to len perm what) move ok uses = absurd move
  outcome (call.Unmap space at len) move ok uses = absurd move
  outcome (call.Protect space at len perm) move ok uses = absurd move
  outcome call.Spawn move ok uses = absurd move
  outcome (call.Fork space) move ok uses = absurd move
  outcome (call.Exit space) move ok uses = absurd move
  outcome (call.Txn space at len ops) move ok uses = absurd move
  outcome (call.DontNeed space at len) move ok uses = absurd move
  outcome (call.Remap space at old_len new_len) move ok uses = absurd move
