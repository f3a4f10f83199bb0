-- Making and removing spaces keeps the facts of a state.
use Rattle.std.proofs.Common.{◌≡◌, ℕ, ◌+◌, ◌-◌, ◌^◌, ◌<◌, ◌≤◌, Bool, true, false, cond, not, ◌&&◌, List, [], ◌∷◌, refl, sym, ap, subst, ◌∙◌, arith, inl, inr}
use mathlib.Core.Bool.{true≢false}
use Rattle.std.specs.Prelude.{Option, Some, None, is_some, nat_eq, nat_lt, map}
use Rattle.std.specs.Option.{unwrap_or, option_map_or}
use Rattle.std.specs.List.{list_any, flat_map}
use Rattle.std.specs.Ordering.{nat_cmp, is_eq, eq_by_cmp}
use Rattle.std.specs.Cmp.{tied_itself, nat_cmp_total, unsigned_tied, nat_eq_equiv, Equal-is}
use Rattle.std.specs.FinMap as fin
use Rattle.std.specs.FinMap.{get-empty, get-remove}
use Rattle.std.specs.FinSet as set
use Rattle.std.proofs.lemmas.Bool.{and_parts, and_from, eqb-true, or_left, or_right, or_cases, not-true, lt-ltb, cases_lt}
use Rattle.corten_base.specs.declared.calls.Call.TheVariants as call
use Rattle.table_place.specs.declared.Place.{Place}
use Rattle.table_place.specs.Range.{within}
use Rattle.table_place.specs.Place.{place_cmp, root, parent, is_place, above, is_above, span_first, span_count}
use Rattle.table_place.proofs.Tables.{above_parent}
use Rattle.page_map.specs.declared.cell.Cell.{Cell}
use Rattle.page_map.specs.Cell.{frame_of, slot_of}
use Rattle.page_map.specs.Alike.{is_unlike}
use Rattle.page_map.specs.Tables.{Tables, changed_tables, need}
use Rattle.page_map.specs.State.{State, AddressSpace, IsConsistent, SharersAgree, levels, linked, space_at, cell_at, is_present}
use Rattle.page_map.specs.Spaces.{least_absent, used_tables, copied_tables}
use Rattle.page_map.specs.Effect.{is_given_up, state_after}
use Rattle.page_map.proofs.Places.{place_total, place_exact}
use Rattle.page_map.proofs.Steps.{Passed, not_none}
use Rattle.page_map.proofs.Unmapped.{held_of}
use Rattle.page_map.proofs.Least.{least_passes}
use Rattle.page_map.proofs.Alike.{none_alike}
use Rattle.page_map.proofs.Cells.{changed, each_cell, spaces_changed, present_changed}
use Rattle.page_map.proofs.Wanted.{is_wanted, AreWanted, both_wanted, root_wanted}
use Rattle.page_map.proofs.Growth.{stays, comes, whence, grown_len, fewer_left, parent_root}
use Rattle.page_map.proofs.Unlike.{wanted_filter, above_any, some_passes, lower_above, keyed}
use Rattle.page_map.proofs.Keeps.{room}

-- A state each of whose cells another has at the same page of some space has the facts of that one, where its tables do.
module _ (st : State) (spaces : fin.FinMap nat_cmp AddressSpace) (tables : Tables) where
  abbrev other : State
  other = record st { spaces = spaces; tables = tables }

  pub record IsCopied (source : ℕ → ℕ) : Type 0 where
    pub cells : (s p : ℕ) (c : Cell) → cell_at other s p ≡ Some c → cell_at st (source s) p ≡ Some c
    pub known : (s : ℕ) → is_present other s ≡ true → s < 64
    pub roots : (s : ℕ) → is_present other s ≡ true → set.contains tables (root (levels st) s) ≡ true
    pub unlike : (p : Place) → 1 ≤ p.level → p.level < levels st → is_unlike (space_at other p.space) p ≡ true → set.contains tables p ≡ true
    pub parents : (p : Place) → set.contains tables p ≡ true → p.level < levels st → set.contains tables (parent p) ≡ true
    pub absent : (p : Place) → set.contains tables p ≡ true → is_present other p.space ≡ true
    pub places : (p : Place) → set.contains tables p ≡ true → is_place (levels st) p ≡ true
    pub few : set.len tables ≤ st.limits.tables

  pub copied_keeps : (source : ℕ → ℕ) → IsConsistent st → IsCopied source → IsConsistent other
  copied_keeps source ok copy =
      let agree : (number_of : Cell → Option ℕ) → SharersAgree number_of st → SharersAgree number_of other =
      λ number_of shared s t p q c d n e f is also. (let h = shared (source s) (source t) p q c d n (copy.cells s p c e) (copy.cells t q d f) is also in (h.0, λ same. h.1 (ap source same))) in
      record {
        some_levels = ok.some_levels;
        few_levels = ok.few_levels;
        spaces = copy.known;
        pages = λ s p c e. ok.pages (source s) p c (copy.cells s p c e);
        bytes = λ s p c e. ok.bytes (source s) p c (copy.cells s p c e);
        indexes = λ s p c e. ok.indexes (source s) p c (copy.cells s p c e);
        roots = copy.roots;
        unlike = copy.unlike;
        parents = copy.parents;
        absent = copy.absent;
        places = copy.places;
        tables = copy.few;
        frames = λ s p n c e is. ok.frames (source s) p n c (copy.cells s p c e) is;
        slots = λ s p n c e is. ok.slots (source s) p n c (copy.cells s p c e) is;
        shared_frames = agree frame_of ok.shared_frames;
        shared_slots = agree slot_of ok.shared_slots;
      }

-- ---- a new space, empty or with the cells of another

module _ (st : State) (new source : ℕ) (cells : AddressSpace) (is_given_up : Place → Bool) (wanted : List Place) where
  abbrev born : State
  born = changed st new cells (changed_tables is_given_up wanted st.tables)

  abbrev source_of : ℕ → ℕ
  source_of s = cond (nat_eq s new) source s

  -- what is known of the new space
  pub record IsBorn : Type 0 where
    pub known : new < 64
    pub none : (p : Place) → is_given_up p ≡ false
    pub want : AreWanted (levels st) new wanted
    pub rooted : is_wanted wanted (root (levels st) new) ≡ true
    pub came : (p : ℕ) (c : Cell) → fin.get cells p ≡ Some c → cell_at st source p ≡ Some c
    pub own : (p : Place) → p.space ≡ new → 1 ≤ p.level → p.level < levels st → is_unlike cells p ≡ true → is_wanted wanted p ≡ true
    pub room : linked st + need wanted st.tables ≤ st.limits.tables

  new_present : is_present born new ≡ true
  new_present = present_changed st new cells (changed_tables is_given_up wanted st.tables) new ∙ ap (λ b. cond b true (is_present st new)) (nat_eq_equiv.refl new)

  old_present : (s : ℕ) → is_present st s ≡ true → is_present born s ≡ true
  old_present s h = present_changed st new cells (changed_tables is_given_up wanted st.tables) s ∙ ap (cond (nat_eq s new) true) h ∙ either (nat_eq s new)
    where
      either : (b : Bool) → cond b true true ≡ true
      either true = refl
      either false = refl

  each_present : (P : ℕ → Type 0) → P new → ((s : ℕ) → is_present st s ≡ true → P s) → (s : ℕ) → is_present born s ≡ true → P s
  each_present P here old s h = go (nat_eq s new) refl (sym (present_changed st new cells (changed_tables is_given_up wanted st.tables) s) ∙ h)
    where
      go : (b : Bool) → nat_eq s new ≡ b → cond b true (is_present st s) ≡ true → P s
      go true e h = subst P (sym (eqb-true s new e)) here
      go false e h = old s h

  -- each table whose span is not alike is there
  unlike_born : IsConsistent st → IsBorn → (p : Place) → 1 ≤ p.level → p.level < levels st → is_unlike (cond (nat_eq p.space new) cells (space_at st p.space)) p ≡ true →
      set.contains (changed_tables is_given_up wanted st.tables) p ≡ true
  unlike_born ok b p low high = go (nat_eq p.space new) refl
    where
      go : (t : Bool) → nat_eq p.space new ≡ t → is_unlike (cond t cells (space_at st p.space)) p ≡ true → set.contains (changed_tables is_given_up wanted st.tables) p ≡ true
      go true e h = comes is_given_up wanted st.tables p (b.own p (eqb-true p.space new e) low high h)
      go false e h = stays is_given_up wanted st.tables p (ok.unlike p low high h) (b.none p)

  parent_wanted : IsBorn → (p : Place) → is_wanted wanted p ≡ true → p.level < levels st → is_wanted wanted (parent p) ≡ true
  parent_wanted b p is below = elim (cases_lt (p.level + 1) (levels st)) [
    | inl less ↦ b.want.parents p is less
    | inr last ↦ subst (λ (q : Place). is_wanted wanted q ≡ true)
        (sym (parent_root (levels st) p (b.want.places p is) (top p.level (levels st) below last) ∙ ap (root (levels st)) (b.want.spaces p is))) b.rooted
  ]
    where
      top : (k n : ℕ) → k < n → n ≤ k + 1 → k + 1 ≡ n
      top k n a b = omega arith

  pub born_keeps : IsConsistent st → IsBorn → IsConsistent born
  born_keeps ok b =
      let tables = changed_tables is_given_up wanted st.tables in
      let old : (p : Place) → set.contains st.tables p ≡ true → set.contains tables p ≡ true = λ p h. stays is_given_up wanted st.tables p h (b.none p) in
      copied_keeps st (fin.insert st.spaces new cells) tables source_of ok (record {
        cells = each_cell st new cells tables (λ s p c. cell_at st (source_of s) p ≡ Some c)
            (λ p c e. ap (λ t. cell_at st (cond t source new) p) (nat_eq_equiv.refl new) ∙ b.came p c e)
            (λ s p c apart e. ap (λ t. cell_at st (cond t source s) p) apart ∙ e);
        known = each_present (λ s. s < 64) b.known ok.spaces;
        roots = each_present (λ s. set.contains tables (root (levels st) s) ≡ true) (comes is_given_up wanted st.tables (root (levels st) new) b.rooted) (λ s h. old (root (levels st) s) (ok.roots s h));
        unlike = λ p low high h. unlike_born ok b p low high (sym (ap (λ m. is_unlike m p) (spaces_changed st new cells tables p.space)) ∙ h);
        parents = λ p h below. elim (whence is_given_up wanted st.tables p h) [
          | inl was ↦ old (parent p) (ok.parents p was.0 below)
          | inr is ↦ comes is_given_up wanted st.tables (parent p) (parent_wanted b p is below)
        ];
        absent = λ p h. elim (whence is_given_up wanted st.tables p h) [
          | inl was ↦ old_present p.space (ok.absent p was.0)
          | inr is ↦ ap (is_present born) (b.want.spaces p is) ∙ new_present
        ];
        places = λ p h. elim (whence is_given_up wanted st.tables p h) [ inl was ↦ ok.places p was.0 | inr is ↦ b.want.places p is ];
        few = omega (arith, grown_len is_given_up b.none wanted st.tables, b.room);
      })

-- the tables of one space, as tables of another
module _ (new : ℕ) where
  abbrev pub copied_to : Place → Place
  copied_to p = record { space = new; level = p.level; prefix = p.prefix }

  pub copy_from : (ps : List Place) (p : Place) → is_wanted (map copied_to ps) p ≡ true → (q : Place) × (is_wanted ps q ≡ true) × (p ≡ copied_to q)
  copy_from [] p h = absurd (true≢false (sym h))
  copy_from (k ∷ ps) p h = elim (or_cases (eq_by_cmp place_cmp p (copied_to k)) (is_wanted (map copied_to ps) p) h) [
    | inl here ↦ (k, or_left _ (is_wanted ps k) (ap is_eq (tied_itself place_total k)), place_exact p (copied_to k) ((Equal-is (place_cmp p (copied_to k))).0 here))
    | inr later ↦ (let at = copy_from ps p later in (at.0, or_right (eq_by_cmp place_cmp at.0 k) _ at.1, at.2))
  ]

  pub copy_to : (ps : List Place) (q : Place) → is_wanted ps q ≡ true → is_wanted (map copied_to ps) (copied_to q) ≡ true
  copy_to [] q h = h
  copy_to (k ∷ ps) q h = elim (or_cases (eq_by_cmp place_cmp q k) (is_wanted ps q) h) [
    | inl here ↦ or_left _ (is_wanted (map copied_to ps) (copied_to q))
        (ap (λ x. eq_by_cmp place_cmp (copied_to x) (copied_to k)) (place_exact q k ((Equal-is (place_cmp q k)).0 here)) ∙ ap is_eq (tied_itself place_total (copied_to k)))
    | inr later ↦ or_right (eq_by_cmp place_cmp (copied_to q) (copied_to k)) _ (copy_to ps q later)
  ]

-- the used tables of a space
module _ (st : State) (space : ℕ) where
  abbrev pub used : List Place
  used = used_tables st space

  abbrev pub has_key : Place → Bool
  has_key q = list_any (λ page. is_above (levels st) space page 1 q) (fin.keys (space_at st space))

  pub used_is : (q : Place) → is_wanted used q ≡ true → (set.contains st.tables q ≡ true) × (has_key q ≡ true)
  used_is q h =
      let all = flat_map (λ page. above (levels st) space page 1) (fin.keys (space_at st space)) in
      let both = and_parts (is_wanted all q) (set.contains st.tables q) (sym (wanted_filter (set.contains st.tables) all q) ∙ h) in
      (both.1, sym (above_any (levels st) space (fin.keys (space_at st space)) q) ∙ both.0)

  pub is_used_one : (q : Place) → set.contains st.tables q ≡ true → has_key q ≡ true → is_wanted used q ≡ true
  is_used_one q here h =
      let all = flat_map (λ page. above (levels st) space page 1) (fin.keys (space_at st space)) in
      wanted_filter (set.contains st.tables) all q ∙ and_from _ _ (above_any (levels st) space (fin.keys (space_at st space)) q ∙ h) here

  -- a table above a used one has a key too
  parent_key : (q : Place) → q.level < levels st → has_key q ≡ true → has_key (parent q) ≡ true
  parent_key q low h = some_passes (λ page. is_above (levels st) space page 1 q) (λ page. is_above (levels st) space page 1 (parent q)) (λ page. above_parent (levels st) space page 1 q (omega arith) low) (fin.keys (space_at st space)) h

  -- and so has one whose span is not alike
  unlike_key : (q : Place) → levels st ≤ 5 → q.space ≡ space → 1 ≤ q.level → q.level < levels st → is_unlike (space_at st space) q ≡ true → has_key q ≡ true
  unlike_key q few e low high h =
      some_passes (λ page. is_above (levels st - 1) space page 1 q) (λ page. is_above (levels st) space page 1 q) (λ page. lower_above (levels st) space page 1 q (omega arith)) (fin.keys (space_at st space))
      (keyed (levels st) space (space_at st space) q few e low high h)

  module _ (new : ℕ) (ok : IsConsistent st) where
    copies_wanted : new < 64 → AreWanted (levels st) new (map (copied_to new) used)
    copies_wanted known = record {
      spaces = λ p h. ap (λ (q : Place). q.space) (copy_from new used p h).2;
      places = λ p h. (let at = copy_from new used p h in subst (λ (q : Place). is_place (levels st) q ≡ true) (sym at.2) (moved_place at.0 (ok.places at.0 (used_is at.0 at.1).0)));
      parents = λ p h below.
          let at = copy_from new used p h in
          let was = used_is at.0 at.1 in
          let low = lower p at.0 at.2 below in
          subst (λ (q : Place). is_wanted (map (copied_to new) used) (parent q) ≡ true) (sym at.2)
          (copy_to new used (parent at.0) (is_used_one (parent at.0) (ok.parents at.0 was.0 (omega (arith, low))) (parent_key at.0 (omega (arith, low)) was.1)));
    }
      where
        moved_place : (q : Place) → is_place (levels st) q ≡ true → is_place (levels st) (copied_to new q) ≡ true
        moved_place q h = and_from _ _ (lt-ltb new 64 known) (and_parts (nat_lt q.space 64) (within 1 (levels st) q.level && nat_lt q.prefix (512 ^ (levels st - q.level))) h).1

        lower : (p q : Place) → p ≡ copied_to new q → p.level + 1 < levels st → q.level + 1 < levels st
        lower p q e h = omega (arith, ap (λ (x : Place). x.level) e, h)

    copy_own : (p : Place) → p.space ≡ new → 1 ≤ p.level → p.level < levels st → is_unlike (space_at st space) p ≡ true → is_wanted (map (copied_to new) used) p ≡ true
    copy_own p e low high h =
        let q : Place = record { space = space; level = p.level; prefix = p.prefix } in
        subst (λ (x : Place). is_wanted (map (copied_to new) used) x ≡ true) (ap (λ s. record { space = s; level = p.level; prefix = p.prefix }) (sym e))
        (copy_to new used q (is_used_one q (ok.unlike q low high h) (unlike_key q ok.few_levels refl low high h)))

-- ---- the calls

module _ (st : State) (thread limbo : ℕ) where
  -- the least absent space is below 64
  absent_known : (n : ℕ) → least_absent st ≡ Some n → n < 64
  absent_known n e = let at = least_passes 0 64 (λ s. not (is_present st s)) n e in omega (arith, at.1)

  root_first : (L n : ℕ) (rest : List Place) → is_wanted (root L n ∷ rest) (root L n) ≡ true
  root_first L n rest = or_left _ (is_wanted rest (root L n)) (ap is_eq (tied_itself place_total (root L n)))

  pub spawn_keeps : IsConsistent st → Passed st thread call.Spawn limbo → IsConsistent (state_after st thread call.Spawn)
  unfolding state_after
  spawn_keeps ok passed = go (least_absent st) refl (held_of _ _ passed.spaces) (room st thread call.Spawn limbo passed)
    where
      go : (o : Option ℕ) → least_absent st ≡ o → is_some o ≡ true → linked st + need (option_map_or (λ new. root (levels st) new ∷ []) o []) st.tables ≤ st.limits.tables →
          IsConsistent (changed st (unwrap_or o 0) fin.empty (changed_tables (is_given_up st call.Spawn) (option_map_or (λ new. root (levels st) new ∷ []) o []) st.tables))
      go None e h fits = absurd (true≢false (sym h))
      go (Some n) e h fits = born_keeps st n 0 fin.empty (is_given_up st call.Spawn) (root (levels st) n ∷ []) ok (record {
        known = absent_known n e;
        none = λ p. refl;
        want = root_wanted (levels st) n (absent_known n e) (omega (arith, ok.some_levels));
        rooted = root_first (levels st) n [];
        came = λ p c f. absurd (not_none (sym f ∙ get-empty nat_cmp p));
        own = λ p _ _ _ h. absurd (true≢false (sym (none_alike fin.empty (span_first p) (span_count p) (λ q _ _. get-empty nat_cmp q)) ∙ not-true _ h));
        room = fits;
      })

  pub fork_keeps : (space : ℕ) → IsConsistent st → Passed st thread (call.Fork space) limbo → IsConsistent (state_after st thread (call.Fork space))
  unfolding state_after copied_tables
  fork_keeps space ok passed = go (least_absent st) refl (held_of _ _ passed.spaces) (room st thread (call.Fork space) limbo passed)
    where
      go : (o : Option ℕ) → least_absent st ≡ o → is_some o ≡ true → linked st + need (option_map_or (copied_tables st space) o []) st.tables ≤ st.limits.tables →
          IsConsistent (changed st (unwrap_or o 0) (space_at st space) (changed_tables (is_given_up st (call.Fork space)) (option_map_or (copied_tables st space) o []) st.tables))
      go None e h fits = absurd (true≢false (sym h))
      go (Some n) e h fits =
          let known = absent_known n e in
          born_keeps st n space (space_at st space) (is_given_up st (call.Fork space)) (root (levels st) n ∷ map (copied_to n) (used st space)) ok (record {
            known = known;
            none = λ p. refl;
            want = both_wanted (levels st) n (root (levels st) n ∷ []) (map (copied_to n) (used st space)) (root_wanted (levels st) n known (omega (arith, ok.some_levels))) (copies_wanted st space n ok known);
            rooted = root_first (levels st) n (map (copied_to n) (used st space));
            came = λ p c f. f;
            own = λ p at low high u. or_right (eq_by_cmp place_cmp p (root (levels st) n)) _ (copy_own st space n ok p at low high u);
            room = fits;
          })

module _ (st : State) (space : ℕ) where
  abbrev removed : fin.FinMap nat_cmp AddressSpace
  removed = fin.remove st.spaces space

  abbrev of_space : Place → Bool
  of_space p = nat_eq p.space space

  abbrev tables_left : Tables
  tables_left = changed_tables of_space [] st.tables

  abbrev after_exit : State
  after_exit = record st { spaces = removed; tables = tables_left }

  still : (s : ℕ) → fin.get removed s ≡ cond (nat_eq s space) None (fin.get st.spaces s)
  still s = get-remove nat_cmp_total st.spaces space s ∙ ap (λ b. cond b None (fin.get st.spaces s)) (unsigned_tied s space)

  other_present : (s : ℕ) → is_present after_exit s ≡ true → (nat_eq s space ≡ false) × (is_present st s ≡ true)
  other_present s h = go (nat_eq s space) refl (sym (ap is_some (still s)) ∙ h)
    where
      go : (b : Bool) → nat_eq s space ≡ b → is_some (cond b None (fin.get st.spaces s)) ≡ true → (nat_eq s space ≡ false) × (is_present st s ≡ true)
      go false e h = (e, h)
      go true e h = absurd (true≢false (sym h))

  others_present : (s : ℕ) → nat_eq s space ≡ false → is_present st s ≡ true → is_present after_exit s ≡ true
  others_present s e h = ap is_some (still s) ∙ ap (λ b. is_some (cond b None (fin.get st.spaces s))) e ∙ h

  other_cell : (s p : ℕ) (c : Cell) → cell_at after_exit s p ≡ Some c → (nat_eq s space ≡ false) × (cell_at st s p ≡ Some c)
  other_cell s p c h = go (nat_eq s space) refl (sym (ap (λ (o : Option AddressSpace). fin.get (unwrap_or o fin.empty) p) (still s)) ∙ h)
    where
      go : (b : Bool) → nat_eq s space ≡ b → fin.get (unwrap_or (cond b None (fin.get st.spaces s)) fin.empty) p ≡ Some c → (nat_eq s space ≡ false) × (cell_at st s p ≡ Some c)
      go false e h = (e, h)
      go true e h = absurd (not_none (sym h ∙ get-empty nat_cmp p))

  left : (p : Place) → set.contains tables_left p ≡ true → (set.contains st.tables p ≡ true) × (of_space p ≡ false)
  left p h = elim (whence of_space [] st.tables p h) [ inl old ↦ old | inr new ↦ absurd (true≢false (sym new)) ]

  unlike_left : IsConsistent st → (p : Place) → 1 ≤ p.level → p.level < levels st → is_unlike (unwrap_or (cond (nat_eq p.space space) None (fin.get st.spaces p.space)) fin.empty) p ≡ true → set.contains tables_left p ≡ true
  unlike_left ok p low high = go (nat_eq p.space space) refl
    where
      go : (b : Bool) → nat_eq p.space space ≡ b → is_unlike (unwrap_or (cond b None (fin.get st.spaces p.space)) fin.empty) p ≡ true → set.contains tables_left p ≡ true
      go true e h = absurd (true≢false (sym (none_alike fin.empty (span_first p) (span_count p) (λ q _ _. get-empty nat_cmp q)) ∙ not-true _ h))
      go false e h = stays of_space [] st.tables p (ok.unlike p low high h) e

  pub exit_keeps : (thread : ℕ) → IsConsistent st → IsConsistent (state_after st thread (call.Exit space))
  unfolding state_after
  exit_keeps thread ok = copied_keeps st removed tables_left (λ s. s) ok (record {
    cells = λ s p c e. (other_cell s p c e).1;
    known = λ s h. ok.spaces s (other_present s h).1;
    roots = λ s h. stays of_space [] st.tables (root (levels st) s) (ok.roots s (other_present s h).1) (other_present s h).0;
    unlike = λ p low high h. unlike_left ok p low high (sym (ap (λ (o : Option AddressSpace). is_unlike (unwrap_or o fin.empty) p) (still p.space)) ∙ h);
    parents = λ p h below. stays of_space [] st.tables (parent p) (ok.parents p (left p h).0 below) (left p h).1;
    absent = λ p h. others_present p.space (left p h).1 (ok.absent p (left p h).0);
    places = λ p h. ok.places p (left p h).0;
    few = omega (arith, fewer_left of_space st.tables, ok.tables);
  })
