-- The references of the pages that a call uses: none are left after a plain call, and who has none of a number does not use it.
use Rattle.std.proofs.Common.{◌≡◌, ℕ, ◌-◌, ◌/◌, ◌≤◌, Bool, true, false, cond, not, ◌&&◌, List, [], ◌∷◌, ◌++◌, refl, sym, ap, ◌∙◌, arith}
use mathlib.Core.Bool.{true≢false}
use Rattle.std.specs.Prelude.{Option, Some, None, is_some, nat_eq}
use Rattle.std.specs.List.{filter, sum_by, count_by, AllByRecursion}
use Rattle.std.specs.Option.{unwrap_or, option_map, option_map_or}
use Rattle.std.specs.Ordering.{nat_cmp}
use Rattle.std.specs.Cmp.{nat_cmp_total, unsigned_tied, nat_eq_equiv}
use Rattle.std.specs.FinMap as fin
use Rattle.std.specs.FinMap.{get-empty, get-remove}
use Rattle.std.proofs.lemmas.Bool.{eqb-true}
use Rattle.corten_base.specs.declared.permissions.Perm.{Perm}
use Rattle.corten_base.specs.declared.calls.Backing.{Backing}
use Rattle.corten_base.specs.declared.calls.Backing.TheVariants as backing
use Rattle.corten_base.specs.declared.calls.Call.{Call}
use Rattle.corten_base.specs.declared.calls.Call.TheVariants as call
use Rattle.corten_base.specs.declared.calls.MapPlace.{MapPlace}
use Rattle.corten_base.specs.declared.calls.TxnOp.TheVariants as op
use Rattle.table_place.specs.Range.{within}
use Rattle.table_place.specs.Place.{pages_of}
use Rattle.page_map.specs.declared.cell.Cell.{Cell}
use Rattle.page_map.specs.Cell.{frame_of, slot_of, backing_of, perm_of, goes_on}
use Rattle.page_map.specs.DontNeed.{given_back}
use Rattle.page_map.specs.Mapping.{backed, after_op}
use Rattle.page_map.specs.State.{State, AddressSpace, carries, owners, space_at, cell_at}
use Rattle.page_map.specs.Takes.{Grant}
use Rattle.page_map.specs.Effect.{space_of, state_after, placed_at, is_new}
use Rattle.page_map.proofs.Few.{each_entry}
use Rattle.page_map.proofs.Range.{get-change}
use Rattle.page_map.proofs.Owners.{one_weight}
use Rattle.page_map.proofs.Cells.{cell_changed}
use Rattle.machine_plan.specs.Uses.{uses_page, used_cells, refs_of}
use Rattle.machine_plan.specs.Kits.{IsUsed, kept_cells, new_cells, is_granted}
use Rattle.book.specs.Balance.{times}
use Rattle.book.specs.Plain.{is_plain}
use Rattle.book.proofs.Totals.{used_in, times_cons, used_most}

module _ (number_of : Cell → Option ℕ) where
  -- cells without numbers have no references
  no_refs : (es : List (ℕ × Cell)) → AllByRecursion (λ (e : ℕ × Cell). number_of e.1 ≡ None) es → refs_of number_of es ≡ []
  no_refs [] h = refl
  no_refs (e ∷ es) h = go (number_of e.1) h.0 (no_refs es h.1)
    where
      go : (o : Option ℕ) → o ≡ None → refs_of number_of es ≡ [] → option_map_or (λ n. (e.0, (n, Rattle.page_map.specs.Cell.contents [] e.1)) ∷ []) o [] ++ refs_of number_of es ≡ []
      go None h rest = rest
      go (Some n) h rest = absurd (true≢false (ap is_some h))

  filtered : (P : ℕ × Cell → Type 0) (p : ℕ × Cell → Bool) (es : List (ℕ × Cell)) → AllByRecursion (λ (e : ℕ × Cell). p e ≡ true → P e) es → AllByRecursion P (filter p es)
  filtered P p [] h = tt
  filtered P p (e ∷ es) h = go (p e) refl (filtered P p es h.1)
    where
      go : (b : Bool) → p e ≡ b → AllByRecursion P (filter p es) → AllByRecursion P (cond b (e ∷ filter p es) (filter p es))
      go true is rest = (h.0 is, rest)
      go false is rest = rest

  still : (P : ℕ × Cell → Type 0) (p : ℕ × Cell → Bool) (es : List (ℕ × Cell)) → AllByRecursion P es → AllByRecursion P (filter p es)
  still P p [] h = tt
  still P p (e ∷ es) h = go (p e) (still P p es h.1)
    where
      go : (b : Bool) → AllByRecursion P (filter p es) → AllByRecursion P (cond b (e ∷ filter p es) (filter p es))
      go true rest = (h.0, rest)
      go false rest = rest

  -- what is true of each used page's cell is true of the list of them
  each_used : (P : ℕ → Cell → Type 0) (uses : ℕ → Bool) (m : AddressSpace) → ((q : ℕ) (c : Cell) → uses q ≡ true → fin.get m q ≡ Some c → P q c) → AllByRecursion (λ (e : ℕ × Cell). P e.0 e.1) (filter (λ e. uses e.0) (fin.entries m))
  each_used P uses m each = filtered (λ (e : ℕ × Cell). P e.0 e.1) (λ e. uses e.0) (fin.entries m) (each_entry (λ q c. uses q ≡ true → P q c) m (λ q c found is. each q c is found))

  module _ (n : ℕ) where
    carries_so : (c : Cell) → carries number_of n c ≡ true → number_of c ≡ Some n
    carries_so c h = go (number_of c) h
      where
        go : (o : Option ℕ) → option_map_or (λ m. nat_eq m n) o false ≡ true → o ≡ Some n
        go None e = absurd (true≢false (sym e))
        go (Some m) e = ap Some (eqb-true m n e)

    no_times : (es : List (ℕ × Cell)) → AllByRecursion (λ (e : ℕ × Cell). number_of e.1 ≡ Some n → ⊥) es → times n (refs_of number_of es) ≡ 0
    no_times [] h = refl
    no_times (e ∷ es) h = go (carries number_of n e.1) refl (no_times es h.1)
      where
        go : (b : Bool) → carries number_of n e.1 ≡ b → times n (refs_of number_of es) ≡ 0 → times n (refs_of number_of (e ∷ es)) ≡ 0
        go true is rest = absurd (h.0 (carries_so e.1 is))
        go false is rest =
            let none : ◌≡◌ {A = ℕ} (cond (carries number_of n e.1) 1 0) 0 = ap (λ b. cond b 1 0) is in
            omega (arith, times_cons number_of n e es, rest, none)

    -- a number that no used page carries has no reference in the list
    pub unused_times : (st : State) (thread : ℕ) (c : Call) → (IsUsed st thread c number_of n → ⊥) → times n (refs_of number_of (used_cells st st thread c)) ≡ 0
    unused_times st thread c none = go (space_of c)
      where
        go : (o : Option ℕ) → times n (refs_of number_of (option_map_or (λ s. filter (λ e. uses_page st thread c s e.0) (fin.entries (space_at st s))) o [])) ≡ 0
        go None = refl
        go (Some s) = no_times _ (each_used (λ q x. number_of x ≡ Some n → ⊥) (uses_page st thread c s) (space_at st s) (λ q x is found carries. none (record { space = s; page = q; cell = x; uses = is; there = found; carries = carries })))

    -- the references of the used pages are among the owners
    pub held_times : (st : State) (thread : ℕ) (c : Call) → times n (refs_of number_of (used_cells st st thread c)) ≤ owners number_of st n
    unfolding owners
    held_times st thread c = go (space_of c)
      where
        all : AddressSpace → ℕ
        all cells = count_by (carries number_of n) (fin.values cells)

        there : (s : ℕ) (o : Option AddressSpace) → fin.get st.spaces s ≡ o → times n (refs_of number_of (used_in number_of n (uses_page st thread c s) (unwrap_or o fin.empty))) ≤ sum_by (λ cells. count_by (carries number_of n) (fin.values cells)) (fin.values st.spaces)
        there s (Some cells) is = omega (arith, used_most number_of n (uses_page st thread c s) cells, one_weight (λ cells. count_by (carries number_of n) (fin.values cells)) st.spaces s cells is)
        there s None is = omega (arith, no_times (used_in number_of n (uses_page st thread c s) fin.empty) (each_used (λ q x. number_of x ≡ Some n → ⊥) (uses_page st thread c s) fin.empty (λ q x is found. absurd (true≢false (ap is_some (sym found ∙ get-empty nat_cmp q))))))

        go : (o : Option ℕ) → times n (refs_of number_of (option_map_or (λ s. filter (λ e. uses_page st thread c s e.0) (fin.entries (space_at st s))) o [])) ≤ sum_by (λ cells. count_by (carries number_of n) (fin.values cells)) (fin.values st.spaces)
        go None = omega arith
        go (Some s) = there s (fin.get st.spaces s) refl

  -- After a plain call

  abbrev Bare : State → ℕ → Call → Type 0
  Bare st thread c = AllByRecursion (λ (e : ℕ × Cell). number_of e.1 ≡ None) (used_cells st (state_after st thread c) thread c)

  module _ (no_number : (what : Backing) (perm : Perm) (i : ℕ) → number_of (backed what perm i) ≡ None) (st : State) (thread : ℕ) where
    same_cell : {x y : Cell} → Some x ≡ Some y → number_of x ≡ None → number_of y ≡ None
    same_cell {x} {y} e h = ap (λ o. option_map_or number_of o None) (sym e) ∙ h

    in_range : (a b : Bool) → (a && b) ≡ true → b ≡ true
    in_range true b h = h
    in_range false b h = absurd (true≢false (sym h))

    mapped : (space : ℕ) (where_to : MapPlace) (len : ℕ) (perm : Perm) (what : Backing) (q : ℕ) (x : Cell) → uses_page st thread (call.Map space where_to len perm what) space q ≡ true →
        cell_at (state_after st thread (call.Map space where_to len perm what)) space q ≡ Some x → number_of x ≡ None
    unfolding state_after after_op
    mapped space where_to len perm what q x is found =
        let first : ℕ = placed_at st thread space where_to len / 4096 in
        let o = op.Map (placed_at st thread space where_to len) (is_new where_to) len perm what in
        let here = cell_changed st space (after_op o (space_at st space)) (state_after st thread (call.Map space where_to len perm what)).tables space q ∙ ap (λ b. cond b (fin.get (after_op o (space_at st space)) q) (cell_at st space q)) (nat_eq_equiv.refl space)
        ∙ get-change (space_at st space) first (pages_of len) (λ page _. Some (backed what perm (page - first))) q
        ∙ ap (λ b. cond b (Some (backed what perm (q - first))) (fin.get (space_at st space) q)) (in_range (nat_eq space space) (within first (pages_of len) q) is) in
        same_cell (sym here ∙ found) (no_number what perm (q - first))

    unmapped : (space at len q : ℕ) (x : Cell) → uses_page st thread (call.Unmap space at len) space q ≡ true → cell_at (state_after st thread (call.Unmap space at len)) space q ≡ Some x → number_of x ≡ None
    unfolding state_after after_op
    unmapped space at len q x is found =
        let here = cell_changed st space (after_op (op.Unmap at len) (space_at st space)) (state_after st thread (call.Unmap space at len)).tables space q ∙ ap (λ b. cond b (fin.get (after_op (op.Unmap at len) (space_at st space)) q) (cell_at st space q)) (nat_eq_equiv.refl space)
        ∙ get-change (space_at st space) (at / 4096) (pages_of len) (λ page _. None) q
        ∙ ap (λ b. cond b None (fin.get (space_at st space) q)) (in_range (nat_eq space space) (within (at / 4096) (pages_of len) q) is) in
        absurd (true≢false (ap is_some (sym found ∙ here)))

    -- a page that was given back is what it came from
    returned : (space at len q : ℕ) (x : Cell) → uses_page st thread (call.DontNeed space at len) space q ≡ true → cell_at (state_after st thread (call.DontNeed space at len)) space q ≡ Some x → number_of x ≡ None
    unfolding state_after given_back
    returned space at len q x is found =
        let here = cell_changed st space (given_back (at / 4096) (pages_of len) (space_at st space)) (state_after st thread (call.DontNeed space at len)).tables space q
        ∙ ap (λ b. cond b (fin.get (given_back (at / 4096) (pages_of len) (space_at st space)) q) (cell_at st space q)) (nat_eq_equiv.refl space)
        ∙ get-change (space_at st space) (at / 4096) (pages_of len) (λ page. option_map (λ cell. goes_on cell 0)) q
        ∙ ap (λ b. cond b (option_map (λ cell. goes_on cell 0) (cell_at st space q)) (cell_at st space q)) (in_range (nat_eq space space) (within (at / 4096) (pages_of len) q) is) in
        go (cell_at st space q) (sym here ∙ found)
      where
        go : (o : Option Cell) → option_map (λ cell. goes_on cell 0) o ≡ Some x → number_of x ≡ None
        go None e = absurd (true≢false (sym (ap is_some e)))
        go (Some y) e = same_cell e (no_number (backing_of y) (perm_of y) 0)

    exited : (space q : ℕ) (x : Cell) → cell_at (state_after st thread (call.Exit space)) space q ≡ Some x → number_of x ≡ None
    unfolding state_after
    exited space q x found =
        let here = ap (λ (o : Option AddressSpace). fin.get (unwrap_or o fin.empty) q) (get-remove nat_cmp_total st.spaces space space ∙ ap (λ b. cond b None (fin.get st.spaces space)) (unsigned_tied space space ∙ nat_eq_equiv.refl space)) ∙ get-empty nat_cmp q in
        absurd (true≢false (ap is_some (sym found ∙ here)))

    bare : (c : Call) → is_plain c ≡ true → Bare st thread c
    bare (call.Map space where_to len perm what) h = each_used (λ q x. number_of x ≡ None) (uses_page st thread (call.Map space where_to len perm what) space) (space_at (state_after st thread (call.Map space where_to len perm what)) space) (mapped space where_to len perm what)
    bare (call.Unmap space at len) h = each_used (λ q x. number_of x ≡ None) (uses_page st thread (call.Unmap space at len) space) (space_at (state_after st thread (call.Unmap space at len)) space) (unmapped space at len)
    bare (call.Protect space at len perm) h = each_used (λ q x. number_of x ≡ None) (uses_page st thread (call.Protect space at len perm) space) (space_at (state_after st thread (call.Protect space at len perm)) space) (λ q x is. absurd (true≢false (sym is)))
    bare call.Spawn h = tt
    bare (call.Exit space) h = each_used (λ q x. number_of x ≡ None) (uses_page st thread (call.Exit space) space) (space_at (state_after st thread (call.Exit space)) space) (λ q x is. exited space q x)
    bare (call.Load space at len) h = absurd (true≢false (sym h))
    bare (call.Store space at bytes) h = absurd (true≢false (sym h))
    bare (call.Fault space at write) h = absurd (true≢false (sym h))
    bare (call.Fork space) h = absurd (true≢false (sym h))
    bare (call.SwapOut space at len) h = absurd (true≢false (sym h))
    bare (call.SwapIn space at len) h = absurd (true≢false (sym h))
    bare (call.Txn space at len ops) h = absurd (true≢false (sym h))
    bare (call.DontNeed space at len) h = each_used (λ q x. number_of x ≡ None) (uses_page st thread (call.DontNeed space at len) space) (space_at (state_after st thread (call.DontNeed space at len)) space) (returned space at len)
    bare (call.Remap space at old_len new_len) h = absurd (true≢false (sym h))

    pub none_left : (c : Call) (grants : Grant) → is_plain c ≡ true → refs_of number_of (kept_cells st (state_after st thread c) thread c grants) ≡ []
    none_left c grants h = no_refs _ (still (λ (e : ℕ × Cell). number_of e.1 ≡ None) (λ e. not (is_granted grants e)) _ (bare c h))

    pub none_came : (c : Call) (grants : Grant) → is_plain c ≡ true → refs_of number_of (new_cells st (state_after st thread c) thread c grants) ≡ []
    none_came (call.Map space where_to len perm what) grants h = no_refs _ (still (λ (e : ℕ × Cell). number_of e.1 ≡ None) (is_granted grants) _ (bare (call.Map space where_to len perm what) h))
    none_came (call.Unmap space at len) grants h = no_refs _ (still (λ (e : ℕ × Cell). number_of e.1 ≡ None) (is_granted grants) _ (bare (call.Unmap space at len) h))
    none_came (call.Protect space at len perm) grants h = no_refs _ (still (λ (e : ℕ × Cell). number_of e.1 ≡ None) (is_granted grants) _ (bare (call.Protect space at len perm) h))
    none_came call.Spawn grants h = refl
    none_came (call.Exit space) grants h = no_refs _ (still (λ (e : ℕ × Cell). number_of e.1 ≡ None) (is_granted grants) _ (bare (call.Exit space) h))
    none_came (call.Load space at len) grants h = absurd (true≢false (sym h))
    none_came (call.Store space at bytes) grants h = absurd (true≢false (sym h))
    none_came (call.Fault space at write) grants h = absurd (true≢false (sym h))
    none_came (call.Fork space) grants h = absurd (true≢false (sym h))
    none_came (call.SwapOut space at len) grants h = absurd (true≢false (sym h))
    none_came (call.SwapIn space at len) grants h = absurd (true≢false (sym h))
    none_came (call.Txn space at len ops) grants h = absurd (true≢false (sym h))
    none_came (call.DontNeed space at len) grants h = no_refs _ (still (λ (e : ℕ × Cell). number_of e.1 ≡ None) (is_granted grants) _ (bare (call.DontNeed space at len) h))
    none_came (call.Remap space at old_len new_len) grants h = absurd (true≢false (sym h))

pub no_frame : (what : Backing) (perm : Perm) (i : ℕ) → frame_of (backed what perm i) ≡ None
no_frame backing.Zero perm i = refl
no_frame (backing.File file index) perm i = refl

pub no_slot : (what : Backing) (perm : Perm) (i : ℕ) → slot_of (backed what perm i) ≡ None
no_slot backing.Zero perm i = refl
no_slot (backing.File file index) perm i = refl
