-- How many tables there are after a call that gives up some and wants others: none that it gives up is wanted.
use Rattle.std.proofs.Common.{◌≡◌, ℕ, ◌+◌, ◌-◌, ◌/◌, Bool, true, false, cond, not, ◌&&◌, List, [], ◌∷◌, length, refl, sym, ap, ◌∙◌, arith}
use mathlib.Core.Bool.{true≢false}
use Rattle.std.specs.Prelude.{Option, Some, None, is_none}
use Rattle.std.specs.Option.{unwrap_or}
use Rattle.std.specs.List.{list_any}
use Rattle.std.specs.Ordering.{nat_cmp, eq_by_cmp}
use Rattle.std.specs.FinMap as fin
use Rattle.std.specs.FinSet as set
use Rattle.std.specs.FinSet.{same_set, contains-difference, contains-retain, contains-from_list}
use Rattle.std.proofs.lemmas.Bool.{eqb-true, not-true, false_from_ne_true}
use Rattle.corten_base.specs.declared.calls.Call.{Call}
use Rattle.corten_base.specs.declared.calls.Call.TheVariants as call
use Rattle.corten_base.specs.declared.calls.Reply.{Reply}
use Rattle.corten_base.specs.declared.calls.TxnOp.TheVariants as op
use Rattle.table_place.specs.declared.Place.{Place}
use Rattle.table_place.specs.Range.{within}
use Rattle.table_place.specs.Place.{place_cmp, is_inside, pages_of}
use Rattle.table_place.proofs.Tables.{in_range, to_range, inside_parts}
use Rattle.page_map.specs.declared.cell.Cell.{Cell}
use Rattle.page_map.specs.Cell.{AddressSpace}
use Rattle.page_map.specs.Change.{keys_in}
use Rattle.page_map.specs.Alike.{unlike_tables}
use Rattle.page_map.specs.Mapping.{is_free, after_op, gap, hole}
use Rattle.page_map.specs.Remap.{Resize, resize_of, moves, left_first, left_count, cell_for, remapped}
use Rattle.page_map.specs.Tables.{Tables, changed_tables, missing, need}
use Rattle.page_map.specs.State.{State, levels, linked, space_at}
use Rattle.page_map.specs.Effect.{state_after, wanted_tables, is_given_up}
use Rattle.page_map.specs.Step.{step, refusal, hole_reply}
use Rattle.page_map.proofs.Range.{get-change}
use Rattle.page_map.proofs.Places.{place_total, place_exact}
use Rattle.page_map.proofs.Evaluate.{alike, added}
use Rattle.page_map.proofs.Need.{shared, contains_shared, parts}
use Rattle.page_map.proofs.Wanted.{is_wanted}
use Rattle.page_map.proofs.Growth.{listed}
use Rattle.page_map.proofs.Steps.{Passed, accepted, passed, not_none}
use Rattle.page_map.proofs.Grants.{key_chosen}
use Rattle.page_map.proofs.Least.{unanswered}
use Rattle.page_map.proofs.Gaps.{gap_free}
use Rattle.page_map.proofs.Alike.{none_alike}
use Rattle.page_map.proofs.Unlike.{wanted_is_unlike}
use Rattle.page_map.proofs.Remapped.{roomy, remapped_at}

module _ (is_given_up : Place → Bool) (tables : Tables) where
  abbrev stay : Tables
  stay = set.retain tables (λ p. not (is_given_up p))

  abbrev go : Tables
  go = set.retain tables is_given_up

  in_go : (q : Place) → set.contains go q ≡ (set.contains tables q && is_given_up q)
  in_go q = contains-retain tables is_given_up q (alike place_total place_exact is_given_up q)

  in_stay : (q : Place) → set.contains stay q ≡ (set.contains tables q && not (is_given_up q))
  in_stay q = contains-retain tables (λ p. not (is_given_up p)) q (alike place_total place_exact (λ p. not (is_given_up p)) q)

  others_stay : set.difference tables go ≡ stay
  others_stay = same_set place_total place_exact _ _ (λ q.
      contains-difference place_total tables go q ∙ ap (λ b. set.contains tables q && not b) (in_go q) ∙ same (set.contains tables q) (is_given_up q) ∙ sym (in_stay q))
    where
      same : (t g : Bool) → (t && not (t && g)) ≡ (t && not g)
      same true g = refl
      same false g = refl

  all_there : shared place_total place_exact go tables ≡ go
  all_there = same_set place_total place_exact _ _ (λ q.
      contains_shared place_total place_exact go tables q ∙ ap (λ b. b && set.contains tables q) (in_go q) ∙ same (set.contains tables q) (is_given_up q) ∙ sym (in_go q))
    where
      same : (t g : Bool) → ((t && g) && t) ≡ (t && g)
      same true true = refl
      same true false = refl
      same false g = refl

  -- the tables that stay and those that are given up are all
  halves : set.len stay + set.len go ≡ set.len tables
  halves =
      sym (λ i. set.len (others_stay i) + set.len (all_there i))
      ∙ ap (λ (s : Tables). set.len (set.difference s go) + set.len (shared place_total place_exact go s)) (sym (listed tables))
      ∙ parts place_total place_exact go (set.items tables)
      ∙ ap set.len (listed tables)

  module _ (wanted : List Place) (apart : (p : Place) → is_given_up p ≡ true → is_wanted wanted p ≡ false) where
    as_missing : set.difference (set.from_list wanted) stay ≡ missing wanted tables
    as_missing = same_set place_total place_exact _ _ (λ q.
        contains-difference place_total (set.from_list wanted) stay q
        ∙ (λ i. contains-from_list place_total wanted q i && not (in_stay q i))
        ∙ same (is_wanted wanted q) (set.contains tables q) (is_given_up q) (apart q)
        ∙ sym (contains-difference place_total (set.from_list wanted) tables q ∙ ap (λ b. b && not (set.contains tables q)) (contains-from_list place_total wanted q)))
      where
        same : (w t g : Bool) → (g ≡ true → w ≡ false) → (w && not (t && not g)) ≡ (w && not t)
        same true t true h = absurd (true≢false (h refl))
        same true true false h = refl
        same true false false h = refl
        same false t g h = refl

    pub left_len : set.len (changed_tables is_given_up wanted tables) + set.len go ≡ set.len tables + need wanted tables
    left_len = omega (arith, added place_total place_exact stay wanted, ap set.len as_missing, halves)

-- ---- what is given up is not wanted

-- a table whose span has no cell is not wanted
inside_none : (levels space first count : ℕ) (cells : AddressSpace) (p : Place) → ((q : ℕ) → within first count q ≡ true → fin.get cells q ≡ None) →
    is_inside levels space first count p ≡ true → is_wanted (unlike_tables levels space cells) p ≡ false
inside_none levels space first count cells p none h =
    let at = inside_parts levels space first count p h in
    false_from_ne_true _ (λ wanted.
    true≢false (sym (none_alike cells _ _ (λ q a b. none q (to_range first count q (omega (arith, at.from, a)) (omega (arith, at.to, b))))) ∙ not-true _ (wanted_is_unlike levels space cells p wanted).1))

unmapped_none : (cells : AddressSpace) (at len q : ℕ) → within (at / 4096) (pages_of len) q ≡ true → fin.get (after_op (op.Unmap at len) cells) q ≡ None
unfolding after_op
unmapped_none cells at len q w = get-change cells (at / 4096) (pages_of len) (λ _ _. None) q ∙ ap (λ b. cond b None (fin.get cells q)) w

-- a free range has no cell
pub free_none : (cells : AddressSpace) (first count q : ℕ) → is_free cells first count ≡ true → within first count q ≡ true → fin.get cells q ≡ None
free_none cells first count q free w = go (fin.get cells q) refl
  where
    empty : (ks : List ℕ) → length ks ≡ 0 → list_any (eq_by_cmp nat_cmp q) ks ≡ true → ⊥
    empty [] none h = true≢false (sym h)
    empty (k ∷ ks) none h = absurd (omega (arith, none))

    go : (o : Option Cell) → fin.get cells q ≡ o → fin.get cells q ≡ None
    go None e = e
    go (Some c) e = absurd (empty (keys_in cells first count (λ _. true)) (eqb-true (length (keys_in cells first count (λ _. true))) 0 free) (key_chosen first count (λ _. true) cells q c e w refl))

module _ (st : State) (thread limbo space at old_len new_len : ℕ) (passed : Passed st thread (call.Remap space at old_len new_len) limbo) where
  abbrev cells : AddressSpace
  cells = space_at st space

  abbrev r : Resize
  r = resize_of at old_len new_len

  -- each page of the range has a cell
  old_there : (q : ℕ) → within r.first r.old q ≡ true → fin.get cells q ≡ None → ⊥
  old_there q w none =
      let ends = in_range r.first r.old q w in
      not_none (ap (λ o. cond (is_none o) (Some q) None) (sym none) ∙ unanswered (λ n. cond (is_none (fin.get cells n)) (Some n) None) r.first r.old (no_hole (hole cells at old_len) passed.pages) q ends.0 ends.1)
    where
      no_hole : (o : Option ℕ) → hole_reply o ≡ None → o ≡ None
      no_hole None e = refl
      no_hole (Some page) e = absurd (not_none e)

  -- and none of the gap to which it moves
  gap_apart : (q : ℕ) → within r.first r.old q ≡ true → (o : Option ℕ) → gap thread cells r.new ≡ o → is_none o ≡ false → within (unwrap_or o 0) r.new q ≡ false
  gap_apart q w None found h = absurd (true≢false h)
  gap_apart q w (Some first) found h = false_from_ne_true _ (λ new. old_there q w (free_none cells first r.new q (gap_free thread cells r.new first found) new))

  -- the pages that it gives up have no cell afterwards
  left_none : (q : ℕ) → within (left_first (levels st) cells r) (left_count (levels st) cells r) q ≡ true → fin.get (remapped (levels st) thread r cells) q ≡ None
  left_none q w = remapped_at (levels st) thread r cells q ∙ go (moves (levels st) cells r) refl w
    where
      found : moves (levels st) cells r ≡ true → is_none (gap thread cells r.new) ≡ false
      found m = ap (λ b. b && is_none (gap thread cells r.new)) (sym m) ∙ (roomy st thread limbo space at old_len new_len passed).0

      none : (put : ℕ) → within put r.new q ≡ false → within r.first r.old q ≡ true → cond (within put r.new q) (cell_for cells r (q - put)) (cond (within r.first r.old q) None (fin.get cells q)) ≡ None
      none put out old = (λ i. cond (out i) (cell_for cells r (q - put)) (cond (old i) None (fin.get cells q)))

      go : (b : Bool) → moves (levels st) cells r ≡ b → within (cond b r.first (r.first + r.new)) (cond b r.old (r.old - r.new)) q ≡ true →
          cond (within (cond b (unwrap_or (gap thread cells r.new) 0) r.first) r.new q) (cell_for cells r (q - cond b (unwrap_or (gap thread cells r.new) 0) r.first)) (cond (within r.first r.old q) None (fin.get cells q)) ≡ None
      go true m w = none (unwrap_or (gap thread cells r.new) 0) (gap_apart q w (gap thread cells r.new) refl (found m)) w
      go false m w =
          let ends = in_range (r.first + r.new) (r.old - r.new) q w in
          none r.first (false_from_ne_true _ (λ new. omega (arith, ends.0, (in_range r.first r.new q new).1))) (to_range r.first r.old q (omega (arith, ends.0)) (omega (arith, ends.0, ends.1)))

module _ (st : State) (thread limbo : ℕ) (c : Call) (none : refusal st thread c limbo ≡ None) where
  pub not_wanted : (p : Place) → is_given_up st c p ≡ true → is_wanted (wanted_tables st thread c) p ≡ false
  not_wanted = by_call c (passed st thread c limbo none)
    where
      by_call : (c : Call) → Passed st thread c limbo → (p : Place) → is_given_up st c p ≡ true → is_wanted (wanted_tables st thread c) p ≡ false
      by_call (call.Unmap space at len) passed p h = inside_none (levels st) space (at / 4096) (pages_of len) (after_op (op.Unmap at len) (space_at st space)) p (unmapped_none (space_at st space) at len) h
      by_call (call.Remap space at old_len new_len) passed p h =
          let r = resize_of at old_len new_len in
          inside_none (levels st) space (left_first (levels st) (space_at st space) r) (left_count (levels st) (space_at st space) r) (remapped (levels st) thread r (space_at st space)) p
          (left_none st thread limbo space at old_len new_len passed) h
      by_call (call.Exit space) passed p h = refl
      by_call (call.Map space where_to len perm what) passed p h = absurd (true≢false (sym h))
      by_call (call.Protect space at len perm) passed p h = absurd (true≢false (sym h))
      by_call (call.Load space at len) passed p h = absurd (true≢false (sym h))
      by_call (call.Store space at bytes) passed p h = absurd (true≢false (sym h))
      by_call (call.Fault space at write) passed p h = absurd (true≢false (sym h))
      by_call call.Spawn passed p h = absurd (true≢false (sym h))
      by_call (call.Fork space) passed p h = absurd (true≢false (sym h))
      by_call (call.SwapOut space at len) passed p h = absurd (true≢false (sym h))
      by_call (call.SwapIn space at len) passed p h = absurd (true≢false (sym h))
      by_call (call.Txn space at len ops) passed p h = absurd (true≢false (sym h))
      by_call (call.DontNeed space at len) passed p h = absurd (true≢false (sym h))

  pub given_apart : (p : Place) → is_given_up st c p ≡ true → set.contains (set.from_list {R = place_cmp} (wanted_tables st thread c)) p ≡ false
  given_apart p h = contains-from_list place_total (wanted_tables st thread c) p ∙ not_wanted p h

  pub after_len : linked (state_after st thread c) + set.len (set.retain st.tables (is_given_up st c)) ≡ linked st + need (wanted_tables st thread c) st.tables
  unfolding state_after
  after_len = left_len (is_given_up st c) st.tables (wanted_tables st thread c) not_wanted

  pub next_len : linked (step st thread c limbo).1 + set.len (set.retain st.tables (is_given_up st c)) ≡ linked st + need (wanted_tables st thread c) st.tables
  next_len = ap (λ (p : Reply × State). linked p.1 + set.len (set.retain st.tables (is_given_up st c))) (accepted st thread c limbo none) ∙ after_len
