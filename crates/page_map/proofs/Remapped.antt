-- What a range of another length has at each page, and that `remap` keeps the facts of a state.
use Rattle.std.proofs.Common.{◌≡◌, ℕ, ◌+◌, ◌-◌, ◌^◌, ◌<◌, ◌≤◌, Bool, true, false, cond, not, ◌&&◌, ◌||◌, ◌⊎◌, inl, inr, length, refl, sym, ap, subst, ◌∙◌, arith}
use mathlib.Core.Bool.{true≢false}
use Rattle.std.specs.Prelude.{Option, Some, None, is_none, nat_eq, nat_lt}
use Rattle.std.specs.Option.{unwrap_or, option_map, option_map_or}
use Rattle.std.specs.FinMap as fin
use Rattle.std.proofs.lemmas.Bool.{and_parts, and_from, cases_lt, eq-eqb, ltb-true, ltb-false, lt-ltb, not-true, not_from_false, false_from_ne_true}
use Rattle.corten_base.specs.declared.calls.Backing.{Backing}
use Rattle.corten_base.specs.declared.calls.Backing.TheVariants as backing
use Rattle.corten_base.specs.declared.calls.Call.TheVariants as call
use Rattle.corten_base.specs.declared.permissions.Perm.{Perm}
use Rattle.table_place.specs.Range.{within}
use Rattle.table_place.specs.Place.{is_user_range, is_user_page}
use Rattle.table_place.proofs.Tables.{in_range, to_range, user_page}
use Rattle.page_map.specs.declared.cell.Cell.{Cell}
use Rattle.page_map.specs.Cell.{perm_of, frame_of, slot_of, contents, backed, backing_of, index_of, goes_on}
use Rattle.page_map.specs.Change.{change}
use Rattle.page_map.specs.Tables.{Tables, changed_tables}
use Rattle.page_map.specs.Alike.{unlike_tables}
use Rattle.page_map.specs.Mapping.{gap, is_free}
use Rattle.page_map.specs.Remap.{Resize, resize_of, grows, has_room, moves, put_at, left_first, left_count, filled_first, filled_count, last_cell, cell_for, is_too_far, remapped}
use Rattle.page_map.specs.State.{State, AddressSpace, IsConsistent, SharersAgree, levels, space_at, cell_at, is_present}
use Rattle.page_map.specs.Effect.{is_given_up, state_after}
use Rattle.page_map.proofs.Range.{get-change}
use Rattle.page_map.proofs.Steps.{Passed, not_none}
use Rattle.page_map.proofs.Unmapped.{held_of}
use Rattle.page_map.proofs.Owners.{same_some}
use Rattle.page_map.proofs.Bytes.{length_backed}
use Rattle.page_map.proofs.Cells.{changed, KeepsTables, each_cell, same_present, unlike_there}
use Rattle.page_map.proofs.Growth.{settled}
use Rattle.page_map.proofs.Unlike.{unlike_wanted, unlike_is_wanted}
use Rattle.page_map.proofs.Settle.{gives_inside}
use Rattle.page_map.proofs.Mappings.{gap_user}
use Rattle.page_map.proofs.Keeps.{room}

-- ---- cells that stand elsewhere afterwards

module _ (st : State) (space : ℕ) (cells : AddressSpace) (tables : Tables) where
  -- where a cell with a number stood: `Came p q` says that the one at page p now was at page q, and each page is where at most one came from
  module _ (Came : ℕ → ℕ → Type 0) (one : (p q x : ℕ) → Came p x → Came q x → p ≡ q) where
    pub record Stood (p : ℕ) (c : Cell) : Type 0 where
      pub page : is_user_page (levels st) p ≡ true
      pub bytes : length (contents st.files c) ≡ 4096
      pub index : index_of (backing_of c) ≤ 2 ^ 62
      pub from : (number_of : Cell → Option ℕ) (n : ℕ) → ((d : Cell) (what : Backing) (perm : Perm) (i : ℕ) → number_of (backed what perm i) ≡ None) → number_of c ≡ Some n →
          (x : ℕ) × (cell_at st space x ≡ Some c) × Came p x

    Linked : ℕ → ℕ → ℕ → Type 0
    Linked s p x = ((s ≡ space) × Came p x) ⊎ ((nat_eq s space ≡ false) × (p ≡ x))

    differs : (s : ℕ) → s ≡ space → nat_eq s space ≡ false → ⊥
    differs s e h = true≢false (sym (eq-eqb s space e) ∙ h)

    linked_one : (s p q x : ℕ) → Linked s p x → Linked s q x → p ≡ q
    unfolding Linked
    linked_one s p q x (inl a) (inl b) = one p q x a.1 b.1
    linked_one s p q x (inr a) (inr b) = a.1 ∙ sym b.1
    linked_one s p q x (inl a) (inr b) = absurd (differs s a.0 b.0)
    linked_one s p q x (inr a) (inl b) = absurd (differs s b.0 a.0)

    module _ (stood : (p : ℕ) (c : Cell) → fin.get cells p ≡ Some c → Stood p c) (number_of : Cell → Option ℕ) (plain : (d : Cell) (what : Backing) (perm : Perm) (i : ℕ) → number_of (backed what perm i) ≡ None) where
      source : (s p : ℕ) (c : Cell) → cell_at (changed st space cells tables) s p ≡ Some c → (n : ℕ) → number_of c ≡ Some n → (x : ℕ) × (cell_at st s x ≡ Some c) × Linked s p x
      unfolding Linked
      source = each_cell st space cells tables (λ s p c. (n : ℕ) → number_of c ≡ Some n → (x : ℕ) × (cell_at st s x ≡ Some c) × Linked s p x)
          (λ p c e n is. (let at = (stood p c e).from number_of n plain is in (at.0, at.1, inl (refl, at.2))))
          (λ s p c apart e n is. (p, e, inr (apart, refl)))

      low : (limit : ℕ) → ((s p n : ℕ) (c : Cell) → cell_at st s p ≡ Some c → number_of c ≡ Some n → n < limit) → (s p n : ℕ) (c : Cell) → cell_at (changed st space cells tables) s p ≡ Some c → number_of c ≡ Some n → n < limit
      low limit old s p n c e is = let at = source s p c e n is in old s at.0 n c at.1 is

      agree : SharersAgree number_of st → SharersAgree number_of (changed st space cells tables)
      agree shared s t p q c d n e f is also =
          let a = source s p c e n is in
          let b = source t q d f n also in
          let h = shared s t a.0 b.0 c d n a.1 b.1 is also in
          (h.0, λ same. linked_one s p q a.0 a.2 (subst (λ u. Linked u q a.0) (sym same) (subst (Linked t q) (sym (h.1 same)) b.2)))

    pub stood_keep : IsConsistent st → is_present st space ≡ true → ((p : ℕ) (c : Cell) → fin.get cells p ≡ Some c → Stood p c) → KeepsTables st space cells tables →
        IsConsistent (changed st space cells tables)
    stood_keep ok here stood keeps =
        let each = each_cell st space cells tables in
        record {
          some_levels = ok.some_levels;
          few_levels = ok.few_levels;
          spaces = λ s h. ok.spaces s (sym (same_present st space cells tables here s) ∙ h);
          pages = each (λ s p c. is_user_page (levels st) p ≡ true) (λ p c e. (stood p c e).page) (λ s p c _ e. ok.pages s p c e);
          bytes = each (λ s p c. length (contents st.files c) ≡ 4096) (λ p c e. (stood p c e).bytes) (λ s p c _ e. ok.bytes s p c e);
          indexes = each (λ s p c. index_of (backing_of c) ≤ 2 ^ 62) (λ p c e. (stood p c e).index) (λ s p c _ e. ok.indexes s p c e);
          roots = λ s h. keeps.roots s (sym (same_present st space cells tables here s) ∙ h);
          parents = keeps.parents;
          unlike = unlike_there st space cells tables ok keeps;
          absent = λ p h. same_present st space cells tables here p.space ∙ keeps.absent p h;
          places = keeps.places;
          tables = keeps.few;
          frames = low stood frame_of no_frame st.limits.frames ok.frames;
          slots = low stood slot_of no_slot st.limits.swap ok.slots;
          shared_frames = agree stood frame_of no_frame ok.shared_frames;
          shared_slots = agree stood slot_of no_slot ok.shared_slots;
        }
      where
        no_frame : (d : Cell) (what : Backing) (perm : Perm) (i : ℕ) → frame_of (backed what perm i) ≡ None
        no_frame d backing.Zero perm i = refl
        no_frame d (backing.File file index) perm i = refl

        no_slot : (d : Cell) (what : Backing) (perm : Perm) (i : ℕ) → slot_of (backed what perm i) ≡ None
        no_slot d backing.Zero perm i = refl
        no_slot d (backing.File file index) perm i = refl

-- ---- what a range of another length has

-- a later page of what goes on has no lower number in its file
rises : (what : Backing) (perm : Perm) (i j : ℕ) → i ≤ j → index_of (backing_of (backed what perm i)) ≤ index_of (backing_of (backed what perm j))
rises backing.Zero perm i j h = omega arith
rises (backing.File file index) perm i j h = omega (arith, h)

module _ (L thread : ℕ) (r : Resize) (cells : AddressSpace) where
  -- where the cell at a page comes from: it stood at the same place of the old range, or at this page, or it goes on from the last page
  pub data Comes (put p : ℕ) (c : Cell) : Type 0 where
    there : within put r.old p ≡ true → fin.get cells (r.first + (p - put)) ≡ Some c → Comes put p c
    stayed : within put r.old p ≡ false → within r.first r.old p ≡ false → fin.get cells p ≡ Some c → Comes put p c
    fresh : (last : Cell) (i : ℕ) → last_cell cells r ≡ Some last → i ≤ r.new - r.old → c ≡ goes_on last i → Comes put p c

  -- the cells afterwards, by whether the range moves, and to where
  resized : Bool → ℕ → AddressSpace
  resized b to =
      change (change cells (cond b r.first (r.first + r.new)) (cond b r.old (r.old - r.new)) (λ page _. None))
      (cond b to (r.first + r.old)) (cond b r.new (r.new - r.old)) (λ page _. cell_for cells r (page - to))

  resized_at : (b : Bool) (to p : ℕ) → fin.get (resized b to) p
      ≡ cond (within (cond b to (r.first + r.old)) (cond b r.new (r.new - r.old)) p) (cell_for cells r (p - to))
      (cond (within (cond b r.first (r.first + r.new)) (cond b r.old (r.old - r.new)) p) None (fin.get cells p))
  unfolding resized
  resized_at b to p =
      get-change (change cells (cond b r.first (r.first + r.new)) (cond b r.old (r.old - r.new)) (λ page _. None)) (cond b to (r.first + r.old)) (cond b r.new (r.new - r.old)) (λ page _. cell_for cells r (page - to)) p
      ∙ ap (cond (within (cond b to (r.first + r.old)) (cond b r.new (r.new - r.old)) p) (cell_for cells r (p - to)))
      (get-change cells (cond b r.first (r.first + r.new)) (cond b r.old (r.old - r.new)) (λ page _. None) p)

  went_on : (put p i : ℕ) (c : Cell) (o : Option Cell) → last_cell cells r ≡ o → i ≤ r.new - r.old → option_map (λ last. goes_on last i) o ≡ Some c → Comes put p c
  went_on put p i c None e few h = absurd (not_none (sym h))
  went_on put p i c (Some last) e few h = fresh last i e few (sym (same_some h))

  -- a page that is filled
  filled : (put p : ℕ) (c : Cell) → put ≤ p → p < put + r.new → cell_for cells r (p - put) ≡ Some c → Comes put p c
  filled put p c low high h = go (nat_lt (p - put) r.old) refl h
    where
      go : (b : Bool) → nat_lt (p - put) r.old ≡ b → cond b (fin.get cells (r.first + (p - put))) (option_map (λ last. goes_on last (p - put + 1 - r.old)) (last_cell cells r)) ≡ Some c → Comes put p c
      go true e g = there (to_range put r.old p low (omega (arith, ltb-true (p - put) r.old e, low))) g
      go false e g = went_on put p (p - put + 1 - r.old) c (last_cell cells r) refl (omega (arith, ltb-false (p - put) r.old e, high, low)) g

  out_of : (put n p : ℕ) → (put ≤ p → p < put + n → ⊥) → within put n p ≡ false
  out_of put n p h = false_from_ne_true _ (λ w. h (in_range put n p w).0 (in_range put n p w).1)

  by_case : (a b : Bool) (f g : Option Cell) (c : Cell) → cond a f (cond b None g) ≡ Some c → ((a ≡ true) × (f ≡ Some c)) ⊎ ((a ≡ false) × (b ≡ false) × (g ≡ Some c))
  by_case true b f g c h = inl (refl, h)
  by_case false true f g c h = absurd (not_none (sym h))
  by_case false false f g c h = inr (refl, refl, h)

  -- where it moves
  moved_from : (to p : ℕ) (c : Cell) → r.old ≤ r.new → fin.get (resized true to) p ≡ Some c → ((within to r.new p ≡ true) × Comes to p c) ⊎ ((fin.get cells p ≡ Some c) × Comes to p c)
  moved_from to p c more h = go (by_case (within to r.new p) (within r.first r.old p) (cell_for cells r (p - to)) (fin.get cells p) c (sym (resized_at true to p) ∙ h))
    where
      go : ((within to r.new p ≡ true) × (cell_for cells r (p - to) ≡ Some c)) ⊎ ((within to r.new p ≡ false) × (within r.first r.old p ≡ false) × (fin.get cells p ≡ Some c)) →
          ((within to r.new p ≡ true) × Comes to p c) ⊎ ((fin.get cells p ≡ Some c) × Comes to p c)
      go (inl a) = let at = in_range to r.new p a.0 in inl (a.0, filled to p c at.0 at.1 a.1)
      go (inr b) = inr (b.2, stayed (out_of to r.old p (λ low high. true≢false (sym (to_range to r.new p low (omega (arith, high, more))) ∙ b.0))) b.1 b.2)

  -- where it stays
  stays_from : (p : ℕ) (c : Cell) → fin.get (resized false r.first) p ≡ Some c → ((within (r.first + r.old) (r.new - r.old) p ≡ true) × Comes r.first p c) ⊎ ((fin.get cells p ≡ Some c) × Comes r.first p c)
  stays_from p c h = go (by_case (within (r.first + r.old) (r.new - r.old) p) (within (r.first + r.new) (r.old - r.new) p) (cell_for cells r (p - r.first)) (fin.get cells p) c (sym (resized_at false r.first p) ∙ h))
    where
      same : (p : ℕ) → r.first ≤ p → p ≡ r.first + (p - r.first)
      same p low = omega arith

      here : (b : Bool) → within r.first r.old p ≡ b → fin.get cells p ≡ Some c → Comes r.first p c
      here true w e = there w (ap (fin.get cells) (sym (same p (in_range r.first r.old p w).0)) ∙ e)
      here false w e = stayed w w e

      go : ((within (r.first + r.old) (r.new - r.old) p ≡ true) × (cell_for cells r (p - r.first) ≡ Some c))
          ⊎ ((within (r.first + r.old) (r.new - r.old) p ≡ false) × (within (r.first + r.new) (r.old - r.new) p ≡ false) × (fin.get cells p ≡ Some c)) →
          ((within (r.first + r.old) (r.new - r.old) p ≡ true) × Comes r.first p c) ⊎ ((fin.get cells p ≡ Some c) × Comes r.first p c)
      go (inl a) = let at = in_range (r.first + r.old) (r.new - r.old) p a.0 in inl (a.0, filled r.first p c (omega (arith, at.0)) (omega (arith, at.0, at.1)) a.1)
      go (inr b) = inr (b.2, here (within r.first r.old p) refl b.2)

  -- ---- the same in one form: the new pages, and nothing else of the old ones

  abbrev placed : ℕ → ℕ → Option Cell
  placed to p = cond (within to r.new p) (cell_for cells r (p - to)) (cond (within r.first r.old p) None (fin.get cells p))

  same_test : (a b : Bool) → (a ≡ true → b ≡ true) → (b ≡ true → a ≡ true) → a ≡ b
  same_test true b f g = sym (f refl)
  same_test false true f g = absurd (true≢false (sym (g refl)))
  same_test false false f g = refl

  -- a page is in what lies behind one range of the other, where it is in the other and not in the one
  behind : (n m p : ℕ) → within (r.first + n) (m - n) p ≡ (within r.first m p && not (within r.first n p))
  behind n m p = same_test _ _
      (λ w. let at = in_range (r.first + n) (m - n) p w in
      and_from _ _ (to_range r.first m p (omega (arith, at.0)) (omega (arith, at.0, at.1))) (not_from_false _ (out_of r.first n p (λ low high. omega (arith, at.0, high)))))
      (λ h. let both = and_parts (within r.first m p) (not (within r.first n p)) h in
      let at = in_range r.first m p both.0 in
      elim (cases_lt p (r.first + n)) [
        | inl low ↦ absurd (true≢false (sym (to_range r.first n p at.0 low) ∙ not-true _ both.1))
        | inr high ↦ to_range (r.first + n) (m - n) p high (omega (arith, at.1, high))
      ])

  placed_false : (p : ℕ) → fin.get (resized false r.first) p ≡ placed r.first p
  placed_false p =
      resized_at false r.first p
      ∙ (λ i. cond (behind r.old r.new p i) (cell_for cells r (p - r.first)) (cond (behind r.new r.old p i) None (fin.get cells p)))
      ∙ go (within r.first r.new p) (within r.first r.old p) refl refl
    where
      same : (p : ℕ) → r.first ≤ p → r.first + (p - r.first) ≡ p
      same p low = omega arith

      there : within r.first r.old p ≡ true → fin.get cells p ≡ cell_for cells r (p - r.first)
      there w =
          let at = in_range r.first r.old p w in
          sym (ap (λ b. cond b (fin.get cells (r.first + (p - r.first))) (option_map (λ last. goes_on last (p - r.first + 1 - r.old)) (last_cell cells r))) (lt-ltb (p - r.first) r.old (omega (arith, at.0, at.1)))
          ∙ ap (fin.get cells) (same p at.0))

      go : (x y : Bool) → within r.first r.new p ≡ x → within r.first r.old p ≡ y →
          cond (x && not y) (cell_for cells r (p - r.first)) (cond (y && not x) None (fin.get cells p)) ≡ cond x (cell_for cells r (p - r.first)) (cond y None (fin.get cells p))
      go true true e f = there f
      go true false e f = refl
      go false true e f = refl
      go false false e f = refl

  pub remapped_at : (p : ℕ) → fin.get (remapped L thread r cells) p ≡ placed (put_at L thread cells r) p
  unfolding remapped resized
  remapped_at p = go (moves L cells r)
    where
      go : (b : Bool) → fin.get (resized b (cond b (unwrap_or (gap thread cells r.new) 0) r.first)) p ≡ placed (cond b (unwrap_or (gap thread cells r.new) 0) r.first) p
      go true = resized_at true (unwrap_or (gap thread cells r.new) 0) p
      go false = placed_false p

  -- the page of which a page's cell comes
  pub CameFrom : ℕ → ℕ → ℕ → Type 0
  CameFrom put p x = ((within put r.old p ≡ true) × (x ≡ r.first + (p - put))) ⊎ ((within put r.old p ≡ false) × (within r.first r.old p ≡ false) × (x ≡ p))

  clash : (put p q x : ℕ) → (put ≤ p) × (p < put + r.old) → x ≡ r.first + (p - put) → within r.first r.old q ≡ false → x ≡ q → ⊥
  clash put p q x at e out f = true≢false (sym (to_range r.first r.old q (omega (arith, e, f)) (omega (arith, at.0, at.1, e, f))) ∙ out)

  came_once : (put p q x : ℕ) → CameFrom put p x → CameFrom put q x → p ≡ q
  unfolding CameFrom
  came_once put p q x (inl a) (inl b) = (let at = in_range put r.old p a.0 in let bt = in_range put r.old q b.0 in omega (arith, at.0, bt.0, a.1, b.1))
  came_once put p q x (inr a) (inr b) = sym a.2 ∙ b.2
  came_once put p q x (inl a) (inr b) = absurd (clash put p q x (in_range put r.old p a.0) a.1 b.1 b.2)
  came_once put p q x (inr a) (inl b) = absurd (clash put q p x (in_range put r.old q b.0) b.1 a.1 a.2)

  abbrev Sourced : ℕ → ℕ → Cell → Type 0
  Sourced put p c = (number_of : Cell → Option ℕ) (n : ℕ) → ((d : Cell) (what : Backing) (perm : Perm) (i : ℕ) → number_of (backed what perm i) ≡ None) → number_of c ≡ Some n →
      (x : ℕ) × (fin.get cells x ≡ Some c) × CameFrom put p x

  came_from : (put p : ℕ) (c : Cell) → Comes put p c → Sourced put p c
  unfolding CameFrom
  came_from put p c (there w e) number_of n plain is = (r.first + (p - put), e, inl (w, refl))
  came_from put p c (stayed out gone e) number_of n plain is = (p, e, inr (out, gone, refl))
  came_from put p c (fresh last i at few same) number_of n plain is = absurd (not_none (sym is ∙ ap number_of same ∙ plain last (backing_of last) (perm_of last) i))

-- ---- `remap`

module _ (st : State) (thread limbo space at old_len new_len : ℕ) where
  abbrev resize : Resize
  resize = resize_of at old_len new_len

  abbrev old_cells : AddressSpace
  old_cells = space_at st space

  abbrev put : ℕ
  put = put_at (levels st) thread old_cells resize

  -- what an accepted call has passed
  both_false : (a b : Bool) → not (a || b) ≡ true → (a ≡ false) × (b ≡ false)
  both_false false false h = (refl, refl)
  both_false true b h = absurd (true≢false (sym h))
  both_false false true h = absurd (true≢false (sym h))

  pub roomy : Passed st thread (call.Remap space at old_len new_len) limbo → ((moves (levels st) old_cells resize && is_none (gap thread old_cells resize.new)) ≡ false) × (is_too_far old_cells resize ≡ false)
  roomy passed = both_false _ _ (held_of _ _ passed.place)

  -- the pages that it fills are user pages
  filled_user : (p : ℕ) → thread < 8 → IsConsistent st → Passed st thread (call.Remap space at old_len new_len) limbo →
      within (filled_first (levels st) thread old_cells resize) (filled_count (levels st) old_cells resize) p ≡ true → is_user_page (levels st) p ≡ true
  filled_user p few ok passed w = by_moves (moves (levels st) old_cells resize) refl w
    where
      to_gap : (o : Option ℕ) → gap thread old_cells resize.new ≡ o → is_none o ≡ false → is_user_range (levels st) (unwrap_or o 0) resize.new ≡ true
      to_gap None e h = absurd (true≢false h)
      to_gap (Some first) e h = gap_user (levels st) thread old_cells resize.new first ok.some_levels few e

      found : moves (levels st) old_cells resize ≡ true → is_none (gap thread old_cells resize.new) ≡ false
      found m = ap (λ b. b && is_none (gap thread old_cells resize.new)) (sym m) ∙ (roomy passed).0

      larger : (n m p : ℕ) → within (resize.first + n) (m - n) p ≡ true → nat_lt n m ≡ true
      larger n m p w = let at = in_range (resize.first + n) (m - n) p w in lt-ltb n m (omega (arith, at.0, at.1))

      fits : (g h : Bool) → (g && not h) ≡ false → g ≡ true → h ≡ true
      fits g true e f = refl
      fits g false e f = absurd (true≢false (sym (ap (λ b. b && true) f) ∙ e))

      by_moves : (b : Bool) → moves (levels st) old_cells resize ≡ b →
          within (cond b (cond b (unwrap_or (gap thread old_cells resize.new) 0) resize.first) (resize.first + resize.old)) (cond b resize.new (resize.new - resize.old)) p ≡ true → is_user_page (levels st) p ≡ true
      by_moves true m w = user_page (levels st) (unwrap_or (gap thread old_cells resize.new) 0) resize.new p (to_gap (gap thread old_cells resize.new) refl (found m)) w
      by_moves false m w = user_page (levels st) (resize.first + resize.old) (resize.new - resize.old) p
          (and_parts (is_user_range (levels st) (resize.first + resize.old) (resize.new - resize.old)) (is_free old_cells (resize.first + resize.old) (resize.new - resize.old))
          (fits (grows resize) (has_room (levels st) old_cells resize) m (larger resize.old resize.new p w))).0 w

  -- where each cell afterwards comes from
  pub remap_whence : (p : ℕ) (c : Cell) → fin.get (remapped (levels st) thread resize old_cells) p ≡ Some c →
      ((within (filled_first (levels st) thread old_cells resize) (filled_count (levels st) old_cells resize) p ≡ true) × Comes (levels st) thread resize old_cells put p c)
      ⊎ ((fin.get old_cells p ≡ Some c) × Comes (levels st) thread resize old_cells put p c)
  unfolding remapped resized
  remap_whence p c e = by_moves (moves (levels st) old_cells resize) refl e
    where
      longer : (g h : Bool) → (g && h) ≡ true → g ≡ true
      longer true h e = refl
      longer false h e = absurd (true≢false (sym e))

      by_moves : (b : Bool) → moves (levels st) old_cells resize ≡ b →
          fin.get (resized (levels st) thread resize old_cells b (cond b (unwrap_or (gap thread old_cells resize.new) 0) resize.first)) p ≡ Some c →
          ((within (cond b (cond b (unwrap_or (gap thread old_cells resize.new) 0) resize.first) (resize.first + resize.old)) (cond b resize.new (resize.new - resize.old)) p ≡ true)
          × Comes (levels st) thread resize old_cells (cond b (unwrap_or (gap thread old_cells resize.new) 0) resize.first) p c)
          ⊎ ((fin.get old_cells p ≡ Some c) × Comes (levels st) thread resize old_cells (cond b (unwrap_or (gap thread old_cells resize.new) 0) resize.first) p c)
      by_moves true m h = moved_from (levels st) thread resize old_cells (unwrap_or (gap thread old_cells resize.new) 0) p c (omega (arith, ltb-true resize.old resize.new (longer (grows resize) (not (has_room (levels st) old_cells resize)) m))) h
      by_moves false m h = stays_from (levels st) thread resize old_cells p c h

  -- an added page is not too far in its file
  near : (last : Cell) (i : ℕ) → IsConsistent st → Passed st thread (call.Remap space at old_len new_len) limbo → last_cell old_cells resize ≡ Some last → i ≤ resize.new - resize.old →
      index_of (backing_of (goes_on last i)) ≤ 2 ^ 62
  near last i ok passed e few = by_growth (nat_lt resize.old resize.new) refl (roomy passed).1
    where
      shrunk : (n m i : ℕ) → i ≤ m - n → m ≤ n → i ≤ 0
      shrunk n m i a b = omega arith

      at_most : (b : Bool) → nat_lt (2 ^ 62) (index_of (backing_of (goes_on last (resize.new - resize.old)))) ≡ b → b ≡ false → index_of (backing_of (goes_on last (resize.new - resize.old))) ≤ 2 ^ 62
      at_most b e f = ltb-false (2 ^ 62) (index_of (backing_of (goes_on last (resize.new - resize.old)))) (e ∙ f)

      own : (what : Backing) (perm : Perm) → index_of what ≤ 2 ^ 62 → index_of (backing_of (backed what perm 0)) ≤ 2 ^ 62
      own backing.Zero perm h = omega arith
      own (backing.File file index) perm h = omega (arith, h)

      by_growth : (b : Bool) → nat_lt resize.old resize.new ≡ b →
          (b && option_map_or (λ last. nat_lt (2 ^ 62) (index_of (backing_of (goes_on last (resize.new - resize.old))))) (last_cell old_cells resize) false) ≡ false → index_of (backing_of (goes_on last i)) ≤ 2 ^ 62
      by_growth true g h =
          let far = ap (λ (o : Option Cell). option_map_or (λ last. nat_lt (2 ^ 62) (index_of (backing_of (goes_on last (resize.new - resize.old))))) o false) (sym e) ∙ h in
          omega (arith, rises (backing_of last) (perm_of last) i (resize.new - resize.old) few, at_most _ refl far)
      by_growth false g h =
          omega (
            arith,
            rises (backing_of last) (perm_of last) i 0 (shrunk resize.old resize.new i few (ltb-false resize.old resize.new g)),
            own (backing_of last) (perm_of last) (ok.indexes space (resize.first + resize.old - 1) last e),
          )

  pub remap_keeps : thread < 8 → IsConsistent st → Passed st thread (call.Remap space at old_len new_len) limbo → IsConsistent (state_after st thread (call.Remap space at old_len new_len))
  unfolding state_after
  remap_keeps few ok passed =
      let c = call.Remap space at old_len new_len in
      let here : is_present st space ≡ true = held_of _ _ passed.space in
      let cells = remapped (levels st) thread resize old_cells in
      let gives = gives_inside (levels st) space (left_first (levels st) old_cells resize) (left_count (levels st) old_cells resize) in
      let user : (p : ℕ) (d : Cell) → fin.get cells p ≡ Some d → is_user_page (levels st) p ≡ true =
      λ p d e. elim (remap_whence p d e) [ inl new ↦ filled_user p few ok passed new.0 | inr old ↦ ok.pages space p d old.0 ] in
      let comes : (p : ℕ) (d : Cell) → fin.get cells p ≡ Some d → Comes (levels st) thread resize old_cells put p d = λ p d e. elim (remap_whence p d e) [ inl new ↦ new.1 | inr old ↦ old.1 ] in
      stood_keep st space cells (changed_tables (is_given_up st c) (unlike_tables (levels st) space cells) st.tables)
      (CameFrom (levels st) thread resize old_cells put) (came_once (levels st) thread resize old_cells put) ok here
      (λ p d e. record { page = user p d e; bytes = whole d p (comes p d e); index = index d p (comes p d e); from = came_from (levels st) thread resize old_cells put p d (comes p d e) })
      (settled (is_given_up st c) (unlike_tables (levels st) space cells) st space cells ok here gives.below gives.down
      (unlike_wanted (levels st) space cells (omega (arith, ok.some_levels)) ok.few_levels (ok.spaces space here) user)
      (λ p e low high h. inr (unlike_is_wanted (levels st) space cells p ok.few_levels e low high h)) (room st thread c limbo passed))
    where
      whole : (d : Cell) (p : ℕ) → Comes (levels st) thread resize old_cells put p d → length (contents st.files d) ≡ 4096
      whole d p (there w e) = ok.bytes space (resize.first + (p - put)) d e
      whole d p (stayed out gone e) = ok.bytes space p d e
      whole d p (fresh last i e low same) = ap (λ x. length (contents st.files x)) same ∙ length_backed st.files (backing_of last) (perm_of last) i

      index : (d : Cell) (p : ℕ) → Comes (levels st) thread resize old_cells put p d → index_of (backing_of d) ≤ 2 ^ 62
      index d p (there w e) = ok.indexes space (resize.first + (p - put)) d e
      index d p (stayed out gone e) = ok.indexes space p d e
      index d p (fresh last i e low same) = omega (arith, ap (λ x. index_of (backing_of x)) same, near last i ok passed e low)
