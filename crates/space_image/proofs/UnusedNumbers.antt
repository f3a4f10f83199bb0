-- While an image is built, at most as many numbers are in use as it has pages with one.
--     frame_left, slot_left      a frame is unused where fewer pages than there are frames have one;  so it is with slots
use Rattle.std.proofs.Common.{◌≡◌, ℕ, ◌+◌, ◌-◌, ◌<◌, ◌≤◌, Bool, true, false, cond, not, List, [], ◌∷◌, length, refl, sym, ap, ◌∙◌, arith, inl, inr}
use mathlib.Core.Bool.{true≢false}
use Rattle.std.specs.Prelude.{Option, Some, None, is_some, nat_eq}
use Rattle.std.specs.Option.{option_map, option_map_or, option_and_then, unwrap_or}
use Rattle.std.specs.List.{filter, list_any, range_with_len, count_by}
use Rattle.std.specs.Cmp.{nat_eq_equiv}
use Rattle.std.specs.FinMap as map
use Rattle.std.proofs.lemmas.Bool.{eq-eqb, eqb-true, false_from_ne_true, or_left, or_right}
use Rattle.corten_base.specs.declared.permissions.Perm.{Perm}
use Rattle.corten_base.specs.declared.calls.Backing.{Backing}
use Rattle.corten_base.specs.declared.calls.Backing.TheVariants as backing
use Rattle.page_map.specs.declared.cell.Cell.{Cell}
use Rattle.page_map.specs.declared.cell.Cell.TheVariants.{Anon, File, Mapped, Swapped}
use Rattle.page_map.specs.Cell.{AddressSpace, backed, frame_of, slot_of}
use Rattle.page_map.specs.Found.{in_use}
use Rattle.page_map.specs.State.{State, carries, owners, space_at, unused, unused_frames, unused_slots}
use Rattle.image_text.specs.declared.image.Item.{Item}
use Rattle.image_text.specs.declared.image.Item.TheVariants.{Run, Page}
use Rattle.image_text.specs.declared.image.Residence.TheVariants.{Live, Out}
use Rattle.image_text.specs.Items.{cell_at, cells_of, first_of, is_live, is_out, without_number}
use Rattle.image_text.specs.Images.{ImageParts}
use Rattle.space_image.proofs.Covered.{In, covers, found_item, get_cells}
use Rattle.space_image.proofs.InOrder.{starts_in}
use Rattle.space_image.proofs.FewNumbers.{any_few, at_most_once, free_and_used, more_pass, zero_sum}
use Rattle.space_image.proofs.Building.{Holds}

some_some : {A : Type 0} {x y : A} → ◌≡◌ {A = Option A} (Some x) (Some y) → x ≡ y
some_some e = cc

none_some : {A : Type 0} {x : A} → ◌≡◌ {A = Option A} None (Some x) → ⊥
none_some e = cc

any_in : (p : Item → Bool) (x : Item) (xs : List Item) → In x xs → p x ≡ true → list_any p xs ≡ true
any_in p x [] listed h = absurd listed
any_in p x (y ∷ ys) (inl same) h = or_left (p y) (list_any p ys) (ap p (sym same) ∙ h)
any_in p x (y ∷ ys) (inr later) h = or_right (p y) (list_any p ys) (any_in p x ys later h)

pub in_filter : (p : Item → Bool) (x : Item) (xs : List Item) → In x xs → p x ≡ true → In x (filter p xs)
in_filter p x [] listed h = listed
in_filter p x (y ∷ ys) (inl same) h = go (p y) (ap p (sym same) ∙ h)
  where
    go : (b : Bool) → b ≡ true → In x (cond b (y ∷ filter p ys) (filter p ys))
    go true e = inl same
    go false e = absurd (true≢false (sym e))
in_filter p x (y ∷ ys) (inr later) h = go (p y) (in_filter p x ys later h)
  where
    go : (b : Bool) → In x (filter p ys) → In x (cond b (y ∷ filter p ys) (filter p ys))
    go true rest = inr rest
    go false rest = rest

module _ (number_of : Cell → Option ℕ) (passes : Item → Bool)
    (kinds : (x : Item) (q : ℕ) → covers x q ≡ true → is_some (number_of (cell_at x q)) ≡ true → (passes x ≡ true) × (q ≡ first_of x))
    (erased : (c : Cell) → is_some (number_of (without_number c)) ≡ is_some (number_of c))
    (image : ImageParts) (made : List Item) (st : State) (holds : Holds image made st) where
  number_at : Item → Option ℕ
  number_at x = option_and_then number_of (map.get (space_at st 0) (first_of x))

  has_number : Item → ℕ → Bool
  has_number x n = option_map_or (λ m. nat_eq m n) (number_at x) false

  -- the item of a page that carries a number
  carrier : (n q : ℕ) (c : Cell) → map.get (space_at st 0) q ≡ Some c → number_of c ≡ Some n → list_any (λ x. has_number x n) (filter passes made) ≡ true
  unfolding has_number number_at
  carrier n q c here is = go (map.get (cells_of made) q) refl
    where
      same : {o : Option Cell} → map.get (cells_of made) q ≡ o → option_map without_number o ≡ Some (without_number c)
      same e = ap (option_map without_number) (sym e) ∙ holds.cells q ∙ ap (option_map without_number) here

      go : (o : Option Cell) → map.get (cells_of made) q ≡ o → list_any (λ x. has_number x n) (filter passes made) ≡ true
      go None e = absurd (none_some (same e))
      go (Some d) e =
          let at = found_item made q d (sym (get_cells made q) ∙ e) in
          let numbered : is_some (number_of d) ≡ true =
          sym (erased d) ∙ ap (λ c. is_some (number_of c)) (some_some (same e)) ∙ erased c ∙ ap is_some is in
          let kind = kinds at.item q at.covering (ap (λ c. is_some (number_of c)) at.is ∙ numbered) in
          any_in (λ x. has_number x n) at.item (filter passes made) (in_filter passes at.item made at.listed kind.0)
          (ap (λ k. option_map_or (λ m. nat_eq m n) (option_and_then number_of (map.get (space_at st 0) k)) false) (sym kind.1)
          ∙ ap (λ o. option_map_or (λ m. nat_eq m n) (option_and_then number_of o) false) here
          ∙ ap (λ o. option_map_or (λ m. nat_eq m n) o false) is ∙ nat_eq_equiv.refl n)

  -- a number that no such item has is in use nowhere
  none_in_use : (n : ℕ) → list_any (λ x. has_number x n) (filter passes made) ≡ false → owners number_of st n ≡ 0
  unfolding owners
  none_in_use n none = zero_sum (λ cells. count_by (carries number_of n) (map.values cells)) st.spaces (λ s cells there.
      zero_sum (λ c. cond (carries number_of n c) 1 0) cells (λ q c here. weighs s cells q c there here (number_of c) refl))
    where
      at_zero : (s : ℕ) (cells : AddressSpace) → map.get st.spaces s ≡ Some cells → space_at st 0 ≡ cells
      at_zero s cells there =
          let zero = holds.alone s (ap is_some there) in
          ap (λ k. unwrap_or (map.get st.spaces k) map.empty) (sym zero) ∙ ap (λ o. unwrap_or o map.empty) there

      weighs : (s : ℕ) (cells : AddressSpace) (q : ℕ) (c : Cell) → map.get st.spaces s ≡ Some cells → map.get cells q ≡ Some c → (o : Option ℕ) → number_of c ≡ o →
          ◌≡◌ {A = ℕ} (cond (carries number_of n c) 1 0) 0
      weighs s cells q c there here None is = ap (λ o. cond (option_map_or (λ m. nat_eq m n) o false) 1 0) is
      weighs s cells q c there here (Some m) is = ap (λ o. cond (option_map_or (λ m. nat_eq m n) o false) 1 0) is
          ∙ ap (λ b. cond b 1 0) (false_from_ne_true (nat_eq m n) (λ t.
          true≢false (sym (carrier n q c (ap (λ cells. map.get cells q) (at_zero s cells there) ∙ here) (is ∙ ap Some (eqb-true m n t))) ∙ none)))

  used_few : (limit : ℕ) → length (in_use (owners number_of st) limit) ≤ length (filter passes made)
  unfolding has_number number_at
  used_few limit =
      let any = more_pass (λ n. not (nat_eq (owners number_of st n) 0)) (λ n. list_any (λ x. has_number x n) (filter passes made)) used (range_with_len 0 limit) in
      let few = any_few has_number (range_with_len 0 limit) (λ x. at_most_once (number_at x) 0 limit) (filter passes made) in
      omega (arith, any, few)
    where
      used : (n : ℕ) → not (nat_eq (owners number_of st n) 0) ≡ true → list_any (λ x. has_number x n) (filter passes made) ≡ true
      used n h = go (list_any (λ x. has_number x n) (filter passes made)) refl
        where
          go : (b : Bool) → list_any (λ x. has_number x n) (filter passes made) ≡ b → b ≡ true
          go true e = refl
          go false e = absurd (true≢false (sym h ∙ ap not (eq-eqb (owners number_of st n) 0 (none_in_use n e))))

  pub number_left : (limit : ℕ) → length (filter passes made) < limit → 1 ≤ length (unused (owners number_of st) limit)
  number_left limit few = omega (arith, free_and_used (owners number_of st) limit, used_few limit, few)

-- ---- frames and slots

frame_erased : (c : Cell) → is_some (frame_of (without_number c)) ≡ is_some (frame_of c)
frame_erased (Anon perm) = refl
frame_erased (File perm file index) = refl
frame_erased (Mapped perm origin frame bytes) = refl
frame_erased (Swapped perm origin slot bytes) = refl

slot_erased : (c : Cell) → is_some (slot_of (without_number c)) ≡ is_some (slot_of c)
slot_erased (Anon perm) = refl
slot_erased (File perm file index) = refl
slot_erased (Mapped perm origin frame bytes) = refl
slot_erased (Swapped perm origin slot bytes) = refl

no_frame : (what : Backing) (perm : Perm) (i : ℕ) → frame_of (backed what perm i) ≡ None
no_frame backing.Zero perm i = refl
no_frame (backing.File file index) perm i = refl

no_slot : (what : Backing) (perm : Perm) (i : ℕ) → slot_of (backed what perm i) ≡ None
no_slot backing.Zero perm i = refl
no_slot (backing.File file index) perm i = refl

not_some : {o : Option ℕ} → o ≡ None → is_some o ≡ true → ⊥
not_some e h = true≢false (sym h ∙ ap is_some e)

its_page : (x : Item) (page q : ℕ) (low : first_of x ≡ page) → (page ≤ q) × (q < page + 1) → q ≡ first_of x
its_page x page q low at = omega (arith, low, at.0, at.1)

frame_kinds : (x : Item) (q : ℕ) → covers x q ≡ true → is_some (frame_of (cell_at x q)) ≡ true → (is_live x ≡ true) × (q ≡ first_of x)
frame_kinds (Run first count perm what) q cov h = absurd (not_some (no_frame what perm (q - first)) h)
frame_kinds (Page page perm origin Live bytes) q cov h = (refl, its_page (Page page perm origin Live bytes) page q refl (starts_in (Page page perm origin Live bytes) q cov))
frame_kinds (Page page perm origin Out bytes) q cov h = absurd (true≢false (sym h))

slot_kinds : (x : Item) (q : ℕ) → covers x q ≡ true → is_some (slot_of (cell_at x q)) ≡ true → (is_out x ≡ true) × (q ≡ first_of x)
slot_kinds (Run first count perm what) q cov h = absurd (not_some (no_slot what perm (q - first)) h)
slot_kinds (Page page perm origin Out bytes) q cov h = (refl, its_page (Page page perm origin Out bytes) page q refl (starts_in (Page page perm origin Out bytes) q cov))
slot_kinds (Page page perm origin Live bytes) q cov h = absurd (true≢false (sym h))

pub frame_left : (image : ImageParts) (made : List Item) (st : State) → Holds image made st → length (filter is_live made) < st.limits.frames → 1 ≤ length (unused_frames st)
frame_left image made st holds few = number_left frame_of is_live frame_kinds frame_erased image made st holds st.limits.frames few

pub slot_left : (image : ImageParts) (made : List Item) (st : State) → Holds image made st → length (filter is_out made) < st.limits.swap → 1 ≤ length (unused_slots st)
slot_left image made st holds few = number_left slot_of is_out slot_kinds slot_erased image made st holds st.limits.swap few
