-- A map has one list of items in order.
--     one_list      two lists in order that have the same map but for numbers are one
--     one_image      the image of a map
use Rattle.std.proofs.Common.{◌≡◌, ℕ, ◌+◌, ◌-◌, ◌<◌, ◌≤◌, Bool, true, false, cond, List, [], ◌∷◌, refl, sym, ap, subst, ◌∙◌, arith, inl, inr}
use mathlib.Core.Bool.{true≢false}
use Rattle.std.specs.Prelude.{Option, Some, None}
use Rattle.std.specs.Option.{option_map, option_or}
use Rattle.std.proofs.lemmas.Bool.{cases_lt}
use Rattle.corten_base.specs.declared.permissions.Perm.{Perm}
use Rattle.corten_base.specs.declared.calls.Backing.{Backing}
use Rattle.corten_base.specs.declared.calls.Backing.TheVariants as backing
use Rattle.corten_base.specs.declared.numbers.Limits.{Limits}
use Rattle.page_map.specs.declared.cell.Cell.{Cell}
use Rattle.page_map.specs.Alike.{continues}
use Rattle.page_map.specs.Cell.{AddressSpace, backed, backing_of, contents, frame_of, perm_of}
use Rattle.page_map.proofs.Alike.{backed_twice, backed_unnumbered, continues_from, has_no_number}
use Rattle.table_place.proofs.Tables.{to_range}
use Rattle.image_text.specs.declared.image.Item.{Item}
use Rattle.image_text.specs.declared.image.Item.TheVariants.{Run, Page}
use Rattle.image_text.specs.declared.image.Residence.{Residence}
use Rattle.image_text.specs.declared.image.Residence.TheVariants.{Live, Out}
use Rattle.image_text.specs.Items.{IsTrimmed, bytes_of, cell_at, count_of, end_of, first_of, kept, trimmed, whole, without_number}
use Rattle.image_text.specs.Images.{AreInOrder, ImageParts, IsImageOf}
use Rattle.space_image.proofs.Beginning.{in_split}
use Rattle.space_image.proofs.Covered.{In, covers, found, found_item, get_cells, has_at}
use Rattle.space_image.proofs.InOrder.{InOrder, after_all, in_order, run_stops, starts_in}
use Rattle.space_image.proofs.PageCells.{plain_same, unnumbered}
use Rattle.space_image.proofs.TrimmedBytes.{trimmed_whole}

some_some : {A : Type 0} {x y : A} → ◌≡◌ {A = Option A} (Some x) (Some y) → x ≡ y
some_some e = cc

none_some : {A : Type 0} {x : A} → ◌≡◌ {A = Option A} None (Some x) → ⊥
none_some e = cc

abbrev seen : Option Cell → Option Cell
seen o = option_map without_number o

-- ---- what a list has at the pages of its first item, and behind it

module _ (x : Item) (xs : List Item) (prev : Option Item) (order : InOrder prev (x ∷ xs)) where
  pub none_within : (q : ℕ) → q < end_of x → found xs q ≡ None
  none_within q low = go (found xs q) refl
    where
      go : (o : Option Cell) → found xs q ≡ o → o ≡ None
      go None e = refl
      go (Some c) e =
          let at = found_item xs q c e in
          let far = after_all x xs order.1 at.item at.listed in
          absurd (omega (arith, low, far, (starts_in at.item q at.covering).0))

  pub found_head : (q : ℕ) → covers x q ≡ true → found (x ∷ xs) q ≡ Some (cell_at x q)
  unfolding found
  found_head q cov =
      ap (λ o. option_or o (has_at x q)) (none_within q (starts_in x q cov).1)
      ∙ ap (λ b. cond b (Some (cell_at x q)) None) cov

  pub head_covered : covers x (first_of x) ≡ true
  head_covered = let some = order.0.some in to_range (first_of x) (count_of x) (first_of x) (omega arith) (omega (arith, some))

  pub none_before : (q : ℕ) → q < first_of x → found (x ∷ xs) q ≡ None
  none_before q low = go (found (x ∷ xs) q) refl
    where
      listed : (y : Item) → In y (x ∷ xs) → first_of x ≤ first_of y
      listed y (inl same) = omega (arith, ap first_of same)
      listed y (inr later) = (let far = after_all x xs order.1 y later in omega (arith, far))

      go : (o : Option Cell) → found (x ∷ xs) q ≡ o → o ≡ None
      go None e = refl
      go (Some c) e =
          let at = found_item (x ∷ xs) q c e in
          absurd (omega (arith, low, listed at.item at.listed, (starts_in at.item q at.covering).0))

  pub found_behind : (q : ℕ) → end_of x ≤ q → found (x ∷ xs) q ≡ found xs q
  unfolding found
  found_behind q far = ap (option_or (found xs q)) (out (covers x q) refl) ∙ same (found xs q)
    where
      out : (b : Bool) → covers x q ≡ b → cond (covers x q) (Some (cell_at x q)) None ≡ None
      out false e = ap (λ b. cond b (Some (cell_at x q)) None) e
      out true e = absurd (omega (arith, far, (starts_in x q e).1))

      same : (o : Option Cell) → option_or o None ≡ o
      same None = refl
      same (Some c) = refl

-- ---- two items with the same first cell

is_kept : (residence : Residence) (perm : Perm) (origin : Backing) (bytes : List ℕ) → has_no_number (Some (without_number (kept residence perm origin bytes))) ≡ false
is_kept Live perm origin bytes = refl
is_kept Out perm origin bytes = refl

is_plain : (what : Backing) (perm : Perm) (i : ℕ) → has_no_number (Some (without_number (backed what perm i))) ≡ true
is_plain what perm i = ap (λ c. has_no_number (Some c)) (plain_same what perm i) ∙ backed_unnumbered what perm i

perm_of_backed : (what : Backing) (perm : Perm) (i : ℕ) → perm_of (backed what perm i) ≡ perm
perm_of_backed backing.Zero perm i = refl
perm_of_backed (backing.File file index) perm i = refl

backing_of_backed : (what : Backing) (perm : Perm) → backing_of (backed what perm 0) ≡ what
backing_of_backed backing.Zero perm = refl
backing_of_backed (backing.File file index) perm = ap (backing.File file) (same index)
  where
    same : (k : ℕ) → k + 0 ≡ k
    same k = omega arith

-- the same kind, permissions, origin and bytes
same_kept : (r s : Residence) (perm other : Perm) (origin what : Backing) (b c : List ℕ) → without_number (kept r perm origin b) ≡ without_number (kept s other what c) →
    (r ≡ s) × (perm ≡ other) × (origin ≡ what) × (b ≡ c)
same_kept Live Live perm other origin what b c e = (refl, ap perm_of e, ap backing_of e, ap (contents []) e)
same_kept Out Out perm other origin what b c e = (refl, ap perm_of e, ap backing_of e, ap (contents []) e)
same_kept Live Out perm other origin what b c e = absurd (none_some (sym (ap frame_of e)))
same_kept Out Live perm other origin what b c e = absurd (none_some (ap frame_of e))

module _ (x : Item) (xs : List Item) (prev : Option Item) (order : InOrder prev (x ∷ xs)) (y : Item) (ys : List Item) (before : Option Item) (other : InOrder before (y ∷ ys))
    (same : (q : ℕ) → seen (found (x ∷ xs) q) ≡ seen (found (y ∷ ys) q)) where
  not_earlier : first_of x < first_of y → ⊥
  not_earlier less = none_some (sym (sym (ap seen (found_head x xs prev order (first_of x) (head_covered x xs prev order))) ∙ same (first_of x)
      ∙ ap seen (none_before y ys before other (first_of x) less)))

  first_cells : first_of x ≡ first_of y → without_number (cell_at x (first_of x)) ≡ without_number (cell_at y (first_of x))
  first_cells e = some_some (sym (ap seen (found_head x xs prev order (first_of x) (head_covered x xs prev order))) ∙ same (first_of x)
      ∙ ap seen (found_head y ys before other (first_of x) (ap (covers y) e ∙ head_covered y ys before other)))

-- of two runs with the same first page neither is longer
not_longer : (first n m : ℕ) (perm : Perm) (what : Backing) (xs ys : List Item) (prev before : Option Item) → InOrder prev (Run first n perm what ∷ xs) → InOrder before (Run first m perm what ∷ ys) →
    ((q : ℕ) → seen (found (Run first n perm what ∷ xs) q) ≡ seen (found (Run first m perm what ∷ ys) q)) → n < m → ⊥
not_longer first n m perm what xs ys prev before order other same less = go (found (Run first n perm what ∷ xs) (first + n)) refl
  where
    some : 1 ≤ n
    some = order.0.some

    at : first + n - first ≡ n
    at = omega arith

    sum : n - 1 + 1 ≡ n
    sum = omega (arith, some)

    there : seen (found (Run first m perm what ∷ ys) (first + n)) ≡ Some (without_number (backed what perm n))
    there = ap seen (found_head (Run first m perm what) ys before other (first + n) (to_range first m (first + n) (omega arith) (omega (arith, less))))
        ∙ ap (λ k. Some (without_number (backed what perm k))) at

    go : (o : Option Cell) → found (Run first n perm what ∷ xs) (first + n) ≡ o → ⊥
    go None e = none_some (sym (ap seen e) ∙ same (first + n) ∙ there)
    go (Some c) e =
        let is = unnumbered c what perm n (some_some (sym (ap seen e) ∙ same (first + n) ∙ there)) in
        let on = continues_from (Some (backed what perm (n - 1))) 1 (Some c) (backed_unnumbered what perm (n - 1)) (ap Some (is ∙ sym (backed_twice what perm (n - 1) 1 ∙ ap (backed what perm) sum))) in
        true≢false (sym (ap (continues (Some (backed what perm (n - 1))) 1) e ∙ on) ∙ run_stops prev (Run first n perm what ∷ xs) order first n perm what (inl refl) some)

zero_off : (k : ℕ) → k - k ≡ 0
zero_off k = omega arith

one_head : (x : Item) (xs : List Item) (prev : Option Item) (order : InOrder prev (x ∷ xs)) (y : Item) (ys : List Item) (before : Option Item) (other : InOrder before (y ∷ ys)) →
    ((q : ℕ) → seen (found (x ∷ xs) q) ≡ seen (found (y ∷ ys) q)) → IsTrimmed (bytes_of x) → IsTrimmed (bytes_of y) → first_of x ≡ first_of y → x ≡ y
one_head (Run first n perm what) xs prev order (Run next m right origin) ys before other same tx ty e =
    let cells = first_cells (Run first n perm what) xs prev order (Run next m right origin) ys before other same e in
    let zero : first - next ≡ 0 = ap (λ k. k - next) e ∙ zero_off next in
    let one : backed what perm 0 ≡ backed origin right 0 =
    sym (ap (backed what perm) (zero_off first)) ∙ sym (plain_same what perm (first - first)) ∙ cells ∙ plain_same origin right (first - next) ∙ ap (backed origin right) zero in
    let perms : perm ≡ right = sym (perm_of_backed what perm 0) ∙ ap perm_of one ∙ perm_of_backed origin right 0 in
    let backs : what ≡ origin = sym (backing_of_backed what perm) ∙ ap backing_of one ∙ backing_of_backed origin right in
    go next m right origin other same e perms backs
  where
    go : (next m : ℕ) (right : Perm) (origin : Backing) → InOrder before (Run next m right origin ∷ ys) → ((q : ℕ) → seen (found (Run first n perm what ∷ xs) q) ≡ seen (found (Run next m right origin ∷ ys) q)) →
        first ≡ next → perm ≡ right → what ≡ origin → Run first n perm what ≡ Run next m right origin
    go next m right origin other same e perms backs =
        let is : Run next m right origin ≡ Run first m perm what = λ i. Run (sym e i) m (sym perms i) (sym backs i) in
        let there = subst (λ (z : Item). InOrder before (z ∷ ys)) is other in
        let alike : (q : ℕ) → seen (found (Run first n perm what ∷ xs) q) ≡ seen (found (Run first m perm what ∷ ys) q) = λ q. same q ∙ ap (λ z. seen (found (z ∷ ys) q)) is in
        let counts : n ≡ m = elim (cases_lt n m) [
          | inl less ↦ absurd (not_longer first n m perm what xs ys prev before order there alike less)
          | inr up ↦ elim (cases_lt m n) [
            | inl more ↦ absurd (not_longer first m n perm what ys xs before prev there order (λ q. sym (alike q)) more)
            | inr down ↦ omega (arith, up, down)
          ]
        ] in
        ap (λ k. Run first k perm what) counts ∙ sym is
one_head (Page page perm origin residence bytes) xs prev order (Page p right what r b) ys before other same tx ty e =
    let parts = same_kept residence r perm right origin what (whole bytes) (whole b) (first_cells (Page page perm origin residence bytes) xs prev order (Page p right what r b) ys before other same e) in
    let all : bytes ≡ b = sym (trimmed_whole bytes tx) ∙ ap trimmed parts.3 ∙ trimmed_whole b ty in
    λ i. Page (e i) (parts.1 i) (parts.2 i) (parts.0 i) (all i)
one_head (Run first n perm what) xs prev order (Page p right origin r b) ys before other same tx ty e =
    absurd (true≢false (sym (is_plain what perm (first - first)) ∙ ap (λ c. has_no_number (Some c)) (first_cells (Run first n perm what) xs prev order (Page p right origin r b) ys before other same e) ∙ is_kept r right origin (whole b)))
one_head (Page p right origin r b) xs prev order (Run first n perm what) ys before other same tx ty e =
    absurd (true≢false (sym (is_plain what perm (p - first)) ∙ sym (ap (λ c. has_no_number (Some c)) (first_cells (Page p right origin r b) xs prev order (Run first n perm what) ys before other same e)) ∙ is_kept r right origin (whole b)))

pub one_list : (xs ys : List Item) (prev before : Option Item) → InOrder prev xs → InOrder before ys → ((x : Item) → In x xs → IsTrimmed (bytes_of x)) → ((y : Item) → In y ys → IsTrimmed (bytes_of y)) →
    ((q : ℕ) → option_map without_number (found xs q) ≡ option_map without_number (found ys q)) → xs ≡ ys
unfolding found
one_list [] [] prev before order other tx ty same = refl
one_list [] (y ∷ ys) prev before order other tx ty same =
    absurd (none_some (same (first_of y) ∙ ap (option_map without_number) (found_head y ys before other (first_of y) (head_covered y ys before other))))
one_list (x ∷ xs) [] prev before order other tx ty same =
    absurd (none_some (sym (same (first_of x)) ∙ ap (option_map without_number) (found_head x xs prev order (first_of x) (head_covered x xs prev order))))
one_list (x ∷ xs) (y ∷ ys) prev before order other tx ty same =
    let firsts : first_of x ≡ first_of y = elim (cases_lt (first_of x) (first_of y)) [
      | inl less ↦ absurd (not_earlier x xs prev order y ys before other same less)
      | inr up ↦ elim (cases_lt (first_of y) (first_of x)) [
        | inl more ↦ absurd (not_earlier y ys before other x xs prev order (λ q. sym (same q)) more)
        | inr down ↦ omega (arith, up, down)
      ]
    ] in
    let head = one_head x xs prev order y ys before other same (tx x (inl refl)) (ty y (inl refl)) firsts in
    let ends : end_of x ≡ end_of y = ap end_of head in
    let tail = one_list xs ys (Some x) (Some y) order.1 other.1 (λ z h. tx z (inr h)) (λ z h. ty z (inr h)) (λ q. elim (cases_lt q (end_of x)) [
      | inl low ↦ ap (option_map without_number) (none_within x xs prev order q low ∙ sym (none_within y ys before other q (omega (arith, low, ends))))
      | inr far ↦ ap (option_map without_number) (sym (found_behind x xs prev order q far)) ∙ same q ∙ ap (option_map without_number) (found_behind y ys before other q (omega (arith, far, ends)))
    ]) in
    λ i. head i ∷ tail i

trimmed_in : (items : List Item) → AreInOrder items → (x : Item) → In x items → IsTrimmed (bytes_of x)
trimmed_in items right x h = let at = in_split x items h in (right at.0 at.1 x at.2).trimmed

pub one_image : (limits : Limits) (files : List (List ℕ)) (cells : AddressSpace) (a b : ImageParts) → IsImageOf limits files cells a → IsImageOf limits files cells b → a ≡ b
one_image limits files cells a b of too =
    let same : (q : ℕ) → option_map without_number (found a.items q) ≡ option_map without_number (found b.items q) = λ q.
    ap (option_map without_number) (sym (get_cells a.items q)) ∙ of.same_map q ∙ sym (too.same_map q) ∙ ap (option_map without_number) (get_cells b.items q) in
    let items = one_list a.items b.items None None (in_order a.items of.in_order) (in_order b.items too.in_order) (trimmed_in a.items of.in_order) (trimmed_in b.items too.in_order) same in
    λ i. record { limits = (of.same_limits ∙ sym too.same_limits) i; files = (of.same_files ∙ sym too.same_files) i; items = items i }
