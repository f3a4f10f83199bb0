-- A list of items that has the map of a space leaves the machine within its limits.
--     pigeons      numbers below a limit, each of them once, are at most as many
--     seen      what stands in the space at the pages of an item
--     user, size      the pages of an item are user pages;  and its bytes are at most those of a page
--     in_bounds      each item leaves the machine within its limits
--     live_few, out_few      at most as many items have a frame as there are frames;  so it is with slots
use Rattle.std.proofs.Common.{◌≡◌, ℕ, zero, suc, ◌+◌, ◌-◌, ◌*◌, ◌^◌, ◌<◌, ◌≤◌, Bool, true, false, cond, not, List, [], ◌∷◌, ◌++◌, length, drop, refl, sym, ap, subst, ◌∙◌, arith, inl, inr}
use mathlib.Core.Bool.{true≢false}
use Rattle.std.specs.Prelude.{Option, Some, None, All, ◌&&◌, map, nat_eq, nat_le, nat_lt}
use Rattle.std.specs.Option.{option_map, unwrap_or}
use Rattle.std.specs.List.{filter}
use Rattle.std.specs.Ordering.{eq_by_cmp, is_eq}
use Rattle.std.specs.Cmp.{Equal-is, tied_itself}
use Rattle.std.specs.FinSet as set
use Rattle.std.specs.FinSet.{contains-empty, contains-insert, contains-remove, empty_of_len, len-empty, len-insert, len-remove}
use Rattle.std.proofs.lemmas.Bool.{and_from, and_parts, cases_lt, eq-eqb, eqb-true, false_from_ne_true, or_left, or_right}
use Rattle.std.proofs.lemmas.List.{append_assoc, length-append, length-map}
use Rattle.table_place.specs.declared.Place.{Place}
use Rattle.table_place.specs.Place.{is_user_page, is_user_range, place_cmp, root, span_count, span_first}
use Rattle.page_map.specs.Alike.{is_alike, is_unlike, unlike_tables}
use Rattle.page_map.specs.Tables.{Tables}
use Rattle.page_map.proofs.Places.{place_exact, place_total}
use Rattle.page_map.proofs.TableLaws.{unlike_listed}
use Rattle.table_place.proofs.Tables.{to_range}
use Rattle.corten_base.specs.declared.permissions.Perm.{Perm}
use Rattle.corten_base.specs.declared.calls.Backing.{Backing}
use Rattle.page_map.specs.declared.cell.Cell.{Cell}
use Rattle.page_map.specs.declared.cell.Cell.TheVariants.{Anon, File, Mapped, Swapped}
use Rattle.page_map.specs.Cell.{contents, frame_of, slot_of, zeros}
use Rattle.page_map.specs.State.{State, IsConsistent, cell_at, is_present, levels, space_at}
use Rattle.image_text.specs.declared.image.Item.{Item}
use Rattle.image_text.specs.declared.image.Item.TheVariants.{Run, Page}
use Rattle.image_text.specs.declared.image.Residence.{Residence}
use Rattle.image_text.specs.declared.image.Residence.TheVariants.{Live, Out}
use Rattle.image_text.specs.Items as items
use Rattle.image_text.specs.Items.{AreEqualButForNumbers, bytes_of, cells_of, count_of, end_of, first_of, is_live, is_out, kept, whole, without_number}
use Rattle.image_text.specs.Images.{AreInOrder, IsBacked, IsInBounds, unlike_count}
use Rattle.space_image.proofs.Covered.{In, covers, found_is, get_cells, in_left, in_right}
use Rattle.space_image.proofs.InOrder.{InOrder, after_all, all_apart, in_order, some_pages}
use Rattle.space_image.proofs.PartSpans.{alike_kept, alike_same, part_of}

-- ---- numbers below a limit

abbrev NotIn : ℕ → List ℕ → Type 0
NotIn n [] = Unit {0}
NotIn n (m ∷ ms) = (n ≡ m → ⊥) × NotIn n ms

abbrev Distinct : List ℕ → Type 0
Distinct [] = Unit {0}
Distinct (n ∷ ns) = NotIn n ns × Distinct ns

abbrev Below : ℕ → List ℕ → Type 0
Below k [] = Unit {0}
Below k (n ∷ ns) = (n < k) × Below k ns

abbrev others : ℕ → List ℕ → List ℕ
others k ns = filter (λ n. not (nat_eq n k)) ns

not_in_others : (k n : ℕ) (ns : List ℕ) → NotIn n ns → NotIn n (others k ns)
not_in_others k n [] h = tt
not_in_others k n (m ∷ ms) h = go (nat_eq m k) (not_in_others k n ms h.1)
  where
    go : (b : Bool) → NotIn n (others k ms) → NotIn n (cond (not b) (m ∷ others k ms) (others k ms))
    go true rest = rest
    go false rest = (h.0, rest)

distinct_others : (k : ℕ) (ns : List ℕ) → Distinct ns → Distinct (others k ns)
distinct_others k [] h = tt
distinct_others k (m ∷ ms) h = go (nat_eq m k) (distinct_others k ms h.1)
  where
    go : (b : Bool) → Distinct (others k ms) → Distinct (cond (not b) (m ∷ others k ms) (others k ms))
    go true rest = rest
    go false rest = (not_in_others k m ms h.0, rest)

below_others : (k : ℕ) (ns : List ℕ) → Below (suc k) ns → Below k (others k ns)
below_others k [] h = tt
below_others k (m ∷ ms) h = go (nat_eq m k) refl (below_others k ms h.1)
  where
    differs : nat_eq m k ≡ false → m ≡ k → ⊥
    differs e same = true≢false (sym (eq-eqb m k same) ∙ e)

    less : m < suc k → (m ≡ k → ⊥) → m < k
    less high ne = omega (arith, high, ne)

    go : (b : Bool) → nat_eq m k ≡ b → Below k (others k ms) → Below k (cond (not b) (m ∷ others k ms) (others k ms))
    go true e rest = rest
    go false e rest = (less h.0 (differs e), rest)

kept_others : (k : ℕ) (ns : List ℕ) → NotIn k ns → length ns ≤ length (others k ns)
kept_others k [] h = omega arith
kept_others k (m ∷ ms) h = go (nat_eq m k) refl (kept_others k ms h.1)
  where
    go : (b : Bool) → nat_eq m k ≡ b → length ms ≤ length (others k ms) → suc (length ms) ≤ length (cond (not b) (m ∷ others k ms) (others k ms))
    go true e rest = absurd (h.0 (sym (eqb-true m k e)))
    go false e rest = omega (arith, rest)

one_less : (k : ℕ) (ns : List ℕ) → Distinct ns → length ns ≤ suc (length (others k ns))
one_less k [] h = omega arith
one_less k (m ∷ ms) h = go (nat_eq m k) refl (one_less k ms h.1)
  where
    go : (b : Bool) → nat_eq m k ≡ b → length ms ≤ suc (length (others k ms)) → suc (length ms) ≤ suc (length (cond (not b) (m ∷ others k ms) (others k ms)))
    go true e rest = let all = kept_others k ms (subst (λ n. NotIn n ms) (eqb-true m k e) h.0) in omega (arith, all)
    go false e rest = omega (arith, rest)

pub pigeons : (k : ℕ) (ns : List ℕ) → Distinct ns → Below k ns → length ns ≤ k
pigeons zero [] h low = omega arith
pigeons zero (n ∷ ns) h low = absurd (omega (arith, low.0))
pigeons (suc k) ns h low =
    let rest = pigeons k (others k ns) (distinct_others k ns h) (below_others k ns low) in
    let less = one_less k ns h in
    omega (arith, rest, less)

-- ---- page tables of another space

abbrev moved : ℕ → Place → Place
moved space p = record { space = space; level = p.level; prefix = p.prefix }

one_out : (t : Tables) (k : Place) → set.contains t k ≡ true → set.len (set.remove t k) + 1 ≡ set.len t
one_out t k there = elim (cases_lt 0 (set.len t)) [
  | inl some ↦ sum (set.len t) (len-remove place_total t k ∙ ap (λ b. cond b (set.len t - 1) (set.len t)) there) some
  | inr none ↦ absurd (true≢false (sym there ∙ ap (λ u. set.contains u k) (empty_of_len t (omega (arith, none))) ∙ contains-empty place_cmp k))
]
  where
    sum : (n : ℕ) {m : ℕ} → m ≡ n - 1 → 0 < n → m + 1 ≡ n
    sum n e h = omega (arith, e, h)

kept_in : (t : Tables) (k p : Place) → (p ≡ k → ⊥) → set.contains t p ≡ true → set.contains (set.remove t k) p ≡ true
kept_in t k p other there =
    contains-remove place_total t k p
    ∙ (λ i. not (false_from_ne_true (eq_by_cmp place_cmp p k) (λ e. other (place_exact p k ((Equal-is (place_cmp p k)).0 e))) i) && there i)

abbrev AreMoved : ℕ → Tables → Tables → Type 0
AreMoved space s t = (q : Place) → set.contains s q ≡ true → (q.space ≡ 0) × (set.contains t (moved space q) ≡ true)

moved_step : (space : ℕ) (p : Place) (rest t : Tables) → AreMoved space (set.insert rest p) t → ((u : Tables) → AreMoved space rest u → set.len rest ≤ set.len u) → set.len (set.insert rest p) ≤ set.len t
moved_step space p rest t each fewer = go (set.contains rest p) refl (len-insert place_total rest p)
  where
    inner : AreMoved space rest t
    inner q h = each q (contains-insert place_total rest p q ∙ or_right (eq_by_cmp place_cmp q p) (set.contains rest q) h)

    first : (p.space ≡ 0) × (set.contains t (moved space p) ≡ true)
    first = each p (contains-insert place_total rest p p ∙ or_left (eq_by_cmp place_cmp p p) (set.contains rest p) (ap is_eq (tied_itself place_total p)))

    go : (b : Bool) → set.contains rest p ≡ b → set.len (set.insert rest p) ≡ cond b (set.len rest) (set.len rest + 1) → set.len (set.insert rest p) ≤ set.len t
    go true e is = let less = fewer t inner in omega (arith, is, less)
    go false e is =
        let less = fewer (set.remove t (moved space p)) (λ q h. (
          (inner q h).0,
          kept_in t (moved space p) (moved space q)
              (λ m. true≢false (sym h ∙ ap (set.contains rest) (λ i. record { space = ((inner q h).0 ∙ sym first.0) i; level = (m i).level; prefix = (m i).prefix }) ∙ e)) (inner q h).1,
        )) in
        let one = one_out t (moved space p) first.1 in
        omega (arith, is, less, one)

-- as many places, each moved to another space, are there
moved_len : (space : ℕ) (ps : List Place) (t : Tables) → AreMoved space (set.from_list {R = place_cmp} ps) t → set.len (set.from_list {R = place_cmp} ps) ≤ set.len t
moved_len space [] t each = none (len-empty place_cmp)
  where
    none : {a b : ℕ} → a ≡ 0 → a ≤ b
    none e = omega (arith, e)
moved_len space (p ∷ ps) t each = moved_step space p (set.from_list {R = place_cmp} ps) t each (λ u. moved_len space ps u)

-- ---- what stands in the space

some_some : {A : Type 0} {x y : A} → ◌≡◌ {A = Option A} (Some x) (Some y) → x ≡ y
some_some e = cc

none_some : {A : Type 0} {x : A} → ◌≡◌ {A = Option A} (Some x) None → ⊥
none_some e = cc

own : Cell → List ℕ
own (Anon perm) = []
own (File perm file index) = []
own (Mapped perm origin frame bytes) = bytes
own (Swapped perm origin slot bytes) = bytes

pub kept_bytes : (files : List (List ℕ)) (residence : Residence) (perm : Perm) (origin : Backing) (bytes : List ℕ) (c : Cell) → without_number (kept residence perm origin bytes) ≡ without_number c → contents files c ≡ bytes
unfolding own
kept_bytes files Live perm origin bytes (Mapped p o frame b) e = sym (ap own e)
kept_bytes files Out perm origin bytes (Swapped p o slot b) e = sym (ap own e)
kept_bytes files Live perm origin bytes (Anon p) e = absurd (cc e)
kept_bytes files Live perm origin bytes (File p f i) e = absurd (cc e)
kept_bytes files Live perm origin bytes (Swapped p o slot b) e = absurd (cc e)
kept_bytes files Out perm origin bytes (Anon p) e = absurd (cc e)
kept_bytes files Out perm origin bytes (File p f i) e = absurd (cc e)
kept_bytes files Out perm origin bytes (Mapped p o frame b) e = absurd (cc e)

frame_is : (perm : Perm) (origin : Backing) (bytes : List ℕ) (c : Cell) → Mapped perm origin 0 bytes ≡ without_number c → (n : ℕ) × (frame_of c ≡ Some n)
frame_is perm origin bytes (Mapped p o frame b) e = (frame, refl)
frame_is perm origin bytes (Anon p) e = absurd (cc e)
frame_is perm origin bytes (File p f i) e = absurd (cc e)
frame_is perm origin bytes (Swapped p o slot b) e = absurd (cc e)

slot_is : (perm : Perm) (origin : Backing) (bytes : List ℕ) (c : Cell) → Swapped perm origin 0 bytes ≡ without_number c → (n : ℕ) × (slot_of c ≡ Some n)
slot_is perm origin bytes (Swapped p o slot b) e = (slot, refl)
slot_is perm origin bytes (Anon p) e = absurd (cc e)
slot_is perm origin bytes (File p f i) e = absurd (cc e)
slot_is perm origin bytes (Mapped p o frame b) e = absurd (cc e)

whole_few : (bytes : List ℕ) → length (whole bytes) ≡ 4096 → length bytes ≤ 4096
whole_few bytes full = omega (arith, full, length-append bytes (drop (length bytes) zeros))

module _ (st : State) (ok : IsConsistent st) (space : ℕ) (all : List Item) (right : AreInOrder all) (same : AreEqualButForNumbers (cells_of all) (space_at st space)) where
  order : InOrder None all
  order = in_order all right

  pub record IsSeen (x : Item) (q : ℕ) : Type 0 where
    pub cell : Cell
    pub there : cell_at st space q ≡ Some cell
    pub like : without_number (items.cell_at x q) ≡ without_number cell

  pub seen : (x : Item) (q : ℕ) → In x all → covers x q ≡ true → IsSeen x q
  seen x q listed cov = go (cell_at st space q) refl
    where
      is : ◌≡◌ {A = Option Cell} (Some (without_number (items.cell_at x q))) (option_map without_number (cell_at st space q))
      is = sym (ap (option_map without_number) (get_cells all q ∙ found_is all (all_apart None all order) all (λ y h. h) x q listed cov)) ∙ same q

      go : (o : Option Cell) → cell_at st space q ≡ o → IsSeen x q
      go None e = absurd (none_some (is ∙ ap (option_map without_number) e))
      go (Some c) e = record { cell = c; there = e; like = some_some (is ∙ ap (option_map without_number) e) }

  some : (x : Item) → In x all → 1 ≤ count_of x
  some x listed = some_pages None all order x listed

  first_covered : (x : Item) → In x all → covers x (first_of x) ≡ true
  first_covered x listed = to_range (first_of x) (count_of x) (first_of x) (omega arith) (omega (arith, some x listed))

  pub first_seen : (x : Item) → In x all → IsSeen x (first_of x)
  first_seen x listed = seen x (first_of x) listed (first_covered x listed)

  page_user : (x : Item) (q : ℕ) → In x all → covers x q ≡ true → is_user_page (levels st) q ≡ true
  page_user x q listed cov = let s = seen x q listed cov in ok.pages space q s.cell s.there

  pub user : (x : Item) → In x all → is_user_range (levels st) (first_of x) (count_of x) ≡ true
  user x listed =
      let low = page_user x (first_of x) listed (first_covered x listed) in
      let high = page_user x (end_of x - 1) listed (to_range (first_of x) (count_of x) (end_of x - 1) (omega (arith, some x listed)) (omega (arith, some x listed))) in
      let end : end_of x - 1 + 1 ≡ end_of x = omega (arith, some x listed) in
      let limit : ℕ = 2 ^ (9 * levels st - 1) in
      and_from (nat_le 16 (first_of x)) (nat_lt (end_of x) limit)
      (and_parts (nat_le 16 (first_of x)) (nat_lt (first_of x + 1) limit) low).0
      (ap (λ n. nat_lt n limit) (sym end) ∙ (and_parts (nat_le 16 (end_of x - 1)) (nat_lt (end_of x - 1 + 1) limit) high).1)

  pub size : (x : Item) → In x all → length (bytes_of x) ≤ 4096
  size (Run first count perm what) listed = omega arith
  size (Page page perm origin residence bytes) listed =
      let s = seen (Page page perm origin residence bytes) page listed (first_covered (Page page perm origin residence bytes) listed) in
      whole_few bytes (ap length (sym (kept_bytes st.files residence perm origin (whole bytes) s.cell s.like)) ∙ ok.bytes space page s.cell s.there)

  -- ---- frames and slots

  module _ (number_of : Cell → Option ℕ) (passes : Item → Bool) (limit : ℕ) where
    record HasNumber (x : Item) : Type 0 where
      number : ℕ
      cell : Cell
      there : cell_at st space (first_of x) ≡ Some cell
      is : number_of cell ≡ Some number

    num_at : Option Cell → ℕ
    num_at None = 0
    num_at (Some c) = unwrap_or (number_of c) 0

    num : Item → ℕ
    num x = num_at (cell_at st space (first_of x))

    num_is : (x : Item) (h : HasNumber x) → num x ≡ h.number
    unfolding num num_at
    num_is x h = ap num_at h.there ∙ ap (λ o. unwrap_or o 0) h.is

    module _ (has : (x : Item) → In x all → passes x ≡ true → HasNumber x)
        (below : (p n : ℕ) (c : Cell) → cell_at st space p ≡ Some c → number_of c ≡ Some n → n < limit)
        (apart : (p q n : ℕ) (c d : Cell) → cell_at st space p ≡ Some c → cell_at st space q ≡ Some d → number_of c ≡ Some n → number_of d ≡ Some n → p ≡ q) where
      not_again : (i : Item) → HasNumber i → 1 ≤ count_of i → (is : List Item) → ((x : Item) → In x is → In x all) → ((x : Item) → In x is → end_of i ≤ first_of x) → NotIn (num i) (map num (filter passes is))
      not_again i h one [] listed behind = tt
      not_again i h one (y ∷ is) listed behind = go (passes y) refl (not_again i h one is (λ x at. listed x (inr at)) (λ x at. behind x (inr at)))
        where
          differ : HasNumber y → num i ≡ num y → ⊥
          differ g e =
              let number : h.number ≡ g.number = sym (num_is i h) ∙ e ∙ num_is y g in
              let page = apart (first_of i) (first_of y) h.number h.cell g.cell h.there g.there h.is (g.is ∙ ap Some (sym number)) in
              let far = behind y (inl refl) in
              omega (arith, page, far, one)

          go : (b : Bool) → passes y ≡ b → NotIn (num i) (map num (filter passes is)) → NotIn (num i) (map num (cond b (y ∷ filter passes is) (filter passes is)))
          go true e rest = (differ (has y (listed y (inl refl)) e), rest)
          go false e rest = rest

      numbers : (prev : Option Item) (is : List Item) → InOrder prev is → ((x : Item) → In x is → In x all) → Distinct (map num (filter passes is)) × Below limit (map num (filter passes is))
      numbers prev [] h listed = (tt, tt)
      numbers prev (i ∷ is) h listed = go (passes i) refl (numbers (Some i) is h.1 (λ x at. listed x (inr at)))
        where
          low : HasNumber i → num i < limit
          low g = let less = below (first_of i) g.number g.cell g.there g.is in omega (arith, num_is i g, less)

          go : (b : Bool) → passes i ≡ b → Distinct (map num (filter passes is)) × Below limit (map num (filter passes is)) →
              Distinct (map num (cond b (i ∷ filter passes is) (filter passes is))) × Below limit (map num (cond b (i ∷ filter passes is) (filter passes is)))
          go true e rest =
              let g = has i (listed i (inl refl)) e in
              ((not_again i g h.0.some is (λ x at. listed x (inr at)) (λ x at. after_all i is h.1 x at), rest.0), (low g, rest.1))
          go false e rest = rest

      few : length (filter passes all) ≤ limit
      few =
          let both = numbers None all order (λ x at. at) in
          let bound = pigeons limit (map num (filter passes all)) both.0 both.1 in
          omega (arith, bound, length-map (filter passes all) num)

  frame_there : (x : Item) → In x all → is_live x ≡ true → HasNumber frame_of is_live st.limits.frames x
  frame_there (Run first count perm what) listed live = absurd (true≢false (sym live))
  frame_there (Page page perm origin Out bytes) listed live = absurd (true≢false (sym live))
  frame_there (Page page perm origin Live bytes) listed live =
      let s = seen (Page page perm origin Live bytes) page listed (first_covered (Page page perm origin Live bytes) listed) in
      let n = frame_is perm origin (whole bytes) s.cell s.like in
      record { number = n.0; cell = s.cell; there = s.there; is = n.1 }

  slot_there : (x : Item) → In x all → is_out x ≡ true → HasNumber slot_of is_out st.limits.swap x
  slot_there (Run first count perm what) listed out = absurd (true≢false (sym out))
  slot_there (Page page perm origin Live bytes) listed out = absurd (true≢false (sym out))
  slot_there (Page page perm origin Out bytes) listed out =
      let s = seen (Page page perm origin Out bytes) page listed (first_covered (Page page perm origin Out bytes) listed) in
      let n = slot_is perm origin (whole bytes) s.cell s.like in
      record { number = n.0; cell = s.cell; there = s.there; is = n.1 }

  pub live_few : length (filter is_live all) ≤ st.limits.frames
  live_few = few frame_of is_live st.limits.frames frame_there (λ p n c there is. ok.frames space p n c there is)
      (λ p q n c d here there a b. (ok.shared_frames space space p q c d n here there a b).1 refl)

  pub out_few : length (filter is_out all) ≤ st.limits.swap
  out_few = few slot_of is_out st.limits.swap slot_there (λ p n c there is. ok.slots space p n c there is)
      (λ p q n c d here there a b. (ok.shared_slots space space p q c d n here there a b).1 refl)

  -- ---- page tables

  unlike_there : (chosen : List Item) → ((x : Item) → In x chosen → In x all) → (p : Place) → is_unlike (cells_of chosen) p ≡ true → is_unlike (space_at st space) p ≡ true
  unlike_there chosen listed p h = go (is_alike (space_at st space) (span_first p) (span_count p)) refl
    where
      go : (b : Bool) → is_alike (space_at st space) (span_first p) (span_count p) ≡ b → not b ≡ true
      go false e = refl
      go true e =
          let alike = alike_kept all order (cells_of chosen) (part_of all order chosen listed) (span_first p) (span_count p)
          (alike_same (space_at st space) (cells_of all) (span_first p) (span_count p) (λ q. sym (same q)) e) in
          absurd (true≢false (sym h ∙ ap not alike))

  tables_few : is_present st space ≡ true → (chosen : List Item) → ((x : Item) → In x chosen → In x all) → 1 + unlike_count (levels st) (cells_of chosen) ≤ st.limits.tables
  tables_few there chosen listed =
      let top : Place = root (levels st) space in
      let at_top = ok.roots space there in
      let one = one_out st.tables top at_top in
      let moved_few = moved_len space (unlike_tables (levels st) 0 (cells_of chosen)) (set.remove st.tables top) (λ q h.
      let is = unlike_listed (levels st) 0 (cells_of chosen) q h in (
        is.0,
        kept_in st.tables top (moved space q) (λ e. let same_level = ap (λ (p : Place). p.level) e in let low = is.2 in omega (arith, same_level, low))
            (ok.unlike (moved space q) is.1 is.2 (unlike_there chosen listed q is.3)),
      )) in
      let most = ok.tables in
      omega (arith, one, moved_few, most)

  -- ---- an item behind others

  front_few : (p : Item → Bool) (xs ys : List Item) → length (filter p xs) ≤ length (filter p (xs ++ ys))
  front_few p [] ys = omega arith
  front_few p (x ∷ xs) ys = go (p x) (front_few p xs ys)
    where
      go : (b : Bool) → length (filter p xs) ≤ length (filter p (xs ++ ys)) → length (cond b (x ∷ filter p xs) (filter p xs)) ≤ length (cond b (x ∷ filter p (xs ++ ys)) (filter p (xs ++ ys)))
      go true h = omega (arith, h)
      go false h = h

  pub in_bounds : is_present st space ≡ true → ((x : Item) → In x all → IsBacked st.files x) → ((x : Item) → In x all → All (λ b. b < 256) (bytes_of x)) →
      (before after : List Item) (item : Item) → all ≡ before ++ item ∷ after → IsInBounds st.limits st.files before item
  in_bounds there backed fit before after item are =
      let parted : all ≡ (before ++ item ∷ []) ++ after = are ∙ sym (append_assoc before (item ∷ []) after) in
      let listed : (x : Item) → In x (before ++ item ∷ []) → In x all = λ x h. subst (In x) (sym parted) (in_left x (before ++ item ∷ []) after h) in
      let here : In item all = listed item (in_right item before (item ∷ []) (inl refl)) in
      record {
        user = user item here;
        backed = backed item here;
        size = size item here;
        fit = fit item here;
        live = omega (arith, front_few is_live (before ++ item ∷ []) after, ap (λ xs. length (filter is_live xs)) parted, live_few);
        out = omega (arith, front_few is_out (before ++ item ∷ []) after, ap (λ xs. length (filter is_out xs)) parted, out_few);
        tables = tables_few there (before ++ item ∷ []) listed;
      }
