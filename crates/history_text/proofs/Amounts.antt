-- How many page tables calls need, how far the pages of a space reach after a call, and how many keys a range has.
use Rattle.std.proofs.Common.{◌≡◌, ℕ, zero, suc, ◌+◌, ◌-◌, ◌*◌, ◌/◌, ◌^◌, ◌<◌, ◌≤◌, Bool, true, false, cond, not, List, [], ◌∷◌, length, map, refl, sym, ap, subst, ◌∙◌, arith, inl, inr}
use Rattle.std.specs.Prelude.{Option, Some, None, ◌&&◌, nat_lt, nat_le}
use Rattle.std.specs.List.{All, filter, range_with_len, flat_map, sum_by}
use Rattle.std.specs.FinMap as fin
use Rattle.std.specs.FinSet as set
use Rattle.std.specs.FinSet.{len-empty, len-insert}
use Rattle.std.specs.Ordering.{nat_cmp}
use Rattle.std.proofs.lemmas.Bool.{and_parts, ltb-true, cases_eq}
use Rattle.std.proofs.lemmas.List.{length-append, length-map}
use Rattle.std.proofs.lemmas.List.Concat.{length-flat_map}
use Rattle.std.proofs.lemmas.List.Sums.{sum_by-cons, length-filter, count_by-le-length}
use Rattle.std.proofs.lemmas.List.FromFn.{length-map-range_with_len}
use Rattle.std.proofs.lemmas.List.Elements.{All-head, All-tail}
use Rattle.corten_base.specs.declared.calls.TxnOp.{TxnOp}
use Rattle.corten_base.specs.declared.calls.TxnOp.TheVariants as op
use Rattle.table_place.specs.declared.Place.{Place}
use Rattle.table_place.specs.Range.{within, lies_in}
use Rattle.table_place.specs.Place.{place_cmp, above, above_in_level, cut_by, pages_of, prefix_first, prefix_count, span_first, span_count}
use Rattle.table_place.proofs.Tables.{in_range}
use Rattle.page_map.specs.declared.cell.Cell.{Cell}
use Rattle.page_map.specs.Cell.{AddressSpace}
use Rattle.page_map.specs.Access.{Access, first_page, page_count, after_access}
use Rattle.page_map.specs.Alike.{is_unlike, unlike_tables}
use Rattle.page_map.specs.Change.{change, keys_in}
use Rattle.page_map.specs.State.{State, levels, space_at}
use Rattle.page_map.specs.Mapping.{op_first, op_pages, after_op}
use Rattle.page_map.specs.Remap.{Resize, put_at, moves, left_first, left_count, filled_first, filled_count, remapped}
use Rattle.page_map.specs.Spaces.{used_tables, copied_tables}
use Rattle.page_map.specs.Takes.{Grant}
use Rattle.page_map.specs.Effect.{cut_by_op}
use Rattle.page_map.specs.Tables.{Tables, need}
use Rattle.page_map.proofs.Need.{parts}
use Rattle.page_map.proofs.Evaluate.{difference_empty}
use Rattle.page_map.proofs.Places.{place_total, place_exact}
use Rattle.page_map.proofs.Keys.{keys_in_more, chosen}
use Rattle.page_map.proofs.Few.{sum_below}
use Rattle.page_map.proofs.Fits.{in_changed}
use Rattle.mm_script.specs.CallLine.{IsOp}

-- ---- page tables

pub nothing_needed : (tables : Tables) → need [] tables ≡ 0
nothing_needed tables = ap set.len (difference_empty place_total place_exact tables) ∙ len-empty _

pub pages_few : (len : ℕ) → len < 2 ^ 64 → pages_of len ≤ 2 ^ 52
pages_few len h = omega (arith, h)

listed_few : (ks : List Place) → set.len (set.from_list {R = place_cmp} ks) ≤ length ks
listed_few [] = omega (arith, len-empty place_cmp)
listed_few (k ∷ ks) =
    let s = set.from_list {R = place_cmp} ks in
    omega (arith, len-insert place_total s k, one_more (set.contains s k) (set.len s), listed_few ks)
  where
    one_more : (b : Bool) (n : ℕ) → cond b n (n + 1) ≤ n + 1
    one_more true n = omega arith
    one_more false n = omega arith

-- no more tables are needed than are listed
pub need_listed : (ks : List Place) (tables : Tables) → need ks tables ≤ length ks
need_listed ks tables = omega (arith, parts place_total place_exact tables ks, listed_few ks)

abbrev place_at : ℕ → ℕ → ℕ → Place
place_at space level prefix = record { space = space; level = level; prefix = prefix }

-- three to five levels
by_levels : (P : ℕ → Type 0) → P 3 → P 4 → P 5 → (n : ℕ) → 3 ≤ n → n ≤ 5 → P n
by_levels P three four five n low high = elim (cases_eq n 3) [
  | inl same ↦ subst P (sym same) three
  | inr not_three ↦ elim (cases_eq n 4) [
    | inl same ↦ subst P (sym same) four
    | inr not_four ↦ let same : 5 ≡ n = omega (arith, low, high, not_three, not_four) in subst P same five
  ]
]

abbrev prefixes : ℕ → ℕ → ℕ → ℕ
prefixes first count n = sum_by (λ level. prefix_count level first count) (range_with_len 1 n)

few_prefixes : (first count n : ℕ) → 3 ≤ n → n ≤ 5 → prefixes first count n ≤ 6 * count + 6
few_prefixes first count = by_levels (λ n. prefixes first count n ≤ 6 * count + 6) (omega arith) (omega arith) (omega arith)

-- the tables above a range of pages
pub above_range : (n space first count : ℕ) → 3 ≤ n → n ≤ 5 → length (above n space first count) ≤ 6 * count + 6
unfolding above
above_range n space first count low high =
    let whole = length-flat_map (above_in_level space first count) (range_with_len 1 n) in
    let each : sum_by (λ level. length (above_in_level space first count level)) (range_with_len 1 n) ≡ prefixes first count n =
    λ i. sum_by (λ level. length-map-range_with_len (λ prefix. place_at space level prefix) (prefix_first level first) (prefix_count level first count) i) (range_with_len 1 n) in
    omega (arith, whole, each, few_prefixes first count n low high)

few_above : (n space : ℕ) (ks : List ℕ) → 3 ≤ n → n ≤ 5 → length (flat_map (λ page. above n space page 1) ks) ≤ 12 * length ks
few_above n space [] low high = omega arith
few_above n space (k ∷ ks) low high =
    omega (arith, length-append (above n space k 1) (flat_map (λ page. above n space page 1) ks), above_range n space k 1 low high, few_above n space ks low high)

few_chosen : {X : Type 0} (p : X → Bool) (xs : List X) → length (filter p xs) ≤ length xs
few_chosen p xs = omega (arith, length-filter p xs, count_by-le-length p xs)

-- those whose spans are not alike, and those of a copy, are few for each page
unlike_few : (levels space : ℕ) (cells : AddressSpace) → 4 ≤ levels → levels ≤ 5 → length (unlike_tables levels space cells) ≤ 12 * length (fin.keys cells)
unfolding unlike_tables
unlike_few levels space cells low high =
    let all : List Place = flat_map (λ page. above (levels - 1) space page 1) (fin.keys cells) in
    omega (arith, few_chosen (is_unlike cells) all, few_above (levels - 1) space (fin.keys cells) (omega (arith, low)) (omega (arith, high)))

copied_few : (st : State) (space new : ℕ) → 4 ≤ levels st → levels st ≤ 5 → length (copied_tables st space new) ≤ 12 * length (fin.keys (space_at st space)) + 1
unfolding copied_tables
copied_few st space new low high =
    let all : List Place = flat_map (λ page. above (levels st) space page 1) (fin.keys (space_at st space)) in
    omega (
      arith,
      length-map (used_tables st space) (λ p. place_at new p.level p.prefix),
      few_chosen (set.contains st.tables) all,
      few_above (levels st) space (fin.keys (space_at st space)) (omega (arith, low)) high,
    )

pub unlike_needs : (levels space : ℕ) (cells : AddressSpace) (tables : Tables) → 4 ≤ levels → levels ≤ 5 → length (fin.keys cells) ≤ 2 ^ 54 → need (unlike_tables levels space cells) tables < 2 ^ 64
unlike_needs levels space cells tables low high few = omega (arith, need_listed (unlike_tables levels space cells) tables, unlike_few levels space cells low high, few)

pub copied_needs : (st : State) (space new : ℕ) → 4 ≤ levels st → levels st ≤ 5 → length (fin.keys (space_at st space)) ≤ 2 ^ 54 → need (copied_tables st space new) st.tables < 2 ^ 64
copied_needs st space new low high few = omega (arith, need_listed (copied_tables st space new) st.tables, copied_few st space new low high, few)

-- those that the ranges of operations cut
cut_few : (levels space first count : ℕ) → 4 ≤ levels → levels ≤ 5 → count ≤ 2 ^ 52 → length (cut_by levels space first count) ≤ 2 ^ 55
unfolding cut_by
cut_few levels space first count low high few =
    omega (
      arith,
      few_chosen (λ p. not (lies_in (span_first p) (span_count p) first count)) (above (levels - 1) space first count),
      above_range (levels - 1) space first count (omega (arith, low)) (omega (arith, high)),
      few,
    )

cut_ops : (st : State) (space : ℕ) (ops : List TxnOp) → 4 ≤ levels st → levels st ≤ 5 → All IsOp ops → length (flat_map (cut_by_op st space) ops) ≤ 2 ^ 55 * length ops
cut_ops st space [] low high h = omega arith
cut_ops st space (o ∷ ops) low high h =
    omega (arith, length-append (cut_by_op st space o) (flat_map (cut_by_op st space) ops), one o (All-head IsOp o ops h), cut_ops st space ops low high (All-tail IsOp o ops h))
  where
    one : (o : TxnOp) → IsOp o → length (cut_by_op st space o) ≤ 2 ^ 55
    one (op.Map at fresh len perm what) h = cut_few (levels st) space (at / 4096) (pages_of len) low high (pages_few len h.1)
    one (op.Unmap at len) h = cut_few (levels st) space (at / 4096) (pages_of len) low high (pages_few len h.1)
    one (op.Protect at len perm) h = cut_few (levels st) space (at / 4096) (pages_of len) low high (pages_few len h.1)

pub ops_need : (st : State) (space : ℕ) (ops : List TxnOp) → 4 ≤ levels st → levels st ≤ 5 → length ops ≤ 16 → All IsOp ops → need (flat_map (cut_by_op st space) ops) st.tables < 2 ^ 64
ops_need st space ops low high few h = omega (arith, few, need_listed (flat_map (cut_by_op st space) ops) st.tables, cut_ops st space ops low high h)

-- ---- keys below a number

sum_ones : {X : Type 0} (xs : List X) → sum_by (λ x. 1) xs ≡ length xs
sum_ones [] = refl
sum_ones (x ∷ xs) = omega (arith, sum_by-cons (λ x. 1) x xs, sum_ones xs)

pub keys_below : {X : Type 0} (m : fin.FinMap nat_cmp X) (n : ℕ) → ((k : ℕ) (x : X) → fin.get m k ≡ Some x → k < n) → length (fin.keys m) ≤ n
keys_below m n known =
    omega (arith, sum_below (λ x. 1) n m known (λ k x e. omega arith), sum_ones (fin.values m), length-map (fin.entries m) (λ e. e.0), length-map (fin.entries m) (λ e. e.1))

-- all pages of a space are below the number
abbrev pub Below : ℕ → AddressSpace → Type 0
Below n cells = (p : ℕ) (c : Cell) → fin.get cells p ≡ Some c → p < n

change_below : (n first count : ℕ) (cells : AddressSpace) (new : ℕ → Option Cell → Option Cell) → first + count ≤ n → Below n cells → Below n (change cells first count new)
change_below n first count cells new inside old p c e =
    in_changed (λ c. p < n) cells first count new p c e (λ w h. omega (arith, (in_range first count p w).1, inside)) (λ w h. old p c h)

pub op_below : (n : ℕ) (o : TxnOp) (cells : AddressSpace) → op_first o + op_pages o ≤ n → Below n cells → Below n (after_op o cells)
unfolding after_op
op_below n (op.Map at fresh len perm what) cells inside old = change_below n (at / 4096) (pages_of len) cells _ inside old
op_below n (op.Unmap at len) cells inside old = change_below n (at / 4096) (pages_of len) cells _ inside old
op_below n (op.Protect at len perm) cells inside old = change_below n (at / 4096) (pages_of len) cells _ inside old

pub access_below : (n : ℕ) (files : List (List ℕ)) (grants : Grant) (a : Access) (cells : AddressSpace) → first_page a + page_count a ≤ n → Below n cells → Below n (after_access files grants a cells)
unfolding after_access
access_below n files grants a cells inside old = change_below n (first_page a) (page_count a) cells _ inside old

-- a range of another length: neither its old place nor its new one reaches further
pub remapped_below : (n levels thread : ℕ) (r : Resize) (cells : AddressSpace) → put_at levels thread cells r + r.new ≤ n → r.first + r.old + r.new ≤ n → Below n cells → Below n (remapped levels thread r cells)
unfolding remapped
remapped_below n levels thread r cells put inside old =
    change_below n (filled_first levels thread cells r) (filled_count levels cells r) _ _ (filled (moves levels cells r) refl)
    (change_below n (left_first levels cells r) (left_count levels cells r) cells _ (left (moves levels cells r)) old)
  where
    filled : (b : Bool) → moves levels cells r ≡ b → cond b (put_at levels thread cells r) (r.first + r.old) + cond b r.new (r.new - r.old) ≤ n
    filled true is = put
    filled false is = omega (arith, inside)

    left : (b : Bool) → cond b r.first (r.first + r.new) + cond b r.old (r.old - r.new) ≤ n
    left true = omega (arith, inside)
    left false = omega (arith, inside)

-- ---- keys of a range

none_kept : {X : Type 0} (p : X → Bool) (xs : List X) → ((x : X) → p x ≡ false) → filter p xs ≡ []
none_kept p [] h = refl
none_kept p (x ∷ xs) h = ap (λ b. cond b (x ∷ filter p xs) (filter p xs)) (h x) ∙ none_kept p xs h

no_range : (first q : ℕ) → within first 0 q ≡ false
no_range first q = go (within first 0 q) refl
  where
    go : (b : Bool) → within first 0 q ≡ b → b ≡ false
    go false e = refl
    go true e =
        let parts = and_parts (nat_le first q) (nat_lt q (first + 0)) e in
        let low = ltb-true q (first + 0) parts.1 in
        absurd (omega (arith, low, le_from first q parts.0))
      where
        le_from : (a b : ℕ) → nat_le a b ≡ true → a ≤ b
        le_from a b h = grind arith

module _ {X : Type 0} (passes : X → Bool) where
  chosen_few : (k : ℕ) (o : Option X) → length (chosen passes k o) ≤ 1
  unfolding chosen
  chosen_few k None = omega arith
  chosen_few k (Some x) = go (passes x)
    where
      go : (b : Bool) → length (cond b (k ∷ []) []) ≤ 1
      go true = omega arith
      go false = omega arith

  pub keys_few : (m : fin.FinMap nat_cmp X) (first n : ℕ) → length (keys_in m first n passes) ≤ n
  keys_few m first zero =
      let none = none_kept (λ e. within first 0 e.0 && passes e.1) (fin.entries m) (λ e. ap (λ b. b && passes e.1) (no_range first e.0)) in
      let all = ap (λ es. length (map (λ (e : ℕ × X). e.0) es)) none in
      omega (arith, all)
  keys_few m first (suc n) =
      let more = ap length (keys_in_more passes m first n) ∙ length-append (keys_in m first n passes) (chosen passes (first + n) (fin.get m (first + n))) in
      omega (arith, more, keys_few m first n, chosen_few (first + n) (fin.get m (first + n)))

  pub keys_nowhere : (m : fin.FinMap nat_cmp X) → ((q : ℕ) → fin.get m q ≡ None) → (first n : ℕ) → length (keys_in m first n passes) ≤ 0
  unfolding chosen
  keys_nowhere m none first zero = keys_few m first zero
  keys_nowhere m none first (suc n) =
      let more = ap length (keys_in_more passes m first n) ∙ length-append (keys_in m first n passes) (chosen passes (first + n) (fin.get m (first + n))) in
      let last : length (chosen passes (first + n) (fin.get m (first + n))) ≡ 0 = ap (λ o. length (chosen passes (first + n) o)) (none (first + n)) in
      omega (arith, more, last, keys_nowhere m none first n)
