-- Ranges in bytes, and those of one page.
--     first_page_is, pages_are, is_range, right_length      an address and a length in pages
--     earliest_one      what is found in one number
--     one_key      at most one key is in it
--     one_owner      where only space 0 is there, a number that one of its cells carries has one owner
use Rattle.std.proofs.Common.{◌≡◌, ℕ, ◌+◌, ◌-◌, ◌*◌, ◌/◌, ◌%◌, ◌^◌, ◌<◌, ◌≤◌, Bool, true, false, cond, ◌&&◌, List, [], ◌∷◌, length, refl, sym, ap, subst, ◌∙◌, arith}
use Rattle.std.specs.Prelude.{Option, Some, None, is_some, map, nat_eq, nat_lt, nat_le}
use Rattle.std.specs.Option.{unwrap_or}
use Rattle.std.specs.List.{filter, count_by, sum_by}
use Rattle.std.specs.Ordering.{nat_cmp}
use Rattle.std.specs.Cmp.{nat_cmp_total, unsigned_tied}
use Rattle.std.specs.FinMap as fin
use Rattle.std.specs.FinMap.{FinMap, get-remove}
use Rattle.std.proofs.lemmas.Bool.{and_from, and_parts, eq-eqb, eqb-false, false_from_ne_true, le-leb, lt-ltb, ltb-true}
use Rattle.std.proofs.lemmas.List.{length-append}
use Rattle.std.proofs.lemmas.Nat.{pow-add}
use Rattle.table_place.specs.Range.{within}
use Rattle.table_place.specs.Place.{is_page_range, is_user_range, pages_of}
use Rattle.page_map.specs.declared.cell.Cell.{Cell}
use Rattle.page_map.specs.Change.{earliest, keys_in}
use Rattle.page_map.specs.Mapping.{is_length}
use Rattle.page_map.specs.State.{AddressSpace, SharersAgree, State, carries, cell_at, is_present, owners}
use Rattle.page_map.proofs.Few.{one_each}
use Rattle.page_map.proofs.Keys.{chosen, keys_in_more}
use Rattle.page_map.proofs.Owners.{an_owner, weight_at}
use Rattle.page_map.proofs.Range.{inside}
use Rattle.space_image.proofs.FewNumbers.{zero_sum}

pub first_page_is : (first : ℕ) → 4096 * first / 4096 ≡ first
first_page_is first = omega arith

pub pages_are : (count : ℕ) → pages_of (4096 * count) ≡ count
pages_are count = omega arith

pub is_range : (levels first count : ℕ) → 1 ≤ count → is_user_range levels first count ≡ true → is_page_range levels (4096 * first) (4096 * count) ≡ true
is_range levels first count some user =
    and_from _ _ (and_from _ _ (eq-eqb (4096 * first % 4096) 0 (whole first)) (lt-ltb 0 (4096 * count) (more count some)))
    ((λ i. is_user_range levels (first_page_is first i) (pages_are count i)) ∙ user)
  where
    whole : (first : ℕ) → 4096 * first % 4096 ≡ 0
    whole first = omega arith

    more : (count : ℕ) → 1 ≤ count → 0 < 4096 * count
    more count some = omega (arith, some)

pub right_length : (levels first count : ℕ) → 1 ≤ levels → 1 ≤ count → is_user_range levels first count ≡ true → is_length levels (4096 * count) ≡ true
right_length levels first count low some user = and_from _ _ (lt-ltb 0 (4096 * count) (more count some)) (le-leb (4096 * count) (2 ^ (9 * levels + 11)) fits)
  where
    more : (count : ℕ) → 1 ≤ count → 0 < 4096 * count
    more count some = omega (arith, some)

    sum : 9 * levels - 1 + 12 ≡ 9 * levels + 11
    sum = omega (arith, low)

    twelve : 2 ^ 12 ≡ 4096
    twelve = refl

    wide : (top power : ℕ) → power ≡ top * 4096 → first + count < top → 4096 * count ≤ power
    wide top power e h = omega (arith, e, h)

    fits : 4096 * count ≤ 2 ^ (9 * levels + 11)
    fits = wide (2 ^ (9 * levels - 1)) (2 ^ (9 * levels + 11)) (ap (λ n. 2 ^ n) (sym sum) ∙ pow-add 2 (9 * levels - 1) 12 ∙ ap (λ n. 2 ^ (9 * levels - 1) * n) twelve) (ltb-true (first + count) (2 ^ (9 * levels - 1)) (and_parts (nat_le 16 first) (nat_lt (first + count) (2 ^ (9 * levels - 1))) user).1)

pub earliest_one : {B : Type 0} (first : ℕ) (answer : ℕ → Option B) → earliest first 1 answer ≡ answer first
unfolding earliest
earliest_one {B = B} first answer = go (answer first)
  where
    go : (o : Option B) → elim o [ Some b ↦ Some b | None ↦ None ] ≡ o
    go None = refl
    go (Some b) = refl

module _ {X : Type 0} (passes : X → Bool) where
  empty_range : (low q : ℕ) → within low 0 q ≡ false
  empty_range low q = false_from_ne_true (within low 0 q) (λ e. absurd (omega (arith, (inside low 0 q e).0, (inside low 0 q e).1)))

  none_of : (low : ℕ) (es : List (ℕ × X)) → map (λ e. e.0) (filter (λ e. within low 0 e.0 && passes e.1) es) ≡ []
  none_of low [] = refl
  none_of low (e ∷ es) =
      ap (λ b. map (λ e. e.0) (cond (b && passes e.1) (e ∷ filter (λ e. within low 0 e.0 && passes e.1) es) (filter (λ e. within low 0 e.0 && passes e.1) es))) (empty_range low e.0)
      ∙ none_of low es

  few_chosen : (k : ℕ) (o : Option X) → length (chosen passes k o) ≤ 1
  unfolding chosen
  few_chosen k None = omega arith
  few_chosen k (Some x) = go (passes x)
    where
      go : (b : Bool) → length (cond b (k ∷ []) []) ≤ 1
      go true = omega arith
      go false = omega arith

  pub one_key : (m : FinMap nat_cmp X) (low : ℕ) → length (keys_in m low 1 passes) ≤ 1
  one_key m low =
      omega (arith, ap length (keys_in_more passes m low 0), length-append (keys_in m low 0 passes) (chosen passes (low + 0) (fin.get m (low + 0))), ap length (none_of low (fin.entries m)), few_chosen (low + 0) (fin.get m (low + 0)))

-- ---- owners

module _ (number_of : Cell → Option ℕ) (st : State) (alone : (s : ℕ) → is_present st s ≡ true → s ≡ 0) (shared : SharersAgree number_of st) where
  w : ℕ → AddressSpace → ℕ
  w n cells = count_by (carries number_of n) (fin.values cells)

  few_owners : (n : ℕ) → owners number_of st n ≤ 1
  unfolding owners
  few_owners n = go (fin.get st.spaces 0) refl
    where
      equal : {a b c : ℕ} → a ≡ b + c → b ≡ 0 → c ≤ 1 → a ≤ 1
      equal e z f = omega (arith, e, z, f)

      less : {a : ℕ} → a ≡ 0 → a ≤ 1
      less e = omega (arith, e)

      others : sum_by (λ cells. count_by (carries number_of n) (fin.values cells)) (fin.values (fin.remove st.spaces 0)) ≡ 0
      others = zero_sum (λ cells. count_by (carries number_of n) (fin.values cells)) (fin.remove st.spaces 0) (λ s cells there.
          absurd (gone s cells (nat_eq s 0) refl (sym (get-remove nat_cmp_total st.spaces 0 s ∙ ap (λ b. cond b None (fin.get st.spaces s)) (unsigned_tied s 0)) ∙ there)))
        where
          none_some : {cells : AddressSpace} → ◌≡◌ {A = Option AddressSpace} None (Some cells) → ⊥
          none_some e = cc

          gone : (s : ℕ) (cells : AddressSpace) (b : Bool) → nat_eq s 0 ≡ b → cond b None (fin.get st.spaces s) ≡ Some cells → ⊥
          gone s cells true e h = none_some h
          gone s cells false e h = eqb-false s 0 e (alone s (ap is_some h))

      go : (o : Option AddressSpace) → fin.get st.spaces 0 ≡ o → sum_by (λ cells. count_by (carries number_of n) (fin.values cells)) (fin.values st.spaces) ≤ 1
      go (Some cells) e =
          let one = subst (λ (m : AddressSpace). count_by (carries number_of n) (fin.values m) ≤ 1) (ap (λ (o : Option AddressSpace). unwrap_or o fin.empty) e) (one_each number_of n st shared 0) in
          equal (weight_at (λ cells. count_by (carries number_of n) (fin.values cells)) st.spaces 0 cells e) others one
      go None e = less (zero_sum (λ cells. count_by (carries number_of n) (fin.values cells)) st.spaces (λ s cells there. absurd (nowhere s cells there)))
        where
          none_some : {cells : AddressSpace} → ◌≡◌ {A = Option AddressSpace} None (Some cells) → ⊥
          none_some e = cc

          nowhere : (s : ℕ) (cells : AddressSpace) → fin.get st.spaces s ≡ Some cells → ⊥
          nowhere s cells there = none_some (sym e ∙ ap (fin.get st.spaces) (sym (alone s (ap is_some there))) ∙ there)

  pub one_owner : (p n : ℕ) (c : Cell) → cell_at st 0 p ≡ Some c → number_of c ≡ Some n → owners number_of st n ≡ 1
  one_owner p n c here is = omega (arith, few_owners n, an_owner number_of n st 0 p c here is)
