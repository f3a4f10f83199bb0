-- Digits in a base up to 16 with lower-case letters: from a number to its digits, and back.
use Rattle.std.proofs.Common.{◌≡◌, ◌≢◌, ℕ, zero, suc, ◌+◌, ◌-◌, ◌*◌, ◌/◌, ◌%◌, ◌^◌, ◌<◌, ◌≤◌, false, cond, ltb, List, [], ◌∷◌, ◌++◌, map, take, drop, length, get_or, eq-eqb, ne_eqb, ⊎_elim, append_assoc, refl, sym, ap, subst, ◌∙◌, arith}
use Rattle.std.specs.Fmt.{digits, digits_onto, digit_glyph}
use Rattle.std.specs.List.{All}
use Rattle.std.specs.Int.Digits.{digits_of, number_from_digits, number_from_digits_after}
use Rattle.std.proofs.Math.Nat.{div-lt_iff_lt-mul, mul-le-mul_left, pow-zero, pow-suc, pow-le-pow_left, pow-le-pow_right}
use Rattle.std.proofs.lemmas.Grind.{pow_more}
use Rattle.std.proofs.lemmas.Bool.{cases_eq}
use Rattle.std.proofs.lemmas.Bool.Decides.{nat_tests}
use Rattle.std.proofs.lemmas.Nat.{div-mul-add, mod-mul-add}
use Rattle.std.proofs.lemmas.List.{map-append, length-map, get_or-map, take_more, take_all, take-append-drop, take-map}
use Rattle.std.proofs.lemmas.List.Elements.{All-nil, All-cons, All-push, All-head, All-tail, All-from_recursion}
use Rattle.std.proofs.lemmas.Int.Digits.{digits_of_step, number_digits_of, all_below_base_digits_of, first_digits_of, number_after_ge, number_after_append, number_push, number_more}

-- the value of a digit
abbrev pub value_of : ℕ → ℕ
value_of c = cond (ltb c 58) (c - 48) (c - 87)

-- the digits of values
abbrev pub written : List ℕ → List ℕ
written ds = map (digit_glyph false) ds

abbrev pub values_of : List ℕ → List ℕ
values_of cs = map value_of cs

pub value_of-digit_glyph : (d : ℕ) → d < 16 → value_of (digit_glyph false d) ≡ d
value_of-digit_glyph d h = grind (arith, nat_tests)

pub digit_glyph_injective : (d e : ℕ) → d < 16 → e < 16 → digit_glyph false d ≡ digit_glyph false e → d ≡ e
digit_glyph_injective d e hd he q = sym (value_of-digit_glyph d hd) ∙ ap value_of q ∙ value_of-digit_glyph e he

-- a word is the digits of a number, none of them a leading zero
pub record IsNumeral (base : ℕ) (word : List ℕ) (n : ℕ) : Type 0 where
  pub values : List ℕ
  pub below : All (λ d. d < base) values
  pub spelled : word ≡ written values
  pub value : number_from_digits base values ≡ n
  pub nonempty : 0 < length values
  pub leading : get_or values 0 0 ≡ 0 → length values ≡ 1

-- digits_onto in steps
onto_last : (k base n : ℕ) (acc : List ℕ) → n / base ≡ 0 → digits_onto (suc k) base false n acc ≡ digit_glyph false (n % base) ∷ acc
onto_last k base n acc h = rw (eq-eqb (n / base) 0 h) refl

onto_more : (k base n : ℕ) (acc : List ℕ) → n / base ≢ 0 → digits_onto (suc k) base false n acc ≡ digits_onto k base false (n / base) (digit_glyph false (n % base) ∷ acc)
onto_more k base n acc h = rw (ne_eqb (n / base) 0 h) refl

-- the digits of a number above 0, the last one apart
written_step : (base n : ℕ) (acc : List ℕ) → 2 ≤ base → 0 < n → written (digits_of base n) ++ acc ≡ written (digits_of base (n / base)) ++ (digit_glyph false (n % base) ∷ acc)
written_step base n acc two pos =
    ap (λ ds. written ds ++ acc) (digits_of_step base n two pos)
    ∙ ap (λ ds. ds ++ acc) (map-append (digit_glyph false) (digits_of base (n / base)) (n % base ∷ []))
    ∙ append_assoc (written (digits_of base (n / base))) (digit_glyph false (n % base) ∷ []) acc

shrinks : (k base n : ℕ) → 2 ≤ base → n < base ^ suc k → n / base < base ^ k
shrinks k base n two small = (div-lt_iff_lt-mul {k = base} {x = n} {y = base ^ k} (omega arith)).1 (rw (← pow-suc base k) small)

onto_is : (k base n : ℕ) (acc : List ℕ) → 2 ≤ base → 0 < n → n < base ^ k → digits_onto k base false n acc ≡ written (digits_of base n) ++ acc
onto_is zero base n acc two pos small = absurd (omega (arith, pow-zero base))
onto_is (suc k) base n acc two pos small =
    ⊎_elim
    (λ (last : n / base ≡ 0). onto_last k base n acc last ∙ sym (written_step base n acc two pos ∙ ap (λ m. written (digits_of base m) ++ (digit_glyph false (n % base) ∷ acc)) last))
    (λ (more : n / base ≢ 0). onto_more k base n acc more
    ∙ onto_is k base (n / base) (digit_glyph false (n % base) ∷ acc) two (omega arith) (shrinks k base n two small)
    ∙ sym (written_step base n acc two pos))
    (cases_eq (n / base) 0)

-- after a digit there is room for one digit less
pub room_after : (n k : ℕ) → n < 16 ^ k → 0 < k → n / 16 < 16 ^ (k - 1)
room_after n zero small pos = absurd (omega arith)
room_after n (suc k) small pos = let less : k ≡ suc k - 1 = omega arith in subst (λ j. n / 16 < 16 ^ j) less (shrinks k 16 n (omega arith) small)

pub room_is : (n k : ℕ) → n < 16 ^ k → n ≢ 0 → 0 < k
room_is n zero small some = absurd (omega (arith, pow-zero 16))
room_is n (suc k) small some = omega arith

append_nothing : (ds : List ℕ) → ds ++ [] ≡ ds
append_nothing [] = refl
append_nothing (d ∷ ds) = ap (λ es. d ∷ es) (append_nothing ds)

-- `digits` closed again
digits_is_onto : (base n : ℕ) → digits base false n ≡ digits_onto 64 base false n []
unfolding digits
digits_is_onto base n = refl

pub digits-digits_of : (base n : ℕ) → 2 ≤ base → 0 < n → n < base ^ 64 → digits base false n ≡ written (digits_of base n)
digits-digits_of base n two pos small = digits_is_onto base n ∙ onto_is 64 base n [] two pos small ∙ append_nothing (written (digits_of base n))

pub digits-zero : (base : ℕ) → 2 ≤ base → digits base false 0 ≡ 48 ∷ []
digits-zero base two = digits_is_onto base 0 ∙ onto_last 63 base 0 [] (omega arith) ∙ ap (λ d. digit_glyph false d ∷ []) {x = 0 % base} {y = 0} (omega arith)

pub digits-one : (n : ℕ) → n < 10 → digits 10 false n ≡ digit_glyph false n ∷ []
digits-one n small =
    digits_is_onto 10 n ∙ onto_last 63 10 n [] (omega arith) ∙ ap (λ d. digit_glyph false d ∷ []) {x = n % 10} {y = n} (omega arith)

-- the last k hexadecimal digits of a number, at most, before what is written; closed, so that goals show it by name
pub digits_before : ℕ → ℕ → List ℕ → List ℕ
digits_before k n acc = digits_onto k 16 false n acc

pub digits_before-whole : (n : ℕ) (acc : List ℕ) → acc ≡ [] → digits_before 64 n acc ≡ digits 16 false n
unfolding digits_before
digits_before-whole n acc e = ap (digits_onto 64 16 false n) e ∙ sym (digits_is_onto 16 n)

pub digits_before-last : (k n : ℕ) (acc : List ℕ) → 0 < k → n / 16 ≡ 0 → digits_before k n acc ≡ digit_glyph false (n % 16) ∷ acc
unfolding digits_before
digits_before-last zero n acc pos h = absurd (omega arith)
digits_before-last (suc k) n acc pos h = onto_last k 16 n acc h

pub digits_before-more : (k j n : ℕ) (acc : List ℕ) → k ≡ j + 1 → n / 16 ≢ 0 → digits_before k n acc ≡ digits_before j (n / 16) (digit_glyph false (n % 16) ∷ acc)
unfolding digits_before
digits_before-more zero j n acc e h = absurd (omega arith)
digits_before-more (suc k) j n acc e h = onto_more k 16 n acc h ∙ ap (λ i. digits_onto i 16 false (n / 16) (digit_glyph false (n % 16) ∷ acc)) {x = k} {y = j} (omega arith)

-- one more digit
digits_of_push : (base m d : ℕ) → 2 ≤ base → d < base → 0 < m * base + d → digits_of base (m * base + d) ≡ digits_of base m ++ (d ∷ [])
digits_of_push base m d two small pos =
    digits_of_step base (m * base + d) two pos
    ∙ ap (λ q. digits_of base q ++ ((m * base + d) % base ∷ [])) (div-mul-add m base d small)
    ∙ ap (λ r. digits_of base m ++ (r ∷ [])) (mod-mul-add m base d small)

mul_above : (m base d : ℕ) → 0 < m → 2 ≤ base → 0 < m * base + d
mul_above m base d h two = grind arith

-- the number of a front of digits that don't begin with 0
record Front (base : ℕ) (ds : List ℕ) (i : ℕ) : Type 0 where
  again : digits_of base (number_from_digits base (take i ds)) ≡ take i ds
  above : 0 < i → 0 < number_from_digits base (take i ds)

front : (base : ℕ) (ds : List ℕ) → 2 ≤ base → All (λ d. d < base) ds → 0 < get_or ds 0 0 → (i : ℕ) → i ≤ length ds → Front base ds i
front base ds two below first zero inside = record { again = refl; above = λ h. absurd (omega arith) }
front base ds two below first (suc i) inside =
    let before = front base ds two below first i (omega arith) in
    let m : ℕ = number_from_digits base (take i ds) in
    let d : ℕ = get_or ds i 0 in
    let is : number_from_digits base (take (i + 1) ds) ≡ m * base + d = number_more base ds i (omega arith) in
    let above : 0 < m * base + d = ⊎_elim
    (λ (e : i ≡ 0). let h : d ≡ get_or ds 0 0 = ap (λ k. get_or ds k 0) e in omega arith)
    (λ (ne : i ≢ 0). let h : 0 < m = before.above (omega arith) in mul_above m base d h two)
    (cases_eq i 0) in
    let pushed : digits_of base (m * base + d) ≡ take (i + 1) ds = digits_of_push base m d two (below i 0 (omega arith)) above ∙ ap (λ es. es ++ (d ∷ [])) before.again ∙ sym (take_more ds i 0 (omega arith)) in
    let one : i + 1 ≡ suc i = omega arith in
    subst (Front base ds) one (record { again = ap (digits_of base) is ∙ pushed; above = λ h. rw is above })

-- digits that don't begin with 0 are those of their number
pub digits_of-number : (base : ℕ) (ds : List ℕ) → 2 ≤ base → All (λ d. d < base) ds → 0 < get_or ds 0 0 → digits_of base (number_from_digits base ds) ≡ ds
digits_of-number base ds two below first =
    let whole : take (length ds) ds ≡ ds = take_all (length ds) ds (omega arith) in
    rw whole at (front base ds two below first (length ds) (omega arith)).again

nonempty_from_first : (ds : List ℕ) → 0 < get_or ds 0 0 → 0 < length ds
nonempty_from_first [] h = absurd (omega arith)
nonempty_from_first (d ∷ ds) h = omega arith

above_from_digits : (base : ℕ) (ds : List ℕ) {n : ℕ} → 2 ≤ base → All (λ d. d < base) ds → 0 < get_or ds 0 0 → number_from_digits base ds ≡ n → 0 < n
above_from_digits base ds two below first is =
    let whole : take (length ds) ds ≡ ds = take_all (length ds) ds (omega arith) in
    let above : 0 < number_from_digits base ds = rw whole at ((front base ds two below first (length ds) (omega arith)).above (nonempty_from_first ds first)) in
    omega arith

just_zero : (base : ℕ) → number_from_digits base (0 ∷ []) ≡ 0
just_zero base = omega arith

numeral_zero : (base : ℕ) → 2 ≤ base → IsNumeral base (digits base false 0) 0
numeral_zero base two = record {
  values = 0 ∷ [];
  below = All-cons (λ d. d < base) 0 [] (omega arith) (All-nil (λ d. d < base));
  spelled = digits-zero base two;
  value = just_zero base;
  nonempty = omega arith;
  leading = λ _. refl;
}

numeral_above : (base n : ℕ) → 2 ≤ base → 0 < n → n < base ^ 64 → IsNumeral base (digits base false n) n
numeral_above base n two some fits = record {
  values = digits_of base n;
  below = All-from_recursion (λ d. d < base) (digits_of base n) (all_below_base_digits_of base n two);
  spelled = digits-digits_of base n two some fits;
  value = number_digits_of base n two;
  nonempty = nonempty_from_first (digits_of base n) (first_digits_of base n two some);
  leading = λ z. absurd (omega (arith, first_digits_of base n two some));
}

pub IsNumeral-digits : (base n : ℕ) → 2 ≤ base → n < base ^ 64 → IsNumeral base (digits base false n) n
IsNumeral-digits base n two fits =
    ⊎_elim
    (λ (none : n ≡ 0). subst (λ m. IsNumeral base (digits base false m) m) (sym none) (numeral_zero base two))
    (λ (some : n ≢ 0). numeral_above base n two (omega arith) fits)
    (cases_eq n 0)

-- the one digit of a numeral that begins with 0
one_digit : (ds : List ℕ) → length ds ≡ 1 → ds ≡ get_or ds 0 0 ∷ []
one_digit [] h = absurd (omega arith)
one_digit (d ∷ []) h = refl
one_digit (d ∷ e ∷ ds) h = absurd (omega arith)

pub digits_from_IsNumeral : (base n : ℕ) (word : List ℕ) → 2 ≤ base → n < base ^ 64 → IsNumeral base word n → word ≡ digits base false n
digits_from_IsNumeral base n word two fits h =
    ⊎_elim
    (λ (none : get_or h.values 0 0 ≡ 0).
    let only : h.values ≡ 0 ∷ [] = one_digit h.values (h.leading none) ∙ ap (λ d. d ∷ []) none in
    let zero_is : n ≡ 0 = sym h.value ∙ ap (number_from_digits base) only ∙ just_zero base in
    h.spelled ∙ ap written only ∙ sym (digits-zero base two) ∙ ap (digits base false) (sym zero_is))
    (λ (some : get_or h.values 0 0 ≢ 0).
    let same : digits_of base n ≡ h.values = ap (digits_of base) (sym h.value) ∙ digits_of-number base h.values two h.below (omega arith) in
    let above : 0 < n = above_from_digits base h.values two h.below (omega arith) h.value in
    h.spelled ∙ ap written (sym same) ∙ sym (digits-digits_of base n two above fits))
    (cases_eq (get_or h.values 0 0) 0)

-- a front of the word is digits of this base, and their number is this one
pub record HasRead (base : ℕ) (word : List ℕ) (i n : ℕ) : Type 0 where
  pub below : All (λ d. d < base) (values_of (take i word))
  pub spelled : take i word ≡ written (values_of (take i word))
  pub value : number_from_digits base (values_of (take i word)) ≡ n

pub HasRead-none : (base : ℕ) (word : List ℕ) → HasRead base word 0 0
HasRead-none base word = record { below = All-nil (λ d. d < base); spelled = refl; value = refl }

pub HasRead-more : (base : ℕ) (word : List ℕ) (i n d : ℕ) → base ≤ 16 → HasRead base word i n → i < length word → d < base → get_or word i 0 ≡ digit_glyph false d → HasRead base word (i + 1) (n * base + d)
HasRead-more base word i n d small h inside fits is =
    let c : ℕ = get_or word i 0 in
    let grown : take (i + 1) word ≡ take i word ++ (c ∷ []) = take_more word i 0 inside in
    let valued : value_of c ≡ d = ap value_of is ∙ value_of-digit_glyph d (omega arith) in
    let values : values_of (take (i + 1) word) ≡ values_of (take i word) ++ (d ∷ []) =
    ap values_of grown ∙ map-append value_of (take i word) (c ∷ []) ∙ ap (λ x. values_of (take i word) ++ (x ∷ [])) valued in
    record {
      below = rw values (All-push (λ x. x < base) (values_of (take i word)) d h.below fits);
      spelled = grown
          ∙ ap (λ cs. cs ++ (c ∷ [])) h.spelled
          ∙ ap (λ x. written (values_of (take i word)) ++ (x ∷ [])) is
          ∙ sym (map-append (digit_glyph false) (values_of (take i word)) (d ∷ []))
          ∙ ap written (sym values);
      value = rw values (number_push base (values_of (take i word)) d ∙ ap (λ x. x * base + d) h.value);
    }

pub below_power : (base n : ℕ) → 2 ≤ base → n < 2 ^ 64 → n < base ^ 64
below_power base n two fits = omega (arith, pow-le-pow_left {n = 2} {m = base} two 64)

glyph_at : (values : List ℕ) (i : ℕ) → i < length values → get_or (written values) i 0 ≡ digit_glyph false (get_or values i 0)
glyph_at values i inside = get_or-map (digit_glyph false) values i 0 0 inside

-- the whole word read, without a leading zero
pub digits_from_HasRead : (base : ℕ) (word : List ℕ) (n : ℕ) → 2 ≤ base → n < 2 ^ 64 → 0 < length word → (get_or word 0 0 ≡ 48 → length word ≤ 1) → HasRead base word (length word) n → word ≡ digits base false n
digits_from_HasRead base word n two fits nonempty leading h =
    let whole : take (length word) word ≡ word = take_all (length word) word (omega arith) in
    let values : List ℕ = values_of word in
    let spelled : word ≡ written values = rw whole at h.spelled in
    let same_length : length values ≡ length word = length-map word value_of in
    let inside : 0 < length values = omega arith in
    let first : get_or word 0 0 ≡ digit_glyph false (get_or values 0 0) = ap (λ cs. get_or cs 0 0) spelled ∙ glyph_at values 0 inside in
    digits_from_IsNumeral base n word two (below_power base n two fits) (record {
      values = values;
      below = rw whole at h.below;
      spelled = spelled;
      value = rw whole at h.value;
      nonempty = inside;
      leading = λ z. let short : length word ≤ 1 = leading (first ∙ ap (digit_glyph false) z) in omega arith;
    })

-- what a spelled word has at each place
pub record IsSpelled (base : ℕ) (word : List ℕ) (n : ℕ) : Type 0 where
  pub nonempty : 0 < length word
  pub leading : get_or word 0 0 ≡ 48 → length word ≡ 1
  pub digit : (i : ℕ) → i < length word → (d : ℕ) × (d < base) × (get_or word i 0 ≡ digit_glyph false d)
  pub bound : (i m d : ℕ) → i < length word → HasRead base word i m → d < 16 → get_or word i 0 ≡ digit_glyph false d → m * base + d ≤ n

pub weaker_base : (base : ℕ) (ds : List ℕ) → base ≤ 16 → All (λ d. d < base) ds → All (λ d. d < 16) ds
weaker_base base ds small h = λ k d inside. let at : get_or ds k d < base = h k d inside in omega arith

pub values_of-written : (values : List ℕ) → All (λ d. d < 16) values → values_of (written values) ≡ values
values_of-written [] h = refl
values_of-written (d ∷ values) h =
    ap (λ x. x ∷ values_of (written values)) (value_of-digit_glyph d (All-head (λ x. x < 16) d values h))
    ∙ ap (λ xs. d ∷ xs) (values_of-written values (All-tail (λ x. x < 16) d values h))

number_of_front : (base : ℕ) (ds : List ℕ) (i : ℕ) → 0 < base → number_from_digits base (take i ds) ≤ number_from_digits base ds
number_of_front base ds i pos =
    let split : number_from_digits base ds ≡ number_from_digits_after base (number_from_digits base (take i ds)) (drop i ds) =
    ap (number_from_digits base) (sym (take-append-drop i ds)) ∙ number_after_append base 0 (take i ds) (drop i ds) in
    omega (arith, number_after_ge base (number_from_digits base (take i ds)) (drop i ds) pos)

pub IsSpelled-digits : (base n : ℕ) (word : List ℕ) → 2 ≤ base → base ≤ 16 → n < 2 ^ 64 → word ≡ digits base false n → IsSpelled base word n
IsSpelled-digits base n word two small fits is =
    let numeral : IsNumeral base word n = subst (λ w. IsNumeral base w n) (sym is) (IsNumeral-digits base n two (below_power base n two fits)) in
    let values : List ℕ = numeral.values in
    let same_length : length word ≡ length values = ap length numeral.spelled ∙ length-map values (digit_glyph false) in
    let at : (i : ℕ) → i < length values → get_or word i 0 ≡ digit_glyph false (get_or values i 0) =
    λ i inside. ap (λ cs. get_or cs i 0) numeral.spelled ∙ glyph_at values i inside in
    let low : All (λ d. d < 16) values = λ k d inside. let h : get_or values k d < base = numeral.below k d inside in omega arith in
    let back : values_of word ≡ values = ap values_of numeral.spelled ∙ values_of-written values low in
    record {
      nonempty = let h : 0 < length values = numeral.nonempty in omega arith;
      leading = λ z.
          let none : get_or values 0 0 ≡ 0 = digit_glyph_injective (get_or values 0 0) 0 (low 0 0 numeral.nonempty) (omega arith) (sym (at 0 numeral.nonempty) ∙ z) in
          let one : length values ≡ 1 = numeral.leading none in
          omega arith;
      digit = λ i inside. let h : i < length values = omega arith in (get_or values i 0, numeral.below i 0 h, at i h);
      bound = λ i m d inside read fits16 digit_is.
          let h : i < length values = omega arith in
          let last : get_or values i 0 ≡ d = digit_glyph_injective (get_or values i 0) d (low i 0 h) fits16 (sym (at i h) ∙ digit_is) in
          let front : values_of (take i word) ≡ take i values = sym (take-map value_of i word) ∙ ap (take i) back in
          let more : number_from_digits base (take (i + 1) values) ≡ m * base + d =
          number_more base values i h ∙ ap (λ x. x * base + get_or values i 0) (ap (number_from_digits base) (sym front) ∙ read.value) ∙ ap (λ x. m * base + x) last in
          let v : number_from_digits base values ≡ n = numeral.value in
          omega (arith, number_of_front base values (i + 1) (omega arith));
    }

-- a number of few digits with one more digit fits
pub few_more : (n base d i : ℕ) → base ≤ 16 → d < base → n < 16 ^ i → n * base + d < 16 ^ (i + 1)
few_more n base d i small below fits =
    let wider : n * base ≤ n * 16 = mul-le-mul_left n small in
    let more : 16 ^ (i + 1) ≡ 16 ^ i * 16 = pow_more 16 i in
    omega (arith, wider, more)

pub few_fit : (n i : ℕ) → i ≤ 16 → n < 16 ^ i → n < 2 ^ 64
few_fit n i few fits =
    let most : 16 ^ i ≤ 16 ^ 16 = pow-le-pow_right (omega arith) few in
    omega (arith, most)

pub few_more_fit : (n base d i : ℕ) → base ≤ 16 → d < base → i < 16 → n < 16 ^ i → n * base + d < 2 ^ 64
few_more_fit n base d i small below few fits = few_fit (n * base + d) (i + 1) (omega arith) (few_more n base d i small below fits)
