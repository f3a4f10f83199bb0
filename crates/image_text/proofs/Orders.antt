-- Items in order, one behind another.
use Rattle.std.proofs.Common.{◌≡◌, ◌≢◌, ℕ, ◌+◌, ◌-◌, ◌*◌, ◌^◌, ◌<◌, ◌≤◌, Bool, true, false, not, List, [], ◌∷◌, ◌++◌, length, get_or, refl, sym, ap, subst, ◌∙◌, arith, ◌⊎◌, inl, inr}
use Rattle.std.specs.List.{All}
use Rattle.std.proofs.Math.Pow.{pow_mono}
use Rattle.std.specs.Prelude.{Option, Some, None, slice_get, nat_le, nat_lt}
use Rattle.std.specs.Option.{unwrap_or}
use Rattle.std.proofs.lemmas.Bool.{and_parts, ltb-true, false≢true}
use Rattle.std.proofs.lemmas.Option.{get_or_from_slice_get, slice_get_within}
use Rattle.std.proofs.lemmas.Bool.Decides.{nat_tests}
use Rattle.std.proofs.lemmas.List.{append_assoc, append-nil, length-append}
use Rattle.std.proofs.lemmas.List.Elements.{All-nil, All-cons, All-head, All-tail, All-append, All-push, All-weaker, All-get_or}
use Rattle.corten_base.specs.declared.numbers.Limits.{Limits}
use Rattle.corten_base.specs.declared.calls.Backing.{Backing}
use Rattle.corten_base.specs.declared.calls.Backing.TheVariants as backing
use Rattle.table_place.specs.Place.{is_user_range}
use Rattle.file_shelf.specs.Pages.{file_bytes}
use Rattle.mm_script.specs.CallLine.{IsBacking}
use Rattle.mm_script.specs.ScriptText.{IsFile, AreFiles}
use Rattle.image_text.specs.declared.image.Item.{Item}
use Rattle.image_text.specs.declared.image.Item.TheVariants.{Run, Page}
use Rattle.image_text.specs.Items.{first_of, count_of, end_of, bytes_of, Joins, IsTrimmed}
use Rattle.image_text.specs.Images.{ImageParts, IsNext, AreInOrder, IsBacked, IsRunBacking, IsPageOrigin, IsInBounds, MayFollow, IsImage}
use Rattle.image_text.specs.Reading.{IsSpelled, AreSmall, reach, IsPlaced}

-- ---- lists and their parts

module _ {A : Type 0} where
  no_cons : (x : A) (xs : List A) → [] ≢ x ∷ xs
  no_cons x xs same = cc

  no_middle : (xs ys : List A) (y : A) → [] ≢ xs ++ y ∷ ys
  no_middle [] ys y same = no_cons y ys same
  no_middle (x ∷ xs) ys y same = no_cons x (xs ++ y ∷ ys) same

  same_head : (x y : A) (xs ys : List A) → x ∷ xs ≡ y ∷ ys → x ≡ y
  same_head x y xs ys same = cc

  same_tail : (x y : A) (xs ys : List A) → x ∷ xs ≡ y ∷ ys → xs ≡ ys
  same_tail x y xs ys same = cc

  -- what stands somewhere in a list with one more stands in the list, or is the one
  pub last_or_earlier : (xs before after : List A) (x y : A) → xs ++ x ∷ [] ≡ before ++ y ∷ after → ((before ≡ xs) × (y ≡ x)) ⊎ ((rest : List A) × (xs ≡ before ++ y ∷ rest))
  last_or_earlier [] [] after x y same = inl (refl, sym (same_head x y [] after same))
  last_or_earlier [] (b ∷ before) after x y same = absurd (no_middle before after y (same_tail x b [] (before ++ y ∷ after) same))
  last_or_earlier (z ∷ xs) [] after x y same = inr (xs, ap (λ w. w ∷ xs) (same_head z y (xs ++ x ∷ []) after same))
  last_or_earlier (z ∷ xs) (b ∷ before) after x y same =
      let head : z ≡ b = same_head z b (xs ++ x ∷ []) (before ++ y ∷ after) same in
      elim (last_or_earlier xs before after x y (same_tail z b (xs ++ x ∷ []) (before ++ y ∷ after) same)) [
        | inl both ↦ inl (λ i. sym head i ∷ both.0 i, both.1)
        | inr more ↦ inr (more.0, λ i. head i ∷ more.1 i)
      ]

  pub same_last : (xs ys : List A) (x y : A) → xs ++ x ∷ [] ≡ ys ++ y ∷ [] → (xs ≡ ys) × (x ≡ y)
  same_last xs ys x y same = elim (last_or_earlier xs ys [] x y same) [
    | inl both ↦ (sym both.0, sym both.1)
    | inr more ↦ absurd (go more.0 more.1)
  ]
    where
      go : (rest : List A) → xs ≡ ys ++ y ∷ rest → ⊥
      go rest is =
          let long : length xs + 1 ≡ length ys + 1 = sym (length-append xs (x ∷ [])) ∙ ap length same ∙ length-append ys (y ∷ []) in
          let more : length xs ≡ length ys + length (y ∷ rest) = ap length is ∙ length-append ys (y ∷ rest) in
          omega (arith, long, more)

  -- a fact of each element, wherever it stands
  pub all_parts : (P : A → Type 0) (xs : List A) → ((before after : List A) (x : A) → xs ≡ before ++ x ∷ after → P x) → All P xs
  all_parts P [] each = All-nil P
  all_parts P (x ∷ xs) each = All-cons P x xs (each [] xs x refl) (all_parts P xs (λ before after y is. each (x ∷ before) after y (ap (λ ys. x ∷ ys) is)))

-- ---- the page behind the last one

pub reach_last : (items : List Item) (last : Item) → reach (items ++ last ∷ []) ≡ end_of last
reach_last [] last = refl
reach_last (item ∷ []) last = refl
reach_last (item ∷ next ∷ items) last = reach_last (next ∷ items) last

-- items are behind one another, so that all end where the last one does
pub in_order_front : (items : List Item) (item : Item) → AreInOrder (items ++ item ∷ []) → AreInOrder items
in_order_front items item ordered before after other is =
    ordered before (after ++ item ∷ []) other (ap (λ xs. xs ++ item ∷ []) is ∙ append_assoc before (other ∷ after) (item ∷ []))

behind_all : (items : List Item) (n : ℕ) (high : ℕ) → n ≤ high → All (λ other. end_of other ≤ n) items → All (λ other. end_of other ≤ high) items
behind_all items n high le h = All-weaker (λ (other : Item). end_of other ≤ n) (λ (other : Item). end_of other ≤ high) (λ other less. omega (arith, le, less)) items h

pub up_to_last : (items : List Item) (last : Item) → AreInOrder (items ++ last ∷ []) → All (λ other. end_of other ≤ end_of last) (items ++ last ∷ [])
up_to_last items last ordered =
    let here : IsNext items last = ordered items [] last refl in
    All-push (λ (other : Item). end_of other ≤ end_of last) items last (behind_all items (first_of last) (end_of last) (omega arith) here.behind) (omega arith)

-- ---- the next item

no_last : (earlier : List Item) (last : Item) → [] ≢ earlier ++ last ∷ []
no_last earlier last same = no_middle earlier [] last same

pub next_first : (item : Item) → 1 ≤ count_of item → IsTrimmed (bytes_of item) → IsNext [] item
next_first item some trimmed = record {
  some = some;
  behind = All-nil (λ (other : Item). end_of other ≤ first_of item);
  apart = λ earlier last same joins. no_last earlier last same;
  trimmed = trimmed;
}

pub next_behind : (items earlier : List Item) (last item : Item) → items ≡ earlier ++ last ∷ [] → AreInOrder items → 1 ≤ count_of item → IsTrimmed (bytes_of item) → end_of last ≤ first_of item → ¬ (Joins last item) → IsNext items item
next_behind items earlier last item is ordered some trimmed behind apart = record {
  some = some;
  behind = behind_all items (end_of last) (first_of item) behind
      (subst (All (λ (other : Item). end_of other ≤ end_of last)) (sym is) (up_to_last earlier last (subst AreInOrder is ordered)));
  apart = λ others other same. subst (λ x. ¬ (Joins x item)) (sym (same_last others earlier other last (sym same ∙ is)).1) apart;
  trimmed = trimmed;
}

pub last_behind : (items earlier : List Item) (last item : Item) → items ≡ earlier ++ last ∷ [] → IsNext items item → end_of last ≤ first_of item
last_behind items earlier last item is next =
    ends earlier (subst (All (λ (other : Item). end_of other ≤ first_of item)) is next.behind)
  where
    ends : (xs : List Item) → All (λ other. end_of other ≤ first_of item) (xs ++ last ∷ []) → end_of last ≤ first_of item
    ends [] h = All-head (λ (other : Item). end_of other ≤ first_of item) last [] h
    ends (x ∷ xs) h = ends xs (All-tail (λ (other : Item). end_of other ≤ first_of item) x (xs ++ last ∷ []) h)

pub reach_behind : (items : List Item) (item : Item) → IsNext items item → reach items ≤ first_of item
reach_behind items item next = go items next.behind
  where
    go : (xs : List Item) → All (λ other. end_of other ≤ first_of item) xs → reach xs ≤ first_of item
    go [] h = omega arith
    go (x ∷ []) h = All-head (λ (other : Item). end_of other ≤ first_of item) x [] h
    go (x ∷ y ∷ xs) h = go (y ∷ xs) (All-tail (λ (other : Item). end_of other ≤ first_of item) x (y ∷ xs) h)

-- a test that a run isn't joined
pub not_joined : (b : Bool) (P : Type 0) → (b ≡ true → P) × (P → b ≡ true) → not b ≡ true → ¬ P
not_joined false P h holds p = false≢true (h.1 p)
not_joined true P h holds p = false≢true holds

pub joined_not : (b : Bool) (P : Type 0) → (b ≡ true → P) × (P → b ≡ true) → ¬ P → not b ≡ true
joined_not false P h none = refl
joined_not true P h none = absurd (none (h.0 refl))

-- ---- the items of an image

pub image_in_order : (image : ImageParts) → IsImage image → AreInOrder image.items
image_in_order image h before after item is = (h.items before after item is).next

nine : (levels : ℕ) → levels ≤ 5 → 9 * levels - 1 ≤ 44
nine levels few = omega (arith, few)

-- user pages are pages of 44 bits
pub user_small : (levels first count : ℕ) → levels ≤ 5 → is_user_range levels first count ≡ true → first + count < 2 ^ 44
user_small levels first count few is =
    omega (arith, ltb-true (first + count) (2 ^ (9 * levels - 1)) (and_parts (nat_le 16 first) (nat_lt (first + count) (2 ^ (9 * levels - 1))) is).1, pow_mono (nine levels few))

pub image_small : (image : ImageParts) → IsImage image → AreSmall image.items
image_small image h = all_parts (λ (item : Item). end_of item < 2 ^ 44) image.items
    (λ before after item is. user_small image.limits.levels (first_of item) (count_of item) h.levels.1 (h.items before after item is).bounds.user)

run_spelled : (files : List (List ℕ)) (what : Backing) → AreFiles files → IsRunBacking files what → IsBacking what
run_spelled files backing.Zero h is = tt
run_spelled files (backing.File file index) h is = let few : length files ≤ 16 = h.count in ((omega arith, omega (arith, is.0, few)), omega (arith, is.1))

file_length : (files : List (List ℕ)) (file : ℕ) → All IsFile files → length (file_bytes files file) ≤ 65536
file_length files file h = go (slice_get files file) refl
  where
    go : (o : Option (List ℕ)) → slice_get files file ≡ o → length (unwrap_or (slice_get files file) []) ≤ 65536
    go None is = subst (λ r. length (unwrap_or r []) ≤ 65536) (sym is) (omega arith)
    go (Some bytes) is =
        let one : IsFile (get_or files file bytes) = All-get_or IsFile files file bytes (slice_get_within files file bytes is) h in
        subst (λ r. length (unwrap_or r []) ≤ 65536) (sym is) (subst (λ b. length b ≤ 65536) (get_or_from_slice_get files file bytes bytes is) one.size)

page_spelled : (files : List (List ℕ)) (what : Backing) → AreFiles files → IsPageOrigin files what → IsBacking what
page_spelled files backing.Zero h is = tt
page_spelled files (backing.File file index) h is =
    let few : length files ≤ 16 = h.count in
    ((omega arith, omega (arith, is.0, few)), omega (arith, is.1, file_length files file h.each))

pub may_spelled : (limits : Limits) (files : List (List ℕ)) (before : List Item) (item : Item) → limits.levels ≤ 5 → AreFiles files → MayFollow limits files before item → IsSpelled item
may_spelled limits files before (Run first count perm what) few h may =
    let small = user_small limits.levels first count few may.bounds.user in
    (omega (arith, small), omega (arith, small), run_spelled files what h may.bounds.backed)
may_spelled limits files before (Page page perm origin residence bytes) few h may =
    let small = user_small limits.levels page 1 few may.bounds.user in
    (omega (arith, small), page_spelled files origin h may.bounds.backed, may.bounds.size, may.bounds.fit)

pub image_spelled : (image : ImageParts) → IsImage image → All IsSpelled image.items
image_spelled image h = all_parts IsSpelled image.items (λ before after item is. may_spelled image.limits image.files before item h.levels.1 h.files (h.items before after item is))

-- one more item
pub more_items : (image : ImageParts) (item : Item) → IsImage image → MayFollow image.limits image.files image.items item →
    IsImage (record { limits = image.limits; files = image.files; items = image.items ++ item ∷ [] })
more_items image item h may = record { limits = h.limits; levels = h.levels; files = h.files; items = λ before after other is. go before after other (last_or_earlier image.items before after item other is) }
  where
    go : (before after : List Item) (other : Item) → ((before ≡ image.items) × (other ≡ item)) ⊎ ((rest : List Item) × (image.items ≡ before ++ other ∷ rest)) → MayFollow image.limits image.files before other
    go before after other (inl both) = subst (λ xs. MayFollow image.limits image.files xs other) (sym both.0) (subst (MayFollow image.limits image.files image.items) (sym both.1) may)
    go before after other (inr more) = h.items before more.0 other more.1

-- images without an item
pub no_items : (limits : Limits) (files : List (List ℕ)) (before after : List Item) (item : Item) → [] ≡ before ++ item ∷ after → MayFollow limits files before item
no_items limits files before after item same = absurd (no_middle before after item same)
