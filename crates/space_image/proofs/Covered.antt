-- What items have at a page: that of the item which covers the page.
--     covers      whether an item has a page
--     found      what the last of some items that has a page has there
--     get_put_all      items that are put into a map are found there
--     In, AreApart      an item of a list;  items of which no two have a page in common
use Rattle.std.proofs.Common.{◌≡◌, ℕ, Bool, true, false, cond, List, [], ◌∷◌, ◌++◌, refl, sym, ap, ◌∙◌, ◌⊎◌, inl, inr}
use mathlib.Core.Bool.{true≢false}
use Rattle.std.specs.Prelude.{Option, Some, None, is_some}
use Rattle.std.specs.Option.{option_or}
use Rattle.std.specs.Ordering.{nat_cmp}
use Rattle.std.specs.FinMap.{empty, get, get-empty}
use Rattle.table_place.specs.Range.{within}
use Rattle.page_map.specs.declared.cell.Cell.{Cell}
use Rattle.page_map.specs.Cell.{AddressSpace}
use Rattle.page_map.proofs.Range.{get-change}
use Rattle.image_text.specs.declared.image.Item.{Item}
use Rattle.image_text.specs.Items.{first_of, count_of, cell_at, put, put_all, cells_of}

abbrev pub covers : Item → ℕ → Bool
covers i q = within (first_of i) (count_of i) q

abbrev pub has_at : Item → ℕ → Option Cell
has_at i q = cond (covers i q) (Some (cell_at i q)) None

unfoldable pub found : List Item → ℕ → Option Cell
found [] q = None
found (i ∷ is) q = option_or (found is q) (has_at i q)

pub get_put_all : (is : List Item) (cells : AddressSpace) (q : ℕ) → get (put_all is cells) q ≡ option_or (found is q) (get cells q)
unfolding found
get_put_all [] cells q = refl
get_put_all (i ∷ is) cells q =
    get_put_all is (put i cells) q
    ∙ ap (option_or (found is q)) (get-change cells (first_of i) (count_of i) (λ page _. Some (cell_at i page)) q)
    ∙ go (found is q) (covers i q)
  where
    go : (o : Option Cell) (b : Bool) → option_or o (cond b (Some (cell_at i q)) (get cells q)) ≡ option_or (option_or o (cond b (Some (cell_at i q)) None)) (get cells q)
    go (Some c) b = refl
    go None true = refl
    go None false = refl

or_none : (o : Option Cell) → option_or o None ≡ o
or_none None = refl
or_none (Some c) = refl

pub get_cells : (is : List Item) (q : ℕ) → get (cells_of is) q ≡ found is q
get_cells is q = get_put_all is empty q ∙ ap (option_or (found is q)) (get-empty nat_cmp q) ∙ or_none (found is q)

pub found_more : (is : List Item) (i : Item) (q : ℕ) → found (is ++ i ∷ []) q ≡ option_or (has_at i q) (found is q)
unfolding found
found_more [] i q = sym (or_none (has_at i q))
found_more (j ∷ is) i q = ap (λ o. option_or o (has_at j q)) (found_more is i q) ∙ go (has_at i q) (found is q)
  where
    go : (a b : Option Cell) → option_or (option_or a b) (has_at j q) ≡ option_or a (option_or b (has_at j q))
    go None b = refl
    go (Some c) b = refl

-- ---- the items of a list

abbrev pub In : Item → List Item → Type 0
In x [] = ⊥
In x (y ∷ ys) = (x ≡ y) ⊎ In x ys

pub in_left : (x : Item) (xs ys : List Item) → In x xs → In x (xs ++ ys)
in_left x [] ys h = absurd h
in_left x (z ∷ xs) ys (inl same) = inl same
in_left x (z ∷ xs) ys (inr later) = inr (in_left x xs ys later)

pub in_right : (x : Item) (xs ys : List Item) → In x ys → In x (xs ++ ys)
in_right x [] ys h = h
in_right x (z ∷ xs) ys h = inr (in_right x xs ys h)

pub in_either : (x : Item) (xs ys : List Item) → In x (xs ++ ys) → In x xs ⊎ In x ys
in_either x [] ys h = inr h
in_either x (z ∷ xs) ys (inl same) = inl (inl same)
in_either x (z ∷ xs) ys (inr later) = elim (in_either x xs ys later) [
  | inl a ↦ inl (inr a)
  | inr b ↦ inr b
]

some_some : {A : Type 0} {x y : A} → ◌≡◌ {A = Option A} (Some x) (Some y) → x ≡ y
some_some e = cc

none_some : {A : Type 0} {x : A} → ◌≡◌ {A = Option A} None (Some x) → ⊥
none_some e = cc

pub record IsFound (items : List Item) (q : ℕ) (c : Cell) : Type 0 where
  pub item : Item
  pub listed : In item items
  pub covering : covers item q ≡ true
  pub is : cell_at item q ≡ c

pub found_item : (is : List Item) (q : ℕ) (c : Cell) → found is q ≡ Some c → IsFound is q c
unfolding found
found_item [] q c e = absurd (none_some e)
found_item (i ∷ is) q c e = go (found_item is q c) (found is q) refl (covers i q) refl e
  where
    go : (found is q ≡ Some c → IsFound is q c) → (o : Option Cell) → found is q ≡ o → (b : Bool) → covers i q ≡ b → option_or o (cond b (Some (cell_at i q)) None) ≡ Some c → IsFound (i ∷ is) q c
    go rec (Some d) has b cov h =
        let rest = rec (has ∙ h) in
        record { item = rest.item; listed = inr rest.listed; covering = rest.covering; is = rest.is }
    go rec None has true cov h = record { item = i; listed = inl refl; covering = cov; is = some_some h }
    go rec None has false cov h = absurd (none_some h)

pub found_some : (is : List Item) (x : Item) (q : ℕ) → In x is → covers x q ≡ true → is_some (found is q) ≡ true
unfolding found
found_some [] x q h cov = absurd h
found_some (i ∷ is) x q (inl same) cov = go (found is q)
  where
    go : (o : Option Cell) → is_some (option_or o (has_at i q)) ≡ true
    go (Some c) = refl
    go None = ap (λ b. is_some {T = Cell} (cond b (Some (cell_at i q)) None)) (sym (ap (λ y. covers y q) same) ∙ cov)
found_some (i ∷ is) x q (inr later) cov = go (found is q) (found_some is x q later cov)
  where
    go : (o : Option Cell) → is_some o ≡ true → is_some (option_or o (has_at i q)) ≡ true
    go (Some c) h = refl
    go None h = absurd (true≢false (sym h))

pub not_covered : (is : List Item) (x : Item) (q : ℕ) → found is q ≡ None → In x is → covers x q ≡ false
not_covered is x q none listed = go (covers x q) refl
  where
    go : (b : Bool) → covers x q ≡ b → b ≡ false
    go false e = refl
    go true e = absurd (true≢false (sym (found_some is x q listed e) ∙ ap is_some none))

-- no two have a page in common
abbrev pub AreApart : List Item → Type 0
AreApart is = (x y : Item) (q : ℕ) → In x is → In y is → covers x q ≡ true → covers y q ≡ true → x ≡ y

-- items of those of which no two have a page in common
module _ (all : List Item) (apart : AreApart all) (some : List Item) (part : (x : Item) → In x some → In x all) where
  pub found_is : (x : Item) (q : ℕ) → In x some → covers x q ≡ true → found some q ≡ Some (cell_at x q)
  found_is x q listed cov = go (found some q) refl
    where
      go : (o : Option Cell) → found some q ≡ o → o ≡ Some (cell_at x q)
      go None e = absurd (true≢false (sym (found_some some x q listed cov) ∙ ap is_some e))
      go (Some c) e =
          let at = found_item some q c e in
          ap Some (sym at.is ∙ ap (λ y. cell_at y q) (apart at.item x q (part at.item at.listed) (part x listed) at.covering cov))
