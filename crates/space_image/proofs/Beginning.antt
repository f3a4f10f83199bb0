-- The state in which nothing is mapped, and what the grammar says of an image.
--     start_holds      what holds before any call
--     image_facts      the grammar's bounds, item by item
--     live_few, out_few      at most as many pages have frames as there are frames;  so it is with slots
use Rattle.std.proofs.Common.{◌≡◌, ℕ, ◌+◌, ◌≤◌, Bool, true, false, cond, not, ◌||◌, List, [], ◌∷◌, ◌++◌, length, refl, sym, ap, subst, ◌∙◌, arith, inl, inr}
use mathlib.Core.Bool.{true≢false}
use Rattle.std.specs.Prelude.{Option, Some, None, is_some, nat_eq}
use Rattle.std.specs.Option.{option_map, unwrap_or}
use Rattle.std.specs.List.{filter}
use Rattle.std.specs.Ordering.{eq_by_cmp, is_eq, nat_cmp}
use Rattle.std.specs.Cmp.{Equal-is, nat_cmp_total, tied_itself, unsigned_tied}
use Rattle.std.specs.FinMap as map
use Rattle.std.specs.FinMap.{get-empty, get-insert}
use Rattle.std.specs.FinSet as set
use Rattle.std.specs.FinSet.{contains-empty, contains-insert, len-empty}
use Rattle.std.proofs.lemmas.Bool.{eqb-true, or_left}
use Rattle.std.proofs.lemmas.List.Elements.{All-get_or}
use Rattle.std.proofs.lemmas.Option.{slice_get_cases}
use Rattle.corten_base.specs.declared.numbers.Limits.{Limits}
use Rattle.table_place.specs.declared.Place.{Place}
use Rattle.table_place.specs.Place.{place_cmp, root, span_count, span_first}
use Rattle.mm_script.specs.ScriptText.{IsFile}
use Rattle.page_map.specs.Alike.{unlike_tables}
use Rattle.page_map.specs.Cell.{AddressSpace, file_bytes}
use Rattle.page_map.specs.State.{cell_at, is_present, start}
use Rattle.page_map.proofs.Alike.{none_alike}
use Rattle.page_map.proofs.Places.{place_exact, place_total}
use Rattle.page_map.proofs.Start.{start_is_consistent}
use Rattle.page_map.proofs.TableLaws.{unlike_listed}
use Rattle.image_text.specs.declared.image.Item.{Item}
use Rattle.image_text.specs.Items.{cells_of, is_live, is_out, without_number}
use Rattle.image_text.specs.Images.{ImageParts, IsImage, MayFollow, unlike_count}
use Rattle.space_image.proofs.Building.{Holds, allowed, subset_len}
use Rattle.space_image.proofs.Covered.{In}
use Rattle.space_image.proofs.InOrder.{in_order}
use Rattle.space_image.proofs.ItemSteps.{ImageFacts}

-- ---- the start

module _ (limits : Limits) (files : List (List ℕ)) where
  only_space : (s : ℕ) → map.get (start limits files).spaces s ≡ cond (nat_eq s 0) (Some map.empty) None
  unfolding start
  only_space s = get-insert nat_cmp_total map.empty 0 map.empty s ∙ (λ i. cond (unsigned_tied s 0 i) (Some map.empty) (get-empty nat_cmp s i))

  no_cell : (p : ℕ) → cell_at (start limits files) 0 p ≡ None
  no_cell p = ap (λ (o : Option AddressSpace). map.get (unwrap_or o map.empty) p) (only_space 0) ∙ get-empty nat_cmp p

  only_present : (s : ℕ) → is_present (start limits files) s ≡ true → s ≡ 0
  only_present s h = go (nat_eq s 0) refl (sym (ap is_some (only_space s)) ∙ h)
    where
      go : (b : Bool) → nat_eq s 0 ≡ b → is_some {T = AddressSpace} (cond b (Some map.empty) None) ≡ true → s ≡ 0
      go true e h = eqb-true s 0 e
      go false e h = absurd (true≢false (sym h))

  only_table : (p : Place) → set.contains (start limits files).tables p ≡ true → p ≡ root limits.levels 0
  unfolding start
  only_table p h = go (eq_by_cmp place_cmp p (root limits.levels 0)) refl
      (sym (contains-insert place_total set.empty (root limits.levels 0) p ∙ ap (λ b. eq_by_cmp place_cmp p (root limits.levels 0) || b) (contains-empty place_cmp p)) ∙ h)
    where
      go : (b : Bool) → eq_by_cmp place_cmp p (root limits.levels 0) ≡ b → (b || false) ≡ true → p ≡ root limits.levels 0
      go true e h = place_exact p (root limits.levels 0) ((Equal-is (place_cmp p (root limits.levels 0))).0 e)
      go false e h = absurd (true≢false (sym h))

root_allowed : (image : ImageParts) → set.contains (allowed image) (root image.limits.levels 0) ≡ true
root_allowed image =
    contains-insert place_total (set.from_list (unlike_tables image.limits.levels 0 (cells_of image.items))) (root image.limits.levels 0) (root image.limits.levels 0)
    ∙ or_left _ _ (ap is_eq (tied_itself place_total (root image.limits.levels 0)))

pub start_holds : (image : ImageParts) → IsImage image → Holds image [] (start image.limits image.files)
unfolding start
start_holds image right = record {
  ok = start_is_consistent image.limits image.files right.levels.0 right.levels.1 right.limits.tables.0;
  limits = refl;
  files = refl;
  present = ap is_some (only_space image.limits image.files 0);
  alone = only_present image.limits image.files;
  tables = λ p h. subst (λ (q : Place). set.contains (allowed image) q ≡ true) (sym (only_table image.limits image.files p h)) (root_allowed image);
  cells = λ q. ap (option_map without_number) (get-empty nat_cmp q ∙ sym (no_cell image.limits image.files q));
}

-- ---- the grammar

pub in_split : (x : Item) (xs : List Item) → In x xs → (before : List Item) × (after : List Item) × (xs ≡ before ++ x ∷ after)
in_split x [] h = absurd h
in_split x (y ∷ ys) (inl same) = ([], ys, ap (λ z. z ∷ ys) (sym same))
in_split x (y ∷ ys) (inr later) = (let rest = in_split x ys later in (y ∷ rest.0, rest.1, ap (λ zs. y ∷ zs) rest.2))

data Ends (xs : List Item) : Type 0 where
  empty : xs ≡ [] → Ends xs
  last : (before : List Item) (x : Item) → xs ≡ before ++ x ∷ [] → Ends xs

ends : (xs : List Item) → Ends xs
ends [] = empty refl
ends (x ∷ xs) = go (ends xs)
  where
    go : Ends xs → Ends (x ∷ xs)
    go (empty e) = last [] x (ap (λ ys. x ∷ ys) e)
    go (last before y e) = last (x ∷ before) y (ap (λ ys. x ∷ ys) e)

nothing_unlike : (levels : ℕ) → unlike_count levels (cells_of []) ≤ 0
nothing_unlike levels = none (subset_len (set.from_list (unlike_tables levels 0 (cells_of []))) set.empty (λ p h.
    absurd (true≢false (sym (unlike_listed levels 0 (cells_of []) p h).3
    ∙ ap not (none_alike (cells_of []) (span_first p) (span_count p) (λ q low high. get-empty nat_cmp q)))))) (len-empty place_cmp)
  where
    none : {a b : ℕ} → a ≤ b → b ≡ 0 → a ≤ 0
    none h e = omega (arith, h, e)

module _ (image : ImageParts) (right : IsImage image) where
  pub of : (x : Item) → In x image.items → (before : List Item) × MayFollow image.limits image.files before x
  of x h = let at = in_split x image.items h in (at.0, right.items at.0 at.1 x at.2)

  room : 1 + unlike_count image.limits.levels (cells_of image.items) ≤ image.limits.tables
  room = go (ends image.items)
    where
      go : Ends image.items → 1 + unlike_count image.limits.levels (cells_of image.items) ≤ image.limits.tables
      go (empty e) = (let some = right.limits.tables.0 in
          omega (arith, ap (λ xs. unlike_count image.limits.levels (cells_of xs)) e, nothing_unlike image.limits.levels, some))
      go (last before x e) = subst (λ xs. 1 + unlike_count image.limits.levels (cells_of xs) ≤ image.limits.tables) (sym e) (right.items before [] x e).bounds.tables

  pub live_few : length (filter is_live image.items) ≤ image.limits.frames
  live_few = go (ends image.items)
    where
      go : Ends image.items → length (filter is_live image.items) ≤ image.limits.frames
      go (empty e) = omega (arith, ap (λ xs. length (filter is_live xs)) e)
      go (last before x e) = subst (λ xs. length (filter is_live xs) ≤ image.limits.frames) (sym e) (right.items before [] x e).bounds.live

  pub out_few : length (filter is_out image.items) ≤ image.limits.swap
  out_few = go (ends image.items)
    where
      go : Ends image.items → length (filter is_out image.items) ≤ image.limits.swap
      go (empty e) = omega (arith, ap (λ xs. length (filter is_out xs)) e)
      go (last before x e) = subst (λ xs. length (filter is_out xs) ≤ image.limits.swap) (sym e) (right.items before [] x e).bounds.out

  pub file_few : (file : ℕ) → length (file_bytes image.files file) ≤ 65536
  file_few file = elim (slice_get_cases image.files file).1 [
    | inl there ↦ (let size = (All-get_or IsFile image.files file there.0 there.1 right.files.each).size in
        omega (arith, ap (λ o. length (unwrap_or o [])) there.2, ap length there.3, size))
    | inr none ↦ omega (arith, ap (λ (o : Option (List ℕ)). length (unwrap_or o [])) none.1)
  ]

  pub image_facts : ImageFacts image
  image_facts = record {
    order = in_order image.items (λ before after x e. (right.items before after x e).next);
    some_levels = (let low = right.levels.0 in omega (arith, low));
    room = room;
    user = λ x h. (of x h).1.bounds.user;
    backed_by = λ x h. (of x h).1.bounds.backed;
    size = λ x h. (of x h).1.bounds.size;
    near = λ file index h. omega (arith, h, file_few file);
  }
