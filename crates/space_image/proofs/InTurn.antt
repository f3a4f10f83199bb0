-- All items in turn, from the state in which nothing is mapped.
--     image_facts      what the grammar says
--     phase      items of one kind, one after another
--     all_built      all calls of an image
--     restores      none is refused, and they leave the image's map but for numbers
use Rattle.std.proofs.Common.{◌≡◌, ℕ, ◌<◌, ◌≤◌, Bool, true, false, cond, List, [], ◌∷◌, ◌++◌, length, refl, sym, ap, subst, ◌∙◌, arith, inl, inr}
use mathlib.Core.Bool.{true≢false}
use Rattle.std.specs.Prelude.{Option, Some, None, All}
use Rattle.std.specs.Option.{option_map}
use Rattle.std.specs.List.{filter, flat_map}
use Rattle.std.specs.FinMap as map
use Rattle.std.proofs.lemmas.Grind.{flat_map-append}
use Rattle.std.proofs.lemmas.List.{append_assoc, length-append}
use Rattle.std.proofs.lemmas.List.Elements.{filter-append}
use Rattle.page_map.specs.declared.cell.Cell.{Cell}
use Rattle.page_map.specs.Memory.{is_refusal}
use Rattle.page_map.specs.State.{State, space_at, start}
use Rattle.space_image.proofs.Beginning.{image_facts, live_few, out_few, start_holds}
use Rattle.space_image.proofs.InOrder.{all_apart}
use Rattle.space_image.proofs.Covered.{found, found_is, found_item, get_cells, in_left, in_right}
use Rattle.space_image.proofs.PartSpans.{part_of}
use Rattle.space_image.proofs.UnusedNumbers.{in_filter}
use Rattle.image_text.specs.declared.image.Item.{Item}
use Rattle.image_text.specs.declared.image.Item.TheVariants.{Run, Page}
use Rattle.image_text.specs.declared.image.Residence.TheVariants.{Live, Out}
use Rattle.image_text.specs.Items.{AreEqualButForNumbers, cells_of, is_live, is_out, without_number}
use Rattle.image_text.specs.Images.{ImageParts, IsImage}
use Rattle.space_image.specs.Calls.{calls_of, in_turn, is_run, item_calls, left_by, replies_of}
use Rattle.space_image.proofs.Building.{Holds}
use Rattle.space_image.proofs.Covered.{In, in_either}
use Rattle.space_image.proofs.ItemSteps.{AreBuilt, ImageFacts, Room, item_built, nothing, some_then}

append_nothing : (xs : List Item) → xs ++ [] ≡ xs
append_nothing [] = refl
append_nothing (x ∷ xs) = ap (λ ys. x ∷ ys) (append_nothing xs)

-- ---- items of one kind

module _ (image : ImageParts) (facts : ImageFacts image) (base zs : List Item) (rooms : (before after : List Item) (x : Item) → zs ≡ before ++ x ∷ after → Room image (base ++ before) x) where
  from_here : (before rest : List Item) → zs ≡ before ++ rest → (st : State) → Holds image (base ++ before) st → AreBuilt image (base ++ zs) st (flat_map item_calls rest)
  from_here before [] e st holds = nothing image (base ++ zs) st (subst (λ ys. Holds image (base ++ ys) st) (sym (e ∙ append_nothing before)) holds)
  from_here before (x ∷ rest) e st holds =
      let one = item_built image facts (base ++ before) x (rooms before rest x e) st holds in
      some_then image (base ++ before ++ x ∷ []) (base ++ zs) st (item_calls x) (flat_map item_calls rest) one
      (from_here (before ++ x ∷ []) rest (e ∙ sym (append_assoc before (x ∷ []) rest)) (left_by st (item_calls x))
      (subst (λ ys. Holds image ys (left_by st (item_calls x))) (append_assoc base before (x ∷ [])) one.holds))

  pub phase : (st : State) → Holds image base st → AreBuilt image (base ++ zs) st (flat_map item_calls zs)
  phase st holds = from_here [] zs refl st (subst (λ ys. Holds image ys st) (sym (append_nothing base)) holds)

-- ---- kinds

out_not_live : (x : Item) → is_out x ≡ true → is_live x ≡ false
out_not_live (Run first count perm what) h = refl
out_not_live (Page page perm origin Live bytes) h = absurd (true≢false (sym h))
out_not_live (Page page perm origin Out bytes) h = refl

live_not_out : (x : Item) → is_live x ≡ true → is_out x ≡ false
live_not_out (Run first count perm what) h = refl
live_not_out (Page page perm origin Live bytes) h = refl
live_not_out (Page page perm origin Out bytes) h = absurd (true≢false (sym h))

run_not_out : (x : Item) → is_run x ≡ true → is_out x ≡ false
run_not_out (Run first count perm what) h = refl
run_not_out (Page page perm origin residence bytes) h = absurd (true≢false (sym h))

from_filter : (p : Item → Bool) (x : Item) (xs : List Item) → In x (filter p xs) → In x xs × (p x ≡ true)
from_filter p x [] h = absurd h
from_filter p x (y ∷ ys) h = go (p y) refl (from_filter p x ys) h
  where
    go : (b : Bool) → p y ≡ b → (In x (filter p ys) → In x ys × (p x ≡ true)) → In x (cond b (y ∷ filter p ys) (filter p ys)) → In x (y ∷ ys) × (p x ≡ true)
    go true e rest (inl same) = (inl same, ap p same ∙ e)
    go true e rest (inr later) = (let r = rest later in (inr r.0, r.1))
    go false e rest later = (let r = rest later in (inr r.0, r.1))

none_of : (p : Item → Bool) (xs : List Item) → ((x : Item) → In x xs → p x ≡ false) → length (filter p xs) ≡ 0
none_of p [] h = refl
none_of p (x ∷ xs) h = ap (λ b. length (cond b (x ∷ filter p xs) (filter p xs))) (h x (inl refl)) ∙ none_of p xs (λ y later. h y (inr later))

few_of : (p : Item → Bool) (xs : List Item) → length (filter p xs) ≤ length xs
few_of p [] = omega arith
few_of p (x ∷ xs) = go (p x) (few_of p xs)
  where
    go : (b : Bool) → length (filter p xs) ≤ length xs → length (cond b (x ∷ filter p xs) (filter p xs)) ≤ length (x ∷ xs)
    go true h = omega (arith, h)
    go false h = omega (arith, h)

in_middle : (x : Item) (before after : List Item) → In x (before ++ x ∷ after)
in_middle x before after = in_right x before (x ∷ after) (inl refl)

shorter : (before after : List Item) (x : Item) → length before < length (before ++ x ∷ after)
shorter before after x = omega (arith, length-append before (x ∷ after))

-- ---- all items

module _ (image : ImageParts) (right : IsImage image) where
  facts : ImageFacts image
  facts = image_facts image right

  abbrev outs : List Item
  outs = filter is_out image.items

  abbrev lives : List Item
  lives = filter is_live image.items

  abbrev runs : List Item
  runs = filter is_run image.items

  abbrev Splits : List Item → List Item → List Item → Item → Type 0
  Splits zs before after x = zs ≡ before ++ x ∷ after

  of_kind : (kind : Item → Bool) (before after : List Item) (x : Item) → filter kind image.items ≡ before ++ x ∷ after → In x image.items × (kind x ≡ true)
  of_kind kind before after x e = from_filter kind x image.items (subst (λ ys. In x ys) (sym e) (in_middle x before after))

  before_of_kind : (kind : Item → Bool) (before after : List Item) (x : Item) → filter kind image.items ≡ before ++ x ∷ after → (y : Item) → In y before → In y image.items × (kind y ≡ true)
  before_of_kind kind before after x e y h = from_filter kind y image.items (subst (λ ys. In y ys) (sym e) (in_left y before (x ∷ after) h))

  room_out : (before after : List Item) (x : Item) → outs ≡ before ++ x ∷ after → Room image before x
  room_out before after x e = record {
    listed = (of_kind is_out before after x e).0;
    made_listed = λ y h. (before_of_kind is_out before after x e y h).0;
    frame = λ kind. (let some = right.limits.frames.0 in
        omega (arith, some, none_of is_live before (λ y h. out_not_live y (before_of_kind is_out before after x e y h).1)));
    slot = λ kind. omega (arith, few_of is_out before, shorter before after x, ap length e, out_few image right);
  }

  room_live : (before after : List Item) (x : Item) → lives ≡ before ++ x ∷ after → Room image (outs ++ before) x
  room_live before after x e = record {
    listed = (of_kind is_live before after x e).0;
    made_listed = λ y h. (elim (in_either y outs before h) [
      | inl old ↦ (from_filter is_out y image.items old).0
      | inr new ↦ (before_of_kind is_live before after x e y new).0
    ]);
    frame = λ kind.
        omega (
          arith,
          ap length (filter-append is_live outs before),
          length-append (filter is_live outs) (filter is_live before),
          none_of is_live outs (λ y h. out_not_live y (from_filter is_out y image.items h).1),
          few_of is_live before,
          shorter before after x,
          ap length e,
          live_few image right,
        );
    slot = λ out. absurd (true≢false (sym out ∙ live_not_out x (of_kind is_live before after x e).1));
  }

  room_run : (before after : List Item) (x : Item) → runs ≡ before ++ x ∷ after → Room image (outs ++ lives ++ before) x
  room_run before after x e = record {
    listed = (of_kind is_run before after x e).0;
    made_listed = λ y h. (elim (in_either y (outs ++ lives) before h) [
      | inl pages ↦ elim (in_either y outs lives pages) [
        | inl out ↦ (from_filter is_out y image.items out).0
        | inr live ↦ (from_filter is_live y image.items live).0
      ]
      | inr new ↦ (before_of_kind is_run before after x e y new).0
    ]);
    frame = λ other. absurd (true≢false (sym (of_kind is_run before after x e).1 ∙ other));
    slot = λ out. absurd (true≢false (sym out ∙ run_not_out x (of_kind is_run before after x e).1));
  }

  pub all_built : AreBuilt image (in_turn image.items) (start image.limits image.files) (calls_of image.items)
  all_built =
      let st = start image.limits image.files in
      let first = phase image facts [] outs room_out st (start_holds image right) in
      let st1 = left_by st (flat_map item_calls outs) in
      let second = phase image facts outs lives room_live st1 first.holds in
      let both = some_then image outs (outs ++ lives) st (flat_map item_calls outs) (flat_map item_calls lives) first second in
      let st2 = left_by st (flat_map item_calls outs ++ flat_map item_calls lives) in
      let third = phase image facts (outs ++ lives) runs room_run st2 both.holds in
      subst (AreBuilt image (in_turn image.items) st)
      (sym (flat_map-append item_calls (outs ++ lives) runs ∙ ap (λ cs. cs ++ flat_map item_calls runs) (flat_map-append item_calls outs lives)))
      (some_then image (outs ++ lives) (outs ++ lives ++ runs) st (flat_map item_calls outs ++ flat_map item_calls lives) (flat_map item_calls runs) both third)

  -- in turn they are the same items
  pub back_in_items : (x : Item) → In x (in_turn image.items) → In x image.items
  back_in_items x h = elim (in_either x (outs ++ lives) runs h) [
    | inl pages ↦ elim (in_either x outs lives pages) [
      | inl out ↦ (from_filter is_out x image.items out).0
      | inr live ↦ (from_filter is_live x image.items live).0
    ]
    | inr run ↦ (from_filter is_run x image.items run).0
  ]

  into_turn : (x : Item) → In x image.items → In x (in_turn image.items)
  into_turn (Run first count perm what) h =
      in_right (Run first count perm what) (outs ++ lives) runs (in_filter is_run (Run first count perm what) image.items h refl)
  into_turn (Page page perm origin Live bytes) h =
      in_left (Page page perm origin Live bytes) (outs ++ lives) runs (in_right (Page page perm origin Live bytes) outs lives (in_filter is_live (Page page perm origin Live bytes) image.items h refl))
  into_turn (Page page perm origin Out bytes) h =
      in_left (Page page perm origin Out bytes) (outs ++ lives) runs (in_left (Page page perm origin Out bytes) outs lives (in_filter is_out (Page page perm origin Out bytes) image.items h refl))

  same_cells : (q : ℕ) → map.get (cells_of (in_turn image.items)) q ≡ map.get (cells_of image.items) q
  same_cells q = go (found image.items q) refl
    where
      go : (o : Option Cell) → found image.items q ≡ o → map.get (cells_of (in_turn image.items)) q ≡ map.get (cells_of image.items) q
      go None e = (part_of image.items facts.order (in_turn image.items) back_in_items).pages q e ∙ sym (get_cells image.items q ∙ e)
      go (Some c) e =
          let at = found_item image.items q c e in
          get_cells (in_turn image.items) q
          ∙ found_is image.items (all_apart None image.items facts.order) (in_turn image.items) back_in_items at.item q (into_turn at.item at.listed) at.covering
          ∙ sym (get_cells image.items q ∙ found_is image.items (all_apart None image.items facts.order) image.items (λ x h. h) at.item q at.listed at.covering)

  pub none_refused : All (λ r. is_refusal r ≡ false) (replies_of (start image.limits image.files) (calls_of image.items))
  none_refused = all_built.none_refused

  pub restores : AreEqualButForNumbers (cells_of image.items) (space_at (left_by (start image.limits image.files) (calls_of image.items)) 0)
  restores q = ap (option_map without_number) (sym (same_cells q)) ∙ all_built.holds.cells q
