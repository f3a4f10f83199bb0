-- What is counted of an image, and which item may follow.
use Rattle.std.proofs.Common.{◌≡◌, ◌≢◌, ℕ, ◌+◌, ◌-◌, ◌<◌, ◌≤◌, Bool, true, false, List, [], ◌∷◌, ◌++◌, length, map, refl, sym, ap, subst, ◌∙◌, arith, ◌⊎◌, inl, inr}
use Rattle.std.specs.Prelude.{Result, Ok, Err, IfOk}
use Rattle.std.specs.Bool.{OnTrue, OnFalse}
use Rattle.std.specs.List.{All, filter}
use Rattle.std.specs.Ordering.{nat_cmp}
use Rattle.page_map.specs.declared.cell.Cell.{Cell}
use Rattle.std.specs.FinMap as fin
use Rattle.std.specs.FinSet as set
use Rattle.std.specs.FinSet.{len-empty}
use Rattle.std.proofs.lemmas.List.Elements.{All-nil}
use Rattle.corten_base.specs.declared.numbers.Limits.{Limits}
use Rattle.table_place.specs.Place.{place_cmp, above}
use Rattle.std.specs.List.{flat_map}
use Rattle.page_map.specs.Alike.{is_unlike, unlike_tables}
use Rattle.page_map.proofs.Evaluate.{entries_empty}
use Rattle.image_text.specs.declared.image.Item.{Item}
use Rattle.image_text.specs.declared.image.Item.TheVariants.{Run, Page}
use Rattle.image_text.specs.declared.tally.Tally.{Tally}
use Rattle.image_text.specs.Items.{bytes_of, is_live, is_out, cells_of}
use Rattle.image_text.specs.Images.{ImageParts, unlike_count, IsInBounds, MayFollow, IsImage}
use Rattle.image_text.specs.ImageText.{item_line}
use Rattle.image_text.specs.Reading.{IsSpelled, AreSmall, IsTally, IsDraft, Fits, IsPlaced, NoFileHere, IsNextItem, IsAdded, IsNoLine}
use Rattle.image_text.proofs.Orders.{image_small, may_spelled, more_items}
use Rattle.image_text.proofs.Beginnings.{only_limits_are}
use Rattle.mm_script.specs.CallLine.{IsWithin}
use Rattle.mm_script.specs.ScriptText.{AreLimits}
use Rattle.image_text.proofs.OneItem.{item_line_injective}
use Rattle.image_text.proofs.Unlikes.{last_or_none}

pub small_items : (image : ImageParts) (xs : List Item) → IsImage image → xs ≡ image.items → AreSmall xs
small_items image xs h is = subst AreSmall (sym is) (image_small image h)

-- no page wants no table
no_keys : fin.keys (cells_of []) ≡ []
no_keys = ap (map (λ (e : ℕ × Cell). e.0)) (entries_empty {K = ℕ} {X = Cell} nat_cmp)

pub none_unlike : (levels : ℕ) → unlike_count levels (cells_of []) ≡ 0
unfolding unlike_tables
none_unlike levels =
    ap (λ ks. set.len (set.from_list {R = place_cmp} (filter (is_unlike (cells_of [])) (flat_map (λ page. above (levels - 1) 0 page 1) ks)))) no_keys
    ∙ len-empty place_cmp

pub none_counted : (levels : ℕ) (items : List Item) → items ≡ [] → IsTally levels items (record { live = 0; out = 0; tables = 1 })
none_counted levels items is = record {
  live = sym (ap (λ xs. length (filter is_live xs)) is);
  out = sym (ap (λ xs. length (filter is_out xs)) is);
  tables = sym (ap (λ xs. 1 + unlike_count levels (cells_of xs)) is ∙ ap (λ n. 1 + n) (none_unlike levels));
}

-- what is counted of an image is within its limits
pub image_fits : (image : ImageParts) (tally : Tally) → IsImage image → IsTally image.limits.levels image.items tally → Fits image.limits tally
image_fits image tally h t = go (last_or_none image.items)
  where
    go : (image.items ≡ []) ⊎ ((earlier : List Item) × (last : Item) × (image.items ≡ earlier ++ last ∷ [])) → Fits image.limits tally
    go (inl none) =
        let zero = none_counted image.limits.levels image.items none in
        let live : tally.live ≡ 0 = t.live ∙ sym zero.live in
        let out : tally.out ≡ 0 = t.out ∙ sym zero.out in
        let tables : tally.tables ≡ 1 = t.tables ∙ sym zero.tables in
        record { live = omega (arith, live); out = omega (arith, out); tables = (let some = h.limits.tables.0 in omega (arith, tables, some)) }
    go (inr found) =
        let last : IsInBounds image.limits image.files found.0 found.1 = (h.items found.0 [] found.1 found.2).bounds in
        record {
          live = subst (λ n. n ≤ image.limits.frames) (sym (t.live ∙ ap (λ xs. length (filter is_live xs)) found.2)) last.live;
          out = subst (λ n. n ≤ image.limits.swap) (sym (t.out ∙ ap (λ xs. length (filter is_out xs)) found.2)) last.out;
          tables = subst (λ n. n ≤ image.limits.tables) (sym (t.tables ∙ ap (λ xs. 1 + unlike_count image.limits.levels (cells_of xs)) found.2)) last.tables;
        }

pub few_counted : (image : ImageParts) (tally : Tally) → IsImage image → IsTally image.limits.levels image.items tally → (tally.live ≤ 4096) × (tally.out ≤ 4096) × (tally.tables ≤ 1023)
few_counted image tally h t =
    let f = image_fits image tally h t in
    let live = f.live in let out = f.out in let tables = f.tables in
    let a = h.limits.frames.1 in let b = h.limits.swap.1 in let c = h.limits.tables.1 in
    (omega (arith, live, a), omega (arith, out, b), omega (arith, tables, c))

-- an item that is placed, and fits
spelled_size : (item : Item) → IsSpelled item → length (bytes_of item) ≤ 4096
spelled_size (Run first count perm what) h = omega arith
spelled_size (Page page perm origin residence bytes) h = h.2

spelled_fit : (item : Item) → IsSpelled item → All (λ b. b < 256) (bytes_of item)
spelled_fit (Run first count perm what) h = All-nil (λ b. b < 256)
spelled_fit (Page page perm origin residence bytes) h = h.3

module _ (image : ImageParts) (item : Item) (tally : Tally) (spelled : IsSpelled item) (counted : IsTally image.limits.levels (image.items ++ item ∷ []) tally) where
  pub may_follow : IsPlaced image item → Fits image.limits tally → MayFollow image.limits image.files image.items item
  may_follow placed fits = record {
    next = placed.next;
    bounds = record {
      user = placed.user;
      backed = placed.backed;
      size = spelled_size item spelled;
      fit = spelled_fit item spelled;
      live = subst (λ n. n ≤ image.limits.frames) counted.live fits.live;
      out = subst (λ n. n ≤ image.limits.swap) counted.out fits.out;
      tables = subst (λ n. n ≤ image.limits.tables) counted.tables fits.tables;
    };
  }

  pub follow_fits : MayFollow image.limits image.files image.items item → Fits image.limits tally
  follow_fits may = record {
    live = subst (λ n. n ≤ image.limits.frames) (sym counted.live) may.bounds.live;
    out = subst (λ n. n ≤ image.limits.swap) (sym counted.out) may.bounds.out;
    tables = subst (λ n. n ≤ image.limits.tables) (sym counted.tables) may.bounds.tables;
  }

pub follow_placed : (image : ImageParts) (item : Item) → MayFollow image.limits image.files image.items item → IsPlaced image item
follow_placed image item may = record { user = may.bounds.user; next = may.next; backed = may.bounds.backed }

-- a line that is no item's
pub no_item_line : (image : ImageParts) (line : List ℕ) → IsImage image → ((item : Item) → IsSpelled item → line ≢ item_line item) → (item : Item) → MayFollow image.limits image.files image.items item → line ≢ item_line item
no_item_line image line h none item may = none item (may_spelled image.limits image.files image.items item h.levels.1 h.files may)

-- limits alone
pub new_draft : (limits : Limits) (files : List (List ℕ)) (items : List Item) → AreLimits limits → IsWithin 4 5 limits.levels → files ≡ [] → items ≡ [] → IsDraft (record { limits = limits; files = files; items = items }) (record { live = 0; out = 0; tables = 1 })
new_draft limits files items h levels no_files no_items = record {
  right = subst IsImage (λ i. record { limits = limits; files = sym no_files i; items = sym no_items i }) (only_limits_are limits h levels);
  counted = none_counted limits.levels items no_items;
}

-- an item more
pub more_draft : (image : ImageParts) (item : Item) (tally : Tally) (items : List Item) → IsImage image → IsSpelled item → IsPlaced image item → IsTally image.limits.levels (image.items ++ item ∷ []) tally → Fits image.limits tally → items ≡ image.items ++ item ∷ []
    → IsDraft (record { limits = image.limits; files = image.files; items = items }) tally
more_draft image item tally items h spelled placed counted fits is = subst (λ xs. IsDraft (record { limits = image.limits; files = image.files; items = xs }) tally) (sym is) (record {
  right = more_items image item h (may_follow image item tally spelled counted placed fits);
  counted = counted;
})

-- ---- the answer to a line

module _ {E : Type 0} where
  pub if_taken : (r : Result Bool E) (P Q : Type 0) → (P → Q) → IfOk r (λ taken. OnTrue taken P) → IfOk r (λ taken. OnTrue taken Q)
  if_taken (Ok true) P Q more h = more h
  if_taken (Ok false) P Q more h = tt
  if_taken (Err e) P Q more h = tt

  pub if_not_taken : (r : Result Bool E) (P Q : Type 0) → (P → Q) → IfOk r (λ taken. OnFalse taken P) → IfOk r (λ taken. OnFalse taken Q)
  if_not_taken (Ok true) P Q more h = tt
  if_not_taken (Ok false) P Q more h = more h
  if_not_taken (Err e) P Q more h = tt

-- an item that is read, and may not follow
pub refused_line : (image : ImageParts) (line : List ℕ) (item : Item) → IsImage image → NoFileHere image line → IsSpelled item → line ≡ item_line item → ¬ (MayFollow image.limits image.files image.items item) → IsNoLine image line
refused_line image line item h no_file spelled is refused = record {
  no_file = no_file;
  no_item = λ other may same.
      let one : item ≡ other = item_line_injective item other spelled (may_spelled image.limits image.files image.items other h.levels.1 h.files may) (sym is ∙ same) in
      refused (subst (MayFollow image.limits image.files image.items) (sym one) may);
}
