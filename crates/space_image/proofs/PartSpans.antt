-- Spans that are alike in an image are alike in each map that comes on the way to it: a run is there whole or not at all,
-- and no page with a number is in such a span.
--     on_without, alike_same      maps that differ in numbers alone go on alike, and have the same spans that are alike
--     IsPartOf      a map on the way to that of some items
--     alike_kept      a span that is alike in the map of all items is alike in it
--     part_of, part_over      items of an image, and one more in the place of another, are such a map
use Rattle.std.proofs.Common.{◌≡◌, ℕ, zero, suc, ◌+◌, ◌-◌, ◌<◌, ◌≤◌, Bool, true, false, cond, List, [], ◌∷◌, ◌++◌, refl, sym, ap, subst, ◌∙◌, arith, ◌⊎◌, inl, inr}
use mathlib.Core.Bool.{true≢false}
use Rattle.std.specs.Prelude.{Option, Some, None, is_some}
use Rattle.std.specs.Option.{option_map, option_or}
use Rattle.std.specs.FinMap.{get}
use Rattle.std.proofs.lemmas.Bool.{cases_lt}
use Rattle.corten_base.specs.declared.permissions.Perm.{Perm}
use Rattle.corten_base.specs.declared.calls.Backing.{Backing}
use Rattle.page_map.specs.declared.cell.Cell.{Cell}
use Rattle.page_map.specs.declared.cell.Cell.TheVariants.{Anon, File, Mapped, Swapped}
use Rattle.page_map.specs.Cell.{AddressSpace, backed}
use Rattle.page_map.specs.Alike.{continues, is_alike}
use Rattle.page_map.proofs.Alike.{alike_at, alike_from, alike_unnumbered, has_no_number, none_alike, part_alike, same_alike}
use Rattle.table_place.proofs.Tables.{to_range}
use Rattle.image_text.specs.declared.image.Item.{Item}
use Rattle.image_text.specs.declared.image.Item.TheVariants.{Run, Page}
use Rattle.image_text.specs.declared.image.Residence.{Residence}
use Rattle.image_text.specs.declared.image.Residence.TheVariants.{Live, Out}
use Rattle.image_text.specs.Items.{AreEqualButForNumbers, cell_at, cells_of, count_of, first_of, kept, whole, without_number}
use Rattle.space_image.specs.Calls.{is_run}
use Rattle.space_image.proofs.Covered.{In, covers, found, found_is, found_item, found_more, found_some, get_cells, not_covered}
use Rattle.space_image.proofs.InOrder.{InOrder, all_apart, run_stops, some_pages, starts_in}

-- ---- numbers are of no account

pub on_without : (a : Option Cell) (i : ℕ) (b : Option Cell) → continues (option_map without_number a) i (option_map without_number b) ≡ continues a i b
on_without None i None = refl
on_without None i (Some c) = refl
on_without (Some (Anon perm)) i None = refl
on_without (Some (Anon perm)) i (Some (Anon later)) = refl
on_without (Some (Anon perm)) i (Some (File later file index)) = refl
on_without (Some (Anon perm)) i (Some (Mapped later origin frame bytes)) = refl
on_without (Some (Anon perm)) i (Some (Swapped later origin slot bytes)) = refl
on_without (Some (File perm file index)) i None = refl
on_without (Some (File perm file index)) i (Some (Anon later)) = refl
on_without (Some (File perm file index)) i (Some (File later other at)) = refl
on_without (Some (File perm file index)) i (Some (Mapped later origin frame bytes)) = refl
on_without (Some (File perm file index)) i (Some (Swapped later origin slot bytes)) = refl
on_without (Some (Mapped perm origin frame bytes)) i b = refl
on_without (Some (Swapped perm origin slot bytes)) i b = refl

pub alike_same : (a b : AddressSpace) (first count : ℕ) → AreEqualButForNumbers a b → is_alike a first count ≡ true → is_alike b first count ≡ true
alike_same a b first count same h = alike_from b first count (λ q low high.
    sym (on_without (get b first) (q - first) (get b q))
    ∙ (λ i. continues (sym (same first) i) (q - first) (sym (same q) i))
    ∙ on_without (get a first) (q - first) (get a q)
    ∙ alike_at a first count h q low high)

numbered_kept : (residence : Residence) (perm : Perm) (origin : Backing) (bytes : List ℕ) → has_no_number (Some (kept residence perm origin bytes)) ≡ false
numbered_kept Live perm origin bytes = refl
numbered_kept Out perm origin bytes = refl

none_from : (i : ℕ) (b : Option Cell) → continues None i b ≡ true → b ≡ None
none_from i None h = refl
none_from i (Some c) h = absurd (true≢false (sym h))

module _ (items : List Item) (order : InOrder None items) where
  pub record IsPartOf (made : AddressSpace) : Type 0 where
    pub pages : (q : ℕ) → found items q ≡ None → get made q ≡ None
    pub runs : (r : Item) → In r items → is_run r ≡ true →
        ((q : ℕ) → covers r q ≡ true → get made q ≡ None) ⊎ ((q : ℕ) → covers r q ≡ true → get made q ≡ found items q)

  module _ (made : AddressSpace) (part : IsPartOf made) (first n : ℕ) (alike : is_alike (cells_of items) first (suc n) ≡ true) where
    abbrev here : first ≤ first
    here = omega arith

    -- no page of the span has a cell
    all_none : found items first ≡ None → is_alike made first (suc n) ≡ true
    all_none none = none_alike made first (suc n) (λ q a b.
        part.pages q (sym (get_cells items q) ∙ none_from (q - first) (get (cells_of items) q)
        (ap (λ o. continues o (q - first) (get (cells_of items) q)) (sym (get_cells items first ∙ none)) ∙ alike_at (cells_of items) first (suc n) alike q a b)))

    -- the run that the first page is in has all of them
    run_has : (a count : ℕ) (perm : Perm) (what : Backing) → In (Run a count perm what) items → covers (Run a count perm what) first ≡ true → first + suc n ≤ a + count
    run_has a count perm what listed cov = elim (cases_lt (a + count) (first + suc n)) [
      | inr enough ↦ enough
      | inl less ↦
          let start = starts_in (Run a count perm what) first cov in
          let last : ℕ = a + count - 1 in
          let one : a + count - last ≡ 1 = omega (arith, start.1) in
          let place : last - a ≡ count - 1 = omega (arith, start.0, start.1) in
          let two = part_alike (cells_of items) first (suc n) last 2 (λ r low high. (omega (arith, low, start.1), omega (arith, high, less))) alike in
          let on = alike_at (cells_of items) last 2 two (a + count) (omega arith) (omega (arith, start.1)) in
          let there = found_is items (all_apart None items order) items (λ x h. h) (Run a count perm what) last listed
          (to_range a count last (omega (arith, start.0, start.1)) (omega (arith, start.1))) in
          absurd (true≢false (sym on
          ∙ ap (continues (get (cells_of items) last) (a + count - last)) (get_cells items (a + count))
          ∙ (λ i. continues ((get_cells items last ∙ there ∙ ap (λ k. Some (backed what perm k)) place) i) (one i) (found items (a + count)))
          ∙ run_stops None items order a count perm what listed (omega (arith, start.0, start.1))))
    ]

    in_run : (a count : ℕ) (perm : Perm) (what : Backing) → In (Run a count perm what) items → covers (Run a count perm what) first ≡ true → is_alike made first (suc n) ≡ true
    in_run a count perm what listed cov =
        let enough = run_has a count perm what listed cov in
        let start = starts_in (Run a count perm what) first cov in
        let inside : (q : ℕ) → first ≤ q → q < first + suc n → covers (Run a count perm what) q ≡ true = λ q low high. to_range a count q (omega (arith, low, start.0)) (omega (arith, high, enough)) in
        elim (part.runs (Run a count perm what) listed refl) [
          | inl none ↦ none_alike made first (suc n) (λ q low high. none q (inside q low high))
          | inr same ↦ same_alike (cells_of items) made first (suc n) (λ q low high. same q (inside q low high) ∙ sym (get_cells items q)) alike
        ]

    by_item : (x : Item) → In x items → covers x first ≡ true → found items first ≡ Some (cell_at x first) → is_alike made first (suc n) ≡ true
    by_item (Run a count perm what) listed cov is = in_run a count perm what listed cov
    by_item (Page page perm origin residence bytes) listed cov is =
        absurd (true≢false (sym (sym (ap has_no_number (get_cells items first ∙ is)) ∙ alike_unnumbered (cells_of items) first (suc n) alike first (omega arith) (omega arith))
        ∙ numbered_kept residence perm origin (whole bytes)))

    pub span_kept : is_alike made first (suc n) ≡ true
    span_kept = go (found items first) refl
      where
        go : (o : Option Cell) → found items first ≡ o → is_alike made first (suc n) ≡ true
        go None e = all_none e
        go (Some c) e = let at = found_item items first c e in by_item at.item at.listed at.covering (e ∙ ap Some (sym at.is))

  pub alike_kept : (made : AddressSpace) → IsPartOf made → (first count : ℕ) → is_alike (cells_of items) first count ≡ true → is_alike made first count ≡ true
  alike_kept made part first zero h = alike_from made first zero (λ q low high. absurd (omega (arith, low, high)))
  alike_kept made part first (suc n) h = span_kept made part first n h

  -- ---- items of the image, some of them

  module _ (some : List Item) (listed : (x : Item) → In x some → In x items) where
    none_found : (q : ℕ) → found items q ≡ None → found some q ≡ None
    none_found q none = go (found some q) refl
      where
        go : (o : Option Cell) → found some q ≡ o → o ≡ None
        go None e = refl
        go (Some c) e =
            let at = found_item some q c e in
            absurd (true≢false (sym (found_some items at.item q (listed at.item at.listed) at.covering) ∙ ap is_some none))

    runs_found : (r : Item) → In r items → ((q : ℕ) → covers r q ≡ true → found some q ≡ None) ⊎ ((q : ℕ) → covers r q ≡ true → found some q ≡ found items q)
    runs_found r there = go (found some (first_of r)) refl
      where
        first_covered : covers r (first_of r) ≡ true
        first_covered = let some_page = some_pages None items order r there in to_range (first_of r) (count_of r) (first_of r) (omega arith) (omega (arith, some_page))

        go : (o : Option Cell) → found some (first_of r) ≡ o → ((q : ℕ) → covers r q ≡ true → found some q ≡ None) ⊎ ((q : ℕ) → covers r q ≡ true → found some q ≡ found items q)
        go None e = inl (λ q cov. none q cov (found some q) refl)
          where
            none : (q : ℕ) → covers r q ≡ true → (o : Option Cell) → found some q ≡ o → o ≡ None
            none q cov None f = refl
            none q cov (Some c) f =
                let at = found_item some q c f in
                let same = all_apart None items order at.item r q (listed at.item at.listed) there at.covering cov in
                absurd (true≢false (sym (found_some some at.item (first_of r) at.listed (ap (λ x. covers x (first_of r)) same ∙ first_covered)) ∙ ap is_some e))
        go (Some c) e =
            let at = found_item some (first_of r) c e in
            let same = all_apart None items order at.item r (first_of r) (listed at.item at.listed) there at.covering first_covered in
            inr (λ q cov.
            found_is items (all_apart None items order) some listed r q (subst (λ (x : Item). In x some) same at.listed) cov
            ∙ sym (found_is items (all_apart None items order) items (λ x h. h) r q there cov))

    pub part_of : IsPartOf (cells_of some)
    part_of = record {
      pages = λ q none. get_cells some q ∙ none_found q none;
      runs = λ r there run. elim (runs_found r there) [
        | inl none ↦ inl (λ q cov. get_cells some q ∙ none q cov)
        | inr same ↦ inr (λ q cov. get_cells some q ∙ same q cov)
      ];
    }

    -- and one in the place of a page that is to have a number
    module _ (x y : Item) (there : In x items) (no_run : is_run x ≡ false) (over : (q : ℕ) → covers y q ≡ covers x q) where
      apart_from : (q : ℕ) → covers x q ≡ false → get (cells_of (some ++ y ∷ [])) q ≡ found some q
      apart_from q out =
          get_cells (some ++ y ∷ []) q ∙ found_more some y q
          ∙ ap (λ b. option_or (cond b (Some (cell_at y q)) None) (found some q)) (over q ∙ out)

      pub part_over : IsPartOf (cells_of (some ++ y ∷ []))
      part_over = record {
        pages = λ q none. apart_from q (not_covered items x q none there) ∙ none_found q none;
        runs = λ r listed run. elim (runs_found r listed) [
          | inl none ↦ inl (λ q cov. apart_from q (out r q listed run cov) ∙ none q cov)
          | inr same ↦ inr (λ q cov. apart_from q (out r q listed run cov) ∙ same q cov)
        ];
      }
        where
          out : (r : Item) (q : ℕ) → In r items → is_run r ≡ true → covers r q ≡ true → covers x q ≡ false
          out r q listed run cov = go (covers x q) refl
            where
              go : (b : Bool) → covers x q ≡ b → b ≡ false
              go false e = refl
              go true e = absurd (true≢false (sym run ∙ ap is_run (all_apart None items order r x q listed there cov e) ∙ no_run))
