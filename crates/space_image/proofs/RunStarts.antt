-- A run of an image is a longest run of the space, so its first page is no further in its file than a mapping's may be.
--     is_longest      each run is one
--     not_deep      its first page
use Rattle.std.proofs.Common.{◌≡◌, ℕ, ◌+◌, ◌-◌, ◌^◌, ◌<◌, ◌≤◌, true, false, List, refl, sym, ap, subst, ◌∙◌, arith, inl, inr}
use Rattle.std.specs.Prelude.{Option, Some, None, IsSome}
use Rattle.std.specs.Option.{option_map}
use Rattle.std.specs.FinMap.{get}
use Rattle.std.proofs.lemmas.Bool.{cases_lt, lt-ltb}
use Rattle.corten_base.specs.declared.permissions.Perm.{Perm}
use Rattle.corten_base.specs.declared.calls.Backing.{Backing}
use Rattle.corten_base.specs.declared.calls.Backing.TheVariants as backing
use Rattle.page_map.specs.declared.cell.Cell.{Cell}
use Rattle.page_map.specs.declared.cell.Cell.TheVariants.{Anon, File, Mapped, Swapped}
use Rattle.page_map.specs.Alike.{continues}
use Rattle.page_map.specs.Cell.{AddressSpace, backed, status_of}
use Rattle.page_map.proofs.Alike.{backed_twice, backed_unnumbered, continues_from}
use Rattle.space_cells.specs.Longest.{IsLongest}
use Rattle.table_place.proofs.Tables.{to_range}
use Rattle.image_text.specs.declared.image.Item.{Item}
use Rattle.image_text.specs.declared.image.Item.TheVariants.{Run, Page}
use Rattle.image_text.specs.declared.image.Residence.{Residence}
use Rattle.image_text.specs.declared.image.Residence.TheVariants.{Live, Out}
use Rattle.image_text.specs.Items.{AreEqualButForNumbers, cell_at, cells_of, first_of, kept, whole, without_number}
use Rattle.image_text.specs.Images.{AreInOrder}
use Rattle.space_image.specs.Saving.{AreNoneDeep, is_deep}
use Rattle.space_image.proofs.Covered.{In, covers, found, found_is, found_item, get_cells}
use Rattle.space_image.proofs.InOrder.{InOrder, all_apart, in_order, run_stops, some_pages, starts_in}
use Rattle.space_image.proofs.PartSpans.{on_without}

some_some : {A : Type 0} {x y : A} → ◌≡◌ {A = Option A} (Some x) (Some y) → x ≡ y
some_some e = cc

none_some : {A : Type 0} {x : A} → ◌≡◌ {A = Option A} (Some x) None → ⊥
none_some e = cc

-- nothing goes on from a page with a frame or a slot
kept_ends : (residence : Residence) (perm : Perm) (origin : Backing) (bytes : List ℕ) (b : Option Cell) → continues (Some (kept residence perm origin bytes)) 1 b ≡ false
kept_ends Live perm origin bytes b = refl
kept_ends Out perm origin bytes b = refl

-- a file's page that has a number too great
deep_cell : (perm : Perm) (file index : ℕ) (c : Cell) → File perm file index ≡ without_number c → 2 ^ 40 < index → is_deep (status_of (Some c)) ≡ true
deep_cell perm file index (File p f i) e high = lt-ltb (2 ^ 40) i (omega (arith, high, ap at_index e))
  where
    at_index : Cell → ℕ
    at_index (File p f i) = i
    at_index _ = 0
deep_cell perm file index (Anon p) e high = absurd (cc e)
deep_cell perm file index (Mapped p origin frame bytes) e high = absurd (cc e)
deep_cell perm file index (Swapped p origin slot bytes) e high = absurd (cc e)

module _ (sp : AddressSpace) (all : List Item) (right : AreInOrder all) (same : AreEqualButForNumbers (cells_of all) sp) where
  order : InOrder None all
  order = in_order all right

  plain : (q : ℕ) → option_map without_number (found all q) ≡ option_map without_number (get sp q)
  plain q = ap (option_map without_number) (sym (get_cells all q)) ∙ same q

  on_same : (q r : ℕ) → continues (get sp q) 1 (get sp r) ≡ continues (found all q) 1 (found all r)
  on_same q r = sym (on_without (get sp q) 1 (get sp r)) ∙ (λ i. continues (sym (plain q) i) 1 (sym (plain r) i)) ∙ on_without (found all q) 1 (found all r)

  found_here : (x : Item) (q : ℕ) → In x all → covers x q ≡ true → found all q ≡ Some (cell_at x q)
  found_here x q listed cov = found_is all (all_apart None all order) all (λ y h. h) x q listed cov

  seen_here : (x : Item) (q : ℕ) → In x all → covers x q ≡ true → (c : Cell) × (get sp q ≡ Some c) × (without_number (cell_at x q) ≡ without_number c)
  seen_here x q listed cov = go (get sp q) refl (ap (option_map without_number) (sym (found_here x q listed cov)) ∙ plain q)
    where
      go : (o : Option Cell) → get sp q ≡ o → ◌≡◌ {A = Option Cell} (Some (without_number (cell_at x q))) (option_map without_number (get sp q)) → (c : Cell) × (get sp q ≡ Some c) × (without_number (cell_at x q) ≡ without_number c)
      go None e is = absurd (none_some (is ∙ ap (option_map without_number) e))
      go (Some c) e is = (c, e, some_some (is ∙ ap (option_map without_number) e))

  module _ (first count : ℕ) (perm : Perm) (what : Backing) (listed : In (Run first count perm what) all) where
    some : 1 ≤ count
    some = some_pages None all order (Run first count perm what) listed

    covered : (q : ℕ) → first ≤ q → q < first + count → covers (Run first count perm what) q ≡ true
    covered q low high = to_range first count q low high

    at : (q i : ℕ) → first ≤ q → q < first + count → q - first ≡ i → found all q ≡ Some (backed what perm i)
    at q i low high is = found_here (Run first count perm what) q listed (covered q low high) ∙ ap (λ k. Some (backed what perm k)) is

    goes : (q : ℕ) → first ≤ q → q + 1 < first + count → continues (get sp q) 1 (get sp (q + 1)) ≡ true
    goes q low high =
        let here = at q (q - first) low (omega (arith, high)) refl in
        let next = at (q + 1) (q - first + 1) (omega (arith, low)) high (omega (arith, low)) in
        on_same q (q + 1) ∙ (λ i. continues (here i) 1 (next i))
        ∙ continues_from (Some (backed what perm (q - first))) 1 (Some (backed what perm (q - first + 1))) (backed_unnumbered what perm (q - first)) (ap Some (sym (backed_twice what perm (q - first) 1)))

    -- a run that ends where it begins does not join it
    begins : (y : Item) (q : ℕ) → In y all → covers y q ≡ true → q + 1 ≡ first → continues (Some (cell_at y q)) 1 (found all first) ≡ false
    begins (Page page other origin residence bytes) q there cov is = kept_ends residence other origin (whole bytes) (found all first)
    begins (Run f n other origin) q there cov is =
        let inside = starts_in (Run f n other origin) q cov in
        let ends : f + n ≡ first = elim (cases_lt first (f + n)) [
          | inl more ↦ absurd (apart more inside.0)
          | inr less ↦ omega (arith, less, inside.1, is)
        ] in
        ap (λ i. continues (Some (backed origin other i)) 1 (found all first)) (last (omega (arith, inside.0, inside.1)) ends)
        ∙ ap (λ r. continues (Some (backed origin other (n - 1))) 1 (found all r)) (sym ends)
        ∙ run_stops None all order f n other origin there (some_pages None all order (Run f n other origin) there)
      where
        apart : first < f + n → f ≤ q → ⊥
        apart more low =
            let one = all_apart None all order (Run f n other origin) (Run first count perm what) first there listed (to_range f n first (omega (arith, low, is)) more) (covered first (omega arith) (omega (arith, some))) in
            let same_first = ap first_of one in
            omega (arith, low, is, same_first)

        last : f ≤ q → f + n ≡ first → q - f ≡ n - 1
        last low ends = omega (arith, low, is, ends)

    starts : (q : ℕ) → q + 1 ≡ first → continues (get sp q) 1 (get sp first) ≡ false
    starts q is = on_same q first ∙ go (found all q) refl
      where
        go : (o : Option Cell) → found all q ≡ o → continues (found all q) 1 (found all first) ≡ false
        go None e = (λ i. continues (e i) 1 (at first 0 (omega arith) (omega (arith, some)) (omega arith) i))
        go (Some c) e =
            let by = found_item all q c e in
            ap (λ o. continues o 1 (found all first)) (e ∙ ap Some (sym by.is)) ∙ begins by.item q by.listed by.covering is

    pub is_longest : IsLongest sp first count
    is_longest = record {
      some = omega (arith, some);
      there = there;
      like = goes;
      starts = starts;
      stops = on_same (first + count - 1) (first + count)
          ∙ ap (λ o. continues o 1 (found all (first + count))) (at (first + count - 1) (count - 1) (omega (arith, some)) (omega (arith, some)) (omega (arith, some)))
          ∙ run_stops None all order first count perm what listed some;
    }
      where
        there : IsSome (get sp first)
        there = let s = seen_here (Run first count perm what) first listed (covered first (omega arith) (omega (arith, some))) in subst IsSome (sym s.1) refl

  pub not_deep : AreNoneDeep sp → (first count : ℕ) (perm : Perm) (file index : ℕ) → In (Run first count perm (backing.File file index)) all → index ≤ 2 ^ 40
  not_deep none first count perm file index listed = elim (cases_lt (2 ^ 40) index) [
    | inl high ↦ absurd (none first (record { count = count; longest = is_longest first count perm (backing.File file index) listed; deep = deep high }))
    | inr low ↦ low
  ]
    where
      deep : 2 ^ 40 < index → is_deep (status_of (get sp first)) ≡ true
      deep high =
          let n = some first count perm (backing.File file index) listed in
          let s = seen_here (Run first count perm (backing.File file index)) first listed (to_range first count first (omega arith) (omega (arith, n))) in
          ap (λ o. is_deep (status_of o)) s.1 ∙ deep_cell perm file (index + (first - first)) s.0 s.2 (omega (arith, high))
