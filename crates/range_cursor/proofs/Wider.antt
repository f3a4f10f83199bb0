-- Calls that use more pages than those of which the references are taken, where the others have no cell.
--     used_same      the used cells are those of the range
--     drawn_wider      and so are the rows of which the references were taken out
use Rattle.std.specs.Prelude.{◌≡◌, ℕ, ◌+◌, ◌-◌, ◌*◌, ◌/◌, ◌%◌, ◌^◌, ◌<◌, ◌&&◌, Bool, true, false, cond, List, [], ◌∷◌, nat_eq, slice_get, slice_index_or, Some, None}
use Rattle.std.specs.List.{AllByRecursion, AllZip, Contains, filter}
use Rattle.std.specs.Ordering.{nat_cmp}
use Rattle.std.specs.FinMap as fin
use Rattle.std.proofs.Common.{sym, refl, ◌∙◌, ap, subst, arith}
use Rattle.std.proofs.lemmas.Bool.{eqb-true, false≢true}
use Rattle.page_map.specs.State.{State, IsConsistent, levels, cell_at}
use Rattle.page_map.proofs.Few.{each_entry}
use Rattle.row_cells.specs.declared.Cell.{Cell}
use Rattle.row_cells.specs.declared.Cell.TheVariants.{Invalid, Table, Anon, File, Mapped, Swapped}
use Rattle.table_place.specs.declared.Place.{Place}
use Rattle.table_place.specs.Place.{place_of, has_page, span_first}
use Rattle.table_place.specs.Range.{within}
use Rattle.machine_plan.specs.Agrees.{below, Shows}
use Rattle.machine_plan.specs.HeldRows.{Row, RowsShown, is_table}
use Rattle.machine_plan.proofs.Towers.{tower_has}
use Rattle.range_cursor.specs.Drawing.{drawn_cell, page_at, IsDrawnRow, AreDrawn, reaches, leaf_place}
use Rattle.range_cursor.proofs.Planned.{zip_of}
use Rattle.range_cursor.proofs.Taken.{is_leaf_place}
use Rattle.range_cursor.proofs.Wanting.{contained, no_link, stands, page_cell}

filter_same : {X : Type 0} (f g : ℕ × X → Bool) (es : List (ℕ × X)) → AllByRecursion (λ (e : ℕ × X). f e ≡ g e) es → filter f es ≡ filter g es
filter_same f g [] same = refl
filter_same f g (e ∷ es) same = λ i. cond (same.0 i) (e ∷ filter_same f g es same.1 i) (filter_same f g es same.1 i)

-- the page map's cells, without those outside the range
pub used_same : {X : Type 0} (m : fin.FinMap nat_cmp X) (first n : ℕ) (uses : ℕ → Bool) → ((page : ℕ) → within first n page ≡ true → uses page ≡ true) → ((page : ℕ) (x : X) → fin.get m page ≡ Some x → uses page ≡ true → within first n page ≡ true)
    → filter (λ e. uses e.0) (fin.entries m) ≡ filter (λ e. within first n e.0) (fin.entries m)
used_same {X = X} m first n uses more less =
    filter_same (λ e. uses e.0) (λ e. within first n e.0) (fin.entries m) (each_entry (λ k x. uses k ≡ within first n k) m (λ k x there. go k x there (uses k) refl (within first n k) refl))
  where
    go : (k : ℕ) (x : X) → fin.get m k ≡ Some x → (a : Bool) → uses k ≡ a → (b : Bool) → within first n k ≡ b → uses k ≡ within first n k
    go k x there true e true f = e ∙ sym f
    go k x there false e false f = e ∙ sym f
    go k x there true e false f = absurd (false≢true (sym f ∙ less k x there e))
    go k x there false e true f = absurd (false≢true (sym e ∙ more k f))

no_reference : (c : Cell) (off : ℕ) → is_table c ≡ false → page_cell c off ≡ None → drawn_cell c ≡ c
no_reference Invalid off plain e = refl
no_reference Table off plain e = absurd (false≢true (sym plain))
no_reference (Anon perm) off plain e = absurd (cc e)
no_reference (File perm file index) off plain e = absurd (cc e)
no_reference (Mapped perm origin frame) off plain e = absurd (cc e)
no_reference (Swapped perm origin slot) off plain e = absurd (cc e)

module _ (st : State) (is : IsConsistent st) (rows : List Row) (shown : RowsShown st rows) where
  -- where the state has no cell, that of a row has no reference
  empty_cell : (x : Row) (index : ℕ) (c : Cell) → Contains rows x → index < 512 → slice_get x.content index ≡ Some c → x.place.level ≡ 1 → cell_at st x.place.space (page_at x index) ≡ None → drawn_cell c ≡ c
  empty_cell x index c held small there level none =
      let s : ℕ = x.place.space in
      let p : ℕ = page_at x index in
      let q : Place = below (levels st) x.place index in
      let leaf : x.place ≡ leaf_place s p = is_leaf_place x.place s p index small level refl refl in
      let q_is : q ≡ place_of s 0 p = (λ i. below (levels st) (leaf i) (rest x.place.prefix index small i)) ∙ page_place s p in
      let shows : Shows st q c = (shown x held).each index c small there in
      let has : has_page q s p ≡ true = subst (λ y. has_page y s p ≡ true) (sym q_is) (tower_has s 0 p (omega arith)) in
      let plain = no_link st is q c (ap (λ (y : Place). y.level) q_is) shows in
      no_reference c (p - span_first q) plain (sym (stands st q c s p plain shows has) ∙ none)
    where
      rest : (q index : ℕ) → index < 512 → index ≡ (512 * q + index) % 512
      rest q index small = omega (arith, small)

      page_place : (s p : ℕ) → below (levels st) (leaf_place s p) (p % 512) ≡ place_of s 0 p
      page_place s p = λ i. record { space = s; level = 0; prefix = whole p i }
        where
          whole : (p : ℕ) → 512 * (p / 512) + p % 512 ≡ p / 512 ^ 0
          whole p = omega arith

  module _ (space first n : ℕ) (uses : ℕ → ℕ → Bool) (more : (s page : ℕ) → reaches space first n s page ≡ true → uses s page ≡ true) (less : (s page : ℕ) → uses s page ≡ true → reaches space first n s page ≡ false → cell_at st s page ≡ None) where
    -- at one cell
    same_cell : (x : Row) (index : ℕ) (c : Cell) → Contains rows x → index < 512 → slice_get x.content index ≡ Some c
        → cond (nat_eq x.place.level 1 && reaches space first n x.place.space (page_at x index)) (drawn_cell c) c ≡ cond (nat_eq x.place.level 1 && uses x.place.space (page_at x index)) (drawn_cell c) c
    same_cell x index c held small there = go (nat_eq x.place.level 1) refl (reaches space first n x.place.space (page_at x index)) refl (uses x.place.space (page_at x index)) refl
      where
        go : (l : Bool) → nat_eq x.place.level 1 ≡ l → (a : Bool) → reaches space first n x.place.space (page_at x index) ≡ a → (b : Bool) → uses x.place.space (page_at x index) ≡ b
            → cond (l && a) (drawn_cell c) c ≡ cond (l && b) (drawn_cell c) c
        go false e a f b g = refl
        go true e true f true g = refl
        go true e false f false g = refl
        go true e true f false g = absurd (false≢true (sym g ∙ more x.place.space (page_at x index) f))
        go true e false f true g = sym (empty_cell x index c held small there (eqb-true x.place.level 1 e) (less x.place.space (page_at x index) g f))

    pub drawn_wider : (rows' : List Row) → AreDrawn (reaches space first n) rows rows' → AllZip (IsDrawnRow uses) rows rows'
    drawn_wider rows' drawn = zip_of (IsDrawnRow uses) rows rows' drawn.as_many (λ k d h.
        let was = drawn.each k d h in
        record {
          same_row = was.same_row;
          same_place = was.same_place;
          same_generation = was.same_generation;
          whole = was.whole;
          each = λ index cell small there. was.each index cell small there ∙ ap Some (same_cell (slice_index_or rows k d) index cell (contained rows k d h) small there);
        })
