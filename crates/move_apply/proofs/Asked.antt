-- Rows that have the cover of a zone by the tables of a state tell of each of its pages, also where their cells are those of another state.
--     covered_asked
use Rattle.std.specs.Prelude.{◌≡◌, ℕ, zero, suc, ◌+◌, ◌-◌, ◌^◌, ◌<◌, ◌≤◌, true, false, Bool, List, slice_get, Some}
use Rattle.std.specs.List.{Contains}
use Rattle.std.specs.FinSet as set
use Rattle.std.proofs.Common.{sym, refl, ◌∙◌, ap, subst, arith, inr}
use Rattle.page_map.specs.State.{State, IsConsistent, levels}
use Rattle.row_cells.specs.declared.Cell.{Cell}
use Rattle.table_place.specs.declared.Place.{Place}
use Rattle.table_place.specs.Place.{root, place_of, has_page, index_at, is_user_page}
use Rattle.table_place.proofs.Entries.{entry_below}
use Rattle.table_place.proofs.Spans.{user_below}
use Rattle.tree_lock.specs.declared.zone.Zone.{Zone}
use Rattle.tree_lock.specs.Zone.{ZoneHas}
use Rattle.machine_plan.specs.Agrees.{below, IsNoTable}
use Rattle.machine_plan.specs.Cover.{HasCover}
use Rattle.machine_plan.specs.Held.{ListHolds}
use Rattle.machine_plan.specs.HeldRows.{Row, AreOf, IsAsked, IsAt, is_table}
use Rattle.machine_plan.proofs.Near.{stands_in, level_is}
use Rattle.machine_plan.proofs.Towers.{tower_has, root_is}

-- where no table is below an entry, its cell is no link
abbrev pub ArePlain : State → List Row → Type 0
ArePlain st rows = (x : Row) (i : ℕ) → Contains rows x → i < 512 → IsNoTable st (below (levels st) x.place i) → (cell : Cell) × (slice_get x.content i ≡ Some cell) × (is_table cell ≡ false)

module _ (zone : Zone) (st : State) (rows : List Row) (space page : ℕ) (is : IsConsistent st) (plain : ArePlain st rows) (of_space : AreOf space rows) (cover : HasCover zone st (ListHolds rows)) (of_zone : ZoneHas zone space page) where
  -- at a table below which the page's is none
  at_row : (k : ℕ) → k < levels st → set.contains st.tables (place_of space (k + 1) page) ≡ true → IsNoTable st (place_of space k page) → IsAsked space rows page
  at_row k low there lone =
      let p : Place = place_of space (k + 1) page in
      let i : ℕ = index_at (k + 1) page in
      let q : below (levels st) p i ≡ place_of space k page = entry_below (levels st) space k page (omega (arith, low, is.few_levels)) in
      let lone_below : IsNoTable st (below (levels st) p i) = ap (set.contains st.tables) q ∙ lone in
      let has : has_page (below (levels st) p i) space page ≡ true = subst (λ x. has_page x space page ≡ true) (sym q) (tower_has space k page (omega (arith, low, is.few_levels))) in
      let x = cover p (stands_in st is zone p i space page (inr there) (small (k + 1) page) lone_below has of_zone) in
      let c = plain x.0 i x.1 (small (k + 1) page) (subst (λ y. IsNoTable st (below (levels st) y i)) (sym x.2) lone_below) in
      record {
        of_space = of_space;
        row = x.0;
        held = x.1;
        at = subst (λ y. IsAt (record x.0 { place = y }) page) (sym x.2) (record {
          deep = omega arith;
          low = omega (arith, low, is.few_levels);
          has = tower_has space (k + 1) page (omega (arith, low, is.few_levels));
          cell = c.0;
          there = c.1;
          no_link = c.2;
        });
      }
    where
      small : (k page : ℕ) → index_at k page < 512
      small k page = omega arith

  -- a page is no table
  no_page_table : IsNoTable st (place_of space 0 page)
  no_page_table = go (set.contains st.tables (place_of space 0 page)) refl
    where
      go : (t : Bool) → set.contains st.tables (place_of space 0 page) ≡ t → IsNoTable st (place_of space 0 page)
      go false e = e
      go true e = let depth = level_is st is (place_of space 0 page) e in absurd (none depth.0)
        where
          none : 1 ≤ 0 → ⊥
          none h = omega (arith, h)

  down : (k : ℕ) → k < levels st → set.contains st.tables (place_of space (k + 1) page) ≡ true → IsAsked space rows page
  down zero low there = at_row 0 low there no_page_table
  down (suc k) low there = go (λ e. down k (omega (arith, low)) e) (set.contains st.tables (place_of space (suc k) page)) refl
    where
      go : (set.contains st.tables (place_of space (k + 1) page) ≡ true → IsAsked space rows page) → (t : Bool) → set.contains st.tables (place_of space (suc k) page) ≡ t → IsAsked space rows page
      go lower false e = at_row (suc k) low there e
      go lower true e = lower (subst (λ n. set.contains st.tables (place_of space n page) ≡ true) (next k) e)
        where
          next : (k : ℕ) → suc k ≡ k + 1
          next k = omega arith

  pub covered_asked : set.contains st.tables (root (levels st) space) ≡ true → is_user_page (levels st) page ≡ true → IsAsked space rows page
  covered_asked there user =
      let small : page < 512 ^ levels st = let end = user_below (levels st) page 1 user in omega (arith, end) in
      let top : levels st - 1 + 1 ≡ levels st = omega (arith, is.some_levels) in
      down (levels st - 1) (omega (arith, is.some_levels))
      (subst (λ p. set.contains st.tables p ≡ true) (sym (ap (λ k. place_of space k page) top ∙ root_is (levels st) space page small)) there)
