-- Whether a space is there, as the directory's row shows.
use Rattle.std.specs.Prelude.{◌≡◌, ℕ, ◌<◌, Bool, true, false, List, slice_get, Some}
use Rattle.std.specs.List.{Contains}
use Rattle.std.specs.FinSet as set
use Rattle.std.proofs.Common.{sym, refl, ◌∙◌, ap, subst, arith, inl, inr}
use Rattle.std.proofs.lemmas.Bool.{false≢true}
use Rattle.page_map.specs.State.{State, IsConsistent, levels, is_present}
use Rattle.row_cells.specs.declared.Cell.{Cell}
use Rattle.row_cells.specs.declared.Cell.TheVariants.{Invalid, Table, Anon, File, Mapped, Swapped}
use Rattle.table_place.specs.declared.Place.{Place}
use Rattle.table_place.specs.Place.{root, directory}
use Rattle.machine_plan.specs.Agrees.{below, IsTableOf, Shows}
use Rattle.machine_plan.specs.HeldRows.{Row, is_table}
use Rattle.machine_plan.proofs.Near.{level_is}
use Rattle.range_cursor.specs.Reach.{KnowsRoot}

-- a space is there where its root is a table
pub root_there : (st : State) (space : ℕ) → IsConsistent st → set.contains st.tables (root (levels st) space) ≡ is_present st space
root_there st space is = go (is_present st space) refl (set.contains st.tables (root (levels st) space)) refl
  where
    go : (p : Bool) → is_present st space ≡ p → (t : Bool) → set.contains st.tables (root (levels st) space) ≡ t → t ≡ p
    go true e true f = refl
    go false e false f = refl
    go true e false f = absurd (false≢true (sym f ∙ is.roots space e))
    go false e true f = absurd (false≢true (sym e ∙ is.absent (root (levels st) space) f))

shown_table : (st : State) (q : Place) (c : Cell) → Shows st q c → set.contains st.tables q ≡ is_table c
shown_table st q Table f = f
shown_table st q Invalid f = f.0
shown_table st q (Anon perm) f = f.0
shown_table st q (File perm file index) f = f.0
shown_table st q (Mapped perm origin frame) f = f.0
shown_table st q (Swapped perm origin slot) f = f.0

module _ (st : State) (space : ℕ) (rows : List Row) (knows : KnowsRoot st space rows) where
  is_directory : (p : Place) → p.level ≡ 6 → IsTableOf st p → p ≡ directory
  is_directory p high (inl e) = e
  is_directory p high (inr there) = absurd (omega (arith, high, (level_is st knows.consistent p there).1, knows.consistent.few_levels))

  pub shown_by : (x : Row) (c : Cell) → Contains rows x → x.place.level ≡ 6 → space < 512 → slice_get x.content space ≡ Some c → is_table c ≡ is_present st space
  shown_by x c held high small at =
      let shown = knows.shown x held in
      let same = is_directory x.place high shown.table in
      sym (shown_table st (root (levels st) space) c (subst (λ p. Shows st (below (levels st) p space) c) same (shown.each space c small at))) ∙ root_there st space knows.consistent

  pub not_shown : ((x : Row) → Contains rows x → ¬ (x.place.level ≡ 6)) → true ≡ is_present st space
  not_shown none = go (set.contains st.tables (root (levels st) space)) refl ∙ root_there st space knows.consistent
    where
      go : (t : Bool) → set.contains st.tables (root (levels st) space) ≡ t → true ≡ set.contains st.tables (root (levels st) space)
      go true e = sym e
      go false e = let h = knows.top e in absurd (none h.0 h.1 (ap (λ (p : Place). p.level) h.2))
