-- There is a state between.
--     middle, is_between
use Rattle.std.specs.Prelude.{◌≡◌, ◌≢◌, ℕ, zero, suc, ◌+◌, ◌<◌, ◌≤◌, ◌&&◌, Bool, true, false, not, cond, nat_eq, Option, Some, None}
use Rattle.std.specs.FinMap.{get}
use Rattle.std.specs.FinSet as set
use Rattle.std.proofs.Common.{sym, refl, ◌∙◌, ap, subst, arith, eq-eqb, ne_eqb}
use Rattle.std.proofs.lemmas.Bool.{true≢false, false≢true, and_parts, and_from}
use mathlib.Core.Logic.{dite}
use native.Mathlib.Decide.{ℕ_discrete}
use Rattle.page_map.specs.declared.cell.Cell.{Cell as PageCell}
use Rattle.page_map.specs.Cell.{AddressSpace}
use Rattle.page_map.specs.Change.{change}
use Rattle.page_map.specs.State.{State, IsConsistent, levels, space_at, cell_at}
use Rattle.page_map.proofs.Cells.{changed, cell_changed}
use Rattle.page_map.proofs.Range.{get-change}
use Rattle.table_place.specs.declared.Place.{Place}
use Rattle.table_place.specs.Place.{place_of, has_page, span_first, span_count}
use Rattle.table_place.specs.Range.{within}
use Rattle.table_place.proofs.Entries.{level_of, page_in_span}
use Rattle.table_place.proofs.Tables.{in_range, to_range}
use Rattle.machine_plan.specs.Given.{IsRemoved}
use Rattle.machine_plan.proofs.Towers.{table_above, tower_has}
use Rattle.cursor_apply.specs.Between.{IsBetween}
use Rattle.cursor_apply.specs.Changed.{LiesIn}
use Rattle.cursor_apply.proofs.Between.{drawn}

module _ (old now : State) (was : IsConsistent old) (space first count : ℕ) (taken : ℕ → Bool) where
  -- whether the table of a level above a page is removed, and whether one of so many levels is
  abbrev gone_at : ℕ → ℕ → Bool
  gone_at level page = set.contains old.tables (place_of space level page) && not (set.contains now.tables (place_of space level page))

  abbrev any_gone : ℕ → ℕ → Bool
  any_gone zero page = false
  any_gone (suc n) page = cond (gone_at (suc n) page) true (any_gone n page)

  found : (n page : ℕ) → n < 6 → any_gone n page ≡ true → (p : Place) × IsRemoved old now p × (has_page p space page ≡ true)
  found zero page low e = absurd (false≢true e)
  found (suc n) page low e = go (gone_at (suc n) page) refl (found n page (omega arith))
    where
      off : (t : Bool) → not t ≡ true → t ≡ false
      off true h = absurd (false≢true h)
      off false h = refl

      go : (t : Bool) → gone_at (suc n) page ≡ t → (any_gone n page ≡ true → (p : Place) × IsRemoved old now p × (has_page p space page ≡ true)) → (p : Place) × IsRemoved old now p × (has_page p space page ≡ true)
      go true f rest = let both = and_parts (set.contains old.tables (place_of space (suc n) page)) (not (set.contains now.tables (place_of space (suc n) page))) f in
          (place_of space (suc n) page, (both.0, off (set.contains now.tables (place_of space (suc n) page)) both.1), tower_has space (suc n) page (omega arith))
      go false f rest = rest (sym (ap (λ t. cond t true (any_gone n page)) f) ∙ e)

  there : (n level page : ℕ) → 1 ≤ level → level ≤ n → gone_at level page ≡ true → any_gone n page ≡ true
  there zero level page low high e = absurd (omega arith)
  there (suc n) level page low high e = dite (ℕ_discrete level (suc n))
      (λ same. ap (λ t. cond t true (any_gone n page)) (ap (λ k. gone_at k page) (sym same) ∙ e))
      (λ ne. go (gone_at (suc n) page) (there n level page low (less level n high ne) e))
    where
      less : (k n : ℕ) → k ≤ suc n → (k ≡ suc n → ⊥) → k ≤ n
      less k n le ne = omega arith

      go : (t : Bool) → any_gone n page ≡ true → cond t true (any_gone n page) ≡ true
      go true h = refl
      go false h = h

  is_gone : (p : Place) (page : ℕ) → IsRemoved old now p → has_page p space page ≡ true → any_gone 5 page ≡ true
  is_gone p page r has =
      let d = level_of (levels old) p (was.places p r.0) in
      let low : p.level < 6 = (let f = was.few_levels in omega (arith, d.1)) in
      let same = table_above p space page low has in
      there 5 p.level page d.0 (omega arith)
      (and_from (set.contains old.tables (place_of space p.level page)) (not (set.contains now.tables (place_of space p.level page)))
      (subst (λ (q : Place). set.contains old.tables q ≡ true) same r.0) (ap not (subst (λ (q : Place). set.contains now.tables q ≡ false) same r.1)))

  abbrev came : ℕ → Option PageCell → Option PageCell
  came page o = cond (any_gone 5 page) None (cond (taken page) (drawn o) o)

  cells : AddressSpace
  cells = change (space_at old space) first count came

  pub middle : State
  middle = changed now space cells now.tables

  pub is_between : ((page : ℕ) → taken page ≡ true → within first count page ≡ true) → ((p : Place) → IsRemoved old now p → LiesIn p first count) → IsBetween old now middle space taken
  unfolding middle cells
  is_between inside lies = record {
    same_levels = refl;
    same_tables = refl;
    others = λ s page ne. cell_changed now space cells now.tables s page ∙ ap (λ t. cond t (get cells page) (cell_at now s page)) (ne_eqb s space ne);
    cut = λ p page r has. at page ∙ (ap (λ t. cond t (came page (cell_at old space page)) (cell_at old space page)) (in_removed p page r has) ∙ ap (λ t. cond t None (cond (taken page) (drawn (cell_at old space page)) (cell_at old space page))) (is_gone p page r has));
    pages = λ page none. at page ∙ by page none (within first count page) refl (any_gone 5 page) refl;
  }
    where
      at : (page : ℕ) → cell_at middle space page ≡ cond (within first count page) (came page (cell_at old space page)) (cell_at old space page)
      at page = cell_changed now space cells now.tables space page ∙ (ap (λ t. cond t (get cells page) (cell_at now space page)) (eq-eqb space space refl) ∙ get-change (space_at old space) first count came page)

      in_removed : (p : Place) (page : ℕ) → IsRemoved old now p → has_page p space page ≡ true → within first count page ≡ true
      in_removed p page r has =
          let d = level_of (levels old) p (was.places p r.0) in
          let low : p.level < 6 = (let f = was.few_levels in omega (arith, d.1)) in
          let a = in_range (span_first p) (span_count p) page (page_in_span p space page low has) in
          let l = lies p r in
          to_range first count page (let x = a.0 in let y = l.0 in omega arith) (let x = a.1 in let y = l.1 in omega arith)

      by : (page : ℕ) → ((p : Place) → IsRemoved old now p → has_page p space page ≡ true → ⊥) → (t : Bool) → within first count page ≡ t → (u : Bool) → any_gone 5 page ≡ u
          → cond (within first count page) (came page (cell_at old space page)) (cell_at old space page) ≡ cond (taken page) (drawn (cell_at old space page)) (cell_at old space page)
      by page none true e false f = ap (λ t. cond t (came page (cell_at old space page)) (cell_at old space page)) e ∙ ap (λ t. cond t None (cond (taken page) (drawn (cell_at old space page)) (cell_at old space page))) f
      by page none t e true f = absurd (let p = found 5 page (omega arith) f in none p.0 p.1 p.2)
      by page none false e false f = ap (λ t. cond t (came page (cell_at old space page)) (cell_at old space page)) e ∙ sym (ap (λ t. cond t (drawn (cell_at old space page)) (cell_at old space page)) (off (taken page) refl))
        where
          off : (t : Bool) → taken page ≡ t → taken page ≡ false
          off false g = g
          off true g = absurd (true≢false (sym (inside page g) ∙ e))
