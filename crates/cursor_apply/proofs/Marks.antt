-- What a change makes of an entry of a row: the cell agrees with the state afterwards.
--     shows_same      a cell of whose pages none is changed
--     shows_made      a cell of which all pages are changed
use Rattle.std.specs.Prelude.{◌≡◌, ℕ, ◌+◌, ◌-◌, ◌*◌, ◌^◌, ◌<◌, ◌≤◌, ◌⊎◌, Bool, true, false, Option, Some, None}
use Rattle.std.specs.Option.{option_map}
use Rattle.std.specs.FinSet as set
use Rattle.std.specs.FinSet.{FinSet}
use Rattle.std.proofs.Common.{sym, refl, ◌∙◌, ap, subst, arith, inl, inr}
use Rattle.std.proofs.lemmas.Bool.{true≢false, false≢true, eqb-true, and_parts}
use Rattle.corten_base.specs.declared.permissions.Perm.{Perm}
use Rattle.corten_base.specs.declared.calls.Backing.{Backing}
use Rattle.corten_base.specs.declared.calls.Backing.TheVariants as backing
use Rattle.page_map.specs.declared.cell.Cell.{Cell as PageCell}
use Rattle.page_map.specs.declared.cell.Cell.TheVariants as page
use Rattle.page_map.specs.Cell.{backed, goes_on, with_perm, index_of}
use Rattle.page_map.specs.State.{State, levels, cell_at}
use Rattle.row_cells.specs.declared.Cell.{Cell}
use Rattle.row_cells.specs.declared.Cell.TheVariants.{Invalid, Table, Anon, File, Mapped, Swapped}
use Rattle.table_place.specs.declared.Place.{Place}
use Rattle.table_place.specs.Place.{has_page, span_first, span_count, place_cmp}
use Rattle.table_place.specs.Range.{within}
use Rattle.table_place.proofs.Entries.{page_parts, page_in_span}
use Rattle.table_place.proofs.Spans.{span_pos}
use Rattle.table_place.proofs.Tables.{in_range, to_range}
use Rattle.machine_plan.specs.Agrees.{IsNoTable, EachPage, Shows}
use Rattle.machine_plan.specs.HeldRows.{is_table}
use Rattle.cursor_detach.specs.Left.{came_from, drawn_cell}
use Rattle.cursor_apply.specs.declared.becoming.Making.{Making}
use Rattle.cursor_apply.specs.declared.becoming.Making.TheVariants.{Back, Clear, Permit, GiveBack}
use Rattle.cursor_apply.specs.declared.becoming.RangeChange.{RangeChange}
use Rattle.cursor_apply.specs.Changing.{mark_from, permitted, cell_made, page_made, IsNear, IsNearIn, IsNearAll}
use Rattle.cursor_apply.specs.Changed.{IsChange, IsLow, LiesIn}

-- what is no link stands above no table
pub no_table_there : (st : State) (q : Place) (cell : Cell) → is_table cell ≡ false → Shows st q cell → IsNoTable st q
no_table_there st q Invalid none shows = shows.0
no_table_there st q Table none shows = absurd (true≢false none)
no_table_there st q (Anon perm) none shows = shows.0
no_table_there st q (File perm file index) none shows = shows.0
no_table_there st q (Mapped perm origin frame) none shows = shows.0
no_table_there st q (Swapped perm origin slot) none shows = shows.0

module _ (st now : State) (q : Place) (same_tables : now.tables ≡ st.tables) where
  still_none : IsNoTable st q → IsNoTable now q
  still_none none = ap (λ (t : FinSet place_cmp). set.contains t q) same_tables ∙ none

  pub shows_same : (cell : Cell) → (is_table cell ≡ false → (s p : ℕ) → has_page q s p ≡ true → cell_at now s p ≡ cell_at st s p) → Shows st q cell → Shows now q cell
  shows_same Table same shows = ap (λ (t : FinSet place_cmp). set.contains t q) same_tables ∙ shows
  shows_same Invalid same shows = (still_none shows.0, λ s p has. same refl s p has ∙ shows.1 s p has)
  shows_same (Anon perm) same shows = (still_none shows.0, λ s p has. same refl s p has ∙ shows.1 s p has)
  shows_same (File perm file index) same shows = (still_none shows.0, λ s p has. same refl s p has ∙ shows.1 s p has, shows.2)
  shows_same (Mapped perm origin frame) same shows = (still_none shows.0, shows.1, λ s p has. same refl s p has ∙ shows.2 s p has)
  shows_same (Swapped perm origin slot) same shows = (still_none shows.0, shows.1, λ s p has. same refl s p has ∙ shows.2 s p has)

-- the pages of a span
pub in_span : (q : Place) (s p : ℕ) → q.level < 6 → has_page q s p ≡ true → (q.space ≡ s) × (span_first q ≤ p) × (p < span_first q + span_count q)
in_span q s p low has = let r = in_range (span_first q) (span_count q) p (page_in_span q s p low has) in ((page_parts q s p low has).0, r.0, r.1)

module _ (change : RangeChange) (space : ℕ) (st now : State) (is : IsChange change space st now) (q : Place) (low : q.level < 6) (of_space : q.space ≡ space) (lies : LiesIn q change.first change.count) where
  abbrev first : ℕ
  first = change.first

  abbrev behind : ℕ
  behind = span_first q - first

  -- each page of the span is changed
  changed : (s p : ℕ) → has_page q s p ≡ true → (cell : Option PageCell) → cell_at st s p ≡ cell → cell_at now s p ≡ page_made change.making (p - first) cell
  changed s p has cell e =
      let at = in_span q s p low has in
      let same : space ≡ s = sym of_space ∙ at.0 in
      subst (λ n. cell_at now n p ≡ page_made change.making (p - first) cell) same
      (is.inside p (to_range first change.count p (let a = at.1 in let l = lies.0 in omega arith) (let a = at.2 in let l = lies.1 in omega arith))
      ∙ ap (page_made change.making (p - first)) (subst (λ n. cell_at st n p ≡ cell) (sym same) e))

  none_now : IsNoTable st q → IsNoTable now q
  none_now none = ap (λ (t : FinSet place_cmp). set.contains t q) is.same_tables ∙ none

  -- the last page of the span is not too far behind
  last_near : (index : ℕ) → ((n : ℕ) → n < change.count → index + n < 2 ^ 64) → index + behind + span_count q ≤ 2 ^ 64
  last_near index each =
      let some = span_pos q.level in
      let end = each (behind + (span_count q - 1)) (let l = lies.0 in let h = lies.1 in omega arith) in
      omega arith

  one_page : q.level ≡ 0 → span_count q ≡ 1
  one_page e = ap (λ k. 512 ^ k) e

  -- ---- each of the four changes

  backs : (perm : Perm) (b : Backing) (cell : Cell) → change.making ≡ Back perm b → is_table cell ≡ false → Shows st q cell → Shows now q (mark_from b perm behind)
  backs perm backing.Zero cell e none shows =
      (none_now (no_table_there st q cell none shows), λ s p has. changed s p has (cell_at st s p) refl ∙ ap (λ m. page_made m (p - first) (cell_at st s p)) e)
  backs perm (backing.File file index) cell e none shows = (
    none_now (no_table_there st q cell none shows),
    λ s p has.
        let at = in_span q s p low has in
        let same : index + (p - first) ≡ index + behind + (p - span_first q) = (let a = at.1 in let l = lies.0 in omega arith) in
        changed s p has (cell_at st s p) refl ∙ (ap (λ m. page_made m (p - first) (cell_at st s p)) e ∙ ap (λ n. Some (page.File perm file n)) same),
    last_near index (λ n less. subst (λ m. IsNearIn m n) e (is.near n less)),
  )

  clears : (cell : Cell) → change.making ≡ Clear → is_table cell ≡ false → Shows st q cell → Shows now q Invalid
  clears cell e none shows =
      (none_now (no_table_there st q cell none shows), λ s p has. changed s p has (cell_at st s p) refl ∙ ap (λ m. page_made m (p - first) (cell_at st s p)) e)

  permits : (perm : Perm) (cell : Cell) → change.making ≡ Permit perm → is_table cell ≡ false → Shows st q cell → Shows now q (permitted perm cell)
  permits perm Invalid e none shows = (none_now shows.0, λ s p has. changed s p has None (shows.1 s p has) ∙ ap (λ m. page_made m (p - first) None) e)
  permits perm Table e none shows = absurd (true≢false none)
  permits perm (Anon old) e none shows = (none_now shows.0, λ s p has. changed s p has (Some (page.Anon old)) (shows.1 s p has) ∙ ap (λ m. page_made m (p - first) (Some (page.Anon old))) e)
  permits perm (File old file index) e none shows = (
    none_now shows.0,
    λ s p has. let c : PageCell = page.File old file (index + (p - span_first q)) in changed s p has (Some c) (shows.1 s p has) ∙ ap (λ m. page_made m (p - first) (Some c)) e,
    shows.2,
  )
  permits perm (Mapped old origin frame) e none shows = (
    none_now shows.0,
    shows.1,
    λ s p has. let c : PageCell = page.Mapped old origin frame.number frame.body.bytes in changed s p has (Some c) (shows.2 s p has) ∙ ap (λ m. page_made m (p - first) (Some c)) e,
  )
  permits perm (Swapped old origin slot) e none shows = (
    none_now shows.0,
    shows.1,
    λ s p has. let c : PageCell = page.Swapped old origin slot.number slot.body.bytes in changed s p has (Some c) (shows.2 s p has) ∙ ap (λ m. page_made m (p - first) (Some c)) e,
  )

  -- what a page with a frame or a slot came from
  returns : (old : Perm) (origin : Backing) → q.level ≡ 0 → IsNoTable st q → index_of origin < 2 ^ 64 → ((s p : ℕ) → has_page q s p ≡ true → cell_at now s p ≡ Some (backed origin old 0)) → Shows now q (came_from origin old)
  returns old backing.Zero e none small each = (none_now none, each)
  returns old (backing.File file index) e none small each = (
    none_now none,
    λ s p has.
        let at = in_span q s p low has in
        let one = one_page e in
        let same : index + 0 ≡ index + (p - span_first q) = (let a = at.1 in let h = at.2 in omega arith) in
        each s p has ∙ ap (λ n. Some (page.File old file n)) same,
    let one = one_page e in omega arith,
  )

  gives : (cell : Cell) → change.making ≡ GiveBack → is_table cell ≡ false → IsLow cell → Shows st q cell → Shows now q (drawn_cell cell)
  gives Invalid e none small shows = (none_now shows.0, λ s p has. changed s p has None (shows.1 s p has) ∙ ap (λ m. page_made m (p - first) None) e)
  gives Table e none small shows = absurd (true≢false none)
  gives (Anon old) e none small shows = (none_now shows.0, λ s p has. changed s p has (Some (page.Anon old)) (shows.1 s p has) ∙ ap (λ m. page_made m (p - first) (Some (page.Anon old))) e)
  gives (File old file index) e none small shows = (
    none_now shows.0,
    λ s p has.
        let n : ℕ = index + (p - span_first q) in
        let same : n + 0 ≡ n = plain n in
        changed s p has (Some (page.File old file n)) (shows.1 s p has) ∙ (ap (λ m. page_made m (p - first) (Some (page.File old file n))) e ∙ ap (λ k. Some (page.File old file k)) same),
    shows.2,
  )
    where
      plain : (n : ℕ) → n + 0 ≡ n
      plain n = omega arith
  gives (Mapped old origin frame) e none small shows = returns old origin shows.1 shows.0 small
      (λ s p has. let c : PageCell = page.Mapped old origin frame.number frame.body.bytes in changed s p has (Some c) (shows.2 s p has) ∙ ap (λ m. page_made m (p - first) (Some c)) e)
  gives (Swapped old origin slot) e none small shows = returns old origin shows.1 shows.0 small
      (λ s p has. let c : PageCell = page.Swapped old origin slot.number slot.body.bytes in changed s p has (Some c) (shows.2 s p has) ∙ ap (λ m. page_made m (p - first) (Some c)) e)

  pub shows_made : (cell : Cell) → is_table cell ≡ false → IsLow cell → Shows st q cell → Shows now q (cell_made change.making behind cell)
  shows_made cell none small shows = go change.making refl
    where
      go : (m : Making) → change.making ≡ m → Shows now q (cell_made m behind cell)
      go (Back perm b) e = backs perm b cell e none shows
      go Clear e = clears cell e none shows
      go (Permit perm) e = permits perm cell e none shows
      go GiveBack e = gives cell e none small shows
